-- Runs, one after the other, and their counts.
use Rattle.std.proofs.Common.{◌≡◌, ℕ, ◌+◌, List, [], ◌∷◌, ◌++◌, refl, sym, ap, ◌∙◌, subst, arith, append-nil, append_assoc}
use Rattle.surf_kinds.specs.declared.event.Key.{Key}
use Rattle.surf_kinds.specs.declared.site.SiteState.{SiteState}
use Rattle.lattice.specs.Surface.{first_surface}
use Rattle.plan.specs.Network.{Network}
use Rattle.regions.specs.Bands.{Bands}
use Rattle.warp_core.specs.World.{World}
use Rattle.warp_core.specs.Parts.{Part, PartStep, part_after, part_run, run_puts, run_takes, step_puts, step_takes, MayRun, IsRun}
use Rattle.warp_core.proofs.LawLemmas.{is_world, runs}
use Rattle.region_run.specs.declared.region.Region.{Region}
use Rattle.region_run.specs.Regions.{Base, world_at, part_of, line_to, IsRegion}
use Rattle.region_run.specs.Runs.{MakesStep, MakesRun}
use Rattle.region_run.specs.Counts.{added_in, taken_in, cut_in}

run_append : (w : World) (f : Key) (i : ℕ) (p : Part) (xs ys : List PartStep) → part_run w f i p (xs ++ ys) ≡ part_run w f i (part_run w f i p xs) ys
run_append w f i p [] ys = refl
run_append w f i p (x ∷ xs) ys = run_append w f i (part_after w f i p x) xs ys

puts_append : (w : World) (f : Key) (i : ℕ) (p : Part) (xs ys : List PartStep) (l : ℕ) → run_puts w f i p (xs ++ ys) l ≡ run_puts w f i p xs l ++ run_puts w f i (part_run w f i p xs) ys l
puts_append w f i p [] ys l = refl
puts_append w f i p (x ∷ xs) ys l =
    ap (λ t. step_puts w f i p x l ++ t) (puts_append w f i (part_after w f i p x) xs ys l)
    ∙ sym (append_assoc (step_puts w f i p x l) (run_puts w f i (part_after w f i p x) xs l) (run_puts w f i (part_run w f i (part_after w f i p x) xs) ys l))

pub takes_append : (xs ys : List PartStep) (l : ℕ) → run_takes (xs ++ ys) l ≡ run_takes xs l ++ run_takes ys l
takes_append [] ys l = refl
takes_append (x ∷ xs) ys l = ap (λ t. step_takes x l ++ t) (takes_append xs ys l) ∙ sym (append_assoc (step_takes x l) (run_takes xs l) (run_takes ys l))

may_append : (w : World) (base : List SiteState) (f : Key) (i : ℕ) (p : Part) (xs ys : List PartStep) → MayRun w base f i p xs → MayRun w base f i (part_run w f i p xs) ys → MayRun w base f i p (xs ++ ys)
may_append w base f i p [] ys a b = b
may_append w base f i p (x ∷ xs) ys a b = (a.0, may_append w base f i (part_after w f i p x) xs ys a.1 b)

-- a run of a region has the four facts
pub makes_run : (n : Network) (b : Bands) (until : ℕ) (x : Base) (r new : Region) (steps : List PartStep) → IsRegion n b until x r → new.id ≡ r.id → MayRun (world_at n b until x) x.surface.sites x.floor r.id (part_of r) steps
    → part_of new ≡ part_run (world_at n b until x) x.floor r.id (part_of r) steps → ((l : ℕ) → line_to new l ≡ line_to r l ++ run_puts (world_at n b until x) x.floor r.id (part_of r) steps l) → IsRegion n b until x new → MakesRun n b until x r steps new
makes_run n b until x r new steps g id may part puts good =
    let w = world_at n b until x in
    record {
      id = id;
      may = may;
      part = part;
      puts = puts;
      facts = subst (λ p. IsRun w x.surface.sites x.floor r.id (part_of r) p (run_takes steps) (run_puts w x.floor r.id (part_of r) steps)) (sym part)
          (runs w (is_world n b until (first_surface x.cells) g.cut g.lattice g.short) x.surface.sites x.floor r.id (part_of r) steps g.sound may);
      region = good;
    }

pub run_none : (n : Network) (b : Bands) (until : ℕ) (x : Base) (r : Region) → IsRegion n b until x r → MakesRun n b until x r [] r
run_none n b until x r g = makes_run n b until x r r [] g refl tt refl (λ l. sym (append-nil (line_to r l))) g

pub run_one : (n : Network) (b : Bands) (until : ℕ) (x : Base) (r new : Region) (step : PartStep) → IsRegion n b until x r → MakesStep n b until x r step new → MakesRun n b until x r (step ∷ []) new
run_one n b until x r new step g s =
    makes_run n b until x r new (step ∷ []) g s.id (s.may, tt) s.part
    (λ l. s.puts l ∙ ap (λ t. line_to r l ++ t) (sym (append-nil (step_puts (world_at n b until x) x.floor r.id (part_of r) step l)))) s.region

pub run_then : (n : Network) (b : Bands) (until : ℕ) (x : Base) (r mid new : Region) (xs ys : List PartStep) → IsRegion n b until x r → MakesRun n b until x r xs mid → MakesRun n b until x mid ys new → MakesRun n b until x r (xs ++ ys) new
run_then n b until x r mid new xs ys g s t =
    let w = world_at n b until x in
    makes_run n b until x r new (xs ++ ys) g (t.id ∙ s.id)
    (may_append w x.surface.sites x.floor r.id (part_of r) xs ys s.may (subst (λ p. MayRun w x.surface.sites x.floor r.id p ys) s.part (subst (λ i. MayRun w x.surface.sites x.floor i (part_of mid) ys) s.id t.may)))
    (t.part ∙ (ap (λ i. part_run w x.floor i (part_of mid) ys) s.id ∙ (ap (λ p. part_run w x.floor r.id p ys) s.part ∙ sym (run_append w x.floor r.id (part_of r) xs ys))))
    (λ l.
    t.puts l
    ∙ (ap (λ o. o ++ run_puts w x.floor mid.id (part_of mid) ys l) (s.puts l)
    ∙ (append_assoc (line_to r l) (run_puts w x.floor r.id (part_of r) xs l) (run_puts w x.floor mid.id (part_of mid) ys l)
    ∙ ap (λ o. line_to r l ++ o) (ap (λ o. run_puts w x.floor r.id (part_of r) xs l ++ o) (ap (λ i. run_puts w x.floor i (part_of mid) ys l) s.id ∙ ap (λ p. run_puts w x.floor r.id p ys l) s.part) ∙ sym (puts_append w x.floor r.id (part_of r) xs ys l)))))
    t.region

-- the counts

pub added_append : (xs ys : List PartStep) → added_in (xs ++ ys) ≡ added_in xs + added_in ys
added_append [] ys = omega arith
added_append (x ∷ xs) ys = omega (arith, added_append xs ys)

pub taken_append : (xs ys : List PartStep) → taken_in (xs ++ ys) ≡ taken_in xs + taken_in ys
taken_append [] ys = omega arith
taken_append (x ∷ xs) ys = omega (arith, taken_append xs ys)

pub cut_append : (w : World) (f : Key) (i : ℕ) (p : Part) (xs ys : List PartStep) → cut_in w f i p (xs ++ ys) ≡ cut_in w f i p xs + cut_in w f i (part_run w f i p xs) ys
cut_append w f i p [] ys = omega arith
cut_append w f i p (x ∷ xs) ys = omega (arith, cut_append w f i (part_after w f i p x) xs ys)
