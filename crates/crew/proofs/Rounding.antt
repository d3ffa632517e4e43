-- A round, call by call.
use Rattle.std.proofs.Common.{◌≡◌, ◌≢◌, ℕ, inl, inr, List, [], length, refl, sym, ap, ◌∙◌, subst, Option, Some, None}
use Rattle.std.specs.Prelude.{slice_get, map, option_map}
use Rattle.std.proofs.lemmas.Option.{same_Some, none-some, slice_get-map}
use Rattle.surf_kinds.specs.declared.event.Key.{Key}
use Rattle.surf_kinds.specs.Keys.{is_before, ◌is_below◌, ◌is_upto◌}
use Rattle.surf_kinds.proofs.Order.{le_le, key_cases, upto_both}
use Rattle.warp_core.specs.World.{World, IsWorld, end_key}
use Rattle.warp_core.specs.Cores.{Core, IsConsistent}
use Rattle.region_run.specs.declared.region.Region.{Region}
use Rattle.region_run.specs.declared.totals.Turn.{Turn}
use Rattle.region_run.specs.Sides.{raised}
use Rattle.crew.specs.Crews.{CrewView, world_in, core_in, rest_of, turns_of}
use Rattle.crew.specs.Rounds.{IsWhole, HaveWorked}

-- the horizon of a crew that isn't finished is below the end
pub before_end : (w : World) (c : Core) → IsWorld w → IsConsistent w c → c.horizon ≢ end_key w → c.horizon is_below end_key w
before_end w c laws good n =
    elim (key_cases c.horizon (end_key w)) [
      | inl p ↦ p
      | inr q ↦
          let s = good.sound (w.owner 0) (laws.owned 0) in
          absurd (n (upto_both c.horizon (end_key w) (le_le c.horizon (c.part (w.owner 0)).clock (end_key w) s.low s.high) q))
    ]

-- what stays of a crew through the calls before the commit
pub front_of : (a b c d : CrewView) → rest_of b ≡ rest_of a → c ≡ record b { regions = c.regions } → rest_of d ≡ rest_of c → record d { regions = [] } ≡ record a { regions = [] }
front_of a b c d e f g = ap (λ (p : CrewView × List (ℕ × Turn)). p.0) g ∙ (ap (λ (v : CrewView). record v { regions = [] }) f ∙ ap (λ (p : CrewView × List (ℕ × Turn)). p.0) e)

-- a region with the same turns
turned_at : (rs rs' : List Region) → map turns_of rs ≡ map turns_of rs' → (i : ℕ) (r : Region) → slice_get rs i ≡ Some r → (t : Region) × (slice_get rs' i ≡ Some t) × (turns_of t ≡ turns_of r)
turned_at rs rs' same i r at = by (slice_get rs' i) refl
  where
    here : option_map turns_of (slice_get rs' i) ≡ Some (turns_of r)
    here = sym (slice_get-map turns_of rs' i) ∙ (ap (λ l. slice_get l i) (sym same) ∙ (slice_get-map turns_of rs i ∙ ap (λ o. option_map turns_of o) at))

    by : (o : Option Region) → slice_get rs' i ≡ o → (t : Region) × (slice_get rs' i ≡ Some t) × (turns_of t ≡ turns_of r)
    by None e = absurd (none-some (turns_of r) (ap (λ o. option_map turns_of o) (sym e) ∙ here))
    by (Some t) e = (t, e, same_Some (turns_of t) (turns_of r) (ap (λ o. option_map turns_of o) (sym e) ∙ here))

same_length : (rs rs' : List Region) → map turns_of rs ≡ map turns_of rs' → length rs ≡ length rs'
same_length rs rs' e = sym (Rattle.std.proofs.lemmas.List.length-map rs turns_of) ∙ (ap (λ (l : List (ℕ × Turn)). length l) e ∙ Rattle.std.proofs.lemmas.List.length-map rs' turns_of)

pub worked_between : (quota : ℕ) (rs0 rs1 rs2 rs3 : List Region) → map turns_of rs1 ≡ map turns_of rs0 → HaveWorked quota rs1 rs2 → map turns_of rs3 ≡ map turns_of rs2 → HaveWorked quota rs0 rs3
worked_between quota rs0 rs1 rs2 rs3 a h b =
    record {
      len = same_length rs3 rs2 b ∙ (h.len ∙ same_length rs1 rs0 a);
      turns = λ i r t at_r at_t.
          let s = turned_at rs0 rs1 (sym a) i r at_r in
          let u = turned_at rs3 rs2 b i t at_t in
          sym (ap (λ (p : ℕ × Turn). p.0) u.2) ∙ (h.turns i s.0 u.0 s.1 u.1 ∙ ap (λ (p : ℕ × Turn). raised p.0 1) s.2);
      whole = λ i t at_t. let u = turned_at rs3 rs2 b i t at_t in subst (λ (p : ℕ × Turn). IsWhole quota p.1) u.2 (h.whole i u.0 u.1);
    }
