-- A publisher that adds the change of the next event.
use Rattle.std.proofs.Common.{◌≡◌, ℕ, ◌+◌, ◌-◌, ◌*◌, ◌^◌, ◌<◌, true, List, [], ◌∷◌, ◌++◌, length, set, get_or, take, drop, Option, Some, None, refl, sym, ap, ◌∙◌, subst, arith, unwrap_or, append_assoc, All}
use Rattle.std.specs.Option.{option_map}
use Rattle.std.specs.Prelude.{slice_get, is_some, Result, Ok, Err, OnOk}
use Rattle.std.proofs.lemmas.Option.{none-some, same_Some}
use Rattle.std.proofs.lemmas.List.{length-map, map-set, length-set, get_or-map}
use Rattle.surf_kinds.specs.Channels.{rule_of_channel, way_of_channel}
use Rattle.surf_kinds.specs.declared.rule.Rule.{Rule}
use Rattle.surf_kinds.specs.declared.event.Event.{Event}
use Rattle.surf_kinds.specs.declared.site.SiteId.{SiteId}
use Rattle.surf_kinds.specs.declared.site.Sites.{Sites}
use Rattle.surf_kinds.specs.declared.site.SiteState.{SiteState}
use Rattle.surf_kinds.specs.declared.site.SpeciesId.{SpeciesId}
use Rattle.lattice.specs.Shape.{Shape}
use Rattle.lattice.specs.Places.{sites_of}
use Rattle.lattice.specs.Channels.{products}
use Rattle.lattice.specs.Surface.{after, after_all, first_product, second_product, first_product_of, second_product_of}
use Rattle.plan.specs.Network.{Network}
use Rattle.plan.specs.Products.{fits_place, products_of, LeavesWithin}
use Rattle.plan.specs.History.{due, AreNext}
use Rattle.plan.proofs.LawLemmas.{due_next, offer_fits}
use Rattle.trace_text.specs.Lines.{cells_of, counts_of}
use Rattle.frames.specs.declared.sample.Change.{Change}
use Rattle.frames.specs.declared.sample.Sample.{Sample}
use Rattle.frames.specs.Ends.{WriterView}
use Rattle.frames.specs.States.{MayFollow}
use Rattle.frames.specs.States.{after as state_of}
use Rattle.watching.specs.declared.publisher.Publisher.{Publisher}
use Rattle.watching.specs.Changes.{species_at, second_change, second_cells, change_of}
use Rattle.watching.specs.Published.{HasAdded, HasPublished}
use Rattle.watching.proofs.Counting.{counts-length}
use Rattle.watching.proofs.Following.{blank, first_new, second_new, cell_is, first_inside, second_inside, after_one, after_two, change_one, change_two, follows}
use Rattle.watching.proofs.States.{due_sites, all_append, changes_append, changes_length, next_append, next_front, long_after, below_after, state_is}

-- The products of the channel

first_to : (o : Option Rule) (way : ℕ) (to : SpeciesId × Option SpeciesId) → Some to ≡ option_map (products way) o → (s : SpeciesId) → first_product o way s ≡ to.0
first_to None way to h s = absurd (none-some to (sym h))
first_to (Some rule) way to h s = sym (ap (λ (t : SpeciesId × Option SpeciesId). t.0) (same_Some to (products way rule) h))

second_to : (o : Option Rule) (way : ℕ) (to : SpeciesId × Option SpeciesId) → Some to ≡ option_map (products way) o → (s : SpeciesId) → second_product o way s ≡ unwrap_or to.1 s
second_to None way to h s = absurd (none-some to (sym h))
second_to (Some rule) way to h s = sym (ap (λ (t : SpeciesId × Option SpeciesId). unwrap_or t.1 s) (same_Some to (products way rule) h))

module _ (l : Shape) (rules : List Rule) (sites : List SiteState) (cells : List SpeciesId) (e : Event) (long : length cells ≡ l.rows * l.cols) (same : cells ≡ cells_of sites) (p : Sites) (is : sites_of l e.place.0 ≡ Some p) (to : SpeciesId × Option SpeciesId) (from : Some to ≡ products_of rules e.channel) where
  sites_long : length sites ≡ l.rows * l.cols
  sites_long = sym (length-map sites (λ (s : SiteState). s.species)) ∙ (ap (λ (c : List SpeciesId). length c) (sym same) ∙ long)

  first_is : (s : SpeciesId) → first_product_of rules e s ≡ to.0
  first_is s = first_to (slice_get rules (rule_of_channel e.channel)) (way_of_channel e.channel) to from s

  second_is : (s : SpeciesId) → second_product_of rules e s ≡ unwrap_or to.1 s
  second_is s = second_to (slice_get rules (rule_of_channel e.channel)) (way_of_channel e.channel) to from s

  old_first : species_at cells p.first.0 ≡ (get_or sites p.first.0 blank).species
  old_first = ap (λ c. species_at c p.first.0) same ∙ cell_is sites p.first.0 (first_inside l rules sites e sites_long p is)

  pub alone_change : p.second ≡ None → (let c : Change = record { time = e.time; out1 = species_at cells p.first.0; in1 = to.0; second = None } in c) ≡ change_of l rules sites e
  alone_change none =
      (λ i. record { time = e.time; out1 = old_first i; in1 = sym (first_is (get_or sites p.first.0 blank).species) i; second = None }) ∙ sym (change_one l rules sites e sites_long p is none)

  pub alone_cells : p.second ≡ None → set cells p.first.0 to.0 ≡ cells_of (after l rules sites e)
  alone_cells none =
      (λ i. set (same i) p.first.0 (sym (first_is (get_or sites p.first.0 blank).species) i))
      ∙ (sym (map-set (λ (s : SiteState). s.species) sites p.first.0 (first_new rules e (get_or sites p.first.0 blank)))
      ∙ ap cells_of (sym (after_one l rules sites e sites_long p is none)))

  pub pair_change : (n : SiteId) (t : SpeciesId) → p.second ≡ Some n → to.1 ≡ Some t
      → (let c : Change = record { time = e.time; out1 = species_at cells p.first.0; in1 = to.0; second = Some (species_at (set cells p.first.0 to.0) n.0, t) } in c) ≡ change_of l rules sites e
  pair_change n t two pair =
      let inside = second_inside l rules sites e sites_long p is n two in
      let new : second_product_of rules e (get_or sites n.0 blank).species ≡ t = second_is (get_or sites n.0 blank).species ∙ ap (λ o. unwrap_or o (get_or sites n.0 blank).species) pair in
      let stays : species_at (set cells p.first.0 to.0) n.0 ≡ species_at cells n.0 =
      Rattle.std.proofs.lemmas.List.get_or-set_other cells p.first.0 n.0 to.0 (record { 0 = 0 }) (Rattle.lattice.proofs.LawLemmas.sites_differ l e.place.0 p n is two) in
      let old : species_at (set cells p.first.0 to.0) n.0 ≡ (get_or sites n.0 blank).species = stays ∙ (ap (λ c. species_at c n.0) same ∙ cell_is sites n.0 inside) in
      (λ i. record { time = e.time; out1 = old_first i; in1 = sym (first_is (get_or sites p.first.0 blank).species) i; second = Some (old i, sym new i) }) ∙ sym (change_two l rules sites e sites_long p is n two)

  pub pair_cells : (n : SiteId) (t : SpeciesId) → p.second ≡ Some n → to.1 ≡ Some t → set (set cells p.first.0 to.0) n.0 t ≡ cells_of (after l rules sites e)
  pair_cells n t two pair =
      let x = first_new rules e (get_or sites p.first.0 blank) in
      let y = second_new rules e (get_or sites n.0 blank) in
      let new : second_product_of rules e (get_or sites n.0 blank).species ≡ t = second_is (get_or sites n.0 blank).species ∙ ap (λ o. unwrap_or o (get_or sites n.0 blank).species) pair in
      (λ i. set (set (same i) p.first.0 (sym (first_is (get_or sites p.first.0 blank).species) i)) n.0 (sym new i))
      ∙ (ap (λ c. set c n.0 y.species) (sym (map-set (λ (s : SiteState). s.species) sites p.first.0 x))
      ∙ (sym (map-set (λ (s : SiteState). s.species) (set sites p.first.0 x) n.0 y) ∙ ap cells_of (sym (after_two l rules sites e sites_long p is n two))))

  pub happened : is_some to.1 ≡ is_some p.second
      → (let c : Change = record { time = e.time; out1 = species_at cells p.first.0; in1 = to.0; second = second_change (set cells p.first.0 to.0) p.second to.1 } in c ≡ change_of l rules sites e)
      × (second_cells (set cells p.first.0 to.0) p.second to.1 ≡ cells_of (after l rules sites e))
  happened fits = by p.second to.1 refl refl fits
    where
      by : (o : Option SiteId) (t : Option SpeciesId) → p.second ≡ o → to.1 ≡ t → is_some t ≡ is_some o
          → (let c : Change = record { time = e.time; out1 = species_at cells p.first.0; in1 = to.0; second = second_change (set cells p.first.0 to.0) o t } in c ≡ change_of l rules sites e)
          × (second_cells (set cells p.first.0 to.0) o t ≡ cells_of (after l rules sites e))
      by None None none k fits = (alone_change none, alone_cells none)
      by None (Some t) none k fits = absurd cc
      by (Some n) None two k fits = absurd cc
      by (Some n) (Some t) two k fits = (pair_change n t two k, pair_cells n t two k)

-- The next event

module _ (n : Network) (until : ℕ) (first : List SiteState) (es : List Event) (p : Publisher) (h : HasAdded n first es p) (e : Event) (next : AreNext n until first (es ++ e ∷ [])) where
  here : due n until (after_all n.lattice n.rules first es) ≡ Some e
  here = (next_append n until first es (e ∷ []) next).0

  pub fits : fits_place n e.place.0 e.channel ≡ true
  fits = offer_fits n (after_all n.lattice n.rules first es) e.place.0 e (due_next n until (after_all n.lattice n.rules first es) e here).0

  long_here : length (after_all n.lattice n.rules first es) ≡ n.lattice.rows * n.lattice.cols
  long_here = long_after n until (length p.writer.name.start) h.leaves first es h.long

  pub cells_long : length p.cells.items ≡ n.lattice.rows * n.lattice.cols
  cells_long = ap (λ (c : List SpeciesId). length c) h.cells ∙ (length-map (after_all n.lattice n.rules first es) (λ (s : SiteState). s.species) ∙ long_here)

  pub room : length es < 2 ^ 64 - 1 → length p.writer.added < 2 ^ 64 - 1
  room few = omega (arith, few, ap (λ (c : List Change). length c) h.added, changes_length n.lattice n.rules first es)

  counts_here : (state_of p.writer.name.start p.writer.added).counts ≡ counts_of (after_all n.lattice n.rules first es) (length p.writer.name.start)
  counts_here =
      (λ i. (state_of (h.start i) (h.added i)).counts)
      ∙ ap (λ (s : Sample). s.counts) (state_is n until (length p.writer.name.start) h.leaves first es h.long h.below (next_front n until first es (e ∷ []) next))

  pub may_follow : (c : Change) → c ≡ change_of n.lattice n.rules (after_all n.lattice n.rules first es) e → MayFollow (state_of p.writer.name.start p.writer.added) c
  may_follow c is =
      let s = due_sites n until (after_all n.lattice n.rules first es) e here in
      subst (MayFollow (state_of p.writer.name.start p.writer.added)) (sym is)
      (follows n.lattice n.rules (after_all n.lattice n.rules first es) e long_here s.0 s.1 (length p.writer.name.start) h.leaves (below_after n until (length p.writer.name.start) h.leaves first es h.long h.below (next_front n until first es (e ∷ []) next))
      (state_of p.writer.name.start p.writer.added) counts_here)

  pub added_more : (q : Publisher) (c : Change) → q.cells.items ≡ cells_of (after n.lattice n.rules (after_all n.lattice n.rules first es) e) → c ≡ change_of n.lattice n.rules (after_all n.lattice n.rules first es) e
      → q.writer ≡ record p.writer { added = p.writer.added ++ c ∷ [] } → HasAdded n first (es ++ e ∷ []) q
  added_more q c cells is writer =
      subst (λ (w : WriterView). HasAdded n first (es ++ e ∷ []) (record { writer = w; cells = q.cells })) (sym writer) (record {
        long = h.long;
        below = h.below;
        leaves = h.leaves;
        start = h.start;
        cells = cells ∙ ap cells_of (sym (all_append n.lattice n.rules first es (e ∷ [])));
        added = (λ i. h.added i ++ is i ∷ []) ∙ sym (changes_append n.lattice n.rules first es (e ∷ []));
      })

pub on_ok : {T E P Q : Type 0} (r : Result T E) → (P → Q) → OnOk r P → OnOk r Q
on_ok (Ok x) f p = f p
on_ok (Err e) f p = tt

-- one more of the next events is taken
pub next_taken : (n : Network) (until : ℕ) (first : List SiteState) (es events : List Event) (i : ℕ) (e : Event) → take (i + 1) events ≡ take i events ++ e ∷ [] → AreNext n until first (es ++ events) → AreNext n until first ((es ++ take i events) ++ e ∷ [])
next_taken n until first es events i e more next =
    let whole : es ++ events ≡ ((es ++ take i events) ++ e ∷ []) ++ drop (i + 1) events =
    ap (λ l. es ++ l) (sym (Rattle.std.proofs.lemmas.List.take-append-drop (i + 1) events))
    ∙ (ap (λ l. es ++ (l ++ drop (i + 1) events)) more
    ∙ (sym (append_assoc es (take i events ++ e ∷ []) (drop (i + 1) events)) ∙ ap (λ l. l ++ drop (i + 1) events) (sym (append_assoc es (take i events) (e ∷ []))))) in
    next_front n until first ((es ++ take i events) ++ e ∷ []) (drop (i + 1) events) (subst (AreNext n until first) whole next)

-- the second site of a place is one of the lattice
pub each_second : (l : Shape) (place : ℕ) (p : Sites) → sites_of l place ≡ Some p → (cells new : List SpeciesId) (i : ℕ) (s : SpeciesId) → length cells ≡ l.rows * l.cols → new ≡ set cells i s → Rattle.std.specs.Prelude.IfSome p.second (λ (n : SiteId). n.0 < length new)
each_second l place p is cells new i s long set_is = by p.second refl
  where
    by : (o : Option SiteId) → p.second ≡ o → Rattle.std.specs.Prelude.IfSome o (λ (n : SiteId). n.0 < length new)
    by None two = tt
    by (Some n) two = omega (arith, Rattle.lattice.proofs.LawLemmas.second_below l place p n is two, long, ap (λ (c : List SpeciesId). length c) set_is, length-set cells i s)

pub taken_few : (es events : List Event) (i : ℕ) → i < length events → length es + length events < 2 ^ 64 - 1 → length (es ++ take i events) < 2 ^ 64 - 1
taken_few es events i h few = omega (arith, Rattle.std.proofs.lemmas.List.length-append es (take i events), Rattle.std.proofs.lemmas.List.length-take i events, h, few)

-- nothing of a surface was published but its counts
pub opened : (n : Network) (sites : List SiteState) (kinds : ℕ) (p : Publisher) → length sites ≡ n.lattice.rows * n.lattice.cols → All (λ (s : SpeciesId). s.0 < kinds) (cells_of sites) → All (LeavesWithin kinds) n.rules → p.writer.name.start ≡ counts_of sites kinds
    → p.cells.items ≡ cells_of sites → p.writer.added ≡ [] → p.writer.published ≡ [] → HasPublished n sites [] p
opened n sites kinds p long below leaves start cells added published =
    let len : kinds ≡ length p.writer.name.start = sym (ap (λ (l : List ℕ). length l) start ∙ counts-length sites kinds) in
    record {
      added = record {
        long = long;
        below = subst (λ k. All (λ (s : SiteState). s.species.0 < k) sites) len
            (λ i d h.
            subst (λ (s : SpeciesId). s.0 < kinds) (get_or-map (λ (s : SiteState). s.species) sites i d d.species h)
            (below i d.species (omega (arith, h, length-map sites (λ (s : SiteState). s.species)))));
        leaves = subst (λ k. All (LeavesWithin k) n.rules) len leaves;
        start = start ∙ ap (counts_of sites) len;
        cells = cells;
        added = added;
      };
      published = published ∙ sym added;
    }
