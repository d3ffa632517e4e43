use Rattle.std.proofs.Common.{◌≡◌, ℕ, ◌∙◌, ◌<◌, ◌≤◌, arith, false, true, refl, sym, ap, subst, length, set, slice_index_or, get_or-set_same, get_or-set_other}
use Rattle.std.proofs.lemmas.List.{get_or_default, length-set}
use Rattle.event_queue.specs.declared.entry.Entry.{Entry}
use Rattle.event_queue.specs.Tournament.{IsFirstOf, IsTournamentBut, entry_at, nothing, parent, precedes}
use Rattle.event_queue.proofs.Firsts.{first_kept, first_new, first_found, in_order, inner_written}
use Rattle.event_queue.proofs.tournament.rise.Goals as goal
use Rattle.event_queue.proofs.tournament.rise.Goals.{then-not-is_before+else-over-old, else-not-is_before}

pub returns-then-over-old-clause-ordered : goal.returns-then-over-old-clause-ordered
returns-then-over-old-clause-ordered c =
    let inv = c.loop-at.invariant in
    let nodes = c.loop-at.nodes in
    let at = c.loop-at.at in
    let up = parent at in
    let unset : Entry = record { time = 0; offset = 0; channel = 0 } in
    let is : slice_index_or nodes up unset ≡ entry_at nodes up = get_or_default nodes up unset nothing (omega (arith, inv.long, inv.within, inv.root)) in
    let not : precedes c.loop-at.new (entry_at nodes up) ≡ false = ap (λ x. precedes c.loop-at.new x) (sym is) ∙ sym c.is_before.ensures ∙ c.if-not-is_before.true in
    let other : (entry_at nodes up).offset ≡ c.loop-at.old.offset → ⊥ = λ z. c.if-over-old.true (ap (λ (x : Entry). x.offset) is ∙ z) in
    in_order nodes (parent (length c.args.nodes.now)) at c.loop-at.old inv.ordered (first_kept nodes at c.loop-at.old c.loop-at.new (inv.ordered.over c.loop-at-test.true) inv.written not other)

pub loop-at-preserved : goal.loop-at-preserved
loop-at-preserved c =
    let inv = c.loop-at.invariant in
    let nodes = c.loop-at.nodes in
    let at = c.loop-at.at in
    let up = parent at in
    let e = parent (length c.args.nodes.now) in
    let v = c.if-not-is_before.new in
    let ys = set nodes up v in
    let unset : Entry = record { time = 0; offset = 0; channel = 0 } in
    let inside : up < length nodes = omega (arith, inv.long, inv.within, inv.root) in
    let inner : up < e = omega (arith, inv.within, c.requires.full) in
    let root : 6 ≤ up = omega (arith, c.loop-at-test.true) in
    let apart : (j : ℕ) → parent j ≡ up → j ≡ up → ⊥ = λ j pj z. omega (arith, pj, z, root) in
    let is : slice_index_or nodes up unset ≡ entry_at nodes up = get_or_default nodes up unset nothing inside in
    let here : entry_at ys up ≡ v = get_or-set_same nodes up v nothing inside in
    let others : (j : ℕ) → (j ≡ up → ⊥) → entry_at ys j ≡ entry_at nodes j = λ j ne. get_or-set_other nodes up j v nothing ne in
    let first : IsFirstOf ys up = elim c.if-not-is_before.branch [
      | then-not-is_before+else-over-old w ↦
          let child = w.first_of_eight.result in
          let of = w.first_of_eight.ensures in
          let found : v ≡ entry_at nodes child = w.new-is ∙ get_or_default nodes child unset nothing (omega (arith, of.to, inner, inv.long, c.requires.full, root)) in
          first_found nodes ys up child (omega (arith, of.from, of.to, root))
          (λ j pj. of.first j (omega (arith, pj, root)) (omega (arith, pj, root)))
          (record { here = here ∙ found; others = others }) apart
      | else-not-is_before w ↦
          let before : precedes c.loop-at.new (entry_at nodes up) ≡ true = ap (λ x. precedes c.loop-at.new x) (sym is) ∙ sym c.is_before.ensures ∙ w.if-not-is_before.false in
          first_new nodes ys at c.loop-at.old c.loop-at.new (inv.ordered.over c.loop-at-test.true) inv.written before
          (record { here = here ∙ w.new-is; others = others }) apart
    ] in
    let next = inner_written nodes ys up v (record { here = here; others = others }) e at c.loop-at.old inv.ordered refl inner first in
    record {
      long = length-set nodes up v ∙ inv.long;
      root = root;
      within = omega (arith, inside, inv.long);
      written = here;
      ordered = subst (λ o. IsTournamentBut ys e up o) (sym is) next;
      leaves = λ j below. others j (λ z. omega (arith, z, below, inner)) ∙ inv.leaves j below;
    }
