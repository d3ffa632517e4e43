-- What a text gives is a netlist, and its circuit keeps its values.
use Rattle.std.proofs.Common.{◌≡◌, ℕ, ◌+◌, ◌<◌, ◌≤◌, Bool, true, false, cond, not, ◌==◌, List, [], ◌∷◌, length, map, get_or, Option, None, Some, Result, Ok, Err, refl, sym, ap, ◌∙◌, arith, subst, eqb-true}
use Rattle.std.specs.List.{flat_map, AllByRecursion, sum_by}
use Rattle.std.proofs.lemmas.Bool.{eqb-false}
use Rattle.std.proofs.lemmas.List.{length-map}
use Rattle.surf_text.specs.Lines.{lines_of}
use Rattle.species.specs.Texts.{is_in, index_of}
use Rattle.bench_read.specs.declared.fault.BenchKind.TheVariants.{Cycle, NoOutput}
use Rattle.bench_read.specs.declared.fault.BenchFault.{BenchFault}
use Rattle.bench_read.specs.Lines.{LineSort, sort_of}
use Rattle.bench_read.specs.Passes.{defines, puts_out, fault_at, first_pass, second_pass, third_pass}
use Rattle.bench_read.specs.Order.{Item, items_in, lines_from, order_of, first_unplaced}
use Rattle.bench_read.specs.Netlists.{Netlist, IsNetlist, netlist_of, unless, placed_netlist, netlist_by, netlist_in}
use Rattle.bench_read.proofs.Resolving.{items-count, items-within, outputs-within, ItemArity, item_nets, lines-formed, items-arity, nets-few, items-nets}
use Rattle.bench_read.proofs.Sound.{items-sound}

unless-parts : (o : Option BenchFault) (r : Result Netlist BenchFault) (n : Netlist) → unless o r ≡ Ok n → (o ≡ None) × (r ≡ Ok n)
unless-parts None r n h = (refl, h)
unless-parts (Some fault) r n h = absurd cc

some-output : (lines : List LineSort) → third_pass lines ≡ None → 1 ≤ length (flat_map puts_out lines)
some-output lines h = by (length (flat_map puts_out lines) == 0) refl h
  where
    by : (b : Bool) → (length (flat_map puts_out lines) == 0) ≡ b → cond b (Some (fault_at (length lines + 1) NoOutput)) None ≡ None → 1 ≤ length (flat_map puts_out lines)
    by true e g = absurd cc
    by false e g =
        let ne : length (flat_map puts_out lines) ≡ 0 → ⊥ = eqb-false (length (flat_map puts_out lines)) 0 e in
        omega (arith, ne)

-- what was read
abbrev got : Netlist → Result Netlist BenchFault → Netlist
got other (Ok n) = n
got other (Err fault) = other

placed-parts : (items : List Item) (lines outputs : List ℕ) (n : Netlist) → placed_netlist items lines outputs ≡ Ok n
    → (first_unplaced (length items) (order_of items) ≡ length items) × (netlist_of items (order_of items) outputs ≡ n)
placed-parts items lines outputs n h = by (first_unplaced (length items) (order_of items) == length items) refl h
  where
    by : (b : Bool) → (first_unplaced (length items) (order_of items) == length items) ≡ b
        → cond b (Ok (netlist_of items (order_of items) outputs)) (Err (fault_at (get_or lines (first_unplaced (length items) (order_of items)) 0) Cycle)) ≡ Ok n
        → (first_unplaced (length items) (order_of items) ≡ length items) × (netlist_of items (order_of items) outputs ≡ n)
    by true e g = (eqb-true (first_unplaced (length items) (order_of items)) (length items) e, ap (got n) g)
    by false e g = absurd cc

pub text-sound : (text : List ℕ) (n : Netlist) → netlist_in text ≡ Ok n → IsNetlist n
text-sound text n h =
    let lines = map sort_of (lines_of text) in
    let names = flat_map defines lines in
    let items = flat_map (items_in names) lines in
    let outputs = map (index_of names) (flat_map puts_out lines) in
    let a = unless-parts (first_pass 1 [] 0 lines) (unless (second_pass (is_in names) 1 lines) (unless (third_pass lines) (placed_netlist items (lines_from 1 lines) outputs))) n h in
    let b = unless-parts (second_pass (is_in names) 1 lines) (unless (third_pass lines) (placed_netlist items (lines_from 1 lines) outputs)) n a.1 in
    let c = unless-parts (third_pass lines) (placed_netlist items (lines_from 1 lines) outputs) n b.1 in
    let d = placed-parts items (lines_from 1 lines) outputs n c.1 in
    let count : length items ≡ length names = items-count names lines in
    subst IsNetlist d.1
    (items-sound items outputs (items-arity names lines (lines-formed (lines_of text)))
    (omega (arith, items-nets names lines, nets-few 1 0 [] lines (omega arith) a.0))
    (subst (λ k. AllByRecursion (λ y. y < k) outputs) (sym count) (outputs-within names 1 lines b.0))
    (omega (arith, length-map (flat_map puts_out lines) (index_of names), some-output lines c.0))
    d.0)
