-- The refusals of `compile` and `compact`.
use Rattle.std.proofs.Common.{rules, ◌≡◌, ℕ, ◌<◌, ◌^◌, Bool, true, false, List, length, Option, Ok, Err, Result, refl, sym, ap, ◌∙◌, subst, arith, if◌then◌else◌}
use Rattle.std.specs.Prelude.{nat_lt, ◌==◌, IfOk}
use Rattle.std.proofs.lemmas.Bool.Decides.{nat_tests}
use Rattle.circuit_text.specs.Circuits.{NetList}
use Rattle.circuit_text.specs.Values.{input_count}
use Rattle.manifest_read.specs.declared.manifest.Manifest.{Manifest}
use Rattle.crn_compile.specs.Compiled.{compiled_manifest}
use Rattle.track_layout.specs.Tracks.{compact_table}
use Rattle.track_layout.specs.Turns.{tracks_of}
use Rattle.track_layout.specs.Compact.{IsCompact}
use Rattle.surface_top.specs.declared.answers.LayoutKind.{LayoutKind}
use Rattle.surface_top.specs.declared.ending.Ending.TheVariants as ending
use Rattle.surface_top.specs.Answer.{Answer, TooManySites, sites_on, compile_answer}
use Rattle.surface_top.specs.Ending.{Answered}
use Rattle.surf_outside.proofs.LawLemmas.{wrote_nothing}

choose : (b d : Bool) (x y : Answer) → b ≡ d → (if b then x else y) ≡ (if d then x else y)
choose b d x y h = ap (λ t. if t then x else y) h

many_sites : (kind : LayoutKind) (word : List ℕ) (c : NetList) (sites : ℕ) → length word ≡ input_count c.nets → sites ≡ sites_on kind c → 2 ^ 20 < sites → TooManySites sites ≡ compile_answer kind word c
many_sites kind word c sites e s many =
    let test : (length word == input_count c.nets) ≡ true = grind (arith, nat_tests) in
    let over : nat_lt (2 ^ 20) (sites_on kind c) ≡ true = grind (arith, nat_tests) in
    sym (choose (length word == input_count c.nets) true _ _ test ∙ (choose (nat_lt (2 ^ 20) (sites_on kind c)) true _ _ over ∙ ap (λ n. TooManySites n) (sym s)))

-- the layout is too large
pub sites_refused : (kind : LayoutKind) (word : List ℕ) (c : NetList) (sites : ℕ) (old : Option (List ℕ)) (f n : ℕ) → length word ≡ input_count c.nets → sites ≡ sites_on kind c → 2 ^ 20 < sites → Answered (compile_answer kind word c) (ending.TooManySites sites) old old f n
sites_refused kind word c sites old f n e s many =
    subst (λ x. Answered x (ending.TooManySites sites) old old f n) (many_sites kind word c sites e s many)
    (record { is_of = refl; gains = (wrote_nothing old 0).gained; write = search rules; read = search rules })

-- what a circuit is compiled to on its compact layout
pub compact_exact : {E : Type 0} (c : NetList) (inputs : List Bool) (r : Result Manifest E) → IfOk r (IsCompact c inputs) → IfOk r (λ m. m ≡ compiled_manifest c inputs (compact_table (tracks_of c)))
compact_exact c inputs (Ok m) is = is.exact
compact_exact c inputs (Err e) is = tt
