-- An ensemble, written line by line.
use Rattle.std.proofs.Common.{rules, ◌≡◌, ℕ, ◌+◌, ◌<◌, ◌≤◌, ◌^◌, List, [], ◌∷◌, ◌++◌, length, take, drop, get_or, Option, Some, None, refl, sym, ap, ◌∙◌, subst, take_all}
use Rattle.std.specs.Prelude.{Result, Ok, Err, OnOk, IfSome, unwrap_or, ◌≢◌}
use Rattle.std.specs.List.{flat_map}
use Rattle.ensemble.proofs.LawLemmas.{texts-more, texts-within}
use Rattle.surface_words.specs.Reading.{IsEnsembleInRange}
use Rattle.manifest_read.specs.declared.manifest.Manifest.{Manifest}
use Rattle.manifest_read.specs.Sound.{IsSound}
use Rattle.ensemble.specs.declared.outcome.Outcome.{Outcome}
use Rattle.ensemble.specs.Outcomes.{AreAllowed}
use Rattle.ensemble.specs.Texts.{total_text, totals_text, outcome_text, ensemble_text}
use Rattle.run_writer.specs.declared.pages.Stop.{Stop}
use Rattle.run_writer.specs.declared.pages.Stop.TheVariants as stops
use Rattle.surface_top.specs.Answer.{Text, settings_of}
use Rattle.surface_top.specs.Ending.{Answered, write_ending}
use Rattle.run_writer.specs.Pages.{Page, Wrote, Stopped, Puts}
use Rattle.run_writer.proofs.LawLemmas.{stopped_prefix}
use Rattle.surface_top.proofs.RunEnds.{behind_some}
use Rattle.run_writer.proofs.LawLemmas.{wrote_more, wrote_all, stopped_after, stopped_longer}

-- the texts of items, one after the other
module _ {X : Type 0} (text : X → List ℕ) (xs : List X) (i : ℕ) where
  pub items_step : (x : X) (a b c : Page) → x ≡ get_or xs i x → i < length xs → Wrote a b (flat_map text (take i xs)) → Wrote b c (text x) → Wrote a c (flat_map text (take (i + 1) xs))
  items_step x a b c is lt p q =
      subst (Wrote a c) (ap (λ y. flat_map text (take i xs) ++ text y) is ∙ sym (texts-more text xs i x lt)) (wrote_more a b c (flat_map text (take i xs)) (text x) p q)

  pub items_stop : (x : X) (a b c : Page) (stop : Stop) → x ≡ get_or xs i x → i < length xs → Wrote a b (flat_map text (take i xs)) → Stopped b c (text x) stop → Stopped a c (flat_map text xs) stop
  items_stop x a b c stop is lt p q =
      let before = flat_map text (take i xs) in
      let after = flat_map text (drop (i + 1) xs) in
      subst (λ t. Stopped a c t stop) (ap (λ y. (before ++ text y) ++ after) is ∙ texts-within text xs i x lt)
      (stopped_longer a c (before ++ text x) after stop (stopped_after a b c before (text x) stop p q))

  pub items_all : (a b : Page) → length xs ≤ i → Wrote a b (flat_map text (take i xs)) → Wrote a b (flat_map text xs)
  items_all a b h p = subst (λ ys. Wrote a b (flat_map text ys)) (take_all i xs h) p

-- the text of an ensemble has a line
total_some : (os : List Outcome) (rest : List ℕ) → total_text os ++ rest ≢ []
unfolding total_text
total_some os rest = λ e. cc

ensemble_some : (names : List (List ℕ)) (os : List Outcome) → ensemble_text names os ≢ []
ensemble_some names os = behind_some (flat_map (outcome_text names) os) (totals_text names os) (total_some os _)

-- what was written of a text that is all of an answer
text_ends : {T : Type 0} (text : List ℕ) (a b : Page) (r : Result T Stop) → text ≢ [] → a.pending ≡ [] → Puts a b text r → OnOk r (b.pending ≡ []) → Answered (Text text) (write_ending r) a.written b.written a.faults b.faults
text_ends text a b (Ok v) some none p sent = record { is_of = (text, refl); gains = wrote_all a b text p none sent; write = search rules; read = search rules }
text_ends text a b (Err stops.Limit) some none p sent = absurd p.cause
text_ends text a b (Err stops.Write) some none p sent = record { is_of = some; gains = stopped_prefix a b text stops.Write none p; write = λ _. p.cause; read = search rules }
text_ends text a b (Err stops.Memory) some none p sent = record { is_of = tt; gains = stopped_prefix a b text stops.Memory none p; write = search rules; read = search rules }

pub ensemble_ends : {T : Type 0} (names : List (List ℕ)) (os : List Outcome) (a b : Page) (r : Result T Stop) → a.pending ≡ [] → Puts a b (ensemble_text names os) r → OnOk r (b.pending ≡ [])
    → Answered (Text (ensemble_text names os)) (write_ending r) a.written b.written a.faults b.faults
ensemble_ends names os a b r = text_ends (ensemble_text names os) a b r (ensemble_some names os)

-- what the words give is allowed
until_allowed : (until : Option ℕ) (own : ℕ) → IfSome until (λ ticks. ticks ≤ 10 ^ 15) → own ≤ 10 ^ 15 → unwrap_or until own ≤ 10 ^ 15
until_allowed None own h d = d
until_allowed (Some ticks) own h d = h

pub settings_allowed : (workers seeds first : ℕ) (until : Option ℕ) (limit : ℕ) (m : Manifest) → IsEnsembleInRange workers seeds until limit → IsSound m → AreAllowed (settings_of workers seeds first until limit m)
settings_allowed workers seeds first until limit m range sound = record {
  some = range.seeds_at_least;
  seeds = range.seeds_at_most;
  until = until_allowed until m.until range.until_at_most sound.until;
  limit = range.limit_at_most;
  worker = range.workers_at_least;
  workers = range.workers_at_most;
}
