use Rattle.std.proofs.Common.{◌≡◌, ◌∷◌, [], ◌++◌, List, ℕ, length, refl, ap, ◌∙◌, append_assoc}
use Rattle.surf_outside.specs.Parts.{parts}
use Rattle.watching.specs.Lines.{count_text, head_text, sample_line}
use Rattle.watching.proofs.Texting.{ok_grown}
use Rattle.watching.proofs.Publishing.{on_ok}
use Rattle.watching.proofs.lines.put_sample.Goals as goal

pub returns : goal.returns
unfolding sample_line
returns c =
    let head = head_text c.args.viewer c.args.number c.args.sample.now in
    let counts = parts (count_text c.args.names.now c.args.sample.now.counts) (length c.args.names.now) in
    let one : c.extend_from_slice.new.self.items ≡ c.args.text.now.items ++ head = c.in_ok-extend_from_slice.ensures.items ∙ ap (λ (t : List ℕ). c.args.text.now.items ++ t) (c.as_bytes.ensures.value ∙ c.in_ok-head.ensures) in
    let two : c.put_counts.new.text.items ≡ c.extend_from_slice.new.self.items ++ counts =
    c.in_ok-put_counts.ensures ∙ ap (λ (cs : List ℕ). c.extend_from_slice.new.self.items ++ parts (count_text c.args.names.now cs) (length c.args.names.now)) c.as_slice.ensures in
    on_ok c.extend_from_slice-2.result
    (λ three. three
    ∙ (ap (λ (t : List ℕ). t ++ 10 ∷ []) (two ∙ (ap (λ (t : List ℕ). t ++ counts) one ∙ append_assoc c.args.text.now.items head counts))
    ∙ append_assoc c.args.text.now.items (head ++ counts) (10 ∷ [])))
    (ok_grown c.extend_from_slice-2.result c.put_counts.new.text.items c.extend_from_slice-2.new.self.items (10 ∷ []) (10 ∷ []) c.extend_from_slice-2.ensures.items refl)
