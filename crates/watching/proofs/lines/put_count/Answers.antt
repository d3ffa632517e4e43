use Rattle.std.proofs.Common.{◌≡◌, ◌∷◌, [], ◌++◌, List, ℕ, sym, ap, ◌∙◌, slice_index, slice_index_or}
use Rattle.std.specs.Prelude.{decimal}
use Rattle.std.proofs.lemmas.Option.{get_or_from_slice_get}
use Rattle.watching.specs.Lines.{count_text}
use Rattle.watching.proofs.Texting.{ok_grown}
use Rattle.watching.proofs.lines.put_count.Goals as goal

pub returns : goal.returns
unfolding count_text
returns c =
    let name : slice_index_or c.args.names.now c.args.species [] ≡ c.name.result.now = get_or_from_slice_get c.args.names.now c.args.species c.name.result.now [] c.name.ensures in
    ok_grown c.extend_from_slice.result c.args.text.now.items c.extend_from_slice.new.self.items c.as_bytes.result.now (count_text c.args.names.now c.args.counts.now c.args.species) c.extend_from_slice.ensures.items
    (c.as_bytes.ensures.value ∙ (c.in_ok-part.ensures ∙ ap (λ (t : List ℕ). 32 ∷ t ++ 58 ∷ decimal (slice_index c.args.counts.now c.args.species)) (sym name)))
