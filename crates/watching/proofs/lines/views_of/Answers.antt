use Rattle.std.proofs.Common.{◌≡◌, [], All, length, map, slice_index_or, sym, ap, ◌∙◌, subst, arith}
use Rattle.std.proofs.lemmas.List.{get_or-map, length-map}
use Rattle.surf_outside.specs.Parts.{parts}
use Rattle.frames.specs.declared.sample.Sample.{Sample}
use Rattle.viewer.specs.declared.viewer.Viewer.{Viewer}
use Rattle.watching.specs.Lines.{samples_text, views_text}
use Rattle.watching.proofs.Texting.{part_more}
use Rattle.watching.proofs.lines.views_of.Goals as goal

pub put_samples-requires : goal.put_samples-requires
put_samples-requires c = record {
  counts = subst (All (λ (s : Sample). length s.counts ≡ length c.args.names.now)) (ap (λ (v : Viewer). v.samples) (sym c.index-viewers-i.is) ∙ sym c.samples.ensures.samples)
      (c.requires.counts c.loop-i.i c.index-viewers-i.result c.loop-i-test.true);
}

pub loop-i-preserved : goal.loop-i-preserved
loop-i-preserved c =
    let here : c.samples.result.now ≡ slice_index_or (map (λ (v : Viewer). v.samples) c.args.viewers.now) c.loop-i.i [] =
    c.samples.ensures.samples ∙ (ap (λ (v : Viewer). v.samples) c.index-viewers-i.is ∙ sym (get_or-map (λ (v : Viewer). v.samples) c.args.viewers.now c.loop-i.i c.index-viewers-i.result [] c.loop-i-test.true)) in
    part_more (λ viewer. samples_text c.args.names.now viewer (slice_index_or (map (λ (v : Viewer). v.samples) c.args.viewers.now) viewer [])) c.loop-i.i [] c.loop-i.text.items c.put_samples.new.text.items _ c.in_ok-put_samples.ensures
    (ap (samples_text c.args.names.now c.loop-i.i) here) c.loop-i.invariant

pub returns : goal.returns
unfolding views_text
returns c =
    let all : c.loop-i.i ≡ length (map (λ (v : Viewer). v.samples) c.args.viewers.now) = omega (arith, length-map c.args.viewers.now (λ (v : Viewer). v.samples)) in
    c.loop-i.invariant ∙ ap (λ n. parts (λ viewer. samples_text c.args.names.now viewer (slice_index_or (map (λ (v : Viewer). v.samples) c.args.viewers.now) viewer [])) n) all
