use Rattle.std.proofs.Common.{◌≡◌, ◌++◌, length, slice_index_or, ap, ◌∙◌, arith}
use Rattle.std.proofs.lemmas.List.{get_or_default}
use Rattle.surf_outside.specs.Parts.{parts}
use Rattle.watching.specs.Lines.{sample_line, samples_text, no_sample}
use Rattle.watching.proofs.Texting.{no_parts, part_more}
use Rattle.watching.proofs.lines.put_samples.Goals as goal

pub loop-i-init : goal.loop-i-init
loop-i-init c = no_parts (λ number. sample_line c.args.names.now c.args.viewer number (slice_index_or c.args.samples.now number no_sample)) c.args.text.now.items

pub loop-i-preserved : goal.loop-i-preserved
loop-i-preserved c = part_more (λ number. sample_line c.args.names.now c.args.viewer number (slice_index_or c.args.samples.now number no_sample)) c.loop-i.i c.args.text.now.items c.loop-i.text.items c.put_sample.new.text.items _ c.in_ok-put_sample.ensures
    (ap (sample_line c.args.names.now c.args.viewer c.loop-i.i) (c.index-samples-i.is ∙ get_or_default c.args.samples.now c.loop-i.i c.index-samples-i.result no_sample c.loop-i-test.true)) c.loop-i.invariant

pub returns : goal.returns
unfolding samples_text
returns c =
    let all : c.loop-i.i ≡ length c.args.samples.now = omega arith in
    c.loop-i.invariant ∙ ap (λ n. c.args.text.now.items ++ parts (λ number. sample_line c.args.names.now c.args.viewer number (slice_index_or c.args.samples.now number no_sample)) n) all
