use Rattle.std.proofs.Common.{◌≡◌, ◌<◌, slice_index_or, length, ap, ◌∙◌, arith, length-set}
use Rattle.std.proofs.lemmas.List.Elements.{All-set}
use Rattle.frames.specs.declared.sample.Sample.{Sample}
use Rattle.viewer.specs.Samples.{clipped}
use Rattle.viewer.proofs.Sampling.{clip_step, clip_wide}
use Rattle.viewer.proofs.viewer.clip_all.Goals as goal

pub loop-i-preserved : goal.loop-i-preserved
loop-i-preserved c =
    let old = c.args.samples.now.items in
    let xs = c.loop-i.samples.items in
    let i = c.loop-i.i in
    let told = c.args.told.now in
    let here = c.index_mut.result.now in
    let new = c.clip.new.sample in
    let at : i < length old = omega (arith, c.len-i-end.ensures) in
    let lt : i < length xs = omega (arith, c.loop-i.invariant.2) in
    let is : new ≡ clipped told (slice_index_or xs i here) = c.clip.ensures ∙ ap (clipped told) c.index_mut.ensures.value in (
      clip_step (clipped told) old xs i new here at c.loop-i.invariant.0 is,
      All-set (λ (s : Sample). length s.counts ≡ length told.counts) xs i new (clip_wide told (slice_index_or xs i here) new is (c.loop-i.invariant.1 i here lt)) c.loop-i.invariant.1,
      length-set xs i new ∙ c.loop-i.invariant.2,
    )
