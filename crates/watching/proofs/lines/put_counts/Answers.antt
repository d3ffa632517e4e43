use Rattle.std.proofs.Common.{◌≡◌, ◌++◌, length, refl, ap, ◌∙◌, arith}
use Rattle.surf_outside.specs.Parts.{parts}
use Rattle.watching.specs.Lines.{count_text}
use Rattle.watching.proofs.Texting.{no_parts, part_more}
use Rattle.watching.proofs.lines.put_counts.Goals as goal

pub loop-species-init : goal.loop-species-init
loop-species-init c = no_parts (count_text c.args.names.now c.args.counts.now) c.args.text.now.items

pub loop-species-preserved : goal.loop-species-preserved
loop-species-preserved c = part_more (count_text c.args.names.now c.args.counts.now) c.loop-species.species c.args.text.now.items c.loop-species.text.items c.put_count.new.text.items _ c.in_ok-put_count.ensures refl c.loop-species.invariant

pub returns : goal.returns
returns c =
    let all : c.loop-species.species ≡ length c.args.names.now = omega arith in
    c.loop-species.invariant ∙ ap (λ n. c.args.text.now.items ++ parts (count_text c.args.names.now c.args.counts.now) n) all
