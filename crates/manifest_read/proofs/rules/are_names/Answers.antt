use Rattle.std.proofs.Common.{rules, sym, ap, ◌∙◌, ◌==◌}
use Rattle.surf_text.proofs.LawLemmas.{cut-shorter_at}
use Rattle.manifest_read.specs.Names.{is_name}
use Rattle.manifest_read.proofs.Pieces.{names-bad, names-next, names-last}
use Rattle.manifest_read.proofs.rules.are_names.Goals as goal

pub returns-then-not-is_name : goal.returns-then-not-is_name
returns-then-not-is_name c =
    names-bad c.loop-piece.rest.now c.in-Some.piece.now c.in-Some.after.now c.in-Some.ensures (ap is_name (sym c.trim_text.ensures) ∙ sym c.if-not-is_name.ensures)
    ∙ sym c.loop-piece.invariant.same

pub loop-piece-smaller : goal.loop-piece-smaller
loop-piece-smaller c = cut-shorter_at (λ x. x == 43) c.loop-piece.rest.now c.in-Some.piece.now c.in-Some.after.now c.in-Some.ensures

pub loop-piece-preserved : goal.loop-piece-preserved
loop-piece-preserved c = record {
  text = search rules;
  same = c.loop-piece.invariant.same
      ∙ names-next c.loop-piece.rest.now c.in-Some.piece.now c.in-Some.after.now c.in-Some.ensures (ap is_name (sym c.trim_text.ensures) ∙ sym c.if-not-is_name.ensures);
}

pub returns : goal.returns
returns c = c.is_name-2.ensures ∙ ap is_name c.trim_text-2.ensures ∙ names-last c.loop-piece.rest.now c.in_default.ensures ∙ sym c.loop-piece.invariant.same
