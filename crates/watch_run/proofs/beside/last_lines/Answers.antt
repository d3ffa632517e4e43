use Rattle.std.proofs.Common.{rules, ◌≡◌, ◌≤◌, ◌+◌, List, All, length, map, vec_len, sym, ap, ◌∙◌, subst, arith}
use Rattle.frames.specs.declared.sample.Sample.{Sample}
use Rattle.viewer.specs.declared.viewer.Viewer.{Viewer}
use Rattle.watching.specs.Lines.{views_text}
use Rattle.run_writer.specs.Writing.{scene_of}
use Rattle.watch_run.proofs.Showing.{all_wide, lines_of}
use Rattle.watch_run.proofs.beside.last_lines.Goals as goal

pub views_of-requires : goal.views_of-requires
views_of-requires c =
    let names = c.args.task.now.names.now in
    record {
      counts = subst (λ (vs : List Viewer). All (λ (v : Viewer). All (λ (s : Sample). length s.counts ≡ length names) v.samples) vs) (sym c.deref.ensures.value)
          (all_wide c.args.publisher.now.writer.name.start c.args.publisher.now.writer.published (c.args.before + 1) (length names) c.finish.new.viewers.items c.requires.kinds c.in-Ok.ensures.done);
    }

pub returns-in-Ok-views_of-clause-lines : goal.returns-in-Ok-views_of-clause-lines
returns-in-Ok-views_of-clause-lines c =
    let names = c.args.task.now.names.now in
    λ sites published.
    lines_of (scene_of c.args.task.now) c.args.publisher.now sites c.finish.new.viewers.items (c.args.before + 1) (vec_len c.args.viewers.now) c.in-Ok-views_of.lines.items published c.requires.kinds (omega arith)
    (search rules) c.in-Ok.ensures.done
    (c.in-Ok-views_of.ensures ∙ ap (λ (vs : List Viewer). views_text names (map (λ (v : Viewer). v.samples) vs)) c.deref.ensures.value)
