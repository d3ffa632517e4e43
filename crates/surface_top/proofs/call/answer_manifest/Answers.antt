use Rattle.std.proofs.Common.{subst}
use Rattle.manifest_read.specs.Manifest.{manifest_of}
use Rattle.surface_top.specs.declared.call.ManifestJob.TheVariants as job
use Rattle.surface_top.specs.Kept.{run_by}
use Rattle.surface_top.proofs.Leaving.{unread_leaves, got_leaves}
use Rattle.surface_top.proofs.call.answer_manifest.Goals as goal

pub returns-in-Err-clause-kept : goal.returns-in-Err-clause-kept
returns-in-Err-clause-kept g c = unread_leaves c.in-Err.ending (run_by c.args.job) (manifest_of c.args.text.now) c.args.kept.now c.in-Err.ensures.err c.requires.none

pub returns-in-Check-clause-kept : goal.returns-in-Check-clause-kept
returns-in-Check-clause-kept g c =
    rw c.in-Check.is (got_leaves c.check.result (run_by job.Check) (manifest_of c.args.text.now) c.in-Ok.manifest c.args.kept.now c.in-Ok.ensures.ok c.requires.none)

pub returns-in-Print-clause-kept : goal.returns-in-Print-clause-kept
returns-in-Print-clause-kept g c =
    rw c.in-Print.is (got_leaves c.print.result (run_by job.Print) (manifest_of c.args.text.now) c.in-Ok.manifest c.args.kept.now c.in-Ok.ensures.ok c.requires.none)

pub returns-in-Run-clause-kept : goal.returns-in-Run-clause-kept
returns-in-Run-clause-kept g c =
    rw c.in-Run.is (got_leaves c.run_manifest.result _ (manifest_of c.args.text.now) c.in-Ok.manifest c.run_manifest.new.kept c.in-Ok.ensures.ok c.run_manifest.ensures.kept)
