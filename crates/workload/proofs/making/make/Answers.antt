use Rattle.std.proofs.Common.{◌≡◌, sym, subst}
use Rattle.std.proofs.lemmas.Result.{IfOk-weaker}
use Rattle.manifest_read.specs.Manifest.{IsValid}
use Rattle.workload.specs.Generated.{generated_manifest}
use Rattle.workload.proofs.Valid.{valid}
use Rattle.workload.proofs.making.make.Goals as goal

pub returns-clause-valid : goal.returns-clause-valid
returns-clause-valid c =
    IfOk-weaker c.manifest_on.result (λ m. m ≡ generated_manifest c.args.number) (λ m. IsValid m)
    (λ m e. subst IsValid (sym e) (valid c.args.number c.requires.number))
    c.manifest_on.ensures
