use Rattle.std.proofs.Common.{sym, subst, refl}
use Rattle.std.specs.Prelude.{IsSome}
use Rattle.regions.proofs.Tellings.{Decides-is_told}
use Rattle.regions.proofs.Near.{told_is_near}
use Rattle.regions.proofs.Meeting.{they_meet}
use Rattle.regions.proofs.laws.neighbours_are_told.Goals as goal

pub returns-clause-told : goal.returns-clause-told
returns-clause-told c b region place cut told =
    let is = (Decides-is_told b region place).0 told in
    (is.other, told_is_near b region place cut (subst IsSome (sym is.has.is) refl) told)

pub returns-clause-each : goal.returns-clause-each
returns-clause-each c b region other cut inside n = they_meet b region other cut inside n
