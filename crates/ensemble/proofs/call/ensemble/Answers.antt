use Rattle.std.proofs.Common.{length, sym, ap, subst, arith}
use Rattle.std.specs.Prelude.{All}
use Rattle.std.proofs.lemmas.List.FromFn.{length-map-range_with_len}
use Rattle.ensemble.specs.Outcomes.{nth_outcome, IsWithin}
use Rattle.ensemble.proofs.Outcoming.{all_within, ok_then}
use Rattle.ensemble.proofs.call.ensemble.Goals as goal

pub returns-clause-within : goal.returns-clause-within
returns-clause-within g c =
    let m = c.args.m.now in
    ok_then _ _ c.gather.result (λ v is. subst (All (IsWithin (length m.names))) (sym is) (all_within m c.args.settings c.requires.sound c.requires.allowed.limit)) c.gather.ensures

pub returns-clause-few : goal.returns-clause-few
returns-clause-few g c =
    let s = c.args.settings in
    let long = length-map-range_with_len (nth_outcome c.args.m.now s) 0 s.seeds in
    ok_then _ _ c.gather.result (λ v is. let same = ap length is in omega (arith, same, long, c.requires.allowed.seeds)) c.gather.ensures
