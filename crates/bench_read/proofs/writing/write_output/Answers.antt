use Rattle.std.proofs.Common.{◌≡◌, [], ◌∷◌, ◌++◌, ap, ◌∙◌, codes, decimal}
use Rattle.surf_outside.proofs.LawLemmas.{puts_as}
use Rattle.bench_read.specs.Chains.{output_line}
use Rattle.bench_read.proofs.writing.write_output.Goals as goal

pub returns : goal.returns
returns g c =
    puts_as (output_line c.args.number ++ 10 ∷ []) (ap (λ d. codes "output n" ++ (d ++ 10 ∷ [])) (c.bytes.ensures ∙ c.of-name.ensures ∙ ap decimal c.from.ensures)) c.put_pieces.ensures
