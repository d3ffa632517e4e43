use Rattle.std.proofs.Common.{ap, length, arith}
use Rattle.surf_text.proofs.LawLemmas.{words-few}
use Rattle.manifest_read.proofs.names.count_words.Goals as goal

pub loop-count-init : goal.loop-count-init
loop-count-init c = record {
  counted = omega (arith, ap length c.new-words.ensures);
  fits = words-few c.args.text.now;
}
