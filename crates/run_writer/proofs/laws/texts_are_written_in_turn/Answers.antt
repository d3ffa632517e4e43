use Rattle.run_writer.proofs.Endings.{stopped_prefix}
use Rattle.run_writer.proofs.Written.{wrote_nothing, wrote_more, puts_after, stopped_after, stopped_longer, wrote_all}
use Rattle.run_writer.proofs.laws.texts_are_written_in_turn.Goals as goal

pub returns-clause-none : goal.returns-clause-none
returns-clause-none c a = wrote_nothing a

pub returns-clause-more : goal.returns-clause-more
returns-clause-more c a b d x y p q = wrote_more a b d x y p q

pub returns-clause-after : goal.returns-clause-after
returns-clause-after c a b d x y result p q = puts_after a b d x y result p q

pub returns-clause-stopped : goal.returns-clause-stopped
returns-clause-stopped c a b d x y stop p q = stopped_after a b d x y stop p q

pub returns-clause-longer : goal.returns-clause-longer
returns-clause-longer c a b x y stop p = stopped_longer a b x y stop p

pub returns-clause-whole : goal.returns-clause-whole
returns-clause-whole c a b x p none sent = wrote_all a b x p none sent

pub returns-clause-prefix : goal.returns-clause-prefix
returns-clause-prefix c a b x stop none p = stopped_prefix a b x stop none p
