use Rattle.surface_top.proofs.BytesRead.{given, given_agrees, given_more}
use Rattle.surface_top.proofs.call.source_text.Goals as goal

pub returns-in-Err-TooLong-clause-unread : goal.returns-in-Err-TooLong-clause-unread
returns-in-Err-TooLong-clause-unread g c =
    let unread = g.S.Source.unread c.args.source.now in
    let took = c.in-Err-TooLong.ensures.took in
    (given unread took.0, given_agrees unread took.0, given_more unread _ took.0 67108864 took.1 (took.2 c.in-Err-TooLong.field-0-is))
