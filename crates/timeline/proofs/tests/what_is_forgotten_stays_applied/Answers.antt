use Rattle.timeline.proofs.tests.what_is_forgotten_stays_applied.Goals as goal

pub back_to-undone-requires : goal.back_to-undone-requires
back_to-undone-requires g c =
    let led = c.in_ok-act-3.ensures in
    let mid = c.drop_below.ensures.led led.0 c.act-3.new.surface led.1 in (mid.0, mid.2)
