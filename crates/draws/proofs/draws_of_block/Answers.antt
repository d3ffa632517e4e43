use Rattle.std.proofs.Common.{◌≡◌, arith, ap, ◌+◌, ◌*◌}
use Rattle.rand_chacha.specs.ChaCha.{ChaCha}
use Rattle.draws.specs.Draw.{draw_at}
use Rattle.draws.proofs.Blocks.{on, one_more, draw_on, each}
use Rattle.draws.proofs.draws_of_block.Goals as goal

pub returns : goal.returns
returns c =
    let g : ChaCha = c.args.rng in
    let first : g.word_pos ≡ g.word_pos + 2 * 0 = omega arith in
    let s0 : g ≡ on g 0 = ap (λ p. record g { word_pos = p }) first in
    let s1 = one_more g 0 g c.next_draw.new.rng s0 c.next_draw.ensures.rest (omega (arith, c.requires)) in
    let s2 = one_more g 1 c.next_draw.new.rng c.next_draw-2.new.rng s1 c.next_draw-2.ensures.rest (omega (arith, c.requires)) in
    let s3 = one_more g 2 c.next_draw-2.new.rng c.next_draw-3.new.rng s2 c.next_draw-3.ensures.rest (omega (arith, c.requires)) in
    let s4 = one_more g 3 c.next_draw-3.new.rng c.next_draw-4.new.rng s3 c.next_draw-4.ensures.rest (omega (arith, c.requires)) in
    let s5 = one_more g 4 c.next_draw-4.new.rng c.next_draw-5.new.rng s4 c.next_draw-5.ensures.rest (omega (arith, c.requires)) in
    let s6 = one_more g 5 c.next_draw-5.new.rng c.next_draw-6.new.rng s5 c.next_draw-6.ensures.rest (omega (arith, c.requires)) in
    let s7 = one_more g 6 c.next_draw-6.new.rng c.next_draw-7.new.rng s6 c.next_draw-7.ensures.rest (omega (arith, c.requires)) in
    each (λ i r. r ≡ draw_at g (g.word_pos + 2 * i)) _ _ _ _ _ _ _ _
    (draw_on g 0 g c.next_draw.result s0 c.next_draw.ensures.draw)
    (draw_on g 1 _ c.next_draw-2.result s1 c.next_draw-2.ensures.draw)
    (draw_on g 2 _ c.next_draw-3.result s2 c.next_draw-3.ensures.draw)
    (draw_on g 3 _ c.next_draw-4.result s3 c.next_draw-4.ensures.draw)
    (draw_on g 4 _ c.next_draw-5.result s4 c.next_draw-5.ensures.draw)
    (draw_on g 5 _ c.next_draw-6.result s5 c.next_draw-6.ensures.draw)
    (draw_on g 6 _ c.next_draw-7.result s6 c.next_draw-7.ensures.draw)
    (draw_on g 7 _ c.next_draw-8.result s7 c.next_draw-8.ensures.draw)
