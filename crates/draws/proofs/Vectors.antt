-- Draws that Rust's own `rand_chacha` gives, so that a wrong word in the definition does not check.
use Rattle.std.proofs.Common.{◌≡◌, ◌∷◌, ◌+◌, ◌-◌, ◌^◌, refl}
use Rattle.std.specs.Prelude.{replicate}
use Rattle.rand_core.specs.Steps.{u32_at}
use Rattle.rand_chacha.specs.Block.{quarter_round, column_round, diagonal_round, double_rounds, block_word}
use Rattle.draws.specs.Draw.{key_bytes, draw_of, word_of}

key_of_7 : key_bytes 7 ≡ 7 ∷ replicate 31 0
key_of_7 = refl

first : draw_of 7 0 0 0 ≡ 14095323943061994099
unfolding draw_of word_of u32_at block_word double_rounds diagonal_round quarter_round column_round
first = refl

near : draw_of 7 5 1 3 ≡ 17955294034719033957
unfolding draw_of word_of u32_at block_word double_rounds diagonal_round quarter_round column_round
near = refl

-- each byte of the seed counts
mixed : draw_of 0x0123456789abcdef 0x123456789 0x123456789abc 8191 ≡ 14946996276357712141
unfolding draw_of word_of u32_at block_word double_rounds diagonal_round quarter_round column_round
mixed = refl

-- a stream and a word place beyond 2 ^ 32
far : draw_of (2 ^ 64 - 1) (2 ^ 33) (2 ^ 40 + 5) 8 ≡ 2004107726610260579
unfolding draw_of word_of u32_at block_word double_rounds diagonal_round quarter_round column_round
far = refl

last : draw_of (2 ^ 64 - 1) (2 ^ 64 - 1) (2 ^ 54 - 1) 8191 ≡ 10724664596400196491
unfolding draw_of word_of u32_at block_word double_rounds diagonal_round quarter_round column_round
last = refl
