-- The tables of sums of all bets are few enough words to be counted.
use Rattle.std.proofs.Common.{◌≡◌, ℕ, ◌*◌, ◌^◌, ◌<◌, ◌≤◌, arith}
use Rattle.std.proofs.Math.Nat.{mul-le-mul_right}
use Rattle.vp_count.specs.Table.{first_word}
use Rattle.vp_count.proofs.Words.{first_word_small}

pub few_words : (coins n words : ℕ) → coins ≤ 6 → n ≤ 54 → words ≡ first_word n 6 → coins * words < 2 ^ 64
few_words coins n words few deck is =
    let all : coins * words ≤ 6 * words = mul-le-mul_right words few in
    let small = first_word_small n 6 deck (omega arith) in
    omega (arith, all, small, is)
