-- How much room words and lines take.
use Rattle.std.proofs.Common.{◌≡◌, ℕ, suc, mul-suc, mul-zero, ◌+◌, ◌*◌, ◌^◌, ◌<◌, ◌≤◌, Bool, true, false, cond, eqb, List, [], ◌∷◌, ◌++◌, map, length, refl, sym, ap, ◌∙◌, arith, decimal, length-append}
use Rattle.std.specs.List.{AllByRecursion}
use Rattle.std.proofs.lemmas.Grind.{flat_map-append}
use Rattle.std.proofs.lemmas.Fmt.{length-decimal-le, length-decimal-le_wide}
use Rattle.vp_text.specs.Lines.{Word}
use Rattle.vp_text.specs.Sections.{Text}
use Rattle.vp_text.specs.Written.{line_of, spaced, with_word, written}

pub length_with_word : (line word : List ℕ) → length (with_word line word) ≤ length line + length word + 1
length_with_word line word = by_test (eqb (length line) 0)
  where
    by_test : (b : Bool) → length (cond b word (line ++ 32 ∷ word)) ≤ length line + length word + 1
    by_test true = omega arith
    by_test false = omega (arith, length-append line (32 ∷ word))

pub length_decimal : (n : ℕ) → n < 2 ^ 128 → length (decimal n) ≤ 39
length_decimal n lt = length-decimal-le_wide 39 n (omega arith) (omega arith) (omega arith)

-- a number below 2^64 has at most 20 digits
pub digits_of_64 : (n : ℕ) → n < 2 ^ 64 → length (decimal n) ≤ 20
digits_of_64 n below = length-decimal-le 20 n (omega arith) (omega arith) below

times_suc : (k n : ℕ) → k * suc n ≡ k + k * n
times_suc k n = mul-suc k n ∙ omega arith

-- ---- words, with a byte behind each

pub room : List Word → ℕ
room [] = 0
room (word ∷ words) = length word + 1 + room words

pub room-nil : room [] ≡ 0
unfolding room
room-nil = refl

pub room-cons : (word : Word) (words : List Word) → room (word ∷ words) ≡ length word + 1 + room words
unfolding room
room-cons word words = refl

pub room-append : (a b : List Word) → room (a ++ b) ≡ room a + room b
unfolding room
room-append [] b = omega arith
room-append (word ∷ a) b = omega (arith, room-append a b)

pub one_word : (word : Word) → room (word ∷ []) ≡ length word + 1
one_word word = omega (arith, room-cons word [], room-nil)

pub two_words : (a b : Word) → room (a ∷ b ∷ []) ≡ length a + length b + 2
two_words a b = omega (arith, room-cons a (b ∷ []), one_word b)

room_spaced : (words : List Word) → length (spaced words) ≤ room words
unfolding room
room_spaced [] = omega arith
room_spaced (word ∷ []) = omega arith
room_spaced (word ∷ next ∷ more) = omega (arith, length-append word (32 ∷ spaced (next ∷ more)), room_spaced (next ∷ more))

pub room_line : (words : List Word) → length (line_of words) ≤ room words + 1
room_line words = omega (arith, room_spaced words, length-append (spaced words) (10 ∷ []))

-- words that are as long as one another
pub room_map : {A : Type 0} (word : A → Word) (k : ℕ) → ((a : A) → length (word a) ≡ k) → (items : List A) → room (map word items) ≡ suc k * length items
unfolding room
room_map word k long [] = sym (mul-zero (suc k))
room_map word k long (item ∷ items) = omega (arith, long item, room_map word k long items, times_suc (suc k) (length items))

pub room_lines : (k : ℕ) (text : Text) → AllByRecursion (λ words. room words < k) text → length (written text) ≤ k * length text
room_lines k [] all = omega arith
room_lines k (words ∷ text) all =
    let many : k * length (words ∷ text) ≡ k + k * length text = let n = length text in omega (arith, times_suc k n) in
    omega (arith, room_line words, all.0, room_lines k text all.1, length-append (line_of words) (written text), many)

pub written-append : (a b : Text) → length (written (a ++ b)) ≡ length (written a) + length (written b)
written-append a b = ap length (flat_map-append line_of a b) ∙ length-append (written a) (written b)
