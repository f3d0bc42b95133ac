-- The first place of a byte.
use Rattle.std.proofs.Common.{◌≡◌, ℕ, ◌<◌, Bool, true, false, List, [], ◌∷◌, length, get_or, Some, None, refl, arith}
use Rattle.std.specs.Prelude.{Option, nat_lt}
use Rattle.std.specs.List.{position, position_or_len}
use Rattle.std.proofs.lemmas.Bool.Decides.{nat_tests}
use Rattle.std.proofs.lemmas.List.Sums.{position_or_len_is}
use Rattle.memchr.specs.Find.{IsFirstByte, is_byte}

passes_not : (b : Bool) → (b ≡ true → ⊥) → b ≡ false
passes_not true h = absurd (h refl)
passes_not false h = refl

missing : (p : ℕ → Bool) (xs : List ℕ) → position_or_len p xs ≡ length xs → None ≡ position p xs
missing p xs past = let none : nat_lt (position_or_len p xs) (length xs) ≡ false = grind (arith, nat_tests) in rw none refl

found : (p : ℕ → Bool) (xs : List ℕ) (i : ℕ) → position_or_len p xs ≡ i → i < length xs → Some i ≡ position p xs
found p xs i at inside = let some : nat_lt (position_or_len p xs) (length xs) ≡ true = grind (arith, nat_tests) in rw (some, at) refl

-- what a search of a byte found is its first place
pub first_place : (byte : ℕ) (xs : List ℕ) (r : Option ℕ) → IsFirstByte (is_byte byte) xs r → r ≡ position (is_byte byte) xs
first_place byte xs None h =
    missing (is_byte byte) xs
    (position_or_len_is (is_byte byte) xs (length xs) 0 (omega arith) (λ k lt. passes_not (is_byte byte (get_or xs k 0)) (h k (omega arith) lt)) (λ lt. absurd (omega arith)))
first_place byte xs (Some i) h =
    found (is_byte byte) xs i
    (position_or_len_is (is_byte byte) xs i 0 (omega (arith, h.0.high)) (λ k lt. passes_not (is_byte byte (get_or xs k 0)) (h.0.before k (omega arith) lt)) (λ lt. h.1))
    h.0.high

here : (x byte : ℕ) → x ≡ byte → is_byte byte x ≡ true
here x byte is = grind (arith, nat_tests)

-- a byte at the front is in the first place
pub at_front : (byte : ℕ) (xs : List ℕ) → 0 < length xs → get_or xs 0 0 ≡ byte → Some 0 ≡ position (is_byte byte) xs
at_front byte [] some is = absurd (omega arith)
at_front byte (x ∷ xs) some is = found (is_byte byte) (x ∷ xs) 0 (position_or_len_is (is_byte byte) (x ∷ xs) 0 0 (omega arith) (λ k lt. absurd (omega arith)) (λ lt. here x byte is)) some
