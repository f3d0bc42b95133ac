-- Numbers are read from their decimal digits, and from nothing else.
use Rattle.std.proofs.Common.{◌≡◌, ℕ, zero, suc, ◌+◌, ◌^◌, ◌<◌, ◌≤◌, true, nat_le, nat_lt, ◌&&◌, List, [], ◌∷◌, map, refl, ap, sym, ◌∙◌, arith, Some, None}
use Rattle.std.specs.Prelude.{Option, IfSome, IfNone, bytes_eq}
use Rattle.std.specs.Char.{digit_value}
use Rattle.std.specs.Fmt.{decimal}
use Rattle.std.specs.Int.Digits.{number_from_digits, digits_of, AllBelowBase}
use Rattle.std.proofs.lemmas.Fmt.{decimal_digit, decimal-digits_of}
use Rattle.std.proofs.lemmas.Int.Digits.{number_digits_of, all_below_base_digits_of}
use Rattle.std.proofs.lemmas.Str.{digit_value_digit}
use Rattle.std.proofs.lemmas.Bool.{ltb-true, lt-ltb}
use Rattle.std.proofs.lemmas.Bool.Decides.{nat_tests}
use Rattle.std.proofs.lemmas.Slice.Eq.{bytes_eq-Decides}
use Rattle.vp_text.specs.ExactReaders.{ExactText}
use Rattle.vp_text.specs.Lines.{Word}
use Rattle.vp_text.specs.Numbers.{digits_number, number_of, within, number_within}
use Rattle.vp_text.proofs.Pieces.{both_true, bound, chosen, no_value, same_bytes, so}

digit_back : (d : ℕ) → d < 10 → digit_value (48 + d) ≡ d
digit_back d below = let e : digit_value (48 + d) + 48 ≡ 48 + d = digit_value_digit (48 + d) (omega arith, omega arith) in omega arith

digits_back : (ds : List ℕ) → AllBelowBase 10 ds → map digit_value (map (λ d. 48 + d) ds) ≡ ds
digits_back [] below = refl
digits_back (d ∷ ds) below = rw (digit_back d below.0, digits_back ds below.1)

positive : (n : ℕ) → 0 < n → n < 2 ^ 64 → digits_number (decimal n) ≡ n
positive n some below =
    ap digits_number (decimal-digits_of n some below)
    ∙ (ap (number_from_digits 10) (digits_back (digits_of 10 n) (all_below_base_digits_of 10 n (omega arith))) ∙ number_digits_of 10 n (omega arith))

-- a number's digits have this number
pub digits_number-decimal : (n : ℕ) → n < 2 ^ 64 → digits_number (decimal n) ≡ n
digits_number-decimal zero below = ap digits_number (decimal_digit 0 (omega arith))
digits_number-decimal (suc n) below = positive (suc n) (omega arith) below

-- a number below 2^64 is read from its digits
pub number_again : (n : ℕ) → n < 2 ^ 64 → number_of (decimal n) ≡ Some n
unfolding number_of
number_again n below =
    let small : nat_lt n (2 ^ 64) ≡ true = lt-ltb n (2 ^ 64) below
    in rw (digits_number-decimal n below, same_bytes (decimal n), small)

number_takes : (text : Word) (n : ℕ) → number_of text ≡ Some n → (n < 2 ^ 64) × (decimal n ≡ text)
unfolding number_of
number_takes text n read =
    let m = digits_number text
    in chosen (λ p. (p < 2 ^ 64) × (decimal p ≡ text)) (bytes_eq text (decimal m) && nat_lt m (2 ^ 64)) (Some m) None n read
    (λ is e.
    let parts = both_true (bytes_eq text (decimal m)) (nat_lt m (2 ^ 64)) is
    in so (λ p. (p < 2 ^ 64) × (decimal p ≡ text)) m n e (ltb-true m (2 ^ 64) parts.1, sym ((bytes_eq-Decides text (decimal m)).0 parts.0)))
    (λ none. absurd (no_value n none))

-- the word of a number below 2^64 is its decimal digits
pub number_exact : ExactText decimal (λ n. n < 2 ^ 64) number_of
number_exact = record { takes = λ text n read. number_takes text n read; again = λ n below. number_again n below }

-- a text that is a number's digits
pub number_some : (text : Word) (n : ℕ) → text ≡ decimal n → n < 2 ^ 64 → number_of text ≡ Some n
number_some text n is below = ap number_of is ∙ number_again n below

unread : (text : Word) (o : Option ℕ) → number_of text ≡ o → ((n : ℕ) → n < 2 ^ 64 → text ≡ decimal n → ⊥) → o ≡ None
unread text None is never = refl
unread text (Some n) is never = let t = number_takes text n is in absurd (never n t.0 (sym t.1))

-- a text that is no number's digits
pub number_none : (text : Word) → ((n : ℕ) → n < 2 ^ 64 → text ≡ decimal n → ⊥) → number_of text ≡ None
number_none text never = unread text (number_of text) refl never

-- what was read is the number that the text says
pub number_found : (text : Word) (o : Option ℕ) → o ≡ number_of text → IfSome o (λ n. text ≡ decimal n)
number_found text None is = tt
number_found text (Some n) is = sym (number_takes text n (sym is)).1

-- where nothing was read the text says no number
pub number_missing : (text : Word) (o : Option ℕ) → o ≡ number_of text → IfNone o ((n : ℕ) → n < 2 ^ 64 → text ≡ decimal n → ⊥)
number_missing text (Some n) is = tt
number_missing text None is = λ n below same. no_value n (is ∙ number_some text n same below)

-- ---- numbers between bounds

within_takes : (least most m n : ℕ) → within least most m ≡ Some n → ((least ≤ n) × (n ≤ most)) × (m ≡ n)
within_takes least most m n e =
    chosen (λ p. ((least ≤ p) × (p ≤ most)) × (m ≡ p)) (nat_le least m && nat_le m most) (Some m) None n e
    (λ is same.
    let parts = both_true (nat_le least m) (nat_le m most) is
    in so (λ p. ((least ≤ p) × (p ≤ most)) × (m ≡ p)) m n same ((grind (arith, nat_tests), grind (arith, nat_tests)), refl))
    (λ none. absurd (no_value n none))

-- a number between the bounds
pub within_some : (least most n : ℕ) → least ≤ n → n ≤ most → within least most n ≡ Some n
within_some least most n low high =
    let one : nat_le least n ≡ true = grind (arith, nat_tests)
    in let two : nat_le n most ≡ true = grind (arith, nat_tests)
    in rw (one, two)

-- the word of a number from `least` to `most` is its decimal digits
pub number_within_exact : (least most : ℕ) → most < 2 ^ 64 → ExactText decimal (λ n. (least ≤ n) × (n ≤ most)) (number_within least most)
unfolding number_within
number_within_exact least most below = record {
  takes = λ text n read.
      let number = bound (number_of text) (within least most) n read
      in let inside = within_takes least most number.value n number.then
      in let t = number_takes text number.value number.first
      in (inside.0, rw (← inside.1) t.1);
  again = λ n is. rw (number_again n (omega arith)) (within_some least most n is.0 is.1);
}
