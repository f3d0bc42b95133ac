-- Words of bytes from `-` on are plain: none has a blank, a line feed, a carriage return or a `#`.
use Rattle.std.proofs.Common.{◌≡◌, ℕ, zero, suc, ◌+◌, ◌^◌, ◌≤◌, ◌<◌, true, false, eqb, nat_le, List, [], ◌∷◌, ◌++◌, map, length, get_or, sym, arith, IsTrue, subst}
use Rattle.std.specs.List.{list_all, AllByRecursion}
use Rattle.std.specs.Fmt.{decimal}
use Rattle.std.specs.Int.Digits.{digits_of}
use Rattle.std.proofs.lemmas.Fmt.{decimal_digit, decimal-digits_of, decimal_nonempty}
use Rattle.std.proofs.lemmas.Bool.Decides.{nat_tests}
use Rattle.vp_text.specs.Lines.{Word}
use Rattle.vp_text.specs.Sections.{Text}
use Rattle.vp_text.specs.Written.{is_plain, IsPlainWord, IsPlainText}
use Rattle.vp_text.proofs.Pieces.{both_true}

-- every byte is `-` or above
abbrev pub AreHigh : List ℕ → Type 0
AreHigh bytes = AllByRecursion (λ byte. 45 ≤ byte) bytes

high_plain : (byte : ℕ) → 45 ≤ byte → IsTrue (is_plain byte)
high_plain byte high =
    let space : eqb byte 32 ≡ false = grind (arith, nat_tests)
    in let tab : eqb byte 9 ≡ false = grind (arith, nat_tests)
    in let feed : eqb byte 10 ≡ false = grind (arith, nat_tests)
    in let return : eqb byte 13 ≡ false = grind (arith, nat_tests)
    in let comment : eqb byte 35 ≡ false = grind (arith, nat_tests)
    in rw (space, tab, feed, return, comment)

pub high_word : (word : Word) → 0 < length word → AreHigh word → IsPlainWord word
high_word word some high = (some, all word high)
  where
    all : (bytes : List ℕ) → AreHigh bytes → AllByRecursion (λ byte. IsTrue (is_plain byte)) bytes
    all [] are = tt
    all (byte ∷ bytes) are = (high_plain byte are.0, all bytes are.1)

pub are_high : (bytes : List ℕ) → list_all (λ byte. nat_le 45 byte) bytes ≡ true → AreHigh bytes
are_high [] is = tt
are_high (byte ∷ bytes) is =
    let parts = both_true (nat_le 45 byte) (list_all (λ b. nat_le 45 b) bytes) is
    in let here : 45 ≤ byte = grind (arith, nat_tests)
    in (here, are_high bytes parts.1)

-- a word of the language itself
pub plain_key : (word : Word) → 0 < length word → list_all (λ byte. nat_le 45 byte) word ≡ true → IsPlainWord word
plain_key word some is = high_word word some (are_high word is)

-- a byte of a row
pub high_at : (bytes : List ℕ) (i : ℕ) → i < length bytes → AreHigh bytes → 45 ≤ get_or bytes i 0
high_at [] i inside high = absurd (omega arith)
high_at (byte ∷ bytes) zero inside high = high.0
high_at (byte ∷ bytes) (suc i) inside high = high_at bytes i (omega arith) high.1

-- ---- numbers

digits_high : (ds : List ℕ) → AreHigh (map (λ d. 48 + d) ds)
digits_high [] = tt
digits_high (d ∷ ds) = (omega arith, digits_high ds)

decimal_high : (n : ℕ) → n < 2 ^ 64 → AreHigh (decimal n)
decimal_high zero below = subst AreHigh (sym (decimal_digit 0 (omega arith))) (omega arith, tt)
decimal_high (suc n) below = subst AreHigh (sym (decimal-digits_of (suc n) (omega arith) below)) (digits_high (digits_of 10 (suc n)))

pub plain_number : (n : ℕ) → n < 2 ^ 64 → IsPlainWord (decimal n)
plain_number n below = high_word (decimal n) (decimal_nonempty n below) (decimal_high n below)

-- ---- words and lines one after another

pub plain_words : (front back : List Word) → AllByRecursion IsPlainWord front → AllByRecursion IsPlainWord back → AllByRecursion IsPlainWord (front ++ back)
plain_words [] back f b = b
plain_words (word ∷ front) back f b = (f.0, plain_words front back f.1 b)

pub plain_texts : (front back : Text) → IsPlainText front → IsPlainText back → IsPlainText (front ++ back)
plain_texts [] back f b = b
plain_texts (line ∷ front) back f b = (f.0, plain_texts front back f.1 b)
