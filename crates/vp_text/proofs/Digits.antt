-- Numbers are read digit by digit.
use Rattle.std.proofs.Common.{◌≡◌, ℕ, zero, suc, ◌+◌, ◌*◌, ◌^◌, ◌<◌, ◌≤◌, List, [], ◌∷◌, ◌++◌, map, length, get_or, take, drop, refl, ap, sym, subst, ◌∙◌, ◌⊎◌, inl, inr, arith, Some, None}
use Rattle.std.specs.Prelude.{Option, IfSome, IfNone, false, true}
use Rattle.std.specs.List.{AllByRecursion}
use Rattle.std.proofs.Common.{length-take}
use Rattle.std.proofs.lemmas.Bool.Decides.{nat_tests}
use Rattle.std.specs.Char.{digit_value}
use Rattle.std.specs.Fmt.{decimal}
use Rattle.std.specs.Int.Digits.{number_from_digits}
use Rattle.std.specs.Str.Parse.{AllDigits, digits_value}
use Rattle.std.proofs.lemmas.Fmt.{decimal-digits_value, digits_decimal, digits_value-decimal, first_decimal, decimal_digit, decimal_nonempty}
use Rattle.std.proofs.lemmas.Int.Digits.{digits_value_is, digits_value_more, number_after_append, number_after_ge}
use Rattle.std.proofs.lemmas.List.{map-append, take-append-drop}
use Rattle.std.proofs.lemmas.Str.Parse.{IsNumeralModel}
use Rattle.vp_text.specs.Lines.{Word, is_blank, words_in}
use Rattle.vp_text.specs.Pieces.{one_word}
use Rattle.vp_text.proofs.Cuts.{key_found}
use Rattle.vp_text.specs.Numbers.{number_of}
use Rattle.vp_text.proofs.Numbers.{number_some, number_none}

own : IsNumeralModel (AllDigits 10) (digits_value 10)
own = record { to = λ ds all. all; from = λ ds all. all; same = λ ds all. refl }

-- ---- one digit after another

digit_at : (text : Word) (i : ℕ) → i < length text → AllDigits 10 text → digit_value (get_or text i 0) < 10
digit_at [] i inside all = absurd (omega arith)
digit_at (byte ∷ text) zero inside all = all.0
digit_at (byte ∷ text) (suc i) inside all = digit_at text i (omega arith) all.1

-- the digits at the front have no greater number
front_number : (text : Word) (i : ℕ) → digits_value 10 (take i text) ≤ digits_value 10 text
front_number text i =
    let front = map digit_value (take i text) in
    let back = map digit_value (drop i text) in
    let all : digits_value 10 text ≡ number_from_digits 10 (front ++ back) =
    digits_value_is 10 text ∙ ap (λ (ds : List ℕ). number_from_digits 10 (map digit_value ds)) (sym (take-append-drop i text)) ∙ ap (number_from_digits 10) (map-append digit_value (take i text) (drop i text)) in
    let split = number_after_append 10 0 front back in
    let above = number_after_ge 10 (number_from_digits 10 front) back (omega arith) in
    let mine = digits_value_is 10 (take i text) in
    omega arith

-- a byte that is no digit, or one with which the number is too large: the text is no number's
pub too_large : (text : Word) (i value : ℕ) → i < length text → value ≡ digits_value 10 (take i text)
    → (digit_value (get_or text i 0) < 10 → 2 ^ 64 ≤ value * 10 + digit_value (get_or text i 0)) → AllDigits 10 text → 2 ^ 64 ≤ digits_value 10 text
too_large text i value inside is past all =
    let more = digits_value_more 10 text i inside in
    let front = front_number text (i + 1) in
    let large = past (digit_at text i inside all) in
    omega arith

-- ---- a whole text

-- a zero stands in front of another digit
abbrev IsPadded : Word → Type 0
IsPadded text = (1 < length text) × (get_or text 0 0 ≡ 48)

one_long : (n : ℕ) → 0 < n → (1 < n → ⊥) → n ≡ 1
one_long zero some short = absurd (omega arith)
one_long (suc zero) some short = refl
one_long (suc (suc n)) some short = absurd (short (omega arith))

-- digits with no zero in front are those of their number
numeral : (text : Word) → 0 < length text → (IsPadded text → ⊥) → AllDigits 10 text → digits_value 10 text < 2 ^ 64 → text ≡ decimal (digits_value 10 text)
numeral text some plain all below = sym (decimal-digits_value own text all some (λ zero. one_long (length text) some (λ more. plain (more, zero))) below)

-- what is read of the digits is the number that the text says
pub number_read : (text : Word) (o : Option ℕ) → 0 < length text → (IsPadded text → ⊥)
    → IfSome o (λ n. (n < 2 ^ 64) × AllDigits 10 text × (n ≡ digits_value 10 text)) → IfNone o (AllDigits 10 text → 2 ^ 64 ≤ digits_value 10 text) → o ≡ number_of text
number_read text (Some n) some plain read none =
    let below : digits_value 10 text < 2 ^ 64 = omega (arith, read.0, read.2) in
    sym (number_some text n (numeral text some plain read.1 below ∙ ap decimal (sym read.2)) read.0)
number_read text None some plain read none = sym (number_none text (λ n below is. unsaid n below is))
  where
    unsaid : (n : ℕ) → n < 2 ^ 64 → text ≡ decimal n → ⊥
    unsaid n below is =
        let large = none (subst (AllDigits 10) (sym is) (digits_decimal own n below)) in
        let same : digits_value 10 text ≡ n = ap (digits_value 10) is ∙ digits_value-decimal own n below in
        omega arith

padded_not : (n : ℕ) → n < 2 ^ 64 → IsPadded (decimal n) → ⊥
padded_not zero below padded = let one = ap length (decimal_digit 0 (omega arith)) in omega (arith, padded.0)
padded_not (suc n) below padded = let first = first_decimal (suc n) (omega arith) below in omega (arith, padded.1)

-- no number has no digits, or a zero in front of others
pub number_unread : (text : Word) → (length text ≡ 0) ⊎ IsPadded text → number_of text ≡ None
number_unread text (inl none) = number_none text (λ n below is. let some = decimal_nonempty n below in let same = ap length is in omega arith)
number_unread text (inr padded) = number_none text (λ n below is. padded_not n below (subst IsPadded is padded))

-- ---- a number at the front of a text

digit_plain : (byte : ℕ) → digit_value byte < 10 → is_blank byte ≡ false
digit_plain byte digit = grind (arith, nat_tests, digit)

digits_plain : (digits : Word) → AllDigits 10 digits → AllByRecursion (λ byte. is_blank byte ≡ false) digits
digits_plain [] all = tt
digits_plain (byte ∷ digits) all = (digit_plain byte all.0, digits_plain digits all.1)

-- digits at the front, none in front of them being a zero, and behind them a blank or the end
pub number_in_front : (text : Word) (place value : ℕ) → 0 < place → place ≤ length text → (get_or text 0 0 ≡ 48 → ⊥) → value < 2 ^ 64 → AllDigits 10 (take place text) → value ≡ digits_value 10 (take place text)
    → (0 < length (drop place text) → is_blank (get_or (drop place text) 0 0) ≡ true) → one_word number_of (words_in text) ≡ Some (value, words_in (drop place text))
number_in_front text place value some inside plain below all is ends =
    let word = take place text in
    let long : 0 < length word = omega (arith, length-take place text) in
    let first : get_or word 0 0 ≡ get_or text 0 0 = front_byte place text some in
    let read : Some value ≡ number_of word = number_read word (Some value) long (λ padded. plain (sym first ∙ padded.1)) (below, all, is) tt in
    let cut : words_in text ≡ word ∷ words_in (drop place text) = ap words_in (sym (take-append-drop place text)) ∙ key_found word (drop place text) long (digits_plain word all) ends in
    rw (cut, ← read) refl
  where
    front_byte : (n : ℕ) (bytes : Word) → 0 < n → get_or (take n bytes) 0 0 ≡ get_or bytes 0 0
    front_byte zero bytes none = absurd (omega arith)
    front_byte (suc n) [] more = refl
    front_byte (suc n) (byte ∷ bytes) more = refl
