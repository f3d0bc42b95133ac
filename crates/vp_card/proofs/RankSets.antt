-- Texts of sets of ranks: each set is read from its text, and from no other.
use Rattle.std.proofs.Common.{◌≡◌, ℕ, ◌+◌, ◌*◌, ◌/◌, ◌%◌, ◌^◌, ◌<◌, ◌≤◌, Bool, true, false, cond, not, ◌==◌, eqb, List, [], ◌∷◌, length, drop, refl, ap, sym, ◌∙◌, arith, Some, None, eqb-true, eq-eqb, IfSome, pow-suc, mul-zero}
use Rattle.std.specs.Prelude.{Option, option_map, bytes_eq}
use Rattle.std.specs.Bool.{then_some}
use Rattle.std.proofs.lemmas.List.{drop_all}
use Rattle.std.proofs.Math.Pow.{pow_mono}
use Rattle.std.proofs.lemmas.Bool.{and_parts, eqb-false}
use Rattle.std.proofs.lemmas.Bool.Decides.{nat_tests}
use Rattle.std.proofs.lemmas.Slice.Eq.{bytes_eq-Decides}
use Rattle.vp_card.specs.Cards.{held, is_rank_set, absent, all_differ}
use Rattle.vp_card.specs.Texts.{rank_letters, any_text, rank_set_text}
use Rattle.vp_card.specs.Reading.{bits_of, begins, some_not_all, and_some, rank_set_of}
use Rattle.vp_card.proofs.Texts.{same_text, found_text}

-- a letter that is none of these begins no text of them
begins-held : (letter mask : ℕ) (letters : List ℕ) → absent letter letters ≡ true → begins letter (held mask letters) ≡ false
begins-held letter mask [] fresh = refl
begins-held letter mask (other ∷ more) fresh =
    let parts = and_parts _ _ fresh
    in chosen (mask % 2 == 1) (differ _ parts.0) (begins-held letter (mask / 2) more parts.1)
  where
    differ : (same : Bool) → not same ≡ true → same ≡ false
    differ true h = sym h
    differ false h = refl

    chosen : (odd : Bool) → (letter == other) ≡ false → begins letter (held (mask / 2) more) ≡ false → begins letter (cond odd (other ∷ held (mask / 2) more) (held (mask / 2) more)) ≡ false
    chosen true unlike later = unlike
    chosen false unlike later = later

-- a text that begins otherwise lacks the letter
bits_of-lacks : (letter : ℕ) (letters text : List ℕ) → begins letter text ≡ false → bits_of (letter ∷ letters) text ≡ option_map (λ bits. 2 * bits) (bits_of letters text)
bits_of-lacks letter letters [] other = refl
bits_of-lacks letter letters (byte ∷ text) other = rw other

bits_of-has : (letter : ℕ) (letters text : List ℕ) → bits_of (letter ∷ letters) (letter ∷ text) ≡ option_map (λ bits. 2 * bits + 1) (bits_of letters text)
bits_of-has letter letters text = rw (eq-eqb letter letter refl)

-- the letters of a mask are read as this mask
pub bits_of-held : (letters : List ℕ) (mask : ℕ) → all_differ letters ≡ true → mask < 2 ^ length letters → bits_of letters (held mask letters) ≡ Some mask
bits_of-held [] mask differ below = ap Some (omega arith)
bits_of-held (letter ∷ letters) mask differ below =
    let parts = and_parts (absent letter letters) (all_differ letters) differ
    in let half : mask / 2 < 2 ^ length letters = omega (arith, pow-suc 2 (length letters))
    in chosen (mask % 2 == 1) refl (begins-held letter (mask / 2) letters parts.0) (bits_of-held letters (mask / 2) parts.1 half)
  where
    chosen : (odd : Bool) → (mask % 2 == 1) ≡ odd → begins letter (held (mask / 2) letters) ≡ false → bits_of letters (held (mask / 2) letters) ≡ Some (mask / 2)
        → bits_of (letter ∷ letters) (cond odd (letter ∷ held (mask / 2) letters) (held (mask / 2) letters)) ≡ Some mask
    chosen true is_odd fresh rest =
        let one : mask % 2 ≡ 1 = eqb-true _ _ is_odd
        in bits_of-has letter letters (held (mask / 2) letters) ∙ (rw rest (ap Some (omega arith)))
    chosen false is_even fresh rest =
        let other : (mask % 2 ≡ 1) → ⊥ = eqb-false _ _ is_even
        in bits_of-lacks letter letters (held (mask / 2) letters) fresh ∙ (rw rest (ap Some (omega arith)))

-- a number that is twice another one, or one more
double : (o : Option ℕ) (mask : ℕ) → option_map (λ bits. 2 * bits) o ≡ Some mask → (bits : ℕ) × (o ≡ Some bits) × (mask ≡ 2 * bits)
double None mask h = cc
double (Some bits) mask h = let e : 2 * bits ≡ mask = cc in (bits, refl, sym e)

one_more : (o : Option ℕ) (mask : ℕ) → option_map (λ bits. 2 * bits + 1) o ≡ Some mask → (bits : ℕ) × (o ≡ Some bits) × (mask ≡ 2 * bits + 1)
one_more None mask h = cc
one_more (Some bits) mask h = let e : 2 * bits + 1 ≡ mask = cc in (bits, refl, sym e)

held-double : (bits mask letter : ℕ) (letters : List ℕ) → mask ≡ 2 * bits → held mask (letter ∷ letters) ≡ held bits letters
held-double bits mask letter letters is =
    let even : (mask % 2 == 1) ≡ false = grind (arith, nat_tests)
    in let half : mask / 2 ≡ bits = omega arith
    in rw (even, half)

held-one_more : (bits mask letter : ℕ) (letters : List ℕ) → mask ≡ 2 * bits + 1 → held mask (letter ∷ letters) ≡ letter ∷ held bits letters
held-one_more bits mask letter letters is =
    let odd : (mask % 2 == 1) ≡ true = eq-eqb _ _ (omega arith)
    in let half : mask / 2 ≡ bits = omega arith
    in rw (odd, half)

-- what is read as a mask are the letters of this mask
pub held-bits_of : (letters text : List ℕ) (mask : ℕ) → bits_of letters text ≡ Some mask → (mask < 2 ^ length letters) × (held mask letters ≡ text)
held-bits_of [] [] mask read = let e : 0 ≡ mask = cc in (omega arith, refl)
held-bits_of [] (byte ∷ text) mask read = cc
held-bits_of (letter ∷ letters) [] mask read =
    let bits = double _ _ read
    in let rest = held-bits_of letters [] bits.0 bits.1
    in (omega (arith, pow-suc 2 (length letters)), held-double bits.0 mask letter letters bits.2 ∙ rest.1)
held-bits_of (letter ∷ letters) (byte ∷ text) mask read = chosen (letter == byte) (held-bits_of letters text) (held-bits_of letters (byte ∷ text)) refl read
  where
    chosen : (same : Bool)
        → ((m : ℕ) → bits_of letters text ≡ Some m → (m < 2 ^ length letters) × (held m letters ≡ text))
        → ((m : ℕ) → bits_of letters (byte ∷ text) ≡ Some m → (m < 2 ^ length letters) × (held m letters ≡ byte ∷ text))
        → (letter == byte) ≡ same → cond same (option_map (λ bits. 2 * bits + 1) (bits_of letters text)) (option_map (λ bits. 2 * bits) (bits_of letters (byte ∷ text))) ≡ Some mask
        → (mask < 2 ^ length (letter ∷ letters)) × (held mask (letter ∷ letters) ≡ byte ∷ text)
    chosen true after all is_same here =
        let bits = one_more _ _ here
        in let rest = after bits.0 bits.1
        in let letter_is : letter ≡ byte = eqb-true _ _ is_same
        in (omega (arith, pow-suc 2 (length letters)), held-one_more bits.0 mask letter letters bits.2 ∙ (rw (letter_is, rest.1)))
    chosen false after all unlike here =
        let bits = double _ _ here
        in let rest = all bits.0 bits.1
        in (omega (arith, pow-suc 2 (length letters)), held-double bits.0 mask letter letters bits.2 ∙ rest.1)

-- ---- reading the letters one by one

-- at the end the text is used up, or it is none of the letters
pub bits_of-end : (letters rest : List ℕ) (i bits bit : ℕ) (all : Option ℕ) → length letters ≤ i
    → option_map (λ s. bits + bit * s) (bits_of (drop i letters) rest) ≡ all
    → then_some (length rest == 0) bits ≡ all
bits_of-end letters rest i bits bit all past so_far =
    ending rest (rw (drop_all i letters) at so_far)
  where
    ending : (rest : List ℕ) → option_map (λ s. bits + bit * s) (bits_of [] rest) ≡ all → then_some (length rest == 0) bits ≡ all
    ending [] h = ap Some (let none : bits ≡ bits + bit * 0 = rw mul-zero (omega arith) in none) ∙ h
    ending (byte ∷ more) h =
        let some : (length (byte ∷ more) == 0) ≡ false = grind (arith, nat_tests)
        in ap (λ test. then_some test bits) some ∙ h

-- a bit of one of thirteen ranks
pub bit_fits : (bit i : ℕ) → bit ≡ 2 ^ i → i < 13 → bit * 2 ≤ 8192
bit_fits bit i is below = let most = pow_mono {i = i} {j = 12} (omega arith) in omega arith

-- ---- sets of ranks

letters_differ : all_differ rank_letters ≡ true
unfolding rank_letters
letters_differ = refl

-- there are thirteen ranks
pub letters_are : length rank_letters ≡ 13
unfolding rank_letters
letters_are = refl

any_is_other : absent 97 rank_letters ≡ true
unfolding rank_letters
any_is_other = refl

no_set_is_any : (text : List ℕ) → begins 97 text ≡ false → bytes_eq text any_text ≡ false
unfolding any_text
no_set_is_any [] other = refl
no_set_is_any (byte ∷ text) other =
    let unlike : eqb byte 97 ≡ false = grind (arith, nat_tests)
    in rw unlike

any_is_any : bytes_eq any_text any_text ≡ true
unfolding any_text
any_is_any = refl

-- each set is read from its text
pub rank_set_of-text : (set : ℕ) → is_rank_set set ≡ true → rank_set_of (rank_set_text set) ≡ Some set
unfolding rank_set_of rank_set_text
rank_set_of-text set is_set = chosen (set == 8191) refl
  where
    chosen : (full : Bool) → (set == 8191) ≡ full
        → (let text = cond full any_text (held set rank_letters) in cond (bytes_eq text any_text) (Some 8191) (and_some (bits_of rank_letters text))) ≡ Some set
    chosen true is_full = rw any_is_any (ap Some (sym (eqb-true _ _ is_full)))
    chosen false not_full =
        let some : (set == 0) ≡ false = grind (arith, nat_tests)
        in let low : set < 2 ^ length rank_letters = rw letters_are (grind (arith, nat_tests))
        in rw (no_set_is_any (held set rank_letters) (begins-held 97 set rank_letters any_is_other), bits_of-held rank_letters set letters_differ low, some, not_full)

some_set : (bits set : ℕ) → bits < 8192 → some_not_all bits ≡ Some set → (is_rank_set set ≡ true) × ((set == 8191) ≡ false) × (bits ≡ set)
some_set bits set low read = chosen (bits == 0) (bits == 8191) refl refl read
  where
    chosen : (empty full : Bool) → (bits == 0) ≡ empty → (bits == 8191) ≡ full → cond empty None (cond full None (Some bits)) ≡ Some set
        → (is_rank_set set ≡ true) × ((set == 8191) ≡ false) × (bits ≡ set)
    chosen true full is_empty is_full here = cc
    chosen false true is_empty is_full here = cc
    chosen false false is_empty is_full here =
        let same : bits ≡ set = cc
        in let is_set : is_rank_set set ≡ true = grind (arith, nat_tests)
        in (is_set, ap (λ n. n == 8191) (sym same) ∙ is_full, same)

read_set : (text : List ℕ) (set : ℕ) (bits : Option ℕ) → bits_of rank_letters text ≡ bits → and_some bits ≡ Some set → (is_rank_set set ≡ true) × (rank_set_text set ≡ text)
unfolding rank_set_text
read_set text set None is here = cc
read_set text set (Some bits) is here =
    let letters = held-bits_of rank_letters text bits is
    in let low : bits < 8192 = rw letters_are at letters.0
    in let of_set = some_set bits set low here
    in (of_set.0, rw (of_set.1, ← of_set.2) letters.1)

-- a set is read from its text alone
pub text-rank_set_of : (text : List ℕ) (set : ℕ) → rank_set_of text ≡ Some set → (is_rank_set set ≡ true) × (rank_set_text set ≡ text)
unfolding rank_set_of rank_set_text
text-rank_set_of text set read = chosen (bytes_eq text any_text) (bytes_eq-Decides text any_text).0 read
  where
    chosen : (all : Bool) → (all ≡ true → text ≡ any_text) → cond all (Some 8191) (and_some (bits_of rank_letters text)) ≡ Some set → (is_rank_set set ≡ true) × (rank_set_text set ≡ text)
    chosen true same here =
        let full : 8191 ≡ set = cc
        in (grind (arith, nat_tests), rw (← full) (sym (same refl)))
    chosen false same here = read_set text set (bits_of rank_letters text) refl here

-- two sets with one text are one set
pub rank_set_text-same : (a b : ℕ) → is_rank_set a ≡ true → is_rank_set b ≡ true → rank_set_text a ≡ rank_set_text b → a ≡ b
rank_set_text-same a b is_a is_b same = same_text rank_set_text rank_set_of a b (rank_set_of-text a is_a) (rank_set_of-text b is_b) same

-- what a reader of sets answers
pub found_rank_set : (text : List ℕ) (read : Option ℕ) → read ≡ rank_set_of text → IfSome read (λ set. rank_set_text set ≡ text)
found_rank_set text read is = found_text rank_set_text rank_set_of (λ t set r. (text-rank_set_of t set r).1) text read is
