-- Texts of cards: each card is read from its text, and from no other.
use Rattle.std.proofs.Common.{◌≡◌, ℕ, ◌+◌, ◌*◌, ◌/◌, ◌%◌, ◌<◌, Bool, true, false, cond, ◌==◌, nat_lt, List, [], ◌∷◌, length, get_or, refl, ap, sym, ◌∙◌, arith, Some, None, true≢false, eqb-true, IfSome}
use Rattle.std.specs.Prelude.{Option, bytes_eq, slice_index, if◌then◌else◌}
use Rattle.std.specs.List.{list_all, range_with_len}
use Rattle.std.proofs.lemmas.Bool.Decides.{nat_tests}
use Rattle.std.proofs.lemmas.List.Sums.{AllPass-from_list_all}
use Rattle.std.proofs.lemmas.List.Elements.{All-get_or}
use Rattle.std.proofs.lemmas.List.FromFn.{get_or-range_with_len, length-range_with_len}
use Rattle.std.proofs.lemmas.List.Quantifiers.{position-Some}
use Rattle.std.proofs.lemmas.Slice.Eq.{bytes_eq-Decides}
use Rattle.vp_card.specs.Cards.{rank, suit}
use Rattle.vp_card.specs.Texts.{rank_letters, suit_letters, joker_text, second_joker_text, card_text}
use Rattle.vp_card.specs.Reading.{rank_of, suit_of, natural_card, natural_of, card_of}

-- what holds of each number below n by test holds of one of them
pub at_below : (test : ℕ → Bool) (n i : ℕ) → list_all test (range_with_len 0 n) ≡ true → i < n → test i ≡ true
at_below test n i all below =
    let e : get_or (range_with_len 0 n) i 0 ≡ i = get_or-range_with_len 0 n i 0 below ∙ omega arith
    in ap test (sym e) ∙ All-get_or (λ j. test j ≡ true) (range_with_len 0 n) i 0 (rw length-range_with_len below) (AllPass-from_list_all test (range_with_len 0 n) all)

-- a number is read
pub reads : ℕ → Option ℕ → Bool
reads n None = false
reads n (Some m) = m == n

reads-Some : (n : ℕ) (read : Option ℕ) → reads n read ≡ true → read ≡ Some n
unfolding reads
reads-Some n None h = absurd (true≢false (sym h))
reads-Some n (Some m) h = ap Some (eqb-true m n h)

all_are_read : list_all (λ n. reads n (card_of (card_text n))) (range_with_len 0 54) ≡ true
unfolding reads card_of card_text rank_letters suit_letters joker_text second_joker_text rank_of suit_of
all_are_read = refl

-- each card is read from its text
pub card_of-text : (card : ℕ) → card < 54 → card_of (card_text card) ≡ Some card
card_of-text card below = reads-Some card _ (at_below (λ n. reads n (card_of (card_text n))) 54 card all_are_read below)

all_ranks_are_read : list_all (λ r. reads r (rank_of (get_or rank_letters r 0))) (range_with_len 0 13) ≡ true
unfolding reads rank_letters rank_of
all_ranks_are_read = refl

-- each rank is read from its letter
pub rank_of-again : (rank : ℕ) → rank < 13 → rank_of (get_or rank_letters rank 0) ≡ Some rank
rank_of-again rank below = reads-Some rank _ (at_below (λ r. reads r (rank_of (get_or rank_letters r 0))) 13 rank all_ranks_are_read below)

-- the letter of a rank that was read, and of a suit
pub rank_of-letter : (byte rank : ℕ) → rank_of byte ≡ Some rank → (rank < 13) × (get_or rank_letters rank 0 ≡ byte)
unfolding rank_of rank_letters
rank_of-letter byte rank read =
    let p = position-Some (λ letter. letter == byte) rank_letters rank 0 read
    in (p.0, eqb-true _ _ p.1)

pub suit_of-letter : (byte suit : ℕ) → suit_of byte ≡ Some suit → (suit < 4) × (get_or suit_letters suit 0 ≡ byte)
unfolding suit_of suit_letters
suit_of-letter byte suit read =
    let p = position-Some (λ letter. letter == byte) suit_letters suit 0 read
    in (p.0, eqb-true _ _ p.1)

natural_card_text : (rank suit : ℕ) → rank < 13 → suit < 4 → card_text (4 * rank + suit) ≡ get_or rank_letters rank 0 ∷ get_or suit_letters suit 0 ∷ []
unfolding card_text
natural_card_text r s low few =
    let natural : nat_lt (4 * r + s) 52 ≡ true = grind (arith, nat_tests)
    in let its_rank : (4 * r + s) / 4 ≡ r = omega arith
    in let its_suit : (4 * r + s) % 4 ≡ s = omega arith
    in rw (natural, its_rank, its_suit)

text_of_natural : (x y card : ℕ) (r s : Option ℕ) → rank_of x ≡ r → suit_of y ≡ s → natural_card r s ≡ Some card → (card < 54) × (card_text card ≡ x ∷ y ∷ [])
text_of_natural x y card None s is_r is_s read = cc
text_of_natural x y card (Some r) None is_r is_s read = cc
text_of_natural x y card (Some r) (Some s) is_r is_s read =
    let rank = rank_of-letter x r is_r
    in let suit = suit_of-letter y s is_s
    in let number : card ≡ 4 * r + s = cc
    in (omega arith, rw number (natural_card_text r s rank.0 suit.0 ∙ (rw (rank.1, suit.1))))

text-natural_of : (text : List ℕ) (card : ℕ) → natural_of text ≡ Some card → (card < 54) × (card_text card ≡ text)
text-natural_of [] card read = cc
text-natural_of (x ∷ []) card read = cc
text-natural_of (x ∷ y ∷ []) card read = text_of_natural x y card (rank_of x) (suit_of y) refl refl read
text-natural_of (x ∷ y ∷ z ∷ more) card read = cc

-- a card's text has two bytes
pub card_text_length : (card : ℕ) → length (card_text card) ≡ 2
unfolding card_text joker_text second_joker_text
card_text_length card =
    elim (nat_lt card 52) as (λ b. length (if b then slice_index rank_letters (rank card) ∷ slice_index suit_letters (suit card) ∷ [] else (if card == 52 then joker_text else second_joker_text)) ≡ 2) [
      | true ↦ refl
      | false ↦ elim (card == 52) as (λ b. length (if b then joker_text else second_joker_text) ≡ 2) [ true ↦ refl | false ↦ refl ]
    ]

joker : card_text 52 ≡ joker_text
unfolding card_text
joker = refl

second_joker : card_text 53 ≡ second_joker_text
unfolding card_text
second_joker = refl

card_or : (first second : Bool) (text : List ℕ) (card : ℕ) → (first ≡ true → text ≡ joker_text) → (second ≡ true → text ≡ second_joker_text) → cond first (Some 52) (cond second (Some 53) (natural_of text)) ≡ Some card → (card < 54) × (card_text card ≡ text)
card_or true second text card one two read =
    let number : card ≡ 52 = cc
    in (omega arith, rw number (joker ∙ sym (one refl)))
card_or false true text card one two read =
    let number : card ≡ 53 = cc
    in (omega arith, rw number (second_joker ∙ sym (two refl)))
card_or false false text card one two read = text-natural_of text card read

-- a card is read from its text alone
pub text-card_of : (text : List ℕ) (card : ℕ) → card_of text ≡ Some card → (card < 54) × (card_text card ≡ text)
unfolding card_of
text-card_of text card read = card_or (bytes_eq text joker_text) (bytes_eq text second_joker_text) text card (bytes_eq-Decides text joker_text).0 (bytes_eq-Decides text second_joker_text).0 read

-- ---- values that are read from their texts

-- two values with one text, each of which is read from it, are one
pub same_text : (text : ℕ → List ℕ) (read : List ℕ → Option ℕ) (a b : ℕ) → read (text a) ≡ Some a → read (text b) ≡ Some b → text a ≡ text b → a ≡ b
same_text text read a b is_a is_b same =
    let once : Some a ≡ Some b = sym is_a ∙ (ap read same ∙ is_b)
    in cc

-- where a value is read from its text alone, what is read has the text
pub found_text : (text : ℕ → List ℕ) (read : List ℕ → Option ℕ) → ((letters : List ℕ) (value : ℕ) → read letters ≡ Some value → text value ≡ letters)
    → (letters : List ℕ) (found : Option ℕ) → found ≡ read letters → IfSome found (λ value. text value ≡ letters)
found_text text read alone letters None is = tt
found_text text read alone letters (Some value) is = alone letters value (sym is)

-- two cards with one text are one card
pub card_text-same : (a b : ℕ) → a < 54 → b < 54 → card_text a ≡ card_text b → a ≡ b
card_text-same a b is_a is_b same = same_text card_text card_of a b (card_of-text a is_a) (card_of-text b is_b) same

-- what a reader of cards answers
pub found_card : (text : List ℕ) (read : Option ℕ) → read ≡ card_of text → IfSome read (λ card. card_text card ≡ text)
found_card text read is = found_text card_text card_of (λ t card r. (text-card_of t card r).1) text read is
