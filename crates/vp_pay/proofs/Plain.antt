-- The words of a pay table, and the texts of cards, are plain: none has a blank, a line feed, a carriage return or a `#`.
use Rattle.std.proofs.Common.{◌≡◌, ℕ, ◌^◌, ◌/◌, ◌%◌, ◌≤◌, ◌<◌, Bool, true, false, cond, ◌&&◌, ◌==◌, nat_le, List, [], ◌∷◌, ◌++◌, map, length, take, get_or, refl, ap, sym, ◌∙◌, arith, Some, None, IfSome, inl, inr}
use Rattle.std.specs.Prelude.{Option, codes}
use Rattle.std.specs.List.{list_all, AllByRecursion}
use Rattle.std.specs.Fmt.{decimal}
use Rattle.std.proofs.lemmas.Bool.{cases_lt, lt-ltb, le-ltb}
use Rattle.std.proofs.lemmas.Bool.Decides.{nat_tests}
use Rattle.vp_card.specs.Cards.{held, is_rank_set}
use Rattle.vp_card.specs.Texts.{rank_letters, suit_letters, joker_text, second_joker_text, card_text, any_text, rank_set_text}
use Rattle.vp_card.specs.Reading.{rank_set_of}
use Rattle.vp_card.proofs.RankSets.{rank_set_of-text}
use Rattle.vp_text.specs.Lines.{Word}
use Rattle.vp_text.specs.Written.{IsPlainWord, IsPlainLine, IsPlainText}
use Rattle.vp_pay.specs.declared.pattern.Pattern.{Pattern}
use Rattle.vp_pay.specs.declared.pattern.Pattern.TheVariants.{Royal, StraightFlush, FiveKind, Wilds, Quads, FullHouse, Flush, Straight, Trips, TwoPair, Pair}
use Rattle.vp_pay.specs.declared.pattern.Qualifier.{Qualifier}
use Rattle.vp_pay.specs.declared.pattern.Qualifier.TheVariants.{Either, Natural, Wild}
use Rattle.vp_pay.specs.declared.table.PayLine.{PayLine}
use Rattle.vp_pay.specs.declared.table.PayTable.{PayTable}
use Rattle.vp_pay.specs.Names.{is_letter, is_name_byte, is_name}
use Rattle.vp_pay.specs.Spelling.{kicker_words, pattern_words, qualifier_word, wild_word, pay_line_words, table_text, deal_text}
use Rattle.vp_pay.specs.Table.{is_kicker, is_pattern, IsPayLine, IsTable}
use Rattle.vp_text.proofs.Pieces.{both_true}
use Rattle.vp_text.proofs.PlainWords.{AreHigh, high_word, are_high, plain_key, high_at, plain_number, plain_words}
use Rattle.vp_pay.proofs.PayLines.{unpadded}
use Rattle.vp_pay.proofs.Tables.{of_all}

-- ---- names

name_byte : (byte : ℕ) → is_name_byte byte ≡ true → 45 ≤ byte
name_byte byte is = grind (arith, nat_tests)

name_bytes_high : (bytes : List ℕ) → list_all is_name_byte bytes ≡ true → AreHigh bytes
name_bytes_high [] is = tt
name_bytes_high (byte ∷ bytes) is =
    let parts = both_true (is_name_byte byte) (list_all is_name_byte bytes) is
    in (name_byte byte parts.0, name_bytes_high bytes parts.1)

letter_high : (byte : ℕ) → is_letter byte ≡ true → 45 ≤ byte
letter_high byte is = grind (arith, nat_tests)

plain_name : (name : Word) → is_name name ≡ true → IsPlainWord name
plain_name [] is = absurd cc
plain_name (byte ∷ bytes) is =
    let parts = both_true (is_letter byte && list_all is_name_byte bytes) (nat_le (length bytes) 23) is
    in let front = both_true (is_letter byte) (list_all is_name_byte bytes) parts.0
    in high_word (byte ∷ bytes) (omega arith) (letter_high byte front.0, name_bytes_high bytes front.1)

-- ---- sets of ranks

held_high : (mask : ℕ) (letters : List ℕ) → AreHigh letters → AreHigh (held mask letters)
held_high mask [] high = tt
held_high mask (letter ∷ letters) high = chosen (mask % 2 == 1) (held_high (mask / 2) letters high.1)
  where
    chosen : (odd : Bool) → AreHigh (held (mask / 2) letters) → AreHigh (cond odd (letter ∷ held (mask / 2) letters) (held (mask / 2) letters))
    chosen true rest = (high.0, rest)
    chosen false rest = rest

letters_high : AreHigh rank_letters
unfolding rank_letters
letters_high = are_high rank_letters refl

any_high : AreHigh any_text
unfolding any_text
any_high = are_high any_text refl

set_high : (set : ℕ) → AreHigh (rank_set_text set)
unfolding rank_set_text
set_high set = chosen (set == 8191)
  where
    chosen : (all : Bool) → AreHigh (cond all any_text (held set rank_letters))
    chosen true = any_high
    chosen false = held_high set rank_letters letters_high

no_empty_set : rank_set_of [] ≡ None
unfolding rank_set_of rank_letters any_text
no_empty_set = refl

some_set : (set : ℕ) → is_rank_set set ≡ true → (text : Word) → rank_set_text set ≡ text → 0 < length text
some_set set is [] e =
    let read : None ≡ Some set = sym no_empty_set ∙ (ap rank_set_of (sym e) ∙ rank_set_of-text set is)
    in absurd cc
some_set set is (byte ∷ text) e = omega arith

pub plain_set : (set : ℕ) → is_rank_set set ≡ true → IsPlainWord (rank_set_text set)
plain_set set is = high_word (rank_set_text set) (some_set set is (rank_set_text set) refl) (set_high set)

-- ---- lines

plain_kicker : (kicker : Option ℕ) → is_kicker kicker ≡ true → AllByRecursion IsPlainWord (kicker_words kicker)
plain_kicker None is = tt
plain_kicker (Some set) is = (plain_key (codes "kicker") (omega arith) refl, (plain_set set is, tt))

five_small : (n : ℕ) → n ≤ 5 → n < 2 ^ 64
five_small n small = omega arith

plain_wilds : (count : ℕ) (kicker : Option ℕ) → is_pattern (Wilds count kicker) ≡ true → AllByRecursion IsPlainWord (pattern_words (Wilds count kicker))
plain_wilds count None is =
    let small : count ≤ 5 = grind (arith, nat_tests)
    in (plain_key (codes "wilds") (omega arith) refl, (plain_number count (five_small count small), tt))
plain_wilds count (Some set) is =
    let parts = both_true (count == 4) (is_rank_set set) is
    in let small : count ≤ 5 = grind (arith, nat_tests)
    in (plain_key (codes "wilds") (omega arith) refl, (plain_number count (five_small count small), plain_kicker (Some set) parts.1))

plain_pattern : (pattern : Pattern) → is_pattern pattern ≡ true → AllByRecursion IsPlainWord (pattern_words pattern)
plain_pattern Royal is = (plain_key (codes "royal") (omega arith) refl, tt)
plain_pattern StraightFlush is = (plain_key (codes "straight-flush") (omega arith) refl, tt)
plain_pattern (FiveKind set) is = (plain_key (codes "five-kind") (omega arith) refl, (plain_set set is, tt))
plain_pattern (Wilds count kicker) is = plain_wilds count kicker is
plain_pattern (Quads set kicker) is =
    let parts = both_true (is_rank_set set) (is_kicker kicker) is
    in (plain_key (codes "quads") (omega arith) refl, (plain_set set parts.0, plain_kicker kicker parts.1))
plain_pattern FullHouse is = (plain_key (codes "full-house") (omega arith) refl, tt)
plain_pattern Flush is = (plain_key (codes "flush") (omega arith) refl, tt)
plain_pattern Straight is = (plain_key (codes "straight") (omega arith) refl, tt)
plain_pattern Trips is = (plain_key (codes "trips") (omega arith) refl, tt)
plain_pattern TwoPair is = (plain_key (codes "two-pair") (omega arith) refl, tt)
plain_pattern (Pair set) is = (plain_key (codes "pair") (omega arith) refl, (plain_set set is, tt))

plain_qualifier : (qualifier : Qualifier) → IsPlainWord (qualifier_word qualifier)
plain_qualifier Either = plain_key (codes "either") (omega arith) refl
plain_qualifier Natural = plain_key (codes "natural") (omega arith) refl
plain_qualifier Wild = plain_key (codes "wild") (omega arith) refl

plain_payments : (pays : List ℕ) → AllByRecursion (λ pay. pay ≤ 500000) pays → AllByRecursion IsPlainWord (map decimal pays)
plain_payments [] all = tt
plain_payments (pay ∷ pays) all = (plain_number pay (omega (arith, all.0)), plain_payments pays all.1)

plain_line : (coins : ℕ) (line : PayLine) → coins ≤ 5 → IsPayLine coins line → IsPlainLine (pay_line_words coins line)
unfolding pay_line_words
plain_line coins line few is =
    let pays = unpadded coins line.pays few is.pays
    in (
      omega arith,
      (
        plain_key (codes "line") (omega arith) refl,
        (
          plain_name line.name is.name,
          plain_words (pattern_words line.pattern) (qualifier_word line.qualifier ∷ map decimal (take coins line.pays)) (plain_pattern line.pattern is.pattern)
              (plain_qualifier line.qualifier, plain_payments (take coins line.pays) pays.0.all),
        ),
      ),
    )

thirteen : length rank_letters ≡ 13
unfolding rank_letters
thirteen = refl

plain_wild : (wild : Option ℕ) → IfSome wild (λ rank. rank < 13) → IsPlainWord (wild_word wild)
plain_wild None is = plain_key (codes "none") (omega arith) refl
plain_wild (Some rank) is = high_word (get_or rank_letters rank 0 ∷ []) (omega arith) (high_at rank_letters rank (omega (arith, thirteen, is)) letters_high, tt)

plain_lines : (coins : ℕ) (lines : List PayLine) → coins ≤ 5 → AllByRecursion (IsPayLine coins) lines → AllByRecursion IsPlainLine (map (pay_line_words coins) lines ++ (codes "end" ∷ []) ∷ [])
plain_lines coins [] few all = ((omega arith, (plain_key (codes "end") (omega arith) refl, tt)), tt)
plain_lines coins (line ∷ lines) few all = (plain_line coins line few all.0, plain_lines coins lines few all.1)

two : (first second : Word) → IsPlainWord first → IsPlainWord second → IsPlainLine (first ∷ second ∷ [])
two first second a b = (omega arith, (a, (b, tt)))

pub plain_table : (t : PayTable) → IsTable t → IsPlainText (table_text t)
unfolding table_text
plain_table t is = (
  two (codes "table") t.name (plain_key (codes "table") (omega arith) refl) (plain_name t.name is.name),
  (
    two (codes "deck") (decimal t.deck) (plain_key (codes "deck") (omega arith) refl) (plain_number t.deck (omega (arith, is.known_deck.1))),
    (
      two (codes "wild") (wild_word t.wild) (plain_key (codes "wild") (omega arith) refl) (plain_wild t.wild is.wild),
      (
        two (codes "coins") (decimal t.coins) (plain_key (codes "coins") (omega arith) refl) (plain_number t.coins (omega (arith, is.most_coins))),
        plain_lines t.coins t.lines.items is.most_coins (of_all (IsPayLine t.coins) t.lines.items is.lines),
      ),
    ),
  ),
)

-- ---- cards

suits_high : AreHigh suit_letters
unfolding suit_letters
suits_high = are_high suit_letters refl

four : length suit_letters ≡ 4
unfolding suit_letters
four = refl

-- a card's text
either : (first : Bool) → IsPlainWord (cond first joker_text second_joker_text)
unfolding joker_text second_joker_text
either true = plain_key (codes "Jo") (omega arith) refl
either false = plain_key (codes "Jk") (omega arith) refl

pub plain_card : (card : ℕ) → IsPlainWord (card_text card)
unfolding card_text joker_text second_joker_text
plain_card card = elim (cases_lt card 52) [
  | inl natural ↦
      let rank_byte : 45 ≤ get_or rank_letters (card / 4) 0 = high_at rank_letters (card / 4) (omega (arith, thirteen)) letters_high in
      let suit_byte : 45 ≤ get_or suit_letters (card % 4) 0 = high_at suit_letters (card % 4) (omega (arith, four)) suits_high in
      rw (lt-ltb card 52 natural) (high_word (get_or rank_letters (card / 4) 0 ∷ get_or suit_letters (card % 4) 0 ∷ []) (omega arith) (rank_byte, (suit_byte, tt)))
  | inr joker ↦ rw (le-ltb card 52 joker) (either (card == 52))
]

plain_cards : (cards : List ℕ) → AllByRecursion IsPlainWord (map card_text cards)
plain_cards [] = tt
plain_cards (card ∷ cards) = (plain_card card, plain_cards cards)

pub plain_deal : (cards : List ℕ) → IsPlainText (deal_text cards)
unfolding deal_text
plain_deal cards = ((omega arith, (plain_key (codes "deal") (omega arith) refl, plain_cards cards)), tt)
