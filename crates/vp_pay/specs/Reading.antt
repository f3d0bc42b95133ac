-- How a pay table and a deal line are read from left to right.
use Rattle.std.specs.Prelude.{ℕ, ◌-◌, Bool, not, ◌&&◌, ◌==◌, nat_lt, List, [], ◌∷◌, ◌++◌, length, replicate, Option, Some, None, option_map, bytes_eq, codes, if◌then◌else◌}
use Rattle.std.specs.List.{list_any}
use Rattle.vp_card.specs.Cards.{in_deck, is_deck, all_differ, in_order}
use Rattle.vp_card.specs.Reading.{rank_of, rank_set_of, card_of}
use Rattle.vp_text.specs.Lines.{Word}
use Rattle.vp_text.specs.Reading.{next_is}
use Rattle.vp_text.specs.Numbers.{number_of, number_within}
use Rattle.vp_text.specs.Pieces.{Piece, ◌>>=◌, one_word, so_many, key_word}
use Rattle.vp_text.specs.Sequences.{◌>>◌, after, all_of}
use Rattle.vp_text.specs.Streams.{passing}
use Rattle.vp_pay.specs.Names.{is_name}
use Rattle.vp_pay.specs.declared.pattern.Pattern.{Pattern}
use Rattle.vp_pay.specs.declared.pattern.Pattern.TheVariants.{Royal, StraightFlush, FiveKind, Wilds, Quads, FullHouse, Flush, Straight, Trips, TwoPair, Pair}
use Rattle.vp_pay.specs.declared.pattern.Qualifier.{Qualifier}
use Rattle.vp_pay.specs.declared.pattern.Qualifier.TheVariants.{Either, Natural, Wild}
use Rattle.vp_pay.specs.declared.table.PayLine.{PayLine}

-- ---- one word

unfoldable pub name_of : Word → Option Word
name_of text = if is_name text then Some text else None

-- the number of cards of a deck
abbrev pub a_deck : ℕ → Option ℕ
a_deck n = if is_deck n then Some n else None

unfoldable pub deck_of : Word → Option ℕ
deck_of text = number_of text >>= a_deck

-- a number from 1 to 5
abbrev pub one_to_five : Word → Option ℕ
one_to_five = number_within 1 5

abbrev pub letter_of_rank : Word → Option (Option ℕ)
letter_of_rank (letter ∷ []) = option_map Some (rank_of letter)
letter_of_rank _ = None

-- `none`, or the letter of a rank
unfoldable pub wild_of : Word → Option (Option ℕ)
wild_of text = if bytes_eq text (codes "none") then Some None else letter_of_rank text

unfoldable pub qualifier_of : Word → Option Qualifier
qualifier_of text =
    if bytes_eq text (codes "either") then Some Either else (if bytes_eq text (codes "natural") then Some Natural else (if bytes_eq text (codes "wild") then Some Wild else None))

-- a pattern of one word
unfoldable pub plain_of : Word → Option Pattern
plain_of text =
    if bytes_eq text (codes "royal") then Some Royal else (
    if bytes_eq text (codes "straight-flush") then Some StraightFlush else (
    if bytes_eq text (codes "full-house") then Some FullHouse else (
    if bytes_eq text (codes "flush") then Some Flush else (
    if bytes_eq text (codes "straight") then Some Straight else (
    if bytes_eq text (codes "trips") then Some Trips else (
    if bytes_eq text (codes "two-pair") then Some TwoPair else None))))))

-- ---- patterns

-- a second set behind `kicker`, or none
unfoldable pub kicker_piece : Piece (Option ℕ)
kicker_piece words =
    if next_is (codes "kicker") words then (do
      key ← key_word (codes "kicker") words
      set ← one_word rank_set_of key.1
      Some (Some set.0, set.1)
    ) else Some (None, words)

-- only four wild cards have a kicker
abbrev pub wilds_of : ℕ → Option ℕ → Option Pattern
wilds_of count None = Some (Wilds count None)
wilds_of count (Some set) = if count == 4 then Some (Wilds count (Some set)) else None

unfoldable pub wilds_piece : Piece Pattern
wilds_piece words = do
  count ← one_word one_to_five words
  kicker ← kicker_piece count.1
  pattern ← wilds_of count.0 kicker.0
  Some (pattern, kicker.1)

unfoldable pub quads_piece : Piece Pattern
quads_piece words = do
  set ← one_word rank_set_of words
  kicker ← kicker_piece set.1
  Some (Quads set.0 kicker.0, kicker.1)

abbrev pub set_piece : (ℕ → Pattern) → Piece Pattern
set_piece pattern words = do
  set ← one_word rank_set_of words
  Some (pattern set.0, set.1)

-- the words behind the first word of a pattern
unfoldable pub pattern_behind : Word → Piece Pattern
pattern_behind word words =
    if bytes_eq word (codes "five-kind") then set_piece FiveKind words else (
    if bytes_eq word (codes "wilds") then wilds_piece words else (
    if bytes_eq word (codes "quads") then quads_piece words else (
    if bytes_eq word (codes "pair") then set_piece Pair words else option_map (λ pattern. (pattern, words)) (plain_of word))))

unfoldable pub pattern_piece : Piece Pattern
pattern_piece [] = None
pattern_piece (word ∷ words) = pattern_behind word words

-- ---- payments

-- a payment: a number up to 500000
abbrev pub payment_of : Word → Option ℕ
payment_of = number_within 0 500000

-- payments for all five columns; those above the table's coins are 0
unfoldable pub columns_piece : ℕ → Piece (List ℕ)
columns_piece coins words = do
  pays ← so_many payment_of coins words
  Some (pays.0 ++ replicate (5 - coins) 0, pays.1)

-- ---- pay lines

-- a name, a pattern, a qualifier and payments
abbrev pub LineParts : Type 0
LineParts = Word × (Pattern × (Qualifier × List ℕ))

abbrev pub line_from : LineParts → PayLine
line_from p = record { name = p.0; pattern = p.1.0; qualifier = p.1.1.0; pays = p.1.1.1 }

abbrev pub line_parts : ℕ → Piece LineParts
line_parts coins = after (codes "line") (one_word name_of >> pattern_piece >> one_word qualifier_of >> columns_piece coins)

-- a pay line of a table with `coins` bets
unfoldable pub pay_line_of : ℕ → List Word → Option PayLine
pay_line_of coins words = option_map line_from (all_of (line_parts coins) words)

-- a line has the name
abbrev pub has_name : List PayLine → Word → Bool
has_name lines name = list_any (λ line. bytes_eq line.name name) lines

-- a line may follow these: there are fewer than 32, and none has its name
abbrev pub may_follow : List PayLine → PayLine → Option PayLine
may_follow lines line = if nat_lt (length lines) 32 && not (has_name lines line.name) then Some line else None

unfoldable pub next_line_of : ℕ → List PayLine → List Word → Option PayLine
next_line_of coins lines words = do
  line ← pay_line_of coins words
  may_follow lines line

-- ---- deals

-- five different cards of the deck
abbrev pub is_dealt_from : ℕ → List ℕ → Bool
is_dealt_from deck cards = in_deck deck cards && all_differ cards

-- the cards of a deal line, in the order of dealing
unfoldable pub deal_of : ℕ → List Word → Option (List ℕ)
deal_of deck words = passing (is_dealt_from deck) (all_of (after (codes "deal") (so_many card_of 5)) words)

-- the hand of a deal line
unfoldable pub hand_of : ℕ → List Word → Option (List ℕ)
hand_of deck words = option_map in_order (deal_of deck words)
