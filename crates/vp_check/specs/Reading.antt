-- How a certificate is read from left to right.
use Rattle.std.specs.Prelude.{ℕ, Bool, ◌&&◌, nat_lt, List, length, Option, Some, None, option_map, ◌⊎◌, codes, if◌then◌else◌}
use Rattle.std.proofs.Common.{inl, inr}
use Rattle.vp_card.specs.Cards.{in_deck, rises}
use Rattle.vp_card.specs.Reading.{card_of}
use Rattle.vp_text.specs.Lines.{Word}
use Rattle.vp_text.specs.Reading.{next_is, one_line, both, rows, mapped}
use Rattle.vp_text.specs.Numbers.{number_of, number_within}
use Rattle.vp_text.specs.Pieces.{Piece, ◌>>=◌, one_word, so_many, key_word}
use Rattle.vp_text.specs.Streams.{passing}
use Rattle.vp_text.specs.Sequences.{◌>>◌, after, all_of, keyed}
use Rattle.vp_text.specs.ExactReaders.{Reader}
use Rattle.vp_pay.specs.Sections.{table_at}
use Rattle.vp_pay.specs.declared.table.PayTable.{PayTable}
use Rattle.vp_suit.specs.Classes.{representatives}
use Rattle.vp_check.specs.Certificates.{Certificate}
use Rattle.vp_check.specs.declared.class_line.ClassLine.{ClassLine}

-- ---- class lines

-- its cards rise and are of a deck of n
abbrev pub rises_in : ℕ → ClassLine → Bool
rises_in n line = rises line.hand && in_deck n line.hand

-- cards, a weight, a mask and a value
abbrev pub ClassParts : Type 0
ClassParts = List ℕ × (ℕ × (ℕ × ℕ))

abbrev pub class_from : ClassParts → ClassLine
class_from p = record { hand = p.0; weight = p.1.0; mask = p.1.1.0; value = p.1.1.1 }

abbrev pub class_parts : Piece ClassParts
class_parts = after (codes "class") (so_many card_of 5 >> one_word (number_within 1 24) >> one_word (number_within 0 31) >> one_word number_of)

-- `class`, five rising cards of a deck of n, a weight from 1 to 24, a mask from 0 to 31, and a number
unfoldable pub class_of : ℕ → List Word → Option ClassLine
class_of n words = passing (rises_in n) (option_map class_from (all_of class_parts words))

-- ---- the return

-- `return`, a number, `/`, and a number
unfoldable pub return_of : List Word → Option (ℕ × ℕ)
return_of words = all_of (after (codes "return") (one_word number_of >> after (codes "/") (one_word number_of))) words

-- ---- sections

-- `cert` and a bet of 1 to so many coins
abbrev pub bet_line : ℕ → Reader ℕ
bet_line coins = one_line (keyed (codes "cert") (number_within 1 coins))

-- a class line, or the return
unfoldable pub row_of : ℕ → List Word → Option (ClassLine ⊎ (ℕ × ℕ))
row_of n words = if next_is (codes "return") words then option_map inr (return_of words) else option_map inl (class_of n words)

-- a class line may follow these where there are fewer than a deck of n has classes; the return may follow any
abbrev pub may_follow : ℕ → List ClassLine → ClassLine ⊎ (ℕ × ℕ) → Option (ClassLine ⊎ (ℕ × ℕ))
may_follow n lines (inl line) = if nat_lt (length lines) (length (representatives n)) then Some (inl line) else None
may_follow n lines (inr r) = Some (inr r)

-- a line behind these class lines is one more, or the return
unfoldable pub class_or_return : ℕ → List ClassLine → List Word → Option (ClassLine ⊎ (ℕ × ℕ))
class_or_return n lines words = do
  row ← row_of n words
  may_follow n lines row

-- class lines up to the return
abbrev pub class_lines : ℕ → Reader (List ClassLine × (ℕ × ℕ))
class_lines n = rows (class_or_return n)

-- `end` alone
abbrev pub end_of : List Word → Option (Unit {0})
end_of words = all_of (key_word (codes "end")) words

-- the last line
abbrev pub end_line : Reader (Unit {0})
end_line = one_line end_of

-- the pay table, the bet, the class lines with the return, and the end
abbrev pub CertificateParts : Type 0
CertificateParts = PayTable × (ℕ × ((List ClassLine × (ℕ × ℕ)) × Unit {0}))

-- a certificate from its parts
abbrev pub certificate_from : CertificateParts → Certificate
certificate_from p = record { table = p.0; coin = p.1.0; classes = p.1.1.0.0; sum = p.1.1.0.1.0; denominator = p.1.1.0.1.1 }

-- the parts, one after another; the deck of the table tells which cards a class line may have
abbrev pub certificate_parts_at : Reader CertificateParts
certificate_parts_at = both table_at (λ table. both (bet_line table.coins) (λ coin. both (class_lines table.deck) (λ classes. end_line)))

-- a certificate
unfoldable pub certificate_at : Reader Certificate
certificate_at = mapped certificate_from certificate_parts_at
