-- How a certificate is read when no class line is kept: what they come to is told, and they are read again later.
use Rattle.std.specs.Prelude.{◌≡◌, ℕ, ◌+◌, ◌*◌, nat_lt, List, [], ◌∷◌, length, Option, Some, None, option_map, Result, Ok, Err, ◌⊎◌, if◌then◌else◌}
use Rattle.std.proofs.Common.{inl, inr}
use Rattle.vp_text.specs.Lines.{WordLine, Feed, Past, feed_of}
use Rattle.vp_text.specs.Reading.{behind, both, by_row, mapped, whole}
use Rattle.vp_text.specs.ExactReaders.{Reader}
use Rattle.vp_text.specs.declared.refused.Refused.{Refused}
use Rattle.vp_pay.specs.Sections.{table_at}
use Rattle.vp_pay.specs.declared.table.PayTable.{PayTable}
use Rattle.vp_sets.specs.Index.{set_index}
use Rattle.vp_suit.specs.Classes.{representatives}
use Rattle.vp_check.specs.Reading.{row_of, bet_line, end_line}
use Rattle.vp_check.specs.Rows.{numbered_classes}
use Rattle.vp_check.specs.Rules.{first_of, listed_breach, cover_breach, sum_breach, denominator_breach}
use Rattle.vp_check.specs.declared.class_line.ClassLine.{ClassLine}
use Rattle.vp_check.specs.declared.listed.Broken.{Broken}
use Rattle.vp_check.specs.declared.listed.Listed.{Listed}
use Rattle.vp_check.specs.declared.numbered.Numbered.{Numbered}
use Rattle.vp_check.specs.declared.reading.Counted.{Counted}
use Rattle.vp_check.specs.declared.reading.ReadCertificate.{ReadCertificate}
use Rattle.vp_check.specs.declared.reading.Row.{Row}
use Rattle.vp_check.specs.declared.rules.Breach.{Breach}
use Rattle.vp_check.specs.declared.reading.Row.TheVariants.{Class, Return}

-- no class line
abbrev pub none_listed : Listed
none_listed = record { lines = 0; last = None; weights = 0; values = 0; broken = None }

-- the first broken rule of the cards and the weight of a class line at this place
abbrev pub broken_at : ℕ → Option ℕ → Numbered → Option Broken
broken_at place before row = option_map (λ breach. record { place = place; line = row.line; breach = breach }) (listed_breach before row.class)

-- what class lines come to with one more
unfoldable pub listed_with : Listed → Numbered → Listed
listed_with listed row = record {
  lines = listed.lines + 1;
  last = Some (set_index row.class.hand);
  weights = listed.weights + row.class.weight;
  values = listed.values + row.class.weight * row.class.value;
  broken = first_of (listed.broken ∷ broken_at (listed.lines + 1) listed.last row ∷ []);
}

-- what class lines come to behind others
abbrev pub comes_to : Listed → List Numbered → Listed
comes_to listed [] = listed
comes_to listed (row ∷ rows) = comes_to (listed_with listed row) rows

-- a row of the text
abbrev pub row_seen : Row → ClassLine ⊎ (ℕ × ℕ)
row_seen (Class class) = inl class
row_seen (Return sum denominator) = inr (sum, denominator)

-- what the class lines came to, and the return on this line
abbrev pub counted_with : Listed → ℕ → ℕ × ℕ → Counted
counted_with listed line r = record { listed = listed; return_line = line; sum = r.0; denominator = r.1 }

-- the first broken rule of the return, from what the class lines come to
abbrev pub counted_breach : ℕ → ℕ → Counted → Option Breach
counted_breach n coin counted = first_of (
    cover_breach n counted.listed.weights ∷
    sum_breach counted.sum counted.listed.values ∷
    denominator_breach n coin counted.denominator ∷ [])

-- class lines of a deck of n up to the return, behind others
abbrev pub counted_at : ℕ → List WordLine → Past → Listed → Result (Counted × Feed) ℕ
counted_at n [] past listed = Err past.line
counted_at n (line ∷ more) past listed =
    by_row (row_of n line.words) (Err line.line)
    (λ class. if nat_lt listed.lines (length (representatives n)) then counted_at n more past (listed_with listed (record { line = line.line; class = class })) else Err line.line)
    (λ r. Ok (counted_with listed line.line r, behind line more past))

-- the class lines of a deck of n
unfoldable pub counted : ℕ → Reader Counted
counted n feed = counted_at n feed.lines feed.past none_listed

-- the class lines, beside what they come to
abbrev pub counted_rows : ℕ → Reader (List Numbered × Counted)
counted_rows n feed = mapped (λ c. (numbered_classes n feed.lines, c)) (counted n) feed

-- the pay table, the bet, the class lines with the return, and the end
abbrev pub ReadParts : Type 0
ReadParts = PayTable × (ℕ × ((List Numbered × Counted) × Unit {0}))

-- what is kept of these parts
abbrev pub read_from : ReadParts → ReadCertificate
read_from p = record {
  table = p.0;
  coin = p.1.0;
  rows = p.1.1.0.0;
  counted = p.1.1.0.1;
}

-- the parts, one after another
abbrev pub read_parts_at : Reader ReadParts
read_parts_at = both table_at (λ table. both (bet_line table.coins) (λ coin. both (counted_rows table.deck) (λ rows. end_line)))

-- the certificate that a text says, as it is read, or the line where it is refused
unfoldable pub read_of : List ℕ → Result ReadCertificate ℕ
read_of bytes = whole (mapped read_from read_parts_at) (feed_of bytes)

-- this was read from a text, or it was refused at this line
abbrev pub Says : Result ReadCertificate Refused → Result ReadCertificate ℕ → Type 0
Says (Ok r) text = text ≡ Ok r
Says (Err refused) text = text ≡ Err refused.line
