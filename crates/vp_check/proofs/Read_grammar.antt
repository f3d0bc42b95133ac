-- What a reader of certificates gives is what the text says, with the numbers of its lines.
use Rattle.std.proofs.Common.{◌≡◌, ℕ, ◌+◌, List, [], ◌∷◌, ◌++◌, length, refl, sym, ap, subst, ◌∙◌, arith, slice_index, length-append, append_assoc}
use Rattle.std.specs.Prelude.{Result, Ok, Err, IfOk, IfErr, codes}
use Rattle.std.specs.Fmt.{decimal}
use Rattle.std.proofs.lemmas.List.{map-append, length-map}
use Rattle.std.proofs.Math.Seq.{get_or-append_seam}
use Rattle.vp_text.specs.Lines.{Word, WordLine, Feed, feed_of}
use Rattle.vp_text.specs.Sections.{Text, text_of}
use Rattle.vp_text.specs.Reading.{◌>>=◌, ended}
use Rattle.vp_text.specs.declared.refused.Refused.{Refused}
use Rattle.vp_text.proofs.Spelled.{ok_is, err_is}
use Rattle.vp_pay.specs.Spelling.{table_text}
use Rattle.vp_pay.specs.Sections.{table_at}
use Rattle.vp_pay.specs.Table.{IsTable}
use Rattle.vp_pay.specs.declared.table.PayTable.{PayTable}
use Rattle.vp_pay.proofs.Tables.{Exact-table}
use Rattle.vp_check.specs.Certificates.{Certificate}
use Rattle.vp_check.specs.Checking.{certificate_of, line_number}
use Rattle.vp_check.specs.Listing.{comes_to, counted_rows, none_listed, ReadParts, read_from, read_parts_at, read_of, Says}
use Rattle.vp_check.specs.Read.{certificate_read, AreAt, IsRead}
use Rattle.vp_check.specs.Reading.{bet_line, class_lines, end_line, CertificateParts, certificate_from, certificate_parts_at, certificate_at}
use Rattle.vp_check.specs.declared.class_line.ClassLine.{ClassLine}
use Rattle.vp_check.specs.Rows.{classes_of}
use Rattle.vp_check.specs.declared.numbered.Numbered.{Numbered}
use Rattle.vp_check.specs.declared.reading.Counted.{Counted}
use Rattle.vp_check.specs.declared.reading.ReadCertificate.{ReadCertificate}
use Rattle.vp_check.proofs.Certificates_grammar.{Exact-bet, certificate_found}
use Rattle.vp_check.proofs.Listed_grammar.{lines_of, numbers_of, ListedSeen, rows_follow}
use Rattle.vp_text.proofs.Follows.{Follows, follows_made, follows_same, follows_then}

-- ---- numbers of lines

-- behind a table's lines and the bet stand rows, and the line behind them
pub record LinesAt (feed : Feed) (table : PayTable) (rows : List Numbered) (return_line : ℕ) : Type 0 where
  pub before : List WordLine
  pub front : List WordLine
  pub at : WordLine
  pub rest : List WordLine
  pub split : feed.lines ≡ before ++ (front ++ at ∷ rest)
  pub many : length before ≡ length (table_text table) + 1
  pub same : numbers_of front ≡ lines_of rows
  pub number : return_line ≡ at.line

-- the line behind so many has the number that stands at their count
pub number_at : (c : Certificate) (feed : Feed) (before : List WordLine) (at : WordLine) (rest : List WordLine) (place : ℕ)
    → feed.lines ≡ before ++ at ∷ rest → length before ≡ length (table_text c.table) + place → at.line ≡ line_number c feed place
unfolding line_number
number_at c feed before at rest place split many =
    let lines : numbers_of feed.lines ≡ numbers_of before ++ at.line ∷ numbers_of rest = ap numbers_of split ∙ map-append (λ (line : WordLine). line.line) before (at ∷ rest) in
    let place_is : length (numbers_of before) ≡ length (table_text c.table) + place = length-map before (λ (line : WordLine). line.line) ∙ many in
    let here : slice_index (numbers_of before ++ at.line ∷ numbers_of rest) (length (numbers_of before)) ≡ at.line = get_or-append_seam (numbers_of before) at.line (numbers_of rest) 0 in
    sym (ap (λ (ls : List ℕ). slice_index ls (length (table_text c.table) + place)) lines
    ∙ (ap (λ (k : ℕ). slice_index (numbers_of before ++ at.line ∷ numbers_of rest) k) (sym place_is) ∙ here))

-- rows whose lines stand one behind another are at their places
are_at : (c : Certificate) (feed : Feed) (before front rest : List WordLine) (rows : List Numbered) (place : ℕ)
    → feed.lines ≡ before ++ (front ++ rest) → length before ≡ length (table_text c.table) + place → numbers_of front ≡ lines_of rows → AreAt c feed place rows
are_at c feed before front rest [] place split many same = tt
are_at c feed before [] rest (row ∷ rows) place split many same = absurd cc
are_at c feed before (line ∷ front) rest (row ∷ rows) place split many same =
    let here : line.line ≡ row.line = cc in
    let tail : numbers_of front ≡ lines_of rows = cc in (
      sym here ∙ number_at c feed before line (front ++ rest) place split many,
      are_at c feed (before ++ line ∷ []) front rest rows (place + 1) (split ∙ sym (append_assoc before (line ∷ []) (front ++ rest))) (omega (arith, many, length-append before (line ∷ []))) tail,
    )

return_at : (c : Certificate) (feed : Feed) (rows : List Numbered) (return_line : ℕ) → (l : LinesAt feed c.table rows return_line) → return_line ≡ line_number c feed (length rows + 1)
return_at c feed rows return_line l =
    let as_many : length l.front ≡ length rows =
    sym (length-map l.front (λ (line : WordLine). line.line)) ∙ (ap length l.same ∙ length-map rows (λ (row : Numbered). row.line)) in
    l.number ∙ number_at c feed (l.before ++ l.front) l.at l.rest (length rows + 1) (l.split ∙ sym (append_assoc l.before l.front (l.at ∷ l.rest)))
    (omega (arith, l.many, as_many, length-append l.before l.front))

-- ---- the readers side by side

seen_rows : List Numbered × Counted → List ClassLine × (ℕ × ℕ)
seen_rows x = (classes_of x.0, (x.1.sum, x.1.denominator))

abbrev BehindBet : Type 0
BehindBet = (List Numbered × Counted) × Unit {0}

-- what was read behind the bet, and where
record BetSeen (lines : List WordLine) (x : BehindBet) (y : (List ClassLine × (ℕ × ℕ)) × Unit {0}) (left : Feed) : Type 0 where
  seen : y ≡ (seen_rows x.0, x.1)
  rest : List WordLine
  front : List WordLine
  at : WordLine
  split : lines ≡ front ++ at ∷ rest
  same : numbers_of front ≡ lines_of x.0.0
  comes : x.0.1.listed ≡ comes_to none_listed x.0.0
  return_line : x.0.1.return_line ≡ at.line

abbrev rows_then : ℕ → Feed → Result (BehindBet × Feed) ℕ
rows_then n feed = counted_rows n feed >>= (λ a. end_line a.1 >>= (λ e. Ok ((a.0, e.0), e.1)))

abbrev classes_then : ℕ → Feed → Result (((List ClassLine × (ℕ × ℕ)) × Unit {0}) × Feed) ℕ
classes_then n feed = class_lines n feed >>= (λ a. end_line a.1 >>= (λ e. Ok ((a.0, e.0), e.1)))

bet_seen : (n : ℕ) (feed : Feed) → Follows (BetSeen feed.lines) (rows_then n feed) (classes_then n feed)
unfolding seen_rows
bet_seen n feed =
    follows_then (ListedSeen n feed.lines) (BetSeen feed.lines) end_line
    (λ a b e middle left r. record {
      seen = ap (λ (v : List ClassLine × (ℕ × ℕ)). (v, e)) r.seen;
      rest = middle.lines;
      front = r.front;
      at = r.at;
      split = r.split;
      same = r.same;
      comes = r.comes;
      return_line = r.return_line;
    })
    (counted_rows n feed) (class_lines n feed) (rows_follow n feed)

-- what was read behind the table, and where
record TableSeen (lines : List WordLine) (x : ℕ × BehindBet) (y : ℕ × ((List ClassLine × (ℕ × ℕ)) × Unit {0})) (left : Feed) : Type 0 where
  seen : y ≡ (x.0, (seen_rows x.1.0, x.1.1))
  rest : List WordLine
  bet : List WordLine
  one : length bet ≡ 1
  front : List WordLine
  at : WordLine
  split : lines ≡ bet ++ (front ++ at ∷ rest)
  same : numbers_of front ≡ lines_of x.1.0.0
  comes : x.1.0.1.listed ≡ comes_to none_listed x.1.0.0
  return_line : x.1.0.1.return_line ≡ at.line

one_line_long : (lines : List WordLine) (words : List Word) → text_of lines ≡ words ∷ [] → length lines ≡ 1
one_line_long lines words is = sym (length-map lines (λ (line : WordLine). line.words)) ∙ ap length is

abbrev bet_then : PayTable → Feed → Result ((ℕ × BehindBet) × Feed) ℕ
bet_then table feed = bet_line table.coins feed >>= (λ a. rows_then table.deck a.1 >>= (λ b. Ok ((a.0, b.0), b.1)))

abbrev bet_and_classes : PayTable → Feed → Result ((ℕ × ((List ClassLine × (ℕ × ℕ)) × Unit {0})) × Feed) ℕ
bet_and_classes table feed = bet_line table.coins feed >>= (λ a. classes_then table.deck a.1 >>= (λ b. Ok ((a.0, b.0), b.1)))

table_seen : (table : PayTable) (feed : Feed) → IsTable table → Follows (TableSeen feed.lines) (bet_then table feed) (bet_and_classes table feed)
table_seen table feed is =
    follows_same (TableSeen feed.lines) (bet_line table.coins feed) _ _ (λ coin left read.
    let starts = ((Exact-bet table.coins is.some_coins is.most_coins).takes feed left coin read).1 in
    follows_made (BetSeen left.lines) (TableSeen feed.lines) (λ (x : BehindBet). (coin, x)) (λ (y : (List ClassLine × (ℕ × ℕ)) × Unit {0}). (coin, y))
    (λ x y after s. record {
      seen = ap (λ (v : (List ClassLine × (ℕ × ℕ)) × Unit {0}). (coin, v)) s.seen;
      rest = s.rest;
      bet = starts.front;
      one = one_line_long starts.front (codes "cert" ∷ decimal coin ∷ []) starts.spelled;
      front = s.front;
      at = s.at;
      split = starts.lines ∙ ap (λ (ls : List WordLine). starts.front ++ ls) s.split;
      same = s.same;
      comes = s.comes;
      return_line = s.return_line;
    })
    (rows_then table.deck left) (classes_then table.deck left) (bet_seen table.deck left))

-- what was read of a text, and where
record TextSeen (feed : Feed) (r : ReadCertificate) (c : Certificate) (left : Feed) : Type 0 where
  seen : c ≡ certificate_read r
  comes : r.counted.listed ≡ comes_to none_listed r.rows
  lines : LinesAt feed r.table r.rows r.counted.return_line

record PartsSeen (feed : Feed) (p : ReadParts) (q : CertificateParts) (left : Feed) : Type 0 where
  seen : q ≡ (p.0, (p.1.0, (seen_rows p.1.1.0, p.1.1.1)))
  comes : p.1.1.0.1.listed ≡ comes_to none_listed p.1.1.0.0
  lines : LinesAt feed p.0 p.1.1.0.0 p.1.1.0.1.return_line

parts_seen : (feed : Feed) → Follows (PartsSeen feed) (read_parts_at feed) (certificate_parts_at feed)
parts_seen feed =
    follows_same (PartsSeen feed) (table_at feed) _ _ (λ table left read.
    let t = Exact-table.takes feed left table read in
    follows_made (TableSeen left.lines) (PartsSeen feed) (λ (x : ℕ × BehindBet). (table, x)) (λ (y : ℕ × ((List ClassLine × (ℕ × ℕ)) × Unit {0})). (table, y))
    (λ x y after s. record {
      seen = ap (λ (v : ℕ × ((List ClassLine × (ℕ × ℕ)) × Unit {0})). (table, v)) s.seen;
      comes = s.comes;
      lines = record {
        before = t.1.front ++ s.bet;
        front = s.front;
        at = s.at;
        rest = s.rest;
        split = t.1.lines ∙ (ap (λ (ls : List WordLine). t.1.front ++ ls) s.split ∙ sym (append_assoc t.1.front s.bet (s.front ++ s.at ∷ s.rest)));
        many = table_and_bet t.1.front s.bet (table_text table) t.1.spelled s.one;
        same = s.same;
        number = s.return_line;
      };
    })
    (bet_then table left) (bet_and_classes table left) (table_seen table left t.0))
  where
    table_and_bet : (front bet : List WordLine) (text : Text) → text_of front ≡ text → length bet ≡ 1 → length (front ++ bet) ≡ length text + 1
    table_and_bet front bet text is one =
        let l : length front ≡ length text = sym (length-map front (λ (line : WordLine). line.words)) ∙ ap length is in
        omega (arith, l, one, length-append front bet)

text_seen : (feed : Feed) → Follows (TextSeen feed) (read_parts_at feed >>= (λ a. Ok (read_from a.0, a.1))) (certificate_parts_at feed >>= (λ a. Ok (certificate_from a.0, a.1)))
unfolding seen_rows
text_seen feed =
    follows_made (PartsSeen feed) (TextSeen feed) read_from certificate_from
    (λ p q left s. record { seen = ap certificate_from s.seen; comes = s.comes; lines = s.lines })
    (read_parts_at feed) (certificate_parts_at feed) (parts_seen feed)

-- ---- whole texts

-- a certificate that was read, and the one that the text says
record Read (feed : Feed) (r : ReadCertificate) (text : Result Certificate ℕ) : Type 0 where
  says : text ≡ Ok (certificate_read r)
  comes : r.counted.listed ≡ comes_to none_listed r.rows
  lines : LinesAt feed r.table r.rows r.counted.return_line

abbrev certificate_end : Certificate × Feed → Result Certificate ℕ
certificate_end a = ended a.0 a.1.lines

abbrev read_end : ReadCertificate × Feed → Result ReadCertificate ℕ
read_end a = ended a.0 a.1.lines

whole_ok : (feed : Feed) (first : Result (ReadCertificate × Feed) ℕ) (second : Result (Certificate × Feed) ℕ) → Follows (TextSeen feed) first second
    → (r : ReadCertificate) → (first >>= read_end) ≡ Ok r → Read feed r (second >>= certificate_end)
whole_ok feed (Err n) second both r e = absurd cc
whole_ok feed (Ok p) second both r e = at_the_end p.1.lines refl e
  where
    done : Certificate → Result Certificate ℕ
    done c = Ok c

    at_the_end : (lines : List WordLine) → p.1.lines ≡ lines → ended p.0 lines ≡ Ok r → Read feed r (second >>= certificate_end)
    at_the_end [] none h =
        let same : p.0 ≡ r = ok_is p.0 r h in
        subst (λ (r : ReadCertificate). Read feed r (second >>= certificate_end)) same
        (record {
          says = ap (λ (s : Result (Certificate × Feed) ℕ). s >>= certificate_end) both.read
              ∙ (ap (λ (ls : List WordLine). ended both.value ls) none ∙ ap (λ (c : Certificate). done c) both.related.seen);
          comes = both.related.comes;
          lines = both.related.lines;
        })
    at_the_end (line ∷ lines) some h = absurd cc

whole_err : (feed : Feed) (first : Result (ReadCertificate × Feed) ℕ) (second : Result (Certificate × Feed) ℕ) → Follows (TextSeen feed) first second
    → (n : ℕ) → (first >>= read_end) ≡ Err n → (second >>= certificate_end) ≡ Err n
whole_err feed (Err m) second both n e =
    ap (λ (s : Result (Certificate × Feed) ℕ). s >>= certificate_end) both ∙ ap (λ (k : ℕ). refused k) (err_is {A = ReadCertificate} m n e)
  where
    refused : ℕ → Result Certificate ℕ
    refused k = Err k
whole_err feed (Ok p) second both n e = at_the_end p.1.lines refl e
  where
    refused : ℕ → Result Certificate ℕ
    refused k = Err k

    at_the_end : (lines : List WordLine) → p.1.lines ≡ lines → ended p.0 lines ≡ Err n → (second >>= certificate_end) ≡ Err n
    at_the_end [] none h = absurd cc
    at_the_end (line ∷ lines) some h =
        ap (λ (s : Result (Certificate × Feed) ℕ). s >>= certificate_end) both.read
        ∙ (ap (λ (ls : List WordLine). ended both.value ls) some ∙ ap (λ (k : ℕ). refused k) (err_is {A = ReadCertificate} line.line n h))

is_read : (bytes : List ℕ) (r : ReadCertificate) → read_of bytes ≡ Ok r → IsRead bytes r
unfolding read_of certificate_of certificate_at
is_read bytes r e =
    let t = whole_ok (feed_of bytes) _ _ (text_seen (feed_of bytes)) r e in
    record {
      says = t.says;
      certificate = (certificate_found bytes (certificate_read r) t.says).grammar;
      comes = t.comes;
      lines = are_at (certificate_read r) (feed_of bytes) t.lines.before t.lines.front (t.lines.at ∷ t.lines.rest) r.rows 1 t.lines.split t.lines.many t.lines.same;
      return_line = return_at (certificate_read r) (feed_of bytes) r.rows r.counted.return_line t.lines;
    }

is_refused : (bytes : List ℕ) (n : ℕ) → read_of bytes ≡ Err n → certificate_of bytes ≡ Err n
unfolding read_of certificate_of certificate_at
is_refused bytes n e = whole_err (feed_of bytes) _ _ (text_seen (feed_of bytes)) n e

-- ---- what a reader of certificates answers

pub found_certificate : (bytes : List ℕ) (result : Result ReadCertificate Refused) → Says result (read_of bytes) → IfOk result (λ r. IsRead bytes r)
found_certificate bytes (Ok r) says = is_read bytes r says
found_certificate bytes (Err e) says = tt

pub refused_certificate : (bytes : List ℕ) (result : Result ReadCertificate Refused) → Says result (read_of bytes) → IfErr result (λ e. certificate_of bytes ≡ Err e.line)
refused_certificate bytes (Ok r) says = tt
refused_certificate bytes (Err e) says = is_refused bytes e.line says
