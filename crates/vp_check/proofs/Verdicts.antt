-- What the check answers is what is due to the text.
use Rattle.std.proofs.Common.{◌≡◌, ℕ, ◌+◌, ◌*◌, Option, Some, None, Result, Ok, Err, List, [], ◌∷◌, length, refl, ap, sym, subst, ◌∙◌, arith}
use Rattle.std.specs.Prelude.{option_map}
use Rattle.std.specs.List.{sum_by}
use Rattle.std.specs.Option.{IfSome, IsSomeAnd}
use Rattle.std.proofs.lemmas.List.{length-map}
use Rattle.vp_text.specs.Lines.{feed_of}
use Rattle.vp_pay.specs.declared.table.PayTable.{PayTable}
use Rattle.vp_check.specs.Certificates.{Certificate}
use Rattle.vp_check.specs.Checking.{certificate_of, line_number, bad_at, verdict, check_result, walked_lines}
use Rattle.vp_check.specs.Listing.{counted_breach, none_listed}
use Rattle.vp_check.specs.Read.{IsRead, certificate_read}
use Rattle.vp_check.specs.Rows.{classes_of}
use Rattle.vp_check.specs.Rules.{first_of, at, Break, cover_breach, sum_breach, denominator_breach, return_breach, class_break, first_break}
use Rattle.vp_check.specs.Walks.{walk_end, walked_at}
use Rattle.vp_check.specs.declared.listed.Broken.{Broken}
use Rattle.vp_check.specs.declared.listed.Listed.{Listed}
use Rattle.vp_check.specs.declared.numbered.Numbered.{Numbered}
use Rattle.vp_check.specs.declared.reading.ReadCertificate.{ReadCertificate}
use Rattle.vp_check.specs.declared.rules.Breach.{Breach}
use Rattle.vp_check.specs.declared.finding.Checked.{Checked}
use Rattle.vp_check.specs.declared.finding.Finding.{Finding}
use Rattle.vp_check.specs.declared.finding.Finding.TheVariants.{Bad, Refused}
use Rattle.vp_check.proofs.Answered.{answer_is, verdict_is}
use Rattle.vp_check.proofs.KeptRules.{break_at, first_later, first_here}
use Rattle.vp_check.proofs.Walked.{StandsAt, WalkTells, break_from, break_of, broken_from, broken_stands, comes_broken, comes_lines, comes_values, comes_weights, first_single, walk_tells, walked_from}

-- the answer to a refused text
pub refused_is : (bytes : List ℕ) (from count line : ℕ) → certificate_of bytes ≡ Err line → Err (Refused line) ≡ check_result bytes from count
refused_is bytes from count line e = sym (answer_is bytes from count (Err line) e)

-- the answer to a certificate is the verdict on its first broken rule
read_is : (bytes : List ℕ) (from count : ℕ) (r : ReadCertificate) (b : Option Break) → IsRead bytes r → first_break from count (certificate_read r) ≡ b
    → verdict from count (certificate_read r) (feed_of bytes) b ≡ check_result bytes from count
read_is bytes from count r b is e = sym (verdict_is bytes from count (certificate_read r) b is.says e)

-- the answer to a certificate with a class line that breaks a rule
class_is : (bytes : List ℕ) (from count : ℕ) (r : ReadCertificate) (b : Break) → IsRead bytes r → class_break r.table r.coin from count (classes_of r.rows) ≡ Some b
    → Err (bad_at (certificate_read r) (feed_of bytes) b) ≡ check_result bytes from count
unfolding first_break
class_is bytes from count r b is e =
    read_is bytes from count r (Some b) is (first_here (class_break r.table r.coin from count (classes_of r.rows)) b (at (length (classes_of r.rows) + 1) (return_breach (certificate_read r)) ∷ []) e)

-- ---- what was counted and walked

-- as many class lines as were counted
pub many_rows : (bytes : List ℕ) (r : ReadCertificate) → IsRead bytes r → length r.rows ≡ r.counted.listed.lines
many_rows bytes r is = let all : r.counted.listed.lines ≡ 0 + length r.rows = ap (λ (l : Listed). l.lines) is.comes ∙ comes_lines none_listed r.rows in omega (arith, all)

breaks_are : (table : PayTable) (coin from count : ℕ) (rows : List Numbered) → class_break table coin from count (classes_of rows) ≡ break_from table coin from count 1 None rows
unfolding class_break break_at break_from
breaks_are table coin from count rows = refl

-- the first broken rule of cards and weights
broken_are : (bytes : List ℕ) (r : ReadCertificate) → IsRead bytes r → r.counted.listed.broken ≡ broken_from 1 None r.rows
broken_are bytes r is = ap (λ (l : Listed). l.broken) is.comes ∙ (comes_broken none_listed r.rows ∙ first_single (broken_from 1 None r.rows))

-- what the walk tells
told : (bytes : List ℕ) (from count : ℕ) (r : ReadCertificate) (end : ℕ) (result : Result ℕ Finding) → IsRead bytes r → end ≡ walk_end (from + count) r.counted.listed.broken
    → walked_at r.table r.coin from end 1 r.rows 0 ≡ result → WalkTells r.table r.coin from count (certificate_read r) (feed_of bytes) 1 None r.rows 0 result
told bytes from count r end result is ends walked =
    subst (λ (o : Result ℕ Finding). WalkTells r.table r.coin from count (certificate_read r) (feed_of bytes) 1 None r.rows 0 o) walked
    (walk_tells r.table r.coin from count (certificate_read r) (feed_of bytes) 1 None r.rows 0 end is.lines (ends ∙ ap (walk_end (from + count)) (broken_are bytes r is)))

-- the answer to a certificate with a walked line that breaks a rule
pub found_is : (bytes : List ℕ) (from count : ℕ) (r : ReadCertificate) (end : ℕ) (finding : Finding) → IsRead bytes r → end ≡ walk_end (from + count) r.counted.listed.broken
    → walked_at r.table r.coin from end 1 r.rows 0 ≡ Err finding → Err finding ≡ check_result bytes from count
found_is bytes from count r end finding is ends walked =
    by_break (break_from r.table r.coin from count 1 None r.rows) refl (told bytes from count r end (Err finding) is ends walked)
  where
    by_break : (o : Option Break) → break_from r.table r.coin from count 1 None r.rows ≡ o → IsSomeAnd o (λ b. finding ≡ bad_at (certificate_read r) (feed_of bytes) b) → Err finding ≡ check_result bytes from count
    by_break None e h = absurd h
    by_break (Some b) e h = ap (λ (f : Finding). Err f) h ∙ class_is bytes from count r b is (breaks_are r.table r.coin from count r.rows ∙ e)

-- the first broken rule of the class lines is that of their cards and weights
listed_break : (bytes : List ℕ) (from count : ℕ) (r : ReadCertificate) (end walked : ℕ) → IsRead bytes r → end ≡ walk_end (from + count) r.counted.listed.broken
    → walked_at r.table r.coin from end 1 r.rows 0 ≡ Ok walked → class_break r.table r.coin from count (classes_of r.rows) ≡ option_map break_of r.counted.listed.broken
listed_break bytes from count r end walked is ends e =
    breaks_are r.table r.coin from count r.rows ∙ ((told bytes from count r end (Ok walked) is ends e).0 ∙ ap (option_map break_of) (sym (broken_are bytes r is)))

-- the answer to a certificate with a class line whose cards or weight break a rule
pub listed_is : (bytes : List ℕ) (from count : ℕ) (r : ReadCertificate) (end walked : ℕ) (b : Broken) (finding : Finding) → IsRead bytes r → end ≡ walk_end (from + count) r.counted.listed.broken
    → walked_at r.table r.coin from end 1 r.rows 0 ≡ Ok walked → r.counted.listed.broken ≡ Some b → finding ≡ Bad b.line b.breach.rule b.breach.said b.breach.due → Err finding ≡ check_result bytes from count
listed_is bytes from count r end walked b finding is ends e some f =
    let stands : StandsAt (certificate_read r) (feed_of bytes) 1 b =
    subst (λ (o : Option Broken). IfSome o (StandsAt (certificate_read r) (feed_of bytes) 1)) (sym (broken_are bytes r is) ∙ some) (broken_stands (certificate_read r) (feed_of bytes) 1 None r.rows is.lines) in
    ap (λ (x : Finding). Err x) (f ∙ ap (λ l. Bad l b.breach.rule b.breach.said b.breach.due) stands.1)
    ∙ class_is bytes from count r (break_of b) is (listed_break bytes from count r end walked is ends e ∙ ap (option_map break_of) some)

-- ---- the return

-- the first broken rule of the return, by sums that were reckoned
return_is : (bytes : List ℕ) (r : ReadCertificate) → IsRead bytes r → counted_breach r.table.deck r.coin r.counted ≡ return_breach (certificate_read r)
unfolding return_breach
return_is bytes r is =
    let weights : r.counted.listed.weights ≡ sum_by (λ line. line.weight) (classes_of r.rows) = ap (λ (l : Listed). l.weights) is.comes ∙ (comes_weights none_listed r.rows ∙ omega arith) in
    let values : r.counted.listed.values ≡ sum_by (λ line. line.weight * line.value) (classes_of r.rows) = ap (λ (l : Listed). l.values) is.comes ∙ (comes_values none_listed r.rows ∙ omega arith) in
    ap (λ x. first_of (cover_breach r.table.deck x ∷ sum_breach r.counted.sum r.counted.listed.values ∷ denominator_breach r.table.deck r.coin r.counted.denominator ∷ [])) weights
    ∙ ap (λ x. first_of (cover_breach r.table.deck (sum_by (λ line. line.weight) (classes_of r.rows)) ∷ sum_breach r.counted.sum x ∷ denominator_breach r.table.deck r.coin r.counted.denominator ∷ [])) values

-- what the return breaks is the first broken rule where the class lines break none
return_break : (bytes : List ℕ) (from count : ℕ) (r : ReadCertificate) (end walked : ℕ) (b : Option Breach) → IsRead bytes r → end ≡ walk_end (from + count) r.counted.listed.broken
    → walked_at r.table r.coin from end 1 r.rows 0 ≡ Ok walked → r.counted.listed.broken ≡ None → counted_breach r.table.deck r.coin r.counted ≡ b
    → first_break from count (certificate_read r) ≡ first_of (at (length (classes_of r.rows) + 1) b ∷ [])
unfolding first_break
return_break bytes from count r end walked b is ends e none due =
    first_later (class_break r.table r.coin from count (classes_of r.rows)) _ (listed_break bytes from count r end walked is ends e ∙ ap (option_map break_of) none)
    ∙ ap (λ (x : Option Breach). first_of (at (length (classes_of r.rows) + 1) x ∷ [])) (sym (return_is bytes r is) ∙ due)

-- the answer to a certificate whose return breaks a rule
pub broken_is : (bytes : List ℕ) (from count : ℕ) (r : ReadCertificate) (end walked : ℕ) (breach : Breach) (finding : Finding) → IsRead bytes r → end ≡ walk_end (from + count) r.counted.listed.broken
    → walked_at r.table r.coin from end 1 r.rows 0 ≡ Ok walked → r.counted.listed.broken ≡ None → counted_breach r.table.deck r.coin r.counted ≡ Some breach
    → finding ≡ Bad r.counted.return_line breach.rule breach.said breach.due → Err finding ≡ check_result bytes from count
broken_is bytes from count r end walked breach finding is ends e none some f =
    let c : Certificate = certificate_read r in
    let many : length r.rows + 1 ≡ length c.classes + 1 = omega (arith, length-map r.rows (λ (row : Numbered). row.class)) in
    let line : r.counted.return_line ≡ line_number c (feed_of bytes) (length c.classes + 1) = is.return_line ∙ ap (λ place. line_number c (feed_of bytes) place) many in
    ap (λ (x : Finding). Err x) (f ∙ ap (λ l. Bad l breach.rule breach.said breach.due) line)
    ∙ read_is bytes from count r (Some (record { place = length c.classes + 1; breach = breach })) is (return_break bytes from count r end walked (Some breach) is ends e none some)

abbrev checked_with : ℕ → ℕ → ℕ → ℕ → Checked
checked_with classes walked sum denominator = record { classes = classes; walked = walked; sum = sum; denominator = denominator }

walked_are : (from count : ℕ) (r : ReadCertificate) → walked_from r.table r.coin from count 1 None r.rows ≡ walked_lines from count (certificate_read r)
unfolding walked_from
walked_are from count r = refl

-- the answer to a certificate without a broken rule
pub passed_is : (bytes : List ℕ) (from count : ℕ) (r : ReadCertificate) (end walked : ℕ) → IsRead bytes r → end ≡ walk_end (from + count) r.counted.listed.broken
    → walked_at r.table r.coin from end 1 r.rows 0 ≡ Ok walked → r.counted.listed.broken ≡ None → counted_breach r.table.deck r.coin r.counted ≡ None
    → ◌≡◌ {A = Result Checked Finding} (Ok (record { classes = r.counted.listed.lines; walked = walked; sum = r.counted.sum; denominator = r.counted.denominator })) (check_result bytes from count)
passed_is bytes from count r end walked is ends e none due =
    let c : Certificate = certificate_read r in
    let many : r.counted.listed.lines ≡ length c.classes = ap (λ (l : Listed). l.lines) is.comes ∙ omega (arith, comes_lines none_listed r.rows, length-map r.rows (λ (row : Numbered). row.class)) in
    let all : walked ≡ 0 + walked_from r.table r.coin from count 1 None r.rows = (told bytes from count r end (Ok walked) is ends e).1 (sym (broken_are bytes r is) ∙ none) in
    let counted : walked ≡ walked_lines from count c = omega (arith, all, walked_are from count r) in
    ap (λ (x : ℕ). Ok (checked_with x walked r.counted.sum r.counted.denominator)) many
    ∙ ap (λ (x : ℕ). Ok (checked_with (length c.classes) x r.counted.sum r.counted.denominator)) counted
    ∙ read_is bytes from count r None is (return_break bytes from count r end walked None is ends e none due)

-- a walk from this place on
pub walk_was : (table : PayTable) (coin from other end : ℕ) (rows : List Numbered) (result made : Result ℕ Finding) → other ≡ from → result ≡ walked_at table coin other end 1 rows 0 → result ≡ made
    → walked_at table coin from end 1 rows 0 ≡ made
walk_was table coin from other end rows result made same is was = ap (λ (f : ℕ). walked_at table coin f end 1 rows 0) (sym same) ∙ (sym is ∙ was)
