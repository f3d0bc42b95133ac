-- Certificates are read exactly: each from its spelling, and from no other lines.
use Rattle.std.proofs.Common.{◌≡◌, ℕ, ◌≤◌, List, [], ◌∷◌, ◌++◌, map, refl, sym, ap, ◌∙◌, arith, Some, append_assoc}
use Rattle.std.specs.Prelude.{Ok, Err, codes}
use Rattle.std.specs.Fmt.{decimal}
use Rattle.std.proofs.lemmas.List.Elements.{All-from_recursion}
use Rattle.vp_text.specs.Lines.{Word, feed_of}
use Rattle.vp_text.specs.Sections.{Text, both_text, AreBoth}
use Rattle.vp_text.specs.ExactReaders.{Exact, rows_text, AreRows}
use Rattle.vp_text.proofs.Numbers.{number_within_exact}
use Rattle.vp_text.proofs.Pieces.{Exact-key_word}
use Rattle.vp_text.proofs.Sequences.{Exact-all_of, Exact-keyed}
use Rattle.vp_text.proofs.Sections.{Exact-line}
use Rattle.vp_text.proofs.Joined.{Exact-both, Exact-mapped}
use Rattle.vp_text.proofs.Whole.{whole_found, whole_again, whole_stops, whole_refused}
use Rattle.vp_pay.specs.Spelling.{table_text}
use Rattle.vp_pay.specs.Table.{IsTable}
use Rattle.vp_pay.specs.declared.table.PayTable.{PayTable}
use Rattle.vp_pay.proofs.Tables.{Exact-table, of_all}
use Rattle.vp_check.specs.Certificates.{Certificate, IsClassLine, IsCertificate}
use Rattle.vp_check.specs.Checking.{certificate_of}
use Rattle.vp_check.specs.Reading.{bet_line, end_of, end_line, CertificateParts, certificate_from, certificate_parts_at, certificate_at}
use Rattle.vp_check.specs.Spelling.{RefusesCertificate, SpellsCertificate, class_words, return_words, cert_text, certificate_text}
use Rattle.vp_check.specs.declared.class_line.ClassLine.{ClassLine}
use Rattle.vp_check.proofs.Classes_grammar.{row_words, RowRule, Exact-class_lines, keeps_are, are_keeps}

-- ---- the bet

abbrev pub bet_text : ℕ → Text
bet_text coin = (codes "cert" ∷ decimal coin ∷ []) ∷ []

abbrev pub IsCoin : ℕ → ℕ → Type 0
IsCoin coins coin = (1 ≤ coin) × (coin ≤ coins)

pub Exact-bet : (coins : ℕ) → 1 ≤ coins → coins ≤ 5 → Exact bet_text (IsCoin coins) (bet_line coins)
Exact-bet coins some most =
    Exact-line (λ (coin : ℕ). codes "cert" ∷ decimal coin ∷ []) (IsCoin coins) _ (Exact-keyed (codes "cert") (number_within_exact 1 coins (omega (arith, most)))) 1 (omega arith, some)

-- ---- the end

end_words : Unit {0} → List Word
end_words u = codes "end" ∷ []

Exact-end : Exact (λ (u : Unit {0}). end_words u ∷ []) (λ u. Unit {0}) end_line
unfolding end_words
Exact-end = Exact-line end_words (λ u. Unit {0}) end_of (Exact-all_of (Exact-key_word (codes "end")) refl) tt tt

-- ---- the parts

abbrev lines_text : List ClassLine × (ℕ × ℕ) → Text
lines_text = rows_text row_words

abbrev behind_bet : (List ClassLine × (ℕ × ℕ)) × Unit {0} → Text
behind_bet = both_text lines_text (λ lines u. end_words u ∷ [])

abbrev behind_table : ℕ × ((List ClassLine × (ℕ × ℕ)) × Unit {0}) → Text
behind_table = both_text bet_text (λ coin. behind_bet)

abbrev parts_text : CertificateParts → Text
parts_text = both_text table_text (λ table. behind_table)

abbrev AreBehindBet : ℕ → (List ClassLine × (ℕ × ℕ)) × Unit {0} → Type 0
AreBehindBet n = AreBoth (AreRows (RowRule n)) (λ lines u. Unit {0})

abbrev AreBehindTable : PayTable → ℕ × ((List ClassLine × (ℕ × ℕ)) × Unit {0}) → Type 0
AreBehindTable table = AreBoth (IsCoin table.coins) (λ coin. AreBehindBet table.deck)

abbrev AreParts : CertificateParts → Type 0
AreParts = AreBoth IsTable AreBehindTable

Exact-parts : Exact parts_text AreParts certificate_parts_at
Exact-parts =
    Exact-both _ _ _ (λ table. behind_table) AreBehindTable _ Exact-table (λ table is_table.
    Exact-both _ _ _ (λ coin. behind_bet) (λ coin. AreBehindBet table.deck) _ (Exact-bet table.coins is_table.some_coins is_table.most_coins) (λ coin is_bet.
    Exact-both _ _ _ (λ lines u. end_words u ∷ []) (λ lines u. Unit {0}) _ (Exact-class_lines table.deck is_table.known_deck.1) (λ lines are. Exact-end)))

parts_of : Certificate → CertificateParts
parts_of c = (c.table, (c.coin, ((c.classes, (c.sum, c.denominator)), tt)))

parts_certificate : (p : CertificateParts) → AreParts p → IsCertificate (certificate_from p)
parts_certificate p is =
    let n = p.0.deck in
    let lines = p.1.1.0.0 in
    let rows = is.1.1.0 in
    let all = keeps_are n [] lines rows.0 (omega arith) in
    record {
      bet = record { rules = is.0; some = is.1.0.0; within = is.1.0.1 };
      classes = All-from_recursion (IsClassLine n) lines all.0;
      most_classes = all.1;
      sum = rows.1.0;
      denominator = rows.1.1;
    }

certificate_parts : (c : Certificate) → IsCertificate c → AreParts (parts_of c)
unfolding parts_of
certificate_parts c is = (
  is.bet.rules,
  (
    (is.bet.some, is.bet.within),
    ((are_keeps c.table.deck [] c.classes (of_all (IsClassLine c.table.deck) c.classes is.classes) is.most_classes, (is.sum, is.denominator)), tt),
  ),
)

parts_spelled : (c : Certificate) → certificate_text c ≡ parts_text (parts_of c)
unfolding certificate_text cert_text parts_of end_words
parts_spelled c =
    let last : Text = return_words c.sum c.denominator ∷ [] in
    ap (λ (t : Text). table_text c.table ++ (codes "cert" ∷ decimal c.coin ∷ []) ∷ t) (sym (append_assoc (map class_words c.classes) last ((codes "end" ∷ []) ∷ [])))

-- certificates are read from their spellings, and refused at the first line with which the lines so far begin none
pub Exact-certificate : Exact certificate_text IsCertificate certificate_at
unfolding certificate_at parts_of
Exact-certificate = Exact-mapped parts_text AreParts certificate_parts_at certificate_text IsCertificate certificate_from parts_of Exact-parts (record {
  seen = parts_certificate;
  meant = certificate_parts;
  spelled = λ c is. parts_spelled c;
  back_of = λ p is. refl;
  see_of = λ c is. refl;
})

-- ---- whole texts

pub certificate_found : (bytes : List ℕ) (c : Certificate) → certificate_of bytes ≡ Ok c → SpellsCertificate bytes c
unfolding certificate_of
certificate_found bytes c e =
    let found = whole_found certificate_text IsCertificate certificate_at Exact-certificate (feed_of bytes) c e in
    record { grammar = found.0; whole = found.1 }

pub certificate_again : (bytes : List ℕ) (c : Certificate) → SpellsCertificate bytes c → certificate_of bytes ≡ Ok c
unfolding certificate_of
certificate_again bytes c spells = whole_again certificate_text IsCertificate certificate_at Exact-certificate (feed_of bytes) c spells.grammar spells.whole

pub certificate_stops : (bytes : List ℕ) (line : ℕ) → certificate_of bytes ≡ Err line → RefusesCertificate bytes line
unfolding certificate_of
certificate_stops bytes line e = whole_stops certificate_text IsCertificate certificate_at Exact-certificate (feed_of bytes) line e

pub certificate_refused : (bytes : List ℕ) (line : ℕ) → RefusesCertificate bytes line → certificate_of bytes ≡ Err line
unfolding certificate_of
certificate_refused bytes line at = whole_refused certificate_text IsCertificate certificate_at Exact-certificate (feed_of bytes) line at
