-- The words of a certificate are plain, so what is written of it is read again.
use Rattle.std.proofs.Common.{◌≡◌, ℕ, ◌^◌, ◌<◌, List, [], ◌∷◌, ◌++◌, map, refl, ap, sym, ◌∙◌, arith, append-nil}
use Rattle.std.specs.Prelude.{codes, Ok}
use Rattle.std.specs.List.{AllByRecursion}
use Rattle.std.specs.Fmt.{decimal}
use Rattle.vp_card.specs.Texts.{card_text}
use Rattle.vp_text.specs.Lines.{Feed, Word, feed_of}
use Rattle.vp_text.specs.Sections.{Text, text_of}
use Rattle.vp_text.specs.Written.{IsPlainWord, IsPlainLine, IsPlainText, written}
use Rattle.vp_text.proofs.PlainWords.{plain_key, plain_number, plain_texts}
use Rattle.vp_text.proofs.Writing.{written_again, written_read}
use Rattle.vp_pay.specs.Spelling.{table_text}
use Rattle.vp_pay.proofs.Plain.{plain_card, plain_table}
use Rattle.vp_pay.proofs.Tables.{of_all}
use Rattle.vp_check.specs.Certificates.{Certificate, IsClassLine, IsCertificate}
use Rattle.vp_check.specs.Checking.{certificate_of}
use Rattle.vp_check.specs.Reading.{certificate_at}
use Rattle.vp_check.specs.Spelling.{class_words, return_words, cert_text, certificate_text}
use Rattle.vp_check.specs.declared.class_line.ClassLine.{ClassLine}
use Rattle.vp_check.proofs.Certificates_grammar.{Exact-certificate, certificate_again}

plain_cards : (cards : List ℕ) (back : List Word) → AllByRecursion IsPlainWord back → AllByRecursion IsPlainWord (map card_text cards ++ back)
plain_cards [] back plain = plain
plain_cards (card ∷ cards) back plain = (plain_card card, plain_cards cards back plain)

plain_class : (n : ℕ) (line : ClassLine) → IsClassLine n line → IsPlainLine (class_words line)
unfolding class_words
plain_class n line is =
    let weight : line.weight < 2 ^ 64 = omega (arith, is.most_weight) in
    let mask : line.mask < 2 ^ 64 = omega (arith, is.mask) in (
      omega arith,
      (
        plain_key (codes "class") (omega arith) refl,
        plain_cards line.hand (decimal line.weight ∷ decimal line.mask ∷ decimal line.value ∷ []) (plain_number line.weight weight, (plain_number line.mask mask, (plain_number line.value is.value, tt))),
      ),
    )

plain_return : (sum denominator : ℕ) → sum < 2 ^ 64 → denominator < 2 ^ 64 → IsPlainLine (return_words sum denominator)
unfolding return_words
plain_return sum denominator a b =
    (omega arith, (plain_key (codes "return") (omega arith) refl, (plain_number sum a, (plain_key (codes "/") (omega arith) refl, (plain_number denominator b, tt)))))

plain_classes : (n : ℕ) (lines : List ClassLine) → AllByRecursion (IsClassLine n) lines → IsPlainText (map class_words lines)
plain_classes n [] all = tt
plain_classes n (line ∷ lines) all = (plain_class n line all.0, plain_classes n lines all.1)

plain_certificate : (c : Certificate) → IsCertificate c → IsPlainText (certificate_text c)
unfolding certificate_text cert_text
plain_certificate c is =
    let coin : c.coin < 2 ^ 64 = omega (arith, is.bet.within, is.bet.rules.most_coins) in
    let last : Text = return_words c.sum c.denominator ∷ (codes "end" ∷ []) ∷ [] in
    plain_texts (table_text c.table) (cert_text c) (plain_table c.table is.bet.rules) (
      (omega arith, (plain_key (codes "cert") (omega arith) refl, (plain_number c.coin coin, tt))),
      plain_texts (map class_words c.classes) last (plain_classes c.table.deck c.classes (of_all (IsClassLine c.table.deck) c.classes is.classes))
          (plain_return c.sum c.denominator is.sum is.denominator, ((omega arith, (plain_key (codes "end") (omega arith) refl, tt)), tt)),
    )

-- what was written is read again, whatever follows
pub written_certificate : (c : Certificate) (more : List ℕ) → IsCertificate c
    → (left : Feed) × (certificate_at (feed_of (written (certificate_text c) ++ more)) ≡ Ok (c, left)) × (text_of left.lines ≡ text_of (feed_of more).lines)
written_certificate c more is = written_again certificate_text IsCertificate certificate_at Exact-certificate c more is (plain_certificate c is)

-- and as a whole text, where nothing does
pub written_whole : (c : Certificate) → IsCertificate c → certificate_of (written (certificate_text c)) ≡ Ok c
written_whole c is =
    let text : Text = certificate_text c in
    let whole : text_of (feed_of (written text)).lines ≡ text =
    ap (λ (bytes : List ℕ). text_of (feed_of bytes).lines) (sym (append-nil (written text))) ∙ written_read text [] (plain_certificate c is) ∙ append-nil text in
    certificate_again (written text) c (record { grammar = is; whole = whole })
