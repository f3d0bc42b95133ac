-- The one spelling of a certificate. Its lines and key words are this program's own (docs/FORMATS.md, The certificate).
use Rattle.std.specs.Prelude.{ℕ, List, [], ◌∷◌, ◌++◌, map, codes}
use Rattle.std.specs.Fmt.{decimal}
use Rattle.vp_card.specs.Texts.{card_text}
use Rattle.vp_text.specs.Lines.{Word, feed_of}
use Rattle.vp_text.specs.Sections.{IsWhole, RefusedLine, Text}
use Rattle.vp_text.specs.Written.{fraction}
use Rattle.vp_pay.specs.Spelling.{table_text}
use Rattle.vp_check.specs.Certificates.{Certificate, IsCertificate}
use Rattle.vp_check.specs.declared.class_line.ClassLine.{ClassLine}

-- a class line: the cards, the weight, the mask and the value
unfoldable pub class_words : ClassLine → List Word
class_words line = codes "class" ∷ map card_text line.hand ++ decimal line.weight ∷ decimal line.mask ∷ decimal line.value ∷ []

-- the return: the sum over the denominator
unfoldable pub return_words : ℕ → ℕ → List Word
return_words sum denominator = codes "return" ∷ fraction sum denominator

-- what stands behind the pay table: the bet, the class lines, the return, and `end`
unfoldable pub cert_text : Certificate → Text
cert_text c = (codes "cert" ∷ decimal c.coin ∷ []) ∷ map class_words c.classes ++ return_words c.sum c.denominator ∷ (codes "end" ∷ []) ∷ []

-- a certificate: the pay table's spelling, and what stands behind it
unfoldable pub certificate_text : Certificate → Text
certificate_text c = table_text c.table ++ cert_text c

-- the lines of the text are the spelling of a certificate, and nothing else
pub record SpellsCertificate (bytes : List ℕ) (c : Certificate) : Type 0 where
  pub grammar : IsCertificate c
  pub whole : IsWhole certificate_text (feed_of bytes) c

-- the refused line of the text: the first line with which the lines so far begin no certificate, or the one past the end
abbrev pub RefusesCertificate : List ℕ → ℕ → Type 0
RefusesCertificate bytes line = RefusedLine certificate_text IsCertificate (feed_of bytes) line
