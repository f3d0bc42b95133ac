-- What a reader of certificates has read.
use Rattle.std.specs.Prelude.{◌≡◌, ℕ, ◌+◌, List, [], ◌∷◌, length, Ok}
use Rattle.vp_text.specs.Lines.{Feed, feed_of}
use Rattle.vp_check.specs.Certificates.{Certificate, IsCertificate}
use Rattle.vp_check.specs.Checking.{certificate_of, line_number}
use Rattle.vp_check.specs.Listing.{comes_to, none_listed}
use Rattle.vp_check.specs.Rows.{classes_of}
use Rattle.vp_check.specs.declared.numbered.Numbered.{Numbered}
use Rattle.vp_check.specs.declared.reading.ReadCertificate.{ReadCertificate}

-- the certificate that was read
abbrev pub certificate_read : ReadCertificate → Certificate
certificate_read r = record { table = r.table; coin = r.coin; classes = classes_of r.rows; sum = r.counted.sum; denominator = r.counted.denominator }

-- each class line has the number of the line at its place, the first one's place being this
abbrev pub AreAt : Certificate → Feed → ℕ → List Numbered → Type 0
AreAt c feed place [] = Unit {0}
AreAt c feed place (row ∷ more) = (row.line ≡ line_number c feed place) × AreAt c feed (place + 1) more

-- the text says the certificate that was read, its class lines come to what was counted, and the lines have these numbers
pub record IsRead (bytes : List ℕ) (r : ReadCertificate) : Type 0 where
  pub says : certificate_of bytes ≡ Ok (certificate_read r)
  pub certificate : IsCertificate (certificate_read r)
  pub comes : r.counted.listed ≡ comes_to none_listed r.rows
  pub lines : AreAt (certificate_read r) (feed_of bytes) 1 r.rows
  pub return_line : r.counted.return_line ≡ line_number (certificate_read r) (feed_of bytes) (length r.rows + 1)
