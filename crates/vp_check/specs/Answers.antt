-- What it means that a text is checked, or that a rule is broken in it (docs/FORMATS.md, `vpoker check`).
use Rattle.std.specs.Prelude.{◌≡◌, ℕ, List, IsSomeAnd}
use Rattle.vp_text.specs.Lines.{feed_of}
use Rattle.vp_check.specs.Certificates.{Certificate}
use Rattle.vp_check.specs.Checking.{bad_at, checked}
use Rattle.vp_check.specs.Rules.{first_break}
use Rattle.vp_check.specs.Spelling.{SpellsCertificate}
use Rattle.vp_check.specs.Truth.{IsTrueOver}
use Rattle.vp_check.specs.declared.finding.Checked.{Checked}
use Rattle.vp_check.specs.declared.finding.Finding.{Finding}

-- the text spells a certificate that is true over the walked lines, and these are its numbers
pub record IsChecked (bytes : List ℕ) (from count : ℕ) (r : Checked) : Type 0 where
  pub certificate : Certificate
  pub spelled : SpellsCertificate bytes certificate
  pub unbroken : IsTrueOver from count certificate
  pub numbers : r ≡ checked from count certificate

-- the text spells a certificate, and this is its first broken rule
pub record IsBad (bytes : List ℕ) (from count : ℕ) (finding : Finding) : Type 0 where
  pub certificate : Certificate
  pub spelled : SpellsCertificate bytes certificate
  pub breaks : IsSomeAnd (first_break from count certificate) (λ b. finding ≡ bad_at certificate (feed_of bytes) b)
