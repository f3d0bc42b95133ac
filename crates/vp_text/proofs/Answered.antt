-- What readers of sections answer, where they read exactly.
use Rattle.std.proofs.Common.{◌≡◌, ℕ, Result, Ok, Err, ap, sym, ◌∙◌}
use Rattle.std.specs.Prelude.{IfOk, IfErr}
use Rattle.vp_text.specs.ExactReaders.{Exact, Reader}
use Rattle.vp_text.specs.Lines.{Feed}
use Rattle.vp_text.specs.Reading.{Gives}
use Rattle.vp_text.specs.Sections.{Refuses, Starts, Text}
use Rattle.vp_text.specs.declared.refused.Refused.{Refused}
use Rattle.vp_text.proofs.Spelled.{ok_is, ok_err}

-- a reading that gives a value has this value alone as its answer
pub only_read : {A : Type 0} (result : Result A Refused) (left : Feed) (reading : Result (A × Feed) ℕ) → Gives (λ (a : A). a) result left reading
    → (a : A) (rest : Feed) → reading ≡ Ok (a, rest) → (result ≡ Ok a) × (left ≡ rest)
only_read {A} (Ok b) left reading gives a rest is =
    let p : A × Feed = (b, left) in
    let q : A × Feed = (a, rest) in
    let same : p ≡ q = ok_is p q (sym gives ∙ is) in
    (ap (λ (r : A × Feed). Ok r.0) same, ap (λ (r : A × Feed). r.1) same)
only_read (Err e) left reading gives a rest is = absurd (ok_err reading (a, rest) e.line is gives)

module _ {A : Type 0} {spell : A → Text} {Valid : A → Type 0} {read : Reader A} (exact : Exact spell Valid read) where
  pub found : (result : Result A Refused) (before left : Feed) → Gives (λ (a : A). a) result left (read before) → IfOk result (λ a. Valid a × Starts spell before a left)
  found (Ok a) before left gives = exact.takes before left a gives
  found (Err e) before left gives = tt

  pub refused : (result : Result A Refused) (before left : Feed) → Gives (λ (a : A). a) result left (read before) → IfErr result (λ e. Refuses spell Valid before e.line)
  refused (Ok a) before left gives = tt
  refused (Err e) before left gives = exact.stops before e.line gives

  pub only : (result : Result A Refused) (before left : Feed) → Gives (λ (a : A). a) result left (read before)
      → (a : A) (rest : Feed) → Valid a → Starts spell before a rest → (result ≡ Ok a) × (left ≡ rest)
  only result before left gives a rest is starts = only_read result left (read before) gives a rest (exact.again before rest a is starts)
