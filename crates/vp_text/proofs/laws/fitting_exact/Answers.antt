use Rattle.std.proofs.Common.{IsTrue}
use Rattle.vp_text.proofs.Fitted.{fitted_found, fitted_again, fitted_stops, fitted_refused}
use Rattle.vp_text.proofs.laws.fitting_exact.Goals as goal

pub returns-clause-value : goal.returns-clause-value
returns-clause-value g c = λ spell valid fits first spell2 valid2 second one two feed value. (
  λ e. fitted_found spell (λ a. IsTrue (valid a)) fits first spell2 (λ a b. IsTrue (valid2 a b)) second one two feed value e,
  λ h. fitted_again spell (λ a. IsTrue (valid a)) fits first spell2 (λ a b. IsTrue (valid2 a b)) second one two feed value h,
)

pub returns-clause-refused : goal.returns-clause-refused
returns-clause-refused g c = λ spell valid fits first spell2 valid2 second one two feed line. (
  λ e. fitted_stops spell (λ a. IsTrue (valid a)) fits first spell2 (λ a b. IsTrue (valid2 a b)) second one two feed line e,
  λ h. fitted_refused spell (λ a. IsTrue (valid a)) fits first spell2 (λ a b. IsTrue (valid2 a b)) second one two feed line h,
)
