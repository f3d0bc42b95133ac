use Rattle.std.proofs.Common.{IsTrue}
use Rattle.vp_text.proofs.Whole.{whole_found, whole_again, whole_stops, whole_refused, one_place}
use Rattle.vp_text.proofs.laws.whole_exact.Goals as goal

pub returns-clause-value : goal.returns-clause-value
returns-clause-value g c = λ spell valid read exact feed a.
    (λ e. whole_found spell (λ a. IsTrue (valid a)) read exact feed a e, λ h. whole_again spell (λ a. IsTrue (valid a)) read exact feed a h.0 h.1)

pub returns-clause-refused : goal.returns-clause-refused
returns-clause-refused g c = λ spell valid read exact feed line.
    (λ e. whole_stops spell (λ a. IsTrue (valid a)) read exact feed line e, λ h. whole_refused spell (λ a. IsTrue (valid a)) read exact feed line h)

pub returns-clause-one : goal.returns-clause-one
returns-clause-one g c = λ spell valid feed m n p q. one_place spell (λ a. IsTrue (valid a)) feed m n p q
