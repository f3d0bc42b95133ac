use Rattle.vp_check.proofs.Certificates_grammar.{certificate_found, certificate_again, certificate_stops, certificate_refused}
use Rattle.vp_check.proofs.spellings.certificates_are_spelled.Goals as goal

pub returns-clause-says : goal.returns-clause-says
returns-clause-says g = λ bytes c. (certificate_found bytes c, certificate_again bytes c)

pub returns-clause-refused : goal.returns-clause-refused
returns-clause-refused g = λ bytes line. (certificate_stops bytes line, certificate_refused bytes line)
