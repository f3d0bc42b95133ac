use Rattle.vp_check.proofs.Lines_grammar.{class_stands, return_stands}
use Rattle.vp_check.proofs.spellings.lines_have_numbers.Goals as goal

pub returns-clause-classes : goal.returns-clause-classes
returns-clause-classes g = λ bytes c front back line says classes. class_stands bytes c front back line says classes

pub returns-clause-last : goal.returns-clause-last
returns-clause-last g = λ bytes c says. return_stands bytes c says
