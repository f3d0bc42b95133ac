use Rattle.vp_check.proofs.TrueOnes.{keeps_rules, rules_kept, true_classes, all_walked_true, true_anywhere}
use Rattle.vp_check.proofs.laws.certificates_keep_rules.Goals as goal

pub returns-clause-rules : goal.returns-clause-rules
returns-clause-rules g from count c is = (keeps_rules from count c is, rules_kept from count c)

pub returns-clause-classes : goal.returns-clause-classes
returns-clause-classes g from count c is e = true_classes from count c is (keeps_rules from count c is e)

pub returns-clause-all : goal.returns-clause-all
returns-clause-all g from count c is low high e = all_walked_true from count c is low high e

pub returns-clause-any : goal.returns-clause-any
returns-clause-any g from count c is e = true_anywhere from count c is e
