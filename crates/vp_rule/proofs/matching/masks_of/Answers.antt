use Rattle.std.proofs.Common.{arith, refl}
use Rattle.vp_rule.proofs.AskedMasks.{masks_are, none_of_more}
use Rattle.vp_rule.proofs.matching.masks_of.Goals as goal

pub returns-in-0-clause-masks : goal.returns-in-0-clause-masks
returns-in-0-clause-masks c = masks_are _ 0 _ c.in-0.is (λ a b c d e. refl)

pub returns-in-1-clause-masks : goal.returns-in-1-clause-masks
returns-in-1-clause-masks c = masks_are _ 1 _ c.in-1.is (λ a b c d e. refl)

pub returns-in-2-clause-masks : goal.returns-in-2-clause-masks
returns-in-2-clause-masks c = masks_are _ 2 _ c.in-2.is (λ a b c d e. refl)

pub returns-in-3-clause-masks : goal.returns-in-3-clause-masks
returns-in-3-clause-masks c = masks_are _ 3 _ c.in-3.is (λ a b c d e. refl)

pub returns-in-4-clause-masks : goal.returns-in-4-clause-masks
returns-in-4-clause-masks c = masks_are _ 4 _ c.in-4.is (λ a b c d e. refl)

pub returns-in-5-clause-masks : goal.returns-in-5-clause-masks
returns-in-5-clause-masks c = masks_are _ 5 _ c.in-5.is (λ a b c d e. refl)

pub returns-in_default-clause-masks : goal.returns-in_default-clause-masks
returns-in_default-clause-masks c = none_of_more _ (omega arith)
