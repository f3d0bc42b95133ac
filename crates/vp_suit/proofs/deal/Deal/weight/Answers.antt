use Rattle.std.proofs.Common.{true, false, sym, ◌∙◌}
use Rattle.std.proofs.lemmas.Bool.{eq-eqb, ne_eqb}
use Rattle.vp_suit.proofs.Representatives.{weight_at}
use Rattle.vp_suit.proofs.Weights.{images-1, images-4, images-6, images-12, images-24}
use Rattle.vp_suit.proofs.deal.Deal.weight.Goals as goal

pub returns-in-true-true-true : goal.returns-in-true-true-true
returns-in-true-true-true c = sym (weight_at c.args.self.now.cards c.args.self.now.heaps true true true c.args.self.now.deal c.requires c.args.self.now.heaped (eq-eqb _ _ c.in-true-true-true.is-0) (eq-eqb _ _ c.in-true-true-true.is-1) (eq-eqb _ _ c.in-true-true-true.is-2) ∙ images-1)

pub returns-in-true-true-false : goal.returns-in-true-true-false
returns-in-true-true-false c = sym (weight_at c.args.self.now.cards c.args.self.now.heaps true true false c.args.self.now.deal c.requires c.args.self.now.heaped (eq-eqb _ _ c.in-true-true-false.is-0) (eq-eqb _ _ c.in-true-true-false.is-1) (ne_eqb _ _ c.in-true-true-false.is-2) ∙ images-4.0)

pub returns-in-false-true-true : goal.returns-in-false-true-true
returns-in-false-true-true c = sym (weight_at c.args.self.now.cards c.args.self.now.heaps false true true c.args.self.now.deal c.requires c.args.self.now.heaped (ne_eqb _ _ c.in-false-true-true.is-0) (eq-eqb _ _ c.in-false-true-true.is-1) (eq-eqb _ _ c.in-false-true-true.is-2) ∙ images-4.1)

pub returns-in-true-false-true : goal.returns-in-true-false-true
returns-in-true-false-true c = sym (weight_at c.args.self.now.cards c.args.self.now.heaps true false true c.args.self.now.deal c.requires c.args.self.now.heaped (eq-eqb _ _ c.in-true-false-true.is-0) (ne_eqb _ _ c.in-true-false-true.is-1) (eq-eqb _ _ c.in-true-false-true.is-2) ∙ images-6)

pub returns-in-true-false-false : goal.returns-in-true-false-false
returns-in-true-false-false c = sym (weight_at c.args.self.now.cards c.args.self.now.heaps true false false c.args.self.now.deal c.requires c.args.self.now.heaped (eq-eqb _ _ c.in-true-false-false.is-0) (ne_eqb _ _ c.in-true-false-false.is-1) (ne_eqb _ _ c.in-true-false-false.is-2) ∙ images-12.0)

pub returns-in-false-true-false : goal.returns-in-false-true-false
returns-in-false-true-false c = sym (weight_at c.args.self.now.cards c.args.self.now.heaps false true false c.args.self.now.deal c.requires c.args.self.now.heaped (ne_eqb _ _ c.in-false-true-false.is-0) (eq-eqb _ _ c.in-false-true-false.is-1) (ne_eqb _ _ c.in-false-true-false.is-2) ∙ images-12.1)

pub returns-in-false-false-true : goal.returns-in-false-false-true
returns-in-false-false-true c = sym (weight_at c.args.self.now.cards c.args.self.now.heaps false false true c.args.self.now.deal c.requires c.args.self.now.heaped (ne_eqb _ _ c.in-false-false-true.is-0) (ne_eqb _ _ c.in-false-false-true.is-1) (eq-eqb _ _ c.in-false-false-true.is-2) ∙ images-12.2)

pub returns-in-false-false-false : goal.returns-in-false-false-false
returns-in-false-false-false c = sym (weight_at c.args.self.now.cards c.args.self.now.heaps false false false c.args.self.now.deal c.requires c.args.self.now.heaped (ne_eqb _ _ c.in-false-false-false.is-0) (ne_eqb _ _ c.in-false-false-false.is-1) (ne_eqb _ _ c.in-false-false-false.is-2) ∙ images-24)
