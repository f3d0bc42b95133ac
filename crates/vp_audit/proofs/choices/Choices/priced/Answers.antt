use Rattle.std.proofs.Common.{◌∙◌, ap, sym, ℕ, Option}
use Rattle.vp_audit.specs.Sums.{priced}
use Rattle.vp_audit.proofs.Decisions.{by_mask}
use Rattle.vp_audit.proofs.choices.Choices.priced.Goals as goal

pub returns-in-Some : goal.returns-in-Some
returns-in-Some c =
    let s = c.args.self.now in
    by_mask s.table s.coin c.in-Some.mask s.hand c.args.rules.now c.all_of.result c.all_of.ensures.by c.all_of.ensures.best c.all_of.ensures.least c.all_of.ensures.greatest
    ∙ ap (λ (m : Option ℕ). priced s.table s.coin c.args.rules.now m s.hand) (sym c.in-Some.is)
