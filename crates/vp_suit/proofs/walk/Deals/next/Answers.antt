use Rattle.std.proofs.Common.{◌≡◌, ◌∷◌, [], List, ℕ, ap, arith, cond, drop, filter, length, sym, ◌∙◌}
use Rattle.vp_sets.specs.Index.{colex, set_index}
use Rattle.vp_suit.specs.Classes.{is_representative}
use Rattle.vp_suit.proofs.Walks.{step}
use Rattle.vp_suit.proofs.walk.Deals.next.Goals as goal

-- the deals after the skip are the one given and those that are left
split : (c : goal.After-deal-2-1) → c.skip.new.self ≡ c.self.inside.cards ∷ cond c.go_on-self-inside.result (drop (set_index c.go_on-self-inside.new.cards) (colex 5 c.self.inside.n)) []
split c =
    step c.self.inside.n c.self.inside.cards c.go_on-self-inside.new.cards c.skip.new.self c.self.inside.left c.go_on-self-inside.result c.self.invariant.1 c.if-not-self.false (sym c.self.view_is) c.go_on-self-inside.ensures.more
    c.go_on-self-inside.ensures.next

pub returns-clause-given : goal.returns-clause-given
returns-clause-given c = sym c.skip.ensures.kept ∙ ap (λ (deals : List (List ℕ)). filter (λ cards. is_representative cards) deals) (split c)

pub returns-clause-fewer : goal.returns-clause-fewer
returns-clause-fewer c = omega (arith, c.skip.ensures.no_more, ap (λ (deals : List (List ℕ)). length deals) (split c))
