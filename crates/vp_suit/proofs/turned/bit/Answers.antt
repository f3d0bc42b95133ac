use Rattle.std.proofs.Common.{cond, ap, sym, ◌∙◌}
use Rattle.vp_suit.specs.Turns.{turned}
use Rattle.vp_suit.proofs.Masks.{has-mapped}
use Rattle.vp_suit.proofs.turned.bit.Goals as goal

pub returns-then-some_turns_into-clause-value : goal.returns-then-some_turns_into-clause-value
returns-then-some_turns_into-clause-value c =
    ap (λ b. cond b 1 0) (sym c.if-some_turns_into.true ∙ c.some_turns_into.ensures ∙ sym (has-mapped (λ card. turned c.args.t card) c.args.cards.now c.args.number))

pub returns-else-some_turns_into-clause-value : goal.returns-else-some_turns_into-clause-value
returns-else-some_turns_into-clause-value c =
    ap (λ b. cond b 1 0) (sym c.if-some_turns_into.false ∙ c.some_turns_into.ensures ∙ sym (has-mapped (λ card. turned c.args.t card) c.args.cards.now c.args.number))
