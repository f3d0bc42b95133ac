use Rattle.std.proofs.Common.{◌∙◌, ap, arith}
use Rattle.vp_pay.specs.declared.table.PayTable.{PayTable}
use Rattle.vp_sets.specs.Sets.{choose}
use Rattle.vp_sets.specs.Draws.{common}
use Rattle.vp_multi.proofs.Room.{has_room, mean_of, second_of, within_of, between_of}
use Rattle.vp_multi.proofs.several_hands.moments.Goals as goal

pub numerators-requires-clause-room : goal.numerators-requires-clause-room
numerators-requires-clause-room c =
    has_room c.args.game.now.table c.args.game.now.coin _ _ _ _ _ _ c.table.ensures.rules (omega (arith, c.from-2.ensures, c.requires.hands_to)) c.power_sums-sums.ensures
    (c.from.ensures ∙ c.common.ensures.value ∙ ap (λ (t : PayTable). common t.deck) c.table.ensures.table)
    (c.from-deals.ensures ∙ c.choose.ensures ∙ ap (λ (t : PayTable). choose t.deck 5) c.table.ensures.table)

pub returns-clause-mean : goal.returns-clause-mean
returns-clause-mean c = c.numerators.ensures.mean ∙ mean_of c.args.game.now.table c.args.game.now.coin c.args.hands _ _ _ _ c.from-2.ensures c.power_sums-sums.ensures

pub returns-clause-second : goal.returns-clause-second
returns-clause-second c =
    c.numerators.ensures.second
    ∙ second_of c.args.game.now.table c.args.game.now.coin c.args.hands _ _ _ _ _ c.from-2.ensures (c.from.ensures ∙ c.common.ensures.value ∙ ap (λ (t : PayTable). common t.deck) c.table.ensures.table) c.power_sums-sums.ensures

pub returns-clause-within : goal.returns-clause-within
returns-clause-within c =
    c.numerators.ensures.within
    ∙ within_of c.args.game.now.table c.args.game.now.coin _ _ _ _ c.table.ensures.rules (c.from.ensures ∙ c.common.ensures.value ∙ ap (λ (t : PayTable). common t.deck) c.table.ensures.table) c.power_sums-sums.ensures

pub returns-clause-between : goal.returns-clause-between
returns-clause-between c =
    c.numerators.ensures.between
    ∙ between_of c.args.game.now.table c.args.game.now.coin _ _ _ _ (c.from-deals.ensures ∙ c.choose.ensures ∙ ap (λ (t : PayTable). choose t.deck 5) c.table.ensures.table) c.power_sums-sums.ensures
