use Rattle.vp_hold.proofs.game.Game.fill.Goals as goal

pub invariant_of-result : goal.invariant_of-result
invariant_of-result g c = record { bet = c.requires.bet; paid = c.payment_means.ensures.sums }
