use Rattle.vp_suit.proofs.TurnedDraws.{dealt_is}
use Rattle.vp_draws.proofs.Chosen.{printed}
use Rattle.vp_draws.proofs.laws.printed_holds_are_best.Goals as goal

pub returns : goal.returns
returns c coin table cards t d = printed table coin cards t (dealt_is table.deck cards d)
