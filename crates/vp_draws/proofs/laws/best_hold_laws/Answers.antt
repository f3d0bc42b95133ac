-- Some mask is the best of the 32.
use Rattle.vp_suit.proofs.TurnedDraws.{dealt_is}
use Rattle.vp_draws.proofs.Chosen.{least_best_small, least_best_value, value_le_best, below_least_best}
use Rattle.vp_draws.proofs.Values.{value_mean, value2_mean, value2_fits}
use Rattle.vp_draws.proofs.Bounds.{best_small, best_fits, sum_of_best_fits}
use Rattle.vp_draws.proofs.laws.best_hold_laws.Goals as goal

pub returns-clause-mask : goal.returns-clause-mask
returns-clause-mask c coin table cards = least_best_small table coin cards

pub returns-clause-value : goal.returns-clause-value
returns-clause-value c coin table cards = least_best_value table coin cards

pub returns-clause-greatest : goal.returns-clause-greatest
returns-clause-greatest c mask coin table cards l = value_le_best table coin cards mask l

pub returns-clause-least : goal.returns-clause-least
returns-clause-least c mask coin table cards l = below_least_best table coin cards mask l

pub returns-clause-mean : goal.returns-clause-mean
returns-clause-mean c mask coin table cards t d = value_mean table coin cards mask t (dealt_is table.deck cards d)

pub returns-clause-mean2 : goal.returns-clause-mean2
returns-clause-mean2 c mask coin table cards t d = value2_mean table coin cards mask t (dealt_is table.deck cards d)

pub returns-clause-fits2 : goal.returns-clause-fits2
returns-clause-fits2 c mask coin table cards t d = value2_fits table coin cards mask t (dealt_is table.deck cards d)

pub returns-clause-bound : goal.returns-clause-bound
returns-clause-bound c coin table cards t d = best_small table coin cards t (dealt_is table.deck cards d)

pub returns-clause-fits : goal.returns-clause-fits
returns-clause-fits c coin table cards t d = best_fits table coin cards t (dealt_is table.deck cards d)

pub returns-clause-sum_fits : goal.returns-clause-sum_fits
returns-clause-sum_fits c coin table t = sum_of_best_fits table coin t
