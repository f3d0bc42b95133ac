use Rattle.vp_audit.proofs.OrderLosses.{left_is, order_is, worth_is}
use Rattle.vp_audit.proofs.laws.orders_lose_as_lists.Goals as goal

pub returns-clause-optimum : goal.returns-clause-optimum
returns-clause-optimum c = worth_is

pub returns-clause-loss : goal.returns-clause-loss
returns-clause-loss c = λ table coin pool order bet known whole. order_is table coin bet pool known order whole

pub returns-clause-left : goal.returns-clause-left
returns-clause-left c = λ table coin pool order places bet known whole some. left_is table coin bet pool known order whole places some
