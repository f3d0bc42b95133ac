use Rattle.vp_compile.proofs.Settled.{settled_last, settled_stay, first_are_exchanged}
use Rattle.vp_compile.proofs.laws.orders_settle.Goals as goal

pub returns-clause-stay : goal.returns-clause-stay
returns-clause-stay c = settled_stay

pub returns-clause-exchanged : goal.returns-clause-exchanged
returns-clause-exchanged c = first_are_exchanged

pub returns-clause-ended : goal.returns-clause-ended
returns-clause-ended c = settled_last
