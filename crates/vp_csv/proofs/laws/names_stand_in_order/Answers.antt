use Rattle.vp_csv.proofs.Names.{names_are_of}
use Rattle.vp_csv.proofs.laws.names_stand_in_order.Goals as goal

pub returns : goal.returns
returns c = names_are_of
