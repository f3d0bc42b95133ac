-- By induction on the hand.
use Rattle.vp_wild.proofs.FaceLemmas.{some_faces-Decides}
use Rattle.vp_wild.proofs.laws.faces_are_tried.Goals as goal

pub returns : goal.returns
returns c = some_faces-Decides
