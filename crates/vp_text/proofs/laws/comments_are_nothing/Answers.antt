use Rattle.vp_text.proofs.Comments.{comment_read}
use Rattle.vp_text.proofs.laws.comments_are_nothing.Goals as goal

pub returns : goal.returns
returns c = λ text more all. comment_read text more all
