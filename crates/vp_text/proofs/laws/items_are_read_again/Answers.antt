use Rattle.vp_text.proofs.Streams.{skipped_is}
use Rattle.vp_text.proofs.laws.items_are_read_again.Goals as goal

pub returns : goal.returns
returns g c = λ word item_of apart feed. skipped_is word item_of apart feed
