use Rattle.std.proofs.Common.{[]}
use Rattle.vp_text.proofs.Streams.{folded_is}
use Rattle.vp_text.proofs.laws.states_stand_for_items.Goals as goal

pub returns : goal.returns
returns g c = λ row_of step_of state stands feed. folded_is row_of step_of state stands feed.lines feed.past []
