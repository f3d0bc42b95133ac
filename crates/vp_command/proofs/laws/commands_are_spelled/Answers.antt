use Rattle.vp_command.proofs.CommandWords.{commands_spelled}
use Rattle.vp_command.proofs.laws.commands_are_spelled.Goals as goal

pub returns : goal.returns
returns c = commands_spelled
