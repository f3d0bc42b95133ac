-- Over the blocks nothing is held back at first, and what the answer leaves there is put at the end.
use Rattle.std.proofs.Common.{[]}
use Rattle.vp_answer.proofs.Closing.{outcome_closed, unread_closed}
use Rattle.vp_run.proofs.NoCommand.{answer_some}
use Rattle.vp_run.proofs.top.vpoker_in_blocks.Goals as goal

pub returns-clause-words : goal.returns-clause-words
returns-clause-words g c none =
    unread_closed _ (g.K.Sink.told c.args.sink) _ _ c.vpoker-status.result _ c.requires.fresh (answer_some _ [])
    (rw c.new-blocks.ensures at (c.vpoker-status.ensures.words none)) c.close.ensures

pub returns-clause-command : goal.returns-clause-command
returns-clause-command g c needs =
    outcome_closed _ _ _ (g.K.Sink.told c.args.sink) _ _ c.vpoker-status.result _ c.requires.fresh (λ bytes. answer_some _ bytes)
    (rw c.new-blocks.ensures at (c.vpoker-status.ensures.command needs)) c.close.ensures
