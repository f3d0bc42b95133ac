use Rattle.std.proofs.Common.{map}
use Rattle.vpoker_lent.proofs.Rooms.{measured_err}
use Rattle.vpoker_lent.proofs.answering.measured.Goals as goal

pub returns-in-Err : goal.returns-in-Err
returns-in-Err c given is =
    measured_err given (map (λ w. w.now) c.args.words.now) c.args.input.now c.in-Err.status c.code.result is c.code.ensures c.in-Err.ensures.short
