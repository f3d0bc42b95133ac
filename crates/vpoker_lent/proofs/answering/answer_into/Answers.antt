-- What the sink took stands in the room, since it is over the same room to the end.
use Rattle.std.proofs.Common.{◌≡◌, ℕ, List, ◌++◌, ◌-◌, length, take, map, refl, ap, ◌∙◌, sym, subst, rules, arith}
use Rattle.std.specs.Prelude.{replicate}
use Rattle.vp_io.specs.Streams.{Told}
use Rattle.vp_run.specs.Answer.{answer}
use Rattle.vp_answer.specs.Lent.{EndsLent}
use Rattle.vpoker_lent.specs.Keeping.{told_by}
use Rattle.vpoker_lent.proofs.Rooms.{answered, begins, placed, same_room}
use Rattle.vpoker_lent.proofs.answering.answer_into.Goals as goal

pub returns : goal.returns
returns c given is =
    let s = c.vpoker_lent-status.new.sink in
    let ended = subst (λ (t : Told). EndsLent (answer (map (λ w. w.now) c.args.words.now) c.args.input.now) t (told_by s) c.vpoker_lent-status.result)
    (begins c.new-sink.result (length c.args.room.now) c.new-sink.ensures.size c.new-sink.ensures.none c.new-sink.ensures.whole) c.vpoker_lent-status.ensures.ends in
    let same : s.room.ghost_name ≡ c.new-sink.result.room.ghost_name = same_room _ _ _ s _ ended in
    answered given (map (λ w. w.now) c.args.words.now) c.args.input.now (length c.args.memory.now) c.new-sink.result.room.ghost_name c.args.room.now _ s c.finish.result
    c.vpoker_lent-status.result _ is refl
    (placed s c.args.room.now _ c.finish.result c.finish.ensures.count c.finish.ensures.within c.finish.ensures.cut (search (rules, same)))
    ended c.vpoker_lent-status.ensures.long c.vpoker_lent-status.ensures.memory
