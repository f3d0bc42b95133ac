-- The program's end on the first six words is its end on all.
use Rattle.std.proofs.Common.{ℕ, List, ◌++◌, length, drop, map, refl, ap, ◌∙◌}
use Rattle.vp_answer.specs.StatusCode.{code_of}
use Rattle.vp_run.proofs.GivenWords.{ended_as}
use Rattle.vpoker_c.proofs.Rooms.{IsPlaced, answered, unserved}
use Rattle.vpoker_c.proofs.answering.answer_into.Goals as goal

pub returns-in_default : goal.returns-in_default
returns-in_default c given is = unserved given c.args.input.now c.args.room.now

-- what stands in the room behind the call
placed : (c : goal.After-drop-sink-inside) → IsPlaced c.args.room.now (c.copy_from_slice.new.self ++ drop (length c.text-text.result.now) c.args.room.now) c.vpoker-status.new.sink (length c.text-text.result.now)
placed c = record {
  within = c.text-text.ensures.within;
  cut = c.text-text.ensures.cut;
  count = ap length c.text-text.ensures.text;
  bytes = ap (λ (front : List ℕ). front ++ drop (length c.text-text.result.now) c.args.room.now) (c.copy_from_slice.ensures.after ∙ c.text-text.ensures.text)
      ∙ ap (λ (n : ℕ). c.vpoker-status.new.sink.text ++ drop n c.args.room.now) (ap length c.text-text.ensures.text);
}

pub returns : goal.returns
returns c given is =
    let ended = ended_as given (map (λ w. w.now) c.args.words.now) _ _ _ _ c.vpoker-status.result (code_of c.vpoker-status.result) is refl c.vpoker-status.ensures.words c.vpoker-status.ensures.command in
    let here = rw (c.new-source.ensures, c.in-Ok.ensures) at ended in
    answered given c.args.input.now c.vpoker-status.new.source c.args.room.now _ c.vpoker-status.new.sink _ (code_of c.vpoker-status.result) (placed c) here
