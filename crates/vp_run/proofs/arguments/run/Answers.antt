-- The words are the first six, and no command has more.
use Rattle.std.proofs.Common.{◌≡◌, ap, map, take, drop, ◌∙◌, string_bytes, sym}
use Rattle.std.proofs.lemmas.List.{take-map}
use Rattle.std.specs.Vec.Iter.{into_iter_items}
use Rattle.vp_run.specs.Arguments.{words_of}
use Rattle.vp_run.proofs.GivenWords.{ended_as, needs-take}
use Rattle.vp_run.specs.Answer.{needs_input}
use Rattle.vp_run.proofs.arguments.run.Goals as goal

pub returns-clause-ended : goal.returns-clause-ended
returns-clause-ended g c =
    let texts = c.texts_of-texts.ensures.texts in
    let seen : map (λ w. w.now) c.deref-2.result.now ≡ take 6 (words_of c.args.arguments) =
    ap (map (λ w. w.now)) c.deref-2.ensures.0 ∙ (c.slices_of-words.ensures ∙ (ap (map string_bytes) (c.deref.ensures.0 ∙ texts) ∙ sym (take-map string_bytes 6 (drop 1 (into_iter_items c.args.arguments))))) in
    ended_as (words_of c.args.arguments) _ _ _ _ _ c.vpoker_in_blocks-status.result.0 _ seen c.code.ensures c.vpoker_in_blocks-status.ensures.words c.vpoker_in_blocks-status.ensures.command

pub returns-clause-unread : goal.returns-clause-unread
returns-clause-unread g c none =
    let texts = c.texts_of-texts.ensures.texts in
    let seen : map (λ w. w.now) c.deref-2.result.now ≡ take 6 (words_of c.args.arguments) =
    ap (map (λ w. w.now)) c.deref-2.ensures.0 ∙ (c.slices_of-words.ensures ∙ (ap (map string_bytes) (c.deref.ensures.0 ∙ texts) ∙ sym (take-map string_bytes 6 (drop 1 (into_iter_items c.args.arguments))))) in
    c.vpoker_in_blocks-status.ensures.unread (ap needs_input seen ∙ (needs-take (words_of c.args.arguments) ∙ none))
