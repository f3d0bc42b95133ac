-- The words of each test stand behind those before it.
use Rattle.std.proofs.Common.{◌≡◌, ◌<◌, List, ap, arith, get_or, length, length-append, subst, sym, ◌∙◌}
use Rattle.vp_lines.specs.Words.{HasStart, line_words, room_of}
use Rattle.vp_lines.specs.declared.words.Word.{Word}
use Rattle.vp_rule.specs.declared.rule.Test.{Test}
use Rattle.vp_rule.proofs.RuleWords.{room_append, start_append, tests_next}
use Rattle.vp_rule.proofs.writing.rule_line.Goals as goal

pub loop-test-preserved : goal.loop-test-preserved
loop-test-preserved c =
    let before = c.loop-test.invariant in
    let front = c.loop-test.words.items in
    let four = c.test_words.result in
    let room = ap room_of c.add_test.ensures ∙ room_append front four in
    let long = ap (λ (ws : List Word). length ws) c.add_test.ensures ∙ length-append front four in
    let tests = c.args.rule.now.tests.items in
    let i = c.loop-test.test-index in
    let test = c.test-item.result in
    let inside = subst (λ (ts : List Test). i < length ts) c.as_slice-test-items.ensures.value c.loop-test-test.true in
    let is = subst (λ (ts : List Test). test ≡ get_or ts i test) c.as_slice-test-items.ensures.value c.test-item.is in
    record {
      start = subst HasStart (sym c.add_test.ensures) (start_append front four before.start);
      spelled = ap line_words c.add_test.ensures ∙ tests_next c.args.table.now front four tests i test inside is before.spelled c.test_words.ensures.words;
      length = let few = before.length in omega arith;
      room = let few = before.room in let more = c.test_words.ensures.room in omega arith;
    }
