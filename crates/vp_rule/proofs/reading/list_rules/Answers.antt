use Rattle.std.proofs.Common.{rules}
use Rattle.vp_text.proofs.Standing.{leaves_next}
use Rattle.vp_rule.specs.Kept.{step_behind}
use Rattle.vp_rule.specs.Reading.{item_behind}
use Rattle.vp_rule.proofs.reading.list_rules.Goals as goal

pub returns-then-only_is-clause-leaves : goal.returns-then-only_is-clause-leaves
returns-then-only_is-clause-leaves c = leaves_next _ _ _ _ c.loop-words.invariant.leaves c.in-Some.ensures.next.0 c.in-Some.ensures.next.1 c.in-Some.ensures.past

pub returns-in_default-next_exception-clause-leaves : goal.returns-in_default-next_exception-clause-leaves
returns-in_default-next_exception-clause-leaves c = leaves_next _ _ _ _ c.loop-words.invariant.leaves c.in-Some.ensures.next.0 c.in-Some.ensures.next.1 c.in-Some.ensures.past

pub returns-in_default-next_rule-clause-leaves : goal.returns-in_default-next_rule-clause-leaves
returns-in_default-next_rule-clause-leaves c = leaves_next _ _ _ _ c.loop-words.invariant.leaves c.in-Some.ensures.next.0 c.in-Some.ensures.next.1 c.in-Some.ensures.past

pub loop-words-preserved-then-next_is : goal.loop-words-preserved-then-next_is
unfolding step_behind item_behind
loop-words-preserved-then-next_is c = record {
  so_far = search rules;
  past = search rules;
  leaves = leaves_next _ _ _ _ c.loop-words.invariant.leaves c.in-Some.ensures.next.0 c.in-Some.ensures.next.1 c.in-Some.ensures.past;
}

pub loop-words-preserved : goal.loop-words-preserved
unfolding step_behind item_behind
loop-words-preserved c = record {
  so_far = search rules;
  past = search rules;
  leaves = leaves_next _ _ _ _ c.loop-words.invariant.leaves c.in-Some.ensures.next.0 c.in-Some.ensures.next.1 c.in-Some.ensures.past;
}
