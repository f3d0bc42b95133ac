-- Each class is put behind those before it.
use Rattle.std.proofs.Common.{refl, ap, ◌∙◌, arith}
use Rattle.vp_pay.specs.declared.table.PayTable.{PayTable}
use Rattle.vp_suit.specs.Classes.{representatives}
use Rattle.vp_cert.proofs.SoFar.{added_as, due_same, end_put, end_sum, next, next_asked, next_hand, next_fits, start, stopped}
use Rattle.vp_cert.proofs.classes.put_classes.Goals as goal

pub loop-class-init : goal.loop-class-init
loop-class-init g c = record {
  so_far = start _ _ _ _ _ c.table.ensures.rules (c.new-classes.ensures ∙ ap (λ (t : PayTable). representatives t.deck) c.table.ensures.table);
  same_table = refl;
  same_coin = refl;
}

pub due_line-line-requires-clause-cards : goal.due_line-line-requires-clause-cards
due_line-line-requires-clause-cards g c = next_hand _ _ c.in-Some.class.hand _ _ c.in-Some.ensures.given _ _ _ _ _ _ c.loop-class.invariant.same_table c.loop-class.invariant.so_far

pub returns-in_err-put_class-clause-puts : goal.returns-in_err-put_class-clause-puts
returns-in_err-put_class-clause-puts g c =
    stopped _ _ c.in-Some.class.hand _ _ c.in-Some.ensures.given _ c.due_line-line.result _ _ _ _ _ _ _ _
    (due_same _ _ _ _ _ _ c.loop-class.invariant.same_table c.loop-class.invariant.same_coin c.due_line-line.ensures.line)
    c.in_err-put_class.was c.from_residual.ensures.0 c.put_class.ensures c.loop-class.invariant.so_far

pub returns-in_err-put_class-clause-asked : goal.returns-in_err-put_class-clause-asked
returns-in_err-put_class-clause-asked g c = next_asked _ _ c.in-Some.class.hand _ _ c.in-Some.ensures.given _ _ _ _ _ _ c.due_line-line.ensures.counted c.loop-class.invariant.so_far

pub loop-class-preserved : goal.loop-class-preserved
loop-class-preserved g c = record {
  so_far =
      next _ _ c.in-Some.class.hand _ _ c.in-Some.ensures.given _ _ _ c.due_line-line.result _ _ _ _ _ _ _ _
      (due_same _ _ _ _ _ _ c.loop-class.invariant.same_table c.loop-class.invariant.same_coin c.due_line-line.ensures.line)
      c.in_ok-put_class.was c.put_class.ensures c.due_line-line.ensures.counted refl (rw (c.from.ensures, c.from-in-Some.ensures) refl) c.loop-class.invariant.so_far;
  same_table = c.due_line-line.ensures.same_table ∙ c.loop-class.invariant.same_table;
  same_coin = c.due_line-line.ensures.same_coin ∙ c.loop-class.invariant.same_coin;
}

pub overflow_add-sum : goal.overflow_add-sum
overflow_add-sum g c =
    let table = g.H.Holds.pays c.args.holds.now in
    let coin = g.H.Holds.bet c.args.holds.now in
    let due = due_same _ _ _ _ _ _ c.loop-class.invariant.same_table c.loop-class.invariant.same_coin c.due_line-line.ensures.line in
    let adds = added_as table coin c.in-Some.class.hand c.due_line-line.result c.from.result c.from-in-Some.result due c.from.ensures c.from-in-Some.ensures in
    let fits = next_fits table coin c.in-Some.class.hand _ _ c.in-Some.ensures.given _ _ _ _ _ c.table.ensures.rules c.loop-class.invariant.so_far in
    omega arith

pub returns-clause-puts : goal.returns-clause-puts
returns-clause-puts g c = end_put _ _ _ _ _ _ _ _ _ c.in_default.ensures.end c.loop-class.invariant.so_far

pub returns-clause-sum : goal.returns-clause-sum
returns-clause-sum g c = end_sum _ _ _ _ _ _ _ _ c.table.ensures.rules c.in_default.ensures.end c.loop-class.invariant.so_far
