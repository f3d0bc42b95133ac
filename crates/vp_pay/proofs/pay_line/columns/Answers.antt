use Rattle.std.proofs.Common.{◌∙◌, arith, length-set}
use Rattle.vp_pay.proofs.Columns.{columns_more, columns_stop, columns_end, columns_none, above_more}
use Rattle.vp_pay.proofs.pay_line.columns.Goals as goal

pub returns-in_default : goal.returns-in_default
returns-in_default c =
    columns_none _ _ (columns_stop _ _ _ _ _ c.loop-column-test.true c.in_default.ensures c.loop-column.invariant.so_far)

pub loop-column-preserved : goal.loop-column-preserved
loop-column-preserved c = record {
  so_far = columns_more _ _ _ _ _ _ _ c.loop-column-test.true c.requires c.loop-column.invariant.all c.in-Some.ensures c.loop-column.invariant.so_far;
  above = above_more _ _ _ (omega arith) c.loop-column.invariant.all c.loop-column.invariant.above;
  all = length-set _ _ _ ∙ c.loop-column.invariant.all;
}

pub returns : goal.returns
returns c = columns_end _ _ _ _ _ c.loop-column-test.false (omega arith) c.loop-column.invariant.above c.loop-column.invariant.so_far
