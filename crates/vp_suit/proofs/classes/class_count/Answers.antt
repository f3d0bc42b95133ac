use Rattle.std.proofs.Common.{arith}
use Rattle.vp_suit.proofs.Walks.{few_classes}
use Rattle.vp_suit.proofs.classes.class_count.Goals as goal

pub overflow_add-count : goal.overflow_add-count
overflow_add-count c = omega (arith, few_classes c.args.n c.requires)
