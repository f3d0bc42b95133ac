-- One class more is passed over.
use Rattle.vp_suit.specs.declared.class.Class.{Class}
use Rattle.vp_audit.proofs.PassedClasses.{one_passed}
use Rattle.vp_audit.proofs.writing.pass.Goals as goal

pub loop-preserved : goal.loop-preserved
loop-preserved c = one_passed (λ (class : Class). class.hand) c.next.result c.args.classes.now c.loop.classes c.next.new.self c.loop.counter c.loop.invariant c.next.ensures.given c.next.ensures.end
