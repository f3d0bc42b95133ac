-- The class behind those that were passed over.
use Rattle.std.proofs.Common.{[]}
use Rattle.vp_suit.specs.declared.class.Class.{Class}
use Rattle.vp_audit.proofs.PassedClasses.{given_at, one_given, one_passed}
use Rattle.vp_audit.proofs.writing.hand_behind.Goals as goal

pub unwrap-requires : goal.unwrap-requires
unwrap-requires c = one_given c.next.result c.args.classes.now c.pass.new.classes c.args.number c.requires c.pass.ensures c.next.ensures.end

pub returns-clause-hand : goal.returns-clause-hand
returns-clause-hand c = given_at (λ (class : Class). class.hand) [] c.unwrap.result c.next.result c.args.classes.now c.pass.new.classes c.next.new.self c.args.number c.pass.ensures c.next.ensures.given c.unwrap.ensures

pub returns-clause-left : goal.returns-clause-left
returns-clause-left c = one_passed (λ (class : Class). class.hand) c.next.result c.args.classes.now c.pass.new.classes c.next.new.self c.args.number c.pass.ensures c.next.ensures.given c.next.ensures.end
