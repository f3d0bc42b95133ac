-- The first six items that the chain gives.
use Rattle.std.proofs.Common.{rules, sym, ◌∙◌}
use Rattle.std.proofs.lemmas.List.{map-id}
use Rattle.std.specs.Vec.Iter.{into_iter_items}
use Rattle.std.proofs.lemmas.Iterator.{YieldsList-from_take}
use Rattle.std.proofs.lemmas.Iterator.Adapters.{YieldsList-from_skip, YieldsList-from_vec}
use Rattle.std.proofs.lemmas.Iterator.Consumers.{YieldsList-end}
use Rattle.vp_run.proofs.arguments.texts_of.Goals as goal

pub returns-clause-texts : goal.returns-clause-texts
returns-clause-texts c =
    let h = c.into_iter-text-iterator.ensures.into_iter_gives in
    let k = c.take-text-items.ensures.source in
    let it = c.into_iter-text-iterator.result in
    let chain = YieldsList-from_take {s = it} 6 (YieldsList-from_skip {s = it.iter} 1 (YieldsList-from_vec {s = it.iter.iter} (into_iter_items c.args.arguments) (cc) (search rules)) (cc)) (cc) in
    let t = YieldsList-end chain c.loop-text.yielded c.loop-text.text-iterator c.loop-text.yielded_by c.next.result c.next.new.self c.in-None.is c.next.ensures.steps in
    c.loop-text.invariant ∙ (sym (map-id _) ∙ t.0)
