use Rattle.std.proofs.Common.{◌≡◌, ◌<◌, ◌≤◌, ℕ, [], List, length, map, take, get_or, ap, sym, subst, ◌∙◌, arith}
use Rattle.std.proofs.lemmas.List.{length-replicate, length-take-le}
use Rattle.std.proofs.Math.ListN.{replicate}
use Rattle.vp_check.proofs.Asked.{front_is, front_of_deck, have_values}
use Rattle.vp_draws.specs.Many.{AreValues, deal_at}
use Rattle.vp_check.proofs.walk.walked.Goals as goal

pub many_values-requires-clause-cards : goal.many_values-requires-clause-cards
many_values-requires-clause-cards g c = front_of_deck c.args.table.now.deck c.args.asked.now c.hands_of-hands.result c.requires.lines c.hands_of-hands.ensures.hands (omega (arith, c.hands_of-hands.ensures.room, c.requires.few))

pub returns : goal.returns
returns g c = λ later.
    let all : length (take (length c.args.asked.now) c.hands_of-hands.result) ≡ length c.args.asked.now = length-take-le (length c.args.asked.now) c.hands_of-hands.result (omega (arith, c.hands_of-hands.ensures.room, c.requires.few)) in
    let blank : List (List ℕ) = replicate 256 (replicate {A = ℕ} 32 0) in
    let long : length c.many_values.new.values ≡ length (take (length c.args.asked.now) blank) = c.many_values.auto.values in
    let room : length blank ≡ 256 = length-replicate 256 (replicate {A = ℕ} 32 0) in
    let rows : length (take (length c.args.asked.now) blank) ≡ length c.args.asked.now = length-take-le (length c.args.asked.now) blank (omega (arith, room, c.requires.few)) in
    c.first_broken.ensures c.args.table.now c.args.coin later (have_values c.args.table.now c.args.coin c.args.asked.now c.many_values.new.values _ (long ∙ rows) (λ k l.
    subst (λ (hand : List ℕ). AreValues c.args.table.now c.args.coin hand (get_or c.many_values.new.values k [])) (front_is c.args.asked.now c.hands_of-hands.result c.hands_of-hands.ensures.hands k l) (c.many_values.ensures.values k (omega arith))))
