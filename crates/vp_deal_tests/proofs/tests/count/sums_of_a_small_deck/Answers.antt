use Rattle.std.proofs.Common.{◌≤◌, arith, replicate, set}
use Rattle.std.proofs.lemmas.List.Elements.{All-drop, All-set, All-replicate}
use Rattle.vp_count.specs.Table.{first_word, five_numbers}
use Rattle.vp_deal_tests.proofs.tests.count.sums_of_a_small_deck.Goals as goal

pub fill-table-requires-clause-bounded : goal.fill-table-requires-clause-bounded
unfolding five_numbers
fill-table-requires-clause-bounded g c = All-drop (λ x. x ≤ 250000000000) (first_word 7 5) (set (replicate 120 1) 110 5) (All-set (λ x. x ≤ 250000000000) (replicate 120 1) 110 5 (omega arith) (All-replicate (λ x. x ≤ 250000000000) 120 1 (omega arith)))
