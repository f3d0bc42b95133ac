use Rattle.std.proofs.Common.{◌≤◌}
use Rattle.std.proofs.lemmas.List.Elements.{All-drop}
use Rattle.vp_count.specs.Table.{first_word, five_numbers}
use Rattle.vp_deal_tests.proofs.tests.count.sum_of_a_deck.Goals as goal

pub fill-requires-clause-bounded : goal.fill-requires-clause-bounded
unfolding five_numbers
fill-requires-clause-bounded c = All-drop (λ x. x ≤ 250000000000) (first_word 52 5) c.args.words.now c.requires.small
