use Rattle.std.proofs.Common.{arith, ◌≡◌, ◌∙◌, ap, ℕ, List, ◌+◌, ◌/◌, slice_index_or}
use Rattle.vp_sets.specs.Sets.{choose}
use Rattle.vp_wild.proofs.Raised.{ranks_row, ranks_below, term_small}
use Rattle.vp_wild.proofs.places.ranks_index.Goals as goal

first : (cards : List ℕ) (r : ℕ) → r ≡ choose (slice_index_or cards 0 0 / 4 + 0) 1 → r ≡ choose (slice_index_or cards 0 0 / 4) 1
first cards r is = let same : slice_index_or cards 0 0 / 4 + 0 ≡ slice_index_or cards 0 0 / 4 = omega arith in is ∙ ap (λ n. choose n 1) same

pub overflow_add-index : goal.overflow_add-index
overflow_add-index c =
    omega (arith, term_small c.args.cards.now 0 (slice_index_or c.args.cards.now 0 0 / 4) 1 c.ways.result c.requires.set c.requires.five (omega arith) (omega arith) (omega arith) (first c.args.cards.now c.ways.result c.ways.ensures), term_small c.args.cards.now 1 (slice_index_or c.args.cards.now 1 0 / 4 + 1) 2 c.ways-2.result c.requires.set c.requires.five (omega arith) (omega arith) (omega arith) c.ways-2.ensures)

pub overflow_add-index-2 : goal.overflow_add-index-2
overflow_add-index-2 c =
    omega (arith, term_small c.args.cards.now 0 (slice_index_or c.args.cards.now 0 0 / 4) 1 c.ways.result c.requires.set c.requires.five (omega arith) (omega arith) (omega arith) (first c.args.cards.now c.ways.result c.ways.ensures), term_small c.args.cards.now 1 (slice_index_or c.args.cards.now 1 0 / 4 + 1) 2 c.ways-2.result c.requires.set c.requires.five (omega arith) (omega arith) (omega arith) c.ways-2.ensures, term_small c.args.cards.now 2 (slice_index_or c.args.cards.now 2 0 / 4 + 2) 3 c.ways-3.result c.requires.set c.requires.five (omega arith) (omega arith) (omega arith) c.ways-3.ensures)

pub overflow_add-result : goal.overflow_add-result
overflow_add-result c =
    omega (arith, term_small c.args.cards.now 0 (slice_index_or c.args.cards.now 0 0 / 4) 1 c.ways.result c.requires.set c.requires.five (omega arith) (omega arith) (omega arith) (first c.args.cards.now c.ways.result c.ways.ensures), term_small c.args.cards.now 1 (slice_index_or c.args.cards.now 1 0 / 4 + 1) 2 c.ways-2.result c.requires.set c.requires.five (omega arith) (omega arith) (omega arith) c.ways-2.ensures, term_small c.args.cards.now 2 (slice_index_or c.args.cards.now 2 0 / 4 + 2) 3 c.ways-3.result c.requires.set c.requires.five (omega arith) (omega arith) (omega arith) c.ways-3.ensures, term_small c.args.cards.now 3 (slice_index_or c.args.cards.now 3 0 / 4 + 3) 4 c.ways-4.result c.requires.set c.requires.five (omega arith) (omega arith) (omega arith) c.ways-4.ensures)

pub overflow_add-result-2 : goal.overflow_add-result-2
overflow_add-result-2 c =
    omega (arith, ranks_below c.args.cards.now c.requires.set c.requires.five, ranks_row c.args.cards.now c.ways.result c.ways-2.result c.ways-3.result c.ways-4.result c.ways-5.result c.requires.five (first c.args.cards.now c.ways.result c.ways.ensures) c.ways-2.ensures c.ways-3.ensures c.ways-4.ensures c.ways-5.ensures)

pub returns-clause-index : goal.returns-clause-index
returns-clause-index c = ranks_row c.args.cards.now c.ways.result c.ways-2.result c.ways-3.result c.ways-4.result c.ways-5.result c.requires.five (first c.args.cards.now c.ways.result c.ways.ensures) c.ways-2.ensures c.ways-3.ensures c.ways-4.ensures c.ways-5.ensures

pub returns-clause-below : goal.returns-clause-below
returns-clause-below c =
    omega (arith, ranks_below c.args.cards.now c.requires.set c.requires.five, ranks_row c.args.cards.now c.ways.result c.ways-2.result c.ways-3.result c.ways-4.result c.ways-5.result c.requires.five (first c.args.cards.now c.ways.result c.ways.ensures) c.ways-2.ensures c.ways-3.ensures c.ways-4.ensures c.ways-5.ensures)
