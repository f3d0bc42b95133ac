use Rattle.std.proofs.Common.{◌≡◌, ◌+◌, ◌-◌, ◌≤◌, ap, arith, get_or, length, take, drop}
use Rattle.std.specs.List.{sum}
use Rattle.vp_sets.proofs.Binomials.{choose_small}
use Rattle.vp_count.proofs.Scan.{Piece, Rest, above_start, above_as, index_below, piece, rest}
use Rattle.vp_count.proofs.table.sum_above.Goals as goal

pub overflow_add-first : goal.overflow_add-first
overflow_add-first c = omega (arith, c.requires.room, c.requires.index, index_below c.args.n c.args.set.now c.requires.set, choose_small c.args.n (length c.args.set.now) c.requires.deck (omega (arith, c.requires.few)))

pub loop-left-init : goal.loop-left-init
loop-left-init c = above_start c.args.n c.args.set.now c.args.words.now c.args.start c.args.index c.requires.set c.requires.index

pub sum_of_cards-total-requires-clause-within : goal.sum_of_cards-total-requires-clause-within
sum_of_cards-total-requires-clause-within c =
    let one : Piece c.args.n c.args.set.now c.args.words.now c.args.start c.loop-left.left (c.loop-left.left - 1) c.loop-left.end c.loop-left.first c.loop-left.total (get_or c.args.set.now (c.loop-left.left - 1) 0) = piece _ _ _ _ _ _ _ _ _ c.requires.deck c.requires.few c.requires.set c.requires.room (omega (arith, c.loop-left-test.true)) c.loop-left.invariant in
    one.within

pub sum_of_cards-total-requires-clause-order : goal.sum_of_cards-total-requires-clause-order
sum_of_cards-total-requires-clause-order c =
    let one : Piece c.args.n c.args.set.now c.args.words.now c.args.start c.loop-left.left (c.loop-left.left - 1) c.loop-left.end c.loop-left.first c.loop-left.total (get_or c.args.set.now (c.loop-left.left - 1) 0) = piece _ _ _ _ _ _ _ _ _ c.requires.deck c.requires.few c.requires.set c.requires.room (omega (arith, c.loop-left-test.true)) c.loop-left.invariant in
    omega (arith, one.member_lt)

pub sum_of_cards-total-requires-clause-small : goal.sum_of_cards-total-requires-clause-small
sum_of_cards-total-requires-clause-small c =
    let one : Piece c.args.n c.args.set.now c.args.words.now c.args.start c.loop-left.left (c.loop-left.left - 1) c.loop-left.end c.loop-left.first c.loop-left.total (get_or c.args.set.now (c.loop-left.left - 1) 0) = piece _ _ _ _ _ _ _ _ _ c.requires.deck c.requires.few c.requires.set c.requires.room (omega (arith, c.loop-left-test.true)) c.loop-left.invariant in
    omega (arith, one.fits, c.requires.small)

pub overflow_add-total : goal.overflow_add-total
overflow_add-total c =
    let one : Piece c.args.n c.args.set.now c.args.words.now c.args.start c.loop-left.left (c.loop-left.left - 1) c.loop-left.end c.loop-left.first c.loop-left.total (get_or c.args.set.now (c.loop-left.left - 1) 0) = piece _ _ _ _ _ _ _ _ _ c.requires.deck c.requires.few c.requires.set c.requires.room (omega (arith, c.loop-left-test.true)) c.loop-left.invariant in
    omega (arith, one.fits, c.sum_of_cards-total.ensures, c.requires.small)

pub overflow_sub-first : goal.overflow_sub-first
overflow_sub-first c =
    let one : Piece c.args.n c.args.set.now c.args.words.now c.args.start c.loop-left.left (c.loop-left.left - 1) c.loop-left.end c.loop-left.first c.loop-left.total (get_or c.args.set.now (c.loop-left.left - 1) 0) = piece _ _ _ _ _ _ _ _ _ c.requires.deck c.requires.few c.requires.set c.requires.room (omega (arith, c.loop-left-test.true)) c.loop-left.invariant in
    omega (arith, one.enough, c.choose.ensures)

pub overflow_add-first-in-loop-left : goal.overflow_add-first-in-loop-left
overflow_add-first-in-loop-left c =
    let one : Piece c.args.n c.args.set.now c.args.words.now c.args.start c.loop-left.left (c.loop-left.left - 1) c.loop-left.end c.loop-left.first c.loop-left.total (get_or c.args.set.now (c.loop-left.left - 1) 0) = piece _ _ _ _ _ _ _ _ _ c.requires.deck c.requires.few c.requires.set c.requires.room (omega (arith, c.loop-left-test.true)) c.loop-left.invariant in
    omega (arith, one.first_is, one.next_small, c.choose.ensures, c.choose-in-loop-left.ensures, c.requires.room)

pub loop-left-preserved : goal.loop-left-preserved
loop-left-preserved c =
    let one : Piece c.args.n c.args.set.now c.args.words.now c.args.start c.loop-left.left (c.loop-left.left - 1) c.loop-left.end c.loop-left.first c.loop-left.total (get_or c.args.set.now (c.loop-left.left - 1) 0) = piece _ _ _ _ _ _ _ _ _ c.requires.deck c.requires.few c.requires.set c.requires.room (omega (arith, c.loop-left-test.true)) c.loop-left.invariant in
    above_as _ _ _ _ _ _ _ _ _ _ (omega (arith, one.first_is, c.choose.ensures, c.choose-in-loop-left.ensures)) (ap (λ v. c.loop-left.total + v) c.sum_of_cards-total.ensures) one.next

pub overflow_add-first-2 : goal.overflow_add-first-2
overflow_add-first-2 c =
    let low : Rest c.args.n c.args.set.now c.args.words.now c.args.start c.loop-left.end c.loop-left.first c.loop-left.total = rest _ _ _ _ c.loop-left.left _ _ _ c.requires.set c.requires.room (omega (arith, c.loop-left-test.false)) c.loop-left.invariant in
    omega (arith, low.room)

pub offset_bounds-words-first : goal.offset_bounds-words-first
offset_bounds-words-first c =
    let low : Rest c.args.n c.args.set.now c.args.words.now c.args.start c.loop-left.end c.loop-left.first c.loop-left.total = rest _ _ _ _ c.loop-left.left _ _ _ c.requires.set c.requires.room (omega (arith, c.loop-left-test.false)) c.loop-left.invariant in
    omega (arith, low.room)

pub slice_bounds-sum_of-end : goal.slice_bounds-sum_of-end
slice_bounds-sum_of-end c =
    let low : Rest c.args.n c.args.set.now c.args.words.now c.args.start c.loop-left.end c.loop-left.first c.loop-left.total = rest _ _ _ _ c.loop-left.left _ _ _ c.requires.set c.requires.room (omega (arith, c.loop-left-test.false)) c.loop-left.invariant in
    low.room

pub sum_of-requires : goal.sum_of-requires
sum_of-requires c =
    let low : Rest c.args.n c.args.set.now c.args.words.now c.args.start c.loop-left.end c.loop-left.first c.loop-left.total = rest _ _ _ _ c.loop-left.left _ _ _ c.requires.set c.requires.room (omega (arith, c.loop-left-test.false)) c.loop-left.invariant in
    let many : c.loop-left.first + c.loop-left.end - c.loop-left.first ≡ c.loop-left.end = omega arith in
    let same : sum (take (c.loop-left.first + c.loop-left.end - c.loop-left.first) (drop c.loop-left.first c.args.words.now)) ≡ sum (take c.loop-left.end (drop c.loop-left.first c.args.words.now)) = ap (λ k. sum (take k (drop c.loop-left.first c.args.words.now))) many in
    omega (arith, low.whole, same, c.requires.small)

pub overflow_add-result : goal.overflow_add-result
overflow_add-result c =
    let low : Rest c.args.n c.args.set.now c.args.words.now c.args.start c.loop-left.end c.loop-left.first c.loop-left.total = rest _ _ _ _ c.loop-left.left _ _ _ c.requires.set c.requires.room (omega (arith, c.loop-left-test.false)) c.loop-left.invariant in
    let many : c.loop-left.first + c.loop-left.end - c.loop-left.first ≡ c.loop-left.end = omega arith in
    let same : sum (take (c.loop-left.first + c.loop-left.end - c.loop-left.first) (drop c.loop-left.first c.args.words.now)) ≡ sum (take c.loop-left.end (drop c.loop-left.first c.args.words.now)) = ap (λ k. sum (take k (drop c.loop-left.first c.args.words.now))) many in
    omega (arith, low.whole, same, c.sum_of.ensures, c.requires.small)

pub returns : goal.returns
returns c =
    let low : Rest c.args.n c.args.set.now c.args.words.now c.args.start c.loop-left.end c.loop-left.first c.loop-left.total = rest _ _ _ _ c.loop-left.left _ _ _ c.requires.set c.requires.room (omega (arith, c.loop-left-test.false)) c.loop-left.invariant in
    let many : c.loop-left.first + c.loop-left.end - c.loop-left.first ≡ c.loop-left.end = omega arith in
    let same : sum (take (c.loop-left.first + c.loop-left.end - c.loop-left.first) (drop c.loop-left.first c.args.words.now)) ≡ sum (take c.loop-left.end (drop c.loop-left.first c.args.words.now)) = ap (λ k. sum (take k (drop c.loop-left.first c.args.words.now))) many in
    omega (arith, low.whole, same, c.sum_of.ensures)
