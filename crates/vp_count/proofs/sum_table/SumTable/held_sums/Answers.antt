use Rattle.std.proofs.Common.{◌≡◌, ◌<◌, ◌+◌, ℕ, List, length, get_or, sym, ap, subst, ◌∙◌, arith, refl, length-set}
use Rattle.vp_card.specs.Cards.{held}
use Rattle.vp_sets.specs.Sets.{choose}
use Rattle.vp_sets.specs.Index.{IsSet}
use Rattle.vp_count.specs.Sums.{containing}
use Rattle.vp_count.specs.Table.{five_numbers, first_word, Table, table_of}
use Rattle.vp_count.proofs.Fill.{numbers_count}
use Rattle.vp_count.proofs.Scan.{set_wider}
use Rattle.vp_count.proofs.HeldMasks.{HeldWord, found_more, held_word}
use Rattle.vp_count.proofs.sum_table.SumTable.held_sums.Goals as goal

size_is : (n : ℕ) (words : List ℕ) (t : Table) → table_of n words ≡ t → t.size ≡ n
size_is n words t e = sym (ap (λ (z : Table). z.size) e)

numbers_are : (n : ℕ) (words : List ℕ) (t : Table) → table_of n words ≡ t → t.numbers ≡ five_numbers n words
numbers_are n words t e = sym (ap (λ (z : Table). z.numbers) e)

numbered : (n : ℕ) (words : List ℕ) (t : Table) → table_of n words ≡ t → length words ≡ first_word n 6 → length t.numbers ≡ choose t.size 5
numbered n words t e long = subst (λ (z : Table). length z.numbers ≡ choose z.size 5) e (numbers_count n words long)

set_here : (n : ℕ) (words s : List ℕ) (t : Table) → table_of n words ≡ t → IsSet t.size s → IsSet n s
set_here n words s t e g = subst (λ z. IsSet z s) (size_is n words t e) g

pub held_indexes-indexes-requires : goal.held_indexes-indexes-requires
held_indexes-indexes-requires c = set_wider c.self.inside.n 54 c.args.hand.now c.self.invariant.0.deck (set_here c.self.inside.n c.self.inside.words.now c.args.hand.now c.args.self.now c.self.view_is c.requires.hand)

pub bounds-self-inside-cards_held : goal.bounds-self-inside-cards_held
bounds-self-inside-cards_held c = omega (arith, c.cards_held.ensures.few, c.self.invariant.1.long)

pub overflow_add-sums : goal.overflow_add-sums
overflow_add-sums c =
    let one : HeldWord c.self.inside.n c.self.inside.words.now c.args.hand.now c.held_indexes-indexes.result c.loop-mask.mask (get_or c.self.inside.starts c.cards_held.result 0) = held_word _ _ _ _ _ _ _ c.self.invariant.0 c.self.invariant.1 (set_here c.self.inside.n c.self.inside.words.now c.args.hand.now c.args.self.now c.self.view_is c.requires.hand) (omega arith) c.cards_held.ensures.many c.held_indexes-indexes.ensures (omega (arith, c.loop-mask-test.true)) in
    omega (arith, one.within)

pub offset_bounds-words-start : goal.offset_bounds-words-start
offset_bounds-words-start c =
    let one : HeldWord c.self.inside.n c.self.inside.words.now c.args.hand.now c.held_indexes-indexes.result c.loop-mask.mask (get_or c.self.inside.starts c.cards_held.result 0) = held_word _ _ _ _ _ _ _ c.self.invariant.0 c.self.invariant.1 (set_here c.self.inside.n c.self.inside.words.now c.args.hand.now c.args.self.now c.self.view_is c.requires.hand) (omega arith) c.cards_held.ensures.many c.held_indexes-indexes.ensures (omega (arith, c.loop-mask-test.true)) in
    omega (arith, one.within)

pub bounds-words-start : goal.bounds-words-start
bounds-words-start c =
    let one : HeldWord c.self.inside.n c.self.inside.words.now c.args.hand.now c.held_indexes-indexes.result c.loop-mask.mask (get_or c.self.inside.starts c.cards_held.result 0) = held_word _ _ _ _ _ _ _ c.self.invariant.0 c.self.invariant.1 (set_here c.self.inside.n c.self.inside.words.now c.args.hand.now c.args.self.now c.self.view_is c.requires.hand) (omega arith) c.cards_held.ensures.many c.held_indexes-indexes.ensures (omega (arith, c.loop-mask-test.true)) in
    one.within

pub loop-mask-preserved : goal.loop-mask-preserved
loop-mask-preserved c =
    let one : HeldWord c.self.inside.n c.self.inside.words.now c.args.hand.now c.held_indexes-indexes.result c.loop-mask.mask (get_or c.self.inside.starts c.cards_held.result 0) = held_word _ _ _ _ _ _ _ c.self.invariant.0 c.self.invariant.1 (set_here c.self.inside.n c.self.inside.words.now c.args.hand.now c.args.self.now c.self.view_is c.requires.hand) (omega arith) c.cards_held.ensures.many c.held_indexes-indexes.ensures (omega (arith, c.loop-mask-test.true)) in
    record {
      long = length-set c.loop-mask.sums c.loop-mask.mask _ ∙ c.loop-mask.invariant.long;
      found = found_more c.args.self.now.size c.self.inside.n c.args.self.now.numbers (five_numbers c.self.inside.n c.self.inside.words.now) c.args.hand.now c.loop-mask.sums c.loop-mask.mask _ (omega (arith, c.loop-mask.invariant.long)) (sym (size_is c.self.inside.n c.self.inside.words.now c.args.self.now c.self.view_is)) (sym (numbers_are c.self.inside.n c.self.inside.words.now c.args.self.now c.self.view_is)) c.loop-mask.invariant.found one.word;
    }

pub returns-clause-numbered : goal.returns-clause-numbered
returns-clause-numbered c = numbered c.self.inside.n c.self.inside.words.now c.args.self.now c.self.view_is c.self.invariant.0.sums.long
