use Rattle.std.proofs.Common.{◌≡◌, ◌+◌, ◌<◌, ◌≤◌, ℕ, List, length, get_or, sym, ap, subst, ◌∙◌, arith}
use Rattle.vp_sets.specs.Sets.{choose}
use Rattle.vp_sets.specs.Index.{IsSet, set_index}
use Rattle.vp_count.specs.Sums.{containing}
use Rattle.vp_count.specs.Table.{HasSums, five_numbers, first_word, Table, table_of}
use Rattle.vp_count.proofs.Fill.{word_within, numbers_count}
use Rattle.vp_count.proofs.sum_table.SumTable.at.Goals as goal

within : (n size : ℕ) (w words s : List ℕ) (a b : ℕ) → size ≡ n → HasSums n 0 w words → IsSet size s → length s ≤ 5 → a ≡ first_word n (length s) → b ≡ set_index s → a + b < length words
within n size w words s a b e h g l p q =
    omega (arith, word_within n w words s h (subst (λ z. IsSet z s) e g) l)

size_is : (n : ℕ) (words : List ℕ) (t : Table) → table_of n words ≡ t → t.size ≡ n
size_is n words t e = sym (ap (λ (z : Table). z.size) e)

numbered : (n : ℕ) (words : List ℕ) (t : Table) → table_of n words ≡ t → length words ≡ first_word n 6 → length t.numbers ≡ choose t.size 5
numbered n words t e long = subst (λ (z : Table). length z.numbers ≡ choose z.size 5) e (numbers_count n words long)

pub bounds-self-inside-set : goal.bounds-self-inside-set
bounds-self-inside-set c = omega (arith, c.requires.few, c.self.invariant.1.long)

pub overflow_add-result : goal.overflow_add-result
overflow_add-result c = omega (arith, within c.self.inside.n c.args.self.now.size (five_numbers c.self.inside.n c.self.inside.words.now) c.self.inside.words.now c.args.set.now (get_or c.self.inside.starts (length c.args.set.now) 0) c.index_of.result (size_is c.self.inside.n c.self.inside.words.now c.args.self.now c.self.view_is) c.self.invariant.0.sums c.requires.set c.requires.few (c.self.invariant.1.told (length c.args.set.now) c.requires.few) c.index_of.ensures)

pub offset_bounds-self-inside-self-inside : goal.offset_bounds-self-inside-self-inside
offset_bounds-self-inside-self-inside c = omega (arith, within c.self.inside.n c.args.self.now.size (five_numbers c.self.inside.n c.self.inside.words.now) c.self.inside.words.now c.args.set.now (get_or c.self.inside.starts (length c.args.set.now) 0) c.index_of.result (size_is c.self.inside.n c.self.inside.words.now c.args.self.now c.self.view_is) c.self.invariant.0.sums c.requires.set c.requires.few (c.self.invariant.1.told (length c.args.set.now) c.requires.few) c.index_of.ensures)

pub bounds-self-inside-self-inside : goal.bounds-self-inside-self-inside
bounds-self-inside-self-inside c = within c.self.inside.n c.args.self.now.size (five_numbers c.self.inside.n c.self.inside.words.now) c.self.inside.words.now c.args.set.now (get_or c.self.inside.starts (length c.args.set.now) 0) c.index_of.result (size_is c.self.inside.n c.self.inside.words.now c.args.self.now c.self.view_is) c.self.invariant.0.sums c.requires.set c.requires.few (c.self.invariant.1.told (length c.args.set.now) c.requires.few) c.index_of.ensures

told : (n : ℕ) (words s : List ℕ) (t : Table) (a b : ℕ) → table_of n words ≡ t → HasSums n 0 (five_numbers n words) words → IsSet t.size s → length s ≤ 5 → a ≡ first_word n (length s) → b ≡ set_index s → get_or words (a + b) 0 ≡ containing t.size t.numbers s
told n words s t a b e h g l p q =
    let at : a + b ≡ first_word n (length s) + set_index s = omega arith in
    let here : get_or words (a + b) 0 ≡ containing n (five_numbers n words) s = ap (λ i. get_or words i 0) at ∙ h.sums s (subst (λ z. IsSet z s) (size_is n words t e) g) (omega arith) l in
    here ∙ ap (λ (z : Table). containing z.size z.numbers s) e

pub returns-clause-sum : goal.returns-clause-sum
returns-clause-sum c = told c.self.inside.n c.self.inside.words.now c.args.set.now c.args.self.now (get_or c.self.inside.starts (length c.args.set.now) 0) c.index_of.result c.self.view_is c.self.invariant.0.sums c.requires.set c.requires.few (c.self.invariant.1.told (length c.args.set.now) c.requires.few) c.index_of.ensures

pub returns-clause-numbered : goal.returns-clause-numbered
returns-clause-numbered c = numbered c.self.inside.n c.self.inside.words.now c.args.self.now c.self.view_is c.self.invariant.0.sums.long
