use Rattle.std.proofs.Common.{◌≡◌, ◌-◌, ◌≤◌, ℕ, List, length, get_or, take, drop, sym, ap, subst, ◌∙◌, arith, rules, lit≤, length-drop}
use Rattle.std.proofs.lemmas.List.{take_all}
use Rattle.vp_sets.specs.Sets.{choose}
use Rattle.vp_count.specs.Table.{five_numbers, first_word, Table, table_of}
use Rattle.vp_count.proofs.Fill.{numbers_count}
use Rattle.vp_count.proofs.Words.{first_word_mono, first_word_small}
use Rattle.vp_count.proofs.sum_table.SumTable.numbers.Goals as goal

numbered : (n : ℕ) (words : List ℕ) (t : Table) → table_of n words ≡ t → length words ≡ first_word n 6 → length t.numbers ≡ choose t.size 5
numbered n words t e long = subst (λ (z : Table). length z.numbers ≡ choose z.size 5) e (numbers_count n words long)

last : (n first count : ℕ) (words : List ℕ) (t : Table) → table_of n words ≡ t → first ≡ first_word n 5 → length words - first ≤ count → take count (drop first words) ≡ t.numbers
unfolding five_numbers
last n first count words t e is all =
    take_all count (drop first words) (omega (arith, all, length-drop first words)) ∙ ap (λ k. drop k words) is ∙ ap (λ (z : Table). z.numbers) e

pub offset_bounds-self-inside-self-inside : goal.offset_bounds-self-inside-self-inside
offset_bounds-self-inside-self-inside c = omega (arith, c.self.invariant.1.told 5 (lit≤ tt), first_word_small c.self.inside.n 5 c.self.invariant.0.deck (lit≤ tt))

pub slice_bounds-result-count : goal.slice_bounds-result-count
slice_bounds-result-count c = omega (arith, c.self.invariant.1.told 5 (lit≤ tt), c.self.invariant.0.sums.long, first_word_mono c.self.inside.n 5 6 (lit≤ tt))

pub slice_bounds-result-start : goal.slice_bounds-result-start
slice_bounds-result-start c =
    let within : get_or c.self.inside.starts 5 0 ≤ length c.self.inside.words.now = omega (arith, c.self.invariant.1.told 5 (lit≤ tt), c.self.invariant.0.sums.long, first_word_mono c.self.inside.n 5 6 (lit≤ tt)) in
    search rules

pub returns-clause-numbers : goal.returns-clause-numbers
returns-clause-numbers c = last c.self.inside.n (get_or c.self.inside.starts 5 0) _ c.self.inside.words.now c.args.self.now c.self.view_is (c.self.invariant.1.told 5 (lit≤ tt)) (omega arith)

pub returns-clause-numbered : goal.returns-clause-numbered
returns-clause-numbered c = numbered c.self.inside.n c.self.inside.words.now c.args.self.now c.self.view_is c.self.invariant.0.sums.long
