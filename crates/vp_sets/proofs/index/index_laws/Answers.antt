use Rattle.std.proofs.Common.{◌≡◌, ◌<◌, ℕ, List, [], get_or, ap, sym, ◌∙◌}
use Rattle.std.proofs.lemmas.List.{ext_get_or}
use Rattle.vp_sets.specs.Sets.{choose}
use Rattle.vp_sets.specs.Index.{HasIndex, index_from, set_index, colex}
use Rattle.vp_sets.proofs.Colex.{Numbered, numbered, at_index, colex_count, combos_colex, set_from, set_rises, set_below}
use Rattle.vp_sets.proofs.Walk.{has_index_lt}
use Rattle.vp_sets.proofs.index.index_laws.Goals as goal

at_place : (n k i : ℕ) → i < choose n k → HasIndex n k i (get_or (colex k n) i [])
unfolding set_index
at_place n k i l =
    let h : Numbered k n i (get_or (colex k n) i []) = numbered k n i l in
    record { is_set = set_from n (get_or (colex k n) i []) h.rises h.below; many = h.many; index = h.index }

only_place : (n k i : ℕ) (s : List ℕ) → HasIndex n k i s → s ≡ get_or (colex k n) i []
unfolding set_index
only_place n k i s h =
    sym (at_index n s (set_rises n s h.is_set) (set_below n s h.is_set)) ∙ ap (λ m. get_or (colex m n) (index_from 0 s) []) h.many ∙ ap (λ j. get_or (colex k n) j []) h.index

pub returns-clause-at : goal.returns-clause-at
returns-clause-at c = at_place

pub returns-clause-only : goal.returns-clause-only
returns-clause-only c = λ n k i s h. (has_index_lt n k i s h, only_place n k i s h)

pub returns-clause-walk : goal.returns-clause-walk
returns-clause-walk c = λ n k walk many each. ext_get_or [] walk (colex k n) (many ∙ sym (colex_count k n)) (λ i l. only_place n k i (get_or walk i []) (each i l))

pub returns-clause-count : goal.returns-clause-count
returns-clause-count c = λ n k. colex_count k n

pub returns-clause-sublists : goal.returns-clause-sublists
returns-clause-sublists c = λ n k. combos_colex k n
