use Rattle.std.proofs.Common.{◌≡◌, ◌+◌, ◌<◌, ◌≤◌, ℕ, suc, List, length, get_or, take, ap, sym, ◌∙◌, arith, add-one}
use Rattle.vp_sets.specs.Sets.{choose}
use Rattle.vp_sets.specs.Index.{IsSet, index_from, set_index}
use Rattle.vp_sets.proofs.Colex.{index-none}
use Rattle.vp_sets.proofs.Walk.{index_take, index_take_small, take_every}
use Rattle.vp_sets.proofs.index.index_of.Goals as goal

small : (s : List ℕ) (i r : ℕ) → IsSet 54 s → length s ≤ 5 → i < length s → r ≡ choose (get_or s i 0) (i + 1) → index_from 0 (take i s) + r ≤ 459165024
small s i r h few l e =
    let f : choose (get_or s i 0) (i + 1) ≡ choose (get_or s i 0) (suc i) = ap (λ m. choose (get_or s i 0) m) (add-one i) in
    omega (arith, index_take_small s i h few l)

pub loop-place-init : goal.loop-place-init
loop-place-init c = sym (index-none 0)

pub overflow_cast-index : goal.overflow_cast-index
overflow_cast-index c = omega (arith, small c.args.set.now c.loop-place.place c.choose.result c.requires.set c.requires.few (omega arith) c.choose.ensures)

pub overflow_add-index : goal.overflow_add-index
overflow_add-index c = omega (arith, small c.args.set.now c.loop-place.place c.choose.result c.requires.set c.requires.few (omega arith) c.choose.ensures)

pub loop-place-preserved : goal.loop-place-preserved
loop-place-preserved c =
    let s : List ℕ = c.args.set.now in
    let i : ℕ = c.loop-place.place in
    let l : i < length s = omega arith in
    let f : choose (get_or s i 0) (i + 1) ≡ choose (get_or s i 0) (suc i) = ap (λ m. choose (get_or s i 0) m) (add-one i) in
    let t : index_from 0 (take (i + 1) s) ≡ index_from 0 (take (suc i) s) = ap (λ m. index_from 0 (take m s)) (add-one i) in
    omega (arith, index_take s i l, c.choose.ensures)

pub returns : goal.returns
unfolding set_index
returns c =
    let s : List ℕ = c.args.set.now in
    let e : length s ≡ c.loop-place.place = omega arith in
    c.loop-place.invariant ∙ ap (λ z. index_from 0 z) (take_every s c.loop-place.place e)
