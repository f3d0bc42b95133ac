-- Classes that are passed over, one by one.
use Rattle.std.proofs.Common.{◌≡◌, ℕ, zero, suc, ◌+◌, zero-add, ◌<◌, List, [], ◌∷◌, ◌++◌, length, drop, get_or, refl, ap, sym, ◌∙◌, arith, Option, Some, None}
use Rattle.std.specs.Prelude.{option_to_list, option_map, IfNone, IsSome}
use Rattle.std.proofs.Math.Seq.{drop-nil}
use Rattle.std.proofs.lemmas.List.{get_or-drop, length-drop}

pub drop_twice : {X : Type 0} (more k : ℕ) (xs : List X) → drop more (drop k xs) ≡ drop (k + more) xs
drop_twice more zero xs = ap (λ n. drop n xs) (sym (zero-add more))
drop_twice more (suc k) [] = drop-nil more ∙ sym (drop-nil (suc k + more))
drop_twice more (suc k) (x ∷ xs) = let next : suc k + more ≡ suc (k + more) = omega arith in drop_twice more k xs ∙ ap (λ n. drop n (x ∷ xs)) (sym next)

one_left : {X Y : Type 0} (see : Y → X) (given : Option Y) (before after : List X) → before ≡ option_to_list (option_map see given) ++ after → IfNone given (before ≡ []) → after ≡ drop 1 before
one_left see None before after is end = sym is ∙ end ∙ sym (ap (drop 1) end)
one_left see (Some y) before after is end = sym (ap (drop 1) is)

-- what is left behind one more
pub one_passed : {X Y : Type 0} (see : Y → X) (given : Option Y) (all before after : List X) (k : ℕ) → before ≡ drop k all → before ≡ option_to_list (option_map see given) ++ after → IfNone given (before ≡ []) → after ≡ drop (k + 1) all
one_passed see given all before after k so is end = one_left see given before after is end ∙ ap (drop 1) so ∙ drop_twice 1 k all

-- one is given where some are left
pub one_given : {X Y : Type 0} (given : Option Y) (all before : List X) (k : ℕ) → k < length all → before ≡ drop k all → IfNone given (before ≡ []) → IsSome given
one_given (Some y) all before k low so end = refl
one_given None all before k low so end =
    let left : length (drop k all) ≡ 0 = ap length (sym so ∙ end) in
    absurd (omega (arith, left, length-drop k all))

-- which one it is
pub given_at : {X Y : Type 0} (see : Y → X) (other : X) (one : Y) (given : Option Y) (all before after : List X) (k : ℕ) → before ≡ drop k all → before ≡ option_to_list (option_map see given) ++ after → given ≡ Some one → see one ≡ get_or all k other
given_at see other one given all before after k so is some =
    let first : before ≡ see one ∷ after = is ∙ ap (λ o. option_to_list (option_map see o) ++ after) some in
    let at : k + 0 ≡ k = omega arith in
    ap (λ xs. get_or xs 0 other) (sym first ∙ so) ∙ get_or-drop k all 0 other ∙ ap (λ n. get_or all n other) at
