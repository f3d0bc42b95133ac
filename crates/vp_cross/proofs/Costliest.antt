-- The worst class so far, kept class by class, is at last the first of those that cost most.
use Rattle.std.proofs.Common.{◌≡◌, ℕ, ◌<◌, ◌≤◌, Bool, true, false, cond, ltb, List, [], ◌∷◌, Option, None, Some, option_map, refl, ap, sym, ◌∙◌, arith, inl, inr}
use Rattle.std.specs.Prelude.{max, find, ◌==◌}
use Rattle.std.proofs.lemmas.Bool.{cases_lt, lt-ltb, le-ltb}
use Rattle.std.proofs.lemmas.Bool.Decides.{nat_tests}
use Rattle.vp_cross.specs.Crossings.{costliest, most}
use Rattle.vp_cross.specs.Later.{cost_of, later}
use Rattle.vp_cross.specs.declared.crossed.Worst.{Worst}

-- the worst class, going on from the one so far
abbrev pub kept : (List ℕ → Worst) → Option Worst → List (List ℕ) → Option Worst
kept told before [] = before
kept told before (cards ∷ more) = kept told (later before (told cards)) more

module _ (told : List ℕ → Worst) where
  abbrev f : List ℕ → ℕ
  f cards = (told cards).cost

  takes : (before : Option Worst) (class : Worst) → cost_of before < class.cost → later before class ≡ Some class
  takes before class l = ap (λ b. cond b (Some class) before) (lt-ltb (cost_of before) class.cost l)

  leaves : (before : Option Worst) (class : Worst) → class.cost ≤ cost_of before → later before class ≡ before
  leaves before class l = ap (λ b. cond b (Some class) before) (le-ltb (cost_of before) class.cost l)

  -- what is chosen in the end
  abbrev chosen : Option Worst → List (List ℕ) → ℕ → Option Worst
  chosen before some top = cond (ltb (cost_of before) top) (option_map told (find (λ cards. f cards == top) some)) before

  chosen_yes : (before : Option Worst) (some : List (List ℕ)) (top : ℕ) → cost_of before < top → chosen before some top ≡ option_map told (find (λ cards. f cards == top) some)
  chosen_yes before some top l = ap (λ b. cond b (option_map told (find (λ cards. f cards == top) some)) before) (lt-ltb (cost_of before) top l)

  chosen_no : (before : Option Worst) (some : List (List ℕ)) (top : ℕ) → top ≤ cost_of before → chosen before some top ≡ before
  chosen_no before some top l = ap (λ b. cond b (option_map told (find (λ cards. f cards == top) some)) before) (le-ltb (cost_of before) top l)

  found : (cards : List ℕ) (more : List (List ℕ)) (top : ℕ) → f cards ≡ top → option_map told (find (λ c. f c == top) (cards ∷ more)) ≡ Some (told cards)
  found cards more top e = ap (λ b. option_map told (cond b (Some cards) (find (λ c. f c == top) more))) (is (f cards) top e)
    where
      is : (a b : ℕ) → a ≡ b → (a == b) ≡ true
      is a b e = grind (arith, nat_tests)

  passed : (cards : List ℕ) (more : List (List ℕ)) (top : ℕ) → f cards < top → option_map told (find (λ c. f c == top) (cards ∷ more)) ≡ option_map told (find (λ c. f c == top) more)
  passed cards more top l = ap (λ b. option_map told (cond b (Some cards) (find (λ c. f c == top) more))) (is (f cards) top l)
    where
      is : (a b : ℕ) → a < b → (a == b) ≡ false
      is a b l = grind (arith, nat_tests)

  pub kept_is : (before : Option Worst) (some : List (List ℕ)) → kept told before some ≡ chosen before some (most f some)
  unfolding most
  kept_is before [] = sym (chosen_no before [] 0 (omega arith))
  kept_is before (cards ∷ more) =
      elim (cases_lt (cost_of before) (f cards)) [
        | inl l ↦
            elim (cases_lt (f cards) (most f more)) [
              | inl m ↦
                  let top : max (f cards) (most f more) ≡ most f more = omega arith in
                  ap (λ w. kept told w more) (takes before (told cards) l) ∙ kept_is (Some (told cards)) more ∙ chosen_yes (Some (told cards)) more (most f more) m
                  ∙ sym (ap (λ t. chosen before (cards ∷ more) t) top ∙ chosen_yes before (cards ∷ more) (most f more) (omega arith) ∙ passed cards more (most f more) m)
              | inr m ↦
                  let top : max (f cards) (most f more) ≡ f cards = omega arith in
                  ap (λ w. kept told w more) (takes before (told cards) l) ∙ kept_is (Some (told cards)) more ∙ chosen_no (Some (told cards)) more (most f more) m
                  ∙ sym (ap (λ t. chosen before (cards ∷ more) t) top ∙ chosen_yes before (cards ∷ more) (f cards) l ∙ found cards more (f cards) refl)
            ]
        | inr l ↦
            elim (cases_lt (cost_of before) (most f more)) [
              | inl m ↦
                  let top : max (f cards) (most f more) ≡ most f more = omega arith in
                  ap (λ w. kept told w more) (leaves before (told cards) l) ∙ kept_is before more ∙ chosen_yes before more (most f more) m
                  ∙ sym (ap (λ t. chosen before (cards ∷ more) t) top ∙ chosen_yes before (cards ∷ more) (most f more) m ∙ passed cards more (most f more) (omega arith))
              | inr m ↦
                  ap (λ w. kept told w more) (leaves before (told cards) l) ∙ kept_is before more ∙ chosen_no before more (most f more) m
                  ∙ sym (chosen_no before (cards ∷ more) (max (f cards) (most f more)) (omega arith))
            ]
      ]

  -- kept from none on, it is the first of those that cost most
  pub kept_all : (some : List (List ℕ)) → kept told None some ≡ option_map told (costliest f some)
  unfolding costliest
  kept_all some = kept_is None some ∙ cases (ltb 0 (most f some)) (find (λ cards. f cards == most f some) some)
    where
      cases : (b : Bool) (o : Option (List ℕ)) → cond b (option_map told o) None ≡ option_map told (cond b o None)
      cases true o = refl
      cases false o = refl
