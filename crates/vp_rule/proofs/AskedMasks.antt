-- The masks of the holds that a rule may match: those of as many cards as it asks for first.
use Rattle.std.proofs.Common.{◌≡◌, ℕ, ◌+◌, ◌<◌, Bool, true, false, List, [], ◌∷◌, length, get_or, refl, sym, ap, ◌∙◌, arith, inl, inr}
use Rattle.std.specs.Prelude.{◌==◌, nat_le, filter}
use Rattle.std.specs.List.{All, list_all, list_any, range_with_len}
use Rattle.std.proofs.lemmas.Bool.{cases_Bool}
use Rattle.std.proofs.lemmas.Bool.Decides.{nat_tests}
use Rattle.std.proofs.lemmas.List.FromFn.{get_or-range_with_len}
use Rattle.vp_card.specs.Cards.{held}
use Rattle.vp_rule.specs.Holds.{holds, matches}
use Rattle.vp_rule.specs.Matching.{HandAtTable, masks_asked, masks_matched, masks_of_size}
use Rattle.vp_rule.specs.declared.rule.Rule.{Rule}
use Rattle.vp_rule.specs.declared.rule.Test.{Test}
use Rattle.vp_rule.specs.declared.rule.Test.TheVariants.{Hold}
use Rattle.vp_pay.specs.declared.table.PayTable.{PayTable}

-- what is so of each hand of five cards by its cards
of_five : (P : List ℕ → Type 0) → ((a b c d e : ℕ) → P (a ∷ b ∷ c ∷ d ∷ e ∷ [])) → (hand : List ℕ) → length hand ≡ 5 → P hand
of_five P at [] five = absurd (omega arith)
of_five P at (a ∷ []) five = absurd (omega arith)
of_five P at (a ∷ b ∷ []) five = absurd (omega arith)
of_five P at (a ∷ b ∷ c ∷ []) five = absurd (omega arith)
of_five P at (a ∷ b ∷ c ∷ d ∷ []) five = absurd (omega arith)
of_five P at (a ∷ b ∷ c ∷ d ∷ e ∷ []) five = at a b c d e
of_five P at (a ∷ b ∷ c ∷ d ∷ e ∷ f ∷ more) five = absurd (omega arith)

-- a list of masks that is right for any five cards
pub masks_are : (size k : ℕ) (masks : List ℕ) → size ≡ k → ((a b c d e : ℕ) → masks ≡ filter (λ mask. length (held mask (a ∷ b ∷ c ∷ d ∷ e ∷ [])) == k) (range_with_len 0 32))
    → (hand : List ℕ) → length hand ≡ 5 → masks ≡ masks_of_size size hand
unfolding masks_of_size
masks_are size k masks is at = of_five (λ hand. masks ≡ masks_of_size size hand) (λ a b c d e. rw is (at a b c d e))

-- no number is above the greatest
none_so_great : (f : ℕ → ℕ) (k : ℕ) (xs : List ℕ) → 5 < k → list_all (λ x. nat_le (f x) 5) xs ≡ true → filter (λ x. f x == k) xs ≡ []
none_so_great f k [] great low = refl
none_so_great f k (x ∷ xs) great low = elim (cases_Bool (nat_le (f x) 5)) [
  | inl here ↦
      let differ : (f x == k) ≡ false = grind (arith, nat_tests) in
      let rest : list_all (λ x. nat_le (f x) 5) xs ≡ true = rw here at low in
      rw differ (none_so_great f k xs great rest)
  | inr fails ↦ absurd (let no_more : false ≡ true = rw fails at low in cc)
]

-- no hold has more than five cards
pub none_of_more : (size : ℕ) → 5 < size → (hand : List ℕ) → length hand ≡ 5 → [] ≡ masks_of_size size hand
unfolding masks_of_size
none_of_more size great = of_five (λ hand. [] ≡ masks_of_size size hand) (λ a b c d e. sym (none_so_great (λ mask. length (held mask (a ∷ b ∷ c ∷ d ∷ e ∷ []))) size (range_with_len 0 32) great refl))

-- what is left of a list by two tests, the second of which passes only what the first does
filtered_twice : (p q : ℕ → Bool) (xs : List ℕ) → ((x : ℕ) → q x ≡ false → p x ≡ false) → filter p (filter q xs) ≡ filter p xs
filtered_twice p q [] only = refl
filtered_twice p q (x ∷ xs) only = elim (cases_Bool (q x)) [
  | inl hit ↦ rw hit (elim (cases_Bool (p x)) [
    | inl passes ↦ rw passes (ap (λ (ys : List ℕ). x ∷ ys) (filtered_twice p q xs only))
    | inr fails ↦ rw fails (filtered_twice p q xs only)
  ])
  | inr miss ↦ rw (miss, only x miss) (filtered_twice p q xs only)
]

asked_first : (table : PayTable) (hand : List ℕ) (k mask : ℕ) (tests : List Test) → (length (held mask hand) == k) ≡ false → list_all (λ test. holds table hand mask test) (Hold k ∷ tests) ≡ false
unfolding holds
asked_first table hand k mask tests off = rw off refl

-- the rule matches no other hold
pub asked_are_matched : (h : HandAtTable) (rule : Rule) (tests : List Test) → rule.tests.items ≡ tests → masks_matched h rule (masks_asked tests h.hand) ≡ masks_matched h rule (range_with_len 0 32)
unfolding matches masks_of_size
asked_are_matched h rule [] is = refl
asked_are_matched h rule (Hold k ∷ tests) is =
    filtered_twice (λ mask. matches h.table rule h.hand mask) (λ mask. length (held mask h.hand) == k) (range_with_len 0 32)
    (λ mask off. ap (λ (ts : List Test). list_all (λ test. holds h.table h.hand mask test) ts) is ∙ asked_first h.table h.hand k mask tests off)
asked_are_matched h rule (test ∷ tests) is = refl

-- some number passes where the list that is left isn't empty
not_empty : List ℕ → Bool
not_empty [] = false
not_empty (x ∷ xs) = true

any_left : (p : ℕ → Bool) (xs : List ℕ) → list_any p xs ≡ not_empty (filter p xs)
unfolding not_empty
any_left p [] = refl
any_left p (x ∷ xs) = elim (cases_Bool (p x)) [
  | inl hit ↦ rw hit refl
  | inr miss ↦ rw miss (any_left p xs)
]

-- where the same is left of two lists, some number of the one passes exactly where some of the other does
pub any_alike : (h : HandAtTable) (rule : Rule) (xs ys : List ℕ) → masks_matched h rule xs ≡ masks_matched h rule ys
    → list_any (λ mask. matches h.table rule h.hand mask) xs ≡ list_any (λ mask. matches h.table rule h.hand mask) ys
any_alike h rule xs ys same = any_left (λ mask. matches h.table rule h.hand mask) xs ∙ ap not_empty same ∙ sym (any_left (λ mask. matches h.table rule h.hand mask) ys)

pub all_below : (masks : List ℕ) → masks ≡ range_with_len 0 32 → All (λ mask. mask < 32) masks
all_below masks is k d l =
    let low : k < 32 = rw is at l in
    let at : get_or masks k d ≡ 0 + k = ap (λ (x : List ℕ). get_or x k d) is ∙ get_or-range_with_len 0 32 k d low in
    omega arith
