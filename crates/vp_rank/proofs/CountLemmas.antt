-- Counts of ranks and suits in a list of cards.
use Rattle.std.proofs.Common.{◌≡◌, ◌≢◌, ℕ, ◌+◌, ◌*◌, ◌<◌, ◌≤◌, Bool, true, false, cond, not, eqb, ltb, List, [], ◌∷◌, ◌++◌, length, refl, sym, ap, ◌∙◌, subst, inl, inr, arith, Option}
use Rattle.std.specs.Prelude.{replicate}
use Rattle.std.specs.List.{count_by, filter, list_all}
use Rattle.std.proofs.lemmas.List.Sums.{sum_by-cons, sum_by-append, length-filter}
use Rattle.std.proofs.lemmas.List.Filters.{length-filter_both}
use Rattle.std.proofs.lemmas.List.Folds.{sum_by-replicate}
use Rattle.std.proofs.lemmas.Bool.{cases_Bool, lt-ltb, leb-false, and_from, or_parts}
use Rattle.std.proofs.lemmas.Bool.Decides.{nat_tests}
use Rattle.vp_card.specs.Cards.{rank, suit}
use Rattle.vp_rank.specs.Counts.{ranked}
use Rattle.vp_rank.specs.Wilds.{is_wild, wilds, naturals}

-- 1 where a test holds, else 0
abbrev pub tally : Bool → ℕ
tally b = cond b 1 0

pub count_by-cons : (p : ℕ → Bool) (x : ℕ) (xs : List ℕ) → count_by p (x ∷ xs) ≡ tally (p x) + count_by p xs
count_by-cons p x xs = sum_by-cons (λ y. tally (p y)) x xs

pub count_by-append : (p : ℕ → Bool) (xs ys : List ℕ) → count_by p (xs ++ ys) ≡ count_by p xs + count_by p ys
count_by-append p xs ys = sum_by-append (λ y. tally (p y)) xs ys

pub count_by-replicate : (p : ℕ → Bool) (n x : ℕ) → count_by p (replicate n x) ≡ n * tally (p x)
count_by-replicate p n x = sum_by-replicate (λ y. tally (p y)) n x

-- a count is one more where the card passes, and the same where it does not
pub count_yes : (p : ℕ → Bool) (x : ℕ) (xs : List ℕ) → p x ≡ true → count_by p (x ∷ xs) ≡ 1 + count_by p xs
count_yes p x xs e = let s = count_by-cons p x xs in s ∙ ap (λ (b : Bool). tally b + count_by p xs) e

pub count_no : (p : ℕ → Bool) (x : ℕ) (xs : List ℕ) → p x ≡ false → count_by p (x ∷ xs) ≡ count_by p xs
count_no p x xs e =
    let s : count_by p (x ∷ xs) ≡ 0 + count_by p xs = count_by-cons p x xs ∙ ap (λ (b : Bool). tally b + count_by p xs) e in
    omega (arith, s)

-- the natural cards of a hand

pub naturals_yes : (w : Option ℕ) (c : ℕ) (cs : List ℕ) → is_wild w c ≡ true → naturals w (c ∷ cs) ≡ naturals w cs
naturals_yes w c cs e = ap (λ (b : Bool). cond (not b) (c ∷ naturals w cs) (naturals w cs)) e

pub naturals_no : (w : Option ℕ) (c : ℕ) (cs : List ℕ) → is_wild w c ≡ false → naturals w (c ∷ cs) ≡ c ∷ naturals w cs
naturals_no w c cs e = ap (λ (b : Bool). cond (not b) (c ∷ naturals w cs) (naturals w cs)) e

pub length-naturals : (w : Option ℕ) (cards : List ℕ) → length (naturals w cards) + wilds w cards ≡ length cards
length-naturals w cards =
    let both : length (filter (is_wild w) cards) + length (naturals w cards) ≡ length cards =
    length-filter_both (is_wild w) (λ c. not (is_wild w c)) (λ c. refl) cards in
    let wild : length (filter (is_wild w) cards) ≡ wilds w cards = length-filter (is_wild w) cards in
    omega (arith, both, wild)

-- a card that is not wild is natural
pub natural : (w : Option ℕ) (c : ℕ) → is_wild w c ≡ false → c < 52
unfolding is_wild
natural w c e =
    let parts = or_parts _ _ e in
    leb-false 52 c parts.0

-- all cards of a list are natural
abbrev pub all_natural : List ℕ → Bool
all_natural cards = list_all (λ c. ltb c 52) cards

pub naturals_natural : (w : Option ℕ) (cards : List ℕ) → all_natural (naturals w cards) ≡ true
naturals_natural w [] = refl
naturals_natural w (c ∷ cs) =
    elim (cases_Bool (is_wild w c)) [
      | inl wild ↦ subst (λ (l : List ℕ). all_natural l ≡ true) (sym (naturals_yes w c cs wild)) (naturals_natural w cs)
      | inr plain ↦ subst (λ (l : List ℕ). all_natural l ≡ true) (sym (naturals_no w c cs plain))
          (and_from (ltb c 52) (all_natural (naturals w cs)) (lt-ltb c 52 (natural w c plain)) (naturals_natural w cs))
    ]

-- ranks and suits

pub rank_of : (r s : ℕ) → s < 4 → rank (4 * r + s) ≡ r
rank_of r s h = omega arith

pub suit_of : (r s : ℕ) → s < 4 → suit (4 * r + s) ≡ s
suit_of r s h = omega arith

-- two different ranks have no card in common
pub two_ranks : (r s : ℕ) (cards : List ℕ) → r ≢ s → ranked r cards + ranked s cards ≤ length cards
two_ranks r s [] ne = omega arith
two_ranks r s (c ∷ cs) ne =
    let before : ranked r cs + ranked s cs ≤ length cs = two_ranks r s cs ne in
    let one : ranked r (c ∷ cs) ≡ tally (eqb (rank c) r) + ranked r cs = count_by-cons (λ card. eqb (rank card) r) c cs in
    let two : ranked s (c ∷ cs) ≡ tally (eqb (rank c) s) + ranked s cs = count_by-cons (λ card. eqb (rank card) s) c cs in
    let some : tally (eqb (rank c) r) + tally (eqb (rank c) s) ≤ 1 = at_most_one (rank c) r s ne in
    omega arith
  where
    at_most_one : (x r s : ℕ) → r ≢ s → tally (eqb x r) + tally (eqb x s) ≤ 1
    at_most_one x r s ne = grind (arith, nat_tests)
