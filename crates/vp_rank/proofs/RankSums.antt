-- Sums over ranks, the windows' five ranks, and one card of each rank of a set.
use Rattle.std.proofs.Common.{◌≡◌, ℕ, ◌+◌, ◌*◌, ◌<◌, ◌≤◌, Bool, true, false, cond, eqb, ltb, List, [], ◌∷◌, length, refl, sym, ap, ◌∙◌, subst, inl, inr, arith, suc, zero}
use Rattle.std.proofs.lemmas.Bool.{cases_Bool, cases_eq, cases_lt, eq-eqb, ne_eqb, eqb-true, ltb-true, lt-ltb, and_parts, and_from}
use Rattle.vp_card.specs.Cards.{rank, suit}
use Rattle.vp_rank.specs.Bounded.{all_below}
use Rattle.vp_rank.specs.Counts.{ranked, suited, in_window}
use Rattle.vp_rank.proofs.BoundedTests.{all_below-at}
use Rattle.vp_rank.proofs.CountLemmas.{tally, count_by-cons, count_yes, count_no, all_natural, rank_of, suit_of}

-- the sum of f over the numbers below n
pub sum_below : ℕ → (ℕ → ℕ) → ℕ
sum_below zero f = 0
sum_below (suc n) f = sum_below n f + f n

pub sum_below-add : (n : ℕ) (f g : ℕ → ℕ) → sum_below n (λ r. f r + g r) ≡ sum_below n f + sum_below n g
unfolding sum_below
sum_below-add zero f g = refl
sum_below-add (suc n) f g =
    let before : sum_below n (λ r. f r + g r) ≡ sum_below n f + sum_below n g = sum_below-add n f g in
    omega arith

pub sum_below-same : (n : ℕ) (f g : ℕ → ℕ) → ((k : ℕ) → k < n → f k ≡ g k) → sum_below n f ≡ sum_below n g
unfolding sum_below
sum_below-same zero f g h = refl
sum_below-same (suc n) f g h =
    let before : sum_below n f ≡ sum_below n g = sum_below-same n f g (λ k l. h k (omega arith)) in
    let here : f n ≡ g n = h n (omega arith) in
    omega arith

pub sum_below-le : (n : ℕ) (f g : ℕ → ℕ) → ((k : ℕ) → k < n → f k ≤ g k) → sum_below n f ≤ sum_below n g
unfolding sum_below
sum_below-le zero f g h = omega arith
sum_below-le (suc n) f g h =
    let before : sum_below n f ≤ sum_below n g = sum_below-le n f g (λ k l. h k (omega arith)) in
    let here : f n ≤ g n = h n (omega arith) in
    omega arith

-- terms that are no smaller and have no larger sum are the same
pub sum_below_tight : (n : ℕ) (f g : ℕ → ℕ) → ((k : ℕ) → k < n → f k ≤ g k) → sum_below n g ≤ sum_below n f → (k : ℕ) → k < n → g k ≡ f k
unfolding sum_below
sum_below_tight zero f g h small k l = absurd (omega arith)
sum_below_tight (suc n) f g h small k l =
    let rest : sum_below n f ≤ sum_below n g = sum_below-le n f g (λ j m. h j (omega arith)) in
    let here : f n ≤ g n = h n (omega arith) in
    elim (cases_eq k n) [
      | inl e ↦ let last : g n ≡ f n = omega arith in subst (λ (x : ℕ). g x ≡ f x) (sym e) last
      | inr ne ↦ sum_below_tight n f g (λ j m. h j (omega arith)) (omega arith) k (omega arith)
    ]

sum_below_none : (n x : ℕ) → n ≤ x → sum_below n (λ r. tally (eqb x r)) ≡ 0
unfolding sum_below
sum_below_none zero x h = refl
sum_below_none (suc n) x h =
    let before : sum_below n (λ r. tally (eqb x r)) ≡ 0 = sum_below_none n x (omega arith) in
    let here : tally (eqb x n) ≡ 0 = ap tally (ne_eqb x n (λ e. omega arith)) in
    omega arith

pub sum_below_one : (n x : ℕ) → x < n → sum_below n (λ r. tally (eqb x r)) ≡ 1
unfolding sum_below
sum_below_one zero x h = absurd (omega arith)
sum_below_one (suc n) x h =
    elim (cases_eq x n) [
      | inl e ↦
          let before : sum_below n (λ r. tally (eqb x r)) ≡ 0 = sum_below_none n x (omega arith) in
          let here : tally (eqb x n) ≡ 1 = ap tally (eq-eqb x n e) in
          omega arith
      | inr ne ↦
          let before : sum_below n (λ r. tally (eqb x r)) ≡ 1 = sum_below_one n x (omega arith) in
          let here : tally (eqb x n) ≡ 0 = ap tally (ne_eqb x n ne) in
          omega arith
    ]

sum_below_nothing : (n : ℕ) → sum_below n (λ r. 0) ≡ 0
unfolding sum_below
sum_below_nothing zero = refl
sum_below_nothing (suc n) = let before : sum_below n (λ r. 0) ≡ 0 = sum_below_nothing n in omega arith

-- each natural card has one of the 13 ranks
pub ranks_sum : (cards : List ℕ) → all_natural cards ≡ true → sum_below 13 (λ r. ranked r cards) ≡ length cards
ranks_sum [] h = sum_below_nothing 13
ranks_sum (c ∷ cs) h =
    let parts = and_parts (ltb c 52) (all_natural cs) h in
    let low : c < 52 = ltb-true c 52 parts.0 in
    let before : sum_below 13 (λ r. ranked r cs) ≡ length cs = ranks_sum cs parts.1 in
    let here : sum_below 13 (λ r. tally (eqb (rank c) r)) ≡ 1 = sum_below_one 13 (rank c) (omega arith) in
    let both : sum_below 13 (λ r. tally (eqb (rank c) r) + ranked r cs) ≡ sum_below 13 (λ r. tally (eqb (rank c) r)) + sum_below 13 (λ r. ranked r cs) =
    sum_below-add 13 (λ r. tally (eqb (rank c) r)) (λ r. ranked r cs) in
    let split : sum_below 13 (λ r. ranked r (c ∷ cs)) ≡ sum_below 13 (λ r. tally (eqb (rank c) r) + ranked r cs) =
    sum_below-same 13 (λ r. ranked r (c ∷ cs)) (λ r. tally (eqb (rank c) r) + ranked r cs) (λ r l. count_by-cons (λ card. eqb (rank card) r) c cs) in
    omega arith

-- a card has at most one of the 13 ranks
pub ranks_at_most : (cards : List ℕ) → sum_below 13 (λ r. ranked r cards) ≤ length cards
ranks_at_most [] = let none : sum_below 13 (λ r. 0) ≡ 0 = sum_below_nothing 13 in omega arith
ranks_at_most (c ∷ cs) =
    let before : sum_below 13 (λ r. ranked r cs) ≤ length cs = ranks_at_most cs in
    let here : sum_below 13 (λ r. tally (eqb (rank c) r)) ≤ 1 = one_at_most 13 (rank c) in
    let both : sum_below 13 (λ r. tally (eqb (rank c) r) + ranked r cs)
    ≡ sum_below 13 (λ r. tally (eqb (rank c) r)) + sum_below 13 (λ r. ranked r cs) =
    sum_below-add 13 (λ r. tally (eqb (rank c) r)) (λ r. ranked r cs) in
    let split : sum_below 13 (λ r. ranked r (c ∷ cs)) ≡ sum_below 13 (λ r. tally (eqb (rank c) r) + ranked r cs) =
    sum_below-same 13 (λ r. ranked r (c ∷ cs)) (λ r. tally (eqb (rank c) r) + ranked r cs) (λ r l. count_by-cons (λ card. eqb (rank card) r) c cs) in
    omega arith
  where
    one_at_most : (n x : ℕ) → sum_below n (λ r. tally (eqb x r)) ≤ 1
    one_at_most n x = elim (cases_lt x n) [
      | inl below ↦ let one : sum_below n (λ r. tally (eqb x r)) ≡ 1 = sum_below_one n x below in omega arith
      | inr past ↦ let none : sum_below n (λ r. tally (eqb x r)) ≡ 0 = sum_below_none n x past in omega arith
    ]

-- each window has five ranks
five_ranks : all_below 10 (λ k. eqb (sum_below 13 (λ r. tally (in_window k r))) 5) ≡ true
unfolding sum_below all_below in_window
five_ranks = refl

pub window_ranks : (k : ℕ) → k < 10 → sum_below 13 (λ r. tally (in_window k r)) ≡ 5
window_ranks k h = eqb-true _ 5 (all_below-at 10 (λ k. eqb (sum_below 13 (λ r. tally (in_window k r))) 5) k five_ranks h)

-- the card of suit s of each rank below n that passes
pub cards_of : ℕ → (ℕ → Bool) → ℕ → List ℕ
cards_of zero test s = []
cards_of (suc n) test s = cond (test n) ((4 * n + s) ∷ cards_of n test s) (cards_of n test s)

cards_of_none : (test : ℕ → Bool) (s : ℕ) → cards_of zero test s ≡ []
unfolding cards_of
cards_of_none test s = refl

cards_of_yes : (n : ℕ) (test : ℕ → Bool) (s : ℕ) → test n ≡ true → cards_of (suc n) test s ≡ (4 * n + s) ∷ cards_of n test s
unfolding cards_of
cards_of_yes n test s e = ap (λ (b : Bool). cond b ((4 * n + s) ∷ cards_of n test s) (cards_of n test s)) e

cards_of_no : (n : ℕ) (test : ℕ → Bool) (s : ℕ) → test n ≡ false → cards_of (suc n) test s ≡ cards_of n test s
unfolding cards_of
cards_of_no n test s e = ap (λ (b : Bool). cond b ((4 * n + s) ∷ cards_of n test s) (cards_of n test s)) e

pub length-cards_of : (n : ℕ) (test : ℕ → Bool) (s : ℕ) → length (cards_of n test s) ≡ sum_below n (λ r. tally (test r))
unfolding cards_of sum_below
length-cards_of zero test s = refl
length-cards_of (suc n) test s =
    let before : length (cards_of n test s) ≡ sum_below n (λ r. tally (test r)) = length-cards_of n test s in
    elim (cases_Bool (test n)) [
      | inl t ↦
          let here : tally (test n) ≡ 1 = ap tally t in
          let long : length (cards_of (suc n) test s) ≡ suc (length (cards_of n test s)) = ap length (cards_of_yes n test s t) in
          omega arith
      | inr f ↦
          let here : tally (test n) ≡ 0 = ap tally f in
          let long : length (cards_of (suc n) test s) ≡ length (cards_of n test s) = ap length (cards_of_no n test s f) in
          omega arith
    ]

-- the card of one rank adds nothing to the count of another
ranked_other : (n : ℕ) (test : ℕ → Bool) (s r : ℕ) → s < 4 → (r ≡ n → ⊥) → ranked r (cards_of (suc n) test s) ≡ ranked r (cards_of n test s)
ranked_other n test s r low ne =
    elim (cases_Bool (test n)) [
      | inl t ↦
          let other : eqb (rank (4 * n + s)) r ≡ false = ne_eqb (rank (4 * n + s)) r (λ e. ne (sym e ∙ rank_of n s low)) in
          ap (ranked r) (cards_of_yes n test s t) ∙ count_no (λ c. eqb (rank c) r) (4 * n + s) (cards_of n test s) other
      | inr f ↦ ap (ranked r) (cards_of_no n test s f)
    ]

pub ranked-cards_of_none : (n : ℕ) (test : ℕ → Bool) (s r : ℕ) → s < 4 → n ≤ r → ranked r (cards_of n test s) ≡ 0
ranked-cards_of_none zero test s r low past = ap (ranked r) (cards_of_none test s)
ranked-cards_of_none (suc n) test s r low past = ranked_other n test s r low (λ e. omega arith) ∙ ranked-cards_of_none n test s r low (omega arith)

pub ranked-cards_of : (n : ℕ) (test : ℕ → Bool) (s r : ℕ) → s < 4 → r < n → ranked r (cards_of n test s) ≡ tally (test r)
ranked-cards_of zero test s r low below = absurd (omega arith)
ranked-cards_of (suc n) test s r low below =
    elim (cases_eq r n) [
      | inl e ↦ subst (λ (x : ℕ). ranked x (cards_of (suc n) test s) ≡ tally (test x)) (sym e) (last n test s low)
      | inr ne ↦ ranked_other n test s r low ne ∙ ranked-cards_of n test s r low (omega arith)
    ]
  where
    last : (n : ℕ) (test : ℕ → Bool) (s : ℕ) → s < 4 → ranked n (cards_of (suc n) test s) ≡ tally (test n)
    last n test s low =
        let none : ranked n (cards_of n test s) ≡ 0 = ranked-cards_of_none n test s n low (omega arith) in
        elim (cases_Bool (test n)) [
          | inl t ↦
              let same : eqb (rank (4 * n + s)) n ≡ true = eq-eqb (rank (4 * n + s)) n (rank_of n s low) in
              let more : ranked n ((4 * n + s) ∷ cards_of n test s) ≡ 1 + ranked n (cards_of n test s) = count_yes (λ c. eqb (rank c) n) (4 * n + s) (cards_of n test s) same in
              ap (ranked n) (cards_of_yes n test s t) ∙ more ∙ ap (λ (x : ℕ). 1 + x) none ∙ sym (ap tally t)
          | inr f ↦ ap (ranked n) (cards_of_no n test s f) ∙ none ∙ sym (ap tally f)
        ]

pub natural-cards_of : (n : ℕ) (test : ℕ → Bool) (s : ℕ) → s < 4 → n ≤ 13 → all_natural (cards_of n test s) ≡ true
natural-cards_of zero test s low few = ap all_natural (cards_of_none test s)
natural-cards_of (suc n) test s low few =
    let before : all_natural (cards_of n test s) ≡ true = natural-cards_of n test s low (omega arith) in
    elim (cases_Bool (test n)) [
      | inl t ↦ subst (λ (l : List ℕ). all_natural l ≡ true) (sym (cards_of_yes n test s t))
          (and_from (ltb (4 * n + s) 52) (all_natural (cards_of n test s)) (lt-ltb (4 * n + s) 52 (omega arith)) before)
      | inr f ↦ subst (λ (l : List ℕ). all_natural l ≡ true) (sym (cards_of_no n test s f)) before
    ]

pub suited-cards_of : (n : ℕ) (test : ℕ → Bool) (s : ℕ) → s < 4 → suited s (cards_of n test s) ≡ length (cards_of n test s)
suited-cards_of zero test s low =
    subst (λ (l : List ℕ). suited s l ≡ length l) (sym (cards_of_none test s)) refl
suited-cards_of (suc n) test s low =
    let before : suited s (cards_of n test s) ≡ length (cards_of n test s) = suited-cards_of n test s low in
    elim (cases_Bool (test n)) [
      | inl t ↦
          let same : eqb (suit (4 * n + s)) s ≡ true = eq-eqb (suit (4 * n + s)) s (suit_of n s low) in
          let more : suited s ((4 * n + s) ∷ cards_of n test s) ≡ 1 + suited s (cards_of n test s) = count_yes (λ c. eqb (suit c) s) (4 * n + s) (cards_of n test s) same in
          let both : suited s ((4 * n + s) ∷ cards_of n test s) ≡ length ((4 * n + s) ∷ cards_of n test s) = omega arith in
          subst (λ (l : List ℕ). suited s l ≡ length l) (sym (cards_of_yes n test s t)) both
      | inr f ↦ subst (λ (l : List ℕ). suited s l ≡ length l) (sym (cards_of_no n test s f)) before
    ]
