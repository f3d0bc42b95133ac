-- The index of the raised ranks of a hand tells how many of its cards are wild and how many others have each rank.
use Rattle.std.proofs.Common.{◌≡◌, ℕ, suc, ◌+◌, ◌/◌, ◌<◌, ◌≤◌, Bool, true, false, cond, not, ◌&&◌, ◌||◌, eqb, leb, List, [], ◌∷◌, length, get_or, drop, refl, ap, sym, subst, ◌∙◌, arith, lit≤, Option, None, Some}
use Rattle.std.proofs.lemmas.Bool.Decides.{nat_tests}
use Rattle.vp_card.specs.Cards.{rank}
use Rattle.vp_card.specs.Rising.{IsBelow, IsRising}
use Rattle.vp_rank.specs.Counts.{ranked}
use Rattle.vp_rank.specs.Wilds.{is_wild, naturals, wilds}
use Rattle.vp_rank.proofs.CountLemmas.{tally, count_by-cons}
use Rattle.vp_sets.specs.Sets.{choose}
use Rattle.vp_sets.specs.Index.{IsSet, colex, index_from, set_index}
use Rattle.vp_sets.proofs.Binomials.{choose_small}
use Rattle.vp_sets.proofs.Pascal.{ways_are}
use Rattle.vp_sets.proofs.Colex.{Below, at_index, below_at, index_lt, set_rises, set_below, index_is}
use Rattle.vp_wild.specs.Places.{raised}
use Rattle.vp_sets.proofs.FiveCards.{five_in_row}

pub raised-cons : (j c : ℕ) (s : List ℕ) → raised j (c ∷ s) ≡ (rank c + j) ∷ raised (suc j) s
unfolding raised
raised-cons j c s = refl

raised_count : (j : ℕ) (s : List ℕ) → length (raised j s) ≡ length s
unfolding raised
raised_count j [] = refl
raised_count j (c ∷ s) = ap suc (raised_count (suc j) s)

raised_above : (x j c : ℕ) (s : List ℕ) → IsBelow c s → x ≤ rank c + j → IsBelow x (raised (suc j) s)
unfolding raised
raised_above x j c [] h l = tt
raised_above x j c (d ∷ s) h l = (let m : c < d = h.0 in omega arith, raised_above x (suc j) c s h.1 (omega arith))

raised_rises : (j : ℕ) (s : List ℕ) → IsRising s → IsRising (raised j s)
unfolding raised
raised_rises j [] h = tt
raised_rises j (c ∷ s) h = (raised_above (rank c + j) j c s h.0 (omega arith), raised_rises (suc j) s h.1)

raised_below : (j : ℕ) (s : List ℕ) → Below 54 s → j + length s ≤ 5 → Below 18 (raised j s)
unfolding raised
raised_below j [] h l = tt
raised_below j (c ∷ s) h l = (let m : c < 54 = h.0 in omega arith, raised_below (suc j) s h.1 (omega arith))

choose-18-5 : choose 18 5 ≡ 8568
choose-18-5 = sym (ways_are 18 5 (lit≤ tt) (lit≤ tt))

-- the index of the raised ranks of five cards
pub ranks_below : (s : List ℕ) → IsSet 54 s → length s ≡ 5 → set_index (raised 0 s) < 8568
ranks_below s h five =
    let low : index_from 0 (raised 0 s) < choose 18 (length (raised 0 s)) = index_lt 18 (raised 0 s) (raised_rises 0 s (set_rises 54 s h)) (raised_below 0 s (set_below 54 s h) (omega arith)) in
    let many : choose 18 (length (raised 0 s)) ≡ 8568 = ap (choose 18) (raised_count 0 s ∙ five) ∙ choose-18-5 in
    omega (arith, index_is (raised 0 s))

at_raised : (s : List ℕ) → IsSet 54 s → length s ≡ 5 → get_or (colex 5 18) (set_index (raised 0 s)) [] ≡ raised 0 s
at_raised s h five =
    ap (λ i. get_or (colex 5 18) i []) (index_is (raised 0 s))
    ∙ ap (λ k. get_or (colex k 18) (index_from 0 (raised 0 s)) []) (sym (raised_count 0 s ∙ five))
    ∙ at_index 18 (raised 0 s) (raised_rises 0 s (set_rises 54 s h)) (raised_below 0 s (set_below 54 s h) (omega arith))

-- two lists of cards have the same ranks
abbrev SameRanks : List ℕ → List ℕ → Type 0
SameRanks [] [] = Unit {0}
SameRanks [] (d ∷ t) = ⊥
SameRanks (c ∷ s) [] = ⊥
SameRanks (c ∷ s) (d ∷ t) = (rank c ≡ rank d) × SameRanks s t

same_from : (j : ℕ) (s t : List ℕ) → length s ≡ length t → raised j s ≡ raised j t → SameRanks s t
same_from j [] [] l e = tt
same_from j [] (d ∷ t) l e = absurd (omega arith)
same_from j (c ∷ s) [] l e = absurd (omega arith)
same_from j (c ∷ s) (d ∷ t) l e =
    let whole : (rank c + j) ∷ raised (suc j) s ≡ (rank d + j) ∷ raised (suc j) t = sym (raised-cons j c s) ∙ e ∙ raised-cons j d t in
    let first : rank c + j ≡ rank d + j = ap (λ x. get_or x 0 0) whole in
    (omega arith, same_from (suc j) s t (omega arith) (ap (drop 1) whole))

pub ranks_told : (s t : List ℕ) → IsSet 54 s → IsSet 54 t → length s ≡ 5 → length t ≡ 5 → set_index (raised 0 s) ≡ set_index (raised 0 t) → SameRanks s t
ranks_told s t h g five also e =
    same_from 0 s t (five ∙ sym also) (sym (at_raised s h five) ∙ ap (λ i. get_or (colex 5 18) i []) e ∙ at_raised t g also)

joker_rank : (c : ℕ) → leb 52 c ≡ leb 13 (rank c)
joker_rank c = grind (arith, nat_tests)

-- the rank of a card tells whether it is wild
wild_told : (w : Option ℕ) (c d : ℕ) → rank c ≡ rank d → is_wild w c ≡ is_wild w d
unfolding is_wild
wild_told None c d e = ap (λ b. b || false) (joker_rank c ∙ ap (leb 13) e ∙ sym (joker_rank d))
wild_told (Some r) c d e =
    ap (λ b. b || eqb (rank c) r) (joker_rank c ∙ ap (leb 13) e ∙ sym (joker_rank d)) ∙ ap (λ x. leb 52 d || eqb x r) e

-- as many of two lists of cards with the same ranks are wild
pub wilds_told : (w : Option ℕ) (s t : List ℕ) → SameRanks s t → wilds w s ≡ wilds w t
wilds_told w [] [] h = refl
wilds_told w [] (d ∷ t) h = absurd h
wilds_told w (c ∷ s) [] h = absurd h
wilds_told w (c ∷ s) (d ∷ t) h =
    let one : wilds w (c ∷ s) ≡ tally (is_wild w c) + wilds w s = count_by-cons (is_wild w) c s in
    let two : wilds w (d ∷ t) ≡ tally (is_wild w d) + wilds w t = count_by-cons (is_wild w) d t in
    let first : tally (is_wild w c) ≡ tally (is_wild w d) = ap tally (wild_told w c d h.0) in
    let later : wilds w s ≡ wilds w t = wilds_told w s t h.1 in
    omega arith

natural_more : (w : Option ℕ) (r c : ℕ) (s : List ℕ) → ranked r (naturals w (c ∷ s)) ≡ tally (not (is_wild w c) && eqb (rank c) r) + ranked r (naturals w s)
natural_more w r c s = at (not (is_wild w c))
  where
    at : (b : Bool) → ranked r (cond b (c ∷ naturals w s) (naturals w s)) ≡ tally (b && eqb (rank c) r) + ranked r (naturals w s)
    at true = count_by-cons (λ card. eqb (rank card) r) c (naturals w s)
    at false = omega arith

-- and as many others have each rank
pub naturals_told : (w : Option ℕ) (r : ℕ) (s t : List ℕ) → SameRanks s t → ranked r (naturals w s) ≡ ranked r (naturals w t)
naturals_told w r [] [] h = refl
naturals_told w r [] (d ∷ t) h = absurd h
naturals_told w r (c ∷ s) [] h = absurd h
naturals_told w r (c ∷ s) (d ∷ t) h =
    let first : tally (not (is_wild w c) && eqb (rank c) r) ≡ tally (not (is_wild w d) && eqb (rank d) r) =
    ap (λ b. tally (not b && eqb (rank c) r)) (wild_told w c d h.0) ∙ ap (λ x. tally (not (is_wild w d) && eqb x r)) h.0 in
    let later : ranked r (naturals w s) ≡ ranked r (naturals w t) = naturals_told w r s t h.1 in
    omega (arith, natural_more w r c s, natural_more w r d t)

five_terms : (a b c d e : ℕ) → set_index (raised 0 (a ∷ b ∷ c ∷ d ∷ e ∷ [])) ≡ choose (a / 4) 1 + choose (b / 4 + 1) 2 + choose (c / 4 + 2) 3 + choose (d / 4 + 3) 4 + choose (e / 4 + 4) 5
unfolding set_index index_from raised
five_terms a b c d e =
    let zero_more : choose (a / 4 + 0) 1 ≡ choose (a / 4) 1 = ap (λ x. choose x 1) (omega arith) in
    omega arith

-- the index of the raised ranks of five cards, term by term
pub ranks_row : (s : List ℕ) (p q r t u : ℕ) → length s ≡ 5 → p ≡ choose (get_or s 0 0 / 4) 1 → q ≡ choose (get_or s 1 0 / 4 + 1) 2 → r ≡ choose (get_or s 2 0 / 4 + 2) 3
    → t ≡ choose (get_or s 3 0 / 4 + 3) 4 → u ≡ choose (get_or s 4 0 / 4 + 4) 5 → p + q + r + t + u ≡ set_index (raised 0 s)
ranks_row s p q r t u five a b c d e =
    let row : set_index (raised 0 s) ≡ set_index (raised 0 (get_or s 0 0 ∷ get_or s 1 0 ∷ get_or s 2 0 ∷ get_or s 3 0 ∷ get_or s 4 0 ∷ [])) = ap (λ x. set_index (raised 0 x)) (five_in_row s five) in
    omega (arith, five_terms (get_or s 0 0) (get_or s 1 0) (get_or s 2 0) (get_or s 3 0) (get_or s 4 0))

-- no term of the index is large
pub term_small : (s : List ℕ) (i n k r : ℕ) → IsSet 54 s → length s ≡ 5 → i < 5 → k ≤ 5 → n ≡ get_or s i 0 / 4 + i → r ≡ choose n k → r ≤ 459165024
term_small s i n k r h five l m is e =
    let low : get_or s i 0 < 54 = below_at 54 s i (set_below 54 s h) (omega arith) in
    subst (λ x. x ≤ 459165024) (sym e) (choose_small n k (omega arith) m)
