-- Masks over a turned deal, carried back to the deal.
use Rattle.std.proofs.Common.{◌≡◌, ℕ, ◌+◌, ◌*◌, ◌^◌, ◌/◌, ◌%◌, ◌<◌, true, false, cond, ◌==◌, ltb, List, [], ◌∷◌, length, refl, ap, sym, subst, ◌∙◌, arith}
use Rattle.std.proofs.lemmas.Bool.{eq-eqb, eqb-true, ne_eqb}
use Rattle.std.proofs.lemmas.Bool.Decides.{nat_tests}
use Rattle.std.proofs.Math.Nat.{pow-suc, pow-zero}
use Rattle.vp_card.specs.Cards.{held}
use Rattle.vp_card.specs.Rising.{times, IsBelow, IsRising}
use Rattle.vp_sets.specs.Sets.{has}
use Rattle.vp_card.proofs.Rising.{rising_same, times-below}
use Rattle.vp_sets.specs.Draws.{mask_of}
use Rattle.vp_suit.specs.Turns.{turned, turn, carried}
use Rattle.vp_suit.proofs.Group.{inverse, inverse_inside}
use Rattle.vp_suit.proofs.Cards.{turned_back, times-turn, turn-rising, turn-length, turn_back}
use Rattle.vp_suit.proofs.Masks.{has_is, rising-held, times-held, held_carried}

has-other : (kept : List ℕ) (c d : ℕ) → c < d → has (c ∷ kept) d ≡ has kept d
unfolding has
has-other kept c d l = rw (ne_eqb c d (λ e. absurd (omega arith))) refl

has-first : (kept : List ℕ) (c : ℕ) → has (c ∷ kept) c ≡ true
unfolding has
has-first kept c = rw (eq-eqb c c refl) refl

-- a card below all of them has no part in the mask
mask_beside : (kept : List ℕ) (c : ℕ) (cards : List ℕ) → IsBelow c cards → mask_of (c ∷ kept) cards ≡ mask_of kept cards
unfolding mask_of
mask_beside kept c [] b = refl
mask_beside kept c (d ∷ cards) b = rw (has-other kept c d b.0, mask_beside kept c cards b.1) refl

-- the mask of what a mask holds is the mask
pub mask_held : (m : ℕ) (cards : List ℕ) → IsRising cards → m < 2 ^ length cards → mask_of (held m cards) cards ≡ m
unfolding mask_of
mask_held m [] r small =
    let one : m < 1 = rw pow-zero at small in
    omega arith
mask_held m (c ∷ cards) r small =
    let p : 2 ^ length (c ∷ cards) ≡ 2 ^ length cards * 2 = pow-suc 2 (length cards) in
    let rest : mask_of (held (m / 2) cards) cards ≡ m / 2 = mask_held (m / 2) cards r.1 (omega arith) in
    let out : times c (held (m / 2) cards) ≡ 0 = omega (arith, times-held (m / 2) c cards, times-below c c cards (omega arith) r.0) in
    let none : has (held (m / 2) cards) c ≡ false = has_is (held (m / 2) cards) c ∙ ap (λ n. ltb 0 n) out in
    elim (m % 2 == 1) as (λ v. (m % 2 == 1) ≡ v → cond (has (cond v (c ∷ held (m / 2) cards) (held (m / 2) cards)) c) 1 0 + 2 * mask_of (cond v (c ∷ held (m / 2) cards) (held (m / 2) cards)) cards ≡ m) [
      | true ↦ λ h. rw (has-first (held (m / 2) cards) c, mask_beside (held (m / 2) cards) c cards r.0, rest) (omega (arith, eqb-true (m % 2) 1 h))
      | false ↦ λ h. rw (none, rest) (grind (arith, nat_tests))
    ] refl

-- a deal that is turned back and then turned
turn_forth : (t : ℕ) (cards : List ℕ) → t < 24 → IsRising cards → turn t (turn (inverse t) cards) ≡ cards
turn_forth t cards l rising =
    let inside : inverse t < 24 = inverse_inside t l in
    rising_same (turn t (turn (inverse t) cards)) cards (turn-rising t (turn (inverse t) cards) l (turn-rising (inverse t) cards inside rising)) rising (λ x.
    times-turn t (turn (inverse t) cards) x l ∙ times-turn (inverse t) cards (turned (inverse t) x) inside
    ∙ ap (λ y. times y cards) (turned_back (inverse t) x inside))

carried_is_mask : (t m : ℕ) (cards : List ℕ) → carried t cards m ≡ mask_of (turn t (held m cards)) (turn t cards)
unfolding carried
carried_is_mask t m cards = refl

-- each mask over the turned deal is carried along from the mask that is carried back
pub carried_back : (t m : ℕ) (cards : List ℕ) → t < 24 → IsRising cards → m < 2 ^ length cards → carried t cards (carried (inverse t) (turn t cards) m) ≡ m
carried_back t m cards l rising small =
    let inside : inverse t < 24 = inverse_inside t l in
    let there : List ℕ = turn t cards in
    let up : IsRising there = turn-rising t cards l rising in
    let back : ℕ = carried (inverse t) there m in
    let same : turn (inverse t) there ≡ cards = turn_back t cards l rising in
    let kept : held back cards ≡ turn (inverse t) (held m there) = ap (λ (x : List ℕ). held back x) (sym same) ∙ held_carried (inverse t) m there inside up in
    let forth : turn t (held back cards) ≡ held m there = ap (λ (x : List ℕ). turn t x) kept ∙ turn_forth t (held m there) l (rising-held m there up).0 in
    let low : m < 2 ^ length there = subst (λ k. m < 2 ^ k) (sym (turn-length t cards)) small in
    carried_is_mask t back cards ∙ ap (λ (x : List ℕ). mask_of x there) forth ∙ mask_held m there up low
