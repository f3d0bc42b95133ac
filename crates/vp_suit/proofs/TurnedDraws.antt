-- The sum over the draws of a hold, where deal, mask and draws are turned together.
use Rattle.std.proofs.Common.{◌≡◌, inl, inr, ℕ, zero, suc, ◌+◌, ◌<◌, ◌≤◌, true, cond, not, ◌==◌, ltb, List, [], ◌∷◌, ◌++◌, length, map, refl, ap, sym, subst, ◌∙◌, arith, append-nil, sum_by}
use Rattle.std.proofs.lemmas.Bool.{cases_lt, cases_eq, eq-eqb, ne_eqb, lt-ltb}
use Rattle.vp_card.specs.Cards.{held, in_deck, place, joined}
use Rattle.vp_card.specs.Rising.{times, IsRising}
use Rattle.vp_sets.specs.Sets.{deck, combos, has, without}
use Rattle.vp_sets.specs.Draws.{discarded, draws, sum_over_draws}
use Rattle.vp_card.proofs.Rising.{times-append, times-same, times-place, times-joined, times-rising, rising-joined, rising-place, rising_same}
use Rattle.vp_sets.proofs.Sublists.{sub_times, sub_rising, sum_combos_agree}
use Rattle.vp_card.proofs.InDeck.{in_deck-put}
use Rattle.vp_sets.proofs.Decks.{in_deck-deck, times-deck, times-outside, times-without}
use Rattle.vp_sets.proofs.Holds.{Dealt, final_dealt, held_once, rising-without, dealt_is_set}
use Rattle.vp_sets.proofs.Over.{less, over, over-zero, over-none, over-cons, over_is}
use Rattle.vp_sets.proofs.Spread.{split_at}
use Rattle.vp_sets.proofs.Colex.{Below, set_below}
use Rattle.vp_suit.specs.Turns.{turned, turn, carried}
use Rattle.vp_suit.specs.Classes.{IsDeal, IsKept}
use Rattle.vp_suit.proofs.Group.{inverse, inverse_inside}
use Rattle.vp_suit.proofs.Cards.{turned_below, turned_forth, times-mapped, times-turn, turn-rising, turn-length}
use Rattle.vp_sets.proofs.Masks.{rising-filter, times-filter}
use Rattle.vp_suit.proofs.Masks.{has_is, held_carried, discarded_carried}
use Rattle.vp_suit.proofs.Deals.{deal_rises}

-- ---- sums over the sublists of cards in any order

-- without a card that was put in, the list is as before
less-place : (c : ℕ) (s : List ℕ) → IsRising s → times c s ≡ 0 → less c (place c s) ≡ s
unfolding less
less-place c s r new =
    rising_same (less c (place c s)) s (rising-filter (λ d. not (c == d)) (place c s) (rising-place c s new r)) r (λ x.
    let a : times x (less c (place c s)) ≡ cond (not (c == x)) (times x (place c s)) 0 = times-filter (λ d. not (c == d)) x (place c s) in
    let b : times x (place c s) ≡ times x (c ∷ s) = times-place x c s in
    elim (cases_eq c x) [
      | inl e ↦ a ∙ ap (λ t. cond (not t) (times x (place c s)) 0) (eq-eqb c x e) ∙ sym (ap (λ y. times y s) (sym e) ∙ new)
      | inr d ↦
          let other : times x (c ∷ s) ≡ times x s = ap (λ t. cond t 1 0 + times x s) (ne_eqb c x d) ∙ omega arith in
          a ∙ ap (λ t. cond (not t) (times x (place c s)) 0) (ne_eqb c x d) ∙ b ∙ other
    ])

-- each card once: a sum over the sublists is one over the sublists of the sorted list
over_joined : (k : ℕ) (cards : List ℕ) (f : List ℕ → ℕ) → ((c : ℕ) → times c cards ≤ 1) → over k (joined cards []) f ≡ over k cards (λ y. f (joined y []))
unfolding joined
over_joined zero cards f once = over-zero (joined cards []) f ∙ sym (over-zero cards (λ y. f (joined y [])))
over_joined (suc k) [] f once = over-none k f ∙ sym (over-none k (λ y. f (joined y [])))
over_joined (suc k) (c ∷ cards) f once =
    let rest_once : (x : ℕ) → times x cards ≤ 1 = λ x. let h : times x (c ∷ cards) ≤ 1 = once x in omega arith in
    let s : List ℕ = joined cards [] in
    let rising : IsRising s = rising-joined cards [] tt (λ x. rw append-nil (rest_once x)) in
    let new : times c s ≡ 0 = omega (arith, once c, times-same c cards, times-joined c cards []) in
    let there : has (place c s) c ≡ true = has_is (place c s) c ∙ lt-ltb 0 (times c (place c s)) (omega (arith, times-place c c s, times-same c s)) in
    let gone : less c (place c s) ≡ s = less-place c s rising new in
    let split : over (suc k) (place c s) f ≡ over k (less c (place c s)) (λ y. f (place c y)) + over (suc k) (less c (place c s)) f = split_at k (place c s) c f (rising-place c s new rising) there in
    let split' : over (suc k) (place c s) f ≡ over k s (λ y. f (place c y)) + over (suc k) s f = rw gone at split in
    let a : over k s (λ y. f (place c y)) ≡ over k cards (λ y. f (place c (joined y []))) = over_joined k cards (λ y. f (place c y)) rest_once in
    let b : over (suc k) s f ≡ over (suc k) cards (λ y. f (joined y [])) = over_joined (suc k) cards f rest_once in
    let e : over (suc k) (c ∷ cards) (λ y. f (joined y [])) ≡ over k cards (λ y. f (joined (c ∷ y) [])) + over (suc k) cards (λ y. f (joined y [])) = over-cons k c cards (λ y. f (joined y [])) in
    omega arith

over_mapped : (g : ℕ → ℕ) (k : ℕ) (s : List ℕ) (f : List ℕ → ℕ) → over k (map g s) f ≡ over k s (λ y. f (map g y))
over_mapped g zero s f = over-zero (map g s) f ∙ sym (over-zero s (λ y. f (map g y)))
over_mapped g (suc k) [] f = over-none k f ∙ sym (over-none k (λ y. f (map g y)))
over_mapped g (suc k) (c ∷ s) f =
    let a : over k (map g s) (λ y. f (g c ∷ y)) ≡ over k s (λ y. f (g c ∷ map g y)) = over_mapped g k s (λ y. f (g c ∷ y)) in
    let b : over (suc k) (map g s) f ≡ over (suc k) s (λ y. f (map g y)) = over_mapped g (suc k) s f in
    omega (arith, over-cons k (g c) (map g s) f, over-cons k c s (λ y. f (map g y)))

-- a sum over the sublists of a turned list is one over the sublists, each turned
over_turned : (t k : ℕ) (s : List ℕ) (f : List ℕ → ℕ) → t < 24 → IsRising s → over k (turn t s) f ≡ over k s (λ y. f (turn t y))
unfolding turn
over_turned t k s f l r =
    over_joined k (map (λ card. turned t card) s) f (λ x.
    let few : times (turned (inverse t) x) s ≤ 1 = times-rising (turned (inverse t) x) s r in
    omega (arith, times-mapped t s x l))
    ∙ over_mapped (λ card. turned t card) k s (λ y. f (joined y []))

-- ---- the cards that were not dealt

-- a card and the card turned back are both of the deck or both not
deck_turned : (n t x : ℕ) → 52 ≤ n → t < 24 → times (turned (inverse t) x) (deck n) ≡ times x (deck n)
deck_turned n t x big l = elim (cases_lt x n) [
  | inl p ↦ times-deck n (turned (inverse t) x) (turned_below n (inverse t) x big (inverse_inside t l) p) ∙ sym (times-deck n x p)
  | inr p ↦
      let out : n ≤ turned (inverse t) x = elim (cases_lt (turned (inverse t) x) n) [
        | inl q ↦ let r : x < n = subst (λ y. y < n) (turned_forth t x l) (turned_below n t (turned (inverse t) x) big l q) in absurd (omega arith)
        | inr q ↦ q
      ] in
      times-outside n (turned (inverse t) x) (deck n) (in_deck-deck n) out ∙ sym (times-outside n x (deck n) (in_deck-deck n) p)
]

-- what is left beside a turned deal are the turned cards that were left
left_turned : (n t : ℕ) (cards : List ℕ) → 52 ≤ n → t < 24 → without (deck n) (turn t cards) ≡ turn t (without (deck n) cards)
left_turned n t cards big l =
    rising_same (without (deck n) (turn t cards)) (turn t (without (deck n) cards)) (rising-without n (turn t cards)) (turn-rising t (without (deck n) cards) l (rising-without n cards)) (λ x.
    let y : ℕ = turned (inverse t) x in
    let a : times x (without (deck n) (turn t cards)) ≡ cond (has (turn t cards) x) 0 (times x (deck n)) = times-without x (deck n) (turn t cards) in
    let b : times y (without (deck n) cards) ≡ cond (has cards y) 0 (times y (deck n)) = times-without y (deck n) cards in
    let same : has (turn t cards) x ≡ has cards y = has_is (turn t cards) x ∙ ap (λ m. ltb 0 m) (times-turn t cards x l) ∙ sym (has_is cards y) in
    a ∙ ap (λ v. cond v 0 (times x (deck n))) same ∙ ap (λ m. cond (has cards y) 0 m) (sym (deck_turned n t x big l)) ∙ sym b ∙ sym (times-turn t (without (deck n) cards) x l))

-- ---- final hands

-- turned cards joined with turned cards are the turned final hand
joined_turned : (t : ℕ) (h y : List ℕ) → t < 24 → IsRising y → ((c : ℕ) → times c (h ++ y) ≤ 1) → joined (turn t h) (turn t y) ≡ turn t (joined h y)
joined_turned t h y l r once =
    rising_same (joined (turn t h) (turn t y)) (turn t (joined h y))
    (rising-joined (turn t h) (turn t y) (turn-rising t y l r) (λ c.
    let x : ℕ = turned (inverse t) c in
    let few : times x (h ++ y) ≤ 1 = once x in
    omega (arith, times-append c (turn t h) (turn t y), times-turn t h c l, times-turn t y c l, times-append x h y)))
    (turn-rising t (joined h y) l (rising-joined h y r once))
    (λ c. omega (arith, times-joined c (turn t h) (turn t y), times-turn t h c l, times-turn t y c l, times-turn t (joined h y) c l, times-joined (turned (inverse t) c) h y))

in_deck_from : (n : ℕ) (s : List ℕ) → Below n s → in_deck n s ≡ true
in_deck_from n [] b = refl
in_deck_from n (c ∷ s) b = in_deck-put n c s b.0 (in_deck_from n s b.1)

pub dealt_is : (n : ℕ) (cards : List ℕ) → IsDeal n cards → Dealt n cards
dealt_is n cards d = record { rising = deal_rises n cards d; of_deck = in_deck_from n cards (set_below n cards d.set); five = d.five }

pub deal_is_dealt : (n : ℕ) (cards : List ℕ) → Dealt n cards → IsDeal n cards
deal_is_dealt n cards d = record { five = d.five; set = dealt_is_set n cards d }

-- the sum over the draws is kept where the mask is carried along
pub draws_turned : (f : List ℕ → ℕ) (n t mask : ℕ) (cards : List ℕ) → 52 ≤ n → t < 24 → IsDeal n cards → IsKept n f
    → sum_over_draws f n (turn t cards) (carried t cards mask) ≡ sum_over_draws f n cards mask
unfolding sum_over_draws draws
draws_turned f n t mask cards big l d kept =
    let rising : IsRising cards = deal_rises n cards d in
    let h : List ℕ = held mask cards in
    let left : List ℕ = without (deck n) cards in
    let k : ℕ = length (discarded mask cards) in
    let eh : held (carried t cards mask) (turn t cards) ≡ turn t h = held_carried t mask cards l rising in
    let ek : length (discarded (carried t cards mask) (turn t cards)) ≡ k = ap (λ (x : List ℕ). length x) (discarded_carried t mask cards l rising) ∙ turn-length t (discarded mask cards) in
    let el : without (deck n) (turn t cards) ≡ turn t left = left_turned n t cards big l in
    let to_over : sum_by (λ drawn. f (joined (turn t h) drawn)) (combos k (turn t left)) ≡ over k (turn t left) (λ drawn. f (joined (turn t h) drawn)) = sym (over_is k (turn t left) (λ drawn. f (joined (turn t h) drawn))) in
    let moved : over k (turn t left) (λ drawn. f (joined (turn t h) drawn)) ≡ over k left (λ drawn. f (joined (turn t h) (turn t drawn))) = over_turned t k left (λ drawn. f (joined (turn t h) drawn)) l (rising-without n cards) in
    let from_over : over k left (λ drawn. f (joined (turn t h) (turn t drawn))) ≡ sum_by (λ drawn. f (joined (turn t h) (turn t drawn))) (combos k left) = over_is k left (λ drawn. f (joined (turn t h) (turn t drawn))) in
    let same : sum_by (λ drawn. f (joined (turn t h) (turn t drawn))) (combos k left) ≡ sum_by (λ drawn. f (joined h drawn)) (combos k left) =
    sum_combos_agree (λ drawn. f (joined (turn t h) (turn t drawn))) (λ drawn. f (joined h drawn)) k left (λ y p many.
    let once : (c : ℕ) → times c (h ++ y) ≤ 1 = λ c. omega (arith, times-append c h y, times-append c h left, sub_times c p, held_once n mask cards rising c) in
    ap f (joined_turned t h y l (sub_rising p (rising-without n cards)) once)
    ∙ kept t (joined h y) l (deal_is_dealt n (joined h y) (final_dealt n cards mask y (dealt_is n cards d) p many))) in
    ap (λ (x : List ℕ). sum_by (λ drawn. f (joined x drawn)) (combos (length (discarded (carried t cards mask) (turn t cards))) (without (deck n) (turn t cards)))) eh
    ∙ ap (λ j. sum_by (λ drawn. f (joined (turn t h) drawn)) (combos j (without (deck n) (turn t cards)))) ek
    ∙ ap (λ (x : List ℕ). sum_by (λ drawn. f (joined (turn t h) drawn)) (combos k x)) el
    ∙ to_over ∙ moved ∙ from_over ∙ same
