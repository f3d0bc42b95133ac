-- A deal is the representative of its class exactly where the heaps of its suits fall.
use Rattle.std.proofs.Common.{◌≡◌, inl, inr, ℕ, ◌+◌, ◌-◌, ◌*◌, ◌^◌, ◌<◌, ◌≤◌, true, ◌&&◌, leb, List, ap, arith, lit<}
use Rattle.std.specs.Bool.{Decides}
use Rattle.std.proofs.lemmas.Bool.{cases_lt, cases_eq, and_parts, and_from, leb-true, le-leb}
use Rattle.std.proofs.lemmas.Bool.Decides.{same_from_decides}
use Rattle.std.proofs.Math.Nat.{mul-le-mul_right}
use Rattle.vp_card.specs.Rising.{IsRising}
use Rattle.vp_sets.specs.Index.{set_index}
use Rattle.vp_sets.proofs.Colex.{set_rises, set_below, index_is}
use Rattle.vp_suit.specs.Turns.{turned_suit, turn}
use Rattle.vp_suit.specs.Heaps.{heap, falls}
use Rattle.vp_suit.specs.Classes.{IsDeal, image_indexes, is_representative}
use Rattle.vp_suit.proofs.Group.{Powers, powers, Turns, unturned, last_exchanged, middle_exchanged, first_exchanged}
use Rattle.vp_suit.proofs.Cards.{turn_first}
use Rattle.vp_suit.proofs.Members.{least_at, least_from}
use Rattle.vp_suit.proofs.Deals.{deal_rises, turned_deal}
use Rattle.vp_suit.proofs.Score.{score, score_turned, jokers, ordered}

layered : (e f g k a b c d : ℕ) → Powers a b c d → (e + f + g + k) + 2 * (e + f + g) + 4 * (e + f) + 8 * e ≤ a * (e + f + g + k) + b * (e + f + g) + c * (e + f) + d * e
layered e f g k a b c d p =
    let four : (a + b + c + d) * e ≡ 15 * e = ap (λ x. x * e) p.four in
    let three : 7 * f ≤ (a + b + c) * f = mul-le-mul_right f p.three in
    let two : 3 * g ≤ (a + b) * g = mul-le-mul_right g p.two in
    let one : 1 * k ≤ a * k = mul-le-mul_right k p.one in
    omega arith

-- heaps that fall count least when they aren't turned
fall_least : (h0 h1 h2 h3 a b c d : ℕ) → h1 ≤ h0 → h2 ≤ h1 → h3 ≤ h2 → Powers a b c d → h0 + 2 * h1 + 4 * h2 + 8 * h3 ≤ a * h0 + b * h1 + c * h2 + d * h3
fall_least h0 h1 h2 h3 a b c d l0 l1 l2 p =
    let f : ℕ = h2 - h3 in
    let g : ℕ = h1 - h2 in
    let k : ℕ = h0 - h1 in
    let e2 : h3 + f ≡ h2 = omega arith in
    let e1 : h3 + f + g ≡ h1 = omega arith in
    let e0 : h3 + f + g + k ≡ h0 = omega arith in
    rw (e0, e1, e2) at (layered h3 f g k a b c d p)

-- the score by a turn of which the suits are known
score_by : (t p q r s : ℕ) (cards : List ℕ) → t < 24 → Turns t p q r s → score (turn t cards) ≡ 2 ^ p * heap 0 cards + 2 ^ q * heap 1 cards + 2 ^ r * heap 2 cards + 2 ^ s * heap 3 cards + jokers cards
score_by t p q r s cards l k = rw (← k.clubs, ← k.diamonds, ← k.hearts, ← k.spades) (score_turned t cards l)

pub score_is : (cards : List ℕ) → IsRising cards → score cards ≡ heap 0 cards + 2 * heap 1 cards + 4 * heap 2 cards + 8 * heap 3 cards + jokers cards
score_is cards r =
    let a : score (turn 0 cards) ≡ 2 ^ 0 * heap 0 cards + 2 ^ 1 * heap 1 cards + 2 ^ 2 * heap 2 cards + 2 ^ 3 * heap 3 cards + jokers cards = score_by 0 0 1 2 3 cards (omega arith) unturned in
    let b : score (turn 0 cards) ≡ score cards = ap (λ (x : List ℕ). score x) (turn_first cards r) in
    omega arith

-- deals are ordered by their scores as by their indexes
pub score_orders : (n : ℕ) (s t : List ℕ) → IsDeal n s → IsDeal n t → (set_index s ≤ set_index t → score s ≤ score t) × (score s ≤ score t → set_index s ≤ set_index t)
score_orders n s t a b =
    let o = ordered n s t (set_rises n s a.set) (set_below n s a.set) (set_rises n t b.set) (set_below n t b.set) (omega (arith, a.five, b.five)) in
    let o' = ordered n t s (set_rises n t b.set) (set_below n t b.set) (set_rises n s a.set) (set_below n s a.set) (omega (arith, a.five, b.five)) in
    let i : set_index s ≡ _ = index_is s in
    let j : set_index t ≡ _ = index_is t in (
      λ l. elim (cases_eq (set_index s) (set_index t)) [
        | inl e ↦ let x : score s ≡ score t = o.same (omega arith) in omega arith
        | inr d ↦ let x : score s < score t = o.lower (omega arith) in omega arith
      ],
      λ l. elim (cases_lt (set_index t) (set_index s)) [
        | inl k ↦ let x : score t < score s = o'.lower (omega arith) in absurd (omega arith)
        | inr k ↦ k
      ],
    )

falls_from : (h0 h1 h2 h3 : ℕ) → h1 ≤ h0 → h2 ≤ h1 → h3 ≤ h2 → (leb h1 h0 && leb h2 h1 && leb h3 h2) ≡ true
falls_from h0 h1 h2 h3 a b c = and_from _ _ (and_from _ _ (le-leb h1 h0 a) (le-leb h2 h1 b)) (le-leb h3 h2 c)

pub record Fall (cards : List ℕ) : Type 0 where
  pub first : heap 1 cards ≤ heap 0 cards
  pub middle : heap 2 cards ≤ heap 1 cards
  pub last : heap 3 cards ≤ heap 2 cards

pub fall_of : (cards : List ℕ) → falls cards ≡ true → Fall cards
unfolding falls
fall_of cards h =
    let p = and_parts _ _ h in
    let q = and_parts _ _ p.0 in
    record { first = leb-true _ _ q.0; middle = leb-true _ _ q.1; last = leb-true _ _ p.1 }

fall_means : (n : ℕ) (cards : List ℕ) → 52 ≤ n → IsDeal n cards → Decides (falls cards) ((t : ℕ) → t < 24 → set_index cards ≤ set_index (turn t cards))
unfolding falls
fall_means n cards big deal =
    let r : IsRising cards = deal_rises n cards deal in
    let own : score cards ≡ heap 0 cards + 2 * heap 1 cards + 4 * heap 2 cards + 8 * heap 3 cards + jokers cards = score_is cards r in (
      λ h t l.
          let f = fall_of cards h in
          let turned : score (turn t cards) ≡ _ = score_turned t cards l in
          let least : _ ≤ _ = fall_least (heap 0 cards) (heap 1 cards) (heap 2 cards) (heap 3 cards) (2 ^ turned_suit t 0) (2 ^ turned_suit t 1) (2 ^ turned_suit t 2) (2 ^ turned_suit t 3) f.first f.middle f.last (powers t l) in
          (score_orders n cards (turn t cards) deal (turned_deal n t cards big l deal)).1 (omega arith),
      λ h.
          let l1 : 1 < 24 = lit< tt in
          let l2 : 2 < 24 = lit< tt in
          let l6 : 6 < 24 = lit< tt in
          let a : score cards ≤ score (turn 6 cards) = (score_orders n cards (turn 6 cards) deal (turned_deal n 6 cards big l6 deal)).0 (h 6 l6) in
          let b : score cards ≤ score (turn 2 cards) = (score_orders n cards (turn 2 cards) deal (turned_deal n 2 cards big l2 deal)).0 (h 2 l2) in
          let c : score cards ≤ score (turn 1 cards) = (score_orders n cards (turn 1 cards) deal (turned_deal n 1 cards big l1 deal)).0 (h 1 l1) in
          let a' : score (turn 6 cards) ≡ 2 ^ 1 * heap 0 cards + 2 ^ 0 * heap 1 cards + 2 ^ 2 * heap 2 cards + 2 ^ 3 * heap 3 cards + jokers cards = score_by 6 1 0 2 3 cards l6 first_exchanged in
          let b' : score (turn 2 cards) ≡ 2 ^ 0 * heap 0 cards + 2 ^ 2 * heap 1 cards + 2 ^ 1 * heap 2 cards + 2 ^ 3 * heap 3 cards + jokers cards = score_by 2 0 2 1 3 cards l2 middle_exchanged in
          let c' : score (turn 1 cards) ≡ 2 ^ 0 * heap 0 cards + 2 ^ 1 * heap 1 cards + 2 ^ 3 * heap 2 cards + 2 ^ 2 * heap 3 cards + jokers cards = score_by 1 0 1 3 2 cards l1 last_exchanged in
          falls_from (heap 0 cards) (heap 1 cards) (heap 2 cards) (heap 3 cards) (omega arith) (omega arith) (omega arith),
    )

-- the fast test tells representatives
pub falls_tell : (n : ℕ) (cards : List ℕ) → 52 ≤ n → IsDeal n cards → falls cards ≡ is_representative cards
unfolding is_representative image_indexes
falls_tell n cards big deal = same_from_decides (falls cards) (is_representative cards) (fall_means n cards big deal)
    (λ h t l. least_at (set_index cards) (λ s. set_index (turn s cards)) 24 t h l, λ h. least_from (set_index cards) (λ s. set_index (turn s cards)) 24 h)
