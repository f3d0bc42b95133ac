-- What means out of sums are, and that they fit in a word.
use Rattle.std.proofs.Common.{◌≡◌, inl, inr, ℕ, ◌-◌, ◌*◌, ◌^◌, ◌<◌, ◌≤◌, true, List, length, get_or, refl, ap, subst, ◌∙◌, arith}
use Rattle.std.specs.List.{All}
use Rattle.std.proofs.lemmas.Bool.{cases_lt}
use Rattle.std.proofs.lemmas.List.{get_or_past}
use Rattle.std.proofs.lemmas.List.Elements.{All-get_or}
use Rattle.vp_card.specs.Cards.{IsDeck, IsHand, in_deck}
use Rattle.vp_sets.specs.Sets.{choose}
use Rattle.vp_sets.specs.Draws.{common, discarded, scale, sum_over_draws}
use Rattle.vp_sets.specs.Index.{set_index}
use Rattle.vp_sets.proofs.Colex.{hand_is_set}
use Rattle.vp_sets.proofs.Denominators.{common_small, scale_exact}
use Rattle.vp_sets.proofs.Holds.{dealt_from, length-held, sum_over_draws_le}
use Rattle.vp_draws.proofs.Values.{scaled_le}
use Rattle.vp_count.specs.Sums.{number, spread}
use Rattle.vp_count.specs.Table.{AreSumsOf, Table}
use Rattle.vp_count.proofs.HandNumbers.{spread_of}
use Rattle.vp_hold.specs.Means.{AreMeans, mean}

number_le : (w hand : List ℕ) → All (λ x. x ≤ 250000000000) w → number w hand ≤ 250000000000
unfolding number
number_le w hand small = elim (cases_lt (set_index hand) (length w)) [
  | inl l ↦ All-get_or (λ x. x ≤ 250000000000) w (set_index hand) 0 l small
  | inr past ↦ (let e : get_or w (set_index hand) 0 ≡ 0 = get_or_past w (set_index hand) 0 past in omega arith)
]

mean_fits : (sums : Table) (hand : List ℕ) (mask : ℕ) → IsDeck sums.size → All (λ x. x ≤ 250000000000) sums.numbers → IsHand hand → in_deck sums.size hand ≡ true → mean sums hand mask < 2 ^ 64
unfolding spread
mean_fits sums hand mask deck small h d =
    let k : ℕ = length (discarded mask hand) in
    let few : k ≤ 5 = omega (arith, length-held mask hand, h.five) in
    let sum : sum_over_draws (number sums.numbers) sums.size hand mask ≤ 250000000000 * choose (sums.size - 5) k =
    sum_over_draws_le (number sums.numbers) 250000000000 sums.size hand mask (dealt_from sums.size hand h d) (λ final. number_le sums.numbers final small) in
    let whole : sum_over_draws (number sums.numbers) sums.size hand mask * scale sums.size k ≤ 250000000000 * common sums.size =
    scaled_le _ 250000000000 (choose (sums.size - 5) k) (scale sums.size k) (common sums.size) sum (scale_exact sums.size k deck few) in
    omega (arith, whole, common_small sums.size deck)

-- what is read out of the sums
pub total_is : (own sums : Table) (hand cards : List ℕ) (mask size : ℕ) (numbers : List ℕ) (sum : ℕ)
    → own ≡ sums → cards ≡ hand → size ≡ own.size → numbers ≡ own.numbers → sum ≡ spread size numbers cards mask → sum ≡ spread sums.size sums.numbers hand mask
total_is own sums hand cards mask size numbers sum e same s w is = is ∙ rw (s, w, same) (ap (λ (t : Table). spread t.size t.numbers hand mask) e)

-- a total and its scale, of which a mean is made
pub record Scaled (sums : Table) (hand : List ℕ) (mask sum factor : ℕ) : Type 0 where
  pub fits : sum * factor < 2 ^ 64
  pub mean : sum * factor ≡ mean sums hand mask

pub scaled : (own sums : Table) (scales hand : List ℕ) (mask sum : ℕ) → own ≡ sums → AreMeans scales own → IsHand hand → in_deck sums.size hand ≡ true → mask < 32
    → sum ≡ spread sums.size sums.numbers hand mask → Scaled sums hand mask sum (get_or scales mask 0)
scaled own sums scales hand mask sum e are h d l is =
    let b : AreMeans scales sums = subst (λ (t : Table). AreMeans scales t) e are in
    let factor : get_or scales mask 0 ≡ scale sums.size (length (discarded mask hand)) = b.scaled hand mask h.five l in
    record { fits = rw (is, factor) (mean_fits sums hand mask b.deck b.bounded h d); mean = rw (is, factor) refl }

-- where the sums are those of what f gives, the mean is that of what f gives for the final hands
pub mean_of : (n : ℕ) (f : List ℕ → ℕ) (sums : Table) (hand : List ℕ) (mask : ℕ) → AreSumsOf n f sums → IsHand hand → in_deck n hand ≡ true
    → mean sums hand mask ≡ sum_over_draws f n hand mask * scale n (length (discarded mask hand))
mean_of n f sums hand mask are h d =
    ap (λ s. spread s sums.numbers hand mask * scale s (length (discarded mask hand))) are.size
    ∙ ap (λ (w : List ℕ). spread n w hand mask * scale n (length (discarded mask hand))) are.numbers
    ∙ ap (λ total. total * scale n (length (discarded mask hand))) (spread_of n f hand mask (hand_is_set n hand h d) h.five)

-- a hand of the deck is one of the sums' deck
pub of_sums : (n : ℕ) (f : List ℕ → ℕ) (sums : Table) (hand : List ℕ) → AreSumsOf n f sums → in_deck n hand ≡ true → in_deck sums.size hand ≡ true
of_sums n f sums hand are d = ap (λ s. in_deck s hand) are.size ∙ d
