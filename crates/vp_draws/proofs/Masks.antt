-- The masks of cards in many deals, and what is paid over them.
use Rattle.std.proofs.Common.{◌≡◌, inl, inr, ℕ, zero, suc, ◌+◌, ◌*◌, ◌<◌, ◌≤◌, ◌^◌, ◌++◌, lit≤, set, Bool, true, false, cond, List, [], ◌∷◌, length, get_or, refl, ap, sym, ◌∙◌, arith}
use Rattle.std.proofs.lemmas.Bool.{cases_lt}
use Rattle.std.proofs.lemmas.List.{get_or_past, get_or-set_other}
use Rattle.std.proofs.lemmas.Grind.{get_or-set_at}
use Rattle.vp_card.specs.Cards.{IsHand}
use Rattle.vp_pay.specs.declared.table.PayTable.{PayTable}
use Rattle.vp_wild.specs.Payment.{pay}
use Rattle.vp_sets.specs.Draws.{mask_of}
use Rattle.vp_sets.specs.Index.{IsSet}
use Rattle.vp_sets.proofs.Colex.{set_below}
use Rattle.vp_sets.proofs.Holds.{Dealt}
use Rattle.vp_sets.proofs.Masks.{mask_small}
use Rattle.vp_sets.proofs.ByMask.{mask_push}
use Rattle.vp_draws.specs.ByLine.{summed}
use Rattle.vp_draws.specs.Draws.{total}
use Rattle.vp_draws.specs.Many.{AreMasks, cell, deal_at}
use Rattle.vp_draws.proofs.Summed.{below_absent, summed_all}

-- over all hands of the deck, the payments sum to the total of a hold
pub all_paid : (table : PayTable) (coin : ℕ) (deal : List ℕ) (mask : ℕ) → Dealt table.deck deal → mask < 32
    → summed (pay table coin) table.deck [] 0 deal mask ≡ total table coin deal mask
unfolding total
all_paid table coin deal mask d small = summed_all (pay table coin) table.deck deal mask d small

-- a hand that pays nothing adds nothing
pub unpaid : (b : Bool) (before payment : ℕ) → payment ≡ 0 → before ≡ before + cond b payment 0
unpaid true before payment e = omega arith
unpaid false before payment e = omega arith

-- the masks of the chosen cards, with those of one more above them
pub masks_grow : (deals : List (List ℕ)) (chosen : List ℕ) (card : ℕ) (masks more : List ℕ) → IsSet card chosen → AreMasks deals chosen masks → AreMasks deals (card ∷ []) more
    → (k : ℕ) → k < length deals → get_or masks k 0 + get_or more k 0 ≡ mask_of (chosen ++ card ∷ []) (deal_at deals k)
masks_grow deals chosen card masks more set a b k l =
    omega (arith, a k l, b k l, mask_push chosen card (deal_at deals k) (below_absent card chosen (set_below card chosen set)))

power_small : (n : ℕ) → n ≤ 5 → 2 ^ n ≤ 32
power_small zero l = lit≤ tt
power_small (suc zero) l = lit≤ tt
power_small (suc (suc zero)) l = lit≤ tt
power_small (suc (suc (suc zero))) l = lit≤ tt
power_small (suc (suc (suc (suc zero)))) l = lit≤ tt
power_small (suc (suc (suc (suc (suc zero))))) l = lit≤ tt
power_small (suc (suc (suc (suc (suc (suc n)))))) l = absurd (omega arith)

-- a mask over at most five cards
pub mask_lt : (cards deal : List ℕ) → length deal ≤ 5 → mask_of cards deal < 32
mask_lt cards deal few = omega (arith, mask_small cards deal, power_small (length deal) few)

pub few_cards : (deals : List (List ℕ)) → ((k : ℕ) → k < length deals → IsHand (deal_at deals k)) → (k : ℕ) → length (deal_at deals k) ≤ 5
few_cards deals hands k = elim (cases_lt k (length deals)) [
  | inl l ↦ let h = hands k l in omega (arith, h.five)
  | inr l ↦ omega (arith, ap (λ (s : List ℕ). length s) (get_or_past deals k [] l))
]

-- a row of numbers that are 0 is put at the place i
pub cleared : (rows : List (List ℕ)) (row : List ℕ) (i : ℕ) → i < length rows → ((mask : ℕ) → get_or row mask 0 ≡ 0) → ((k mask : ℕ) → k < i → cell rows k mask ≡ 0)
    → (k mask : ℕ) → k < i + 1 → cell (set rows i row) k mask ≡ 0
cleared rows row i inside none before k mask l = elim (cases_lt k i) [
  | inl p ↦ ap (λ (r : List ℕ). get_or r mask 0) (get_or-set_other rows i k row [] (λ e. omega arith)) ∙ before k mask p
  | inr p ↦ ap (λ (r : List ℕ). get_or r mask 0) (get_or-set_at rows i k row [] (omega arith) inside) ∙ none mask
]

-- a deal is the same whatever stands for none
pub deal_is : (deals : List (List ℕ)) (k : ℕ) (deal : List ℕ) → k < length deals → deal ≡ get_or deals k deal → deal ≡ deal_at deals k
deal_is deals k deal l is = is ∙ other deals k deal l
  where
    other : (deals : List (List ℕ)) (k : ℕ) (deal : List ℕ) → k < length deals → get_or deals k deal ≡ get_or deals k []
    other [] k deal l = absurd (omega arith)
    other (d ∷ deals) zero deal l = refl
    other (d ∷ deals) (suc k) deal l = other deals k deal (omega arith)
