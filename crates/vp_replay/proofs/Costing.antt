-- What the cost of a lawful game is.
use Rattle.std.proofs.Common.{◌≡◌, ℕ, ◌<◌, true, List, [], length, arith, ◌∙◌, subst, sym, refl, ◌-◌, Some, None, Option}
use Rattle.std.specs.Prelude.{if◌then◌else◌, IfSome}
use Rattle.std.specs.List.Sorted.{IsPermutation}
use Rattle.vp_card.specs.Cards.{IsHand, all_differ, in_order}
use Rattle.vp_card.proofs.Rising.{length-joined}
use Rattle.vp_pay.specs.Table.{IsTable}
use Rattle.vp_pay.specs.declared.table.PayTable.{PayTable}
use Rattle.vp_sets.specs.Draws.{mask_of}
use Rattle.vp_sets.proofs.Masks.{mask_small}
use Rattle.vp_draws.specs.Draws.{IsMean, best, total, value}
use Rattle.vp_draws.proofs.Chosen.{value_le_best}
use Rattle.vp_draws.proofs.Values.{value_mean}
use Rattle.vp_loggram.specs.Logs.{is_of_deck}
use Rattle.vp_loggram.specs.declared.event.Event.{Event}
use Rattle.vp_replay.specs.LawfulGames.{AreLawfulCards}
use Rattle.vp_replay.specs.Costs.{IsCost, cost_of, hold_of}
use Rattle.vp_replay.proofs.LawfulCards.{lawful_dealt, lawful_holds}

-- the cards in their order are as many
pub length-in_order : (cards : List ℕ) → length (in_order cards) ≡ length cards
unfolding in_order
length-in_order cards = omega (arith, length-joined cards [])

hold_small : (e : Event) → length (in_order e.deal) ≡ 5 → hold_of e < 32
hold_small e five =
    let small = mask_small e.hold.items (in_order e.deal) in
    rw five at small

-- what each hold of the deal is worth is its mean payment
pub means_are : (table : PayTable) (e : Event) (other : ℕ) → IsTable table → is_of_deck table.deck e ≡ true → length (in_order e.deal) ≡ 5 → AreLawfulCards e
    → IsMean table.deck (in_order e.deal) other (total table e.bet (in_order e.deal) other) (value table e.bet (in_order e.deal) other)
means_are table e other known of five lawful = value_mean table e.bet (in_order e.deal) other known (lawful_dealt table.deck e of five lawful)

pub cost_is : (table : PayTable) (e : Event) → IsTable table → is_of_deck table.deck e ≡ true → length (in_order e.deal) ≡ 5 → AreLawfulCards e → IsCost table e (cost_of table e)
cost_is table e known of five lawful =
    let small = hold_small e five in
    let most = value_le_best table e.bet (in_order e.deal) (hold_of e) small in
    record {
      mask = small;
      held = lawful_holds e lawful;
      worth = omega (arith, most);
      greatest = λ other less. value_le_best table e.bet (in_order e.deal) other less;
      mean = λ other less. means_are table e other known of five lawful;
    }

-- a hand of cards that differ is these in rising order, and there are five
pub hand_is : (cards : List ℕ) (hand : Option (List ℕ)) (found : List ℕ) → all_differ cards ≡ true → hand ≡ (if all_differ cards then Some (in_order cards) else None)
    → IfSome hand (λ h. IsPermutation cards h × IsHand h) → hand ≡ Some found → (found ≡ in_order cards) × (length found ≡ 5)
hand_is cards hand found differ is sorted some =
    let same : found ≡ in_order cards = (let e : Some found ≡ Some (in_order cards) = sym some ∙ rw differ at is in cc) in
    let all = subst (λ (h : Option (List ℕ)). IfSome h (λ h. IsPermutation cards h × IsHand h)) some sorted in
    (same, all.1.five)

-- what was reckoned as the cost is it
pub reckoned : (here table : PayTable) (e : Event) (bet mask top worth : ℕ) (hand hold : List ℕ) → here ≡ table → bet ≡ e.bet → hand ≡ in_order e.deal → hold ≡ e.hold.items
    → mask ≡ mask_of hold hand → top ≡ best here bet hand → worth ≡ value here bet hand mask → top - worth ≡ cost_of table e
reckoned here table e bet mask top worth hand hold t b h l m most is = rw (most, is, m, t, b, h, l) refl

pub cost_of_means : (table : PayTable) (e : Event) (cost : ℕ) → IsTable table → is_of_deck table.deck e ≡ true → length (in_order e.deal) ≡ 5 → AreLawfulCards e → cost ≡ cost_of table e → IsCost table e cost
cost_of_means table e cost known of five lawful is = subst (λ (c : ℕ). IsCost table e c) (sym is) (cost_is table e known of five lawful)
