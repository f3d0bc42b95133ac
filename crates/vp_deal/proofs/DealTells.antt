-- The hold that `deal` prints is best.
use Rattle.std.proofs.Common.{◌≡◌, ℕ, ◌+◌, ◌≤◌, Bool, true, false, List, [], ◌∷◌, ◌++◌, length, refl, sym, ap, ◌∙◌, arith, append-nil, subst, Some}
use Rattle.std.specs.Prelude.{Ok, ◌==◌, not, ◌&&◌}
use Rattle.vp_card.specs.Cards.{absent, all_differ, in_order}
use Rattle.vp_card.specs.Rising.{times}
use Rattle.vp_card.proofs.InDeck.{in_deck-in_order}
use Rattle.vp_card.proofs.Rising.{length-joined, rising-joined}
use Rattle.vp_text.specs.Lines.{Word}
use Rattle.vp_text.specs.Written.{written}
use Rattle.vp_text.proofs.Pieces.{both_true}
use Rattle.vp_pay.specs.Deal.{AreDealtCards}
use Rattle.vp_pay.specs.declared.table.PayTable.{PayTable}
use Rattle.vp_sets.proofs.Colex.{below_in_deck, set_from}
use Rattle.vp_suit.specs.Classes.{IsDeal}
use Rattle.vp_suit.proofs.TurnedDraws.{dealt_is}
use Rattle.vp_draws.specs.Draws.{IsPrinted, best, least_best}
use Rattle.vp_draws.proofs.Chosen.{printed}
use Rattle.vp_pay.proofs.Inputs.{hands_read}
use Rattle.vp_pay.specs.Inputs.{has_bet}
use Rattle.vp_deal.specs.DealTells.{DealsPrintBestHolds}

absent_none : (card : ℕ) (cards : List ℕ) → absent card cards ≡ true → times card cards ≡ 0
absent_none card [] none = refl
absent_none card (other ∷ more) none =
    let parts = both_true (not (card == other)) (absent card more) none in
    let rest = absent_none card more parts.1 in
    grind (arith, parts.0, rest)

-- different cards stand once each
once : (cards : List ℕ) → all_differ cards ≡ true → (card : ℕ) → times card cards ≤ 1
once [] differ card = omega arith
once (first ∷ more) differ card =
    let parts = both_true (absent first more) (all_differ more) differ in
    let none = absent_none first more parts.0 in
    let rest = once more parts.1 card in
    by_first (first == card) refl none rest
  where
    by_first : (b : Bool) → (first == card) ≡ b → times first more ≡ 0 → times card more ≤ 1 → times card (first ∷ more) ≤ 1
    by_first true is none rest = grind (arith, is, none)
    by_first false is none rest = grind (arith, is, rest)

-- a deal in rising order is a set of five cards of the deck
dealt_set : (n : ℕ) (cards : List ℕ) → AreDealtCards n cards → IsDeal n (in_order cards)
unfolding in_order
dealt_set n cards dealt = record {
  five = omega (arith, length-joined cards [], dealt.five);
  set = set_from n (in_order cards) (rising-joined cards [] tt (λ card. rw (append-nil cards) (once cards dealt.differ card))) (below_in_deck n (in_order cards) (in_deck-in_order n cards dealt.below));
}

pub deals_print : DealsPrintBestHolds
deals_print coin bytes table hand says =
    let found = ((hands_read (has_bet coin)).spelled bytes (table, hand)).0 says in
    record {
      status = refl;
      text = refl;
      printed = subst (λ (h : List ℕ). IsPrinted table coin h (least_best table coin h) (best table coin h)) (sym found.2)
          (printed table coin (in_order found.0) found.1.0.0 (dealt_is table.deck (in_order found.0) (dealt_set table.deck found.0 found.1.0.1)));
    }
