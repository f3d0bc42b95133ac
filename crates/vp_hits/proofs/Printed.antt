-- The printed holds of a deal hit each line alike, and how often a line comes fits.
use Rattle.std.proofs.Common.{◌≡◌, ℕ, ◌*◌, ◌^◌, ◌<◌, ◌≤◌, List, Option, length, ap, sym, refl, ◌∙◌, arith, if◌then◌else◌}
use Rattle.std.specs.Prelude.{sum_by}
use Rattle.vp_pay.specs.declared.table.PayTable.{PayTable}
use Rattle.vp_pay.specs.Table.{IsTable}
use Rattle.vp_sets.specs.Sets.{choose, combos, deck}
use Rattle.vp_sets.specs.Draws.{common, discarded, scale}
use Rattle.vp_suit.specs.Classes.{IsDeal, IsKept, representative}
use Rattle.vp_suit.specs.Turns.{carried, turn}
use Rattle.vp_suit.proofs.ClassLaws.{representative_deal, representative_kept}
use Rattle.vp_suit.proofs.TurnedDraws.{dealt_is}
use Rattle.vp_draws.specs.Draws.{IsPrintedHold, least_best}
use Rattle.vp_draws.proofs.Bounds.{denominator_fits}
use Rattle.vp_draws.proofs.Printed.{at_printed}
use Rattle.vp_draws.proofs.TurnedValues.{discards_turned, lines_turned}
use Rattle.vp_hits.specs.Hits.{chance, hit, hits, is_asked, often, printed_chance}
use Rattle.vp_hits.proofs.Chances.{chance_le}
use Rattle.vp_suit.proofs.Weighed.{deals_le}

hits_turned : (t mask : ℕ) (table : PayTable) (place : Option ℕ) (cards : List ℕ) → 52 ≤ table.deck → t < 24 → IsDeal table.deck cards → hits table place (turn t cards) (carried t cards mask) ≡ hits table place cards mask
unfolding hits hit
hits_turned t mask table place cards big l d = lines_turned table.deck t mask table (λ (o : Option ℕ). if is_asked place o then 1 else 0) cards big l d

-- a turn that is carried along keeps the chance
chance_turned : (t mask : ℕ) (table : PayTable) (place : Option ℕ) (cards : List ℕ) → 52 ≤ table.deck → t < 24 → IsDeal table.deck cards → chance table place (turn t cards) (carried t cards mask) ≡ chance table place cards mask
unfolding chance
chance_turned t mask table place cards big l d =
    ap (λ h. h * scale table.deck (length (discarded (carried t cards mask) (turn t cards)))) (hits_turned t mask table place cards big l d)
    ∙ ap (λ k. hits table place cards mask * scale table.deck k) (discards_turned table.deck t mask cards l d)

pub printed_alike : (table : PayTable) (coin : ℕ) (place : Option ℕ) (cards : List ℕ) (mask : ℕ) → IsTable table → IsDeal table.deck cards → IsPrintedHold table coin cards mask
    → chance table place cards mask ≡ printed_chance table coin place cards
unfolding printed_chance
printed_alike table coin place cards mask t d p = at_printed (chance table place) table coin cards mask (λ u l. chance_turned u mask table place cards t.known_deck.0 l d) p

-- turns keep it
pub printed_kept : (table : PayTable) (coin : ℕ) (place : Option ℕ) → IsTable table → IsKept table.deck (printed_chance table coin place)
unfolding printed_chance
printed_kept table coin place rules t cards l d = ap (λ (r : List ℕ). chance table place r (least_best table coin r)) (representative_kept table.deck cards t rules.known_deck.0 d l)

-- at a representative
pub own_chance : (table : PayTable) (coin : ℕ) (place : Option ℕ) (cards : List ℕ) (mask r : ℕ) → representative cards ≡ cards → mask ≡ least_best table coin cards → r ≡ chance table place cards mask
    → r ≡ printed_chance table coin place cards
unfolding printed_chance
own_chance table coin place cards mask r own best is = is ∙ ap (chance table place cards) best ∙ ap (λ (x : List ℕ). chance table place x (least_best table coin x)) (sym own)

printed_le : (table : PayTable) (coin : ℕ) (place : Option ℕ) (cards : List ℕ) → IsTable table → IsDeal table.deck cards → printed_chance table coin place cards ≤ common table.deck
unfolding printed_chance
printed_le table coin place cards t d =
    let r : IsDeal table.deck (representative cards) = representative_deal table.deck cards t.known_deck.0 d in
    chance_le table place (representative cards) (least_best table coin (representative cards)) t (dealt_is table.deck (representative cards) r)

pub often_fits : (table : PayTable) (coin : ℕ) (place : Option ℕ) → IsTable table → sum_by (printed_chance table coin place) (combos 5 (deck table.deck)) < 2 ^ 64
often_fits table coin place t =
    let most = deals_le table.deck (common table.deck) (printed_chance table coin place) (λ cards d. printed_le table coin place cards t d) in
    let room = denominator_fits table.deck 1 t.known_deck (omega arith) in
    let turned : common table.deck * choose table.deck 5 ≡ choose table.deck 5 * common table.deck * 1 = omega arith in
    omega (arith, most, room, turned)

pub often_is : (table : PayTable) (coin : ℕ) (place : Option ℕ) (sum : ℕ) → sum ≡ sum_by (printed_chance table coin place) (combos 5 (deck table.deck)) → sum ≡ often table coin place
unfolding often
often_is table coin place sum is = is

-- what a class adds
pub weighed_is : {w x v f : ℕ} → w ≡ x → v ≡ f → w * v ≡ x * f
weighed_is e g = rw (e, g) refl
