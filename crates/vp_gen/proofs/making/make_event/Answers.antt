use Rattle.std.proofs.Common.{◌≡◌, ◌-◌, ◌++◌, ◌∙◌, ap, sym, subst, length, List, ℕ, arith}
use Rattle.vp_card.specs.Cards.{held, in_deck, in_order}
use Rattle.vp_pay.specs.Table.{IsTable}
use Rattle.vp_wild.specs.Kept.{Bet}
use Rattle.vp_wild.specs.Payment.{pay}
use Rattle.vp_draws.proofs.Payments.{pay_le}
use Rattle.vp_sets.proofs.Decks.{length-deck}
use Rattle.vp_gen.specs.Generator.{drawn, masked}
use Rattle.vp_gen.proofs.Counts.{cards_from, deal_differs, dealt_from, final_differ, hand_is, hand_is_some, hand_of_deck, made_from}
use Rattle.vp_gen.proofs.making.make_event.Goals as goal

pub copied-rest-requires : goal.copied-rest-requires
copied-rest-requires g c = let deck = c.table-table.ensures.rules.known_deck in omega (arith, ap {B = ℕ} length c.requires.pack, length-deck c.args.game.now.table.deck, deck.1)

pub deal-deal-requires : goal.deal-deal-requires
deal-deal-requires g c =
    let deck = c.table-table.ensures.rules.known_deck in
    omega (arith, ap {B = ℕ} length c.copied-rest.ensures, ap {B = ℕ} length c.requires.pack, length-deck c.args.game.now.table.deck, deck.0)

pub unwrap-hand-requires : goal.unwrap-hand-requires
unwrap-hand-requires g c =
    let dealt = dealt_from _ _ _ _ c.deal-deal.result c.deal-deal.new.rest.items c.table-table.ensures.rules.known_deck (c.copied-rest.ensures ∙ c.requires.pack) c.deal-deal.ensures in
    hand_is_some c.deal-deal.result c.of.result (deal_differs _ _ _ dealt) c.of.ensures.value

pub mask_of-requires : goal.mask_of-requires
mask_of-requires g c =
    let dealt = dealt_from _ _ _ _ c.deal-deal.result c.deal-deal.new.rest.items c.table-table.ensures.rules.known_deck (c.copied-rest.ensures ∙ c.requires.pack) c.deal-deal.ensures in
    let hand : c.unwrap-hand.result ≡ in_order c.deal-deal.result = hand_is c.deal-deal.result c.of.result c.unwrap-hand.result (deal_differs _ _ _ dealt) c.of.ensures.value c.unwrap-hand.ensures in
    ap (in_deck c.args.game.now.table.deck) hand ∙ hand_of_deck _ _ _ dealt

pub draw-draw-requires-clause-room : goal.draw-draw-requires-clause-room
draw-draw-requires-clause-room g c =
    let deck = c.table-table.ensures.rules.known_deck in
    let dealt = dealt_from _ _ _ _ c.deal-deal.result c.deal-deal.new.rest.items deck (c.copied-rest.ensures ∙ c.requires.pack) c.deal-deal.ensures in
    omega (arith, dealt.left, deck.0)

pub final_hand-requires-clause-differ : goal.final_hand-requires-clause-differ
final_hand-requires-clause-differ g c =
    let deck = c.table-table.ensures.rules.known_deck in
    let dealt = dealt_from _ _ _ _ c.deal-deal.result c.deal-deal.new.rest.items deck (c.copied-rest.ensures ∙ c.requires.pack) c.deal-deal.ensures in
    let hand : c.unwrap-hand.result ≡ in_order c.deal-deal.result = hand_is c.deal-deal.result c.of.result c.unwrap-hand.result (deal_differs _ _ _ dealt) c.of.ensures.value c.unwrap-hand.ensures in
    let hold : c.held-hold.result.items ≡ held c.mask_of.result (in_order c.deal-deal.result) = c.held-hold.ensures.cards ∙ ap (held c.mask_of.result) hand in
    let drew = ap (λ (k : ℕ). drawn (5 - k) c.mask_of.new.state c.deal-deal.new.rest.items) (sym c.len.ensures.value) ∙ c.draw-draw.ensures.drawn in
    let cards = cards_from _ c.mask_of.result c.mask_of.new.state _ c.deal-deal.result c.deal-deal.new.rest.items c.held-hold.result.items c.draw-draw.result.items _ deck dealt hold drew in
    rw (c.deref.ensures.0, c.deref-2.ensures.0) (final_differ _ _ _ _ cards)

pub returns-clause-made : goal.returns-clause-made
returns-clause-made g c =
    let deck = c.table-table.ensures.rules.known_deck in
    let whole = c.copied-rest.ensures ∙ c.requires.pack in
    let dealt = dealt_from _ _ _ _ c.deal-deal.result c.deal-deal.new.rest.items deck whole c.deal-deal.ensures in
    let hand : c.unwrap-hand.result ≡ in_order c.deal-deal.result = hand_is c.deal-deal.result c.of.result c.unwrap-hand.result (deal_differs _ _ _ dealt) c.of.ensures.value c.unwrap-hand.ensures in
    let hold : c.held-hold.result.items ≡ held c.mask_of.result (in_order c.deal-deal.result) = c.held-hold.ensures.cards ∙ ap (held c.mask_of.result) hand in
    let drew = ap (λ (k : ℕ). drawn (5 - k) c.mask_of.new.state c.deal-deal.new.rest.items) (sym c.len.ensures.value) ∙ c.draw-draw.ensures.drawn in
    let first = ap (drawn 5 c.args.state.now) (sym whole) ∙ c.deal-deal.ensures in
    let chosen = ap (λ (h : List ℕ). masked c.args.game.now.table c.args.game.now.coin h c.deal-deal.new.state) (sym hand) ∙ c.mask_of.ensures in
    let pays : c.from-pay.result ≡ pay c.args.game.now.table c.args.game.now.coin (in_order (c.held-hold.result.items ++ c.draw-draw.result.items)) =
    c.from-pay.ensures ∙ rw (c.requires.payments, c.final_hand.ensures.value, c.deref.ensures.0, c.deref-2.ensures.0) at c.payment-pay.ensures.payment in
    let bet : c.from-bet.result ≡ c.args.game.now.coin = c.from-bet.ensures ∙ c.coin-coin.ensures.coin in
    rw bet (made_from c.args.game.now.table c.args.game.now.coin c.args.credits c.args.state.now c.deal-deal.new.state c.mask_of.result c.mask_of.new.state c.draw-draw.new.state c.from-pay.result
    c.deal-deal.result c.deal-deal.new.rest.items c.held-hold.result.items c.draw-draw.result.items c.draw-draw.new.rest.items first chosen hold drew pays)

pub returns-clause-most : goal.returns-clause-most
returns-clause-most g c =
    let rules = subst (λ (bet : Bet). IsTable bet.table) (sym c.requires.payments) c.table-table.ensures.rules in
    let most = pay_le c.args.payments.now.table c.args.payments.now.coin c.final_hand.result rules in
    omega (arith, most, c.from-pay.ensures, c.payment-pay.ensures.payment)
