-- No game that is made breaks a law.
use Rattle.std.proofs.Common.{◌≡◌, ℕ, zero, suc, ◌+◌, ◌-◌, ◌*◌, ◌≤◌, Bool, true, false, List, [], ◌∷◌, ◌++◌, length, refl, sym, ap, ◌∙◌, arith, None, append_assoc}
use Rattle.std.specs.Prelude.{◌||◌, if◌then◌else◌, nat_lt, ◌==◌}
use Rattle.std.specs.List.{list_any}
use Rattle.std.proofs.lemmas.Bool.Decides.{nat_tests}
use Rattle.vp_card.specs.Rising.{times}
use Rattle.vp_card.specs.Cards.{in_order}
use Rattle.vp_card.proofs.Rising.{times-append, times-same}
use Rattle.vp_sets.specs.Sets.{deck, has}
use Rattle.vp_pay.specs.Bets.{IsBet}
use Rattle.vp_pay.specs.Table.{IsTable}
use Rattle.vp_pay.specs.declared.table.PayTable.{PayTable}
use Rattle.vp_loggram.specs.declared.event.Event.{Event}
use Rattle.vp_replay.specs.Rules.{bet_breach, break_in, break_of, cards_breach, count_breach, credits_breach, deal_breach, draw_breach, first_break, first_wrong, funds_breach, hold_breach, paid, pay_breach, wrong_deal, wrong_draw, wrong_hold}
use Rattle.vp_replay.proofs.Masking.{among_none}
use Rattle.vp_gen.specs.Generator.{drawn, games_from, generated, made, masked}
use Rattle.vp_gen.proofs.Counts.{AreCards, are_cards, dealt}
use Rattle.vp_gen.proofs.Lines.{funds_first, funds_more}

-- ---- no card is wrong

-- where each card is right behind the cards before it, none is wrong
none_wrong : (wrong : List ℕ → ℕ → Bool) (front cards : List ℕ) → ((before after : List ℕ) (card : ℕ) → front ++ cards ≡ before ++ card ∷ after → wrong before card ≡ false) → first_wrong wrong front cards ≡ None
unfolding first_wrong
none_wrong wrong front [] right = refl
none_wrong wrong front (card ∷ cards) right =
    rw (right front cards card refl) (none_wrong wrong (front ++ card ∷ []) cards (λ before after other e. right before after other (sym (append_assoc front (card ∷ []) cards) ∙ e)))

-- a card that stands behind others
at_place : (all before after : List ℕ) (card : ℕ) → all ≡ before ++ card ∷ after → times card before + 1 ≤ times card all
at_place all before after card e = let t : times card all ≡ times card (before ++ card ∷ after) = ap (times card) e in omega (arith, t, times-append card before (card ∷ after), times-same card after)

is_among : (card : ℕ) (cards : List ℕ) → 1 ≤ times card cards → has cards card ≡ true
unfolding has
is_among card [] e = absurd (omega arith)
is_among card (other ∷ cards) e = elim (other == card) as (λ b. 1 ≤ (if b then 1 else 0) + times card cards → (b || list_any (λ o. o == card) cards) ≡ true) [
  | true ↦ λ e. refl
  | false ↦ λ e. is_among card cards (omega arith)
] e

deal_right : (n : ℕ) (deal hold draw : List ℕ) → AreCards n deal hold draw → first_wrong wrong_deal [] deal ≡ None
deal_right n deal hold draw is = none_wrong wrong_deal [] deal (λ before after card e. among_none card before (omega (arith, at_place deal before after card e, is.once card)))

hold_right : (n : ℕ) (deal hold draw : List ℕ) → AreCards n deal hold draw → first_wrong (wrong_hold deal) [] hold ≡ None
hold_right n deal hold draw is = none_wrong (wrong_hold deal) [] hold (λ before after card e.
    let p = at_place hold before after card e in
    rw (among_none card before (omega (arith, is.once card, is.within card)), is_among card deal (omega (arith, is.within card))) refl)

draw_right : (n : ℕ) (deal hold draw : List ℕ) → AreCards n deal hold draw → first_wrong (wrong_draw deal) [] draw ≡ None
draw_right n deal hold draw is = none_wrong (wrong_draw deal) [] draw (λ before after card e.
    let p = at_place draw before after card e in
    rw (among_none card before (omega (arith, is.once card)), among_none card deal (omega (arith, is.once card))) refl)

-- ---- a game

lawful_cards : (n : ℕ) (e : Event) → AreCards n e.deal e.hold.items e.draw.items → cards_breach e ≡ None
unfolding cards_breach deal_breach hold_breach count_breach draw_breach
lawful_cards n e is =
    let five : (length e.hold.items + length e.draw.items == 5) ≡ true = grind (arith, nat_tests, is.count) in
    rw (deal_right n _ _ _ is, hold_right n _ _ _ is, five, draw_right n _ _ _ is) refl

lawful_event : (table : PayTable) (credits : ℕ) (e : Event) → IsBet table e.bet → e.bet ≤ credits → AreCards table.deck e.deal e.hold.items e.draw.items → e.pay ≡ paid table e
    → e.credits ≡ credits - e.bet + e.pay → break_of table credits e ≡ None
unfolding break_of bet_breach funds_breach pay_breach credits_breach
lawful_event table credits e bet funds cards pays adds =
    let some : nat_lt e.bet 1 ≡ false = grind (arith, nat_tests, bet.some) in
    let within : nat_lt table.coins e.bet ≡ false = grind (arith, nat_tests, bet.within) in
    let enough : nat_lt credits e.bet ≡ false = grind (arith, nat_tests) in
    let pay : (e.pay == paid table e) ≡ true = grind (arith, nat_tests, pays) in
    let sum : (e.credits == credits - e.bet + e.pay) ≡ true = grind (arith, nat_tests, adds) in
    rw (some, within, enough, lawful_cards table.deck e cards, pay, sum) refl

-- ---- a game that is made

pub made_cards : (table : PayTable) (coin credits x : ℕ) → IsTable table
    → AreCards table.deck (made table coin credits x).event.deal (made table coin credits x).event.hold.items (made table coin credits x).event.draw.items
unfolding made
made_cards table coin credits x is =
    let deal = drawn 5 x (deck table.deck) in
    let choice = masked table coin (in_order deal.cards) deal.state in
    are_cards table.deck choice.mask choice.state deal.cards deal.rest is.known_deck (dealt table.deck x is.known_deck)

pub made_bet : (table : PayTable) (coin credits x : ℕ) → (made table coin credits x).event.bet ≡ coin
unfolding made
made_bet table coin credits x = refl

pub made_pay : (table : PayTable) (coin credits x : ℕ) → (made table coin credits x).event.pay ≡ paid table (made table coin credits x).event
unfolding made
made_pay table coin credits x = refl

pub made_credits : (table : PayTable) (coin credits x : ℕ) → (made table coin credits x).event.credits ≡ credits - coin + (made table coin credits x).event.pay
unfolding made
made_credits table coin credits x = refl

made_lawful : (table : PayTable) (coin credits x : ℕ) → IsBet table coin → coin ≤ credits → break_of table credits (made table coin credits x).event ≡ None
made_lawful table coin credits x is funds =
    let e = (made table coin credits x).event in
    let bet = made_bet table coin credits x in
    lawful_event table credits e (rw bet is) (rw bet funds) (made_cards table coin credits x is.rules) (made_pay table coin credits x) (rw bet (made_credits table coin credits x))

-- ---- all games

all_lawful : (table : PayTable) (coin game credits x games : ℕ) → IsBet table coin → coin * games ≤ credits → first_break table game credits (games_from table coin credits x games) ≡ None
unfolding games_from first_break
all_lawful table coin game credits x zero is enough = refl
all_lawful table coin game credits x (suc games) is enough =
    let m = made table coin credits x in
    let first : coin ≤ coin * suc games = funds_first coin (suc games) (omega arith) in
    let least : credits ≤ m.event.credits + coin = omega (arith, made_credits table coin credits x) in
    let left : coin * games ≤ m.event.credits = funds_more coin credits m.event.credits games enough least in
    rw (made_lawful table coin credits x is (omega (arith, first))) (all_lawful table coin (game + 1) m.event.credits m.state games is left)

pub generated_lawful : (table : PayTable) (coin seed games : ℕ) → IsBet table coin → break_in table (generated table coin seed games) ≡ None
unfolding generated
generated_lawful table coin seed games is = all_lawful table coin 1 (coin * games) seed games is (omega arith)
