-- Every made log is accepted.
use Rattle.std.proofs.Common.{◌≡◌, ℕ, zero, suc, ◌+◌, ◌*◌, ◌^◌, ◌≤◌, Bool, true, ◌&&◌, List, [], ◌∷◌, ◌++◌, length, refl, ap, subst, arith, Ok}
use Rattle.std.specs.List.{AllByRecursion}
use Rattle.std.proofs.Math.Nat.{mul-le-mul_right}
use Rattle.std.proofs.lemmas.List.{append-nil}
use Rattle.vp_card.specs.Cards.{in_order}
use Rattle.vp_text.specs.Lines.{WordLine, feed_of}
use Rattle.vp_text.specs.Sections.{text_of}
use Rattle.vp_text.specs.Written.{written}
use Rattle.vp_pay.specs.Bets.{IsBet}
use Rattle.vp_pay.specs.Table.{IsTable}
use Rattle.vp_pay.specs.declared.table.PayTable.{PayTable}
use Rattle.vp_draws.proofs.Payments.{pay_le}
use Rattle.vp_loggram.specs.Logs.{IsEvent, IsLog, LogValue}
use Rattle.vp_loggram.specs.Sections.{log_at}
use Rattle.vp_loggram.specs.Spelling.{log_text}
use Rattle.vp_loggram.specs.declared.event.Event.{Event}
use Rattle.vp_loggram.proofs.Log_laws.{written_again}
use Rattle.vp_loggram.proofs.Logs_grammar.{Exact-log}
use Rattle.vp_replay.specs.Summaries.{AllBet}
use Rattle.vp_gen.specs.Generator.{games_from, generated, made}
use Rattle.vp_gen.specs.Promises.{IsAccepted, IsReadAs}
use Rattle.vp_gen.proofs.Counts.{AreCards, counts_of_deck}
use Rattle.vp_gen.proofs.Fairness.{generated_lawful, made_bet, made_cards, made_credits, made_pay}
use Rattle.vp_gen.proofs.Sizes.{log_width}

-- ---- in the grammar

all_true : (a b c : Bool) → a ≡ true → b ≡ true → c ≡ true → (a && b && c) ≡ true
all_true a b c p q r = rw (p, q, r) refl

event_is : (n : ℕ) (e : Event) → AreCards n e.deal e.hold.items e.draw.items → e.bet ≤ 5 → e.pay ≤ 500000 → e.credits ≤ 2 ^ 63 → IsEvent n e
event_is n e cards bet pay credits = record {
  bet = omega arith;
  deal = cards.five;
  hold = omega (arith, cards.count);
  draw = omega (arith, cards.count);
  cards = all_true _ _ _
      (counts_of_deck n e.deal (λ c out. omega (arith, cards.below c out)))
      (counts_of_deck n e.hold.items (λ c out. omega (arith, cards.below c out, cards.within c)))
      (counts_of_deck n e.draw.items (λ c out. omega (arith, cards.below c out)));
  pay = omega arith;
  credits = omega arith;
}

made_most : (table : PayTable) (coin credits x : ℕ) → IsTable table → (made table coin credits x).event.pay ≤ 500000
made_most table coin credits x is =
    let e = (made table coin credits x).event in
    omega (arith, made_pay table coin credits x, pay_le table e.bet (in_order (e.hold.items ++ e.draw.items)) is)

events_are : (table : PayTable) (coin credits x games : ℕ) → IsBet table coin → credits + 500000 * games ≤ 2 ^ 63 → AllByRecursion (IsEvent table.deck) (games_from table coin credits x games)
unfolding games_from
events_are table coin credits x zero is bound = tt
events_are table coin credits x (suc games) is bound =
    let m = made table coin credits x in
    let most = made_most table coin credits x is.rules in
    let adds = made_credits table coin credits x in
    let small : m.event.credits ≤ credits + 500000 = omega (arith, most, adds) in
    let bet : m.event.bet ≤ 5 = omega (arith, made_bet table coin credits x, is.within, is.rules.most_coins) in (
      event_is table.deck m.event (made_cards table coin credits x is.rules) bet most (omega (arith, small)),
      events_are table coin m.event.credits m.state games is (omega (arith, small)),
    )

events_count : (table : PayTable) (coin credits x games : ℕ) → length (games_from table coin credits x games) ≡ games
unfolding games_from
events_count table coin credits x zero = refl
events_count table coin credits x (suc games) = ap suc (events_count table coin (made table coin credits x).event.credits (made table coin credits x).state games)

generated_log : (table : PayTable) (coin seed games : ℕ) → IsBet table coin → games ≤ 100000 → IsLog table.deck (generated table coin seed games)
unfolding generated
generated_log table coin seed games is few =
    let five : coin * games ≤ 5 * games = mul-le-mul_right games (omega (arith, is.within, is.rules.most_coins)) in
    record { start = omega (arith, five); events = events_are table coin (coin * games) seed games is (omega (arith, five)) }

events_bet : (table : PayTable) (coin credits x games : ℕ) → AllBet coin (games_from table coin credits x games)
unfolding games_from
events_bet table coin credits x zero = tt
events_bet table coin credits x (suc games) =
    let m = made table coin credits x in
    (made_bet table coin credits x, events_bet table coin m.event.credits m.state games)

generated_bet : (table : PayTable) (coin seed games : ℕ) → AllBet coin (generated table coin seed games).events
unfolding generated
generated_bet table coin seed games = events_bet table coin (coin * games) seed games

generated_count : (table : PayTable) (coin seed games : ℕ) → length (generated table coin seed games).events ≡ games
unfolding generated
generated_count table coin seed games = events_count table coin (coin * games) seed games

-- ---- read again

no_lines : (lines : List WordLine) → text_of lines ≡ [] → lines ≡ []
no_lines [] e = refl
no_lines (line ∷ lines) e = absurd cc

read_as : (table : PayTable) (log : LogValue) → IsTable table → IsLog table.deck log → IsReadAs table.deck log (written (log_text log))
read_as table log is grammar =
    let again = written_again table.deck log [] is.known_deck grammar in
    let read : log_at table.deck (feed_of (written (log_text log) ++ [])) ≡ Ok (log, again.left) = (Exact-log table.deck is.known_deck).again _ again.left log grammar again.front in
    record { left = again.left; read = subst (λ (bytes : List ℕ). log_at table.deck (feed_of bytes) ≡ Ok (log, again.left)) (append-nil (written (log_text log))) read; end = no_lines again.left.lines again.rest }

-- ---- accepted

pub accepted : (table : PayTable) (coin seed games : ℕ) → IsBet table coin → games ≤ 100000 → IsAccepted table coin games (generated table coin seed games)
accepted table coin seed games is few =
    let log = generated table coin seed games in
    let count = generated_count table coin seed games in
    let grammar = generated_log table coin seed games is few in
    record {
      count = count;
      bets = generated_bet table coin seed games;
      grammar = grammar;
      read = read_as table log is.rules grammar;
      fits = omega (arith, log_width table.deck log grammar (omega (arith, count)));
      lawful = generated_lawful table coin seed games is;
    }
