-- How long the texts of logs are.
use Rattle.std.proofs.Common.{◌≤◌, ◌+◌, ◌*◌, ℕ, List, [], ◌∷◌, ◌++◌, map, length, arith, length-append}
use Rattle.std.specs.Prelude.{codes}
use Rattle.std.specs.Fmt.{decimal}
use Rattle.std.specs.List.{AllByRecursion}
use Rattle.vp_card.specs.Texts.{card_text}
use Rattle.vp_card.proofs.Texts.{card_text_length}
use Rattle.vp_text.specs.Lines.{Word}
use Rattle.vp_text.specs.Written.{line_of, written}
use Rattle.vp_text.proofs.Room.{digits_of_64, room, room-append, room-cons, room_line, room_map, two_words}
use Rattle.vp_loggram.specs.Logs.{IsEvent, IsLog, LogValue}
use Rattle.vp_loggram.specs.Spelling.{event_words, key_number}
use Rattle.vp_loggram.specs.declared.event.Event.{Event}

abbrev behind_draw : Event → List Word
behind_draw e = codes "pay" ∷ decimal e.pay ∷ codes "credits" ∷ decimal e.credits ∷ []

abbrev behind_hold : Event → List Word
behind_hold e = codes "draw" ∷ map card_text e.draw.items ++ behind_draw e

abbrev behind_deal : Event → List Word
behind_deal e = codes "hold" ∷ map card_text e.hold.items ++ behind_hold e

draw_most : (n : ℕ) (e : Event) → IsEvent n e → room (behind_draw e) ≤ 54
draw_most n e is =
    omega (
      arith,
      room-cons (codes "pay") (decimal e.pay ∷ codes "credits" ∷ decimal e.credits ∷ []),
      room-cons (decimal e.pay) (codes "credits" ∷ decimal e.credits ∷ []),
      two_words (codes "credits") (decimal e.credits),
      digits_of_64 e.pay is.pay,
      digits_of_64 e.credits is.credits,
    )

-- a key word, and at most five cards, behind which these words stand
cards_most : (key : Word) (cards : List ℕ) (behind : List Word) → length cards ≤ 5 → room (key ∷ map card_text cards ++ behind) ≤ length key + 16 + room behind
cards_most key cards behind few = omega (arith, room-cons key (map card_text cards ++ behind), room-append (map card_text cards) behind, room_map card_text 2 card_text_length cards, few)

hold_most : (n : ℕ) (e : Event) → IsEvent n e → room (behind_hold e) ≤ 74
hold_most n e is = omega (arith, draw_most n e is, cards_most (codes "draw") e.draw.items (behind_draw e) is.draw)

deal_most : (n : ℕ) (e : Event) → IsEvent n e → room (behind_deal e) ≤ 94
deal_most n e is = omega (arith, hold_most n e is, cards_most (codes "hold") e.hold.items (behind_hold e) is.hold)

event_most : (n : ℕ) (e : Event) → IsEvent n e → room (event_words e) ≤ 140
unfolding event_words
event_most n e is =
    let cards = codes "deal" ∷ map card_text e.deal ++ behind_deal e in
    let few : length e.deal ≤ 5 = let f = is.deal in omega arith in
    omega (arith, deal_most n e is, cards_most (codes "deal") e.deal (behind_deal e) few, room-cons (codes "game") (decimal e.bet ∷ cards), room-cons (decimal e.bet) cards, digits_of_64 e.bet is.bet)

lines_most : (n : ℕ) (events : List Event) → AllByRecursion (IsEvent n) events → length (written (map event_words events)) ≤ 141 * length events
lines_most n [] all = omega arith
lines_most n (e ∷ events) all =
    let line = room_line (event_words e) in
    let own = event_most n e all.0 in
    let more = lines_most n events all.1 in
    let both = length-append (line_of (event_words e)) (written (map event_words events)) in
    omega arith

start_most : (start : ℕ) → start ≤ 1000000000000 → length (line_of (key_number (codes "log") start)) ≤ 26
start_most start most = omega (arith, room_line (key_number (codes "log") start), two_words (codes "log") (decimal start), digits_of_64 start (omega (arith, most)))

-- a log of at most 400000 games can be read as lines, and leaves room for a pay table
pub log_most : (n : ℕ) (log : LogValue) → IsLog n log → length log.events ≤ 400000 → length ((line_of (key_number (codes "log") log.start) ++ written (map event_words log.events)) ++ line_of (codes "end" ∷ [])) ≤ 60000000
log_most n log is few =
    let start = line_of (key_number (codes "log") log.start) in
    let games = written (map event_words log.events) in
    let s = start_most log.start is.start in
    let g = lines_most n log.events is.events in
    let a = length-append start games in
    let b = length-append (start ++ games) (line_of (codes "end" ∷ [])) in
    omega arith
