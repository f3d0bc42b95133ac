-- How many bytes a written log has.
use Rattle.std.proofs.Common.{◌≡◌, ℕ, ◌+◌, ◌*◌, ◌≤◌, List, [], ◌∷◌, ◌++◌, map, length, ap, ◌∙◌, arith, length-append}
use Rattle.std.specs.Prelude.{codes}
use Rattle.std.specs.Fmt.{decimal}
use Rattle.std.specs.List.{AllByRecursion}
use Rattle.std.proofs.lemmas.List.Concat.{flat_map-cons}
use Rattle.std.proofs.lemmas.Grind.{flat_map-append}
use Rattle.vp_card.specs.Texts.{card_text}
use Rattle.vp_card.proofs.Texts.{card_text_length}
use Rattle.vp_text.specs.Lines.{Word}
use Rattle.vp_text.specs.Written.{line_of, written}
use Rattle.vp_text.proofs.Room.{digits_of_64, room, room-append, room-cons, room_line, room_map, two_words}
use Rattle.vp_loggram.specs.Logs.{IsEvent, IsLog, LogValue}
use Rattle.vp_loggram.specs.Spelling.{event_words, key_cards, key_number, log_text}
use Rattle.vp_loggram.specs.declared.event.Event.{Event}

-- a key word and its cards
cards_width : (key : Word) (cards : List ℕ) → room (key_cards key cards) ≡ length key + 1 + 3 * length cards
cards_width key cards = omega (arith, room-cons key (map card_text cards), room_map card_text 2 card_text_length cards)

event_width : (n : ℕ) (e : Event) → IsEvent n e → length (line_of (event_words e)) ≤ 150
unfolding event_words
event_width n e is =
    let pay = key_number (codes "pay") e.pay in
    let end = pay ++ key_number (codes "credits") e.credits in
    let draw = key_cards (codes "draw") e.draw.items in
    let hold = key_cards (codes "hold") e.hold.items in
    let deal = key_cards (codes "deal") e.deal in
    let numbers : room end ≤ 54 = omega (
      arith,
      room-append pay (key_number (codes "credits") e.credits),
      two_words (codes "pay") (decimal e.pay),
      two_words (codes "credits") (decimal e.credits),
      digits_of_64 e.pay is.pay,
      digits_of_64 e.credits is.credits,
    ) in
    let back : room (deal ++ (hold ++ (draw ++ end))) ≤ 120 = omega (
      arith,
      room-append deal (hold ++ (draw ++ end)),
      room-append hold (draw ++ end),
      room-append draw end,
      cards_width (codes "deal") e.deal,
      cards_width (codes "hold") e.hold.items,
      cards_width (codes "draw") e.draw.items,
      is.deal,
      is.hold,
      is.draw,
      numbers,
    ) in
    omega (
      arith,
      room_line (codes "game" ∷ decimal e.bet ∷ (deal ++ (hold ++ (draw ++ end)))),
      room-cons (codes "game") (decimal e.bet ∷ (deal ++ (hold ++ (draw ++ end)))),
      room-cons (decimal e.bet) (deal ++ (hold ++ (draw ++ end))),
      back,
      digits_of_64 e.bet is.bet,
    )

events_width : (n : ℕ) (events : List Event) → AllByRecursion (IsEvent n) events → length (written (map event_words events)) ≤ 150 * length events
events_width n [] all = omega arith
events_width n (e ∷ events) all =
    let split : written (map event_words (e ∷ events)) ≡ line_of (event_words e) ++ written (map event_words events) = flat_map-cons line_of (event_words e) (map event_words events) in
    rw split (omega (arith, length-append (line_of (event_words e)) (written (map event_words events)), event_width n e all.0, events_width n events all.1))

log_split : (log : LogValue) → written (log_text log) ≡ line_of (key_number (codes "log") log.start) ++ (written (map event_words log.events) ++ codes "end\n")
unfolding log_text
log_split log =
    let lines = map event_words log.events in
    let first : written (log_text log) ≡ line_of (key_number (codes "log") log.start) ++ written (lines ++ (codes "end" ∷ []) ∷ []) = flat_map-cons line_of (key_number (codes "log") log.start) (lines ++ (codes "end" ∷ []) ∷ []) in
    first ∙ ap (λ (l : List ℕ). line_of (key_number (codes "log") log.start) ++ l) (flat_map-append line_of lines ((codes "end" ∷ []) ∷ []))

-- a log of few games leaves room in an input
pub log_width : (n : ℕ) (log : LogValue) → IsLog n log → length log.events ≤ 100000 → length (written (log_text log)) ≤ 20000000
log_width n log is few =
    let first = line_of (key_number (codes "log") log.start) in
    let lines = written (map event_words log.events) in
    let start : length first ≤ 30 = omega (arith, room_line (codes "log" ∷ decimal log.start ∷ []), two_words (codes "log") (decimal log.start), digits_of_64 log.start (omega (arith, is.start))) in
    omega (arith, ap {B = ℕ} length (log_split log), length-append first (lines ++ codes "end\n"), length-append lines (codes "end\n"), start, events_width n log.events is.events)
