-- Logs have different spellings, and a log that was written is read again.
use Rattle.std.proofs.Common.{ℕ, List, [], ◌∷◌, ◌++◌, map, arith, refl}
use Rattle.std.specs.Prelude.{codes}
use Rattle.std.specs.Fmt.{decimal}
use Rattle.std.specs.List.{AllByRecursion}
use Rattle.vp_card.specs.Cards.{IsDeck}
use Rattle.vp_card.specs.Texts.{card_text}
use Rattle.vp_text.specs.Lines.{Word}
use Rattle.vp_text.specs.Written.{IsPlainWord, IsPlainLine, IsPlainText}
use Rattle.vp_text.proofs.PlainWords.{plain_key, plain_number, plain_texts}
use Rattle.vp_text.proofs.Sections.{spelling_unique}
use Rattle.vp_pay.specs.Written.{IsReadAgain, SpellingsDiffer}
use Rattle.vp_pay.proofs.Again.{read_again}
use Rattle.vp_pay.proofs.Plain.{plain_card}
use Rattle.vp_loggram.specs.Logs.{IsEvent, IsLog, LogValue}
use Rattle.vp_loggram.specs.Sections.{log_at}
use Rattle.vp_loggram.specs.Spelling.{event_words, log_text}
use Rattle.vp_loggram.specs.declared.event.Event.{Event}
use Rattle.vp_loggram.proofs.Event_lines.{words_behind}
use Rattle.vp_loggram.proofs.Logs_grammar.{Exact-log}

-- ---- the words of a log are plain

plain_cards : (cards : List ℕ) (back : List Word) → AllByRecursion IsPlainWord back → AllByRecursion IsPlainWord (map card_text cards ++ back)
plain_cards [] back plain = plain
plain_cards (card ∷ cards) back plain = (plain_card card, plain_cards cards back plain)

plain_game : IsPlainWord (codes "game")
plain_game = plain_key (codes "game") (omega arith) refl

plain_deal : IsPlainWord (codes "deal")
plain_deal = plain_key (codes "deal") (omega arith) refl

plain_hold : IsPlainWord (codes "hold")
plain_hold = plain_key (codes "hold") (omega arith) refl

plain_draw : IsPlainWord (codes "draw")
plain_draw = plain_key (codes "draw") (omega arith) refl

plain_line : (word : Word) (words : List Word) → IsPlainWord word → AllByRecursion IsPlainWord words → IsPlainLine (word ∷ words)
plain_line word words first more = (omega arith, (first, more))

-- the words behind the cards of a game
behind_cards : (n : ℕ) (e : Event) → IsEvent n e → AllByRecursion IsPlainWord (codes "pay" ∷ decimal e.pay ∷ codes "credits" ∷ decimal e.credits ∷ [])
behind_cards n e is = (plain_key (codes "pay") (omega arith) refl, (plain_number e.pay is.pay, (plain_key (codes "credits") (omega arith) refl, (plain_number e.credits is.credits, tt))))

pub plain_event : (n : ℕ) (e : Event) → IsEvent n e → IsPlainLine (event_words e)
unfolding event_words
plain_event n e is =
    let draw = plain_cards e.draw.items _ (behind_cards n e is) in
    let hold = plain_cards e.hold.items _ (plain_draw, draw) in
    let deal = plain_cards e.deal _ (plain_hold, hold) in
    plain_line (codes "game") (words_behind e) plain_game (plain_number e.bet is.bet, (plain_deal, deal))

plain_events : (n : ℕ) (events : List Event) → AllByRecursion (IsEvent n) events → IsPlainText (map event_words events)
plain_events n [] all = tt
plain_events n (e ∷ events) all = (plain_event n e all.0, plain_events n events all.1)

plain_log : (n : ℕ) (log : LogValue) → IsLog n log → IsPlainText (log_text log)
unfolding log_text
plain_log n log is =
    let start = is.start in (
      (omega arith, (plain_key (codes "log") (omega arith) refl, (plain_number log.start (omega arith), tt))),
      plain_texts (map event_words log.events) ((codes "end" ∷ []) ∷ []) (plain_events n log.events is.events) ((omega arith, (plain_key (codes "end") (omega arith) refl, tt)), tt),
    )

-- ---- the laws

pub spellings_differ : (n : ℕ) → IsDeck n → SpellingsDiffer log_text (IsLog n)
spellings_differ n deck a b x y is_a is_b same = let s = spelling_unique (Exact-log n deck) a b x y is_a is_b same in (s.value, s.rest)

pub written_again : (n : ℕ) (log : LogValue) (more : List ℕ) → IsDeck n → IsLog n log → IsReadAgain log_text log more
written_again n log more deck is = read_again log_text (IsLog n) (log_at n) (Exact-log n deck) log more is (plain_log n log is)
