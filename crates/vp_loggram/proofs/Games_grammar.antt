-- Games: each is read from its words, and from no others.
use Rattle.std.proofs.Common.{◌≡◌, ℕ, ◌≤◌, ◌<◌, ◌^◌, true, ◌&&◌, nat_lt, List, [], ◌∷◌, ◌++◌, map, length, refl, ap, arith, None, append_assoc}
use Rattle.std.specs.Prelude.{codes}
use Rattle.std.specs.Fmt.{decimal}
use Rattle.std.specs.List.{AllByRecursion}
use Rattle.std.proofs.lemmas.Bool.{ltb-true}
use Rattle.vp_card.specs.Cards.{IsDeck, in_deck}
use Rattle.vp_card.specs.Texts.{card_text}
use Rattle.vp_card.specs.Reading.{card_of}
use Rattle.vp_card.proofs.Texts.{card_text_length}
use Rattle.vp_text.specs.Lines.{Word}
use Rattle.vp_text.specs.Pieces.{AreUpTo, ExactPiece, one_word}
use Rattle.vp_text.specs.Sequences.{after}
use Rattle.vp_text.specs.ExactReaders.{ExactText}
use Rattle.vp_text.specs.Numbers.{number_of}
use Rattle.vp_text.proofs.Numbers.{number_exact}
use Rattle.vp_text.proofs.Pieces.{both_true, Exact-so_many, Exact-one_word}
use Rattle.vp_text.proofs.Sequences.{Exact-then, Exact-after, Exact-all_of, Exact-made, Exact-passing, Exact-also}
use Rattle.vp_text.proofs.Spelled.{head_is}
use Rattle.vp_text.proofs.UpTo.{Exact-up_to}
use Rattle.vp_pay.specs.Deal.{IsCard}
use Rattle.vp_pay.proofs.Deals.{Exact-card}
use Rattle.vp_loggram.specs.Logs.{IsEvent, is_of_deck}
use Rattle.vp_loggram.specs.Reading.{EventParts, cards_up_to, event_from, event_of}
use Rattle.vp_loggram.specs.Spelling.{event_words}
use Rattle.vp_loggram.specs.declared.event.Event.{Event}

-- ---- cards up to a word

not_draw : (card : ℕ) → IsCard card → card_text card ≡ codes "draw" → ⊥
not_draw card below is = let n = card_text_length card in let m : length (card_text card) ≡ 4 = ap length is in omega arith

not_pay : (card : ℕ) → IsCard card → card_text card ≡ codes "pay" → ⊥
not_pay card below is = let n = card_text_length card in let m : length (card_text card) ≡ 3 = ap length is in omega arith

abbrev up_to_words : Word → List ℕ → List Word
up_to_words key cards = map card_text cards ++ key ∷ []

Exact-held : ExactPiece (up_to_words (codes "draw")) (AreUpTo IsCard 5) (λ rest. true) (cards_up_to (codes "draw"))
unfolding cards_up_to
Exact-held = Exact-up_to card_text IsCard card_of Exact-card 5 (codes "draw") not_draw

Exact-drawn : ExactPiece (up_to_words (codes "pay")) (AreUpTo IsCard 5) (λ rest. true) (cards_up_to (codes "pay"))
unfolding cards_up_to
Exact-drawn = Exact-up_to card_text IsCard card_of Exact-card 5 (codes "pay") not_pay

-- ---- a game

are_cards : (n : ℕ) (cards : List ℕ) → n ≤ 54 → in_deck n cards ≡ true → AllByRecursion IsCard cards
are_cards n [] most is = tt
are_cards n (card ∷ cards) most is =
    let parts = both_true (nat_lt card n) (in_deck n cards) is in
    let below = ltb-true card n parts.0 in
    (omega arith, are_cards n cards most parts.1)

abbrev parts_of : Event → EventParts
parts_of e = (e.bet, (e.deal, (e.hold.items, (e.draw.items, (e.pay, e.credits)))))

-- two lists of words, each up to a word
up_to_two : (a b c : List Word) (k l : Word) → a ++ (k ∷ b ++ l ∷ c) ≡ (a ++ k ∷ []) ++ ((b ++ l ∷ []) ++ c)
up_to_two a b c k l = rw (append_assoc a (k ∷ []) ((b ++ l ∷ []) ++ c), append_assoc b (l ∷ []) c) refl

Exact-number : (key : Word) → ExactPiece (λ (n : ℕ). key ∷ decimal n ∷ []) (λ n. n < 2 ^ 64) (λ rest. true) (after key (one_word number_of))
Exact-number key = Exact-after key (Exact-one_word number_exact)

pub Exact-event : (n : ℕ) → IsDeck n → ExactText event_words (IsEvent n) (event_of n)
unfolding event_of event_words
Exact-event n deck =
    let cards = Exact-after (codes "deal") (Exact-so_many Exact-card 5) in
    let held = Exact-after (codes "hold") Exact-held in
    let ends = Exact-then Exact-drawn (Exact-then (Exact-one_word number_exact) (Exact-number (codes "credits"))) in
    let parts = Exact-then (Exact-number (codes "game")) (Exact-then cards (Exact-then held ends)) in
    Exact-also (Exact-passing (Exact-made (Exact-all_of parts refl) event_from parts_of (λ p. refl) (λ e. refl)) (is_of_deck n))
    event_words
    (λ e. ap (λ (ws : List Word). codes "game" ∷ decimal e.bet ∷ codes "deal" ∷ map card_text e.deal ++ codes "hold" ∷ ws)
    (up_to_two (map card_text e.hold.items) (map card_text e.draw.items) (decimal e.pay ∷ codes "credits" ∷ decimal e.credits ∷ []) (codes "draw") (codes "pay")))
    (λ e is. record { bet = is.0.0; pay = is.0.1.1.1.1.0; credits = is.0.1.1.1.1.1; deal = is.0.1.0.count; hold = is.0.1.1.0.count; draw = is.0.1.1.1.0.count; cards = is.1 })
    (λ e is.
    let two = both_true (in_deck n e.deal && in_deck n e.hold.items) (in_deck n e.draw.items) is.cards in
    let one = both_true (in_deck n e.deal) (in_deck n e.hold.items) two.0 in (
      (
        is.bet,
        (
          record { count = is.deal; all = are_cards n e.deal deck.1 one.0 },
          (
            record { count = is.hold; all = are_cards n e.hold.items deck.1 one.1 },
            (record { count = is.draw; all = are_cards n e.draw.items deck.1 two.1 }, (is.pay, is.credits)),
          ),
        ),
      ),
      is.cards,
    ))

-- the words of a game are not `end`
pub not_end : (e : Event) → event_words e ≡ codes "end" ∷ [] → ⊥
unfolding event_words
not_end e is = let head = head_is _ _ _ _ is in absurd cc

-- and `end` is read as no game
pub end_no_event : (n : ℕ) → event_of n (codes "end" ∷ []) ≡ None
unfolding event_of
end_no_event n = refl
