-- Deal lines are read exactly.
use Rattle.std.proofs.Common.{◌≡◌, ℕ, ◌≤◌, ◌<◌, true, nat_lt, List, [], ◌∷◌, ◌++◌, map, refl, ap, sym, ◌∙◌, arith, Some, None, inl, inr, ◌⊎◌, subst}
use Rattle.std.specs.Prelude.{Option, option_map, Result, Ok, Err, IfOk, IfErr, IfSome, codes}
use Rattle.std.specs.List.{AllByRecursion}
use Rattle.std.proofs.lemmas.Bool.{lt-ltb}
use Rattle.std.proofs.lemmas.Bool.Decides.{nat_tests}
use Rattle.vp_card.specs.Cards.{IsDeck, in_deck, all_differ, in_order}
use Rattle.vp_card.specs.Texts.{card_text}
use Rattle.vp_card.specs.Reading.{card_of}
use Rattle.vp_card.proofs.InDeck.{in_deck-put, in_deck-in_order}
use Rattle.vp_card.proofs.Texts.{card_of-text, text-card_of}
use Rattle.vp_text.specs.Lines.{Past, Word, WordLine, Feed}
use Rattle.vp_text.specs.Reading.{behind, line_at, line_or, mapped, Gives, ◌>>=◌}
use Rattle.vp_text.specs.Sections.{Starts, Refuses}
use Rattle.vp_text.specs.ExactReaders.{Exact, ExactText}
use Rattle.vp_text.specs.declared.refused.Refused.{Refused}
use Rattle.vp_text.proofs.Sections.{Exact-line}
use Rattle.vp_text.proofs.Answered.{only_read}
use Rattle.vp_text.proofs.Spelled.{ok_is, bind_ok, bind_err}
use Rattle.vp_pay.specs.Deal.{AreDealtCards, AreFiveCards, IsCard, IsDealt, TakesExactly}
use Rattle.vp_text.specs.Pieces.{AreMany, ExactPiece, Piece, Takes, one_word, so_many}
use Rattle.vp_pay.specs.Spelling.{deal_text}
use Rattle.vp_pay.specs.Reading.{deal_of, hand_of, is_dealt_from}
use Rattle.vp_pay.specs.Sections.{deal_at, hand_at}
use Rattle.vp_text.proofs.Pieces.{both_true, same_pair, Exact-one_word, Exact-so_many}
use Rattle.vp_text.proofs.Sequences.{Exact-after, Exact-all_of, Exact-passing, Exact-also}

-- the text of a card is read as this card, and nothing else is read
pub Exact-card : ExactText card_text IsCard card_of
Exact-card = record { takes = λ text card read. text-card_of text card read; again = λ card is. card_of-text card is }

cards_below : (n : ℕ) (cards : List ℕ) → n ≤ 54 → in_deck n cards ≡ true → AllByRecursion IsCard cards
cards_below n [] most is = tt
cards_below n (card ∷ cards) most is =
    let parts = both_true (nat_lt card n) (in_deck n cards) is
    in let here : card < n = grind (arith, nat_tests)
    in (omega arith, cards_below n cards most parts.1)

below_cards : (cards : List ℕ) → AllByRecursion IsCard cards → in_deck 54 cards ≡ true
below_cards [] all = refl
below_cards (card ∷ cards) all = in_deck-put 54 card cards all.0 (below_cards cards all.1)

-- ---- the next words

-- the words of each valid value are taken, and nothing else
taken_exactly : {A : Type 0} {spell : A → List Word} {Valid : A → Type 0} {read : Piece A} → ExactPiece spell Valid (λ rest. true) read
    → (before left : List Word) (result : Option A) → Takes (λ a. a) result left (read before) → TakesExactly spell Valid before result left
taken_exactly {A = A} {spell = spell} {Valid = Valid} {read = read} exact before left result takes = record { found = found result takes; only = λ value rest valid is. only value rest valid is result takes }
  where
    found : (r : Option A) → Takes (λ a. a) r left (read before) → IfSome r (λ value. Valid value × (before ≡ spell value ++ left))
    found None is = tt
    found (Some value) is = exact.takes before left value is

    only : (value : A) (rest : List Word) → Valid value → before ≡ spell value ++ rest → (r : Option A) → Takes (λ a. a) r left (read before) → (r ≡ Some value) × (left ≡ rest)
    only value rest valid is None none =
        let read_so : read before ≡ Some (value, rest) = ap read is ∙ exact.again rest value valid refl in
        absurd cc
    only value rest valid is (Some other) some =
        let read_so : read before ≡ Some (value, rest) = ap read is ∙ exact.again rest value valid refl in
        let pair = same_pair other left value rest (sym some ∙ read_so) in
        (ap (λ (a : A). Some a) pair.0, pair.1)

pub card_exactly : (before left : List Word) (result : Option ℕ) → Takes (λ c. c) result left (one_word card_of before) → TakesExactly (λ card. card_text card ∷ []) IsCard before result left
card_exactly before left result takes = taken_exactly (Exact-one_word Exact-card) before left result takes

pub five_exactly : (before left : List Word) (result : Option (List ℕ)) → Takes (λ cs. cs) result left (so_many card_of 5 before) → TakesExactly (map card_text) AreFiveCards before result left
five_exactly before left result takes =
    let many = taken_exactly (Exact-so_many Exact-card 5) before left result takes in
    record {
      found = weaker result many.found;
      only = λ cards rest are is. many.only cards rest (record { count = are.five; all = cards_below 54 cards (omega arith) are.below }) is;
    }
  where
    weaker : (r : Option (List ℕ)) → IfSome r (λ cards. AreMany IsCard 5 cards × (before ≡ map card_text cards ++ left)) → IfSome r (λ cards. AreFiveCards cards × (before ≡ map card_text cards ++ left))
    weaker None found = tt
    weaker (Some cards) found = (record { five = found.0.count; below = below_cards cards found.0.all }, found.1)

-- ---- a deal

abbrev deal_words : List ℕ → List Word
deal_words cards = codes "deal" ∷ map card_text cards

Exact-deal_words : (n : ℕ) → IsDeck n → ExactText deal_words (AreDealtCards n) (deal_of n)
unfolding deal_of
Exact-deal_words n deck =
    Exact-also (Exact-passing (Exact-all_of (Exact-after (codes "deal") (Exact-so_many Exact-card 5)) refl) (is_dealt_from n))
    deal_words (λ cards. refl)
    (λ cards is. let parts = both_true (in_deck n cards) (all_differ cards) is.1 in record { five = is.0.count; below = parts.0; differ = parts.1 })
    (λ cards is. (record { count = is.five; all = cards_below n cards deck.1 is.below }, rw (is.below) is.differ))

first_cards : (n : ℕ) → 5 ≤ n → AreDealtCards n (0 ∷ 1 ∷ 2 ∷ 3 ∷ 4 ∷ [])
first_cards n least = record {
  five = refl;
  below = rw (lt-ltb 0 n (omega arith), lt-ltb 1 n (omega arith), lt-ltb 2 n (omega arith), lt-ltb 3 n (omega arith), lt-ltb 4 n (omega arith));
  differ = refl;
}

pub Exact-deal : (n : ℕ) → IsDeck n → Exact deal_text (AreDealtCards n) (deal_at n)
unfolding deal_text deal_at
Exact-deal n deck =
    Exact-line deal_words (AreDealtCards n) (deal_of n) (Exact-deal_words n deck) (0 ∷ 1 ∷ 2 ∷ 3 ∷ 4 ∷ []) (first_cards n (omega (arith, deck.0)))

-- ---- the hand of a deal

line_mapped : (o : Option (List ℕ)) (line : ℕ) (left : Feed) → line_or (option_map in_order o) line left ≡ (line_or o line left >>= (λ a. Ok (in_order a.0, a.1)))
line_mapped None line left = refl
line_mapped (Some cards) line left = refl

lines_mapped : (n : ℕ) (lines : List WordLine) (past : Past) → line_at (hand_of n) lines past ≡ (line_at (deal_of n) lines past >>= (λ a. Ok (in_order a.0, a.1)))
unfolding hand_of
lines_mapped n [] past = refl
lines_mapped n (line ∷ more) past = line_mapped (deal_of n line.words) line.line (behind line more past)

-- the hand of a deal line is the hand of the cards of a deal line
pub hand_at-is : (n : ℕ) (feed : Feed) → hand_at n feed ≡ mapped in_order (deal_at n) feed
unfolding hand_at deal_at
hand_at-is n feed = lines_mapped n feed.lines feed.past

-- ---- what a reader of deals answers

-- the hand of a deal is of the deck
pub dealt_of_deck : (n : ℕ) (result : Result (List ℕ) Refused) (before left : Feed) → IfOk result (λ hand. IsDealt n before hand left) → IfOk result (λ hand. in_deck n hand ≡ true)
dealt_of_deck n (Ok hand) before left dealt = ap (in_deck n) dealt.hand ∙ in_deck-in_order n dealt.cards dealt.deal.below
dealt_of_deck n (Err e) before left dealt = tt

pub found_deal : (n : ℕ) (result : Result (List ℕ) Refused) (before left : Feed) → IsDeck n → Gives (λ (h : List ℕ). h) result left (hand_at n before)
    → IfOk result (λ hand. IsDealt n before hand left)
found_deal n (Ok hand) before left deck gives =
    let read = bind_ok (deal_at n before) _ _ (sym (hand_at-is n before) ∙ gives)
    in let p : List ℕ × Feed = (in_order read.0.0, read.0.1)
    in let q : List ℕ × Feed = (hand, left)
    in let same : p ≡ q = ok_is p q read.2
    in let deal = (Exact-deal n deck).takes before read.0.1 read.0.0 read.1
    in subst (λ (r : List ℕ × Feed). IsDealt n before r.0 r.1) same (record { cards = read.0.0; deal = deal.0; front = deal.1; hand = refl })
found_deal n (Err e) before left deck gives = tt

abbrev in_hand : List ℕ × Feed → Result (List ℕ × Feed) ℕ
in_hand x = Ok (in_order x.0, x.1)

pub refused_deal : (n : ℕ) (result : Result (List ℕ) Refused) (before left : Feed) → IsDeck n → Gives (λ (h : List ℕ). h) result left (hand_at n before)
    → IfErr result (λ e. Refuses deal_text (AreDealtCards n) before e.line)
refused_deal n (Ok hand) before left deck gives = tt
refused_deal n (Err e) before left deck gives = stopped (bind_err (deal_at n before) _ _ (sym (hand_at-is n before) ∙ gives))
  where
    stopped : ((deal_at n before ≡ Err e.line) ⊎ ((x : List ℕ × Feed) × (deal_at n before ≡ Ok x) × (in_hand x ≡ Err e.line))) → Refuses deal_text (AreDealtCards n) before e.line
    stopped (inl is) = (Exact-deal n deck).stops before e.line is
    stopped (inr (x, is, never)) = absurd cc

pub only_deal : (n : ℕ) (result : Result (List ℕ) Refused) (before left : Feed) → IsDeck n → Gives (λ (h : List ℕ). h) result left (hand_at n before)
    → (cards : List ℕ) (rest : Feed) → AreDealtCards n cards → Starts deal_text before cards rest → (result ≡ Ok (in_order cards)) × (left ≡ rest)
only_deal n result before left deck gives cards rest is starts =
    let read : deal_at n before ≡ Ok (cards, rest) = (Exact-deal n deck).again before rest cards is starts
    in only_read result left (hand_at n before) gives (in_order cards) rest (hand_at-is n before ∙ (rw read))
