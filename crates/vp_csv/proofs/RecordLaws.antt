-- A record says what its fields spell, and nothing else.
use Rattle.std.proofs.Common.{◌≡◌, ◌<◌, ◌≤◌, ℕ, true, ◌&&◌, eqb, List, [], ◌∷◌, length, refl, sym, ap, ◌∙◌, arith, Some, None, eqb-true}
use Rattle.std.specs.Prelude.{◌↔◌, Option, bytes_eq, codes, nat_lt}
use Rattle.std.specs.Fmt.{decimal}
use Rattle.std.specs.List.{AllByRecursion}
use Rattle.std.proofs.lemmas.Bool.{ltb-true}
use Rattle.std.proofs.lemmas.Slice.Eq.{bytes_eq-Decides}
use Rattle.vp_card.specs.Cards.{IsDeck, in_deck}
use Rattle.vp_text.specs.Lines.{Word, is_empty}
use Rattle.vp_text.specs.Numbers.{number_of, number_within}
use Rattle.vp_text.proofs.Numbers.{number_exact, number_within_exact}
use Rattle.vp_text.proofs.Pieces.{both_true, bound, chosen, no_value, same_value, so}
use Rattle.vp_text.proofs.Spelled.{tail_is}
use Rattle.vp_loggram.specs.Logs.{IsEvent, is_of_deck}
use Rattle.vp_loggram.specs.declared.event.Event.{Event}
use Rattle.vp_csv.specs.Fields.{Row, row_of, cards_of, five_of}
use Rattle.vp_csv.specs.Records.{Field, Record}
use Rattle.vp_csv.specs.Rules.{game_in, game_of, is_head, is_head_of, is_header, start_in, start_of, tells_no_game}
use Rattle.vp_csv.specs.Spelling.{cards_field, game_fields, header, opening_fields}
use Rattle.vp_csv.proofs.Field_cards.{field_again, field_few, field_taken}

-- ---- the fields of a record

pub fields_of_row : Row → Record
fields_of_row w = w.session ∷ w.bet ∷ w.deal ∷ w.hold ∷ w.draw ∷ w.pay ∷ w.credits ∷ []

pub row_fields : (r : Record) (w : Row) → row_of r ≡ Some w → r ≡ fields_of_row w
unfolding fields_of_row
row_fields (a ∷ b ∷ c ∷ d ∷ e ∷ f ∷ g ∷ []) w is = ap fields_of_row (same_value (record { session = a; bet = b; deal = c; hold = d; draw = e; pay = f; credits = g }) w is)
row_fields [] w is = absurd (no_value w is)
row_fields (a ∷ []) w is = absurd (no_value w is)
row_fields (a ∷ b ∷ []) w is = absurd (no_value w is)
row_fields (a ∷ b ∷ c ∷ []) w is = absurd (no_value w is)
row_fields (a ∷ b ∷ c ∷ d ∷ []) w is = absurd (no_value w is)
row_fields (a ∷ b ∷ c ∷ d ∷ e ∷ []) w is = absurd (no_value w is)
row_fields (a ∷ b ∷ c ∷ d ∷ e ∷ f ∷ []) w is = absurd (no_value w is)
row_fields (a ∷ b ∷ c ∷ d ∷ e ∷ f ∷ g ∷ h ∷ more) w is = absurd (no_value w is)

-- ---- the header

same : (a b : Word) → bytes_eq a b ≡ true → a ≡ b
same a b = (bytes_eq-Decides a b).0

head_taken : (w : Row) → is_head w ≡ true → fields_of_row w ≡ header
unfolding fields_of_row
head_taken w is =
    let p6 = both_true _ (bytes_eq w.credits (codes "credits")) is in
    let p5 = both_true _ (bytes_eq w.pay (codes "pay")) p6.0 in
    let p4 = both_true _ (bytes_eq w.draw (codes "draw")) p5.0 in
    let p3 = both_true _ (bytes_eq w.hold (codes "hold")) p4.0 in
    let p2 = both_true _ (bytes_eq w.deal (codes "deal")) p3.0 in
    let p1 = both_true (bytes_eq w.session (codes "session")) (bytes_eq w.bet (codes "bet")) p2.0 in
    rw (same w.session (codes "session") p1.0, same w.bet (codes "bet") p1.1, same w.deal (codes "deal") p2.1, same w.hold (codes "hold") p3.1, same w.draw (codes "draw") p4.1, same w.pay (codes "pay") p5.1, same w.credits (codes "credits") p6.1) refl

header_taken : (r : Record) → is_header r ≡ true → r ≡ header
unfolding is_header
header_taken r is = by_row (row_of r) refl is
  where
    by_row : (o : Option Row) → row_of r ≡ o → is_head_of o ≡ true → r ≡ header
    by_row None at none = absurd cc
    by_row (Some w) at head = row_fields r w at ∙ head_taken w head

pub header_is : (r : Record) → is_header r ≡ true ↔ (r ≡ header)
unfolding is_header
header_is r = (header_taken r, λ e. rw e refl)

-- ---- an opening record

empty_is : (field : Field) → is_empty field ≡ true → field ≡ []
empty_is [] e = refl
empty_is (a ∷ field) e = let zero = eqb-true (length (a ∷ field)) 0 e in absurd (omega (arith, zero))

pub record OpensRow (w : Row) (start : ℕ) : Type 0 where
  pub most : start ≤ 1000000000000
  pub bet : w.bet ≡ []
  pub deal : w.deal ≡ []
  pub hold : w.hold ≡ []
  pub draw : w.draw ≡ []
  pub pay : w.pay ≡ []
  pub credits : w.credits ≡ decimal start

pub start_taken : (w : Row) (start : ℕ) → start_in w ≡ Some start → OpensRow w start
unfolding start_in
start_taken w start e = chosen (λ start. OpensRow w start) (tells_no_game w) (number_within 0 1000000000000 w.credits) None start e
    (λ none read.
    let p4 = both_true _ (is_empty w.pay) none in
    let p3 = both_true _ (is_empty w.draw) p4.0 in
    let p2 = both_true _ (is_empty w.hold) p3.0 in
    let p1 = both_true (is_empty w.bet) (is_empty w.deal) p2.0 in
    let n = (number_within_exact 0 1000000000000 (omega arith)).takes w.credits start read in
    record { most = n.0.1; bet = empty_is w.bet p1.0; deal = empty_is w.deal p1.1; hold = empty_is w.hold p2.1; draw = empty_is w.draw p3.1; pay = empty_is w.pay p4.1; credits = sym n.1 })
    (λ none. absurd (no_value start none))

pub start_most : (r : Record) (start : ℕ) → start_of r ≡ Some start → start ≤ 1000000000000
unfolding start_of
start_most r start e = let b = bound (row_of r) start_in start e in (start_taken b.value start b.then).most

opening_taken : (name : Word) (fields : List Field) (start : ℕ) → start_of (name ∷ fields) ≡ Some start → (start ≤ 1000000000000) × (fields ≡ opening_fields start)
unfolding start_of fields_of_row
opening_taken name fields start e =
    let b = bound (row_of (name ∷ fields)) start_in start e in
    let w = b.value in
    let s = start_taken w start b.then in
    let all : fields ≡ w.bet ∷ w.deal ∷ w.hold ∷ w.draw ∷ w.pay ∷ w.credits ∷ [] = tail_is name w.session fields (w.bet ∷ w.deal ∷ w.hold ∷ w.draw ∷ w.pay ∷ w.credits ∷ []) (row_fields (name ∷ fields) w b.first) in
    (s.most, all ∙ rw (s.bet, s.deal, s.hold, s.draw, s.pay, s.credits) refl)

opening_again : (name : Word) (start : ℕ) → start ≤ 1000000000000 → start_of (name ∷ opening_fields start) ≡ Some start
unfolding start_of start_in
opening_again name start most = (number_within_exact 0 1000000000000 (omega arith)).again start (omega arith, most)

pub opening_is : (name : Word) (fields : List Field) (start : ℕ) → start_of (name ∷ fields) ≡ Some start ↔ ((start ≤ 1000000000000) × (fields ≡ opening_fields start))
opening_is name fields start = (opening_taken name fields start, λ is. rw is.1 (opening_again name start is.0))

-- ---- the record of a game

pub record TellsRow (w : Row) (e : Event) : Type 0 where
  pub bet : w.bet ≡ decimal e.bet
  pub deal : w.deal ≡ cards_field e.deal
  pub hold : w.hold ≡ cards_field e.hold.items
  pub draw : w.draw ≡ cards_field e.draw.items
  pub pay : w.pay ≡ decimal e.pay
  pub credits : w.credits ≡ decimal e.credits

five_taken : (cards five : List ℕ) → five_of cards ≡ Some five → (length five ≡ 5) × (cards ≡ five)
five_taken cards five e = chosen (λ five. (length five ≡ 5) × (cards ≡ five)) (eqb (length cards) 5) (Some cards) None five e
    (λ is s. let same = same_value cards five s in rw (← same) (eqb-true (length cards) 5 is, refl))
    (λ none. absurd (no_value five none))

pub game_taken : (n : ℕ) (w : Row) (e : Event) → game_in n w ≡ Some e → IsEvent n e × TellsRow w e
unfolding game_in
game_taken n w e read =
    let bet = bound _ _ _ read in
    let dealt = bound _ _ _ bet.then in
    let deal = bound _ _ _ dealt.then in
    let hold = bound _ _ _ deal.then in
    let draw = bound _ _ _ hold.then in
    let pay = bound _ _ _ draw.then in
    let credits = bound _ _ _ pay.then in
    let t1 = number_exact.takes w.bet bet.value bet.first in
    let five = five_taken dealt.value deal.value deal.first in
    let t2 = field_taken w.deal dealt.value dealt.first in
    let t3 = field_taken w.hold hold.value hold.first in
    let t4 = field_taken w.draw draw.value draw.first in
    let t5 = number_exact.takes w.pay pay.value pay.first in
    let t6 = number_exact.takes w.credits credits.value credits.first in
    let made : Event = record { bet = bet.value; deal = deal.value; hold = record { items = hold.value }; draw = record { items = draw.value }; pay = pay.value; credits = credits.value } in
    chosen (λ e. IsEvent n e × TellsRow w e) (is_of_deck n made) (Some made) None e credits.then
    (λ is s. so (λ e. IsEvent n e × TellsRow w e) made e s (
      record { bet = t1.0; deal = five.0; hold = field_few w.hold hold.value hold.first; draw = field_few w.draw draw.value draw.first; cards = is; pay = t5.0; credits = t6.0 },
      record { bet = sym t1.1; deal = sym t2.1 ∙ ap cards_field five.1; hold = sym t3.1; draw = sym t4.1; pay = sym t5.1; credits = sym t6.1 },
    ))
    (λ s. absurd (no_value e s))

pub game_valid : (n : ℕ) (r : Record) (e : Event) → game_of n r ≡ Some e → IsEvent n e
unfolding game_of
game_valid n r e read = let b = bound (row_of r) (game_in n) e read in (game_taken n b.value e b.then).0

are_cards : (n : ℕ) (cards : List ℕ) → n ≤ 54 → in_deck n cards ≡ true → AllByRecursion (λ card. card < 54) cards
are_cards n [] most is = tt
are_cards n (card ∷ cards) most is =
    let parts = both_true (nat_lt card n) (in_deck n cards) is in
    let below = ltb-true card n parts.0 in
    (omega arith, are_cards n cards most parts.1)

game_again : (n : ℕ) (e : Event) (name : Word) → IsDeck n → IsEvent n e → game_of n (name ∷ game_fields e) ≡ Some e
unfolding game_of game_in
game_again n e name deck is =
    let two = both_true (in_deck n e.deal && in_deck n e.hold.items) (in_deck n e.draw.items) is.cards in
    let one = both_true (in_deck n e.deal) (in_deck n e.hold.items) two.0 in
    let bet : number_of (decimal e.bet) ≡ Some e.bet = number_exact.again e.bet is.bet in
    let pay : number_of (decimal e.pay) ≡ Some e.pay = number_exact.again e.pay is.pay in
    let credits : number_of (decimal e.credits) ≡ Some e.credits = number_exact.again e.credits is.credits in
    let deal : cards_of (cards_field e.deal) ≡ Some e.deal = field_again e.deal (are_cards n e.deal deck.1 one.0) (let five = is.deal in omega arith) in
    let hold : cards_of (cards_field e.hold.items) ≡ Some e.hold.items = field_again e.hold.items (are_cards n e.hold.items deck.1 one.1) is.hold in
    let draw : cards_of (cards_field e.draw.items) ≡ Some e.draw.items = field_again e.draw.items (are_cards n e.draw.items deck.1 two.1) is.draw in
    let five : five_of e.deal ≡ Some e.deal = rw is.deal refl in
    rw (bet, deal, five, hold, draw, pay, credits, is.cards) refl

fields_taken : (n : ℕ) (name : Word) (fields : List Field) (e : Event) → game_of n (name ∷ fields) ≡ Some e → IsEvent n e × (fields ≡ game_fields e)
unfolding game_of fields_of_row
fields_taken n name fields e read =
    let b = bound (row_of (name ∷ fields)) (game_in n) e read in
    let w = b.value in
    let g = game_taken n w e b.then in
    let all : fields ≡ w.bet ∷ w.deal ∷ w.hold ∷ w.draw ∷ w.pay ∷ w.credits ∷ [] = tail_is name w.session fields (w.bet ∷ w.deal ∷ w.hold ∷ w.draw ∷ w.pay ∷ w.credits ∷ []) (row_fields (name ∷ fields) w b.first) in
    (g.0, all ∙ rw (g.1.bet, g.1.deal, g.1.hold, g.1.draw, g.1.pay, g.1.credits) refl)

pub game_is : (n : ℕ) (name : Word) (fields : List Field) (e : Event) → IsDeck n → game_of n (name ∷ fields) ≡ Some e ↔ (IsEvent n e × (fields ≡ game_fields e))
game_is n name fields e deck = (fields_taken n name fields e, λ is. rw is.1 (game_again n e name deck is.0))
