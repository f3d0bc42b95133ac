-- The cards of a field are read from their texts, with one space between, and from nothing else.
use Rattle.std.proofs.Common.{◌≡◌, ◌≢◌, ℕ, ◌+◌, ◌<◌, ◌≤◌, List, [], ◌∷◌, ◌++◌, map, length, get_or, drop, refl, sym, ap, ◌∙◌, arith, Some, None, append_assoc, length-append}
use Rattle.std.proofs.lemmas.Bool.{lt-ltb, ltb-true}
use Rattle.std.specs.Prelude.{Option, ◌==◌, ◌&&◌, nat_lt}
use Rattle.std.specs.List.{AllByRecursion}
use Rattle.std.proofs.lemmas.Bool.Decides.{nat_tests}
use Rattle.std.proofs.lemmas.List.{append-nil}
use Rattle.vp_card.specs.Texts.{card_text}
use Rattle.vp_card.specs.Reading.{card_of}
use Rattle.vp_text.specs.Written.{spaced}
use Rattle.vp_text.proofs.Pieces.{bound, chosen, no_value, same_value, both_true}
use Rattle.vp_text.proofs.Spelled.{tail_is}
use Rattle.vp_pay.proofs.Deals.{Exact-card}
use Rattle.vp_card.proofs.Texts.{card_text_length}
use Rattle.vp_csv.specs.Fields.{more_cards, cards_of}

-- a space before each card
pub spaced_behind : List ℕ → List ℕ
spaced_behind [] = []
spaced_behind (card ∷ cards) = 32 ∷ card_text card ++ spaced_behind cards

pub record Read (cards text values : List ℕ) : Type 0 where
  pub more : List ℕ
  pub is : values ≡ cards ++ more
  pub text_is : text ≡ spaced_behind more
  pub all : AllByRecursion (λ card. card < 54) more

taken : (cards text values : List ℕ) → more_cards cards text ≡ Some values → Read cards text values
unfolding more_cards spaced_behind
taken cards [] values e = record { more = []; is = sym (same_value cards values e) ∙ sym (append-nil cards); text_is = refl; all = tt }
taken cards (a ∷ []) values e = absurd (no_value _ e)
taken cards (a ∷ b ∷ []) values e = absurd (no_value _ e)
taken cards (s ∷ a ∷ b ∷ rest) values e =
    chosen (λ values. Read cards (s ∷ a ∷ b ∷ rest) values) (s == 32 && nat_lt (length cards) 5) _ None values e
    (λ both h.
    let is = (both_true (s == 32) (nat_lt (length cards) 5) both).0 in
    let c = bound (card_of (a ∷ b ∷ [])) _ _ h in
    let x = Exact-card.takes (a ∷ b ∷ []) c.value c.first in
    let r = taken (cards ++ c.value ∷ []) rest values c.then in
    let space : s ≡ 32 = grind (arith, nat_tests) in
    record { more = c.value ∷ r.more; is = r.is ∙ append_assoc cards (c.value ∷ []) r.more; text_is = rw (space, x.1, ← r.text_is) refl; all = (x.0, r.all) })
    (λ none. absurd (no_value _ none))

two : (text : List ℕ) → length text ≡ 2 → (a : ℕ) × (b : ℕ) × (text ≡ a ∷ b ∷ [])
two [] e = absurd (omega arith)
two (a ∷ []) e = absurd (omega arith)
two (a ∷ b ∷ []) e = (a, b, refl)
two (a ∷ b ∷ c ∷ more) e = absurd (omega arith)

again : (cards more : List ℕ) → AllByRecursion (λ card. card < 54) more → length cards + length more ≤ 5 → more_cards cards (spaced_behind more) ≡ Some (cards ++ more)
unfolding more_cards spaced_behind
again cards [] all few = ap (λ (l : List ℕ). Some l) (sym (append-nil cards))
again cards (card ∷ more) all few =
    let (a, b, is) = two (card_text card) (card_text_length card) in
    let read : card_of (a ∷ b ∷ []) ≡ Some card = rw is at (Exact-card.again card all.0) in
    let room = lt-ltb (length cards) 5 (omega arith) in
    rw (is, room, read, again (cards ++ card ∷ []) more all.1 (omega (arith, length-append cards (card ∷ []))), append_assoc cards (card ∷ []) more) refl

spaced_is : (card : ℕ) (more : List ℕ) → spaced (map card_text (card ∷ more)) ≡ card_text card ++ spaced_behind more
unfolding spaced_behind
spaced_is card [] = sym (append-nil (card_text card))
spaced_is card (next ∷ more) = ap (λ (l : List ℕ). card_text card ++ 32 ∷ l) (spaced_is next more)

spaced_all : (a : ℕ) (text more : List ℕ) → 32 ∷ a ∷ text ≡ spaced_behind more → spaced (map card_text more) ≡ a ∷ text
unfolding spaced_behind
spaced_all a text [] e = absurd cc
spaced_all a text (card ∷ more) e = spaced_is card more ∙ sym (tail_is 32 32 (a ∷ text) (card_text card ++ spaced_behind more) e)

pub field_taken : (text values : List ℕ) → cards_of text ≡ Some values → AllByRecursion (λ card. card < 54) values × (spaced (map card_text values) ≡ text)
unfolding cards_of
field_taken [] values e = let none : values ≡ [] = sym (same_value [] values e) in rw none (tt, refl)
field_taken (a ∷ text) values e =
    let r = taken [] (32 ∷ a ∷ text) values e in
    let is : values ≡ r.more = r.is in
    rw is (r.all, spaced_all a text r.more r.text_is)

pub field_again : (values : List ℕ) → AllByRecursion (λ card. card < 54) values → length values ≤ 5 → cards_of (spaced (map card_text values)) ≡ Some values
unfolding cards_of spaced_behind
field_again [] all few = refl
field_again (card ∷ more) all few = by_text (card_text card) refl (card_text_length card)
  where
    by_text : (text : List ℕ) → card_text card ≡ text → length text ≡ 2 → cards_of (spaced (map card_text (card ∷ more))) ≡ Some (card ∷ more)
    by_text [] is l = absurd (omega arith)
    by_text (a ∷ []) is l = absurd (omega arith)
    by_text (a ∷ b ∷ c ∷ rest) is l = absurd (omega arith)
    by_text (a ∷ b ∷ []) is l =
        let text : spaced (map card_text (card ∷ more)) ≡ a ∷ b ∷ spaced_behind more = spaced_is card more ∙ rw is refl in
        let read : more_cards [] (32 ∷ a ∷ b ∷ spaced_behind more) ≡ Some (card ∷ more) = rw is at (again [] (card ∷ more) all (omega (arith, few))) in
        rw text read

pub step : (cards rest : List ℕ) (card : ℕ) (x : Option (List ℕ)) → 3 ≤ length rest → get_or rest 0 0 ≡ 32 → length cards < 5 → card_of (get_or rest 1 0 ∷ get_or rest 2 0 ∷ []) ≡ Some card
    → more_cards cards rest ≡ x → more_cards (cards ++ card ∷ []) (drop 3 rest) ≡ x
unfolding more_cards
step cards [] card x long space room read is = absurd (omega arith)
step cards (a ∷ []) card x long space room read is = absurd (omega arith)
step cards (a ∷ b ∷ []) card x long space room read is = absurd (omega arith)
step cards (s ∷ a ∷ b ∷ rest) card x long space room read is = rw (space, lt-ltb (length cards) 5 room, read) at is

pub first_card : (text : List ℕ) (card : ℕ) → 2 ≤ length text → card_of (get_or text 0 0 ∷ get_or text 1 0 ∷ []) ≡ Some card → cards_of text ≡ more_cards (card ∷ []) (drop 2 text)
unfolding cards_of more_cards
first_card [] card long read = absurd (omega arith)
first_card (a ∷ []) card long read = absurd (omega arith)
first_card (a ∷ b ∷ rest) card long read = rw read refl

pub no_first : (text : List ℕ) → 2 ≤ length text → card_of (get_or text 0 0 ∷ get_or text 1 0 ∷ []) ≡ None → cards_of text ≡ None
unfolding cards_of more_cards
no_first [] long read = absurd (omega arith)
no_first (a ∷ []) long read = absurd (omega arith)
no_first (a ∷ b ∷ rest) long read = rw read refl

pub one_byte : (text : List ℕ) → length text ≢ 0 → length text < 2 → cards_of text ≡ None
unfolding cards_of more_cards
one_byte [] some few = absurd (some refl)
one_byte (a ∷ []) some few = refl
one_byte (a ∷ b ∷ rest) some few = absurd (omega arith)

-- at most five cards are read
few_more : (cards text values : List ℕ) → length cards ≤ 5 → more_cards cards text ≡ Some values → length values ≤ 5
unfolding more_cards
few_more cards [] values few e = let same : cards ≡ values = same_value cards values e in rw (← same) few
few_more cards (a ∷ []) values few e = absurd (no_value _ e)
few_more cards (a ∷ b ∷ []) values few e = absurd (no_value _ e)
few_more cards (s ∷ a ∷ b ∷ rest) values few e =
    chosen (λ values. length values ≤ 5) (s == 32 && nat_lt (length cards) 5) _ None values e
    (λ both h.
    let room = ltb-true (length cards) 5 (both_true (s == 32) (nat_lt (length cards) 5) both).1 in
    let c = bound (card_of (a ∷ b ∷ [])) _ _ h in
    few_more (cards ++ c.value ∷ []) rest values (omega (arith, length-append cards (c.value ∷ []))) c.then)
    (λ none. absurd (no_value _ none))

pub field_few : (text values : List ℕ) → cards_of text ≡ Some values → length values ≤ 5
unfolding cards_of
field_few [] values e = let same : [] ≡ values = same_value [] values e in rw (← same) (omega arith)
field_few (a ∷ text) values e = few_more [] (32 ∷ a ∷ text) values (omega arith) e
