-- What it says of the cards of a game that they break no law.
use Rattle.std.proofs.Common.{◌≡◌, ℕ, ◌+◌, ◌-◌, ◌≤◌, Bool, true, false, not, List, [], ◌∷◌, ◌++◌, length, refl, ap, subst, arith, Some, None, inl, inr, append_assoc, append-nil}
use Rattle.std.specs.Prelude.{Option, ◌||◌, ◌&&◌, ◌==◌, if◌then◌else◌}
use Rattle.std.specs.List.{All}
use Rattle.std.proofs.lemmas.List.Elements.{All-nil, All-cons, All-head, All-tail}
use Rattle.std.proofs.lemmas.Bool.{and_parts, cases_Bool, eq-eqb, eqb-true, not-false}
use Rattle.std.proofs.lemmas.Bool.Decides.{nat_tests}
use Rattle.vp_card.specs.Rising.{times}
use Rattle.vp_card.specs.Cards.{absent, all_differ, in_deck, in_order, held}
use Rattle.vp_card.proofs.InDeck.{in_deck-in_order}
use Rattle.vp_card.proofs.Rising.{rising-joined, times-append, times-same}
use Rattle.vp_sets.specs.Sets.{has}
use Rattle.vp_sets.proofs.Holds.{Dealt}
use Rattle.vp_loggram.specs.Logs.{is_of_deck}
use Rattle.vp_loggram.specs.declared.event.Event.{Event}
use Rattle.vp_answer.specs.Firsts.{first_of}
use Rattle.vp_answer.proofs.Firsts.{first_none, none_first, rest_none}
use Rattle.vp_replay.specs.declared.rule.LogRule.{LogRule}
use Rattle.vp_replay.specs.declared.rule.LogRule.TheVariants.{Deal, Hold, Count, Draw}
use Rattle.vp_replay.specs.Rules.{broken_if, cards_breach, count_breach, deal_breach, draw_breach, first_wrong, hold_breach, misplaced, wrong_deal, wrong_draw, wrong_hold}
use Rattle.vp_replay.specs.Costs.{hold_of}
use Rattle.vp_replay.specs.LawfulGames.{AreLawfulCards}
use Rattle.vp_replay.proofs.Masking.{right_once, none_among, some_among, among_none, holds}

-- ---- where nothing is broken

placed : (rule : LogRule) (o : Option (ℕ × ℕ)) → misplaced rule o ≡ None → o ≡ None
placed rule None e = refl
placed rule (Some p) e = absurd cc

pub unbroken : (b : Bool) (rule : LogRule) (said due : ℕ) → broken_if b rule said due ≡ None → b ≡ false
unbroken true rule said due e = absurd cc
unbroken false rule said due e = refl

pub or_first : (a b : Bool) → (a || b) ≡ false → a ≡ false
or_first true b e = e
or_first false b e = refl

pub or_second : (a b : Bool) → (a || b) ≡ false → b ≡ false
or_second true b e = absurd cc
or_second false b e = e

-- ---- what no wrong card says of each card

-- where no card is wrong, each has what a right one has
each_right : (wrong : List ℕ → ℕ → Bool) (P : ℕ → Type 0) (front cards : List ℕ) → ((front : List ℕ) (card : ℕ) → wrong front card ≡ false → P card) → first_wrong wrong front cards ≡ None → All P cards
unfolding first_wrong
each_right wrong P front [] tells none = All-nil P
each_right wrong P front (card ∷ cards) tells none = elim (cases_Bool (wrong front card)) [
  | inl bad ↦ absurd (let e = rw bad at none in cc)
  | inr fine ↦ All-cons P card cards (tells front card fine) (each_right wrong P (front ++ card ∷ []) cards tells (rw fine at none))
]

-- no card is wrong, where each is right behind earlier ones that it is none of
none_wrong : (wrong : List ℕ → ℕ → Bool) (P : ℕ → Type 0) (front cards : List ℕ) → ((front : List ℕ) (card : ℕ) → P card → has front card ≡ false → wrong front card ≡ false) → All P cards
    → ((c : ℕ) → times c (front ++ cards) ≤ 1) → first_wrong wrong front cards ≡ None
unfolding first_wrong
none_wrong wrong P front [] right all once = refl
none_wrong wrong P front (card ∷ cards) right all once =
    let alone : times card front ≡ 0 = omega (arith, once card, times-append card front (card ∷ cards), times-same card cards) in
    let fine : wrong front card ≡ false = right front card (All-head P card cards all) (among_none card front alone) in
    rw fine (none_wrong wrong P (front ++ card ∷ []) cards right (All-tail P card cards all) (λ c. rw (append_assoc front (card ∷ []) cards) (once c)))

-- a card that stands among cards has what each of them has
one_of : (P : ℕ → Type 0) (cards : List ℕ) → All P cards → (c : ℕ) → 1 ≤ times c cards → P c
one_of P [] all c some = absurd (omega arith)
one_of P (card ∷ cards) all c some = elim (cases_Bool (card == c)) [
  | inl is ↦ let e : card ≡ c = grind (arith, nat_tests) in subst P e (All-head P card cards all)
  | inr other ↦ let more : 1 ≤ times c cards = omega (arith, ap {B = ℕ} (λ (b : Bool). if b then 1 else 0) other) in one_of P cards (All-tail P card cards all) c more
]

-- ---- cards that differ

absent_from : (card : ℕ) (cards : List ℕ) → times card cards ≡ 0 → absent card cards ≡ true
absent_from card [] e = refl
absent_from card (other ∷ cards) e = elim (cases_Bool (other == card)) [
  | inl is ↦ absurd (omega (arith, ap {B = ℕ} (λ (b : Bool). if b then 1 else 0) is))
  | inr differs ↦
      let f : (card == other) ≡ false = grind (arith, nat_tests) in
      rw f (absent_from card cards (omega (arith, ap {B = ℕ} (λ (b : Bool). if b then 1 else 0) differs)))
]

times_absent : (card : ℕ) (cards : List ℕ) → absent card cards ≡ true → times card cards ≡ 0
times_absent card [] e = refl
times_absent card (other ∷ cards) e = elim (cases_Bool (card == other)) [
  | inl is ↦ absurd (let f = rw is at e in cc)
  | inr differs ↦
      let f : (other == card) ≡ false = grind (arith, nat_tests) in
      let rest : absent card cards ≡ true = rw differs at e in
      rw f (omega (arith, times_absent card cards rest))
]

pub differ_from : (cards : List ℕ) → ((c : ℕ) → times c cards ≤ 1) → all_differ cards ≡ true
differ_from [] once = refl
differ_from (card ∷ cards) once = rw (absent_from card cards (omega (arith, once card, times-same card cards))) (differ_from cards (λ c. omega (arith, once c)))

once_from : (cards : List ℕ) → all_differ cards ≡ true → (c : ℕ) → times c cards ≤ 1
once_from [] e c = omega arith
once_from (card ∷ cards) e c =
    let parts = and_parts (absent card cards) (all_differ cards) e in
    elim (cases_Bool (card == c)) [
      | inl is ↦
          let same : card ≡ c = grind (arith, nat_tests) in
          let none : times c cards ≡ 0 = subst (λ (x : ℕ). times x cards ≡ 0) same (times_absent card cards parts.0) in
          rw is (omega (arith, none))
      | inr other ↦ rw other (omega (arith, once_from cards parts.1 c))
    ]

-- ---- lawful cards

not_among : (card : ℕ) (cards : List ℕ) → has cards card ≡ false → absent card cards ≡ true
not_among card cards e = absent_from card cards (none_among card cards e)

absent_among : (card : ℕ) (cards : List ℕ) → absent card cards ≡ true → has cards card ≡ false
absent_among card cards e = among_none card cards (times_absent card cards e)

-- how often each card stands in the rows of a lawful game
pub record AreCounted (deal hold draw : List ℕ) : Type 0 where
  pub once : (c : ℕ) → times c deal ≤ 1
  pub within : (c : ℕ) → times c hold ≤ times c deal
  pub drawn : (c : ℕ) → times c deal + times c draw ≤ 1

pub counted : (e : Event) → AreLawfulCards e → AreCounted e.deal e.hold.items e.draw.items
counted e l = record {
  once = once_from e.deal l.deal;
  within = λ c. elim (cases_Bool (has e.hold.items c)) [
    | inl there ↦
        let dealt : has e.deal c ≡ true = one_of (λ x. has e.deal x ≡ true) e.hold.items l.dealt c (some_among c e.hold.items there) in
        omega (arith, once_from e.hold.items l.hold c, some_among c e.deal dealt)
    | inr gone ↦ omega (arith, none_among c e.hold.items gone)
  ];
  drawn = λ c. elim (cases_Bool (has e.draw.items c)) [
    | inl there ↦
        let fresh : absent c e.deal ≡ true = one_of (λ x. absent x e.deal ≡ true) e.draw.items l.fresh c (some_among c e.draw.items there) in
        omega (arith, once_from e.draw.items l.draw c, times_absent c e.deal fresh)
    | inr gone ↦ omega (arith, none_among c e.draw.items gone, once_from e.deal l.deal c)
  ];
}

-- cards that break no law are lawful
pub lawful_cards : (e : Event) → cards_breach e ≡ None → AreLawfulCards e
unfolding cards_breach deal_breach hold_breach count_breach draw_breach
lawful_cards e none =
    let of_deal = deal_breach e in
    let of_hold = hold_breach e in
    let of_count = count_breach e in
    let of_draw = draw_breach e in
    let behind_deal : first_of (of_hold ∷ of_count ∷ of_draw ∷ []) ≡ None = rest_none of_deal (of_hold ∷ of_count ∷ of_draw ∷ []) none in
    let behind_hold : first_of (of_count ∷ of_draw ∷ []) ≡ None = rest_none of_hold (of_count ∷ of_draw ∷ []) behind_deal in
    let behind_count : first_of (of_draw ∷ []) ≡ None = rest_none of_count (of_draw ∷ []) behind_hold in
    let deal : first_wrong wrong_deal [] e.deal ≡ None = placed Deal _ (first_none of_deal (of_hold ∷ of_count ∷ of_draw ∷ []) none) in
    let hold : first_wrong (wrong_hold e.deal) [] e.hold.items ≡ None = placed Hold _ (first_none of_hold (of_count ∷ of_draw ∷ []) behind_deal) in
    let draw : first_wrong (wrong_draw e.deal) [] e.draw.items ≡ None = placed Draw _ (first_none of_draw [] behind_count) in
    let five : (length e.hold.items + length e.draw.items == 5) ≡ true = not-false _ (unbroken (not (length e.hold.items + length e.draw.items == 5)) Count (length e.draw.items) (5 - length e.hold.items) (first_none of_count (of_draw ∷ []) behind_hold)) in
    record {
      deal = differ_from e.deal (right_once wrong_deal [] e.deal (λ front card f. f) deal (λ x. omega arith));
      hold = differ_from e.hold.items (right_once (wrong_hold e.deal) [] e.hold.items (λ front card f. or_second (not (has e.deal card)) (has front card) f) hold (λ x. omega arith));
      dealt = each_right (wrong_hold e.deal) (λ x. has e.deal x ≡ true) [] e.hold.items (λ front card f. not-false (has e.deal card) (or_first (not (has e.deal card)) (has front card) f)) hold;
      count = eqb-true _ _ five;
      draw = differ_from e.draw.items (right_once (wrong_draw e.deal) [] e.draw.items (λ front card f. or_second (has e.deal card) (has front card) f) draw (λ x. omega arith));
      fresh = each_right (wrong_draw e.deal) (λ x. absent x e.deal ≡ true) [] e.draw.items (λ front card f. not_among card e.deal (or_first (has e.deal card) (has front card) f)) draw;
    }

-- ---- what lawful cards are

-- held and drawn cards are five
pub final_five : (e : Event) → AreLawfulCards e → length e.hold.items + length e.draw.items ≡ 5
final_five e l = l.count

-- and differ
pub final_differ : (e : Event) → AreLawfulCards e → all_differ (e.hold.items ++ e.draw.items) ≡ true
final_differ e l =
    let n = counted e l in
    differ_from (e.hold.items ++ e.draw.items) (λ c. omega (arith, n.within c, n.drawn c, times-append c e.hold.items e.draw.items))

pub lawful_deal : (e : Event) → AreLawfulCards e → all_differ e.deal ≡ true
lawful_deal e l = l.deal

-- the mask of the held cards holds them
pub lawful_holds : (e : Event) → AreLawfulCards e → held (hold_of e) (in_order e.deal) ≡ in_order e.hold.items
lawful_holds e l = let n = counted e l in holds e.deal e.hold.items n.once n.within

pub deal_of_deck : (n : ℕ) (e : Event) → is_of_deck n e ≡ true → in_deck n (in_order e.deal) ≡ true
deal_of_deck n e is = in_deck-in_order n e.deal (and_parts (in_deck n e.deal) (in_deck n e.hold.items) (and_parts (in_deck n e.deal && in_deck n e.hold.items) (in_deck n e.draw.items) is).0).0

-- the deal in rising order is a hand that was dealt
pub lawful_dealt : (n : ℕ) (e : Event) → is_of_deck n e ≡ true → length (in_order e.deal) ≡ 5 → AreLawfulCards e → Dealt n (in_order e.deal)
unfolding in_order
lawful_dealt n e of five l = record {
  rising = rising-joined e.deal [] tt (λ c. rw (append-nil e.deal) (once_from e.deal l.deal c));
  of_deck = deal_of_deck n e of;
  five = five;
}

-- ---- lawful cards break no law

pub kept_if : (b : Bool) (rule : LogRule) (said due : ℕ) → b ≡ false → broken_if b rule said due ≡ None
kept_if b rule said due is = rw is refl

right_hold : (a b : Bool) → a ≡ true → b ≡ false → (not a || b) ≡ false
right_hold a b there once = rw (there, once) refl

right_draw : (a b : Bool) → a ≡ false → b ≡ false → (a || b) ≡ false
right_draw a b fresh once = rw (fresh, once) refl

pub right_count : (a b : ℕ) → a ≡ b → not (a == b) ≡ false
right_count a b is = ap not (eq-eqb a b is)

pub kept_cards : (e : Event) → AreLawfulCards e → cards_breach e ≡ None
unfolding cards_breach deal_breach hold_breach count_breach draw_breach
kept_cards e l =
    let deal : first_wrong wrong_deal [] e.deal ≡ None = none_wrong wrong_deal (λ x. Unit {0}) [] e.deal (λ front card any once. once) (λ k d inside. tt) (once_from e.deal l.deal) in
    let hold : first_wrong (wrong_hold e.deal) [] e.hold.items ≡ None =
    none_wrong (wrong_hold e.deal) (λ x. has e.deal x ≡ true) [] e.hold.items (λ front card there once. right_hold (has e.deal card) (has front card) there once) l.dealt (once_from e.hold.items l.hold) in
    let draw : first_wrong (wrong_draw e.deal) [] e.draw.items ≡ None =
    none_wrong (wrong_draw e.deal) (λ x. absent x e.deal ≡ true) [] e.draw.items (λ front card fresh once. right_draw (has e.deal card) (has front card) (absent_among card e.deal fresh) once) l.fresh (once_from e.draw.items l.draw) in
    let of_draw : draw_breach e ≡ None = ap (misplaced Draw) draw in
    let of_count : count_breach e ≡ None = kept_if _ Count (length e.draw.items) (5 - length e.hold.items) (right_count (length e.hold.items + length e.draw.items) 5 l.count) in
    let of_hold : hold_breach e ≡ None = ap (misplaced Hold) hold in
    let of_deal : deal_breach e ≡ None = ap (misplaced Deal) deal in
    none_first (deal_breach e) (hold_breach e ∷ count_breach e ∷ draw_breach e ∷ []) of_deal
    (none_first (hold_breach e) (count_breach e ∷ draw_breach e ∷ []) of_hold (none_first (count_breach e) (draw_breach e ∷ []) of_count (none_first (draw_breach e) [] of_draw refl)))
