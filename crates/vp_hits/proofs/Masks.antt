-- The masks of the classes, as they are written and read one after another.
use Rattle.std.proofs.Common.{◌≡◌, not, inl, inr, ℕ, suc, ◌+◌, ◌<◌, ◌≤◌, List, [], ◌∷◌, length, get_or, set, ap, sym, subst, ◌∙◌, arith, refl}
use Rattle.std.proofs.lemmas.Bool.{cases_eq}
use Rattle.std.proofs.lemmas.List.{get_or-set_same, get_or-set_other, length-set}
use Rattle.std.proofs.lemmas.List.Filters.{length-filter_both}
use Rattle.vp_pay.specs.declared.table.PayTable.{PayTable}
use Rattle.vp_sets.specs.Sets.{choose}
use Rattle.vp_sets.specs.Index.{colex}
use Rattle.vp_sets.proofs.Colex.{colex_count}
use Rattle.vp_suit.specs.Classes.{is_representative, representatives}
use Rattle.vp_draws.specs.Draws.{least_best}
use Rattle.vp_draws.proofs.Chosen.{least_best_small}
use Rattle.vp_hits.specs.Numbers.{AreMasks, IsPrinted, Printed}

-- there are not more classes than deals
classes_few : (n : ℕ) → length (representatives n) ≤ choose n 5
unfolding representatives
classes_few n = omega (arith, length-filter_both (λ cards. is_representative cards) (λ cards. not (is_representative cards)) (λ cards. refl) (colex 5 n), colex_count 5 n)

-- ---- written

-- of the classes that are left the first stands at the place, and those before it have their masks
pub record MasksBelow (table : PayTable) (coin : ℕ) (words : List ℕ) (place : ℕ) (left : List (List ℕ)) : Type 0 where
  pub room : length (representatives table.deck) ≤ length words
  pub all : place + length left ≡ length (representatives table.deck)
  pub rest : (k : ℕ) → k < length left → get_or left k [] ≡ get_or (representatives table.deck) (place + k) []
  pub done : (i : ℕ) → i < place → get_or words i 0 ≡ least_best table coin (get_or (representatives table.deck) i [])

pub masks_start : (table : PayTable) (coin : ℕ) (words : List ℕ) (left : List (List ℕ)) → choose table.deck 5 ≤ length words → left ≡ representatives table.deck → MasksBelow table coin words 0 left
masks_start table coin words left room is = record {
  room = omega (arith, classes_few table.deck);
  all = omega (arith, ap length is);
  rest = λ k l. ap (λ (s : List (List ℕ)). get_or s k []) is ∙ ap (λ j. get_or (representatives table.deck) j []) (from_none k);
  done = λ i l. absurd (omega arith);
}
  where
    from_none : (k : ℕ) → k ≡ 0 + k
    from_none k = omega arith

pub masks_room : (table : PayTable) (coin : ℕ) (words : List ℕ) (place : ℕ) (cards : List ℕ) (left rest : List (List ℕ)) → left ≡ cards ∷ rest → MasksBelow table coin words place left → place < length words
masks_room table coin words place cards left rest is m = let e : length left ≡ suc (length rest) = ap length is in omega (arith, m.room, m.all)

pub masks_more : (table : PayTable) (coin : ℕ) (words : List ℕ) (place : ℕ) (cards : List ℕ) (left rest : List (List ℕ)) (mask : ℕ) → left ≡ cards ∷ rest → mask ≡ least_best table coin cards
    → MasksBelow table coin words place left → MasksBelow table coin (set words place mask) (place + 1) rest
masks_more table coin words place cards left rest mask is best m =
    let long : length left ≡ suc (length rest) = ap length is in
    let inside : place < length words = masks_room table coin words place cards left rest is m in
    let first : get_or (representatives table.deck) place [] ≡ cards =
    ap (λ j. get_or (representatives table.deck) j []) (nothing_more place) ∙ sym (m.rest 0 (omega arith)) ∙ ap (λ (s : List (List ℕ)). get_or s 0 []) is in
    record {
      room = omega (arith, length-set words place mask, m.room);
      all = omega (arith, m.all);
      rest = λ k l.
          ap (λ (s : List (List ℕ)). get_or s (suc k) []) (sym is) ∙ m.rest (suc k) (omega arith) ∙ ap (λ j. get_or (representatives table.deck) j []) (one_more place k);
      done = λ i l. elim (cases_eq i place) [
        | inl e ↦ ap (λ j. get_or (set words place mask) j 0) e ∙ get_or-set_same words place mask 0 inside ∙ best ∙ ap (least_best table coin) (sym first) ∙ ap (λ j. least_best table coin (get_or (representatives table.deck) j [])) (sym e)
        | inr other ↦ get_or-set_other words place i mask 0 other ∙ m.done i (omega arith)
      ];
    }
  where
    nothing_more : (p : ℕ) → p ≡ p + 0
    nothing_more p = omega arith

    one_more : (p k : ℕ) → p + suc k ≡ p + 1 + k
    one_more p k = omega arith

pub masks_done : (table : PayTable) (coin : ℕ) (words : List ℕ) (place : ℕ) (left : List (List ℕ)) → left ≡ [] → MasksBelow table coin words place left → AreMasks table coin words
masks_done table coin words place left none m = let e : length left ≡ 0 = ap length none in record { room = m.room; masks = λ i l. m.done i (omega (arith, m.all)) }

-- ---- read

-- the words from the place on are the masks of the classes that are left
pub record MasksFrom (table : PayTable) (coin : ℕ) (words : List ℕ) (place : ℕ) (left : List (List ℕ)) : Type 0 where
  pub room : place + length left ≤ length words
  pub masks : (k : ℕ) → k < length left → get_or words (place + k) 0 ≡ least_best table coin (get_or left k [])

pub read_start : (table : PayTable) (coin : ℕ) (words : List ℕ) (left : List (List ℕ)) → AreMasks table coin words → left ≡ representatives table.deck → MasksFrom table coin words 0 left
read_start table coin words left m is = record {
  room = omega (arith, m.room, ap length is);
  masks = λ k l. ap (λ j. get_or words j 0) (from_none k) ∙ m.masks k (omega (arith, ap length is)) ∙ ap (λ (s : List (List ℕ)). least_best table coin (get_or s k [])) (sym is);
}
  where
    from_none : (k : ℕ) → 0 + k ≡ k
    from_none k = omega arith

pub read_room : (table : PayTable) (coin : ℕ) (words : List ℕ) (place : ℕ) (cards : List ℕ) (left rest : List (List ℕ)) → left ≡ cards ∷ rest → MasksFrom table coin words place left → place < length words
read_room table coin words place cards left rest is m = let e : length left ≡ suc (length rest) = ap length is in omega (arith, m.room)

pub read_mask : (table : PayTable) (coin : ℕ) (words : List ℕ) (place : ℕ) (cards : List ℕ) (left rest : List (List ℕ)) → left ≡ cards ∷ rest → MasksFrom table coin words place left → get_or words place 0 ≡ least_best table coin cards
read_mask table coin words place cards left rest is m =
    let long : length left ≡ suc (length rest) = ap length is in
    ap (λ j. get_or words j 0) (nothing_more place) ∙ m.masks 0 (omega arith) ∙ ap (λ (s : List (List ℕ)). least_best table coin (get_or s 0 [])) is
  where
    nothing_more : (p : ℕ) → p ≡ p + 0
    nothing_more p = omega arith

pub read_more : (table : PayTable) (coin : ℕ) (words : List ℕ) (place : ℕ) (cards : List ℕ) (left rest : List (List ℕ)) → left ≡ cards ∷ rest → MasksFrom table coin words place left → MasksFrom table coin words (place + 1) rest
read_more table coin words place cards left rest is m =
    let long : length left ≡ suc (length rest) = ap length is in
    record {
      room = omega (arith, m.room);
      masks = λ k l. ap (λ j. get_or words j 0) (one_more place k) ∙ m.masks (suc k) (omega arith) ∙ ap (λ (s : List (List ℕ)). least_best table coin (get_or s (suc k) [])) is;
    }
  where
    one_more : (p k : ℕ) → p + 1 + k ≡ p + suc k
    one_more p k = omega arith

-- ---- of printed holds

pub printed_mask : (p own : Printed) (place : ℕ) (cards : List ℕ) (left rest : List (List ℕ)) → own ≡ p → left ≡ cards ∷ rest → MasksFrom p.table p.coin p.words place left
    → get_or own.words place 0 ≡ least_best p.table p.coin cards
printed_mask p own place cards left rest e is m = ap (λ (q : Printed). get_or q.words place 0) e ∙ read_mask p.table p.coin p.words place cards left rest is m

pub mask_small : (p own : Printed) (place : ℕ) (cards : List ℕ) (left rest : List (List ℕ)) → own ≡ p → left ≡ cards ∷ rest → MasksFrom p.table p.coin p.words place left → get_or own.words place 0 < 32
mask_small p own place cards left rest e is m = omega (arith, printed_mask p own place cards left rest e is m, least_best_small p.table p.coin cards)

pub of_printed : (p own : Printed) (worth : ℕ) → own ≡ p → IsPrinted own worth → IsPrinted p worth
of_printed p own worth e h = subst (λ (q : Printed). IsPrinted q worth) e h
