-- Classes are written into a matrix one after another, by their places.
use Rattle.std.proofs.Common.{◌≡◌, ℕ, ◌+◌, ◌*◌, ◌<◌, ◌≤◌, List, [], ◌∷◌, map, length, get_or, set, drop, slice_range, refl, sym, ap, subst, ◌∙◌, arith, inl, inr}
use borrow.Rule.Slice.PartMut.{put_mid}
use Rattle.std.proofs.lemmas.Bool.{cases_lt}
use Rattle.std.proofs.lemmas.Nat.{rows}
use Rattle.std.proofs.lemmas.List.{drop_all, drop_more, get_or-map, get_or-set_other, get_or-set_same, length-map}
use Rattle.std.proofs.lemmas.Slice.{between_is, between-put_mid, take-put_mid_below}
use Rattle.vp_suit.specs.Classes.{IsDeal, representatives, weight}
use Rattle.vp_pay.specs.declared.table.PayTable.{PayTable}
use Rattle.vp_draws.specs.Draws.{best, value}
use Rattle.vp_rule.specs.declared.rule.Rule.{Rule}
use Rattle.vp_compile.specs.Rows.{Row, no_row}
use Rattle.vp_compile.specs.Matrices.{row_of, rows_of}
use Rattle.vp_compile.proofs.Places.{rows_are}
use Rattle.vp_audit.specs.Choices.{BetHand}
use Rattle.vp_audit.specs.Compiled.{class_at, class_row, pool_rows, rule_cell}
use Rattle.vp_audit.proofs.ClassRows.{class_is}

-- what is told of a hand that is dealt for a bet
pub record Told (table : PayTable) (coin : ℕ) (hand : List ℕ) (rules : List Rule) (top nothing : ℕ) (row : List ℕ) : Type 0 where
  pub best : top ≡ best table coin hand
  pub none : nothing ≡ value table coin hand 0
  pub cells : row ≡ map (rule_cell table coin hand) rules

pub told_of : (h : BetHand) (table : PayTable) (coin : ℕ) (hand : List ℕ) (rules : List Rule) (top nothing : ℕ) (row : List ℕ) → h.table ≡ table → h.coin ≡ coin → h.hand ≡ hand
    → top ≡ best h.table h.coin h.hand → nothing ≡ value h.table h.coin h.hand 0 → row ≡ map (rule_cell h.table h.coin h.hand) rules → Told table coin hand rules top nothing row
told_of h table coin hand rules top nothing row t c is b n cs = rw (← t, ← c, ← is) (record { best = b; none = n; cells = cs })

-- the classes so far are written: those that are left are the others, by rising index
pub record Filled (table : PayTable) (coin : ℕ) (rules : List Rule) (left : List (List ℕ)) (place : ℕ) (weights bests nones cells : List ℕ) (first steps : ℕ) : Type 0 where
  pub left_are : left ≡ drop place (representatives table.deck)
  pub inside : place ≤ length (representatives table.deck)
  pub rows : (k : ℕ) → k < place → row_of (length rules) weights bests nones cells k ≡ class_row table coin rules (class_at table.deck k)
  pub counted : steps ≡ first + place

-- words for each class, and for each of its rules
pub record HasRoom (table : PayTable) (rules : List Rule) (weights bests nones cells : List ℕ) : Type 0 where
  pub many_weights : length weights ≡ length (representatives table.deck)
  pub many_bests : length bests ≡ length (representatives table.deck)
  pub many_nones : length nones ≡ length (representatives table.deck)
  pub many_cells : length cells ≡ length (representatives table.deck) * length rules

pub start : (table : PayTable) (coin : ℕ) (rules : List Rule) (left : List (List ℕ)) (weights bests nones cells : List ℕ) (first : ℕ) → left ≡ representatives table.deck → Filled table coin rules left 0 weights bests nones cells first first
start table coin rules left weights bests nones cells first is = record { left_are = is; inside = omega arith; rows = λ k l. absurd (omega arith); counted = omega arith }

-- the words of a class before those that are written
cells_before : (cells row : List ℕ) (start width k : ℕ) → k * width + width ≤ start → start ≤ length cells → slice_range (put_mid start width cells row) (k * width) (k * width + width) ≡ slice_range cells (k * width) (k * width + width)
cells_before cells row start width k l within =
    let end : ℕ = k * width + width in
    between_is (put_mid start width cells row) (k * width) end
    ∙ ap (drop (k * width)) (take-put_mid_below start width cells row end l within)
    ∙ sym (between_is cells (k * width) end)

row_parts : (r : Row) (w b n : ℕ) (cs : List ℕ) → r.weight ≡ w → r.best ≡ b → r.none ≡ n → r.cells ≡ cs → r ≡ record { weight = w; best = b; none = n; cells = cs }
row_parts r w b n cs ew eb en ec = rw (← ew, ← eb, ← en, ← ec) refl

module _ (table : PayTable) (coin : ℕ) (rules : List Rule) where
  module _ (cards : List ℕ) (left more : List (List ℕ)) (place : ℕ) (weights bests nones cells : List ℕ) (first steps : ℕ)
      (is : left ≡ cards ∷ more) (so : Filled table coin rules left place weights bests nones cells first steps) where
    -- a class is left
    pub place_inside : place < length (representatives table.deck)
    place_inside = elim (cases_lt place (length (representatives table.deck))) [
      | inl l ↦ l
      | inr l ↦ absurd (let none : cards ∷ more ≡ [] = sym is ∙ so.left_are ∙ drop_all place (representatives table.deck) l in cc)
    ]

    front : cards ∷ more ≡ class_at table.deck place ∷ drop (place + 1) (representatives table.deck)
    front = sym is ∙ so.left_are ∙ drop_more (representatives table.deck) place [] place_inside

    -- it is the one at its place
    pub class_here : cards ≡ class_at table.deck place
    class_here = cc front

    more_are : more ≡ drop (place + 1) (representatives table.deck)
    more_are = cc front

    pub deal_here : IsDeal table.deck cards
    deal_here = subst (IsDeal table.deck) (sym class_here) (class_is table.deck place place_inside).0

    module _ (room : HasRoom table rules weights bests nones cells) where
      pub cells_inside : place * length rules + length rules ≤ length cells
      cells_inside = let l = place_inside in let e = room.many_cells in grind (arith, rows)

      module _ (w b n : ℕ) (row : List ℕ) (ew : w ≡ weight cards) (eb : b ≡ best table coin cards) (en : n ≡ value table coin cards 0) (ec : row ≡ map (rule_cell table coin cards) rules) where
        abbrev new_cells : List ℕ
        new_cells = put_mid (place * length rules) (length rules) cells row

        many : length row ≡ length rules
        many = ap length ec ∙ length-map rules (rule_cell table coin cards)

        row_here : row_of (length rules) (set weights place w) (set bests place b) (set nones place n) new_cells place ≡ class_row table coin rules (class_at table.deck place)
        unfolding row_of class_row
        row_here =
            let x : get_or (set weights place w) place 0 ≡ weight cards = get_or-set_same weights place w 0 (omega (arith, place_inside, room.many_weights)) ∙ ew in
            let y : get_or (set bests place b) place 0 ≡ best table coin cards = get_or-set_same bests place b 0 (omega (arith, place_inside, room.many_bests)) ∙ eb in
            let z : get_or (set nones place n) place 0 ≡ value table coin cards 0 = get_or-set_same nones place n 0 (omega (arith, place_inside, room.many_nones)) ∙ en in
            let cs : slice_range new_cells (place * length rules) (place * length rules + length rules) ≡ map (rule_cell table coin cards) rules =
            between-put_mid (place * length rules) (length rules) cells row (place * length rules + length rules) (omega (arith, cells_inside)) (omega (arith, many)) ∙ ec in
            row_parts _ _ _ _ _ x y z cs ∙ ap (class_row table coin rules) class_here

        row_before : (k : ℕ) → k < place → row_of (length rules) (set weights place w) (set bests place b) (set nones place n) new_cells k ≡ row_of (length rules) weights bests nones cells k
        unfolding row_of
        row_before k l =
            row_parts _ _ _ _ _ (get_or-set_other weights place k w 0 (λ e. omega arith)) (get_or-set_other bests place k b 0 (λ e. omega arith)) (get_or-set_other nones place k n 0 (λ e. omega arith))
            (cells_before cells row (place * length rules) (length rules) k (grind (arith, rows)) (omega (arith, cells_inside)))

        -- a class more
        pub next : (steps2 : ℕ) → steps2 ≡ steps + 1 → Filled table coin rules more (place + 1) (set weights place w) (set bests place b) (set nones place n) new_cells first steps2
        next steps2 counted = record {
          left_are = more_are;
          inside = omega (arith, place_inside);
          rows = λ k l. elim (cases_lt k place) [
            | inl m ↦ row_before k m ∙ so.rows k m
            | inr m ↦ let e : place ≡ k = omega arith in subst (λ i. row_of (length rules) (set weights place w) (set bests place b) (set nones place n) new_cells i ≡ class_row table coin rules (class_at table.deck i)) e row_here
          ];
          counted = omega (arith, counted, so.counted);
        }

  -- all classes
  pub all_filled : (left : List (List ℕ)) (place : ℕ) (weights bests nones cells : List ℕ) (first steps : ℕ) → left ≡ [] → length weights ≡ length (representatives table.deck) → Filled table coin rules left place weights bests nones cells first steps
      → place ≡ length (representatives table.deck)
  all_filled left place weights bests nones cells first steps is many so = elim (cases_lt place (length (representatives table.deck))) [
    | inl l ↦ absurd (let some : [] ≡ class_at table.deck place ∷ drop (place + 1) (representatives table.deck) = sym is ∙ so.left_are ∙ drop_more (representatives table.deck) place [] l in cc)
    | inr l ↦ omega (arith, so.inside)
  ]

  pub end : (left : List (List ℕ)) (place : ℕ) (weights bests nones cells : List ℕ) (first steps : ℕ) → left ≡ [] → length weights ≡ length (representatives table.deck) → Filled table coin rules left place weights bests nones cells first steps
      → (rows_of (length rules) weights bests nones cells ≡ pool_rows table coin rules) × (steps ≡ first + length weights)
  unfolding pool_rows
  end left place weights bests nones cells first steps is many so =
      let whole : place ≡ length (representatives table.deck) = all_filled left place weights bests nones cells first steps is many so in
      let size : length (map (class_row table coin rules) (representatives table.deck)) ≡ length (representatives table.deck) = length-map (representatives table.deck) (class_row table coin rules) in (
        rows_are (length rules) weights bests nones cells (map (class_row table coin rules) (representatives table.deck)) (omega (arith, many, size)) (λ k l.
            so.rows k (omega (arith, l, size, whole)) ∙ sym (get_or-map (class_row table coin rules) (representatives table.deck) k [] no_row (omega (arith, l, size)))),
        omega (arith, so.counted, whole, many),
      )
