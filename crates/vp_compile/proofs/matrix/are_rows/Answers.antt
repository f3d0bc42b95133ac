use Rattle.std.proofs.Common.{◌≡◌, true, false, arith, rules, subst, sym, ◌∙◌, refl, inl, inr}
use Rattle.std.proofs.lemmas.Bool.{cases_lt, false≢true}
use Rattle.vp_compile.specs.Rows.{IsRow}
use Rattle.vp_compile.specs.Matrices.{row_of}
use Rattle.vp_compile.proofs.Places.{row_read, rows_each, row_within}
use Rattle.vp_compile.proofs.matrix.are_rows.Goals as goal

pub returns-then-not-is_row : goal.returns-then-not-is_row
returns-then-not-is_row c =
    let read = row_read c.args.rules _ c.args.weights.now c.args.best.now c.args.none.now c.args.cells.now c.loop-place.place _ _ _ _ c.from-width.ensures c.word.ensures c.word-in-loop-place.ensures c.word-in-loop-place-2.ensures c.part-cells.ensures in
    let not : c.is_row.result ≡ false = search rules in
    (λ e. absurd (false≢true e), λ all. sym not ∙ c.is_row.ensures.1 (subst IsRow (sym read) (row_within c.args.rules c.args.weights.now c.args.best.now c.args.none.now c.args.cells.now c.loop-place.place all c.loop-place-test.true)))

pub loop-place-preserved : goal.loop-place-preserved
loop-place-preserved c k l =
    let read = row_read c.args.rules _ c.args.weights.now c.args.best.now c.args.none.now c.args.cells.now c.loop-place.place _ _ _ _ c.from-width.ensures c.word.ensures c.word-in-loop-place.ensures c.word-in-loop-place-2.ensures c.part-cells.ensures in
    let is : c.is_row.result ≡ true = search rules in
    elim (cases_lt k c.loop-place.place) as (λ _. IsRow (row_of c.args.rules c.args.weights.now c.args.best.now c.args.none.now c.args.cells.now k)) [
      | inl m ↦ c.loop-place.invariant k m
      | inr m ↦
          let e : c.loop-place.place ≡ k = omega arith in
          subst (λ i. IsRow (row_of c.args.rules c.args.weights.now c.args.best.now c.args.none.now c.args.cells.now i)) e (subst IsRow read (c.is_row.ensures.0 is))
    ]

pub returns : goal.returns
returns c = (λ e. rows_each c.args.rules c.args.weights.now c.args.best.now c.args.none.now c.args.cells.now (λ k l. c.loop-place.invariant k (omega arith)), λ all. refl)
