-- What is made of a pool, and the words that it takes.
use Rattle.std.proofs.Common.{◌≡◌, ℕ, ◌+◌, ◌*◌, ◌^◌, ◌<◌, ◌≤◌, List, ◌++◌, length, Result, Ok, Err, arith, refl, ap, subst, ◌∙◌}
use Rattle.std.specs.Prelude.{IfOk}
use Rattle.std.proofs.lemmas.Grind.{flat_map-append}
use Rattle.std.proofs.Math.Nat.{mul-le-mul_left}
use Rattle.std.proofs.lemmas.List.{length-map}
use Rattle.std.proofs.lemmas.List.Sorted.{IsPermutation-refl}
use Rattle.std.specs.List.{range_with_len}
use Rattle.vp_card.specs.Cards.{IsDeck}
use Rattle.vp_text.specs.Written.{line_of, written}
use Rattle.vp_suit.specs.Classes.{representatives}
use Rattle.vp_suit.proofs.Walks.{few_classes}
use Rattle.vp_pay.specs.declared.table.PayTable.{PayTable}
use Rattle.vp_count.specs.Table.{first_word}
use Rattle.vp_count.proofs.Words.{first_word_small}
use Rattle.vp_rule.specs.Spelling.{list_text}
use Rattle.vp_compile.specs.Compiled.{last_order, own_order}
use Rattle.vp_compile.specs.Excepted.{AreFewest, ArePlaces, excepted_places, loss_left}
use Rattle.vp_compile.specs.Matrices.{Grid, IsOrder}
use Rattle.vp_compile.specs.Orders.{IsSettled}
use Rattle.vp_compile.specs.Rows.{Row, order_loss, worth_at_best}
use Rattle.vp_compile.specs.declared.compiling.Compiled.{Compiled}
use Rattle.vp_compile.proofs.Fewest.{are_the_fewest}
use Rattle.vp_compile.proofs.Settled.{settled_last}
use Rattle.vp_audit.specs.Audits.{loss}
use Rattle.vp_audit.specs.Compiled.{class_row, compiled_list, pool_rows}
use Rattle.vp_audit.proofs.OrderLosses.{left_is, order_is, worth_is}
use Rattle.vp_audit.specs.Compile.{IsCompiled, IsPooled, Pooled, class_number, compile_lines, excepted, first_places, last_places, limit, matrix, printed_list, said_lines}

-- ---- its words

-- the words of a table of sums, four for each class, and one for each class and rule, are few enough to be counted
pub few_words : (n words classes rules : ℕ) → IsDeck n → words ≡ first_word n 6 → classes ≡ length (representatives n) → rules ≤ 64 → words + 4 * classes + classes * rules < 2 ^ 64
few_words n words classes rules deck w k few =
    let all : classes * rules ≤ classes * 64 = mul-le-mul_left classes few in
    omega (arith, all, w, k, first_word_small n 6 deck.1 (omega arith), few_classes n deck)

-- ---- what is made of it

module _ (p : Pooled) (is : IsPooled p) where
  pub first_whole : IsOrder (length p.pool.rules) (first_places p)
  unfolding first_places
  first_whole = IsPermutation-refl (range_with_len 0 (length p.pool.rules))

  -- the last order has each rule once, and no exchange of neighbours lowers it
  pub last_whole : IsOrder (length p.pool.rules) (last_places p) × IsSettled (matrix p).rows (last_places p)
  unfolding last_places
  last_whole = settled_last (matrix p).rows (length p.pool.rules) (own_order (matrix p)) (IsPermutation-refl (range_with_len 0 (length p.pool.rules)))

  pub row_number : length (matrix p).rows ≡ class_number p
  unfolding pool_rows
  row_number = length-map (representatives p.table.deck) (class_row p.table p.coin p.pool.rules)

  pub fewest : AreFewest (matrix p).rows (last_places p) (limit p) (excepted p)
  unfolding excepted
  fewest = are_the_fewest (matrix p).rows (last_places p) (limit p)

  pub some_places : ArePlaces (class_number p) (excepted p)
  some_places = subst (λ n. ArePlaces n (excepted p)) row_number fewest.places

  pub printed_loss : loss_left (matrix p).rows (last_places p) (excepted p) ≡ loss p.table p.coin (printed_list p)
  unfolding printed_list
  printed_loss = left_is p.table p.coin is.bet p.pool is.pool (last_places p) last_whole.0 (excepted p) some_places

  pub compiled_as : (grid : Grid) (c : Compiled) → grid ≡ matrix p → c.order.items ≡ last_order grid → c.places.items ≡ excepted_places grid.rows (last_order grid) (limit p)
      → c.optimum ≡ worth_at_best grid.rows → c.start ≡ order_loss grid.rows (own_order grid) → c.settled ≡ order_loss grid.rows (last_order grid) → c.loss ≡ loss_left grid.rows (last_order grid) c.places.items
      → IsCompiled p c
  unfolding first_places last_places excepted
  compiled_as grid c same order places optimum start settled left =
      let placed : c.places.items ≡ excepted p = places ∙ ap (λ (g : Grid). excepted_places g.rows (last_order g) (limit p)) same in
      record {
        order = order ∙ ap last_order same;
        places = placed;
        optimum = optimum ∙ ap (λ (g : Grid). worth_at_best g.rows) same ∙ worth_is p.table p.coin p.pool.rules is.bet;
        start = start ∙ ap (λ (g : Grid). order_loss g.rows (own_order g)) same ∙ order_is p.table p.coin is.bet p.pool is.pool (first_places p) first_whole;
        settled = settled ∙ ap (λ (g : Grid). order_loss g.rows (last_order g)) same ∙ order_is p.table p.coin is.bet p.pool is.pool (last_places p) last_whole.0;
        loss = left ∙ ap (λ (g : Grid). loss_left g.rows (last_order g) c.places.items) same ∙ ap (loss_left (matrix p).rows (last_places p)) placed ∙ printed_loss;
      }

  -- the same of what a call returned that makes it
  pub compiled_result : {E : Type 0} (grid : Grid) (most : ℕ) (result : Result Compiled E) → grid ≡ matrix p → most ≡ limit p → IfOk result (λ c. c.order.items ≡ last_order grid)
      → IfOk result (λ c. c.places.items ≡ excepted_places grid.rows (last_order grid) most) → IfOk result (λ c. c.optimum ≡ worth_at_best grid.rows)
      → IfOk result (λ c. c.start ≡ order_loss grid.rows (own_order grid)) → IfOk result (λ c. c.settled ≡ order_loss grid.rows (last_order grid))
      → IfOk result (λ c. c.loss ≡ loss_left grid.rows (last_order grid) c.places.items) → IfOk result (IsCompiled p)
  compiled_result grid most (Ok c) same is_most order places optimum start settled left = compiled_as grid c same order (places ∙ ap (excepted_places grid.rows (last_order grid)) is_most) optimum start settled left
  compiled_result grid most (Err e) same is_most order places optimum start settled left = tt

-- ---- its matrix

same_grid : (a b : ℕ) (x y : List Row) → a ≡ b → x ≡ y → (let one : Grid = record { rules = a; rows = x } in one) ≡ record { rules = b; rows = y }
same_grid a b x y e f = rw (e, f) refl

pub matrix_as : (p i : Pooled) (grid : Grid) (table : PayTable) (coin : ℕ) → i ≡ p → table ≡ p.table → coin ≡ p.coin → grid.rules ≡ length i.pool.rules → grid.rows ≡ pool_rows table coin i.pool.rules → grid ≡ matrix p
matrix_as p i grid table coin same same_table same_coin rules rows =
    same_grid _ _ _ _ (rules ∙ ap (λ (q : Pooled). length q.pool.rules) same)
    (rows ∙ ap (λ (t : PayTable). pool_rows t coin i.pool.rules) same_table ∙ ap (λ n. pool_rows p.table n i.pool.rules) same_coin ∙ ap (λ (q : Pooled). pool_rows p.table p.coin q.pool.rules) same)

-- ---- what is put

-- the numbers that are said, and the list behind them
pub compile_text : (p : Pooled) → written (compile_lines p) ≡ written (said_lines p) ++ written (list_text p.table (printed_list p))
compile_text p = flat_map-append line_of (said_lines p) (list_text p.table (printed_list p))

-- the list that is put is the one that is printed
pub list_as : (p i : Pooled) (table : PayTable) (coin : ℕ) (order places : List ℕ) → i ≡ p → table ≡ p.table → coin ≡ p.coin → order ≡ last_places p → places ≡ excepted p
    → written (list_text table (compiled_list table coin i.pool order places)) ≡ written (list_text p.table (printed_list p))
unfolding printed_list
list_as p i table coin order places same same_table same_coin last some =
    ap (λ (q : Pooled). written (list_text table (compiled_list table coin q.pool order places))) same
    ∙ rw (same_table, same_coin, last, some) refl
