-- `compile`: what its input says, what is made of a pool, and what is printed. Input and text are this program's own (docs/FORMATS.md,
-- `vpoker compile`).
use Rattle.std.specs.Prelude.{◌≡◌, ℕ, ◌+◌, ◌*◌, ◌/◌, ◌<◌, ◌≤◌, List, refl, [], ◌∷◌, ◌++◌, Result, codes, length}
use Rattle.vp_text.specs.Lines.{Word}
use Rattle.vp_text.specs.Sections.{Text}
use Rattle.vp_text.specs.Written.{fraction, written}
use Rattle.vp_suit.specs.Classes.{representatives}
use Rattle.vp_pay.specs.Bets.{IsBet}
use Rattle.vp_pay.specs.declared.table.PayTable.{PayTable}
use Rattle.vp_count.specs.Table.{first_word}
use Rattle.vp_draws.specs.Draws.{return_denominator, sum_of_best}
use Rattle.vp_rule.specs.Inputs.{RefusesPool, SpellsPool, pool_input}
use Rattle.vp_rule.specs.Lists.{RuleList, RulePool}
use Rattle.vp_rule.specs.Spelling.{list_text}
use Rattle.vp_rule.specs.Valid.{IsPool}
use Rattle.vp_compile.specs.Compiled.{last_order, own_order}
use Rattle.vp_compile.specs.Excepted.{excepted_places}
use Rattle.vp_compile.specs.Matrices.{Grid}
use Rattle.vp_compile.specs.declared.compiling.Compiled.{Compiled}
use Rattle.vp_audit.specs.Audits.{loss}
use Rattle.vp_audit.specs.Compiled.{compiled_list, ordered_list, pool_rows}
use Rattle.vp_pay.specs.Inputs.{AreRead, has_bet}
use Rattle.vp_answer.specs.Jobs.{DueOf, read_as}
use Rattle.vp_answer.proofs.SomeAnswers.{some_lines}
use Rattle.vp_answer.specs.declared.ending.Ending.TheVariants.{Done}
use Rattle.vp_answer.specs.declared.stop.Stop.{Stop}

-- what an input of `compile` says: a pay table that has the bet, then a pool for it, and nothing else; or the line where it is refused
abbrev pub compile_input : ℕ → List ℕ → Result (PayTable × RulePool) ℕ
compile_input coin bytes = pool_input (has_bet coin) bytes

-- a bet on a pay table, how many millionths of the return's denominator may be lost, and a pool
pub record Pooled : Type 0 where
  pub table : PayTable
  pub coin : ℕ
  pub millionths : ℕ
  pub pool : RulePool

-- the table has the bet, at most a million millionths of all that is bet may be lost, and the pool is one for the table
pub record IsPooled (p : Pooled) : Type 0 where
  pub bet : IsBet p.table p.coin
  pub most : p.millionths ≤ 1000000
  pub pool : IsPool p.table p.pool

-- and there are so many classes of deals
pub record IsCounted (p : Pooled) (classes : ℕ) : Type 0 where
  pub pooled : IsPooled p
  pub number : classes ≡ length (representatives p.table.deck)

-- ---- what is made of the pool

-- the greatest whole number of which a million times is at most that many times the denominator of the return
abbrev pub limit : Pooled → ℕ
limit p = p.millionths * return_denominator p.table.deck p.coin / 1000000

-- what the rules give each class of deals
abbrev pub matrix : Pooled → Grid
matrix p = record { rules = length p.pool.rules; rows = pool_rows p.table p.coin p.pool.rules }

-- the order of the pool itself
unfoldable pub first_places : Pooled → List ℕ
first_places p = own_order (matrix p)

-- the order that exchanges of neighbours end with
unfoldable pub last_places : Pooled → List ℕ
last_places p = last_order (matrix p)

-- the places of the classes that are excepted, among all classes
unfoldable pub excepted : Pooled → List ℕ
excepted p = excepted_places (pool_rows p.table p.coin p.pool.rules) (last_places p) (limit p)

-- the list that is printed
unfoldable pub printed_list : Pooled → RuleList
printed_list p = compiled_list p.table p.coin p.pool (last_places p) (excepted p)

-- ---- what is printed

-- a number over the denominator of the return, on a line of a comment, behind this word
abbrev pub said_words : Pooled → Word → ℕ → List Word
said_words p key over = codes "#" ∷ key ∷ fraction over (return_denominator p.table.deck p.coin)

-- the sum of the best values, and what is lost: by the list of the rules in the pool's order, by that in the last order, and by the list
-- that is printed
unfoldable pub said_lines : Pooled → Text
said_lines p =
    said_words p (codes "optimum") (sum_of_best p.table p.coin) ∷
    said_words p (codes "start") (loss p.table p.coin (ordered_list p.pool (first_places p))) ∷
    said_words p (codes "settled") (loss p.table p.coin (ordered_list p.pool (last_places p))) ∷
    said_words p (codes "loss") (loss p.table p.coin (printed_list p)) ∷ []

-- what `compile` prints: these lines, and the list
abbrev pub compile_lines : Pooled → Text
compile_lines p = said_lines p ++ list_text p.table (printed_list p)

-- the order and the exceptions are those of the printed list, and the numbers are those that are said of it
pub record IsCompiled (p : Pooled) (c : Compiled) : Type 0 where
  pub order : c.order.items ≡ last_places p
  pub places : c.places.items ≡ excepted p
  pub optimum : c.optimum ≡ sum_of_best p.table p.coin
  pub start : c.start ≡ loss p.table p.coin (ordered_list p.pool (first_places p))
  pub settled : c.settled ≡ loss p.table p.coin (ordered_list p.pool (last_places p))
  pub loss : c.loss ≡ loss p.table p.coin (printed_list p)

-- ---- what it needs

-- how many classes of deals there are
abbrev pub class_number : Pooled → ℕ
class_number p = length (representatives p.table.deck)

-- a table of sums, four words for each class, and one for each class and rule
abbrev pub compile_words : Pooled → ℕ
compile_words p = first_word p.table.deck 6 + 4 * class_number p + class_number p * length p.pool.rules

-- ---- what is due

-- these words of memory, and the text, which is whole
abbrev pub compile_due : Pooled → DueOf
compile_due p = record { words = compile_words p; said = record { ending = Done; text = written (compile_lines p) } }

-- it has a line
abbrev pub compile_some : (p : Pooled) → 0 < length (compile_due p).said.text
unfolding said_lines
compile_some p = some_lines (compile_lines p) refl

-- what an input leaves to do
abbrev pub compile_job : ℕ → ℕ → List ℕ → Result Pooled Stop
compile_job coin millionths bytes =
    read_as (λ read. record { table = read.0; coin = coin; millionths = millionths; pool = read.1 }) (compile_input coin bytes)

-- a pay table that has the bet, and a pool for it
abbrev pub CompileInputsAreRead : Type 0
CompileInputsAreRead = (coin : ℕ) → AreRead (compile_input coin) (SpellsPool (has_bet coin)) (RefusesPool (has_bet coin))
