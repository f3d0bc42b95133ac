-- What the text of `compile` tells.
use Rattle.std.specs.Prelude.{◌≡◌, ℕ, ◌+◌, ◌*◌, ◌<◌, ◌≤◌, List, ◌++◌, length, Ok}
use Rattle.vp_text.specs.Written.{written}
use Rattle.vp_pay.specs.Spelling.{table_text}
use Rattle.vp_pay.specs.declared.table.PayTable.{PayTable}
use Rattle.vp_suit.specs.Classes.{IsDeal}
use Rattle.vp_draws.specs.Draws.{IsMean, return_denominator, total, value}
use Rattle.vp_rule.specs.Lists.{RulePool}
use Rattle.vp_compile.specs.Excepted.{ArePlaces}
use Rattle.vp_compile.specs.Matrices.{IsOrder}
use Rattle.vp_compile.specs.Orders.{exchange}
use Rattle.vp_audit.specs.Audits.{audited, loss}
use Rattle.vp_audit.specs.Compiled.{ordered_list}
use Rattle.vp_audit.specs.Masked.{masked_list}
use Rattle.vp_answer.specs.Answers.{Answer, answer_of, done}
use Rattle.vp_answer.specs.declared.status.Status.TheVariants.{Done}
use Rattle.vp_audit.specs.Audit.{Listed, audit_due, audit_input, audit_job, audit_lines}
use Rattle.vp_audit.specs.Compile.{Pooled, class_number, compile_due, compile_input, compile_lines, excepted, last_places, printed_list}

-- ---- what is printed loses little

-- what the list of the rules in an order loses
abbrev pub order_loss : Pooled → List ℕ → ℕ
order_loss p order = loss p.table p.coin (ordered_list p.pool order)

-- an order that has each rule once, where no exchange of two neighbours lowers what the list of the rules in it loses
pub record NoExchangeHelps (p : Pooled) (order : List ℕ) : Type 0 where
  pub whole : IsOrder (length p.pool.rules) order
  pub none : (place : ℕ) → place + 1 < length order → order_loss p order ≤ order_loss p (exchange order place)

-- a loss is at most so many millionths of the denominator of the return
abbrev pub IsWithin : Pooled → ℕ → Type 0
IsWithin p lost = lost * 1000000 ≤ p.millionths * return_denominator p.table.deck p.coin

-- with exceptions for fewer classes than are excepted, whatever holds they give, the list of the rules in the last order loses more
abbrev pub FewerAreTooFew : Pooled → Type 0
FewerAreTooFew p =
    (places : List ℕ) (mask : ℕ → ℕ) → ArePlaces (class_number p) places → ((place : ℕ) → mask place < 32) → length places < length (excepted p)
    → ¬ IsWithin p (loss p.table p.coin (masked_list p.table p.pool (last_places p) places mask))

-- the answer are the numbers and the list. The last number is the loss of this list, and no more than may be lost; its rules stand in an
-- order that no exchange of two neighbours betters; and no fewer exceptions would do. Over the common denominator of the deck, the value of
-- each of the 32 holds of a deal is its mean payment over all draws
pub record TellsList (p : Pooled) (due : Answer) : Type 0 where
  pub status : due.status ≡ Done
  pub text : due.text ≡ written (compile_lines p)
  pub mean : (cards : List ℕ) → IsDeal p.table.deck cards → (other : ℕ) → other < 32
      → IsMean p.table.deck cards other (total p.table p.coin cards other) (value p.table p.coin cards other)
  pub within : IsWithin p (loss p.table p.coin (printed_list p))
  pub order : NoExchangeHelps p (last_places p)
  pub fewest : FewerAreTooFew p

-- the text of `compile` to each pay table and pool that it takes
abbrev pub CompiledListsLoseLittle : Type 0
CompiledListsLoseLittle = (coin millionths : ℕ) (bytes : List ℕ) (table : PayTable) (pool : RulePool) → 1 ≤ coin → millionths ≤ 1000000 → compile_input coin bytes ≡ Ok (table, pool)
    → TellsList (record { table = table; coin = coin; millionths = millionths; pool = pool }) (answer_of (compile_due (record { table = table; coin = coin; millionths = millionths; pool = pool })).said)

-- ---- what is printed is audited

-- a list, as `audit` takes it
abbrev pub listed : Pooled → Listed
listed p = record { table = p.table; coin = p.coin; list = printed_list p }

-- behind the pay table, as it is written, the text is an input of `audit`, short enough to be read, that says the table and the list that
-- is printed; so `audit` answers what this list loses, and the loss among its numbers is the one that is printed
pub record IsAudited (p : Pooled) (text : List ℕ) : Type 0 where
  pub short : length (written (table_text p.table) ++ text) ≤ 67108864
  pub says : audit_input p.coin (written (table_text p.table) ++ text) ≡ Ok (p.table, printed_list p)
  pub job : audit_job p.coin (written (table_text p.table) ++ text) ≡ Ok (listed p)
  pub answered : done (audit_due (listed p)).text ≡ done (written (audit_lines (listed p)))
  pub loss : (audited p.table p.coin (printed_list p)).loss ≡ loss p.table p.coin (printed_list p)

-- the text of `compile` to each pay table and pool that it takes
abbrev pub CompiledListsAreAudited : Type 0
CompiledListsAreAudited = (coin millionths : ℕ) (bytes : List ℕ) (table : PayTable) (pool : RulePool) → 1 ≤ coin → millionths ≤ 1000000 → compile_input coin bytes ≡ Ok (table, pool)
    → IsAudited (record { table = table; coin = coin; millionths = millionths; pool = pool }) (compile_due (record { table = table; coin = coin; millionths = millionths; pool = pool })).said.text
