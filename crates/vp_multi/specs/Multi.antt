-- `multi`: what its input says, and what it prints. Input and text are this program's own (docs/FORMATS.md, `vpoker multi`).
use Rattle.std.specs.Prelude.{◌<◌, ℕ, ◌*◌, ◌≤◌, List, refl, [], ◌∷◌, length, Result, codes}
use Rattle.vp_text.specs.Sections.{Text}
use Rattle.vp_text.specs.Written.{fraction, written}
use Rattle.vp_pay.specs.Bets.{IsBet}
use Rattle.vp_pay.specs.Inputs.{AreRead, RefusesTable, SpellsTable, has_bet, table_input}
use Rattle.vp_pay.specs.declared.table.PayTable.{PayTable}
use Rattle.vp_sets.specs.Sets.{choose}
use Rattle.vp_sets.specs.Draws.{common}
use Rattle.vp_count.specs.Table.{first_word}
use Rattle.vp_multi.specs.Sums.{mean_sum, second_sum, within_sum, between_sum}
use Rattle.vp_multi.specs.declared.several_hands.MomentSums.{MomentSums}
use Rattle.vp_answer.specs.Jobs.{Due, read_as}
use Rattle.vp_answer.proofs.SomeAnswers.{some_lines}
use Rattle.vp_answer.specs.declared.stop.Stop.{Stop}

-- what an input of `multi` says: a pay table that has the bet, and nothing else; or the line where it is refused
abbrev pub multi_input : ℕ → List ℕ → Result (PayTable × Unit {0}) ℕ
multi_input coin = table_input (has_bet coin)

-- hands that are drawn from one deal, for a bet on a pay table
pub record Drawn : Type 0 where
  pub table : PayTable
  pub coin : ℕ
  pub hands : ℕ

-- the pay table has the bet, and there are 1 to 100 hands
pub record IsDrawn (d : Drawn) : Type 0 where
  pub bet : IsBet d.table d.coin
  pub some : 1 ≤ d.hands
  pub most : d.hands ≤ 100

-- the lines of the moments: `under` is the common denominator of the deck, and `all` the number of deals times that
abbrev pub moment_lines : MomentSums → ℕ → ℕ → Text
moment_lines sums all under =
    (codes "mean" ∷ fraction sums.mean all) ∷
    (codes "second" ∷ fraction sums.second (all * under)) ∷
    (codes "within" ∷ fraction sums.within (all * under)) ∷
    (codes "between" ∷ fraction sums.between (all * all)) ∷ []

-- the moments of the total payment of the hands, over all deals
unfoldable pub moments_of : Drawn → MomentSums
moments_of d = record {
  mean = mean_sum d.table d.coin d.hands;
  second = second_sum d.table d.coin d.hands;
  within = within_sum d.table d.coin;
  between = between_sum d.table d.coin;
}

-- what `multi` prints
abbrev pub multi_lines : Drawn → Text
multi_lines d =
    moment_lines (moments_of d) (choose d.table.deck 5 * common d.table.deck) (common d.table.deck)

-- a table of sums of payments and one of squares, and the four lines
abbrev pub multi_due : Drawn → Due
multi_due d = record { words = 2 * first_word d.table.deck 6; text = written (multi_lines d) }

-- it has a line
abbrev pub multi_some : (d : Drawn) → 0 < length (multi_due d).text
multi_some d = some_lines (multi_lines d) refl

-- what an input leaves to do
abbrev pub multi_job : ℕ → ℕ → List ℕ → Result Drawn Stop
multi_job coin hands bytes =
    read_as (λ read. record { table = read.0; coin = coin; hands = hands }) (multi_input coin bytes)

-- a pay table that has the bet
abbrev pub MultiInputsAreRead : Type 0
MultiInputsAreRead = (coin : ℕ)
    → AreRead (multi_input coin) (SpellsTable (has_bet coin)) (RefusesTable (has_bet coin))
