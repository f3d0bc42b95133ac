-- What the walk over the draws of a hold goes over.
use Rattle.std.specs.Prelude.{ℕ, ◌-◌, ◌<◌, ◌≤◌, List, [], ◌++◌, length, sum_by}
use Rattle.std.specs.List.{All}
use Rattle.vp_pay.specs.declared.table.PayTable.{PayTable}
use Rattle.vp_wild.specs.Payment.{pay}
use Rattle.vp_card.specs.Cards.{joined}
use Rattle.vp_card.specs.Rising.{times}
use Rattle.vp_sets.specs.Sets.{combos, choose}
use Rattle.vp_sets.specs.Index.{IsSet}

-- what hands are made of: at most five chosen cards, rising, and others to choose from, all of them different
pub record AreChoices (chosen others : List ℕ) : Type 0 where
  pub five : length chosen ≤ 5
  pub set : IsSet 54 chosen
  pub few : length others ≤ 49
  pub below : All (λ card. card < 54) others
  pub once : (card : ℕ) → times card (chosen ++ others) ≤ 1

-- the sum of the payments over all hands made of the chosen cards and as many of the others as are missing
unfoldable pub sum_over_choices : PayTable → ℕ → List ℕ → List ℕ → ℕ
sum_over_choices table coin chosen others =
    sum_by (λ drawn. pay table coin (joined (chosen ++ drawn) [])) (combos (5 - length chosen) others)

-- how many such hands there are
unfoldable pub choices : List ℕ → List ℕ → ℕ
choices chosen others = choose (length others) (5 - length chosen)
