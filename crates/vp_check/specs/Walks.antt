-- What a walk over some of the class lines finds.
use Rattle.std.specs.Prelude.{ℕ, ◌+◌, min, nat_le, nat_lt, List, [], ◌∷◌, Option, Some, None, Result, Ok, Err, if◌then◌else◌}
use Rattle.vp_pay.specs.declared.table.PayTable.{PayTable}
use Rattle.vp_draws.specs.Many.{AreValues}
use Rattle.vp_check.specs.Rules.{walked_breach}
use Rattle.vp_check.specs.declared.finding.Finding.{Finding}
use Rattle.vp_check.specs.declared.finding.Finding.TheVariants.{Bad}
use Rattle.vp_check.specs.declared.listed.Broken.{Broken}
use Rattle.vp_check.specs.declared.numbered.Numbered.{Numbered}
use Rattle.vp_check.specs.declared.rules.Breach.{Breach}

-- the place where a walk ends: behind its last line, and before a line with a broken rule
abbrev pub walk_end : ℕ → Option Broken → ℕ
walk_end last None = last
walk_end last (Some broken) = min last broken.place

-- a broken rule of this line, or else what comes later
abbrev pub found_or : Option Breach → ℕ → Result ℕ Finding → Result ℕ Finding
found_or None line later = later
found_or (Some breach) line later = Err (Bad line breach.rule breach.said breach.due)

-- a finding, or else what comes later
abbrev pub finding_or : Option Finding → Result ℕ Finding → Result ℕ Finding
finding_or None later = later
finding_or (Some finding) later = Err finding

-- the first broken rule of the values and masks of these rows, or else what comes later
abbrev pub asked_or : PayTable → ℕ → List Numbered → Result ℕ Finding → Result ℕ Finding
asked_or table coin [] later = later
asked_or table coin (row ∷ rows) later = found_or (walked_breach table coin row.class) row.line (asked_or table coin rows later)

-- the values of the 32 holds of each row
abbrev pub HaveValues : PayTable → ℕ → List Numbered → List (List ℕ) → Type 0
HaveValues table coin [] values = Unit {0}
HaveValues table coin (row ∷ rows) [] = ⊥
HaveValues table coin (row ∷ rows) (worths ∷ values) = AreValues table coin row.class.hand worths × HaveValues table coin rows values

-- the first broken rule of values and masks, asked of the rows at places from `from` to before `end`; how many were asked, where there is none
abbrev pub walked_at : PayTable → ℕ → ℕ → ℕ → ℕ → List Numbered → ℕ → Result ℕ Finding
walked_at table coin from end place [] walked = Ok walked
walked_at table coin from end place (row ∷ rows) walked =
    if nat_lt place end
    then found_or (if nat_le from place then walked_breach table coin row.class else None) row.line
    (walked_at table coin from end (place + 1) rows (walked + (if nat_le from place then 1 else 0)))
    else Ok walked
