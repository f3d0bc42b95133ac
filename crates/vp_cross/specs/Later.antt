-- The worst class so far, kept class by class.
use Rattle.std.specs.Prelude.{ℕ, if◌then◌else◌, nat_lt, Option, None, Some}
use Rattle.vp_cross.specs.declared.crossed.Worst.{Worst}

-- what the worst class so far costs
abbrev pub cost_of : Option Worst → ℕ
cost_of None = 0
cost_of (Some w) = w.cost

-- the worst class with one class more: the later one only where it costs more
abbrev pub later : Option Worst → Worst → Option Worst
later before class = if nat_lt (cost_of before) class.cost then Some class else before
