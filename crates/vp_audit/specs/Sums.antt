-- What is summed up over classes of deals, each by its weight. This is how the numbers of an audit (Audits) are reckoned: a sum over classes
-- by weight is the sum over all deals (vp_suit, Laws).
use Rattle.std.specs.Prelude.{ℕ, ◌+◌, ◌*◌, ◌-◌, ◌<◌, ◌^◌, not, ◌==◌, List, length, map, sum_by, Option, replicate, slice_index_or, slice_set}
use Rattle.std.specs.List.{range_with_len}
use Rattle.vp_suit.specs.Classes.{weight}
use Rattle.vp_pay.specs.declared.table.PayTable.{PayTable}
use Rattle.vp_draws.specs.Draws.{best, greatest}
use Rattle.vp_rule.specs.Lists.{RuleList}
use Rattle.vp_rule.specs.declared.rule.Rule.{Rule}
use Rattle.vp_audit.specs.Values.{charged, deciding, decision, greatest_value, least, least_value}
use Rattle.vp_audit.specs.Audits.{is_ambiguous, is_by, lost, only}
use Rattle.vp_audit.specs.declared.priced.Decided.{Decided}
use Rattle.vp_audit.specs.declared.priced.Decided.TheVariants.{Except, ByRule, Nothing}
use Rattle.vp_audit.specs.declared.priced.Priced.{Priced}
use Rattle.vp_audit.specs.declared.audited.Tally.{Tally}
use Rattle.vp_audit.specs.declared.sums.Sums.{Sums}

-- what a list says of a representative, whose exception gives this mask
unfoldable pub priced : PayTable → ℕ → List Rule → Option ℕ → List ℕ → Priced
priced table coin rules mask cards = record {
  by = decision mask (deciding table rules cards);
  best = best table coin cards;
  least = charged least table coin rules cards cards mask (deciding table rules cards);
  greatest = charged greatest table coin rules cards cards mask (deciding table rules cards);
}

-- the sum of f over classes by weight
abbrev pub worth : (List ℕ → ℕ) → List (List ℕ) → ℕ
worth f classes = sum_by (λ cards. weight cards * f cards) classes

unfoldable pub tally_over : PayTable → ℕ → RuleList → List (List ℕ) → Decided → Tally
tally_over table coin list classes by = record {
  deals = worth (λ cards. only (is_by table list by cards) 1) classes;
  loss = worth (λ cards. only (is_by table list by cards) (lost table coin list cards)) classes;
}

unfoldable pub sums_over : PayTable → ℕ → RuleList → List (List ℕ) → Sums
sums_over table coin list classes = record {
  optimum = worth (best table coin) classes;
  least = worth (least_value table coin list) classes;
  greatest = worth (greatest_value table coin list) classes;
  ambiguous = worth (λ cards. only (is_ambiguous table coin list cards) 1) classes;
  except = tally_over table coin list classes Except;
  rules = record { items = map (λ i. tally_over table coin list classes (ByRule i)) (range_with_len 0 (length list.rules)) };
  none = tally_over table coin list classes Nothing;
}

-- of no deal
abbrev pub no_tally : Tally
no_tally = record { deals = 0; loss = 0 }

-- of no class, for so many rules
abbrev pub no_sums : ℕ → Sums
no_sums rules = record {
  optimum = 0;
  least = 0;
  greatest = 0;
  ambiguous = 0;
  except = no_tally;
  rules = record { items = replicate rules no_tally };
  none = no_tally;
}

-- ---- one class more

abbrev pub more : Tally → ℕ → ℕ → Tally
more tally weight lost = record { deals = tally.deals + weight; loss = tally.loss + weight * lost }

-- the tallies, with a class more that is so decided
abbrev pub tallied : Sums → Decided → ℕ → ℕ → Sums
tallied sums Except weight lost = record sums { except = more sums.except weight lost }
tallied sums (ByRule i) weight lost = record sums { rules = record { items = slice_set sums.rules.items i (more (slice_index_or sums.rules.items i no_tally) weight lost) } }
tallied sums Nothing weight lost = record sums { none = more sums.none weight lost }

-- the sums, with a class more
abbrev pub added : Sums → ℕ → Priced → Sums
added sums weight p = tallied (record sums {
  optimum = sums.optimum + weight * p.best;
  least = sums.least + weight * p.least;
  greatest = sums.greatest + weight * p.greatest;
  ambiguous = sums.ambiguous + weight * only (not (p.least == p.greatest)) 1;
}) p.by weight (p.best - p.least)

-- a tally that has room for a class more
abbrev pub IsRoomy : Tally → Type 0
IsRoomy tally = (tally.deals < 2 ^ 31) × (tally.loss < 2 ^ 100)

-- the tally of a deal that is so decided has room for a class more
abbrev pub HasRoom : Sums → Decided → Type 0
HasRoom sums Except = IsRoomy sums.except
HasRoom sums (ByRule i) = (i < length sums.rules.items) × IsRoomy (slice_index_or sums.rules.items i no_tally)
HasRoom sums Nothing = IsRoomy sums.none
