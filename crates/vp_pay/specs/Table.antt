-- Which pay tables keep the rules and limits of the table language (docs/FORMATS.md).
use Rattle.std.specs.Prelude.{◌≡◌, ℕ, ◌-◌, ◌≤◌, ◌<◌, Bool, true, eqb, ◌&&◌, ◌==◌, nat_le, List, map, length, drop, replicate, IfSome}
use Rattle.std.specs.declared.option.Option.{Option}
use Rattle.std.specs.declared.option.Option.TheVariants.{Some, None}
use Rattle.std.specs.List.{list_all, All, IsDistinct}
use Rattle.std.specs.Cmp.Lexicographic.{pointwise}
use Rattle.vp_card.specs.Cards.{IsDeck, is_rank_set}
use Rattle.vp_pay.specs.declared.pattern.Pattern.{Pattern}
use Rattle.vp_pay.specs.declared.pattern.Pattern.TheVariants.{FiveKind, Wilds, Quads, Pair}
use Rattle.vp_pay.specs.declared.table.PayLine.{PayLine}
use Rattle.vp_pay.specs.declared.table.PayTable.{PayTable}
use Rattle.vp_pay.specs.Names.{is_name}

-- a kicker is left out, or is a set of ranks that isn't empty
abbrev pub is_kicker : Option ℕ → Bool
is_kicker None = true
is_kicker (Some set) = is_rank_set set

-- a pattern of the language: 1 to 5 wild cards, exactly 4 of them beside a kicker; sets of ranks that aren't empty
abbrev pub is_pattern : Pattern → Bool
is_pattern (FiveKind set) = is_rank_set set
is_pattern (Wilds count None) = nat_le 1 count && nat_le count 5
is_pattern (Wilds count (Some set)) = (count == 4) && is_rank_set set
is_pattern (Quads set kicker) = is_rank_set set && is_kicker kicker
is_pattern (Pair set) = is_rank_set set
is_pattern _ = true

-- payments for `coins` bets, each at most 500000; the columns above are 0
pub record ArePays (coins : ℕ) (pays : List ℕ) : Type 0 where
  pub columns : length pays ≡ 5
  pub within : list_all (λ pay. nat_le pay 500000) pays ≡ true
  pub above : drop coins pays ≡ replicate (5 - coins) 0

-- a pay line of a table with `coins` bets
pub record IsPayLine (coins : ℕ) (line : PayLine) : Type 0 where
  pub name : is_name line.name ≡ true
  pub pattern : is_pattern line.pattern ≡ true
  pub pays : ArePays coins line.pays

-- a pay table that keeps the rules and limits of the table language
pub record IsTable (t : PayTable) : Type 0 where
  pub name : is_name t.name ≡ true
  pub known_deck : IsDeck t.deck
  pub wild : IfSome t.wild (λ rank. rank < 13)
  pub some_coins : 1 ≤ t.coins
  pub most_coins : t.coins ≤ 5
  pub some_lines : 1 ≤ length t.lines.items
  pub most_lines : length t.lines.items ≤ 32
  pub lines : All (IsPayLine t.coins) t.lines.items
  pub names : IsDistinct (pointwise eqb) (map (λ line. line.name) t.lines.items)
