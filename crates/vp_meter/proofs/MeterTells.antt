-- The line with a name, and what the text of `meter` tells.
use Rattle.std.proofs.Common.{◌≡◌, ℕ, ◌<◌, true, [], List, length, get_or, refl, ap, ◌∙◌, Option, Some, None}
use Rattle.std.specs.Prelude.{bytes_eq, is_some}
use Rattle.std.proofs.lemmas.List.{get_or-map}
use Rattle.std.proofs.lemmas.List.Quantifiers.{position-Some}
use Rattle.std.proofs.lemmas.Slice.Eq.{bytes_eq-Decides}
use Rattle.vp_text.specs.Written.{written}
use Rattle.vp_text.proofs.Pieces.{both_true}
use Rattle.vp_pay.specs.Bets.{IsBet}
use Rattle.vp_pay.specs.Inputs.{has_bet}
use Rattle.vp_pay.specs.LineNames.{name_at, place_of}
use Rattle.vp_pay.specs.declared.pattern.Pattern.TheVariants.{Royal}
use Rattle.vp_pay.specs.declared.pattern.Qualifier.TheVariants.{Either}
use Rattle.vp_pay.specs.declared.table.PayLine.{PayLine}
use Rattle.vp_pay.specs.declared.table.PayTable.{PayTable}
use Rattle.vp_pay.proofs.FittingBets.{bet_fits}
use Rattle.vp_pay.proofs.Inputs.{tables_read}
use Rattle.vp_meter.specs.Meter.{MeterInputsAreRead, Ranged, has_line, metering_of}
use Rattle.vp_meter.specs.MeterTells.{MetersAreTold}
use Rattle.vp_meter.specs.Metered.{IsMetering, Metering}
use Rattle.vp_meter.specs.Spelling.{meter_text}
use Rattle.vp_meter.proofs.Exact.{meter_tells}
use Rattle.vp_meter.proofs.PieceTells.{pieces_tell}

-- ---- the line with a name

-- its place is one of the table's, and the line there has the name
record OnLine (name : List ℕ) (table : PayTable) (place : ℕ) : Type 0 where
  pub inside : place < length table.lines.items
  pub named : name_at table place ≡ name

nothing : PayLine
nothing = record { name = []; pattern = Royal; qualifier = Either; pays = [] }

on_line : (name : List ℕ) (table : PayTable) (place : ℕ) → place_of table name ≡ Some place → OnLine name table place
on_line name table place is =
    let found = position-Some (λ (line : PayLine). bytes_eq line.name name) table.lines.items place nothing is in
    record {
      inside = found.0;
      named =
          get_or-map (λ (line : PayLine). line.name) table.lines.items place nothing [] found.0
          ∙ (bytes_eq-Decides (get_or table.lines.items place nothing).name name).0 found.1;
    }

-- a table that has the bet, and the line at the place of the name
metering_is : (coin : ℕ) (name : List ℕ) (table : PayTable) (place : ℕ) → IsBet table coin → place_of table name ≡ Some place → IsMetering (metering_of coin name table)
metering_is coin name table place bet is = record { bet = bet; inside = rw is ((on_line name table place is).inside) }

-- ---- what is told

pub inputs_read : MeterInputsAreRead
inputs_read coin name = tables_read (has_line coin name)

some_place : (place : Option ℕ) → is_some place ≡ true → (found : ℕ) × (place ≡ Some found)
some_place (Some found) h = (found, refl)
some_place None h = absurd cc

pub meters_told : MetersAreTold
meters_told coin lo hi name bytes table some says =
    let found = ((tables_read (has_line coin name)).spelled bytes (table, tt)).0 says in
    let parts = both_true (has_bet coin table) (is_some (place_of table name)) found.1 in
    let place = some_place (place_of table name) parts.1 in
    let bet : IsBet table coin = record { rules = found.0; some = some; within = bet_fits coin table.coins parts.0 } in
    let metering = metering_is coin name table place.0 bet place.1 in
    record {
      status = refl;
      text = refl;
      metering = metering;
      named = rw place.1 ((on_line name table place.0 place.1).named);
      tells = meter_tells (metering_of coin name table) lo hi metering;
      pieces_tell = pieces_tell (metering_of coin name table) lo hi metering;
    }

-- ---- what a job puts

unfoldable the_metering : PayTable → ℕ → ℕ → Metering
the_metering table coin place = record { table = table; coin = coin; place = place }

same_metering : (t u : PayTable) (a b c d : ℕ) → t ≡ u → a ≡ b → c ≡ d → the_metering t a c ≡ the_metering u b d
same_metering t u a b c d is_t is_a is_c = rw (is_t, is_a, is_c) refl

-- the text of the metered bet that was made is that of the job
pub text_is : (r : Ranged) (m : Metering) (table : PayTable) (coin place lo hi : ℕ) → record { metering = record { table = table; coin = coin; place = place }; lo = lo; hi = hi } ≡ r
    → m.table ≡ table → m.coin ≡ coin → m.place ≡ place → written (meter_text m lo hi) ≡ written (meter_text r.metering r.lo r.hi)
unfolding the_metering
text_is r m table coin place lo hi is is_table is_coin is_place =
    ap (λ (k : Metering). written (meter_text k lo hi)) (same_metering m.table table m.coin coin m.place place is_table is_coin is_place)
    ∙ ap (λ (r : Ranged). written (meter_text r.metering r.lo r.hi)) is
