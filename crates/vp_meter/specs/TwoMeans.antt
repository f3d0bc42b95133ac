-- The two tables of a metered bet: no public clause rests on this file.
use Rattle.vp_count.specs.Table.{AreSumsOf, Table}
use Rattle.vp_meter.specs.Metered.{IsMetering, Metering, base_pay, hit}

-- the sums of what the hands are paid by other lines, and of how many are paid by this one
pub record IsMetered (m : Metering) (others counted : Table) : Type 0 where
  pub metering : IsMetering m
  pub base : AreSumsOf m.table.deck (base_pay m.table m.coin m.place) others
  pub hits : AreSumsOf m.table.deck (hit m.table m.place) counted
