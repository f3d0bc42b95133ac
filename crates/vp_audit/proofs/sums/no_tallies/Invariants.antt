use Rattle.std.proofs.Common.{◌≡◌, replicate}
use Rattle.vp_audit.specs.Sums.{no_tally}
use Rattle.vp_audit.proofs.sums.no_tallies.Given as goal

abbrev pub invariant-loop : goal.invariant-loop
invariant-loop l = record { so_far : l.tallies.items ≡ replicate l.counter no_tally }
