-- A table that has the line has a place for it.
use Rattle.std.proofs.Common.{ℕ, List, ap, ◌∙◌}
use Rattle.std.specs.Prelude.{is_some}
use Rattle.vp_text.proofs.Pieces.{both_true}
use Rattle.vp_pay.specs.LineNames.{place_of}
use Rattle.vp_meter.proofs.job.MeterJob.read.Goals as goal

pub unwrap-line-requires : goal.unwrap-line-requires
unwrap-line-requires c =
    ap is_some c.position.ensures.value
    ∙ (ap (λ (name : List ℕ). is_some (place_of c.in_ok-table.table name)) c.text.ensures.value ∙ (both_true _ _ c.in_ok-table.ensures.fits).1)
