-- The classes, the pieces and the last line are put one after the other.
use Rattle.std.proofs.Common.{◌∙◌, sym}
use Rattle.vp_io.proofs.Puts_laws.{Puts_as, Puts_then, Puts_stopped}
use Rattle.vp_meter.proofs.MeterText.{classes_first, whole_text, slope_small, last_line}
use Rattle.vp_meter.proofs.report.put_body.Goals as goal

pub returns-in_err-first : goal.returns-in_err-first
returns-in_err-first g c = Puts_as (sym (classes_first _ _ _)) (Puts_stopped _ c.in_err-first.was c.from_residual.ensures.0 c.put_classes.ensures.puts)

pub returns-in_err-put_piece : goal.returns-in_err-put_piece
returns-in_err-put_piece g c =
    Puts_as (sym (whole_text _ _ _ _ _ c.put_classes.ensures.metering c.requires.order c.in_ok-first.ensures.first c.in_ok-first.ensures.tallied (c.put_classes.ensures.long ∙ c.requires.long)))
    (Puts_then _ c.in_ok-first.was c.put_classes.ensures.puts (Puts_stopped _ c.in_err-put_piece.was c.from_residual-in_err-put_piece.ensures.0 c.put_piece.ensures))

pub put_later_pieces-requires-clause-small : goal.put_later_pieces-requires-clause-small
put_later_pieces-requires-clause-small g c = slope_small _ _ _ _ c.put_classes.ensures.metering c.requires.order c.in_ok-first.ensures.first

pub returns-in_err-put_later_pieces : goal.returns-in_err-put_later_pieces
returns-in_err-put_later_pieces g c =
    Puts_as (sym (whole_text _ _ _ _ _ c.put_classes.ensures.metering c.requires.order c.in_ok-first.ensures.first c.in_ok-first.ensures.tallied (c.put_classes.ensures.long ∙ c.requires.long)))
    (Puts_then _ c.in_ok-first.was c.put_classes.ensures.puts (Puts_then _ c.in_ok-put_piece.was c.put_piece.ensures
    (Puts_stopped last_line c.in_err-put_later_pieces.was c.from_residual-in_err-put_later_pieces.ensures.0 c.put_later_pieces.ensures)))

pub returns : goal.returns
returns g c =
    Puts_as (sym (whole_text _ _ _ _ _ c.put_classes.ensures.metering c.requires.order c.in_ok-first.ensures.first c.in_ok-first.ensures.tallied (c.put_classes.ensures.long ∙ c.requires.long)))
    (Puts_then _ c.in_ok-first.was c.put_classes.ensures.puts (Puts_then _ c.in_ok-put_piece.was c.put_piece.ensures
    (Puts_then _ c.in_ok-put_later_pieces.was c.put_later_pieces.ensures c.put_words.ensures)))
