-- The next window's bit is set where the window fits.
use Rattle.std.proofs.Common.{◌+◌, ℕ, arith, subst, sym, ◌∙◌}
use Rattle.vp_rank.specs.Shapes.{count_of}
use Rattle.vp_rank.specs.Counts.{fits_window}
use Rattle.vp_rank.proofs.Masks.{WindowsBelow, windows_yes, windows_no}
use Rattle.vp_rank.proofs.shape.Shape.windows.Goals as goal
use Rattle.vp_rank.proofs.shape.Shape.windows.Goals.{then-fits, else-fits}

pub loop-window-preserved : goal.loop-window-preserved
loop-window-preserved c =
    let fits = λ (k : ℕ). fits_window k (count_of c.args.self.now) in
    elim c.if-fits.branch [
      | then-fits w ↦
          subst (λ (m : ℕ). WindowsBelow (c.loop-window.window + 1) m fits) (sym w.windows-is)
          (windows_yes c.loop-window.window c.loop-window.windows fits (omega arith) (sym c.fits.ensures ∙ w.if-fits.true) c.loop-window.invariant)
      | else-fits w ↦
          subst (λ (m : ℕ). WindowsBelow (c.loop-window.window + 1) m fits) (sym w.windows-is)
          (windows_no c.loop-window.window c.loop-window.windows fits (sym c.fits.ensures ∙ w.if-fits.false) c.loop-window.invariant)
    ]
