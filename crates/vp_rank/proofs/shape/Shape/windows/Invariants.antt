use Rattle.vp_rank.specs.Shapes.{count_of}
use Rattle.vp_rank.specs.Counts.{fits_window}
use Rattle.vp_rank.proofs.Masks.{WindowsBelow}
use Rattle.vp_rank.proofs.shape.Shape.windows.Given as goal

abbrev pub invariant-loop-window : goal.invariant-loop-window
invariant-loop-window l = WindowsBelow l.window l.windows (λ k. fits_window k (count_of l.self))
