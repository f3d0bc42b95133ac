use Rattle.std.proofs.Common.{length, ap, ◌∙◌}
use Rattle.vp_compile.specs.Rows.{cell}
use Rattle.vp_compile.proofs.Places.{row_is, cell_is, cells_end}
use Rattle.vp_compile.proofs.laws.cells_stand_by_class.Goals as goal

pub returns : goal.returns
returns c rules class rule weights best none cells m h l =
    ap (λ r. cell r rule) (row_is rules weights best none cells class h) ∙ cell_is rules weights best none cells class rule l (cells_end rules (length weights) class (length cells) h m.sizes.full)
