use Rattle.std.proofs.Common.{◌≡◌, suc, ◌-◌, ◌*◌, length, ap, sym, ◌∙◌, arith}
use Rattle.vp_count.specs.Sums.{containing}
use Rattle.vp_count.proofs.Levels.{level_sum}
use Rattle.vp_count.proofs.laws.levels_add_up.Goals as goal

pub returns : goal.returns
returns c n w s g few =
    let more : suc (4 - length s) ≡ 5 - length s = omega arith in
    level_sum n (4 - length s) w s g (omega arith) ∙ ap (λ m. m * containing n w s) more
