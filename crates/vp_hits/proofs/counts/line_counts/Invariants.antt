-- Of two lines for each half that was done it stands how often they come.
use Rattle.std.proofs.Common.{◌≡◌, ◌*◌, ◌<◌, ℕ, length, get_or}
use Rattle.vp_hits.specs.Hits.{often}
use Rattle.vp_hits.specs.Numbers.{asked_at}
use Rattle.vp_hits.proofs.counts.line_counts.Given as goal

abbrev pub invariant-loop-half : goal.invariant-loop-half
invariant-loop-half l = record {
  long : length l.lines ≡ 34;
  counted : (i : ℕ) → i < 2 * l.half → get_or l.lines i 0 ≡ often l.printed.table l.printed.coin (asked_at l.table i);
}
