use Rattle.std.proofs.Common.{◌∙◌, arith}
use Rattle.vp_count.proofs.Words.{first_word_next}
use Rattle.vp_hits.proofs.AskedLines.{asked_line, asked_none, same_often}
use Rattle.vp_hits.proofs.counts.line_counts.Goals as goal

pub of-printed-requires-clause-room : goal.of-printed-requires-clause-room
of-printed-requires-clause-room c = omega (arith, c.requires.longer, first_word_next c.args.table.now.deck 5)

pub returns-clause-lines : goal.returns-clause-lines
returns-clause-lines c = λ place l.
    c.loop-half.invariant.counted place (omega (arith, c.len-many.ensures.value))
    ∙ same_often c.of-printed.ensures.table c.of-printed.ensures.coin (asked_line c.args.table.now place l)

pub returns-clause-none : goal.returns-clause-none
returns-clause-none c =
    c.loop-half.invariant.counted c.len-many.result (omega (arith, c.len-many.ensures.value))
    ∙ same_often c.of-printed.ensures.table c.of-printed.ensures.coin (asked_none c.args.table.now c.len-many.result c.len-many.ensures.value)
