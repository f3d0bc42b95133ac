use Rattle.std.proofs.Common.{sym}
use Rattle.vp_text.proofs.Cuts.{line_found, line_missing}
use Rattle.vp_text.proofs.Rests.{after_found, after_missing}
use Rattle.vp_text.proofs.cutting.cut_line.Goals as goal

pub returns-in-Some-clause-cut : goal.returns-in-Some-clause-cut
returns-in-Some-clause-cut c =
    let whole = line_found c.args.bytes.now c.in-Some.end (sym c.in-Some.ensures) in
    rw (c.split_at.ensures.front, c.split_at-in-Some.ensures.back, c.split_at.ensures.back) whole

pub returns-in-None-clause-cut : goal.returns-in-None-clause-cut
returns-in-None-clause-cut c =
    let whole = line_missing c.args.bytes.now c.requires (sym c.in-None.ensures) in
    rw (c.split_at-in-None.ensures.front, c.split_at-in-None.ensures.back) whole

pub returns-in-Some-clause-behind : goal.returns-in-Some-clause-behind
returns-in-Some-clause-behind c =
    let whole = after_found c.args.bytes.now c.in-Some.end (sym c.in-Some.ensures) in
    rw (c.split_at-in-Some.ensures.back, c.split_at.ensures.back) whole

pub returns-in-None-clause-behind : goal.returns-in-None-clause-behind
returns-in-None-clause-behind c =
    let whole = after_missing c.args.bytes.now (sym c.in-None.ensures) in
    rw c.split_at-in-None.ensures.back whole
