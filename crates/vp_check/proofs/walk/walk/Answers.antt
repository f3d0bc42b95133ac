-- The row that was read is asked, and the rows behind it are left.
use Rattle.std.proofs.Common.{rules, length, ◌≡◌, ◌+◌, nat_le, if◌then◌else◌, List, Option, ap, sym, ◌∙◌, arith}
use Rattle.vp_check.specs.Walks.{asked_or, finding_or, walked_at}
use Rattle.vp_check.specs.declared.finding.Finding.{Finding}
use Rattle.vp_check.specs.declared.numbered.Numbered.{Numbered}
use Rattle.vp_check.proofs.Walked.{later_lines, next_line, one_asked, walk_next}
use Rattle.vp_check.proofs.walk.walk.Goals as goal

pub ask_if-requires-clause-line : goal.ask_if-requires-clause-line
ask_if-requires-clause-line g c = next_line _ _ _ c.in-Some.row c.in-Some.ensures.given c.loop-row.invariant.lines

pub loop-row-preserved : goal.loop-row-preserved
loop-row-preserved g c =
    let one : c.from-many.result ≡ (if nat_le c.args.from c.loop-row.place then 1 else 0) = search rules in
    let later = walked_at c.args.table.now c.args.coin c.args.from c.args.end (c.loop-row.place + 1) c.next.new.self (c.loop-row.many + c.from-many.result) in
    record {
      so_far =
          ap (λ (o : Option Finding). finding_or o (asked_or c.args.table.now c.args.coin c.ask_if.new.asked.items later)) (sym c.in_default-ask_if.is)
          ∙ c.ask_if.ensures.finding later
          ∙ ap (asked_or c.args.table.now c.args.coin c.loop-row.asked.items) (walk_next _ _ _ _ _ _ _ _ _ c.in-Some.row c.in-Some.ensures.given c.if-place-end.false one)
          ∙ c.loop-row.invariant.so_far;
      asked = c.ask_if.ensures.lines;
      few_asked = c.ask_if.ensures.few;
      lines = later_lines _ _ _ c.in-Some.row c.in-Some.ensures.given c.loop-row.invariant.lines;
      left = let many = ap (λ (rows : List Numbered). length rows) c.in-Some.ensures.given in omega (arith, many, c.loop-row.invariant.left);
      few = one_asked _ _ _ _ one c.loop-row.invariant.few;
    }
