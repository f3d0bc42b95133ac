use Rattle.std.proofs.Common.{◌≡◌, ◌-◌, drop, replicate, length}
use Rattle.vp_text.specs.Pieces.{so_many}
use Rattle.vp_pay.specs.Reading.{payment_of}
use Rattle.vp_pay.proofs.Columns.{ahead}
use Rattle.vp_pay.proofs.pay_line.columns.Given as goal

abbrev pub invariant-loop-column : goal.invariant-loop-column
invariant-loop-column l = record {
  so_far : ahead l.coins l.column l.pays l.words.words ≡ so_many payment_of l.coins l.fn.words.words;
  above : drop l.column l.pays ≡ replicate (5 - l.column) 0;
  all : length l.pays ≡ 5;
}
