use Rattle.std.proofs.Common.{◌≡◌, ◌+◌, ◌*◌, ◌≤◌, length, map, take}
use Rattle.std.specs.Fmt.{decimal}
use Rattle.vp_text.specs.Written.{with_words}
use Rattle.vp_lines.proofs.lines.add_numbers.Given as goal

abbrev pub invariant-loop-number : goal.invariant-loop-number
invariant-loop-number l = record {
  so_far : l.out ≡ with_words l.fn.out (map decimal (take l.number-index l.numbers));
  room : length l.out ≤ length l.fn.out + 11 * l.number-index;
}
