use Rattle.std.proofs.Common.{◌≡◌, ℕ, ◌+◌, ◌<◌, get_or, drop}
use Rattle.vp_sets.proofs.index.next_set.Given as goal

abbrev pub invariant-loop-i : goal.invariant-loop-i
invariant-loop-i l = record {
  low : (k : ℕ) → k < l.i → get_or l.set k 0 ≡ k;
  at : get_or l.set l.place 0 ≡ get_or l.initial.set l.place 0;
  rest : drop (l.place + 1) l.set ≡ drop (l.place + 1) l.initial.set;
}
