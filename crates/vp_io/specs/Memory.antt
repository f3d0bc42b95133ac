-- Sources and sinks in memory: how much a call moves, and which calls fail.
use Rattle.std.specs.Prelude.{ℕ, Bool, ◌==◌, ◌&&◌, nat_lt, List, length}
use Rattle.std.specs.List.{list_any}
use Rattle.vp_io.specs.Causes.{one_more}

-- the calls of an object in memory: the most bytes that one moves, the numbers of those that fail, how many came, how many failed
pub record MemCalls : Type 0 where
  pub step : ℕ
  pub fails : List ℕ
  pub made : ℕ
  pub faults : ℕ

-- the number of the next call, from 1, is listed
abbrev pub fails_next : MemCalls → Bool
fails_next calls = list_any (λ k. k == one_more calls.made) calls.fails

-- after a call that does not fail
abbrev pub after_call : MemCalls → MemCalls
after_call calls = record calls { made = one_more calls.made }

-- after a call that fails
abbrev pub after_fault : MemCalls → MemCalls
after_fault calls = record calls { made = one_more calls.made; faults = one_more calls.faults }

-- before the first call
abbrev pub no_calls : ℕ → List ℕ → MemCalls
no_calls step fails = record { step = step; fails = fails; made = 0; faults = 0 }

-- a source in memory: the bytes that are left, and its calls
pub record Tape : Type 0 where
  pub left : List ℕ
  pub calls : MemCalls

-- a sink in memory: the bytes that it took, how many it has room for in all, and its calls
pub record Room : Type 0 where
  pub taken : List ℕ
  pub size : ℕ
  pub calls : MemCalls

-- the sink is full, and there is something to take
abbrev pub overflows : Room → List ℕ → Bool
overflows room piece = (length room.taken == room.size) && nat_lt 0 (length piece)
