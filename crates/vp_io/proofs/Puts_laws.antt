-- Texts that are put one after the other.
use Rattle.std.proofs.Common.{◌≡◌, ℕ, List, ◌++◌, Result, Ok, Err, arith, subst}
use Rattle.std.specs.Prelude.{IsErr}
use Rattle.vp_io.specs.Causes.{Rose}
use Rattle.vp_io.specs.Puts.{Puts}
use Rattle.vp_io.specs.Streams.{Told}
use Rattle.vp_io.proofs.Moved.{TookPart-after, TookPart-longer}
use Rattle.std.proofs.KnownBytes.{Appends-trans}

-- a call that stopped at its text put a part of every longer text
stopped : {T U E F : Type 0} (old new : Told) (e : E) (result : Result U F) (text more : List ℕ) → IsErr result → Puts {T = T} old new (Err e) text → Puts old new result (text ++ more)
stopped old new e (Ok v) text more h p = cc
stopped old new e (Err f) text more h p = record {
  all = tt;
  part = TookPart-longer old.bytes new.bytes text more p.part;
  cause = record { later = p.cause.later; failed = p.cause.failed; kept = tt };
}

-- a text was put, and then a call put the rest of it
continued : {T U E F : Type 0} (old mid new : Told) (done : T) (result : Result U F) (text more : List ℕ) → Puts {E = E} old mid (Ok done) text → Puts mid new result more → Puts old new result (text ++ more)
continued old mid new done (Ok v) text more p q = record {
  all = Appends-trans old.bytes mid.bytes new.bytes text more p.all q.all;
  part = tt;
  cause = record { later = omega arith; failed = tt; kept = omega arith };
}
continued old mid new done (Err f) text more p q = record {
  all = tt;
  part = TookPart-after old.bytes mid.bytes new.bytes text more p.all q.part;
  cause = record { later = omega arith; failed = subst (λ (b : ℕ). Rose b new.faults) p.cause.kept q.cause.failed; kept = tt };
}

-- a call that stopped at its text put a part of every longer text
pub Puts_stopped : {T U E F : Type 0} {old new : Told} {first : Result T E} {e : E} {result : Result U F} {text : List ℕ} (more : List ℕ) → first ≡ Err e → IsErr result → Puts old new first text → Puts old new result (text ++ more)
Puts_stopped {old = old} {new = new} {e = e} {result = result} {text = text} more is h p =
    stopped old new e result text more h (subst (λ r. Puts old new r text) is p)

-- a text was put, and then a call put the rest of it
pub Puts_then : {T U E F : Type 0} {old mid new : Told} {first : Result T E} {done : T} {result : Result U F} {text : List ℕ} (more : List ℕ) → first ≡ Ok done → Puts old mid first text → Puts mid new result more → Puts old new result (text ++ more)
Puts_then {old = old} {mid = mid} {new = new} {done = done} {result = result} {text = text} more is p q =
    continued old mid new done result text more (subst (λ r. Puts old mid r text) is p) q

-- the same text in other words
pub Puts_as : {T E : Type 0} {old new : Told} {result : Result T E} {a b : List ℕ} → a ≡ b → Puts old new result a → Puts old new result b
Puts_as {old = old} {new = new} {result = result} same p = subst (λ (t : List ℕ). Puts old new result t) same p
