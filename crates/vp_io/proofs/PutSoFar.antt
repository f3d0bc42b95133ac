-- A text that is put part by part, as in a loop: what was put, and what is left of it.
use Rattle.std.proofs.Common.{◌≡◌, ℕ, List, [], ◌++◌, Result, Ok, Err, arith, refl, ap, subst, sym, ◌∙◌, append_assoc}
use Rattle.std.specs.Prelude.{IsErr}
use Rattle.std.specs.Io.KnownBytes.{Appends}
use Rattle.std.proofs.KnownBytes.{Appends-nil, Appends-trans}
use Rattle.vp_io.specs.Puts.{Puts}
use Rattle.vp_io.specs.Streams.{Told}
use Rattle.vp_io.proofs.Puts_laws.{Puts_as, Puts_stopped, Puts_then}

-- of the whole text, all but what is left was put, and no write has failed
pub record PutSoFar (old new : Told) (whole left : List ℕ) : Type 0 where
  pub front : List ℕ
  pub all : whole ≡ front ++ left
  pub took : Appends old.bytes new.bytes front
  pub calm : new.faults ≡ old.faults

-- nothing was put yet
pub put_start : (old : Told) (whole : List ℕ) → PutSoFar old old whole whole
put_start old whole = record { front = []; all = refl; took = Appends-nil old.bytes; calm = refl }

-- a call put the next part
pub put_more : {U F : Type 0} {old mid new : Told} {one : Result U F} {done : U} {whole left part rest : List ℕ} → left ≡ part ++ rest → one ≡ Ok done
    → Puts mid new one part → PutSoFar old mid whole left → PutSoFar old new whole rest
put_more {old = old} {mid = mid} {new = new} {part = part} {rest = rest} is ok one so =
    let put = subst (λ r. Puts mid new r part) ok one in
    record {
      front = so.front ++ part;
      all = so.all ∙ (ap (λ (l : List ℕ). so.front ++ l) is ∙ sym (append_assoc so.front part rest));
      took = Appends-trans old.bytes mid.bytes new.bytes so.front part so.took put.all;
      calm = put.cause.kept ∙ so.calm;
    }

-- what is left, in other words
pub put_same : {old new : Told} {whole left rest : List ℕ} → left ≡ rest → PutSoFar old new whole left → PutSoFar old new whole rest
put_same is so = record { front = so.front; all = so.all ∙ ap (λ (l : List ℕ). so.front ++ l) is; took = so.took; calm = so.calm }

-- a last call puts what is left
pub put_rest : {U F : Type 0} {old mid new : Told} {result : Result U F} {whole left : List ℕ} → Puts mid new result left → PutSoFar old mid whole left → Puts old new result whole
put_rest {U} {F} {old} {mid} {new} {result} {whole} {left} last so =
    let front : Puts {T = Unit {0}} {E = Unit {0}} old mid (Ok tt) so.front =
    record { all = so.took; part = tt; cause = record { later = omega arith; failed = tt; kept = so.calm } } in
    Puts_as (sym so.all) (Puts_then left refl front last)

-- a call stopped at the next part
pub put_halted : {U V F G : Type 0} {old mid new : Told} {one : Result U F} {e : F} {result : Result V G} {whole left part : List ℕ} (rest : List ℕ) → left ≡ part ++ rest → one ≡ Err e → IsErr result
    → Puts mid new one part → PutSoFar old mid whole left → Puts old new result whole
put_halted rest is err stop one so = put_rest (Puts_stopped rest err stop one) (put_same is so)

-- nothing is left
pub put_all : {T E : Type 0} {old new : Told} {done : T} {whole left : List ℕ} → left ≡ [] → PutSoFar old new whole left → Puts {E = E} old new (Ok done) whole
put_all {new = new} {done = done} none so =
    put_rest (record { all = Appends-nil new.bytes; part = tt; cause = record { later = omega arith; failed = tt; kept = refl } }) (put_same none so)
