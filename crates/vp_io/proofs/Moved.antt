-- Two calls, one after the other: what they gave or took together.
use Rattle.std.proofs.Common.{◌≡◌, ℕ, ◌+◌, ◌≤◌, List, ◌++◌, length, take, drop, sym, subst, arith, length-append}
use Rattle.std.specs.Prelude.{Option}
use Rattle.std.specs.Io.KnownBytes.{Appends, Consumes}
use Rattle.std.proofs.KnownBytes.{Appends-trans, Consumes-trans}
use Rattle.std.proofs.Math.Seq.{take-add, take-append-add}
use Rattle.std.proofs.lemmas.List.{take-append-le}
use Rattle.vp_io.specs.Streams.{GaveUpTo, TookPart}

-- a source that gave bytes, and then some more
pub GaveUpTo-after : (a b c : Option (List ℕ)) (bytes : List ℕ) (m n : ℕ) → Consumes a b bytes → GaveUpTo b c m → length bytes + m ≤ n → GaveUpTo a c n
GaveUpTo-after a b c bytes m n first (more, moved, short) le =
    (bytes ++ more, Consumes-trans a b c bytes more first moved, omega (arith, length-append bytes more))

-- a sink that took the front, and then more of the rest
pub Appends-more : (a b c : Option (List ℕ)) (m n : ℕ) (xs rest : List ℕ) → rest ≡ drop m xs → Appends a b (take m xs) → Appends b c (take n rest) → Appends a c (take (m + n) xs)
Appends-more a b c m n xs rest rest_is first more =
    let then = subst (λ (r : List ℕ). Appends b c (take n r)) rest_is more in
    subst (Appends a c) (sym (take-add m n xs)) (Appends-trans a b c (take m xs) (take n (drop m xs)) first then)

-- a sink that took one text, and then a part of another
pub TookPart-after : (a b c : Option (List ℕ)) (xs ys : List ℕ) → Appends a b xs → TookPart b c ys → TookPart a c (xs ++ ys)
TookPart-after a b c xs ys first (n, short, more) =
    let joined = Appends-trans a b c xs (take n ys) first more in
    (length xs + n, omega (arith, length-append xs ys), subst (Appends a c) (sym (take-append-add xs ys n)) joined)

-- a part of a text is a part of a longer one
pub TookPart-longer : (a b : Option (List ℕ)) (xs ys : List ℕ) → TookPart a b xs → TookPart a b (xs ++ ys)
TookPart-longer a b xs ys (n, short, part) =
    let le : n ≤ length xs = omega arith in
    (n, omega (arith, length-append xs ys), subst (Appends a b) (sym (take-append-le n xs ys le)) part)
