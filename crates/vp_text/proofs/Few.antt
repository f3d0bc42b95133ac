-- A text has at most as many lines as bytes.
use Rattle.std.proofs.Common.{ℕ, ◌+◌, ◌≤◌, Bool, true, false, eqb, cond, List, [], ◌∷◌, length, arith}
use Rattle.std.specs.List.{onto_first}
use Rattle.vp_text.specs.Lines.{is_empty, lines_between, lines_in, numbered, said, words_in, feed_of}
use Rattle.vp_text.proofs.Cuts.{split_some}

at_most : (b : Bool) (head : List ℕ) → length (cond b [] (head ∷ [])) ≤ 1
at_most true head = omega arith
at_most false head = omega arith

one_longer : (b : ℕ) (head : List ℕ) (more : List (List ℕ)) (n : ℕ) → length (lines_between (head ∷ more)) ≤ n → length (lines_between ((b ∷ head) ∷ more)) ≤ n + 1
one_longer b head [] n le = let m = at_most (is_empty (b ∷ head)) (b ∷ head) in omega (arith, m)
one_longer b head (next ∷ more) n le = omega (arith, le)

pub few_lines : (bytes : List ℕ) → length (lines_in bytes) ≤ length bytes
few_lines [] = omega arith
few_lines (b ∷ bytes) =
    let s = split_some (λ byte. eqb byte 10) bytes in
    let rec : length (lines_between (s.0 ∷ s.1)) ≤ length bytes = rw s.2 at (few_lines bytes) in
    rw s.2 (elim (eqb b 10) as (λ v. length (lines_between (cond v ([] ∷ s.0 ∷ s.1) (onto_first b (s.0 ∷ s.1)))) ≤ length (b ∷ bytes)) [
      | true ↦ omega (arith, rec)
      | false ↦ let l = one_longer b s.0 s.1 (length bytes) rec in omega (arith, l)
    ])

pub few_numbered : (k : ℕ) (texts : List (List ℕ)) → length (numbered k texts) ≤ length texts
few_numbered k [] = omega arith
few_numbered k (t ∷ texts) = elim (eqb (length (words_in (said t))) 0) as (λ v. length (cond v (numbered (k + 1) texts) (record { line = k; words = words_in (said t) } ∷ numbered (k + 1) texts)) ≤ length (t ∷ texts)) [
  | true ↦ omega (arith, few_numbered (k + 1) texts)
  | false ↦ omega (arith, few_numbered (k + 1) texts)
]

-- a text has at most as many lines with words as bytes
pub few_given : (bytes : List ℕ) → length (feed_of bytes).lines ≤ length bytes
few_given bytes = let l = few_lines bytes in let n = few_numbered 1 (lines_in bytes) in omega arith
