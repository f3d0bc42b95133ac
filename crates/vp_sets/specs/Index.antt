-- Sets of cards as rising lists, numbered in colex order. Colex order and the index in it, a sum of binomial numbers, are as in any
-- textbook of combinatorics.
use Rattle.std.specs.Prelude.{◌≡◌, ℕ, zero, suc, ◌+◌, ◌<◌, List, [], ◌∷◌, ◌++◌, length, map}
use Rattle.std.specs.List.{All}
use Rattle.std.specs.List.Sorted.{IsStrictlyIncreasing}
use Rattle.vp_sets.specs.Sets.{choose}

-- a set of numbers below n: a list that rises
pub record IsSet (n : ℕ) (s : List ℕ) : Type 0 where
  pub rising : IsStrictlyIncreasing s
  pub below : All (λ c. c < n) s

-- the index of a set whose first j members are left out
unfoldable pub index_from : ℕ → List ℕ → ℕ
index_from j [] = 0
index_from j (c ∷ s) = choose c (suc j) + index_from (suc j) s

-- the index of the set c0 < c1 < .. is C(c0,1) + C(c1,2) + ..
unfoldable pub set_index : List ℕ → ℕ
set_index s = index_from 0 s

-- all sets of k of the numbers below n, by rising index: first those without the greatest number
unfoldable pub colex : ℕ → ℕ → List (List ℕ)
colex zero n = [] ∷ []
colex (suc k) zero = []
colex (suc k) (suc n) = colex (suc k) n ++ map (λ s. s ++ n ∷ []) (colex k n)

-- s is the set of k of the numbers below n that has the index i
pub record HasIndex (n k i : ℕ) (s : List ℕ) : Type 0 where
  pub is_set : IsSet n s
  pub many : length s ≡ k
  pub index : set_index s ≡ i
