-- Decks, sublists and their number, and what is in a set. Sublists and binomial numbers are as in any textbook of combinatorics.
use Rattle.std.specs.Prelude.{ℕ, zero, suc, ◌+◌, Bool, not, ◌==◌, List, [], ◌∷◌, ◌++◌, map, filter}
use Rattle.std.specs.List.{list_any}

-- the numbers below n, rising: the cards of a deck of n
unfoldable pub deck : ℕ → List ℕ
deck zero = []
deck (suc n) = deck n ++ n ∷ []

-- the sublists of k members
unfoldable pub combos : ℕ → List ℕ → List (List ℕ)
combos zero s = [] ∷ []
combos (suc k) [] = []
combos (suc k) (x ∷ s) = map (λ y. x ∷ y) (combos k s) ++ combos (suc k) s

-- in how many ways k of n things are chosen, by Pascal's rule
unfoldable pub choose : ℕ → ℕ → ℕ
choose n zero = 1
choose zero (suc k) = 0
choose (suc n) (suc k) = choose n k + choose n (suc k)

-- whether a card is in a set
unfoldable pub has : List ℕ → ℕ → Bool
has s c = list_any (λ d. d == c) s

-- the members of s that are not in t
unfoldable pub without : List ℕ → List ℕ → List ℕ
without s t = filter (λ c. not (has t c)) s
