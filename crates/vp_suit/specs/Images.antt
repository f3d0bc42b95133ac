-- The different numbers of a list, and the least of them.
use Rattle.std.specs.Prelude.{ℕ, Bool, if◌then◌else◌, nat_le, List, [], ◌∷◌}
use Rattle.std.specs.List.{list_all}
use Rattle.vp_sets.specs.Sets.{has}

-- a list without its repeats
unfoldable pub different : List ℕ → List ℕ
different [] = []
different (x ∷ xs) = if has xs x then different xs else x ∷ different xs

-- no number of the list is below this one
unfoldable pub is_least : ℕ → List ℕ → Bool
is_least x xs = list_all (λ y. nat_le x y) xs
