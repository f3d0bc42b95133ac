-- Which sets are parts of which. As in any textbook of set theory.
use Rattle.std.specs.Prelude.{ℕ, Bool, List}
use Rattle.std.specs.List.{list_all}
use Rattle.vp_sets.specs.Sets.{has}

-- whether h has all members of s
unfoldable pub has_all : List ℕ → List ℕ → Bool
has_all h s = list_all (λ c. has h c) s
