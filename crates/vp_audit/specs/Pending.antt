-- The exceptions that are left, of which the first may be that of the next class. This is how exceptions are looked up: no public clause
-- rests on it.
use Rattle.std.specs.Prelude.{ℕ, Bool, true, false, if◌then◌else◌, ◌==◌, is_some, List, [], ◌∷◌, ◌++◌, Option, Some, None, option_to_list}
use Rattle.vp_sets.specs.Index.{set_index}
use Rattle.vp_rule.specs.Lists.{Exception}

-- the mask of the exception ahead, where it is of this class
abbrev pub head_mask : Option Exception → List ℕ → Option ℕ
head_mask None cards = None
head_mask (Some e) cards = if set_index e.0 == set_index cards then Some e.1 else None

-- what is left of the exceptions behind a class, the first of which is the class's or not
abbrev pub behind_head : Bool → List Exception → List Exception
behind_head b [] = []
behind_head true (e ∷ es) = es
behind_head false (e ∷ es) = e ∷ es

-- the exceptions that are left, with the one ahead in front
abbrev pub pending : Option Exception → List Exception → List Exception
pending ahead rest = option_to_list ahead ++ rest

-- what is left of them behind a class
abbrev pub pending_behind : List ℕ → Option Exception → List Exception → List Exception
pending_behind cards ahead rest = behind_head (is_some (head_mask ahead cards)) (pending ahead rest)
