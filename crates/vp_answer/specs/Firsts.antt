-- The first of some rules that is broken.
use Rattle.std.specs.Prelude.{List, [], ◌∷◌, Option, Some, None}

-- the first that is there
abbrev pub first_of : {A : Type 0} → List (Option A) → Option A
first_of [] = None
first_of (None ∷ more) = first_of more
first_of (Some x ∷ more) = Some x
