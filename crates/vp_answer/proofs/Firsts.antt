-- Where none of some is there, and where the first is not.
use Rattle.std.proofs.Common.{◌≡◌, List, ◌∷◌, refl, Some, None}
use Rattle.std.specs.Prelude.{Option}
use Rattle.vp_answer.specs.Firsts.{first_of}

-- the first of some is none: none of them is there
pub first_none : {A : Type 0} (o : Option A) (more : List (Option A)) → first_of (o ∷ more) ≡ None → o ≡ None
first_none None more e = refl
first_none (Some x) more e = e

pub rest_none : {A : Type 0} (o : Option A) (more : List (Option A)) → first_of (o ∷ more) ≡ None → first_of more ≡ None
rest_none None more e = e
rest_none (Some x) more e = absurd cc

-- none of them is there: the first of them is none
pub none_first : {A : Type 0} (o : Option A) (more : List (Option A)) → o ≡ None → first_of more ≡ None → first_of (o ∷ more) ≡ None
none_first o more is rest = rw is rest
