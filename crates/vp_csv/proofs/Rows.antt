-- The fields of a record of seven.
use Rattle.std.proofs.Common.{◌≡◌, ◌≢◌, ℕ, List, [], ◌∷◌, length, Some, None, refl, arith}
use Rattle.csv.specs.Records.{field_at}
use Rattle.vp_csv.specs.Fields.{row_of}
use Rattle.vp_csv.specs.Left.{given}
use Rattle.vp_csv.specs.Records.{Record}

abbrev at : Record → ℕ → List ℕ
at r i = given (field_at r i)

pub seven_are : (r : Record) → length r ≡ 7
    → row_of r ≡ Some (record { session = at r 0; bet = at r 1; deal = at r 2; hold = at r 3; draw = at r 4; pay = at r 5; credits = at r 6 })
unfolding field_at
seven_are (a ∷ b ∷ c ∷ d ∷ e ∷ f ∷ g ∷ []) is = refl
seven_are [] is = absurd (omega arith)
seven_are (a ∷ []) is = absurd (omega arith)
seven_are (a ∷ b ∷ []) is = absurd (omega arith)
seven_are (a ∷ b ∷ c ∷ []) is = absurd (omega arith)
seven_are (a ∷ b ∷ c ∷ d ∷ []) is = absurd (omega arith)
seven_are (a ∷ b ∷ c ∷ d ∷ e ∷ []) is = absurd (omega arith)
seven_are (a ∷ b ∷ c ∷ d ∷ e ∷ f ∷ []) is = absurd (omega arith)
seven_are (a ∷ b ∷ c ∷ d ∷ e ∷ f ∷ g ∷ h ∷ more) is = absurd (omega arith)

pub not_seven : (r : Record) → length r ≢ 7 → row_of r ≡ None
not_seven (a ∷ b ∷ c ∷ d ∷ e ∷ f ∷ g ∷ []) is = absurd (is refl)
not_seven [] is = refl
not_seven (a ∷ []) is = refl
not_seven (a ∷ b ∷ []) is = refl
not_seven (a ∷ b ∷ c ∷ []) is = refl
not_seven (a ∷ b ∷ c ∷ d ∷ []) is = refl
not_seven (a ∷ b ∷ c ∷ d ∷ e ∷ []) is = refl
not_seven (a ∷ b ∷ c ∷ d ∷ e ∷ f ∷ []) is = refl
not_seven (a ∷ b ∷ c ∷ d ∷ e ∷ f ∷ g ∷ h ∷ more) is = refl
