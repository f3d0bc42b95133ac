-- Several hands from one deal: a deal and its hold are drawn to k times, each time from the same cards, and each list of k draws
-- is as likely as the others.
use Rattle.std.specs.Prelude.{◌≡◌, ℕ, zero, suc, ◌*◌, ◌^◌, List, [], ◌∷◌, length, map, flat_map, sum_by}
use Rattle.vp_card.specs.Cards.{held, joined}
use Rattle.vp_pay.specs.declared.table.PayTable.{PayTable}
use Rattle.vp_sets.specs.Draws.{common, draws}
use Rattle.vp_wild.specs.Payment.{pay}

-- all lists of k members of xs, repeats allowed
unfoldable pub tuples : {A : Type 0} → ℕ → List A → List (List A)
tuples zero xs = [] ∷ []
tuples (suc k) xs = flat_map (λ x. map (λ t. x ∷ t) (tuples k xs)) xs

-- the sum over all lists of k members of the total that f gives to a list
unfoldable pub total_of : {A : Type 0} → (A → ℕ) → ℕ → List A → ℕ
total_of f k xs = sum_by (λ t. sum_by f t) (tuples k xs)

-- and of the square of that total
unfoldable pub squares_of : {A : Type 0} → (A → ℕ) → ℕ → List A → ℕ
squares_of f k xs = sum_by (λ t. sum_by f t * sum_by f t) (tuples k xs)

-- the payment of the final hand of a draw
abbrev pub paid : PayTable → ℕ → List ℕ → ℕ → List ℕ → ℕ
paid table coin cards mask drawn = pay table coin (joined (held mask cards) drawn)

-- over all lists of k draws of a hold, the sum of the total payments of the k final hands, and of the squares of these
abbrev pub sum_of_totals : PayTable → ℕ → ℕ → List ℕ → ℕ → ℕ
sum_of_totals table coin k cards mask = total_of (paid table coin cards mask) k (draws table.deck cards mask)

abbrev pub sum_of_squares : PayTable → ℕ → ℕ → List ℕ → ℕ → ℕ
sum_of_squares table coin k cards mask = squares_of (paid table coin cards mask) k (draws table.deck cards mask)

-- the mean of the total payment of k hands is `first` over the common denominator of the deck, and the mean of its square is
-- `second` over the square of that
pub record AreMoments (table : PayTable) (coin k : ℕ) (cards : List ℕ) (mask first second : ℕ) : Type 0 where
  pub mean : sum_of_totals table coin k cards mask * common table.deck ≡ first * length (draws table.deck cards mask) ^ k
  pub square : sum_of_squares table coin k cards mask * common table.deck * common table.deck ≡ second * length (draws table.deck cards mask) ^ k
