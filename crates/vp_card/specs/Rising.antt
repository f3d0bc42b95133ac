-- Lists of cards that rise, and how often a card stands in one: for proofs.
use Rattle.std.specs.Prelude.{ℕ, ◌+◌, ◌<◌, if◌then◌else◌, ◌==◌, List, [], ◌∷◌}

-- how often a card stands in a list
abbrev pub times : ℕ → List ℕ → ℕ
times card [] = 0
times card (other ∷ more) = (if other == card then 1 else 0) + times card more

-- a card is below every card of a list
abbrev pub IsBelow : ℕ → List ℕ → Type 0
IsBelow card [] = Unit {0}
IsBelow card (other ∷ more) = (card < other) × IsBelow card more

-- each card is below all later ones
abbrev pub IsRising : List ℕ → Type 0
IsRising [] = Unit {0}
IsRising (card ∷ cards) = IsBelow card cards × IsRising cards
