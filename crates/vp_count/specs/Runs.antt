-- Sets that differ in their lowest card.
use Rattle.std.specs.Prelude.{ℕ, List, ◌∷◌, map, slice_index}
use Rattle.vp_sets.specs.Sets.{deck}

-- the sets of one card more than `upper`, with each card below its first: they stand one after another by rising index
unfoldable pub run : List ℕ → List (List ℕ)
run upper = map (λ low. low ∷ upper) (deck (slice_index upper 0))
