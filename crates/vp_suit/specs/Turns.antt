-- The 24 turns of the suits, and what they make of a deal and of a mask.
use Rattle.std.specs.Prelude.{ℕ, zero, suc, ◌+◌, ◌*◌, if◌then◌else◌, nat_lt, List, [], ◌∷◌, map, slice_index, slice_index_or}
use Rattle.std.specs.List.{flat_map}
use Rattle.vp_card.specs.Cards.{rank, suit, held, joined}
use Rattle.vp_sets.specs.Draws.{mask_of}
use Rattle.vp_sets.specs.Sets.{deck, without}

-- the lists of k different members of s, in lexicographic order
unfoldable pub arrangements : ℕ → List ℕ → List (List ℕ)
arrangements zero s = [] ∷ []
arrangements (suc k) s = flat_map (λ x. map (λ y. x ∷ y) (arrangements k (without s (x ∷ [])))) s

-- the suit that turn t makes of a suit: the t-th permutation of clubs, diamonds, hearts and spades
unfoldable pub turned_suit : ℕ → ℕ → ℕ
turned_suit t s = slice_index (slice_index_or (arrangements 4 (deck 4)) t []) s

-- the card that turn t makes of a card: the rank stays, and so does a joker
unfoldable pub turned : ℕ → ℕ → ℕ
turned t card = if nat_lt card 52 then 4 * rank card + turned_suit t (suit card) else card

-- the deal that turn t makes of a deal, in rising order
unfoldable pub turn : ℕ → List ℕ → List ℕ
turn t cards = joined (map (λ card. turned t card) cards) []

-- the mask over the turned deal that holds the turned cards
unfoldable pub carried : ℕ → List ℕ → ℕ → ℕ
carried t cards mask = mask_of (turn t (held mask cards)) (turn t cards)
