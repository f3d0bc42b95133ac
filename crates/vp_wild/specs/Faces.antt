-- What the cards of a hand may stand for: each wild card for any natural card, each other card for itself. So dealers and pay tables state
-- the rule of wild cards.
use Rattle.std.specs.Prelude.{◌≡◌, ℕ, ◌<◌, Bool, true, false, List, [], ◌∷◌, Option}
use Rattle.std.specs.Bool.{MatchBool}
use Rattle.vp_rank.specs.Bounded.{some_below}
use Rattle.vp_rank.specs.Wilds.{is_wild}

-- a card may have this face: a wild card any of the 52 natural cards, another card itself
abbrev pub MayStandFor : Option ℕ → ℕ → ℕ → Type 0
MayStandFor wild card face = MatchBool (is_wild wild card) (face < 52) (face ≡ card)

-- a hand may have these faces, one for each of its cards
abbrev pub AreFaces : Option ℕ → List ℕ → List ℕ → Type 0
AreFaces wild [] [] = Unit {0}
AreFaces wild [] (face ∷ faces) = ⊥
AreFaces wild (card ∷ cards) [] = ⊥
AreFaces wild (card ∷ cards) (face ∷ faces) = MayStandFor wild card face × AreFaces wild cards faces

-- some face of a card passes: of a wild card any of the 52 natural cards, of another the card itself
unfoldable pub some_face : Bool → ℕ → (ℕ → Bool) → Bool
some_face true card test = some_below 52 test
some_face false card test = test card

-- some faces of a hand pass
unfoldable pub some_faces : Option ℕ → List ℕ → (List ℕ → Bool) → Bool
some_faces wild [] test = test []
some_faces wild (card ∷ cards) test =
    some_face (is_wild wild card) card (λ face. some_faces wild cards (λ faces. test (face ∷ faces)))
