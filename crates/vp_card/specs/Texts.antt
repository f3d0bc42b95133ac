-- The texts of cards and of sets of ranks. The letters are the usual ones of ranks and suits; those of the jokers are this program's own
-- (docs/FORMATS.md).
use Rattle.std.specs.Prelude.{ℕ, nat_lt, ◌==◌, List, [], ◌∷◌, slice_index, codes, if◌then◌else◌}
use Rattle.vp_card.specs.Cards.{rank, suit, held}

-- the letters of the ranks, from the two to the ace
unfoldable pub rank_letters : List ℕ
rank_letters = codes "23456789TJQKA"

-- the letters of clubs, diamonds, hearts and spades
unfoldable pub suit_letters : List ℕ
suit_letters = codes "cdhs"

-- the first joker's text
unfoldable pub joker_text : List ℕ
joker_text = codes "Jo"

-- the second joker's text
unfoldable pub second_joker_text : List ℕ
second_joker_text = codes "Jk"

-- the text of a card: its rank's letter and its suit's, or the text of one of the jokers, 52 and 53
unfoldable pub card_text : ℕ → List ℕ
card_text card = if nat_lt card 52 then slice_index rank_letters (rank card) ∷ slice_index suit_letters (suit card) ∷ [] else (if card == 52 then joker_text else second_joker_text)

-- the text of the set of all ranks
unfoldable pub any_text : List ℕ
any_text = codes "any"

-- the text of a set of ranks: `any` for all thirteen, else the letters of its ranks in rising order
unfoldable pub rank_set_text : ℕ → List ℕ
rank_set_text set = if set == 8191 then any_text else held set rank_letters
