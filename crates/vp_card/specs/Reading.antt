-- How the texts of cards and of sets of ranks are read from left to right.
use Rattle.std.specs.Prelude.{ℕ, Bool, false, ◌+◌, ◌-◌, ◌*◌, nat_lt, ◌==◌, List, [], ◌∷◌, Option, Some, None, option_map, bytes_eq, if◌then◌else◌}
use Rattle.std.specs.List.{position}
use Rattle.vp_card.specs.Texts.{rank_letters, suit_letters, joker_text, second_joker_text, any_text}

-- the rank with this letter
unfoldable pub rank_of : ℕ → Option ℕ
rank_of byte = position (λ letter. letter == byte) rank_letters

-- the suit with this letter
unfoldable pub suit_of : ℕ → Option ℕ
suit_of byte = position (λ letter. letter == byte) suit_letters

-- the number of a letter, counted from `a`
abbrev pub number_of : ℕ → Option ℕ
number_of letter = if nat_lt letter 97 then None else Some (letter - 97)

abbrev pub natural_card : Option ℕ → Option ℕ → Option ℕ
natural_card (Some rank) (Some suit) = Some (4 * rank + suit)
natural_card (Some rank) None = None
natural_card None suit = None

-- a natural card is read from two letters
abbrev pub natural_of : List ℕ → Option ℕ
natural_of (rank ∷ suit ∷ []) = natural_card (rank_of rank) (suit_of suit)
natural_of _ = None

-- the card with this text
unfoldable pub card_of : List ℕ → Option ℕ
card_of text = if bytes_eq text joker_text then Some 52 else (if bytes_eq text second_joker_text then Some 53 else natural_of text)

-- the bits of the letters that the text has, in their order and no others
abbrev pub bits_of : List ℕ → List ℕ → Option ℕ
bits_of [] [] = Some 0
bits_of [] (byte ∷ text) = None
bits_of (letter ∷ letters) [] = option_map (λ bits. 2 * bits) (bits_of letters [])
bits_of (letter ∷ letters) (byte ∷ text) =
    if letter == byte then option_map (λ bits. 2 * bits + 1) (bits_of letters text) else option_map (λ bits. 2 * bits) (bits_of letters (byte ∷ text))

-- the text begins with the letter
abbrev pub begins : ℕ → List ℕ → Bool
begins letter [] = false
begins letter (byte ∷ text) = letter == byte

-- some ranks, but not all, are a set that has its letters for a text
abbrev pub some_not_all : ℕ → Option ℕ
some_not_all bits = if bits == 0 then None else (if bits == 8191 then None else Some bits)

abbrev pub and_some : Option ℕ → Option ℕ
and_some None = None
and_some (Some bits) = some_not_all bits

-- the set of ranks with this text
unfoldable pub rank_set_of : List ℕ → Option ℕ
rank_set_of text = if bytes_eq text any_text then Some 8191 else and_some (bits_of rank_letters text)
