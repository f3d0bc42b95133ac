-- The tables of letters, at each of the 256 bytes.
use Rattle.std.proofs.Common.{◌≡◌, ℕ, ◌<◌, Bool, true, false, ◌==◌, get_or, refl, ap, sym, ◌∙◌, Some, None, true≢false, eqb-true}
use Rattle.std.specs.Prelude.{Option, IfSome}
use Rattle.std.specs.List.{list_all, range_with_len}
use Rattle.vp_card.specs.Texts.{rank_letters, suit_letters}
use Rattle.vp_card.specs.Reading.{number_of, rank_of, suit_of}
use Rattle.vp_card.specs.declared.ranks.TheConstants.{RANKS, SUITS}
use Rattle.vp_card.proofs.Texts.{at_below, rank_of-letter, suit_of-letter}

-- both are there and equal, or neither is there
same : Option ℕ → Option ℕ → Bool
same None None = true
same None (Some b) = false
same (Some a) None = false
same (Some a) (Some b) = a == b

same-eq : (a b : Option ℕ) → same a b ≡ true → a ≡ b
unfolding same
same-eq None None h = refl
same-eq None (Some b) h = absurd (true≢false (sym h))
same-eq (Some a) None h = absurd (true≢false (sym h))
same-eq (Some a) (Some b) h = ap Some (eqb-true a b h)

all_ranks : list_all (λ b. same (number_of (get_or RANKS b 0)) (rank_of b)) (range_with_len 0 256) ≡ true
unfolding same rank_of rank_letters
all_ranks = refl

-- the table of ranks has the rank of each letter
pub ranks_table : (byte : ℕ) → byte < 256 → number_of (get_or RANKS byte 0) ≡ rank_of byte
ranks_table byte below = same-eq _ _ (at_below (λ b. same (number_of (get_or RANKS b 0)) (rank_of b)) 256 byte all_ranks below)

all_suits : list_all (λ b. same (number_of (get_or SUITS b 0)) (suit_of b)) (range_with_len 0 256) ≡ true
unfolding same suit_of suit_letters
all_suits = refl

-- the table of suits has the suit of each letter
pub suits_table : (byte : ℕ) → byte < 256 → number_of (get_or SUITS byte 0) ≡ suit_of byte
suits_table byte below = same-eq _ _ (at_below (λ b. same (number_of (get_or SUITS b 0)) (suit_of b)) 256 byte all_suits below)

below_all : (found : Option ℕ) (most : ℕ) → ((n : ℕ) → found ≡ Some n → n < most) → IfSome found (λ n. n < most)
below_all None most each = tt
below_all (Some n) most each = each n refl

-- what the table of ranks has is one of thirteen
pub rank_below : (byte : ℕ) (found : Option ℕ) → byte < 256 → found ≡ number_of (get_or RANKS byte 0) → IfSome found (λ rank. rank < 13)
rank_below byte found below is = below_all found 13 (λ n some. (rank_of-letter byte n (sym (is ∙ ranks_table byte below) ∙ some)).0)

-- what the table of suits has is one of four
pub suit_below : (byte : ℕ) (found : Option ℕ) → byte < 256 → found ≡ number_of (get_or SUITS byte 0) → IfSome found (λ suit. suit < 4)
suit_below byte found below is = below_all found 4 (λ n some. (suit_of-letter byte n (sym (is ∙ suits_table byte below) ∙ some)).0)
