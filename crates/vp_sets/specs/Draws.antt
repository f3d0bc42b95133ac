-- Holds of a hand, and sums over all draws. The rule is that of five-card draw as dealers state it: any of the five cards are held, and the
-- others are replaced once out of the cards that were not dealt.
use Rattle.std.specs.Prelude.{ℕ, zero, suc, ◌+◌, ◌-◌, ◌*◌, ◌/◌, ◌%◌, Bool, if◌then◌else◌, ◌==◌, List, [], ◌∷◌, length, map, fold, sum_by}
use Rattle.std.specs.List.{list_all}
use Rattle.vp_card.specs.Cards.{held, joined}
use Rattle.vp_sets.specs.Sets.{deck, combos, choose, has, without}

-- the cards at the places whose bit isn't set in the mask, the first place having the lowest bit
unfoldable pub discarded : ℕ → List ℕ → List ℕ
discarded mask [] = []
discarded mask (c ∷ cs) = if mask % 2 == 1 then discarded (mask / 2) cs else c ∷ discarded (mask / 2) cs

-- the mask that holds, of a hand, the cards that are in the set
unfoldable pub mask_of : List ℕ → List ℕ → ℕ
mask_of kept [] = 0
mask_of kept (card ∷ cards) = (if has kept card then 1 else 0) + 2 * mask_of kept cards

-- the draws of a hold: each list of as many cards as were discarded, out of those that were not dealt
unfoldable pub draws : ℕ → List ℕ → ℕ → List (List ℕ)
draws n hand mask = combos (length (discarded mask hand)) (without (deck n) hand)

-- the sum of f over the final hands of all draws: the held cards joined with the replacements
unfoldable pub sum_over_draws : (List ℕ → ℕ) → ℕ → List ℕ → ℕ → ℕ
sum_over_draws f n hand mask = sum_by (λ drawn. f (joined (held mask hand) drawn)) (draws n hand mask)

-- f of the hands that have, of these cards, those that the mask holds and no other; 0 for the others
unfoldable pub at_mask : (List ℕ → ℕ) → List ℕ → ℕ → List ℕ → ℕ
at_mask f cards mask hand = if mask_of hand cards == mask then f hand else 0

-- how many draws there are of k cards, for each k from 0 to 5, from a deck of n cards less the hand
unfoldable pub draw_counts : ℕ → List ℕ
draw_counts n = map (λ k. choose (n - 5) k) (0 ∷ 1 ∷ 2 ∷ 3 ∷ 4 ∷ 5 ∷ [])

-- the first of the numbers low, low + 1 .. that passes, of `room` numbers; the number behind them where none does
unfoldable pub first_passing : (ℕ → Bool) → ℕ → ℕ → ℕ
first_passing passes low zero = low
first_passing passes low (suc room) = if passes low then low else first_passing passes (suc low) room

-- the least number from 1 on that all of xs divide; their product is such a number
unfoldable pub least_common_multiple : List ℕ → ℕ
least_common_multiple xs = first_passing (λ m. list_all (λ x. m % x == 0) xs) 1 (fold ◌*◌ 1 xs)

-- the common denominator of all expected payments: the least common multiple of the numbers of draws
unfoldable pub common : ℕ → ℕ
common n = least_common_multiple (draw_counts n)

-- by what a sum over the draws of k cards is multiplied, to stand over the common denominator
unfoldable pub scale : ℕ → ℕ → ℕ
scale n k = common n / choose (n - 5) k
