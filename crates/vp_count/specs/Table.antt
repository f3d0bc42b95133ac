-- The words of a table of sums. Where each sum stands is this program's own.
use Rattle.std.specs.Prelude.{◌≡◌, ℕ, ◌+◌, ◌≤◌, List, length, slice_index, drop, sum_by}
use Rattle.std.specs.List.{All, range_with_len}
use Rattle.vp_card.specs.Cards.{place}
use Rattle.vp_sets.specs.Sets.{deck, choose, without}
use Rattle.vp_sets.specs.Index.{IsSet, set_index}
use Rattle.vp_count.specs.Sums.{containing, hand_numbers}

-- how many words stand in front of those of the sets of k members: one for each smaller set
unfoldable pub first_word : ℕ → ℕ → ℕ
first_word n k = sum_by (λ i. choose n i) (deck k)

-- the numbers of the sets of five are the last words
unfoldable pub five_numbers : ℕ → List ℕ → List ℕ
five_numbers n words = drop (first_word n 5) words

-- the words of the sets with `least` to five members, by size and then by index, are their sums over the numbers w
pub record HasSums (n least : ℕ) (w words : List ℕ) : Type 0 where
  pub long : length words ≡ first_word n 6
  pub sums : (s : List ℕ) → IsSet n s → least ≤ length s → length s ≤ 5 → slice_index words (first_word n (length s) + set_index s) ≡ containing n w s

-- the sum of the words of the sets that have one member more; `start` is the first word of their size
unfoldable pub above_sum : ℕ → List ℕ → ℕ → List ℕ → ℕ
above_sum n words start s = sum_by (λ c. slice_index words (start + set_index (place c s))) (without (deck n) s)

-- the sum of the words that stand at `first` and C(c, size), for `count` cards c from `low` on
unfoldable pub words_of_cards : List ℕ → ℕ → ℕ → ℕ → ℕ → ℕ
words_of_cards words first size low count = sum_by (λ c. slice_index words (first + choose c size)) (range_with_len low count)

-- what a table of sums tells: the number of cards of its deck, and the number of each set of five by its index
pub record Table : Type 0 where
  pub size : ℕ
  pub numbers : List ℕ

-- the table's numbers are those that f gives to all sets of five cards of a deck of n
pub record AreSumsOf (n : ℕ) (f : List ℕ → ℕ) (sums : Table) : Type 0 where
  pub size : sums.size ≡ n
  pub numbers : sums.numbers ≡ hand_numbers n f

-- what the words of a table tell
abbrev pub table_of : ℕ → List ℕ → Table
table_of n words = record { size = n; numbers = five_numbers n words }

-- the words are those of a table of sums for a deck of at most 54 cards: all sums are right, and no number is greater than 250000000000
pub record IsSumTable (n : ℕ) (words : List ℕ) : Type 0 where
  pub deck : n ≤ 54
  pub sums : HasSums n 0 (five_numbers n words) words
  pub bounded : All (λ x. x ≤ 250000000000) (five_numbers n words)

-- the first word of each size
pub record AreStarts (n : ℕ) (starts : List ℕ) : Type 0 where
  pub long : length starts ≡ 6
  pub told : (k : ℕ) → k ≤ 5 → slice_index starts k ≡ first_word n k
