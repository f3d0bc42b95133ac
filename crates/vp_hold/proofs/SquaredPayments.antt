-- The sums of the squares of the payments, out of the payments of a game.
use Rattle.std.proofs.Common.{◌≡◌, ℕ, ◌+◌, ◌-◌, ◌*◌, ◌<◌, ◌≤◌, true, List, [], ◌∷◌, ◌++◌, length, map, get_or, take, set, refl, ap, sym, subst, ◌∙◌, arith}
use Rattle.std.proofs.Math.Nat.{mul-le-mul_right}
use Rattle.std.specs.List.{All}
use Rattle.std.proofs.lemmas.List.{length-set, take_more_set, map_more, take_all}
use Rattle.std.proofs.lemmas.List.Elements.{All-map, All-same}
use borrow.Rule.Slice.PartMut.{put_mid}
use Rattle.vp_card.specs.Cards.{in_deck, IsHand}
use Rattle.vp_pay.specs.declared.table.PayTable.{PayTable}
use Rattle.vp_pay.specs.Table.{IsTable}
use Rattle.vp_wild.specs.Payment.{pay}
use Rattle.vp_wild.specs.Kept.{Bet}
use Rattle.vp_sets.specs.Sets.{choose}
use Rattle.vp_sets.specs.Index.{colex}
use Rattle.vp_draws.specs.Draws.{total2, value2}
use Rattle.vp_draws.proofs.Payments.{pay_le}
use Rattle.vp_count.specs.Sums.{hand_numbers}
use Rattle.vp_count.specs.Table.{Table, five_numbers, first_word}
use Rattle.vp_count.proofs.HandNumbers.{five_written, numbers_small}
use Rattle.vp_hold.specs.Games.{AreSquares}
use Rattle.vp_hold.specs.Means.{mean}
use Rattle.vp_hold.proofs.ScaledSums.{mean_of, of_sums}

pub square_le : (p : ℕ) → p ≤ 500000 → p * p ≤ 250000000000
square_le p l =
    let x : p * p ≤ 500000 * p = mul-le-mul_right p l in
    omega arith

-- ---- written one by one

pub record SquaredBelow (payments squares : List ℕ) (place : ℕ) : Type 0 where
  pub long : length squares ≡ length payments
  pub done : take place squares ≡ map (λ x. x * x) (take place payments)

pub squared_more : (payments squares : List ℕ) (place x : ℕ) → place < length payments → x ≡ get_or payments place 0 * get_or payments place 0
    → SquaredBelow payments squares place → SquaredBelow payments (set squares place x) (place + 1)
squared_more payments squares place x l is h = record {
  long = length-set squares place x ∙ h.long;
  done =
      take_more_set squares place x (omega (arith, h.long))
      ∙ ap (λ z. z ++ x ∷ []) h.done
      ∙ ap (λ y. map (λ x. x * x) (take place payments) ++ y ∷ []) is
      ∙ sym (map_more (λ x. x * x) payments place 0 l);
}

pub squared_all : (payments squares : List ℕ) (place : ℕ) → length payments ≤ place → SquaredBelow payments squares place → squares ≡ map (λ x. x * x) payments
squared_all payments squares place l h =
    sym (take_all place squares (omega (arith, h.long))) ∙ h.done ∙ ap (map (λ x. x * x)) (take_all place payments l)

-- the squares are no larger than a table of sums may have them
pub squares_small : (n hands : ℕ) (words ys payments : List ℕ) → length words ≡ first_word n 6 → hands ≡ choose n 5 → ys ≡ map (λ x. x * x) payments → All (λ x. x ≤ 500000) payments
    → All (λ x. x ≤ 250000000000) (five_numbers n (put_mid (length words - hands) (length words - (length words - hands)) words ys))
squares_small n hands words ys payments e g is small =
    All-same (λ x. x ≤ 250000000000) _ (map (λ x. x * x) payments) (five_written n hands words ys e g ∙ is)
    (All-map (λ x. x ≤ 250000000000) (λ x. x * x) payments (λ k d l. square_le (get_or payments k d) (small k d l)))

-- ---- the squares of a game's payments

map_twice : (f : List ℕ → ℕ) (hands : List (List ℕ)) → map (λ x. x * x) (map f hands) ≡ map (λ hand. f hand * f hand) hands
map_twice f [] = refl
map_twice f (hand ∷ hands) = ap (λ z. f hand * f hand ∷ z) (map_twice f hands)

pub squares_of_hands : (n : ℕ) (f : List ℕ → ℕ) (payments : List ℕ) → payments ≡ hand_numbers n f → map (λ x. x * x) payments ≡ hand_numbers n (λ hand. f hand * f hand)
unfolding hand_numbers
squares_of_hands n f payments is = ap (map (λ x. x * x)) is ∙ map_twice f (colex 5 n)

pub payments_small : (table : PayTable) (coin : ℕ) (payments : List ℕ) → IsTable table → payments ≡ hand_numbers table.deck (pay table coin) → All (λ x. x ≤ 500000) payments
payments_small table coin payments rules is =
    All-same (λ x. x ≤ 500000) payments (hand_numbers table.deck (pay table coin)) is (numbers_small 500000 table.deck (pay table coin) (λ hand. pay_le table coin hand rules))

-- ---- values out of the squares

of_bet2 : (bet : Bet) (table : PayTable) (coin : ℕ) (sums : Table) → record { table = table; coin = coin } ≡ bet → AreSquares table coin sums → AreSquares bet.table bet.coin sums
of_bet2 bet table coin sums e g = subst (λ (t : Bet). AreSquares t.table t.coin sums) e g

-- the means of the squares are the values of the holds with squares
pub value2_told : (bet : Bet) (table : PayTable) (coin : ℕ) (sums : Table) (hand : List ℕ) (mask : ℕ)
    → record { table = table; coin = coin } ≡ bet → AreSquares table coin sums → IsHand hand → in_deck bet.table.deck hand ≡ true → mean sums hand mask ≡ value2 bet.table bet.coin hand mask
unfolding total2 value2
value2_told bet table coin sums hand mask e g h d =
    mean_of bet.table.deck (λ final. pay bet.table bet.coin final * pay bet.table bet.coin final) sums hand mask (of_bet2 bet table coin sums e g).squared h d

pub in_squares : (bet : Bet) (table : PayTable) (coin : ℕ) (sums : Table) (hand : List ℕ)
    → record { table = table; coin = coin } ≡ bet → AreSquares table coin sums → in_deck bet.table.deck hand ≡ true → in_deck sums.size hand ≡ true
in_squares bet table coin sums hand e g d =
    of_sums bet.table.deck (λ final. pay bet.table bet.coin final * pay bet.table bet.coin final) sums hand (of_bet2 bet table coin sums e g).squared d
