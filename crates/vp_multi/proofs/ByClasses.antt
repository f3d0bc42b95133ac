-- The classes so far: the three sums that were added up.
use Rattle.std.proofs.Common.{◌≡◌, ℕ, ◌+◌, ◌*◌, ◌^◌, ◌<◌, List, [], ◌∷◌, true, arith, refl}
use Rattle.vp_card.specs.Cards.{in_deck}
use Rattle.vp_pay.specs.declared.table.PayTable.{PayTable}
use Rattle.vp_pay.specs.Table.{IsTable}
use Rattle.vp_suit.specs.Classes.{representatives, weight}
use Rattle.vp_suit.proofs.Weighed.{Added, added_all, added_fits, added_more, added_none, next_hand, next_own}
use Rattle.vp_draws.specs.Draws.{best, least_best, value2}
use Rattle.vp_draws.proofs.Bounds.{best_sum_fits}
use Rattle.vp_draws.proofs.TurnedValues.{best_kept, best_sum_is}
use Rattle.vp_multi.specs.Sums.{ArePowerSums, printed_square, squared_value}
use Rattle.vp_multi.proofs.Printed.{own_square, printed_square_kept, squared_value_kept}
use Rattle.vp_multi.proofs.DeckSums.{they_fit}

-- all classes but those that are left
pub record PowersAdded (table : PayTable) (coin : ℕ) (left : List (List ℕ)) (a s q : ℕ) : Type 0 where
  pub values : Added table.deck (best table coin) left a
  pub squares : Added table.deck (printed_square table coin) left s
  pub squared : Added table.deck (squared_value table coin) left q

pub powers_none : (table : PayTable) (coin : ℕ) (left : List (List ℕ)) → IsTable table → left ≡ representatives table.deck → PowersAdded table coin left 0 0 0
powers_none table coin left t is = record {
  values = added_none table.deck (best table coin) left t.known_deck (best_kept coin table t.known_deck.0) is;
  squares = added_none table.deck (printed_square table coin) left t.known_deck (printed_square_kept table coin t.known_deck.0) is;
  squared = added_none table.deck (squared_value table coin) left t.known_deck (squared_value_kept table coin t.known_deck.0) is;
}

module _ (table : PayTable) (coin : ℕ) (cards : List ℕ) (left rest : List (List ℕ)) (is : left ≡ cards ∷ rest) (values squares squared : ℕ) where
  -- the next class is one of a hand of the table's deck
  pub powers_hand : PowersAdded table coin left values squares squared → in_deck table.deck cards ≡ true
  powers_hand a = next_hand table.deck (best table coin) cards left rest is values a.values

  -- the mean square of its least best hold is that of all its deals' printed holds
  pub powers_square : IsTable table → PowersAdded table coin left values squares squared → value2 table coin cards (least_best table coin cards) ≡ printed_square table coin cards
  powers_square t a = own_square table coin cards (next_own table.deck (best table coin) cards left rest is values t.known_deck a.values)

  pub powers_more : (new_values new_squares new_squared : ℕ)
      → new_values ≡ values + weight cards * best table coin cards → new_squares ≡ squares + weight cards * printed_square table coin cards → new_squared ≡ squared + weight cards * squared_value table coin cards
      → PowersAdded table coin left values squares squared → PowersAdded table coin rest new_values new_squares new_squared
  powers_more new_values new_squares new_squared v s q a = record {
    values = added_more table.deck (best table coin) cards left rest is values new_values v a.values;
    squares = added_more table.deck (printed_square table coin) cards left rest is squares new_squares s a.squares;
    squared = added_more table.deck (squared_value table coin) cards left rest is squared new_squared q a.squared;
  }

  -- with the next class the sums are still a part of the whole
  pub values_fit : IsTable table → PowersAdded table coin left values squares squared → values + weight cards * best table coin cards < 2 ^ 64
  values_fit t a = omega (arith, added_fits table.deck (best table coin) cards left rest is values a.values, best_sum_fits table coin t)

  pub squares_fit : IsTable table → PowersAdded table coin left values squares squared → squares + weight cards * printed_square table coin cards < 2 ^ 83
  squares_fit t a = omega (arith, added_fits table.deck (printed_square table coin) cards left rest is squares a.squares, (they_fit table coin t).squares)

  pub squared_fit : IsTable table → PowersAdded table coin left values squares squared → squared + weight cards * squared_value table coin cards < 2 ^ 106
  squared_fit t a = omega (arith, added_fits table.deck (squared_value table coin) cards left rest is squared a.squared, (they_fit table coin t).squared)

pub powers_all : (table : PayTable) (coin : ℕ) (left : List (List ℕ)) (values squares squared : ℕ) → left ≡ [] → PowersAdded table coin left values squares squared → ArePowerSums table coin values squares squared
powers_all table coin left values squares squared none a = record {
  values = best_sum_is table coin values (added_all table.deck (best table coin) left values none a.values);
  squares = added_all table.deck (printed_square table coin) left squares none a.squares;
  squared_values = added_all table.deck (squared_value table coin) left squared none a.squared;
}

-- what a class adds
pub squared_weighed : (table : PayTable) (coin : ℕ) (cards : List ℕ) (w v : ℕ) → w ≡ weight cards → v ≡ best table coin cards → w * (v * v) ≡ weight cards * squared_value table coin cards
unfolding squared_value
squared_weighed table coin cards w v e f = rw (e, f) refl
