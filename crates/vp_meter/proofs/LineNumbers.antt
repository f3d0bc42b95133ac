-- Both numbers of a hand, out of the place of its line.
use Rattle.std.proofs.Common.{◌≡◌, ◌⊎◌, inl, inr, ℕ, ◌+◌, ◌<◌, ◌≤◌, List, [], ◌∷◌, ◌++◌, length, map, get_or, set, take, replicate, refl, ap, sym, ◌∙◌, arith, Option, None, Some}
use Rattle.std.proofs.Math.Path.{fun_ext}
use Rattle.std.specs.Prelude.{if◌then◌else◌, slice_index, IfSome}
use Rattle.std.specs.List.{All}
use Rattle.std.proofs.lemmas.List.{get_or-set_same, get_or-set_other, get_or-replicate, get_or_past, length-set, map_more, take_all, take_more_set}
use Rattle.std.proofs.lemmas.Simd.{map-map}
use Rattle.std.proofs.lemmas.List.Elements.{All-same}
use Rattle.vp_pay.specs.declared.table.PayTable.{PayTable}
use Rattle.vp_pay.specs.Table.{IsTable}
use Rattle.vp_sets.specs.Index.{colex}
use Rattle.vp_wild.specs.Payment.{line, pay}
use Rattle.vp_count.specs.Sums.{hand_numbers}
use Rattle.vp_count.proofs.HandNumbers.{numbers_small}
use Rattle.vp_hold.specs.Numbers.{AreNumbers, by_line, number_of, place_among}
use Rattle.vp_hold.proofs.Numbers.{few_lines}
use Rattle.vp_meter.specs.Metered.{base_pay, hit, is_line}
use Rattle.vp_meter.proofs.Straight.{different_lines, equal_or_not, same_line}

-- ---- one number is put at the place of a line

set_number : (numbers : List ℕ) (place x : ℕ) (found : Option ℕ) → length numbers ≡ 33 → place < 32
    → number_of (set numbers place x) found ≡ (if is_line place found then x else number_of numbers found)
unfolding is_line
set_number numbers place x None long small = get_or-set_other numbers place 32 x 0 (λ e. absurd (omega (arith, e)))
set_number numbers place x (Some found) long small = elim (equal_or_not found place) [
  | inl same ↦ rw (same_line found place same) (ap (λ i. get_or (set numbers place x) i 0) same ∙ get_or-set_same numbers place x 0 (omega (arith, long)))
  | inr other ↦ rw (different_lines found place other) (get_or-set_other numbers place found x 0 other)
]

-- what the other lines pay
pub base_is : (table : PayTable) (coin place at : ℕ) (pays hand : List ℕ) → at ≡ place → length pays ≡ 33 → place < 32 → by_line table pays hand ≡ pay table coin hand
    → by_line table (set pays at 0) hand ≡ base_pay table coin place hand
base_is table coin place at pays hand is long small paid =
    ap (λ i. by_line table (set pays i 0) hand) is ∙ set_number pays place 0 (line table hand) long small ∙ ap (λ p. if is_line place (line table hand) then 0 else p) paid

abbrev zeros : List ℕ
zeros = replicate 33 0

-- whether the line at the place pays
pub hit_is : (table : PayTable) (place at : ℕ) (hand : List ℕ) → at ≡ place → place < 32 → by_line table (set zeros at 1) hand ≡ hit table place hand
hit_is table place at hand is small =
    ap (λ i. by_line table (set zeros i 1) hand) is ∙ set_number zeros place 1 (line table hand) refl small ∙ ap (λ p. if is_line place (line table hand) then 1 else p) (nought (place_among (line table hand)))
  where
    nought : (i : ℕ) → get_or zeros i 0 ≡ 0
    nought i = elim (inside_or_past i) [
      | inl l ↦ get_or-replicate 33 i 0 0 l
      | inr past ↦ get_or_past zeros i 0 past
    ]
      where
        inside_or_past : (i : ℕ) → (i < 33) ⊎ (33 ≤ i)
        inside_or_past i = grind arith

-- ---- the places of all lines

pub places_are : (places : List ℕ) → length places ≡ 33 → ((i : ℕ) → i < 33 → get_or places i 0 ≡ i) → AreNumbers place_among places
places_are places long each = record { long = long; number = number }
  where
    number : (found : Option ℕ) → IfSome found (λ place. place < 32) → number_of places found ≡ place_among found
    number None h = each 32 (omega arith)
    number (Some place) h = each place (omega arith)

place_le : (found : Option ℕ) → IfSome found (λ place. place < 32) → place_among found ≤ 32
place_le None h = omega arith
place_le (Some place) h = omega arith

place_is : (table : PayTable) (places hand : List ℕ) → IsTable table → AreNumbers place_among places → by_line table places hand ≡ place_among (line table hand)
place_is table places hand rules are = are.number (line table hand) (few_lines table hand rules)

pub places_small : (table : PayTable) (places words : List ℕ) → IsTable table → AreNumbers place_among places → words ≡ hand_numbers table.deck (by_line table places) → All (λ x. x ≤ 32) words
places_small table places words rules are is = All-same (λ x. x ≤ 32) words _ is (numbers_small 32 table.deck (by_line table places) small)
  where
    small : (hand : List ℕ) → by_line table places hand ≤ 32
    small hand = omega (arith, place_is table places hand rules are, place_le (line table hand) (few_lines table hand rules))

-- ---- numbers in place of places

pub renumbered : (table : PayTable) (f : List ℕ → ℕ) (places numbers words : List ℕ) → IsTable table → AreNumbers place_among places → ((hand : List ℕ) → by_line table numbers hand ≡ f hand)
    → words ≡ hand_numbers table.deck (by_line table places) → map (slice_index numbers) words ≡ hand_numbers table.deck f
unfolding hand_numbers
renumbered table f places numbers words rules are same is =
    let each : (λ (hand : List ℕ). slice_index numbers (by_line table places hand)) ≡ f = fun_ext (λ hand. ap (slice_index numbers) (place_is table places hand rules are) ∙ same hand) in
    ap (map (slice_index numbers)) is ∙ map-map (slice_index numbers) (by_line table places) (colex 5 table.deck) ∙ ap (λ (g : List ℕ → ℕ). map g (colex 5 table.deck)) each

-- the words below an index have their numbers, and all others are as they were
pub record Renumbered (numbers old words : List ℕ) (index : ℕ) : Type 0 where
  pub long : length words ≡ length old
  pub done : take index words ≡ map (slice_index numbers) (take index old)
  pub rest : (i : ℕ) → index ≤ i → get_or words i 0 ≡ get_or old i 0

pub renumbered_more : (numbers old words : List ℕ) (index x : ℕ) → index < length old → x ≡ get_or numbers (get_or words index 0) 0
    → Renumbered numbers old words index → Renumbered numbers old (set words index x) (index + 1)
renumbered_more numbers old words index x l is h = record {
  long = length-set words index x ∙ h.long;
  done =
      take_more_set words index x (omega (arith, h.long))
      ∙ ap (λ z. z ++ x ∷ []) h.done
      ∙ ap (λ y. map (slice_index numbers) (take index old) ++ y ∷ []) (is ∙ ap (λ w. get_or numbers w 0) (h.rest index (omega arith)))
      ∙ sym (map_more (slice_index numbers) old index 0 l);
  rest = λ i above. get_or-set_other words index i x 0 (λ e. absurd (omega (arith, e))) ∙ h.rest i (omega arith);
}

pub renumbered_all : (numbers old words : List ℕ) (index : ℕ) → length old ≤ index → Renumbered numbers old words index → words ≡ map (slice_index numbers) old
renumbered_all numbers old words index l h = sym (take_all index words (omega (arith, h.long))) ∙ h.done ∙ ap (map (slice_index numbers)) (take_all index old l)
