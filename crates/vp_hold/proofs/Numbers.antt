-- The number of each hand's line.
use Rattle.std.proofs.Common.{◌≡◌, ◌⊎◌, inl, inr, ℕ, ◌<◌, ◌≤◌, List, [], Option, Some, None, length, get_or, refl, sym, ap, ◌∙◌, arith}
use Rattle.std.proofs.Math.Path.{fun_ext}
use Rattle.std.specs.Prelude.{slice_index, IfSome}
use Rattle.std.specs.List.{All}
use Rattle.std.proofs.lemmas.List.Quantifiers.{position-Some}
use Rattle.std.proofs.lemmas.List.{get_or_past}
use Rattle.std.proofs.lemmas.List.Elements.{All-from_get_or, All-get_or}
use Rattle.vp_pay.specs.declared.pattern.Pattern.TheVariants.{Royal}
use Rattle.vp_pay.specs.declared.pattern.Qualifier.TheVariants.{Either}
use Rattle.vp_pay.specs.declared.table.PayLine.{PayLine}
use Rattle.vp_pay.specs.declared.table.PayTable.{PayTable}
use Rattle.vp_pay.specs.Table.{IsTable}
use Rattle.vp_wild.specs.Payment.{first_line, line, pay}
use Rattle.vp_wild.specs.Payment.{hits as line_matches}
use Rattle.vp_count.specs.Sums.{hand_numbers}
use Rattle.vp_count.specs.Table.{AreSumsOf, Table}
use Rattle.vp_wild.proofs.ByShape.{pay_none}
use Rattle.vp_hold.specs.Numbers.{AreNumbers, place_among, by_line}

-- ---- the line of a hand

pub nothing : PayLine
nothing = record { name = []; pattern = Royal; qualifier = Either; pays = [] }

pub inside : (table : PayTable) (hand : List ℕ) (j : ℕ) → line table hand ≡ Some j → j < length table.lines.items
unfolding first_line
inside table hand j e = (position-Some (λ (l : PayLine). line_matches table.wild l hand) table.lines.items j nothing e).0

-- it is one of at most 32 lines
pub few_lines : (table : PayTable) (hand : List ℕ) → IsTable table → IfSome (line table hand) (λ place. place < 32)
few_lines table hand t = by_line (line table hand) refl
  where
    by_line : (o : Option ℕ) → line table hand ≡ o → IfSome o (λ place. place < 32)
    by_line None e = tt
    by_line (Some j) e = omega (arith, inside table hand j e, t.most_lines)

-- where a place is among the lines
pub within : (o : Option ℕ) (many : ℕ) → many ≤ 32 → IfSome o (λ place. place < many) → IfSome o (λ place. place < 32)
within None many l h = tt
within (Some place) many l h = omega arith

-- ---- numbers by line

-- the sums of the numbers are those of the number that each hand has by its line
pub sums_as : (table : PayTable) (f : List ℕ → ℕ) (numbers : List ℕ) (sums : Table) → ((hand : List ℕ) → by_line table numbers hand ≡ f hand) → AreSumsOf table.deck (by_line table numbers) sums → AreSumsOf table.deck f sums
sums_as table f numbers sums same s =
    let same : by_line table numbers ≡ f = fun_ext same in
    record { size = s.size; numbers = s.numbers ∙ ap (hand_numbers table.deck) same }

-- if the numbers are those of f for all lines, the sums are those of what f makes of the hands' lines
pub sums_by_line : (table : PayTable) (f : Option ℕ → ℕ) (numbers : List ℕ) (sums : Table) → IsTable table → AreNumbers f numbers → AreSumsOf table.deck (by_line table numbers) sums
    → AreSumsOf table.deck (λ hand. f (line table hand)) sums
sums_by_line table f numbers sums t are s =
    sums_as table (λ hand. f (line table hand)) numbers sums (λ hand. are.number (line table hand) (few_lines table hand t)) s

-- ---- bounds on the numbers

-- past the end of a list stands 0
small_at : (m : ℕ) (numbers : List ℕ) (i : ℕ) → All (λ x. x ≤ m) numbers → slice_index numbers i ≤ m
small_at m numbers i all = elim (inside_or_past i (length numbers)) [
  | inl l ↦ All-get_or (λ x. x ≤ m) numbers i 0 l all
  | inr p ↦ (let e : get_or numbers i 0 ≡ 0 = get_or_past numbers i 0 p in omega arith)
]
  where
    inside_or_past : (i n : ℕ) → (i < n) ⊎ (n ≤ i)
    inside_or_past i n = grind arith

pub number_le : (table : PayTable) (numbers : List ℕ) (hand : List ℕ) → All (λ x. x ≤ 250000000000) numbers → by_line table numbers hand ≤ 250000000000
number_le table numbers hand all = small_at 250000000000 numbers (place_among (line table hand)) all

-- if all numbers of lines are small, so are all that the list has
pub numbers_small : (f : Option ℕ → ℕ) (m : ℕ) (numbers : List ℕ) → AreNumbers f numbers → ((found : Option ℕ) → f found ≤ m) → All (λ x. x ≤ m) numbers
numbers_small f m numbers are small = All-from_get_or (λ x. x ≤ m) numbers 0 each
  where
    each : (i : ℕ) → i < length numbers → get_or numbers i 0 ≤ m
    each i l = elim (line_or_none i) [
      | inl line ↦ (let e : get_or numbers i 0 ≡ f (Some i) = are.number (Some i) line in omega (arith, small (Some i)))
      | inr past ↦ (let e : get_or numbers 32 0 ≡ f None = are.number None tt in let last : i ≡ 32 = omega (arith, are.long) in rw last (omega (arith, small None)))
    ]
      where
        line_or_none : (i : ℕ) → (i < 32) ⊎ (32 ≤ i)
        line_or_none i = grind arith

-- ---- payments by line

-- each hand is paid the number of its line
pub paid_told : (table : PayTable) (coin : ℕ) (pays hand : List ℕ) → ((place : ℕ) → place < length table.lines.items → line table hand ≡ Some place → get_or pays place 0 ≡ pay table coin hand)
    → get_or pays 32 0 ≡ 0 → by_line table pays hand ≡ pay table coin hand
paid_told table coin pays hand each none = at (line table hand) refl
  where
    at : (o : Option ℕ) → line table hand ≡ o → by_line table pays hand ≡ pay table coin hand
    at None e = ap (λ (o : Option ℕ). get_or pays (place_among o) 0) e ∙ none ∙ sym (pay_none table coin hand e)
    at (Some place) e = ap (λ (o : Option ℕ). get_or pays (place_among o) 0) e ∙ each place (inside table hand place e) e
