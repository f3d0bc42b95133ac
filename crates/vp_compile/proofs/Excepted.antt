-- The fewest classes are the excepted places.
use Rattle.std.proofs.Common.{◌≡◌, ℕ, ◌-◌, ◌<◌, ◌≤◌, Bool, true, false, cond, List, length, get_or, refl, arith, subst, sym}
use Rattle.std.specs.List.{Contains, sum_by}
use Rattle.std.proofs.lemmas.Bool.{false≢true, lt-ltb, le-ltb}
use Rattle.std.proofs.lemmas.List.Elements.{Contains-get_or}
use Rattle.std.proofs.lemmas.List.Sums.{sum_by-le}
use Rattle.vp_compile.specs.Rows.{Row, row_at, value_loss}
use Rattle.vp_compile.specs.Excepted.{loss_at, loss_left, loss_given, ArePlaces, AreFewest, comes_before, before, is_needed, excepted_places}
use Rattle.vp_compile.proofs.Sums.{Rises, rises, within, sum_from, sum_same}
use Rattle.vp_compile.proofs.Comes.{comes_on, comes_once, comes_not_itself}
use Rattle.vp_compile.proofs.Filtered.{sum_passed, number_passed, sum_le, are_places, same_places, covers, fewer_pass}

pub yields : (a b : Bool) (n : ℕ) → (a ≡ true → b ≡ true) → cond a n 0 ≤ cond b n 0
yields true true n h = omega arith
yields true false n h = absurd (false≢true (h refl))
yields false b n h = omega arith

-- what is left where more is excepted
pub left_less : (rows : List Row) (order some more : List ℕ) → sum_by (loss_at rows order) some ≤ sum_by (loss_at rows order) more → loss_left rows order more ≤ loss_left rows order some
unfolding loss_left
left_less rows order some more h = omega (arith, h)

-- best holds lose nothing
pub best_given : (rows : List Row) (order places : List ℕ) → loss_given rows order places (λ place. (row_at rows place).best) ≡ loss_left rows order places
unfolding loss_given
best_given rows order places = omega (arith, sum_by-le (λ place. value_loss (row_at rows place) (row_at rows place).best) 0 places (λ k d l. nothing (row_at rows (get_or places k d))))
  where
    nothing : (row : Row) → value_loss row row.best ≤ 0
    nothing row = let none : row.best - row.best ≡ 0 = omega arith in rw none (omega arith)

pub sum_before : (rows : List Row) (order : List ℕ) (place : ℕ) → sum_by (loss_at rows order) (before rows order place) ≡ sum_from (λ x. cond (comes_before rows order x place) (loss_at rows order x) 0) 0 (length rows)
unfolding before
sum_before rows order place = sum_passed (loss_at rows order) (λ x. comes_before rows order x place) (length rows)

pub number_before : (rows : List Row) (order : List ℕ) (place : ℕ) → length (before rows order place) ≡ sum_from (λ x. cond (comes_before rows order x place) 1 0) 0 (length rows)
unfolding before
number_before rows order place = number_passed (λ x. comes_before rows order x place) (length rows)

before_places : (rows : List Row) (order : List ℕ) (place : ℕ) → ArePlaces (length rows) (before rows order place)
unfolding before
before_places rows order place = are_places (λ x. comes_before rows order x place) (length rows)

pub sum_excepted : (rows : List Row) (order : List ℕ) (limit : ℕ) → sum_by (loss_at rows order) (excepted_places rows order limit) ≡ sum_from (λ x. cond (is_needed rows order limit x) (loss_at rows order x) 0) 0 (length rows)
unfolding excepted_places
sum_excepted rows order limit = sum_passed (loss_at rows order) (is_needed rows order limit) (length rows)

-- what comes before a place comes before all that come behind it
pub more_before : (rows : List Row) (order : List ℕ) (p q : ℕ) → comes_before rows order p q ≡ true → sum_by (loss_at rows order) (before rows order p) ≤ sum_by (loss_at rows order) (before rows order q)
more_before rows order p q h = omega (arith, sum_before rows order p, sum_before rows order q, sum_le (λ x. cond (comes_before rows order x p) (loss_at rows order x) 0) (λ x. cond (comes_before rows order x q) (loss_at rows order x) 0) 0 (length rows) (λ x l. yields (comes_before rows order x p) (comes_before rows order x q) (loss_at rows order x) (λ k. comes_on rows order x p q k h)))

-- the fewest are the excepted places

pub only_they : (rows : List Row) (order : List ℕ) (limit : ℕ) (places : List ℕ) → AreFewest rows order limit places → places ≡ excepted_places rows order limit
unfolding excepted_places
only_they rows order limit places a = same_places (is_needed rows order limit) (length rows) places rising needed spared
  where
    rising : Rises 0 (length rows) places
    rising = rises (length rows) places a.places.rising a.places.below

    outside : (place x : ℕ) → Contains places place → x < length rows → (Contains places x → ⊥) → ◌≡◌ {A = ℕ} (cond (comes_before rows order x place) 1 0) 0
    outside place x c l out = rw (comes_once rows order place x (a.first place x c l out)) refl

    fewer : (place : ℕ) → Contains places place → length (before rows order place) < length places
    fewer place c = omega (arith, number_before rows order place, covers (λ x. cond (comes_before rows order x place) 1 0) 0 (length rows) (length rows) places (omega arith) rising (λ x h l out. outside place x c l out), fewer_pass (λ x. comes_before rows order x place) places c.0 place c.1 (subst (λ x. comes_before rows order x place ≡ false) (sym c.2) (comes_not_itself rows order place)))

    needed : (place : ℕ) → Contains places place → is_needed rows order limit place ≡ true
    needed place c = lt-ltb limit (loss_left rows order (before rows order place)) (subst (λ n. limit < n) (best_given rows order (before rows order place)) (a.fewest (before rows order place) (λ x. (row_at rows x).best) (before_places rows order place) (fewer place c)))

    -- all places come before one that is none of them
    all_before : (place : ℕ) → place < length rows → (Contains places place → ⊥) → sum_by (loss_at rows order) places ≤ sum_by (loss_at rows order) (before rows order place)
    all_before place l out = omega (arith, sum_before rows order place, within (λ x. cond (comes_before rows order x place) (loss_at rows order x) 0) 0 (length rows) (length rows) places (omega arith) rising, sum_same (loss_at rows order) (λ x. cond (comes_before rows order x place) (loss_at rows order x) 0) places (λ k d h. rw (a.first (get_or places k d) place (Contains-get_or places k d h) l out) refl))

    spared : (place : ℕ) → place < length rows → (Contains places place → ⊥) → is_needed rows order limit place ≡ false
    spared place l out = le-ltb limit (loss_left rows order (before rows order place)) (omega (arith, a.enough, left_less rows order places (before rows order place) (all_before place l out)))
