-- The common denominators of the decks.
use Rattle.std.proofs.Common.{◌≡◌, ◌⊎◌, inl, inr, ℕ, zero, suc, ◌+◌, ◌-◌, ◌*◌, ◌/◌, ◌%◌, ◌<◌, ◌≤◌, Bool, true, false, cond, ◌==◌, ◌&&◌, nat_le, List, [], length, get_or, fold, lit≤, refl, ap, sym, ◌∙◌, arith, true≢false, eqb-true, eq-eqb, mul-le-mul_right, suc-mul}
use Rattle.std.specs.List.{list_all, range_with_len}
use Rattle.std.proofs.lemmas.Bool.{cases_lt, and_parts, leb-true}
use Rattle.std.proofs.lemmas.Bool.Decides.{nat_tests}
use Rattle.std.proofs.lemmas.List.Elements.{All-get_or, All-from_get_or}
use Rattle.std.proofs.lemmas.List.Sums.{AllPass-from_list_all, list_all-from_AllPass}
use Rattle.std.proofs.lemmas.List.FromFn.{length-range_with_len, get_or-range_with_len}
use Rattle.std.proofs.lemmas.Nat.{div-add-mod'}
use Rattle.vp_card.specs.Cards.{IsDeck, is_deck}
use Rattle.vp_sets.specs.Sets.{choose}
use Rattle.vp_sets.specs.Draws.{draw_counts, first_passing, least_common_multiple, common, scale}
use Rattle.vp_sets.specs.declared.ways.TheConstants.{WAYS}
use Rattle.vp_sets.proofs.Binomials.{choose_pos, choose-zero}
use Rattle.vp_sets.proofs.Pascal.{draw_counts_are, draw_count_at, ways_are, choose_five}

-- a number that passes while none before it does is the first
pub first_passing_is : (passes : ℕ → Bool) (low room m : ℕ) → low ≤ m → m < low + room → passes m ≡ true → ((x : ℕ) → low ≤ x → x < m → passes x ≡ false) → first_passing passes low room ≡ m
unfolding first_passing
first_passing_is passes low zero m a b hit miss = absurd (omega arith)
first_passing_is passes low (suc room) m a b hit miss =
    let e : (low < m) ⊎ (m ≤ low) = cases_lt low m in
    elim e [
      | inl l ↦ rw (miss low (omega arith) l) (first_passing_is passes (suc low) room m (omega arith) (omega arith) hit (λ x h. miss x (omega arith)))
      | inr l ↦
          let s : m ≡ low = omega arith in
          let t : passes low ≡ true = rw s at hit in
          rw (t, s) refl
    ]

-- where a number passes, the first passes
first_passing_passes : (passes : ℕ → Bool) (low room m : ℕ) → low ≤ m → m < low + room → passes m ≡ true → passes (first_passing passes low room) ≡ true
unfolding first_passing
first_passing_passes passes low zero m a b hit = absurd (omega arith)
first_passing_passes passes low (suc room) m a b hit =
    elim (passes low) as (λ v. passes low ≡ v → passes (cond v low (first_passing passes (suc low) room)) ≡ true) [
      | true ↦ λ t. t
      | false ↦ λ t. elim (cases_lt low m) [
        | inl l ↦ first_passing_passes passes (suc low) room m (omega arith) (omega arith) hit
        | inr l ↦
            let s : m ≡ low = omega arith in
            absurd (true≢false (sym hit ∙ ap passes s ∙ t))
      ]
    ] refl

-- and at most any number that passes
first_passing_least : (passes : ℕ → Bool) (low room m : ℕ) → low ≤ m → passes m ≡ true → first_passing passes low room ≤ m
unfolding first_passing
first_passing_least passes low zero m a hit = a
first_passing_least passes low (suc room) m a hit =
    let e : (low < m) ⊎ (m ≤ low) = cases_lt low m in
    elim (passes low) as (λ v. passes low ≡ v → cond v low (first_passing passes (suc low) room) ≤ m) [
      | true ↦ λ t. a
      | false ↦ λ t. elim e [
        | inl l ↦ first_passing_least passes (suc low) room m (omega arith) hit
        | inr l ↦
            let s : m ≡ low = omega arith in
            absurd (true≢false (sym hit ∙ ap passes s ∙ t))
      ]
    ] refl

-- ---- numbers that all numbers of draws divide

draw_counts_many : (n : ℕ) → length (draw_counts n) ≡ 6
unfolding draw_counts
draw_counts_many n = refl

-- the number passes the test of all
passing : (m n : ℕ) → ((k : ℕ) → k ≤ 5 → m % choose (n - 5) k ≡ 0) → list_all (λ x. m % x == 0) (draw_counts n) ≡ true
passing m n h =
    let each : (k : ℕ) → k < length (draw_counts n) → (m % get_or (draw_counts n) k 0 == 0) ≡ true = λ k l.
    let few : k ≤ 5 = omega (arith, draw_counts_many n) in
    rw (draw_count_at n k few) (eq-eqb _ _ (h k few)) in
    list_all-from_AllPass (λ x. m % x == 0) (draw_counts n) (All-from_get_or (λ x. (m % x == 0) ≡ true) (draw_counts n) 0 each)

-- each divides what passes
divided : (m n k : ℕ) → list_all (λ x. m % x == 0) (draw_counts n) ≡ true → k ≤ 5 → m % choose (n - 5) k ≡ 0
divided m n k pass few =
    let here : (m % get_or (draw_counts n) k 0 == 0) ≡ true = All-get_or (λ x. (m % x == 0) ≡ true) (draw_counts n) k 0 (omega (arith, draw_counts_many n)) (AllPass-from_list_all (λ x. m % x == 0) (draw_counts n) pass) in
    eqb-true _ _ (rw (draw_count_at n k few) at here)

-- ---- what is found by trying all decks

-- what a test finds of every number of cards that is a deck's holds of every deck
each_deck : (test : ℕ → Bool) → list_all (λ n. cond (is_deck n) (test n) true) (range_with_len 0 64) ≡ true → (n : ℕ) → IsDeck n → test n ≡ true
each_deck test all n d =
    let low : 52 ≤ n = d.0 in
    let high : n < 64 = omega (arith, d.1) in
    let some : n < length (range_with_len 0 64) = omega (arith, length-range_with_len 0 64) in
    let here : cond (is_deck (get_or (range_with_len 0 64) n 0)) (test (get_or (range_with_len 0 64) n 0)) true ≡ true = All-get_or (λ m. cond (is_deck m) (test m) true ≡ true) (range_with_len 0 64) n 0 some (AllPass-from_list_all (λ m. cond (is_deck m) (test m) true) (range_with_len 0 64) all) in
    let place : get_or (range_with_len 0 64) n 0 ≡ n = get_or-range_with_len 0 64 n 0 high ∙ (let e : 0 + n ≡ n = omega arith in e) in
    let known : is_deck n ≡ true = grind (arith, nat_tests, d.0, d.1) in
    rw known at rw place at here

-- all numbers of the row divide the number
divides_row : List ℕ → ℕ → Bool
divides_row row m = list_all (λ x. m % x == 0) row

-- the first of the multiples number, number + step .. that all numbers of the row divide
multiple : List ℕ → ℕ → ℕ → ℕ → ℕ
multiple row step number zero = number
multiple row step number (suc room) = cond (divides_row row number) number (multiple row step (number + step) room)

-- sixty times the number of draws of five cards is divided by all, and is at most their product
sixty_do : ℕ → Bool
sixty_do n =
    let row : List ℕ = get_or WAYS (n - 5) [] in
    divides_row row (60 * get_or row 5 0) && nat_le (60 * get_or row 5 0) (fold ◌*◌ 1 row)

sixty_do_each : list_all (λ n. cond (is_deck n) (sixty_do n) true) (range_with_len 0 64) ≡ true
unfolding sixty_do divides_row
sixty_do_each = refl

-- the multiple found is divided by all, and small
small_one : List ℕ → ℕ → Bool
small_one row m = divides_row row m && (nat_le 1 m && nat_le m 8561520)

found_small : ℕ → Bool
found_small n =
    let row : List ℕ = get_or WAYS (n - 5) [] in
    small_one row (multiple row (get_or row 5 0) (get_or row 5 0) 60)

found_small_each : list_all (λ n. cond (is_deck n) (found_small n) true) (range_with_len 0 64) ≡ true
unfolding found_small small_one multiple divides_row
found_small_each = refl

row_passes : (n m : ℕ) → n ≤ 54 → divides_row (get_or WAYS (n - 5) []) m ≡ list_all (λ x. m % x == 0) (draw_counts n)
unfolding divides_row
row_passes n m l = ap (list_all (λ x. m % x == 0)) (sym (draw_counts_are n l))

row_last : (n : ℕ) → n ≤ 54 → get_or (get_or WAYS (n - 5) []) 5 0 ≡ choose (n - 5) 5
row_last n l = ways_are (n - 5) 5 (omega arith) (lit≤ tt)

-- what the test of a deck says
pub record Sixty (n : ℕ) : Type 0 where
  pub passes : list_all (λ x. (60 * choose (n - 5) 5) % x == 0) (draw_counts n) ≡ true
  pub within : 60 * choose (n - 5) 5 ≤ fold ◌*◌ 1 (draw_counts n)

pub sixty : (n : ℕ) → IsDeck n → Sixty n
unfolding sixty_do
sixty n d =
    let both : sixty_do n ≡ true = each_deck sixty_do sixty_do_each n d in
    let row : List ℕ = get_or WAYS (n - 5) [] in
    let few : n ≤ 54 = d.1 in
    let number : 60 * get_or row 5 0 ≡ 60 * choose (n - 5) 5 = ap (λ x. 60 * x) (row_last n few) in
    let one : divides_row row (60 * get_or row 5 0) ≡ true = (and_parts _ _ both).0 in
    let two : nat_le (60 * get_or row 5 0) (fold ◌*◌ 1 row) ≡ true = (and_parts _ _ both).1 in
    record {
      passes = sym (row_passes n (60 * choose (n - 5) 5) few) ∙ ap (divides_row row) (sym number) ∙ one;
      within = leb-true _ _ (rw (number, sym (draw_counts_are n few)) at two);
    }

-- five tests and the one that every number passes, in the order of the code
regrouped : (a b c d e : Bool) → (a && (b && (c && (d && (e && true))))) ≡ ((((a && b) && c) && d) && e)
regrouped true true true true true = refl
regrouped true true true true false = refl
regrouped true true true false e = refl
regrouped true true false d e = refl
regrouped true false c d e = refl
regrouped false b c d e = refl

pub five_parts : (m n : ℕ) → list_all (λ x. m % x == 0) (draw_counts n) ≡ (((((m % choose (n - 5) 1 == 0) && (m % choose (n - 5) 2 == 0)) && (m % choose (n - 5) 3 == 0)) && (m % choose (n - 5) 4 == 0)) && (m % choose (n - 5) 5 == 0))
unfolding draw_counts
five_parts m n =
    let one : choose (n - 5) 0 ≡ 1 = choose-zero (n - 5) in
    let free : (m % choose (n - 5) 0 == 0) ≡ true = rw one (eq-eqb _ _ (omega arith)) in
    let test : ℕ → Bool = λ k. m % choose (n - 5) k == 0 in
    rw free (regrouped (test 1) (test 2) (test 3) (test 4) (test 5))

-- ---- the search for it

passes_all : ℕ → ℕ → Bool
passes_all n m = list_all (λ x. m % x == 0) (draw_counts n)

-- at a multiple of the number of draws of five cards, before which no number passes
pub record Searched (n step number : ℕ) : Type 0 where
  pub is_step : step ≡ choose (n - 5) 5
  pub more : 0 < step
  pub some : 0 < number
  pub times : ℕ
  pub multiple : number ≡ times * step
  pub before : (m : ℕ) → 0 < m → m < number → list_all (λ x. m % x == 0) (draw_counts n) ≡ false

-- no multiple lies between two that follow one another
gap : (step times m : ℕ) → 0 < step → times * step < m → m < times * step + step → m % step ≡ 0 → ⊥
gap step times m p a b e =
    let whole : m / step * step ≡ m = omega (arith, div-add-mod' m step) in
    elim (cases_lt times (m / step)) [
      | inl l ↦
          let up : suc times * step ≤ m / step * step = mul-le-mul_right step (omega arith) in
          omega (arith, suc-mul times step)
      | inr l ↦
          let down : m / step * step ≤ times * step = mul-le-mul_right step l in
          omega arith
    ]

-- what is no multiple does not pass
between : (n step m : ℕ) → step ≡ choose (n - 5) 5 → (m % step ≡ 0 → ⊥) → list_all (λ x. m % x == 0) (draw_counts n) ≡ false
between n step m e h = elim (list_all (λ x. m % x == 0) (draw_counts n)) as (λ v. list_all (λ x. m % x == 0) (draw_counts n) ≡ v → v ≡ false) [
  | true ↦ λ t. absurd (h (rw e (divided m n 5 t (lit≤ tt))))
  | false ↦ λ t. refl
] refl

pub searched_start : (n step : ℕ) → IsDeck n → step ≡ choose (n - 5) 5 → Searched n step step
searched_start n step d e =
    let more : 0 < step = rw e (choose_pos (n - 5) 5 (omega (arith, d.0))) in
    record {
      is_step = e;
      more = more;
      some = more;
      times = 1;
      multiple = omega arith;
      before = λ m p l. between n step m e (gap step 0 m more (omega arith) (omega arith));
    }

pub searched_next : (n step number : ℕ) → Searched n step number → list_all (λ x. number % x == 0) (draw_counts n) ≡ false → Searched n step (number + step)
searched_next n step number s miss = record {
  is_step = s.is_step;
  more = s.more;
  some = omega (arith, s.some);
  times = suc s.times;
  multiple = omega (arith, s.multiple, suc-mul s.times step);
  before = λ m p l. case_of m p l (cases_lt m number) (cases_lt number m);
} where
  case_of : (m : ℕ) → 0 < m → m < number + step → (m < number) ⊎ (number ≤ m) → (number < m) ⊎ (m ≤ number) → list_all (λ x. m % x == 0) (draw_counts n) ≡ false
  case_of m p l (inl a) b = s.before m p a
  case_of m p l (inr a) (inl b) = between n step m s.is_step (gap step s.times m s.more (omega (arith, s.multiple)) (omega (arith, s.multiple)))
  case_of m p l (inr a) (inr b) = let e : m ≡ number = omega arith in rw e miss

-- it ends below sixty times the step
pub searched_below : (n step number : ℕ) → IsDeck n → Searched n step number → list_all (λ x. number % x == 0) (draw_counts n) ≡ false → number < 60 * step
searched_below n step number d s miss = elim (cases_lt number (60 * step)) [
  | inl a ↦ a
  | inr a ↦ absurd (true≢false (sym (passes_sixty) ∙ elim (cases_lt (60 * step) number) [
    | inl b ↦ s.before (60 * step) (omega (arith, s.more)) b
    | inr b ↦ let e : 60 * step ≡ number = omega arith in rw e miss
  ]))
] where
  passes_sixty : list_all (λ x. (60 * step) % x == 0) (draw_counts n) ≡ true
  passes_sixty = rw s.is_step (sixty n d).passes

-- the step is small
pub draws_few : (n step number : ℕ) → IsDeck n → Searched n step number → step ≤ 3162510
draws_few n step number d s =
    omega (arith, s.is_step, choose_five (n - 5) (omega (arith, d.1)))

-- what passes is the common denominator
pub searched_found : (n step number : ℕ) → IsDeck n → Searched n step number → list_all (λ x. number % x == 0) (draw_counts n) ≡ true → number ≡ common n
unfolding common least_common_multiple
searched_found n step number d s hit =
    let low : number ≤ 60 * step = elim (cases_lt (60 * step) number) [
      | inl b ↦ absurd (true≢false (sym (rw s.is_step (sixty n d).passes) ∙ s.before (60 * step) (omega (arith, s.more)) b))
      | inr b ↦ b
    ] in
    let high : 60 * step ≤ fold ◌*◌ 1 (draw_counts n) = rw s.is_step (sixty n d).within in
    sym (first_passing_is (λ m. list_all (λ x. m % x == 0) (draw_counts n)) 1 (fold ◌*◌ 1 (draw_counts n)) number (omega (arith, s.some)) (omega arith) hit (λ x a b. s.before x (omega arith) b))

-- no smaller number is divided by them all
pub common_least : (n m : ℕ) → 0 < m → ((k : ℕ) → k ≤ 5 → m % choose (n - 5) k ≡ 0) → common n ≤ m
unfolding common least_common_multiple
common_least n m p h = first_passing_least (λ x. list_all (λ y. x % y == 0) (draw_counts n)) 1 (fold ◌*◌ 1 (draw_counts n)) m (omega arith) (passing m n h)

-- every number of draws divides the common denominator
common_passes : (n : ℕ) → IsDeck n → list_all (λ x. common n % x == 0) (draw_counts n) ≡ true
unfolding common least_common_multiple
common_passes n d = first_passing_passes (λ m. list_all (λ x. m % x == 0) (draw_counts n)) 1 (fold ◌*◌ 1 (draw_counts n)) (60 * choose (n - 5) 5) (omega (arith, choose_pos (n - 5) 5 (omega (arith, d.0)))) (omega (arith, (sixty n d).within)) (sixty n d).passes

pub common_divided : (n k : ℕ) → IsDeck n → k ≤ 5 → common n % choose (n - 5) k ≡ 0
common_divided n k e h = divided (common n) n k (common_passes n e) h

-- the scale times the number of draws is the common denominator
pub scale_exact : (n k : ℕ) → IsDeck n → k ≤ 5 → scale n k * choose (n - 5) k ≡ common n
unfolding scale
scale_exact n k e h = omega (arith, common_divided n k e h, div-add-mod' (common n) (choose (n - 5) k))

-- no common denominator is large
pub common_small : (n : ℕ) → IsDeck n → common n ≤ 8561520
unfolding found_small small_one
common_small n d =
    let row : List ℕ = get_or WAYS (n - 5) [] in
    let found : ℕ = multiple row (get_or row 5 0) (get_or row 5 0) 60 in
    let all : small_one row found ≡ true = each_deck found_small found_small_each n d in
    let passes : list_all (λ x. found % x == 0) (draw_counts n) ≡ true = sym (row_passes n found d.1) ∙ (and_parts _ _ all).0 in
    let some : 1 ≤ found = leb-true _ _ ((and_parts _ _ (and_parts _ _ all).1).0) in
    let few : found ≤ 8561520 = leb-true _ _ ((and_parts _ _ (and_parts _ _ all).1).1) in
    omega (arith, common_least n found some (λ k h. divided found n k passes h))

pub scale_is : (n k : ℕ) → common n / choose (n - 5) k ≡ scale n k
unfolding scale
scale_is n k = refl
