-- The table of choices has Pascal's numbers, and among them those of draws.
use Rattle.std.proofs.Common.{lit≤, ◌≡◌, ℕ, zero, suc, ◌+◌, ◌-◌, ◌<◌, ◌≤◌, refl, ap, sym, ◌∙◌, arith, List, [], ◌∷◌, length, get_or, take, drop, map}
use Rattle.std.proofs.lemmas.List.{get_or-map, get_or-take, get_or-drop}
use Rattle.vp_sets.specs.Sets.{choose}
use Rattle.vp_sets.proofs.Binomials.{choose_le}
use Rattle.vp_sets.specs.Draws.{draw_counts}
use Rattle.vp_sets.specs.declared.ways.TheConstants.{WAYS}

-- the row behind a row
after : List ℕ → List ℕ
after r = 1 ∷ (get_or r 0 0 + get_or r 1 0) ∷ (get_or r 1 0 + get_or r 2 0) ∷ (get_or r 2 0 + get_or r 3 0) ∷ (get_or r 3 0 + get_or r 4 0) ∷ (get_or r 4 0 + get_or r 5 0) ∷ []

-- the choices from n things
row : ℕ → List ℕ
row n = choose n 0 ∷ choose n 1 ∷ choose n 2 ∷ choose n 3 ∷ choose n 4 ∷ choose n 5 ∷ []

after-row : (n : ℕ) → after (row n) ≡ row (suc n)
unfolding after row choose
after-row n = refl

rows_follow : drop 1 WAYS ≡ take 54 (map after WAYS)
unfolding after
rows_follow = refl

row-zero : get_or WAYS 0 [] ≡ row 0
unfolding row choose
row-zero = refl

rows_count : length WAYS ≡ 55
rows_count = refl

next_row : (n : ℕ) → n < 54 → get_or WAYS (suc n) [] ≡ after (get_or WAYS n [])
next_row n l =
    let e : suc n ≡ 1 + n = omega arith in
    let a : get_or WAYS (suc n) [] ≡ get_or (drop 1 WAYS) n [] = ap (λ i. get_or WAYS i []) e ∙ sym (get_or-drop 1 WAYS n []) in
    let b : get_or (take 54 (map after WAYS)) n [] ≡ get_or (map after WAYS) n [] = get_or-take 54 (map after WAYS) n [] l in
    let d : get_or (map after WAYS) n [] ≡ after (get_or WAYS n []) = get_or-map after WAYS n [] [] (omega (arith, rows_count)) in
    a ∙ ap (λ t. get_or t n []) rows_follow ∙ b ∙ d

row_is : (n : ℕ) → n ≤ 54 → get_or WAYS n [] ≡ row n
row_is zero l = row-zero
row_is (suc n) l = next_row n (omega arith) ∙ ap after (row_is n (omega arith)) ∙ after-row n

column : (n k : ℕ) → k ≤ 5 → get_or (row n) k 0 ≡ choose n k
unfolding row
column n zero l = refl
column n (suc zero) l = refl
column n (suc (suc zero)) l = refl
column n (suc (suc (suc zero))) l = refl
column n (suc (suc (suc (suc zero)))) l = refl
column n (suc (suc (suc (suc (suc zero))))) l = refl
column n (suc (suc (suc (suc (suc (suc k)))))) l = absurd (omega arith)

-- the entry for n things of which k are chosen
pub ways_are : (n k : ℕ) → n ≤ 54 → k ≤ 5 → get_or (get_or WAYS n []) k 0 ≡ choose n k
ways_are n k l m = ap (λ r. get_or r k 0) (row_is n l) ∙ column n k m

-- the numbers of draws stand in the row of the cards that were not dealt
pub draw_counts_are : (n : ℕ) → n ≤ 54 → draw_counts n ≡ get_or WAYS (n - 5) []
unfolding draw_counts row
draw_counts_are n l = sym (row_is (n - 5) (omega arith))

pub draw_count_at : (n k : ℕ) → k ≤ 5 → get_or (draw_counts n) k 0 ≡ choose (n - 5) k
unfolding draw_counts row
draw_count_at n k l = column (n - 5) k l

-- there are at most 3162510 sets of five
pub choose_five : (n : ℕ) → n ≤ 54 → choose n 5 ≤ 3162510
choose_five n l =
    let greatest : choose 54 5 ≡ 3162510 = sym (ways_are 54 5 (lit≤ tt) (lit≤ tt)) in
    omega (arith, greatest, choose_le n 54 5 l)
