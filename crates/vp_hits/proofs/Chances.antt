-- The number of each hand's line, and what the sums of such numbers tell of a hold.
use Rattle.std.proofs.Common.{◌≡◌, ◌≢◌, inl, inr, ℕ, zero, suc, ◌+◌, ◌-◌, ◌*◌, ◌/◌, ◌%◌, ◌<◌, ◌≤◌, Bool, true, false, List, [], ◌∷◌, Option, Some, None, length, get_or, set, replicate, refl, sym, ap, subst, ◌∙◌, arith, length-set, get_or-set_same}
use Rattle.std.specs.Prelude.{sum_by, if◌then◌else◌, ◌==◌, IfSome}
use Rattle.std.proofs.lemmas.Bool.Decides.{nat_tests}
use Rattle.std.proofs.lemmas.Bool.{cases_eq}
use Rattle.std.proofs.lemmas.List.{get_or-set_other, length-replicate}
use Rattle.std.proofs.lemmas.List.Sums.{sum_by-cons}
use Rattle.vp_card.specs.Cards.{IsHand, held, in_deck, joined}
use Rattle.vp_pay.specs.declared.table.PayTable.{PayTable}
use Rattle.vp_pay.specs.Table.{IsTable}
use Rattle.vp_sets.specs.Sets.{choose}
use Rattle.vp_sets.specs.Draws.{common, discarded, draws, scale, sum_over_draws}
use Rattle.vp_sets.proofs.Denominators.{common_small, scale_exact}
use Rattle.vp_sets.proofs.Holds.{Dealt, dealt_from, length-held, sum_over_draws_le}
use Rattle.vp_draws.proofs.Values.{scaled_le}
use Rattle.vp_wild.specs.Payment.{line}
use Rattle.vp_count.specs.Table.{AreSumsOf, Table}
use Rattle.vp_hold.specs.Means.{mean}
use Rattle.vp_hold.proofs.ScaledSums.{mean_of, of_sums}
use Rattle.vp_hits.specs.Hits.{AreHits, Asked, chance, hit, hits, is_asked, mark}
use Rattle.vp_hold.specs.Numbers.{AreNumbers, place_among, by_line}
use Rattle.vp_hold.proofs.Numbers.{sums_by_line}
use Rattle.vp_hits.specs.Numbers.{AreTwoHits, AskedTwo, two_hits, two_marks}

-- ---- numbers by line

pub mark_le : (place found : Option ℕ) → mark place found ≤ 1
mark_le place found = by_test (is_asked place found)
  where
    by_test : (b : Bool) → (if b then 1 else 0) ≤ 1
    by_test true = omega arith
    by_test false = omega arith

pub hits_are : (asked : Asked) (numbers : List ℕ) (sums : Table) → IsTable asked.table → AreNumbers (mark asked.line) numbers → AreSumsOf asked.table.deck (by_line asked.table numbers) sums
    → AreSumsOf asked.table.deck (hit asked.table asked.line) sums
unfolding hit
hits_are asked numbers sums t are s = sums_by_line asked.table (mark asked.line) numbers sums t are s

pub two_hits_are : (asked : AskedTwo) (numbers : List ℕ) (sums : Table) → IsTable asked.table → AreNumbers (two_marks asked.first asked.second) numbers → AreSumsOf asked.table.deck (by_line asked.table numbers) sums
    → AreSumsOf asked.table.deck (two_hits asked.table asked.first asked.second) sums
unfolding hit
two_hits_are asked numbers sums t are s = sums_by_line asked.table (two_marks asked.first asked.second) numbers sums t are s

-- ---- chances out of the means

of_asked : (asked own : Asked) (sums : Table) → own ≡ asked → AreHits own sums → AreHits asked sums
of_asked asked own sums e h = subst (λ (a : Asked). AreHits a sums) e h

pub told_chance : (asked own : Asked) (sums : Table) (hand : List ℕ) (mask : ℕ) → own ≡ asked → AreHits own sums → IsHand hand → in_deck asked.table.deck hand ≡ true
    → mean sums hand mask ≡ chance asked.table asked.line hand mask
unfolding chance hits
told_chance asked own sums hand mask e g h d = mean_of asked.table.deck (hit asked.table asked.line) sums hand mask (of_asked asked own sums e g).counted h d

pub in_hits : (asked own : Asked) (sums : Table) (hand : List ℕ) → own ≡ asked → AreHits own sums → in_deck asked.table.deck hand ≡ true → in_deck sums.size hand ≡ true
in_hits asked own sums hand e g d = of_sums asked.table.deck (hit asked.table asked.line) sums hand (of_asked asked own sums e g).counted d

hit_le : (table : PayTable) (place : Option ℕ) (hand : List ℕ) → hit table place hand ≤ 1
unfolding hit
hit_le table place hand = mark_le place (line table hand)

-- no chance is above one
pub chance_le : (table : PayTable) (place : Option ℕ) (hand : List ℕ) (mask : ℕ) → IsTable table → Dealt table.deck hand → chance table place hand mask ≤ common table.deck
unfolding chance hits
chance_le table place hand mask t d =
    let k : ℕ = length (discarded mask hand) in
    let few : k ≤ 5 = omega (arith, length-held mask hand, d.five) in
    let most : sum_over_draws (hit table place) table.deck hand mask ≤ 1 * choose (table.deck - 5) k = sum_over_draws_le (hit table place) 1 table.deck hand mask d (λ h. hit_le table place h) in
    let one : sum_over_draws (hit table place) table.deck hand mask * scale table.deck k ≤ 1 * common table.deck =
    scaled_le _ 1 (choose (table.deck - 5) k) (scale table.deck k) (common table.deck) most (scale_exact table.deck k t.known_deck few) in
    omega (arith, one)

-- ---- two lines at once

sum_two : {A : Type 0} (f g : A → ℕ) (xs : List A) → sum_by (λ x. f x + 16777216 * g x) xs ≡ sum_by f xs + 16777216 * sum_by g xs
sum_two f g [] = omega arith
sum_two f g (x ∷ xs) =
    let ih = sum_two f g xs in
    let whole = sum_by-cons (λ a. f a + 16777216 * g a) x xs in
    let left = sum_by-cons f x xs in
    let right = sum_by-cons g x xs in
    omega arith

-- the sum of both marks, scaled, is the chances of both lines
two_chances : (table : PayTable) (first second : Option ℕ) (hand : List ℕ) (mask : ℕ)
    → sum_over_draws (two_hits table first second) table.deck hand mask * scale table.deck (length (discarded mask hand)) ≡ chance table first hand mask + 16777216 * chance table second hand mask
unfolding chance hits sum_over_draws
two_chances table first second hand mask =
    ap (λ sum. sum * scale table.deck (length (discarded mask hand)))
    (sum_two (λ drawn. hit table first (joined (held mask hand) drawn)) (λ drawn. hit table second (joined (held mask hand) drawn)) (draws table.deck hand mask))
    ∙ shared _ _ (scale table.deck (length (discarded mask hand)))
  where
    shared : (a b s : ℕ) → (a + 16777216 * b) * s ≡ a * s + 16777216 * (b * s)
    shared a b s = omega arith

of_two : (asked own : AskedTwo) (sums : Table) → own ≡ asked → AreTwoHits own sums → AreTwoHits asked sums
of_two asked own sums e h = subst (λ (a : AskedTwo). AreTwoHits a sums) e h

pub in_two : (asked own : AskedTwo) (sums : Table) (hand : List ℕ) → own ≡ asked → AreTwoHits own sums → in_deck asked.table.deck hand ≡ true → in_deck sums.size hand ≡ true
in_two asked own sums hand e g d = of_sums asked.table.deck (two_hits asked.table asked.first asked.second) sums hand (of_two asked own sums e g).counted d

-- both chances
pub record Two (asked : AskedTwo) (hand : List ℕ) (mask both : ℕ) : Type 0 where
  pub first : both % 16777216 ≡ chance asked.table asked.first hand mask
  pub second : both / 16777216 ≡ chance asked.table asked.second hand mask

pub told_two : (asked own : AskedTwo) (sums : Table) (hand : List ℕ) (mask both : ℕ) → own ≡ asked → AreTwoHits own sums → IsHand hand → in_deck asked.table.deck hand ≡ true
    → both ≡ mean sums hand mask → Two asked hand mask both
told_two asked own sums hand mask both e g h d is =
    let b : AreTwoHits asked sums = of_two asked own sums e g in
    let table = asked.table in
    let whole : both ≡ chance table asked.first hand mask + 16777216 * chance table asked.second hand mask =
    is ∙ mean_of table.deck (two_hits table asked.first asked.second) sums hand mask b.counted h d ∙ two_chances table asked.first asked.second hand mask in
    let small : chance table asked.first hand mask < 16777216 =
    omega (arith, chance_le table asked.first hand mask b.rules (dealt_from table.deck hand h d), common_small table.deck b.rules.known_deck) in
    record { first = omega (arith, whole, small); second = omega (arith, whole, small) }

-- ---- numbers, one line more

-- a number that is added at the place of a line is added for its hands alone
mark_same : (place found : Option ℕ) → IfSome place (λ i. i < 32) → IfSome found (λ i. i < 32) → place_among found ≡ place_among place → mark place found ≡ 1
unfolding is_asked
mark_same None None h k e = refl
mark_same None (Some j) h k e = absurd (omega arith)
mark_same (Some i) None h k e = absurd (omega arith)
mark_same (Some i) (Some j) h k e = ap (λ (b : Bool). if b then 1 else 0) (equal i j (sym e))
  where
    equal : (i j : ℕ) → i ≡ j → (i == j) ≡ true
    equal i j e = grind (arith, nat_tests)

mark_other : (place found : Option ℕ) → place_among found ≢ place_among place → mark place found ≡ 0
unfolding is_asked
mark_other None None other = absurd (other refl)
mark_other None (Some j) other = refl
mark_other (Some i) None other = refl
mark_other (Some i) (Some j) other = ap (λ (b : Bool). if b then 1 else 0) (different i j (λ e. other (sym e)))
  where
    different : (i j : ℕ) → i ≢ j → (i == j) ≡ false
    different i j other = grind (arith, nat_tests)

pub numbers_more : (f : Option ℕ → ℕ) (numbers : List ℕ) (place : Option ℕ) (p v x : ℕ) → p ≡ place_among place → p < 33 → IfSome place (λ i. i < 32) → x ≡ get_or numbers p 0 + v → AreNumbers f numbers
    → AreNumbers (λ found. f found + v * mark place found) (set numbers p x)
numbers_more f numbers place p v x is small h sum are = record {
  long = length-set numbers p x ∙ are.long;
  number = λ found k. elim (cases_eq (place_among found) p) [
    | inl same ↦ (let marked : mark place found ≡ 1 = mark_same place found h k (same ∙ is) in
        let here : get_or (set numbers p x) (place_among found) 0 ≡ x = ap (λ j. get_or (set numbers p x) j 0) same ∙ get_or-set_same numbers p x 0 (omega (arith, are.long)) in
        let was : get_or numbers p 0 ≡ f found = ap (λ j. get_or numbers j 0) (sym same) ∙ are.number found k in
        here ∙ sum ∙ rw (marked, was) (once (f found) v))
    | inr other ↦ (let marked : mark place found ≡ 0 = mark_other place found (λ e. other (e ∙ sym is)) in
        get_or-set_other numbers p (place_among found) x 0 other ∙ are.number found k ∙ rw marked (none (f found) v))
  ];
}
  where
    once : (a v : ℕ) → a + v ≡ a + v * 1
    once a v = omega arith

    none : (a v : ℕ) → a ≡ a + v * 0
    none a v = omega arith

abbrev zeros : ℕ → List ℕ
zeros n = replicate n 0

nought_at : (n i : ℕ) → get_or (zeros n) i 0 ≡ 0
nought_at zero i = refl
nought_at (suc n) zero = refl
nought_at (suc n) (suc i) = nought_at n i

no_numbers : AreNumbers (λ found. 0) (zeros 33)
no_numbers = record { long = length-replicate {A = ℕ} 33 0; number = λ found h. nought_at 33 (place_among found) }

pub one_number : (place : Option ℕ) (p : ℕ) → p ≡ place_among place → p < 33 → IfSome place (λ i. i < 32) → AreNumbers (mark place) (set (zeros 33) p 1)
one_number place p is small h =
    let more = numbers_more (λ found. 0) (zeros 33) place p 1 1 is small h (ap (λ n. n + 1) (sym (nought_at 33 p))) no_numbers in
    record { long = more.long; number = λ found k. more.number found k ∙ once (mark place found) }
  where
    once : (n : ℕ) → 0 + 1 * n ≡ n
    once n = omega arith
