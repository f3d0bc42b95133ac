-- Payments, totals and values with another payment in one line.
use Rattle.std.proofs.Common.{◌≡◌, ◌≢◌, ◌⊎◌, inl, inr, ℕ, zero, suc, ◌+◌, ◌-◌, ◌*◌, ◌<◌, ◌≤◌, Bool, true, false, cond, not, List, [], ◌∷◌, length, get_or, set, map, refl, ap, sym, ◌∙◌, arith, Option, None, Some, get_or-set_same, length-set}
use Rattle.std.proofs.Math.Path.{fun_ext}
use Rattle.std.specs.Prelude.{if◌then◌else◌, ◌==◌, ◌&&◌, nat_le, slice_index, sum_by, ltb}
use Rattle.std.specs.List.{position_or_len, All, list_all}
use Rattle.std.proofs.lemmas.Bool.Decides.{nat_tests}
use Rattle.std.proofs.lemmas.List.{drop-set-lt}
use Rattle.std.proofs.lemmas.List.Sums.{sum_by-cons}
use Rattle.std.proofs.lemmas.List.Elements.{All-head, All-tail, All-cons, All-get_or}
use Rattle.vp_pay.specs.declared.pattern.Pattern.TheVariants.{Royal}
use Rattle.vp_pay.specs.declared.pattern.Qualifier.TheVariants.{Either}
use Rattle.vp_pay.specs.declared.table.PayLine.{PayLine}
use Rattle.vp_pay.specs.declared.table.PayTable.{PayTable}
use Rattle.vp_pay.specs.Bets.{IsBet}
use Rattle.vp_pay.specs.Table.{IsTable, IsPayLine}
use Rattle.vp_sets.specs.Draws.{discarded, draws, scale, sum_over_draws}
use Rattle.vp_card.specs.Cards.{held, joined}
use Rattle.vp_wild.specs.Payment.{first_line, hits, line, pay}
use Rattle.vp_wild.proofs.ByShape.{pay_at, pay_none}
use Rattle.vp_draws.proofs.Payments.{pay_le}
use Rattle.vp_draws.specs.Draws.{total, value}
use Rattle.vp_meter.specs.Metered.{changed_at, paying, with_payment, is_line, base_pay, hit}

-- ---- the lines

length-changed : (place : ℕ) (f : PayLine → PayLine) (ls : List PayLine) → length (changed_at place f ls) ≡ length ls
unfolding changed_at
length-changed place f [] = refl
length-changed zero f (l ∷ ls) = refl
length-changed (suc place) f (l ∷ ls) = ap suc (length-changed place f ls)

first-changed : (test : PayLine → Bool) (place : ℕ) (f : PayLine → PayLine) (ls : List PayLine) → ((l : PayLine) → test (f l) ≡ test l) → position_or_len test (changed_at place f ls) ≡ position_or_len test ls
unfolding changed_at
first-changed test place f [] same = refl
first-changed test zero f (l ∷ ls) same = ap (λ (b : Bool). cond (not b) (1 + position_or_len test ls) 0) (same l)
first-changed test (suc place) f (l ∷ ls) same = ap (λ (n : ℕ). cond (not (test l)) (1 + n) 0) (first-changed test place f ls same)

pub line_same : (coin place x : ℕ) (table : PayTable) (hand : List ℕ) → line (with_payment table coin place x) hand ≡ line table hand
unfolding first_line hits with_payment
line_same coin place x table hand =
    let test : PayLine → Bool = λ l. hits table.wild l hand in
    let first = first-changed test place (paying coin x) table.lines.items (λ l. refl) in
    let long = length-changed place (paying coin x) table.lines.items in
    ap (λ (n : ℕ). cond (ltb n (length (changed_at place (paying coin x) table.lines.items))) (Some n) None) first
    ∙ ap (λ (m : ℕ). cond (ltb (position_or_len test table.lines.items) m) (Some (position_or_len test table.lines.items)) None) long

at_changed : (place : ℕ) (f : PayLine → PayLine) (ls : List PayLine) (d : PayLine) → place < length ls → get_or (changed_at place f ls) place d ≡ f (get_or ls place d)
unfolding changed_at
at_changed place f [] d l = absurd (omega arith)
at_changed zero f (l ∷ ls) d inside = refl
at_changed (suc place) f (l ∷ ls) d inside = at_changed place f ls d (omega arith)

at_other : (place i : ℕ) (f : PayLine → PayLine) (ls : List PayLine) (d : PayLine) → i ≢ place → get_or (changed_at place f ls) i d ≡ get_or ls i d
unfolding changed_at
at_other place i f [] d other = refl
at_other zero zero f (l ∷ ls) d other = absurd (other refl)
at_other zero (suc i) f (l ∷ ls) d other = refl
at_other (suc place) zero f (l ∷ ls) d other = refl
at_other (suc place) (suc i) f (l ∷ ls) d other = at_other place i f ls d (λ e. other (ap suc e))

-- ---- the payment

nothing : PayLine
nothing = record { name = []; pattern = Royal; qualifier = Either; pays = [] }

-- what the column of the bet says in a line that was changed
column_changed : (coin x coins : ℕ) (l : PayLine) → IsPayLine coins l → 1 ≤ coin → coin ≤ 5 → slice_index (paying coin x l).pays (coin - 1) ≡ x
column_changed coin x coins l rules from to = let five = rules.pays.columns in get_or-set_same l.pays (coin - 1) x 0 (omega arith)

pub different_lines : (i place : ℕ) → i ≢ place → (i == place) ≡ false
different_lines i place other = grind (arith, nat_tests)

pub same_line : (i place : ℕ) → i ≡ place → (i == place) ≡ true
same_line i place same = grind (arith, nat_tests)

pub equal_or_not : (i place : ℕ) → (i ≡ place) ⊎ (i ≢ place)
equal_or_not i place = grind arith

paid_by : (coin place x : ℕ) (table : PayTable) (hand : List ℕ) → IsBet table coin → place < length table.lines.items → (o : Option ℕ) → line table hand ≡ o
    → pay (with_payment table coin place x) coin hand ≡ (if is_line place o then 0 else pay table coin hand) + x * (if is_line place o then 1 else 0)
unfolding with_payment is_line
paid_by coin place x table hand bet inside None e =
    let now = pay_none (with_payment table coin place x) coin hand (line_same coin place x table hand ∙ e) in
    let was = pay_none table coin hand e in
    omega arith
paid_by coin place x table hand bet inside (Some i) e =
    let now = pay_at (with_payment table coin place x) coin hand i nothing (line_same coin place x table hand ∙ e) in
    let was = pay_at table coin hand i nothing e in
    elim (equal_or_not i place) [
      | inl same ↦
          let most = bet.rules.most_coins in
          let last = bet.within in
          let here : pay (with_payment table coin place x) coin hand ≡ x =
          now ∙ (ap (λ (n : ℕ). slice_index (get_or (changed_at place (paying coin x) table.lines.items) n nothing).pays (coin - 1)) same
          ∙ (ap (λ (l : PayLine). slice_index l.pays (coin - 1)) (at_changed place (paying coin x) table.lines.items nothing inside)
          ∙ column_changed coin x table.coins (get_or table.lines.items place nothing) (All-get_or (IsPayLine table.coins) table.lines.items place nothing inside bet.rules.lines) bet.some (omega arith))) in
          rw (same_line i place same) (omega (arith, here))
      | inr other ↦
          let there : pay (with_payment table coin place x) coin hand ≡ pay table coin hand =
          now ∙ (ap (λ (l : PayLine). slice_index l.pays (coin - 1)) (at_other place i (paying coin x) table.lines.items nothing other) ∙ sym was) in
          rw (different_lines i place other) (omega (arith, there))
    ]

pub pay_changed : (coin place x : ℕ) (table : PayTable) (hand : List ℕ) → IsBet table coin → place < length table.lines.items
    → pay (with_payment table coin place x) coin hand ≡ base_pay table coin place hand + x * hit table place hand
pay_changed coin place x table hand bet inside = paid_by coin place x table hand bet inside (line table hand) refl

-- ---- the table

All-changed : (P : PayLine → Type 0) (place : ℕ) (f : PayLine → PayLine) (ls : List PayLine) → ((l : PayLine) → P l → P (f l)) → All P ls → All P (changed_at place f ls)
unfolding changed_at
All-changed P place f [] kept all = all
All-changed P zero f (l ∷ ls) kept all = All-cons P (f l) ls (kept l (All-head P l ls all)) (All-tail P l ls all)
All-changed P (suc place) f (l ∷ ls) kept all = All-cons P l (changed_at place f ls) (All-head P l ls all) (All-changed P place f ls kept (All-tail P l ls all))

names_same : (place : ℕ) (f : PayLine → PayLine) (ls : List PayLine) → ((l : PayLine) → (f l).name ≡ l.name) → map (λ (l : PayLine). l.name) (changed_at place f ls) ≡ map (λ (l : PayLine). l.name) ls
unfolding changed_at
names_same place f [] same = refl
names_same zero f (l ∷ ls) same = ap (λ (n : List ℕ). n ∷ map (λ (l : PayLine). l.name) ls) (same l)
names_same (suc place) f (l ∷ ls) same = ap (λ (ns : List (List ℕ)). l.name ∷ ns) (names_same place f ls same)

within_set : (pays : List ℕ) (i x : ℕ) → x ≤ 500000 → list_all (λ pay. nat_le pay 500000) pays ≡ true → list_all (λ pay. nat_le pay 500000) (set pays i x) ≡ true
within_set [] i x small all = all
within_set (p ∷ ps) zero x small all = front (nat_le p 500000) (list_all (λ pay. nat_le pay 500000) ps) (nat_le x 500000) all (grind (arith, nat_tests))
  where
    front : (a b c : Bool) → (a && b) ≡ true → c ≡ true → (c && b) ≡ true
    front a b c h k = grind (arith, nat_tests)
within_set (p ∷ ps) (suc i) x small all = behind (nat_le p 500000) (list_all (λ pay. nat_le pay 500000) ps) (list_all (λ pay. nat_le pay 500000) (set ps i x)) all (λ e. within_set ps i x small e)
  where
    behind : (a b c : Bool) → (a && b) ≡ true → (b ≡ true → c ≡ true) → (a && c) ≡ true
    behind true true c h k = k refl
    behind true false c h k = k h
    behind false b c h k = h

pays_same : (coin x coins : ℕ) (l : PayLine) → 1 ≤ coin → coin ≤ coins → x ≤ 500000 → IsPayLine coins l → IsPayLine coins (paying coin x l)
pays_same coin x coins l from to small h = record {
  name = h.name;
  pattern = h.pattern;
  pays = record {
    columns = length-set l.pays (coin - 1) x ∙ h.pays.columns;
    within = within_set l.pays (coin - 1) x small h.pays.within;
    above = drop-set-lt coins l.pays (coin - 1) x (omega arith) ∙ h.pays.above;
  };
}

pub table_changed : (coin place x : ℕ) (table : PayTable) → IsBet table coin → x ≤ 500000 → IsTable (with_payment table coin place x)
unfolding with_payment
table_changed coin place x table bet small =
    let h = bet.rules in
    let long = length-changed place (paying coin x) table.lines.items in
    record {
      name = h.name;
      known_deck = h.known_deck;
      wild = h.wild;
      some_coins = h.some_coins;
      most_coins = h.most_coins;
      some_lines = omega (arith, h.some_lines);
      most_lines = omega (arith, h.most_lines);
      lines = All-changed (IsPayLine table.coins) place (paying coin x) table.lines.items (λ l k. pays_same coin x table.coins l bet.some bet.within small k) h.lines;
      names = rw (names_same place (paying coin x) table.lines.items (λ l. refl)) h.names;
    }

-- ---- sums

sum_parts : {A : Type 0} (f g : A → ℕ) (x : ℕ) (xs : List A) → sum_by (λ a. f a + x * g a) xs ≡ sum_by f xs + x * sum_by g xs
sum_parts f g x [] = omega arith
sum_parts f g x (a ∷ xs) =
    let ih = sum_parts f g x xs in
    let whole = sum_by-cons (λ a. f a + x * g a) a xs in
    let left = sum_by-cons f a xs in
    let right : x * sum_by g (a ∷ xs) ≡ x * g a + x * sum_by g xs = ap (λ (n : ℕ). x * n) (sum_by-cons g a xs) ∙ mul_add x (g a) (sum_by g xs) in
    omega arith
  where
    mul_add : (w b c : ℕ) → w * (b + c) ≡ w * b + w * c
    mul_add w b c = omega arith

pub total_changed : (coin place x mask : ℕ) (table : PayTable) (hand : List ℕ) → IsBet table coin → place < length table.lines.items
    → total (with_payment table coin place x) coin hand mask
    ≡ sum_over_draws (base_pay table coin place) table.deck hand mask + x * sum_over_draws (hit table place) table.deck hand mask
unfolding total with_payment sum_over_draws
total_changed coin place x mask table hand bet inside =
    let same : (λ (drawn : List ℕ). pay (with_payment table coin place x) coin (joined (held mask hand) drawn)) ≡ (λ (drawn : List ℕ). base_pay table coin place (joined (held mask hand) drawn) + x * hit table place (joined (held mask hand) drawn)) =
    fun_ext (λ drawn. pay_changed coin place x table (joined (held mask hand) drawn) bet inside) in
    ap (λ (f : List ℕ → ℕ). sum_by f (draws table.deck hand mask)) same
    ∙ sum_parts (λ drawn. base_pay table coin place (joined (held mask hand) drawn)) (λ drawn. hit table place (joined (held mask hand) drawn)) x (draws table.deck hand mask)

gap : (a b k : ℕ) → (a + b) * k - a * k ≡ b * k
gap a b k = omega arith

spread : (a b k x : ℕ) → (a + x * b) * k ≡ a * k + x * (b * k)
spread a b k x = omega arith

straight : (tx t0 t1 a b k x : ℕ) → tx ≡ a + x * b → t0 ≡ a + 0 * b → t1 ≡ a + 1 * b → tx * k ≡ t0 * k + x * (t1 * k - t0 * k)
straight tx t0 t1 a b k x is_x is_0 is_1 =
    let zeroth : t0 ≡ a = omega (arith, is_0) in
    let first : t1 ≡ a + b = omega (arith, is_1) in
    let rise : t1 * k - t0 * k ≡ b * k = rw (zeroth, first) (gap a b k) in
    rw (rise, zeroth, is_x) (spread a b k x)

pub line_of_values : (coin place x mask : ℕ) (table : PayTable) (hand : List ℕ) → IsBet table coin → place < length table.lines.items
    → value (with_payment table coin place x) coin hand mask
    ≡ value (with_payment table coin place 0) coin hand mask + x * (value (with_payment table coin place 1) coin hand mask - value (with_payment table coin place 0) coin hand mask)
unfolding value with_payment
line_of_values coin place x mask table hand bet inside =
    let a = sum_over_draws (base_pay table coin place) table.deck hand mask in
    let b = sum_over_draws (hit table place) table.deck hand mask in
    let k = scale table.deck (length (discarded mask hand)) in
    straight (total (with_payment table coin place x) coin hand mask) (total (with_payment table coin place 0) coin hand mask) (total (with_payment table coin place 1) coin hand mask) a b k x
    (total_changed coin place x mask table hand bet inside) (total_changed coin place 0 mask table hand bet inside) (total_changed coin place 1 mask table hand bet inside)

pub base_small : (table : PayTable) (coin place : ℕ) (hand : List ℕ) → IsTable table → base_pay table coin place hand ≤ 250000000000
base_small table coin place hand rules = let e = pay_le table coin hand rules in by_test (is_line place (line table hand)) e
  where
    by_test : (b : Bool) → pay table coin hand ≤ 500000 → (if b then 0 else pay table coin hand) ≤ 250000000000
    by_test true e = omega arith
    by_test false e = omega arith

pub hit_small : (table : PayTable) (place : ℕ) (hand : List ℕ) → hit table place hand ≤ 250000000000
hit_small table place hand = by_test (is_line place (line table hand))
  where
    by_test : (b : Bool) → (if b then 1 else 0) ≤ 250000000000
    by_test true = omega arith
    by_test false = omega arith

-- ---- in other words

pub bet_changed : (coin place x : ℕ) (table : PayTable) → IsBet table coin → x ≤ 500000 → IsBet (with_payment table coin place x) coin
unfolding with_payment
bet_changed coin place x table bet small = record { rules = table_changed coin place x table bet small; some = bet.some; within = bet.within }

pub pay_is : (coin place x : ℕ) (table : PayTable) (hand : List ℕ) → IsBet table coin → place < length table.lines.items
    → pay (with_payment table coin place x) coin hand ≡ (if is_line place (line table hand) then x else pay table coin hand)
pay_is coin place x table hand bet inside = pay_changed coin place x table hand bet inside ∙ by_test (is_line place (line table hand)) (pay table coin hand)
  where
    by_test : (b : Bool) (p : ℕ) → (if b then 0 else p) + x * (if b then 1 else 0) ≡ (if b then x else p)
    by_test true p = omega arith
    by_test false p = omega arith
