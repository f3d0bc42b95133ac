-- The sums over classes, with one class more.
use Rattle.std.proofs.Common.{◌≡◌, ℕ, zero, suc, ◌+◌, ◌-◌, ◌*◌, ◌<◌, ◌≤◌, Bool, true, false, List, [], ◌∷◌, ◌++◌, map, length, refl, sym, ap, ◌∙◌, arith, inl, inr, slice_set, get_or}
use Rattle.std.specs.Prelude.{◌==◌}
use Rattle.std.specs.List.{range_with_len}
use Rattle.std.proofs.lemmas.Bool.{cases_eq, cases_lt}
use Rattle.std.proofs.lemmas.Bool.Decides.{nat_tests}
use Rattle.std.proofs.lemmas.List.Sums.{sum_by_push}
use Rattle.vp_suit.specs.Classes.{weight}
use Rattle.vp_pay.specs.declared.table.PayTable.{PayTable}
use Rattle.vp_draws.specs.Draws.{best}
use Rattle.vp_rule.specs.Lists.{RuleList}
use Rattle.vp_audit.specs.Values.{decided, greatest_value, least_value, same}
use Rattle.vp_audit.specs.Audits.{is_ambiguous, is_by, lost, only}
use Rattle.vp_audit.specs.Sums.{added, more, no_tally, sums_over, tally_over, worth}
use Rattle.vp_audit.specs.declared.priced.Decided.{Decided}
use Rattle.vp_audit.specs.declared.priced.Decided.TheVariants.{Except, ByRule, Nothing}
use Rattle.vp_audit.specs.declared.priced.Priced.{Priced}
use Rattle.vp_audit.specs.declared.audited.Tally.{Tally}
use Rattle.vp_audit.specs.declared.sums.Sums.{Sums}

-- one entry of a list of values changes
one_changed : {A : Type 0} (f g : ℕ → A) (k a n : ℕ) → a ≤ k → ((i : ℕ) → (i ≡ k → ⊥) → g i ≡ f i) → k < a + n → map g (range_with_len a n) ≡ slice_set (map f (range_with_len a n)) (k - a) (g k)
one_changed f g k a zero low other high = absurd (omega arith)
one_changed {A} f g k a (suc n) low other high = elim (cases_eq k a) [
  | inl e ↦
      let none : k - a ≡ 0 = omega arith in
      ap (λ (x : A). x ∷ map g (range_with_len (a + 1) n)) (ap g (sym e))
      ∙ ap (λ (xs : List A). g k ∷ xs) (unchanged (a + 1) n (omega arith))
      ∙ ap (λ (m : ℕ). slice_set (f a ∷ map f (range_with_len (a + 1) n)) m (g k)) (sym none)
  | inr d ↦
      let some : k - a ≡ suc (k - (a + 1)) = omega arith in
      ap (λ (x : A). x ∷ map g (range_with_len (a + 1) n)) (other a (λ e. d (sym e)))
      ∙ ap (λ (xs : List A). f a ∷ xs) (one_changed f g k (a + 1) n (omega arith) other (omega arith))
      ∙ ap (λ (m : ℕ). slice_set (f a ∷ map f (range_with_len (a + 1) n)) m (g k)) (sym some)
]
  where
    unchanged : (b m : ℕ) → k < b → map g (range_with_len b m) ≡ map f (range_with_len b m)
    unchanged b zero l = refl
    unchanged b (suc m) l =
        ap (λ (x : A). x ∷ map g (range_with_len (b + 1) m)) (other b (λ e. absurd (omega arith))) ∙ ap (λ (xs : List A). f b ∷ xs) (unchanged (b + 1) m (omega arith))

all_same : {A : Type 0} (f g : ℕ → A) (a n : ℕ) → ((i : ℕ) → g i ≡ f i) → map g (range_with_len a n) ≡ map f (range_with_len a n)
all_same f g a zero same = refl
all_same {A} f g a (suc n) same = ap (λ (x : A). x ∷ map g (range_with_len (a + 1) n)) (same a) ∙ ap (λ (xs : List A). f a ∷ xs) (all_same f g (a + 1) n same)

pub nth_of : {A : Type 0} (d : A) (f : ℕ → A) (k a n : ℕ) → a ≤ k → k < a + n → get_or (map f (range_with_len a n)) (k - a) d ≡ f k
nth_of d f k a zero low high = absurd (omega arith)
nth_of d f k a (suc n) low high = elim (cases_eq k a) [
  | inl e ↦ let none : k - a ≡ 0 = omega arith in rw none (ap f (sym e))
  | inr ne ↦ let some : k - a ≡ suc (k - (a + 1)) = omega arith in rw some (nth_of d f k (a + 1) n (omega arith) (omega arith))
]

pub worth_push : (f : List ℕ → ℕ) (seen : List (List ℕ)) (r : List ℕ) → worth f (seen ++ r ∷ []) ≡ worth f seen + weight r * f r
worth_push f seen r = sum_by_push (λ cards. weight cards * f cards) seen r

-- a class more, where the test holds
abbrev added_to : Bool → Tally → ℕ → ℕ → Tally
added_to true t w l = more t w l
added_to false t w l = t

tally_is : (d1 d2 l1 l2 : ℕ) → d1 ≡ d2 → l1 ≡ l2 → ◌≡◌ {A = Tally} (record { deals = d1; loss = l1 }) (record { deals = d2; loss = l2 })
tally_is d1 d2 l1 l2 d l = rw (d, l) refl

-- a tally with one class more
tally_more : (table : PayTable) (coin : ℕ) (list : RuleList) (seen : List (List ℕ)) (r : List ℕ) (by : Decided) (b : Bool) → same by (decided table list r) ≡ b
    → tally_over table coin list (seen ++ r ∷ []) by ≡ added_to b (tally_over table coin list seen by) (weight r) (lost table coin list r)
unfolding tally_over
tally_more table coin list seen r by b is = at b is
  where
    d : worth (λ cards. only (is_by table list by cards) 1) (seen ++ r ∷ []) ≡ worth (λ cards. only (is_by table list by cards) 1) seen + weight r * only (same by (decided table list r)) 1
    d = worth_push (λ cards. only (is_by table list by cards) 1) seen r

    l : worth (λ cards. only (is_by table list by cards) (lost table coin list cards)) (seen ++ r ∷ []) ≡ worth (λ cards. only (is_by table list by cards) (lost table coin list cards)) seen + weight r * only (same by (decided table list r)) (lost table coin list r)
    l = worth_push (λ cards. only (is_by table list by cards) (lost table coin list cards)) seen r

    at : (b : Bool) → same by (decided table list r) ≡ b → tally_over table coin list (seen ++ r ∷ []) by ≡ added_to b (tally_over table coin list seen by) (weight r) (lost table coin list r)
    at true is =
        let one : weight r * only (same by (decided table list r)) 1 ≡ weight r = ap (λ b. weight r * only b 1) is ∙ omega arith in
        let all : weight r * only (same by (decided table list r)) (lost table coin list r) ≡ weight r * lost table coin list r = ap (λ b. weight r * only b (lost table coin list r)) is in
        tally_is _ _ _ _ (d ∙ ap (λ n. worth (λ cards. only (is_by table list by cards) 1) seen + n) one)
        (l ∙ ap (λ n. worth (λ cards. only (is_by table list by cards) (lost table coin list cards)) seen + n) all)
    at false is =
        let none : weight r * only (same by (decided table list r)) 1 ≡ 0 = ap (λ b. weight r * only b 1) is ∙ omega arith in
        let no_loss : weight r * only (same by (decided table list r)) (lost table coin list r) ≡ 0 = ap (λ b. weight r * only b (lost table coin list r)) is ∙ omega arith in
        tally_is _ _ _ _ (omega (arith, d, none)) (omega (arith, l, no_loss))

same_place : (i : ℕ) → (i == i) ≡ true
same_place i = grind (arith, nat_tests)

other_place : (i k : ℕ) → (i ≡ k → ⊥) → (i == k) ≡ false
other_place i k d = elim (cases_lt i k) [ inl l ↦ grind (arith, nat_tests) | inr l ↦ grind (arith, nat_tests) ]

-- a decision by a rule is one by a rule of the list
abbrev pub InList : Decided → ℕ → Type 0
InList (ByRule k) n = k < n
InList _ n = Unit {0}

-- the tallies of rules
abbrev pub rule_tallies : PayTable → ℕ → RuleList → List (List ℕ) → List Tally
rule_tallies table coin list seen = map (λ i. tally_over table coin list seen (ByRule i)) (range_with_len 0 (length list.rules))

module _ (table : PayTable) (coin : ℕ) (list : RuleList) (seen : List (List ℕ)) (r : List ℕ) where
  -- no rule decides
  others_same : (by : Decided) → decided table list r ≡ by → ((i : ℕ) → same (ByRule i) by ≡ false) → rule_tallies table coin list (seen ++ r ∷ []) ≡ rule_tallies table coin list seen
  others_same by is none = all_same _ _ 0 (length list.rules) (λ i. tally_more table coin list seen r (ByRule i) false (ap (same (ByRule i)) is ∙ none i))

  -- a rule decides
  rule_more : (k w l : ℕ) → decided table list r ≡ ByRule k → k < length list.rules → w ≡ weight r → l ≡ lost table coin list r
      → rule_tallies table coin list (seen ++ r ∷ []) ≡ slice_set (rule_tallies table coin list seen) k (more (get_or (rule_tallies table coin list seen) k no_tally) w l)
  rule_more k w l is low ew el =
      let high : k < 0 + length list.rules = omega (arith, low) in
      let f : ℕ → Tally = λ i. tally_over table coin list seen (ByRule i) in
      let g : ℕ → Tally = λ i. tally_over table coin list (seen ++ r ∷ []) (ByRule i) in
      let others : (i : ℕ) → (i ≡ k → ⊥) → g i ≡ f i = λ i d. tally_more table coin list seen r (ByRule i) false (ap (same (ByRule i)) is ∙ other_place i k d) in
      let here : g k ≡ more (f k) (weight r) (lost table coin list r) = tally_more table coin list seen r (ByRule k) true (ap (same (ByRule k)) is ∙ same_place k) in
      let at : k - 0 ≡ k = omega arith in
      let was : get_or (map f (range_with_len 0 (length list.rules))) k no_tally ≡ f k =
      ap (λ (n : ℕ). get_or (map f (range_with_len 0 (length list.rules))) n no_tally) (sym at) ∙ nth_of no_tally f k 0 (length list.rules) (omega arith) high in
      sym (
      ap (λ (t : Tally). slice_set (map f (range_with_len 0 (length list.rules))) k (more t w l)) was
      ∙ ap (λ (n : ℕ). slice_set (map f (range_with_len 0 (length list.rules))) k (more (f k) n l)) ew
      ∙ ap (λ (n : ℕ). slice_set (map f (range_with_len 0 (length list.rules))) k (more (f k) (weight r) n)) el
      ∙ ap (λ (t : Tally). slice_set (map f (range_with_len 0 (length list.rules))) k t) (sym here)
      ∙ ap (λ (n : ℕ). slice_set (map f (range_with_len 0 (length list.rules))) n (g k)) (sym at)
      ∙ sym (one_changed f g k 0 (length list.rules) (omega arith) others high)
      )

pub sums_is : (o1 o2 l1 l2 g1 g2 a1 a2 : ℕ) (e1 e2 n1 n2 : Tally) (r1 r2 : List Tally) → o1 ≡ o2 → l1 ≡ l2 → g1 ≡ g2 → a1 ≡ a2 → e1 ≡ e2 → r1 ≡ r2 → n1 ≡ n2
    → ◌≡◌ {A = Sums} (record { optimum = o1; least = l1; greatest = g1; ambiguous = a1; except = e1; rules = record { items = r1 }; none = n1 })
    (record { optimum = o2; least = l2; greatest = g2; ambiguous = a2; except = e2; rules = record { items = r2 }; none = n2 })
sums_is o1 o2 l1 l2 g1 g2 a1 a2 e1 e2 n1 n2 r1 r2 o l g a e r n = rw (o, l, g, a, e, r, n) refl

-- what a list says of a class
abbrev pub said : PayTable → ℕ → RuleList → List ℕ → Decided → Priced
said table coin list r by = record { by = by; best = best table coin r; least = least_value table coin list r; greatest = greatest_value table coin list r }

said_more : (table : PayTable) (coin : ℕ) (list : RuleList) (seen : List (List ℕ)) (r : List ℕ) (by : Decided) → decided table list r ≡ by → InList by (length list.rules)
    → sums_over table coin list (seen ++ r ∷ []) ≡ added (sums_over table coin list seen) (weight r) (said table coin list r by)
unfolding sums_over lost
said_more table coin list seen r by is inside = at by is inside
  where
    o : worth (best table coin) (seen ++ r ∷ []) ≡ worth (best table coin) seen + weight r * best table coin r
    o = worth_push (best table coin) seen r

    l : worth (least_value table coin list) (seen ++ r ∷ []) ≡ worth (least_value table coin list) seen + weight r * least_value table coin list r
    l = worth_push (least_value table coin list) seen r

    g : worth (greatest_value table coin list) (seen ++ r ∷ []) ≡ worth (greatest_value table coin list) seen + weight r * greatest_value table coin list r
    g = worth_push (greatest_value table coin list) seen r

    a : worth (λ cards. only (is_ambiguous table coin list cards) 1) (seen ++ r ∷ []) ≡ worth (λ cards. only (is_ambiguous table coin list cards) 1) seen + weight r * only (is_ambiguous table coin list r) 1
    a = worth_push (λ cards. only (is_ambiguous table coin list cards) 1) seen r

    one : (by other : Decided) (b : Bool) → decided table list r ≡ by → same other by ≡ b → tally_over table coin list (seen ++ r ∷ []) other ≡ added_to b (tally_over table coin list seen other) (weight r) (lost table coin list r)
    one by other b is alike = tally_more table coin list seen r other b (ap (same other) is ∙ alike)

    at : (by : Decided) → decided table list r ≡ by → InList by (length list.rules)
        → sums_over table coin list (seen ++ r ∷ []) ≡ added (sums_over table coin list seen) (weight r) (said table coin list r by)
    at Except is inside = sums_is _ _ _ _ _ _ _ _ _ _ _ _ _ _ o l g a (one Except Except true is refl) (others_same table coin list seen r Except is (λ i. refl)) (one Except Nothing false is refl)
    at (ByRule k) is inside = sums_is _ _ _ _ _ _ _ _ _ _ _ _ _ _ o l g a (one (ByRule k) Except false is refl) (rule_more table coin list seen r k (weight r) (lost table coin list r) is inside refl refl) (one (ByRule k) Nothing false is refl)
    at Nothing is inside = sums_is _ _ _ _ _ _ _ _ _ _ _ _ _ _ o l g a (one Nothing Except false is refl) (others_same table coin list seen r Nothing is (λ i. refl)) (one Nothing Nothing true is refl)

-- the sums over some classes, and one class more
pub sums_more : (table : PayTable) (coin : ℕ) (list : RuleList) (seen : List (List ℕ)) (r : List ℕ) (w : ℕ) (p : Priced) → w ≡ weight r → p ≡ said table coin list r (decided table list r) → InList (decided table list r) (length list.rules)
    → added (sums_over table coin list seen) w p ≡ sums_over table coin list (seen ++ r ∷ [])
sums_more table coin list seen r w p ew ep inside =
    ap (λ (n : ℕ). added (sums_over table coin list seen) n p) ew ∙ ap (λ (q : Priced). added (sums_over table coin list seen) (weight r) q) ep
    ∙ sym (said_more table coin list seen r (decided table list r) refl inside)
