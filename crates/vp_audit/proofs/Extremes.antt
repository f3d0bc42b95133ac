-- The least and the greatest value of the holds that a rule matches, hold by hold.
use Rattle.std.proofs.Common.{◌≡◌, ℕ, zero, suc, ◌+◌, ◌<◌, ◌≤◌, Bool, true, false, cond, List, [], ◌∷◌, ◌++◌, length, map, take, get_or, refl, sym, ap, subst, ◌∙◌, arith, inl, inr}
use Rattle.std.specs.Prelude.{min, max, filter}
use Rattle.std.specs.List.{range_with_len}
use Rattle.std.proofs.lemmas.Bool.{cases_Bool}
use Rattle.std.proofs.lemmas.Bool.Decides.{nat_tests}
use Rattle.std.proofs.lemmas.List.{take_all}
use Rattle.std.proofs.lemmas.List.FromFn.{get_or-map-range_with_len}
use Rattle.vp_pay.specs.declared.table.PayTable.{PayTable}
use Rattle.vp_draws.specs.Draws.{best, greatest, masks, value}
use Rattle.vp_rule.specs.Holds.{matches}
use Rattle.vp_rule.specs.declared.rule.Rule.{Rule}
use Rattle.vp_compile.specs.Rows.{empty}
use Rattle.vp_audit.specs.Values.{least, matched}
use Rattle.vp_audit.specs.Choices.{BetHand, greatest_matched, least_matched, least_or_empty, widened}

range_after : (a n : ℕ) → range_with_len a (n + 1) ≡ range_with_len a n ++ (a + n) ∷ []
range_after a zero = ap (λ (x : ℕ). x ∷ []) (let e : a ≡ a + 0 = omega arith in e)
range_after a (suc n) =
    ap (λ (m : ℕ). range_with_len a m) (let e : suc n + 1 ≡ suc (n + 1) = omega arith in e)
    ∙ ap (λ (xs : List ℕ). a ∷ xs) (range_after (a + 1) n ∙ ap (λ (x : ℕ). range_with_len (a + 1) n ++ x ∷ []) (let e : a + 1 + n ≡ a + suc n = omega arith in e))

range_push : (n : ℕ) → range_with_len 0 (n + 1) ≡ range_with_len 0 n ++ n ∷ []
range_push n = range_after 0 n ∙ ap (λ (x : ℕ). range_with_len 0 n ++ x ∷ []) (let e : 0 + n ≡ n = omega arith in e)

filter_push : (p : ℕ → Bool) (xs : List ℕ) (x : ℕ) → filter p (xs ++ x ∷ []) ≡ filter p xs ++ cond (p x) (x ∷ []) []
filter_push p [] x = refl
filter_push p (y ∷ xs) x = elim (cases_Bool (p y)) [
  | inl hit ↦ rw hit (ap (λ (ys : List ℕ). y ∷ ys) (filter_push p xs x))
  | inr miss ↦ rw miss (filter_push p xs x)
]

least_push : (f : ℕ → ℕ) (xs : List ℕ) (x : ℕ) → f x ≤ empty → least_or_empty f (xs ++ x ∷ []) ≡ min (least_or_empty f xs) (f x)
unfolding least
least_push f [] x small = grind (arith, nat_tests)
least_push f (y ∷ []) x small = refl
least_push f (y ∷ z ∷ xs) x small = let rest : least f (z ∷ xs ++ x ∷ []) ≡ min (least f (z ∷ xs)) (f x) = least_push f (z ∷ xs) x small in grind (arith, nat_tests)

greatest_push : (f : ℕ → ℕ) (xs : List ℕ) (x : ℕ) → greatest f (xs ++ x ∷ []) ≡ max (greatest f xs) (f x)
unfolding greatest
greatest_push f [] x = grind (arith, nat_tests)
greatest_push f (y ∷ xs) x = let rest : greatest f (xs ++ x ∷ []) ≡ max (greatest f xs) (f x) = greatest_push f xs x in grind (arith, nat_tests)

pub greatest_none : (f : ℕ → ℕ) → greatest f [] ≡ 0
unfolding greatest
greatest_none f = refl

-- the greatest of the values below a mask
pub greatest_more : (f : ℕ → ℕ) (n best v : ℕ) → best ≡ greatest f (range_with_len 0 n) → v ≡ f n → max best v ≡ greatest f (range_with_len 0 (n + 1))
greatest_more f n best v is told = rw (is, told) (sym (ap (greatest f) (range_push n) ∙ greatest_push f (range_with_len 0 n) n))

-- the extremes of those of the masks that the rule matches
pub record ExtremesOf (table : PayTable) (rule : Rule) (hand : List ℕ) (f : ℕ → ℕ) (xs : List ℕ) (e : ℕ × ℕ) : Type 0 where
  pub least_is : e.0 ≡ least_or_empty f (filter (λ mask. matches table rule hand mask) xs)
  pub greatest_is : e.1 ≡ greatest f (filter (λ mask. matches table rule hand mask) xs)

pub no_extremes : (table : PayTable) (rule : Rule) (hand : List ℕ) (f : ℕ → ℕ) → ExtremesOf table rule hand f [] (empty, 0)
no_extremes table rule hand f = record { least_is = refl; greatest_is = sym (greatest_none f) }

nil : (xs : List ℕ) → xs ++ [] ≡ xs
nil [] = refl
nil (x ∷ xs) = ap (λ (ys : List ℕ). x ∷ ys) (nil xs)

one_more : (p : ℕ → Bool) (xs : List ℕ) (n : ℕ) (b : Bool) → b ≡ p n → filter p (xs ++ n ∷ []) ≡ filter p xs ++ cond b (n ∷ []) []
one_more p xs n b is = filter_push p xs n ∙ ap (λ (c : Bool). filter p xs ++ cond c (n ∷ []) []) (sym is)

pub extremes_more : (table : PayTable) (rule : Rule) (hand : List ℕ) (f : ℕ → ℕ) (xs : List ℕ) (n : ℕ) (e : ℕ × ℕ) (b : Bool) (v : ℕ) → b ≡ matches table rule hand n → v ≡ f n → v ≤ empty
    → ExtremesOf table rule hand f xs e → ExtremesOf table rule hand f (xs ++ n ∷ []) (widened e b v)
extremes_more table rule hand f xs n e true v is told small before =
    let p : ℕ → Bool = λ mask. matches table rule hand mask in
    let more : filter p (xs ++ n ∷ []) ≡ filter p xs ++ n ∷ [] = one_more p xs n true is in
    record {
      least_is = rw (before.least_is, told) (sym (ap (least_or_empty f) more ∙ least_push f (filter p xs) n (omega (arith, small, told))));
      greatest_is = rw (before.greatest_is, told) (sym (ap (greatest f) more ∙ greatest_push f (filter p xs) n));
    }
extremes_more table rule hand f xs n e false v is told small before =
    let p : ℕ → Bool = λ mask. matches table rule hand mask in
    let more : filter p (xs ++ n ∷ []) ≡ filter p xs ++ [] = one_more p xs n false is in
    record {
      least_is = before.least_is ∙ sym (ap (least_or_empty f) (more ∙ nil (filter p xs)));
      greatest_is = before.greatest_is ∙ sym (ap (greatest f) (more ∙ nil (filter p xs)));
    }

pub value_at : (f : ℕ → ℕ) (values : List ℕ) (n : ℕ) → values ≡ map f masks → n < 32 → get_or values n 0 ≡ f n
unfolding masks
value_at f values n is l = ap (λ (xs : List ℕ). get_or xs n 0) is ∙ get_or-map-range_with_len f 0 32 n n 0 l (omega arith)

-- the rule matches none of the masks that are left out, so the extremes of the others are those of all 32
pub extremes_all : (h told : BetHand) (rule : Rule) (xs : List ℕ) (i : ℕ) (e : ℕ × ℕ) → told ≡ h
    → filter (λ mask. matches told.table rule told.hand mask) xs ≡ filter (λ mask. matches told.table rule told.hand mask) (range_with_len 0 32)
    → length xs ≤ i → ExtremesOf h.table rule h.hand (value h.table h.coin h.hand) (take i xs) e → (e.0 ≡ least_matched h rule) × (e.1 ≡ greatest_matched h rule)
unfolding matched masks
extremes_all h told rule xs i e same all ends is =
    let whole : ExtremesOf h.table rule h.hand (value h.table h.coin h.hand) xs e =
    subst (λ (ys : List ℕ). ExtremesOf h.table rule h.hand (value h.table h.coin h.hand) ys e) (take_all i xs ends) is in
    let left : filter (λ mask. matches h.table rule h.hand mask) xs ≡ filter (λ mask. matches h.table rule h.hand mask) (range_with_len 0 32) =
    subst (λ (b : BetHand). filter (λ mask. matches b.table rule b.hand mask) xs ≡ filter (λ mask. matches b.table rule b.hand mask) (range_with_len 0 32)) same all in
    (whole.least_is ∙ ap (least_or_empty (value h.table h.coin h.hand)) left, whole.greatest_is ∙ ap (greatest (value h.table h.coin h.hand)) left)

pub greatest_all : (f : ℕ → ℕ) (n best : ℕ) → n ≡ 32 → best ≡ greatest f (range_with_len 0 n) → best ≡ greatest f masks
unfolding masks
greatest_all f n best all is = is ∙ ap (λ m. greatest f (range_with_len 0 m)) all

pub best_all : (table : PayTable) (coin : ℕ) (hand : List ℕ) (n top : ℕ) → n ≡ 32 → top ≡ greatest (value table coin hand) (range_with_len 0 n) → top ≡ best table coin hand
unfolding best
best_all table coin hand n top all is = greatest_all (value table coin hand) n top all is
