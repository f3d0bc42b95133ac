-- Exceptions by rising index, looked up for classes by rising index: only the first of those that are left can be the class's.
use Rattle.std.proofs.Common.{◌≡◌, ℕ, ◌<◌, Bool, true, false, cond, List, [], ◌∷◌, map, refl, sym, ap, subst, ◌∙◌, arith, Some, None, Option, inl, inr, ◌⊎◌}
use Rattle.std.specs.Prelude.{◌==◌, find, option_map, option_to_list, is_some, IfNone, ◌++◌}
use Rattle.std.specs.List.{AllByRecursion}
use Rattle.std.proofs.lemmas.Bool.{eqb-true, eq-eqb}
use Rattle.std.proofs.lemmas.Bool.Decides.{nat_tests}
use Rattle.vp_card.specs.Rising.{IsBelow, IsRising}
use Rattle.vp_sets.specs.Index.{set_index}
use Rattle.vp_rule.specs.Lists.{Exception}
use Rattle.vp_audit.specs.Pending.{head_mask, behind_head}

-- the index is one of these
abbrev pub OneOf : List ℕ → ℕ → Type 0
OneOf [] j = ⊥
OneOf (i ∷ more) j = (j ≡ i) ⊎ OneOf more j

abbrev pub keys : List Exception → List ℕ
keys es = map (λ e. set_index e.0) es

-- the mask of the exception with this index
abbrev pub lookup : List Exception → ℕ → Option ℕ
lookup es i = option_map (λ e. e.1) (find (λ e. set_index e.0 == i) es)

below_one : (i : ℕ) (more : List ℕ) (j : ℕ) → IsBelow i more → OneOf more j → i < j
below_one i [] j below one = absurd one
below_one i (k ∷ more) j below (inl e) = subst (λ x. i < x) (sym e) below.0
below_one i (k ∷ more) j below (inr one) = below_one i more j below.1 one

below_less : (i j : ℕ) (more : List ℕ) → i < j → IsBelow j more → IsBelow i more
below_less i j [] l below = tt
below_less i j (k ∷ more) l below = (omega (arith, below.0), below_less i j more l below.1)

differs : (i j : ℕ) → i < j → (j == i) ≡ false
differs i j l = grind (arith, nat_tests)

differs_up : (i j : ℕ) → i < j → (i == j) ≡ false
differs_up i j l = grind (arith, nat_tests)

lookup_skip : (e : Exception) (es : List Exception) (i : ℕ) → (set_index e.0 == i) ≡ false → lookup (e ∷ es) i ≡ lookup es i
lookup_skip e es i is = ap (λ b. option_map (λ (e : Exception). e.1) (cond b (Some e) (find (λ e. set_index e.0 == i) es))) is

lookup_none : (es : List Exception) (i : ℕ) → IsBelow i (keys es) → lookup es i ≡ None
lookup_none [] i below = refl
lookup_none (e ∷ es) i below = lookup_skip e es i (differs i (set_index e.0) below.0) ∙ lookup_none es i below.1

-- the exceptions that are left, for classes of these indexes
pub record Pending (left : List ℕ) (es : List Exception) : Type 0 where
  pub rising : IsRising (keys es)
  pub among : AllByRecursion (OneOf left) (keys es)

abbrev pub is_head : List Exception → ℕ → Bool
is_head [] i = false
is_head (e ∷ es) i = set_index e.0 == i

others : (i : ℕ) (more js : List ℕ) → IsBelow i js → AllByRecursion (OneOf (i ∷ more)) js → AllByRecursion (OneOf more) js
others i more [] below all = tt
others i more (j ∷ js) below ((inl e), all) = absurd (omega (arith, e, below.0))
others i more (j ∷ js) below ((inr one), all) = (one, others i more js below.1 all)

pub record AtClass (i : ℕ) (more : List ℕ) (es : List Exception) : Type 0 where
  pub here : lookup es i ≡ cond (is_head es i) (lookup es i) None
  pub next : Pending more (behind_head (is_head es i) es)
  pub same : (j : ℕ) → OneOf more j → lookup (behind_head (is_head es i) es) j ≡ lookup es j

pub at_class : (i : ℕ) (more : List ℕ) (es : List Exception) → IsBelow i more → Pending (i ∷ more) es → AtClass i more es
at_class i more [] rises p = record { here = refl; next = record { rising = tt; among = tt }; same = λ j one. refl }
at_class i more (e ∷ es) rises p = by_test (set_index e.0 == i) refl
  where
    by_test : (b : Bool) → (set_index e.0 == i) ≡ b → AtClass i more (e ∷ es)
    by_test true is =
        let at : set_index e.0 ≡ i = eqb-true (set_index e.0) i is in
        let low : IsBelow i (keys es) = subst (λ x. IsBelow x (keys es)) at p.rising.0 in
        record {
          here = sym (ap (λ b. cond b (lookup (e ∷ es) i) None) is);
          next = subst (λ b. Pending more (behind_head b (e ∷ es))) (sym is) (record { rising = p.rising.1; among = others i more (keys es) low p.among.1 });
          same = λ j one. ap (λ b. lookup (behind_head b (e ∷ es)) j) is ∙ sym (lookup_skip e es j (differs_up (set_index e.0) j (omega (arith, at, below_one i more j rises one))));
        }
    by_test false is =
        let higher : i < set_index e.0 = up p.among.0 in
        let low : IsBelow i (keys (e ∷ es)) = (higher, below_less i (set_index e.0) (keys es) higher p.rising.0) in
        record {
          here = lookup_none (e ∷ es) i low ∙ sym (ap (λ b. cond b (lookup (e ∷ es) i) None) is);
          next = subst (λ b. Pending more (behind_head b (e ∷ es))) (sym is) (record { rising = p.rising; among = others i more (keys (e ∷ es)) low p.among });
          same = λ j one. ap (λ b. lookup (behind_head b (e ∷ es)) j) is;
        }
      where
        up : OneOf (i ∷ more) (set_index e.0) → i < set_index e.0
        up (inl same) = absurd (let t : (set_index e.0 == i) ≡ true = eq-eqb (set_index e.0) i same in cc)
        up (inr one) = below_one i more (set_index e.0) rises one

-- the first exception that is left, or none, in front of the others
pub head_is : (ahead : Option Exception) (rest : List Exception) (cards : List ℕ) → IfNone ahead (rest ≡ [])
    → (is_head (option_to_list ahead ++ rest) (set_index cards) ≡ is_some (head_mask ahead cards)) × (cond (is_head (option_to_list ahead ++ rest) (set_index cards)) (lookup (option_to_list ahead ++ rest) (set_index cards)) None ≡ head_mask ahead cards)
head_is None rest cards ended = rw ended (refl, refl)
head_is (Some e) rest cards ended = by_test (set_index e.0 == set_index cards) refl
  where
    by_test : (b : Bool) → (set_index e.0 == set_index cards) ≡ b
        → ((set_index e.0 == set_index cards) ≡ is_some (cond (set_index e.0 == set_index cards) (Some e.1) None)) × (cond (set_index e.0 == set_index cards) (lookup (e ∷ rest) (set_index cards)) None ≡ cond (set_index e.0 == set_index cards) (Some e.1) None)
    by_test true is = rw is (refl, refl)
    by_test false is = rw is (refl, refl)
