-- The first record that breaks its rule.
use Rattle.std.proofs.Common.{◌≡◌, inl, inr, ℕ, ◌+◌, true, false, List, [], ◌∷◌, ◌++◌, length, refl, sym, ap, subst, ◌∙◌, Some, None, append_assoc}
use Rattle.std.specs.Prelude.{◌↔◌}
use Rattle.std.proofs.lemmas.Bool.{cases_Bool}
use Rattle.std.proofs.lemmas.List.{append-nil}
use Rattle.vp_text.specs.ExactReaders.{Keeps}
use Rattle.vp_text.proofs.Pieces.{no_value, same_value}
use Rattle.vp_csv.specs.Records.{Record}
use Rattle.vp_csv.specs.Rules.{BreaksFirst, IsHeadless, KeepRules, break_behind, first_break, is_header, may_follow}

abbrev Follows : ℕ → List Record → Record → Type 0
Follows n front r = may_follow n front r ≡ true

-- ---- behind the header

kept : (n : ℕ) (front rs : List Record) → break_behind n front rs ≡ None → Keeps (Follows n) front rs
unfolding break_behind
kept n front [] none = tt
kept n front (r ∷ rs) none = elim (cases_Bool (may_follow n front r)) [
  | inl may ↦ (may, kept n (front ++ r ∷ []) rs (rw may at none))
  | inr broken ↦ let some : Some (length front + 2) ≡ None = rw broken at none in absurd (no_value (length front + 2) (sym some))
]

kept_again : (n : ℕ) (front rs : List Record) → Keeps (Follows n) front rs → break_behind n front rs ≡ None
unfolding break_behind
kept_again n front [] keeps = refl
kept_again n front (r ∷ rs) keeps = rw keeps.0 (kept_again n (front ++ r ∷ []) rs keeps.1)

-- these records keep their rules behind those in front, and the next breaks its rule
record Broken (n : ℕ) (front rs : List Record) (place : ℕ) : Type 0 where
  pub more : List Record
  pub broken : Record
  pub back : List Record
  pub split : rs ≡ more ++ broken ∷ back
  pub each : Keeps (Follows n) front more
  pub breaks : may_follow n (front ++ more) broken ≡ false
  pub number : place ≡ length (front ++ more) + 2

broken : (n : ℕ) (front rs : List Record) (place : ℕ) → break_behind n front rs ≡ Some place → Broken n front rs place
unfolding break_behind
broken n front [] place some = absurd (no_value place some)
broken n front (r ∷ rs) place some = elim (cases_Bool (may_follow n front r)) [
  | inl may ↦
      let b = broken n (front ++ r ∷ []) rs place (rw may at some) in
      let all : (front ++ r ∷ []) ++ b.more ≡ front ++ r ∷ b.more = append_assoc front (r ∷ []) b.more in
      record {
        more = r ∷ b.more;
        broken = b.broken;
        back = b.back;
        split = ap (λ (l : List Record). r ∷ l) b.split;
        each = (may, b.each);
        breaks = subst (λ (l : List Record). may_follow n l b.broken ≡ false) all b.breaks;
        number = subst (λ (l : List Record). place ≡ length l + 2) all b.number;
      }
  | inr not ↦
      let here : Some (length front + 2) ≡ Some place = rw not at some in
      let none : front ≡ front ++ [] = sym (append-nil front) in
      record {
        more = [];
        broken = r;
        back = rs;
        split = refl;
        each = tt;
        breaks = subst (λ (l : List Record). may_follow n l r ≡ false) none not;
        number = subst (λ (l : List Record). place ≡ length l + 2) none (sym (same_value (length front + 2) place here));
      }
]

broken_again : (n : ℕ) (front more : List Record) (r : Record) (back : List Record) → Keeps (Follows n) front more → may_follow n (front ++ more) r ≡ false
    → break_behind n front (more ++ r ∷ back) ≡ Some (length (front ++ more) + 2)
unfolding break_behind
broken_again n front [] r back keeps not =
    let whole : front ++ [] ≡ front = append-nil front in
    let here : may_follow n front r ≡ false = subst (λ (l : List Record). may_follow n l r ≡ false) whole not in
    rw here (ap (λ (l : List Record). Some (length l + 2)) (sym whole))
broken_again n front (q ∷ more) r back keeps not =
    let all : (front ++ q ∷ []) ++ more ≡ front ++ q ∷ more = append_assoc front (q ∷ []) more in
    let later : may_follow n ((front ++ q ∷ []) ++ more) r ≡ false = subst (λ (l : List Record). may_follow n l r ≡ false) (sym all) not in
    rw keeps.0 (broken_again n (front ++ q ∷ []) more r back keeps.1 later ∙ ap (λ (l : List Record). Some (length l + 2)) all)

-- ---- all records

none_kept : (n : ℕ) (all : List Record) → first_break n all ≡ None → KeepRules n all
unfolding first_break
none_kept n [] none = absurd (no_value 1 (sym none))
none_kept n (r ∷ rs) none = elim (cases_Bool (is_header r)) [
  | inl is ↦ record { header = r; records = rs; split = refl; named = is; each = kept n [] rs (rw is at none) }
  | inr not ↦ let some : Some 1 ≡ None = rw not at none in absurd (no_value 1 (sym some))
]

keep_none : (n : ℕ) (all : List Record) → KeepRules n all → first_break n all ≡ None
unfolding first_break
keep_none n all k = rw k.split (rw k.named (kept_again n [] k.records k.each))

pub none_is : (n : ℕ) (all : List Record) → first_break n all ≡ None ↔ KeepRules n all
none_is n all = (none_kept n all, keep_none n all)

first_taken : (n : ℕ) (all : List Record) (place : ℕ) → first_break n all ≡ Some place → BreaksFirst n all place
unfolding first_break
first_taken n [] place some = inl (sym (same_value 1 place some), tt)
first_taken n (r ∷ rs) place some = elim (cases_Bool (is_header r)) [
  | inl is ↦
      let b = broken n [] rs place (rw is at some) in
      inr (record { header = r; front = b.more; broken = b.broken; back = b.back; split = ap (λ (l : List Record). r ∷ l) b.split; named = is; each = b.each; breaks = b.breaks; number = b.number })
  | inr not ↦ let here : Some 1 ≡ Some place = rw not at some in inl (sym (same_value 1 place here), not)
]

headless : (n : ℕ) (all : List Record) → IsHeadless all → first_break n all ≡ Some 1
unfolding first_break
headless n [] none = refl
headless n (r ∷ rs) not = rw not refl

first_again : (n : ℕ) (all : List Record) (place : ℕ) → BreaksFirst n all place → first_break n all ≡ Some place
unfolding first_break
first_again n all place (inl h) = headless n all h.1 ∙ ap (λ (p : ℕ). Some p) (sym h.0)
first_again n all place (inr b) = rw b.split (rw b.named (broken_again n [] b.front b.broken b.back b.each b.breaks ∙ ap (λ (p : ℕ). Some p) (sym b.number)))

pub first_is : (n : ℕ) (all : List Record) (place : ℕ) → first_break n all ≡ Some place ↔ BreaksFirst n all place
first_is n all place = (first_taken n all place, first_again n all place)
