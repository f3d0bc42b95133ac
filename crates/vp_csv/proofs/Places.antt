-- The place of a session.
use Rattle.std.proofs.Common.{◌≡◌, ◌<◌, ◌+◌, ℕ, suc, Bool, true, false, cond, List, [], ◌∷◌, length, refl, sym, ap, ◌∙◌, arith, Some, None, inl, inr, nat_lt}
use Rattle.std.specs.Prelude.{bytes_eq}
use Rattle.std.specs.List.{position, position_or_len}
use Rattle.std.proofs.lemmas.Bool.{cases_Bool, lt-ltb, ltb-true}
use Rattle.std.proofs.lemmas.Bool.Decides.{nat_tests}
use Rattle.vp_text.specs.Lines.{Word}
use Rattle.vp_text.proofs.Pieces.{chosen, no_value, same_value}
use Rattle.vp_csv.specs.Kept.{Kept, has_name, is_kept, with_text_at, with_text_for}

one_more : (n : ℕ) → 1 + n ≡ suc n
one_more n = omega arith

lt_suc : (a b : ℕ) → nat_lt (suc a) (suc b) ≡ nat_lt a b
lt_suc a b = grind (arith, nat_tests)

text_at : (name : Word) (text : List ℕ) (ks : List Kept) → position_or_len (has_name name) ks < length ks → with_text_for name text ks ≡ with_text_at (position_or_len (has_name name) ks) text ks
unfolding with_text_for
text_at name text [] inside = absurd (omega arith)
text_at name text (k ∷ ks) inside = elim (cases_Bool (bytes_eq k.name name)) [
  | inl is ↦ rw is refl
  | inr other ↦
      let within : position_or_len (has_name name) ks < length ks = let i = rw other at inside in omega (arith, i) in
      rw (other, one_more (position_or_len (has_name name) ks)) (ap (λ (l : List Kept). k ∷ l) (text_at name text ks within))
]

any_at : (name : Word) (ks : List Kept) → is_kept name ks ≡ nat_lt (position_or_len (has_name name) ks) (length ks)
any_at name [] = refl
any_at name (k ∷ ks) = elim (cases_Bool (bytes_eq k.name name)) [
  | inl is ↦ rw is (sym (lt-ltb 0 (suc (length ks)) (omega arith)))
  | inr other ↦ rw (other, one_more (position_or_len (has_name name) ks), lt_suc (position_or_len (has_name name) ks) (length ks)) (any_at name ks)
]

-- a session is found: one has the name, and the first with the name is at this place
pub record IsFound (name : Word) (ks : List Kept) (place : ℕ) : Type 0 where
  pub inside : place < length ks
  pub kept : is_kept name ks ≡ true
  pub text : (text : List ℕ) → with_text_for name text ks ≡ with_text_at place text ks

pub found : (name : Word) (ks : List Kept) (place : ℕ) → position (has_name name) ks ≡ Some place → IsFound name ks place
found name ks place e =
    let at = position_or_len (has_name name) ks in
    chosen (λ place. IsFound name ks place) (nat_lt at (length ks)) (Some at) None place e
    (λ is s.
    let same : at ≡ place = same_value at place s in
    let inside : at < length ks = ltb-true at (length ks) is in
    rw (← same) (record { inside = inside; kept = any_at name ks ∙ is; text = λ text. text_at name text ks inside }))
    (λ none. absurd (no_value place none))

pub not_found : (name : Word) (ks : List Kept) → position (has_name name) ks ≡ None → is_kept name ks ≡ false
not_found name ks e = any_at name ks ∙ by_test (nat_lt (position_or_len (has_name name) ks) (length ks)) e
  where
    by_test : (b : Bool) → cond b (Some (position_or_len (has_name name) ks)) None ≡ None → b ≡ false
    by_test true some = absurd (no_value (position_or_len (has_name name) ks) (sym some))
    by_test false none = refl
