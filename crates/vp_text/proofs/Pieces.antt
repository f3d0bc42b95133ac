-- Pieces of lines: words, and one piece behind another.
use Rattle.std.proofs.Common.{◌≡◌, ℕ, zero, suc, map, length, arith, Bool, true, false, cond, ◌&&◌, List, [], ◌∷◌, ◌++◌, refl, ap, sym, ◌∙◌, Some, None, subst}
use Rattle.std.specs.Prelude.{◌↔◌, Option, option_map, bytes_eq}
use Rattle.std.proofs.lemmas.Slice.Eq.{bytes_eq-Decides}
use Rattle.vp_text.specs.ExactReaders.{ExactText}
use Rattle.vp_text.specs.Lines.{Word}
use Rattle.vp_text.specs.Pieces.{Piece, ◌>>=◌, ExactPiece, AreMany, one_word, so_many, key_word, ended}

pub record Bound {A B : Type 0} (o : Option A) (f : A → Option B) (y : B) : Type 0 where
  pub value : A
  pub first : o ≡ Some value
  pub then : f value ≡ Some y

-- what two readings one after another give
pub bound : {A B : Type 0} (o : Option A) (f : A → Option B) (y : B) → (o >>= f) ≡ Some y → Bound o f y
bound (Some x) f y e = record { value = x; first = refl; then = e }
bound None f y e = absurd cc

-- a test that is passed, or the choice behind it
pub chosen : {A : Type 0} (P : A → Type 0) (test : Bool) (x y : Option A) (value : A) → cond test x y ≡ Some value → (test ≡ true → x ≡ Some value → P value) → (y ≡ Some value → P value) → P value
chosen P true x y value e here there = here refl e
chosen P false x y value e here there = there e

-- a word that is this one, or the choice behind it
pub by_key : {A : Type 0} (P : A → Type 0) (text key : Word) (x : A) (other : Option A) (value : A) → cond (bytes_eq text key) (Some x) other ≡ Some value → (text ≡ key → P x) → (other ≡ Some value → P value) → P value
by_key P text key x other value e here there =
    chosen P (bytes_eq text key) (Some x) other value e
    (λ is s. let same : x ≡ value = cc in subst P same (here ((bytes_eq-Decides text key).0 is)))
    there

pub both_true : (p q : Bool) → (p && q) ≡ true → (p ≡ true) × (q ≡ true)
both_true true q e = (refl, e)
both_true false q e = absurd cc

pub same_value : {A : Type 0} (x y : A) → Some x ≡ Some y → x ≡ y
same_value x y e = cc

-- what holds of the value that was made holds of the value that was given
pub so : {A : Type 0} (P : A → Type 0) (x y : A) → Some x ≡ Some y → P x → P y
so P x y e p = subst P (same_value x y e) p

pub same_pair : {A B : Type 0} (a : A) (b : B) (c : A) (d : B) → ◌≡◌ {A = Option (A × B)} (Some (a, b)) (Some (c, d)) → (a ≡ c) × (b ≡ d)
same_pair {A = A} {B = B} a b c d e =
    let p : A × B = (a, b)
    in let q : A × B = (c, d)
    in let same : p ≡ q = same_value p q e
    in (ap (λ (p : A × B). p.0) same, ap (λ (p : A × B). p.1) same)

pub no_value : {A : Type 0} (x : A) → None ≡ Some x → ⊥
no_value x e = cc

pub same_bytes : (text : Word) → bytes_eq text text ≡ true
same_bytes text = (bytes_eq-Decides text text).1 refl

-- the piece that was taken, and what it left
pub record Took {A : Type 0} (spell : A → List Word) (Valid : A → Type 0) (words : List Word) (value : A) (rest : List Word) : Type 0 where
  pub valid : Valid value
  pub front : words ≡ spell value ++ rest

pub took : {A : Type 0} {spell : A → List Word} {Valid : A → Type 0} {May : List Word → Bool} {read : Piece A} → ExactPiece spell Valid May read
    → (words : List Word) (taken : A × List Word) → read words ≡ Some taken → Took spell Valid words taken.0 taken.1
took exact words taken e = let t = exact.takes words taken.1 taken.0 e in record { valid = t.0; front = t.1 }

pub Exact-one_word : {A : Type 0} {word : A → Word} {Valid : A → Type 0} {read : Word → Option A} → ExactText word Valid read
    → ExactPiece (λ a. word a ∷ []) Valid (λ rest. true) (one_word read)
Exact-one_word {A = A} {word = word} {Valid = Valid} {read = read} exact = record {
  takes = taken;
  again = λ rest value valid may. rw (exact.again value valid);
} where
  mapped : (o : Option A) (text : Word) (words rest : List Word) (value : A) → read text ≡ o → option_map {U = A × List Word} (λ a. (a, words)) o ≡ Some (value, rest) → Valid value × (text ∷ words ≡ word value ∷ rest)
  mapped None text words rest value is e = absurd cc
  mapped (Some a) text words rest value is e =
      let t = exact.takes text a is
      in let pair = same_pair a words value rest e
      in rw (← pair.0, ← pair.1) (t.0, ap (λ (w : Word). w ∷ words) (sym t.1))

  taken : (words rest : List Word) (value : A) → one_word read words ≡ Some (value, rest) → Valid value × (words ≡ word value ∷ rest)
  taken [] rest value e = absurd cc
  taken (text ∷ words) rest value e = mapped (read text) text words rest value refl e

many_taken : {A : Type 0} {word : A → Word} {Valid : A → Type 0} {read : Word → Option A} → ExactText word Valid read
    → (n : ℕ) (words rest : List Word) (values : List A) → so_many read n words ≡ Some (values, rest) → AreMany Valid n values × (words ≡ map word values ++ rest)
many_taken {A} {word} {Valid} exact zero words rest values e =
    so (λ (t : List A × List Word). AreMany Valid 0 t.0 × (words ≡ map word t.0 ++ t.1)) ([], words) (values, rest) e (record { count = refl; all = tt }, refl)
many_taken {A} {word} {Valid} exact (suc n) words rest values e =
    let value = bound _ _ _ e
    in let more = bound _ _ _ value.then
    in let v = took (Exact-one_word exact) words value.value value.first
    in let m = many_taken exact n value.value.1 more.value.1 more.value.0 more.first
    in so (λ (t : List A × List Word). AreMany Valid (suc n) t.0 × (words ≡ map word t.0 ++ t.1)) (value.value.0 ∷ more.value.0, more.value.1) (values, rest) more.then
    (record { count = ap suc m.0.count; all = (v.valid, m.0.all) }, v.front ∙ ap (λ (ws : List Word). word value.value.0 ∷ ws) m.1)

many_again : {A : Type 0} {word : A → Word} {Valid : A → Type 0} {read : Word → Option A} → ExactText word Valid read
    → (n : ℕ) (rest : List Word) (values : List A) → AreMany Valid n values → so_many read n (map word values ++ rest) ≡ Some (values, rest)
many_again exact zero rest [] is = refl
many_again exact zero rest (value ∷ values) is = absurd (omega (arith, is.count))
many_again exact (suc n) rest [] is = absurd (omega (arith, is.count))
many_again exact (suc n) rest (value ∷ values) is =
    let count : length values ≡ n = omega (arith, is.count)
    in rw (exact.again value is.all.0, many_again exact n rest values (record { count = count; all = is.all.1 }))

pub Exact-so_many : {A : Type 0} {word : A → Word} {Valid : A → Type 0} {read : Word → Option A} → ExactText word Valid read
    → (n : ℕ) → ExactPiece (map word) (AreMany Valid n) (λ rest. true) (so_many read n)
Exact-so_many exact n = record {
  takes = λ words rest values e. many_taken exact n words rest values e;
  again = λ rest values valid may. many_again exact n rest values valid;
}

pub Exact-key_word : (key : Word) → ExactPiece (λ (u : Unit {0}). key ∷ []) (λ u. Unit {0}) (λ rest. true) (key_word key)
Exact-key_word key = record {
  takes = taken;
  again = λ rest value valid may. rw (same_bytes key);
} where
  tested : (test : Bool) (text : Word) (words rest : List Word) (value : Unit {0}) → (test ≡ true → text ≡ key) → cond {A = Option (Unit {0} × List Word)} test (Some (value, words)) None ≡ Some (value, rest) → Unit {0} × (text ∷ words ≡ key ∷ rest)
  tested true text words rest value same e =
      let pair = same_pair value words value rest e
      in (tt, rw (same refl, pair.1))
  tested false text words rest value same e = absurd cc

  taken : (words rest : List Word) (value : Unit {0}) → key_word key words ≡ Some (value, rest) → Unit {0} × (words ≡ key ∷ rest)
  taken [] rest value e = absurd cc
  taken (text ∷ words) rest value e = tested (bytes_eq text key) text words rest value (bytes_eq-Decides text key).0 e

pub at_end : {A : Type 0} (words : List Word) (x y : A) → ended x words ≡ Some y → (words ≡ []) × (x ≡ y)
at_end [] x y e = (refl, cc)
at_end (word ∷ words) x y e = absurd cc

-- ---- what is taken from the front

-- a value's word is taken exactly where it stands in front
pub one_word_taken : {A : Type 0} {word : A → Word} {Valid : A → Type 0} {read : Word → Option A} → ExactText word Valid read
    → (value : A) (words left : List Word) → one_word read words ≡ Some (value, left) ↔ (Valid value × (words ≡ word value ∷ left))
one_word_taken {read = read} exact value words left =
    let piece = Exact-one_word exact in
    (λ e. piece.takes words left value e, λ h. ap (one_word read) h.1 ∙ piece.again left value h.0 refl)

pub key_word_taken : (key : Word) (words left : List Word) → key_word key words ≡ Some (tt, left) ↔ (words ≡ key ∷ left)
key_word_taken key words left =
    let piece = Exact-key_word key in
    (λ e. (piece.takes words left tt e).1, λ h. ap (key_word key) h ∙ piece.again left tt tt refl)
