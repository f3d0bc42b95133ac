-- Lines and their words, and what two steps of reading that end in a value or in a refusal say.
use Rattle.std.proofs.Common.{◌≡◌, ℕ, List, [], ◌∷◌, ◌++◌, map, Result, Ok, Err, ◌⊎◌, inl, inr, refl, sym, ap}
use Rattle.std.proofs.lemmas.List.{map-append}
use Rattle.vp_text.specs.Lines.{Word, WordLine, Feed}
use Rattle.vp_text.specs.Sections.{Text, text_of, last_of}
use Rattle.vp_text.specs.Reading.{◌>>=◌}

-- ---- results

pub bind_ok : {A B : Type 0} (r : Result A ℕ) (f : A → Result B ℕ) (y : B) → (r >>= f) ≡ Ok y → (x : A) × (r ≡ Ok x) × (f x ≡ Ok y)
bind_ok (Ok x) f y e = (x, refl, e)
bind_ok (Err d) f y e = absurd cc

pub bind_err : {A B : Type 0} (r : Result A ℕ) (f : A → Result B ℕ) (n : ℕ) → (r >>= f) ≡ Err n → (r ≡ Err n) ⊎ ((x : A) × (r ≡ Ok x) × (f x ≡ Err n))
bind_err (Ok x) f n e = inr (x, refl, e)
bind_err (Err d) f n e = inl cc

abbrev done : {A : Type 0} → A → Result A ℕ
done x = Ok x

pub ok_is : {A : Type 0} (x y : A) → done x ≡ done y → x ≡ y
ok_is x y e = cc

abbrev failed : {A : Type 0} → ℕ → Result A ℕ
failed n = Err n

pub err_is : {A : Type 0} (m n : ℕ) → failed {A = A} m ≡ failed {A = A} n → m ≡ n
err_is m n e = cc

pub ok_err : {A : Type 0} (r : Result A ℕ) (x : A) (n : ℕ) → r ≡ Ok x → r ≡ Err n → ⊥
ok_err r x n p q = absurd cc

-- ---- lists

pub tail_is : {A : Type 0} (x y : A) (xs ys : List A) → x ∷ xs ≡ y ∷ ys → xs ≡ ys
tail_is x y xs ys e = cc

pub head_is : {A : Type 0} (x y : A) (xs ys : List A) → x ∷ xs ≡ y ∷ ys → x ≡ y
head_is x y xs ys e = cc

pub cons_is : {A : Type 0} (x y : A) (xs ys : List A) → x ≡ y → xs ≡ ys → x ∷ xs ≡ y ∷ ys
cons_is x y xs ys p q = cc

-- of two lists that go on to be equal, the first begins the second, or is longer
pub append_cases : {A : Type 0} (s u t v : List A) → s ++ u ≡ t ++ v
    → ((m : List A) × (t ≡ s ++ m) × (u ≡ m ++ v)) ⊎ ((next : A) × (m : List A) × (s ≡ t ++ next ∷ m) × (v ≡ next ∷ (m ++ u)))
append_cases [] u t v e = inl (t, refl, e)
append_cases (x ∷ s) u [] v e = inr (x, s, refl, sym e)
append_cases (x ∷ s) u (y ∷ t) v e =
    let h : x ≡ y = head_is x y (s ++ u) (t ++ v) e in
    let r = append_cases s u t v (tail_is x y (s ++ u) (t ++ v) e) in
    elim r [
      | inl p ↦ inl (p.0, sym (cons_is x y (s ++ p.0) t h (sym p.1)), p.2)
      | inr p ↦ inr (p.0, p.1, cons_is x y s (t ++ p.0 ∷ p.1) h p.2, p.3)
    ]

-- ---- lines and their words

pub text_of-append : (a b : List WordLine) → text_of (a ++ b) ≡ text_of a ++ text_of b
text_of-append a b = map-append (λ (line : WordLine). line.words) a b

pub last_of-append : (a b : List WordLine) (other : ℕ) → last_of (a ++ b) other ≡ last_of b (last_of a other)
last_of-append [] b other = refl
last_of-append (line ∷ a) b other = last_of-append a b line.line

-- the lines whose words are two texts, one behind the other
pub record Parts (lines : List WordLine) (s t : Text) : Type 0 where
  pub front : List WordLine
  pub back : List WordLine
  pub both : lines ≡ front ++ back
  pub first : text_of front ≡ s
  pub second : text_of back ≡ t

pub parts : (lines : List WordLine) (s t : Text) → text_of lines ≡ s ++ t → Parts lines s t
parts lines [] t e = record { front = []; back = lines; both = refl; first = refl; second = e }
parts [] (w ∷ s) t e = absurd cc
parts (line ∷ lines) (w ∷ s) t e =
    let p = parts lines s t (tail_is line.words w (text_of lines) (s ++ t) e) in
    record {
      front = line ∷ p.front;
      back = p.back;
      both = ap (λ (ls : List WordLine). line ∷ ls) p.both;
      first = cons_is line.words w (text_of p.front) s (head_is line.words w (text_of lines) (s ++ t) e) p.first;
      second = p.second;
    }

-- lines that have these words
abbrev pub lines_for : Text → List WordLine
lines_for text = map (λ words. record { line = 0; words = words }) text

pub text_of-lines_for : (text : Text) → text_of (lines_for text) ≡ text
text_of-lines_for [] = refl
text_of-lines_for (w ∷ text) = ap (λ (ws : Text). w ∷ ws) (text_of-lines_for text)

pub lines_for-append : (a b : Text) → lines_for (a ++ b) ≡ lines_for a ++ lines_for b
lines_for-append a b = map-append (λ (words : List Word). record { line = 0; words = words }) a b

pub last_of-lines_for : (text : Text) → last_of (lines_for text) 0 ≡ 0
last_of-lines_for [] = refl
last_of-lines_for (w ∷ text) = last_of-lines_for text

abbrev pub feed_for : Text → Feed
feed_for text = record { lines = lines_for text; past = record { line = 0; bytes = [] }; last = 0 }
