-- Two readings side by side: where the first has a value so has the second, with the same lines left, and else both refuse the same line.
use Rattle.std.proofs.Common.{◌≡◌, ℕ, Result, Ok, Err, refl, sym, ap, ◌∙◌}
use Rattle.vp_text.specs.Lines.{Feed}
use Rattle.vp_text.specs.ExactReaders.{Reader}
use Rattle.vp_text.specs.Reading.{◌>>=◌}

-- the values are so related
pub record Beside {A B : Type 0} (R : A → B → Feed → Type 0) (a : A) (left : Feed) (second : Result (B × Feed) ℕ) : Type 0 where
  pub value : B
  pub read : second ≡ Ok (value, left)
  pub related : R a value left

abbrev pub Follows : {A B : Type 0} → (A → B → Feed → Type 0) → Result (A × Feed) ℕ → Result (B × Feed) ℕ → Type 0
Follows R (Ok p) second = Beside R p.0 p.1 second
Follows R (Err n) second = second ≡ Err n

-- what is made of the two values is so related
pub follows_made : {A B C D : Type 0} (R : A → B → Feed → Type 0) (S : C → D → Feed → Type 0) (f : A → C) (g : B → D)
    → ((a : A) (b : B) (left : Feed) → R a b left → S (f a) (g b) left)
    → (first : Result (A × Feed) ℕ) (second : Result (B × Feed) ℕ) → Follows R first second
    → Follows S (first >>= (λ a. Ok (f a.0, a.1))) (second >>= (λ b. Ok (g b.0, b.1)))
follows_made {B = B} {D = D} R S f g related (Ok p) second both =
    record { value = g both.value; read = ap (λ (r : Result (B × Feed) ℕ). r >>= made) both.read; related = related p.0 both.value p.1 both.related }
  where
    made : B × Feed → Result (D × Feed) ℕ
    made b = Ok (g b.0, b.1)
follows_made {B = B} {D = D} R S f g related (Err n) second both = ap (λ (r : Result (B × Feed) ℕ). r >>= made) both
  where
    made : B × Feed → Result (D × Feed) ℕ
    made b = Ok (g b.0, b.1)

-- one reading, and two behind it
pub follows_same : {A C D : Type 0} (S : C → D → Feed → Type 0) (read : Result (A × Feed) ℕ) (f : A × Feed → Result (C × Feed) ℕ) (g : A × Feed → Result (D × Feed) ℕ)
    → ((a : A) (left : Feed) → read ≡ Ok (a, left) → Follows S (f (a, left)) (g (a, left)))
    → Follows S (read >>= f) (read >>= g)
follows_same S (Ok p) f g next = next p.0 p.1 refl
follows_same S (Err n) f g next = refl

-- two readings, and the same one behind each
pub follows_then : {A B E : Type 0} (R : A → B → Feed → Type 0) (S : A × E → B × E → Feed → Type 0) (then : Reader E)
    → ((a : A) (b : B) (e : E) (middle left : Feed) → R a b middle → S (a, e) (b, e) left)
    → (first : Result (A × Feed) ℕ) (second : Result (B × Feed) ℕ) → Follows R first second
    → Follows S (first >>= (λ a. then a.1 >>= (λ e. Ok ((a.0, e.0), e.1)))) (second >>= (λ b. then b.1 >>= (λ e. Ok ((b.0, e.0), e.1))))
follows_then {A} {B} {E} R S then related (Ok p) second both = behind (then p.1) refl
  where
    first_made : E × Feed → Result ((A × E) × Feed) ℕ
    first_made e = Ok ((p.0, e.0), e.1)

    second_made : B → E × Feed → Result ((B × E) × Feed) ℕ
    second_made b e = Ok ((b, e.0), e.1)

    read_second : (second >>= (λ b. then b.1 >>= second_made b.0)) ≡ (then p.1 >>= second_made both.value)
    read_second = ap (λ (r : Result (B × Feed) ℕ). r >>= (λ b. then b.1 >>= second_made b.0)) both.read

    by_then : (r : Result (E × Feed) ℕ) → (second >>= (λ b. then b.1 >>= second_made b.0)) ≡ (r >>= second_made both.value)
        → Follows S (r >>= first_made) (second >>= (λ b. then b.1 >>= second_made b.0))
    by_then (Ok e) is = record { value = (both.value, e.0); read = is; related = related p.0 both.value e.0 p.1 e.1 both.related }
    by_then (Err n) is = is

    behind : (r : Result (E × Feed) ℕ) → r ≡ then p.1 → Follows S (r >>= first_made) (second >>= (λ b. then b.1 >>= second_made b.0))
    behind r is = by_then r (read_second ∙ ap (λ (r : Result (E × Feed) ℕ). r >>= second_made both.value) (sym is))
follows_then {A} {B} {E} R S then related (Err n) second both = ap (λ (r : Result (B × Feed) ℕ). r >>= made) both
  where
    made : B × Feed → Result ((B × E) × Feed) ℕ
    made b = then b.1 >>= (λ e. Ok ((b.0, e.0), e.1))
