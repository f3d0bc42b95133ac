-- A section that has to fit, alone or before the next is read.
use Rattle.std.proofs.Common.{◌≡◌, ℕ, Bool, true, false, cond, IsTrue, [], Result, Ok, Err, ◌⊎◌, inl, inr, refl, sym, ap, subst, ◌∙◌}
use Rattle.vp_text.specs.Lines.{Feed}
use Rattle.vp_text.specs.Sections.{Text, last_of, Starts, both_text, AreBoth, Misfit, RefusedInput, AcceptedInput}
use Rattle.vp_text.specs.ExactReaders.{Reader, Exact}
use Rattle.vp_text.specs.Reading.{◌>>=◌, both, fitted, fitting, ended, whole}
use Rattle.vp_text.proofs.Spelled.{ok_is, err_is, ok_err}
use Rattle.vp_text.proofs.Joined.{Exact-both, starts_apart}
use Rattle.vp_text.proofs.Whole.{starts_whole, whole_found, whole_again, whole_stops, whole_refused}

-- ---- a section that has to fit

pub record DoesNotFit {A : Type 0} (spell : A → Text) (Valid : A → Type 0) (fits : A → Bool) (read : Reader A) (feed : Feed) : Type 0 where
  pub refused : ℕ
  pub misfit : Misfit spell Valid fits feed refused
  pub answer : fitted fits read feed ≡ Err refused

pub record DoesFit {A : Type 0} (spell : A → Text) (Valid : A → Type 0) (fits : A → Bool) (read : Reader A) (feed : Feed) : Type 0 where
  pub none : (n : ℕ) → Misfit spell Valid fits feed n → ⊥
  pub answer : fitted fits read feed ≡ read feed

-- the section misfits, or what is read is what would be read anyway
pub fits_or_not : {A : Type 0} (spell : A → Text) (Valid : A → Type 0) (fits : A → Bool) (read : Reader A) → Exact spell Valid read → (feed : Feed)
    → DoesNotFit spell Valid fits read feed ⊎ DoesFit spell Valid fits read feed
fits_or_not {A = A} spell Valid fits read exact feed = by_read (read feed) refl
  where
    tested : A × Feed → Bool → Result (A × Feed) ℕ
    tested a fit = cond fit (Ok a) (Err a.1.last)

    as_tested : (r : Result (A × Feed) ℕ) → read feed ≡ r → fitted fits read feed ≡ (r >>= λ a. tested a (fits a.0))
    as_tested r is = ap (λ (r : Result (A × Feed) ℕ). r >>= λ a. tested a (fits a.0)) is

    read_as : (n : ℕ) → (m : Misfit spell Valid fits feed n) → read feed ≡ Ok (m.value, m.left)
    read_as n m = exact.again feed m.left m.value m.valid m.front

    by_fit : (a : A × Feed) → read feed ≡ Ok a → (fit : Bool) → fits a.0 ≡ fit → DoesNotFit spell Valid fits read feed ⊎ DoesFit spell Valid fits read feed
    by_fit a is true fit =
        inr (record {
          none = λ n m.
              let same = ok_is a (m.value, m.left) (sym is ∙ read_as n m) in
              let also : fits a.0 ≡ false = ap (λ (p : A × Feed). fits p.0) same ∙ m.misfit in
              absurd cc;
          answer = as_tested (Ok a) is ∙ ap (tested a) fit ∙ sym is;
        })
    by_fit a is false fit =
        let t = exact.takes feed a.1 a.0 is in
        inl (record {
          refused = a.1.last;
          misfit = record { value = a.0; left = a.1; valid = t.0; front = t.1; misfit = fit; number = refl };
          answer = as_tested (Ok a) is ∙ ap (tested a) fit;
        })

    by_read : (r : Result (A × Feed) ℕ) → read feed ≡ r → DoesNotFit spell Valid fits read feed ⊎ DoesFit spell Valid fits read feed
    by_read (Ok a) is = by_fit a is (fits a.0) refl
    by_read (Err n) is =
        inr (record {
          none = λ m misfit. ok_err (read feed) (misfit.value, misfit.left) n (read_as m misfit) is;
          answer = as_tested (Err n) is ∙ sym is;
        })

-- at most one line is that of a misfit
pub same_misfit : {A : Type 0} (spell : A → Text) (Valid : A → Type 0) (fits : A → Bool) (read : Reader A) → Exact spell Valid read → (feed : Feed) (m n : ℕ)
    → Misfit spell Valid fits feed m → Misfit spell Valid fits feed n → m ≡ n
same_misfit {A = A} spell Valid fits read exact feed m n p q =
    let same = ok_is (p.value, p.left) (q.value, q.left) (sym (exact.again feed p.left p.value p.valid p.front) ∙ exact.again feed q.left q.value q.valid q.front) in
    p.number ∙ ap (λ (x : A × Feed). x.1.last) same ∙ sym q.number

-- a value in front fits where there is no misfit
pub fits_in_front : {A : Type 0} (spell : A → Text) (Valid : A → Type 0) (fits : A → Bool) (feed left : Feed) (value : A) → ((n : ℕ) → Misfit spell Valid fits feed n → ⊥)
    → Valid value → Starts spell feed value left → IsTrue (fits value)
fits_in_front spell Valid fits feed left value none valid front = by_fit (fits value) refl
  where
    by_fit : (fit : Bool) → fits value ≡ fit → IsTrue fit
    by_fit true fit = refl
    by_fit false fit = absurd (none left.last (record { value = value; left = left; valid = valid; front = front; misfit = fit; number = refl }))

-- and there is none where it fits
pub no_misfit : {A : Type 0} (spell : A → Text) (Valid : A → Type 0) (fits : A → Bool) (read : Reader A) → Exact spell Valid read → (feed left : Feed) (value : A) (n : ℕ)
    → Valid value → Starts spell feed value left → IsTrue (fits value) → Misfit spell Valid fits feed n → ⊥
no_misfit {A = A} spell Valid fits read exact feed left value n valid front fit m =
    let same = ok_is (value, left) (m.value, m.left) (sym (exact.again feed left value valid front) ∙ exact.again feed m.left m.value m.valid m.front) in
    let other : fits value ≡ false = ap (λ (x : A × Feed). fits x.0) same ∙ m.misfit in
    let here : fits value ≡ true = fit in
    absurd cc

-- ---- the next section behind it

-- the whole input is read by what its section reads
pub whole_by : {A : Type 0} (read : Reader A) (feed : Feed) (r : Result (A × Feed) ℕ) → read feed ≡ r → whole read feed ≡ whole (λ f. r) feed
whole_by {A = A} read feed r is = ap (λ (r : Result (A × Feed) ℕ). r >>= λ a. ended a.0 a.1.lines) is

-- the next section is read behind one that fits
fitting_is : {A B : Type 0} (fits : A → Bool) (first : Reader A) (second : A → Reader B) (feed : Feed) → fitting fits first second feed ≡ both (fitted fits first) second feed
fitting_is {A = A} {B = B} fits first second feed = by_first (first feed)
  where
    paired : A → B × Feed → Result ((A × B) × Feed) ℕ
    paired a b = Ok ((a, b.0), b.1)

    behind : A × Feed → Result ((A × B) × Feed) ℕ
    behind a = second a.0 a.1 >>= paired a.0

    by_fit : (a : A × Feed) (fit : Bool) → ((cond fit (second a.0 a.1) (Err a.1.last)) >>= paired a.0) ≡ ((cond fit (Ok a) (Err a.1.last)) >>= behind)
    by_fit a true = refl
    by_fit a false = refl

    by_first : (r : Result (A × Feed) ℕ) → (r >>= λ a. (cond (fits a.0) (second a.0 a.1) (Err a.1.last)) >>= paired a.0) ≡ ((r >>= λ a. cond (fits a.0) (Ok a) (Err a.1.last)) >>= behind)
    by_first (Ok a) = by_fit a (fits a.0)
    by_first (Err n) = refl

pub fitting_by : {A B : Type 0} (fits : A → Bool) (first : Reader A) (second : A → Reader B) (feed : Feed) (r : Result (A × Feed) ℕ) → fitted fits first feed ≡ r
    → whole (fitting fits first second) feed ≡ whole (both (λ f. r) second) feed
fitting_by {A = A} {B = B} fits first second feed r is =
    whole_by (fitting fits first second) feed (both (λ f. r) second feed) (fitting_is fits first second feed ∙ ap (λ (r : Result (A × Feed) ℕ). both (λ f. r) second feed) is)

-- a second section that has to fit the first is tested behind it, or the pair behind both
pub fitted_pair : {A B : Type 0} (fits : A → B → Bool) (first : Reader A) (second : A → Reader B) (feed : Feed)
    → both first (λ a. fitted (fits a) (second a)) feed ≡ fitted (λ pair. fits pair.0 pair.1) (both first second) feed
fitted_pair {A = A} {B = B} fits first second feed = by_first (first feed)
  where
    paired : A → B × Feed → Result ((A × B) × Feed) ℕ
    paired a b = Ok ((a, b.0), b.1)

    tested : (A × B) × Feed → Result ((A × B) × Feed) ℕ
    tested p = cond (fits p.0.0 p.0.1) (Ok p) (Err p.1.last)

    by_fit : (a : A) (b : B × Feed) (fit : Bool) → ((cond fit (Ok b) (Err b.1.last)) >>= paired a) ≡ cond fit (paired a b) (Err b.1.last)
    by_fit a b true = refl
    by_fit a b false = refl

    by_second : (a : A) (r : Result (B × Feed) ℕ) → ((r >>= λ b. cond (fits a b.0) (Ok b) (Err b.1.last)) >>= paired a) ≡ ((r >>= paired a) >>= tested)
    by_second a (Err n) = refl
    by_second a (Ok b) = by_fit a b (fits a b.0)

    by_first : (r : Result (A × Feed) ℕ) → (r >>= λ a. (second a.0 a.1 >>= λ b. cond (fits a.0 b.0) (Ok b) (Err b.1.last)) >>= paired a.0) ≡ ((r >>= λ a. second a.0 a.1 >>= paired a.0) >>= tested)
    by_first (Err n) = refl
    by_first (Ok a) = by_second a.0 (second a.0 a.1)

-- ---- two sections, the first of which has to fit

-- the end of the input
abbrev at_end : Feed → Feed
at_end feed = record { lines = []; past = feed.past; last = last_of feed.lines feed.last }

pub fitted_found : {A B : Type 0} (spell : A → Text) (Valid : A → Type 0) (fits : A → Bool) (first : Reader A) (spell2 : A → B → Text) (Valid2 : A → B → Type 0) (second : A → Reader B)
    → Exact spell Valid first → ((a : A) → Valid a → Exact (spell2 a) (Valid2 a) (second a))
    → (feed : Feed) (value : A × B) → whole (fitting fits first second) feed ≡ Ok value → AcceptedInput spell Valid fits spell2 Valid2 feed value
fitted_found {A = A} {B = B} spell Valid fits first spell2 Valid2 second exact exact2 feed value e = by_case (fits_or_not spell Valid fits first exact feed)
  where
    by_case : DoesNotFit spell Valid fits first feed ⊎ DoesFit spell Valid fits first feed → AcceptedInput spell Valid fits spell2 Valid2 feed value
    by_case (inl m) = absurd (ok_err (whole (fitting fits first second) feed) value m.refused e (fitting_by fits first second feed (Err m.refused) m.answer))
    by_case (inr n) =
        let t = whole_found (both_text spell spell2) (AreBoth Valid Valid2) (both first second) (Exact-both spell Valid first spell2 Valid2 second exact exact2) feed value (sym (fitting_by fits first second feed (first feed) n.answer) ∙ e) in
        let p = starts_apart spell spell2 feed (at_end feed) value.0 value.1 (starts_whole (both_text spell spell2) feed value t.1) in
        (t.0, fits_in_front spell Valid fits feed p.between value.0 n.none t.0.0 p.first, t.1)

pub fitted_again : {A B : Type 0} (spell : A → Text) (Valid : A → Type 0) (fits : A → Bool) (first : Reader A) (spell2 : A → B → Text) (Valid2 : A → B → Type 0) (second : A → Reader B)
    → Exact spell Valid first → ((a : A) → Valid a → Exact (spell2 a) (Valid2 a) (second a))
    → (feed : Feed) (value : A × B) → AcceptedInput spell Valid fits spell2 Valid2 feed value → whole (fitting fits first second) feed ≡ Ok value
fitted_again {A = A} {B = B} spell Valid fits first spell2 Valid2 second exact exact2 feed value accepted = by_case (fits_or_not spell Valid fits first exact feed)
  where
    by_case : DoesNotFit spell Valid fits first feed ⊎ DoesFit spell Valid fits first feed → whole (fitting fits first second) feed ≡ Ok value
    by_case (inl m) =
        let p = starts_apart spell spell2 feed (at_end feed) value.0 value.1 (starts_whole (both_text spell spell2) feed value accepted.2) in
        absurd (no_misfit spell Valid fits first exact feed p.between value.0 m.refused accepted.0.0 p.first accepted.1 m.misfit)
    by_case (inr n) =
        fitting_by fits first second feed (first feed) n.answer
        ∙ whole_again (both_text spell spell2) (AreBoth Valid Valid2) (both first second) (Exact-both spell Valid first spell2 Valid2 second exact exact2) feed value accepted.0 accepted.2

pub fitted_stops : {A B : Type 0} (spell : A → Text) (Valid : A → Type 0) (fits : A → Bool) (first : Reader A) (spell2 : A → B → Text) (Valid2 : A → B → Type 0) (second : A → Reader B)
    → Exact spell Valid first → ((a : A) → Valid a → Exact (spell2 a) (Valid2 a) (second a))
    → (feed : Feed) (refused : ℕ) → whole (fitting fits first second) feed ≡ Err refused → RefusedInput spell Valid fits spell2 Valid2 feed refused
fitted_stops {A = A} {B = B} spell Valid fits first spell2 Valid2 second exact exact2 feed refused e = by_case (fits_or_not spell Valid fits first exact feed)
  where
    by_case : DoesNotFit spell Valid fits first feed ⊎ DoesFit spell Valid fits first feed → RefusedInput spell Valid fits spell2 Valid2 feed refused
    by_case (inl m) = inl (subst (λ (n : ℕ). Misfit spell Valid fits feed n) (err_is {A = A × B} m.refused refused (sym (fitting_by fits first second feed (Err m.refused) m.answer) ∙ e)) m.misfit)
    by_case (inr n) =
        inr (n.none, whole_stops (both_text spell spell2) (AreBoth Valid Valid2) (both first second) (Exact-both spell Valid first spell2 Valid2 second exact exact2) feed refused (sym (fitting_by fits first second feed (first feed) n.answer) ∙ e))

pub fitted_refused : {A B : Type 0} (spell : A → Text) (Valid : A → Type 0) (fits : A → Bool) (first : Reader A) (spell2 : A → B → Text) (Valid2 : A → B → Type 0) (second : A → Reader B)
    → Exact spell Valid first → ((a : A) → Valid a → Exact (spell2 a) (Valid2 a) (second a))
    → (feed : Feed) (refused : ℕ) → RefusedInput spell Valid fits spell2 Valid2 feed refused → whole (fitting fits first second) feed ≡ Err refused
fitted_refused {A = A} {B = B} spell Valid fits first spell2 Valid2 second exact exact2 feed refused at = by_case at (fits_or_not spell Valid fits first exact feed)
  where
    as_err : ℕ → Result (A × B) ℕ
    as_err n = Err n

    by_case : RefusedInput spell Valid fits spell2 Valid2 feed refused → DoesNotFit spell Valid fits first feed ⊎ DoesFit spell Valid fits first feed → whole (fitting fits first second) feed ≡ Err refused
    by_case (inl m) (inl k) = fitting_by fits first second feed (Err k.refused) k.answer ∙ ap as_err (same_misfit spell Valid fits first exact feed k.refused refused k.misfit m)
    by_case (inl m) (inr n) = absurd (n.none refused m)
    by_case (inr r) (inl k) = absurd (r.0 k.refused k.misfit)
    by_case (inr r) (inr n) =
        fitting_by fits first second feed (first feed) n.answer
        ∙ whole_refused (both_text spell spell2) (AreBoth Valid Valid2) (both first second) (Exact-both spell Valid first spell2 Valid2 second exact exact2) feed refused r.1
