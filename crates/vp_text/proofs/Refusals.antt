-- A reader refuses the refused line of its section: no value stands in front where a line is refused.
use Rattle.std.proofs.Common.{◌≡◌, ℕ, List, [], ◌∷◌, ◌++◌, Result, Ok, Err, inl, inr, refl, sym, ap, ◌∙◌, append_assoc}
use Rattle.std.proofs.lemmas.List.{append-nil}
use Rattle.vp_text.specs.Lines.{Feed, Word, WordLine}
use Rattle.vp_text.specs.ExactReaders.{Exact, Reader}
use Rattle.vp_text.specs.Sections.{Breaks, Refuses, Starts, Text, text_of}
use Rattle.vp_text.proofs.Sections.{no_shorter}
use Rattle.vp_text.proofs.Spelled.{append_cases, head_is, text_of-append}
use Rattle.vp_text.proofs.Whole.{one_place, refuses_line}

-- no valid spelling goes on behind a valid one
goes_on : {A : Type 0} {spell : A → Text} {Valid : A → Type 0} {read : Reader A} → Exact spell Valid read → (a b : A) (x : Text) (next : List Word) (more : Text)
    → Valid a → Valid b → spell a ≡ (spell b ++ x) ++ next ∷ more → ⊥
goes_on {spell = spell} exact a b [] next more va vb is = no_shorter exact a b next more va vb (is ∙ ap (λ (t : Text). t ++ next ∷ more) (append-nil (spell b)))
goes_on {spell = spell} exact a b (y ∷ ys) next more va vb is = no_shorter exact a b y (ys ++ next ∷ more) va vb (is ∙ append_assoc (spell b) (y ∷ ys) (next ∷ more))

-- lines that begin so, and go on, are no broken section
not_broken : {A : Type 0} {spell : A → Text} {Valid : A → Type 0} {read : Reader A} → Exact spell Valid read → (feed left : Feed) (value : A) (n : ℕ)
    → Valid value → Starts spell feed value left → Breaks spell Valid feed n → ⊥
not_broken {A} {spell} {Valid} exact feed left value n valid s b =
    elim (append_cases b.front (b.line ∷ b.rest) s.front left.lines (sym b.lines ∙ s.lines)) [
      | inl h ↦ within h.0 h.1 h.2
      | inr h ↦
          let front : text_of b.front ≡ spell value ++ text_of (h.0 ∷ h.1) = ap text_of h.2 ∙ text_of-append s.front (h.0 ∷ h.1) ∙ ap (λ (t : Text). t ++ text_of (h.0 ∷ h.1)) s.spelled in
          goes_on exact b.wanted.value value (text_of (h.0 ∷ h.1)) b.wanted.next b.wanted.more b.wanted.valid valid (b.wanted.spelled ∙ ap (λ (t : Text). t ++ b.wanted.next ∷ b.wanted.more) front)
    ]
  where
    within : (m : List WordLine) → s.front ≡ b.front ++ m → b.line ∷ b.rest ≡ m ++ left.lines → ⊥
    within [] is rest =
        let front : text_of b.front ≡ spell value ++ [] = sym (text_of-append b.front [] ∙ append-nil (text_of b.front)) ∙ ap text_of (sym is) ∙ s.spelled ∙ sym (append-nil (spell value)) in
        goes_on exact b.wanted.value value [] b.wanted.next b.wanted.more b.wanted.valid valid (b.wanted.spelled ∙ ap (λ (t : Text). t ++ b.wanted.next ∷ b.wanted.more) front)
    within (l ∷ m) is rest =
        let at : b.line ≡ l = head_is b.line l b.rest (m ++ left.lines) rest in
        let spelled : spell value ≡ (text_of b.front ++ b.line.words ∷ []) ++ text_of m =
        sym s.spelled ∙ ap text_of is ∙ text_of-append b.front (l ∷ m) ∙ ap (λ (x : WordLine). text_of b.front ++ x.words ∷ text_of m) (sym at) ∙ sym (append_assoc (text_of b.front) (b.line.words ∷ []) (text_of m)) in
        b.broken (record { value = value; valid = valid; more = text_of m; spelled = spelled })

not_refused : {A : Type 0} {spell : A → Text} {Valid : A → Type 0} {read : Reader A} → Exact spell Valid read → (feed left : Feed) (value : A) (n : ℕ)
    → Valid value → Starts spell feed value left → Refuses spell Valid feed n → ⊥
not_refused exact feed left value n valid s (inl b) = not_broken exact feed left value n valid s b
not_refused {spell = spell} exact feed left value n valid s (inr e) =
    let whole : text_of feed.lines ≡ spell value ++ text_of left.lines = ap text_of s.lines ∙ text_of-append s.front left.lines ∙ ap (λ (t : Text). t ++ text_of left.lines) s.spelled in
    goes_on exact e.wanted.value value (text_of left.lines) e.wanted.next e.wanted.more e.wanted.valid valid (e.wanted.spelled ∙ ap (λ (t : Text). t ++ e.wanted.next ∷ e.wanted.more) whole)

-- a reader refuses the refused line
pub refused_again : {A : Type 0} (spell : A → Text) (Valid : A → Type 0) (read : Reader A) → Exact spell Valid read → (feed : Feed) (n : ℕ) → Refuses spell Valid feed n → read feed ≡ Err n
refused_again {A} spell Valid read exact feed n at = by_answer (read feed) refl
  where
    as_err : ℕ → Result (A × Feed) ℕ
    as_err n = Err n

    by_answer : (r : Result (A × Feed) ℕ) → read feed ≡ r → r ≡ Err n
    by_answer (Ok found) is =
        let s = exact.takes feed found.1 found.0 is in
        absurd (not_refused exact feed found.1 found.0 n s.0 s.1 at)
    by_answer (Err m) is = ap as_err (one_place spell Valid feed m n (refuses_line exact feed m (exact.stops feed m is)) (refuses_line exact feed n at))
