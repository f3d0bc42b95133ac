-- The whole input: a value's spelling and nothing else, or one refused line.
use Rattle.std.proofs.Common.{◌≡◌, ℕ, List, [], ◌∷◌, ◌++◌, Result, Ok, Err, ◌⊎◌, inl, inr, refl, sym, ap, subst, ◌∙◌, append_assoc}
use Rattle.std.proofs.lemmas.List.{append-nil}
use Rattle.vp_text.specs.Lines.{WordLine, Feed}
use Rattle.vp_text.specs.Sections.{Text, text_of, last_of, Starts, Begins, Refuses, IsWhole, FirstBreak, RefusedLine}
use Rattle.vp_text.specs.ExactReaders.{Reader, Exact}
use Rattle.vp_text.specs.Reading.{◌>>=◌, ended, whole}
use Rattle.vp_text.proofs.Spelled.{bind_ok, bind_err, ok_is, err_is, head_is, append_cases, text_of-append}
use Rattle.vp_text.proofs.Sections.{spelling_unique, begins_lacks, no_shorter}

-- ---- nothing is left

ended_ok : {A : Type 0} (value : A) (lines : List WordLine) (a : A) → ended value lines ≡ Ok a → (value ≡ a) × (lines ≡ [])
ended_ok value [] a e = (ok_is value a e, refl)
ended_ok value (l ∷ lines) a e = absurd cc

-- the lines that an input has left
pub record Behind (lines : List WordLine) (refused : ℕ) : Type 0 where
  pub line : WordLine
  pub more : List WordLine
  pub split : lines ≡ line ∷ more
  pub number : refused ≡ line.line

ended_err : {A : Type 0} (value : A) (lines : List WordLine) (refused : ℕ) → ended value lines ≡ Err refused → Behind lines refused
ended_err value [] refused e = absurd cc
ended_err {A = A} value (l ∷ lines) refused e = record { line = l; more = lines; split = refl; number = sym (err_is {A = A} l.line refused e) }

pub starts_whole : {A : Type 0} (spell : A → Text) (feed : Feed) (value : A) → IsWhole spell feed value
    → Starts spell feed value (record { lines = []; past = feed.past; last = last_of feed.lines feed.last })
starts_whole spell feed value is = record { front = feed.lines; lines = sym (append-nil feed.lines); spelled = is; past = refl; last = refl }

pub whole_found : {A : Type 0} (spell : A → Text) (Valid : A → Type 0) (read : Reader A) → Exact spell Valid read
    → (feed : Feed) (value : A) → whole read feed ≡ Ok value → Valid value × IsWhole spell feed value
whole_found {A = A} spell Valid read exact feed value e =
    let a = bind_ok (read feed) (λ (a : A × Feed). ended a.0 a.1.lines) value e in
    let t = exact.takes feed a.0.1 a.0.0 a.1 in
    let none = ended_ok a.0.0 a.0.1.lines value a.2 in
    let all : feed.lines ≡ t.1.front = t.1.lines ∙ ap (λ (ls : List WordLine). t.1.front ++ ls) none.1 ∙ append-nil t.1.front in
    subst (λ (v : A). Valid v × IsWhole spell feed v) none.0 (t.0, ap text_of all ∙ t.1.spelled)

pub whole_again : {A : Type 0} (spell : A → Text) (Valid : A → Type 0) (read : Reader A) → Exact spell Valid read
    → (feed : Feed) (value : A) → Valid value → IsWhole spell feed value → whole read feed ≡ Ok value
whole_again {A = A} spell Valid read exact feed value valid is =
    let one = exact.again feed (record { lines = []; past = feed.past; last = last_of feed.lines feed.last }) value valid (starts_whole spell feed value is) in
    ap (λ (r : Result (A × Feed) ℕ). r >>= λ a. ended a.0 a.1.lines) one

-- the refused line of a section is that of the whole input
pub refuses_line : {A : Type 0} {spell : A → Text} {Valid : A → Type 0} {read : Reader A} → Exact spell Valid read → (feed : Feed) (n : ℕ) → Refuses spell Valid feed n → RefusedLine spell Valid feed n
refuses_line exact feed n (inl b) = inl (record { front = b.front; line = b.line; rest = b.rest; lines = b.lines; number = b.number; begun = begins_lacks b.wanted; broken = b.broken })
refuses_line exact feed n (inr e) = inr (record {
  number = e.number;
  begun = begins_lacks e.wanted;
  none = λ value valid whole.
      no_shorter exact e.wanted.value value e.wanted.next e.wanted.more e.wanted.valid valid (e.wanted.spelled ∙ ap (λ (t : Text). t ++ e.wanted.next ∷ e.wanted.more) whole);
})

pub whole_stops : {A : Type 0} (spell : A → Text) (Valid : A → Type 0) (read : Reader A) → Exact spell Valid read
    → (feed : Feed) (refused : ℕ) → whole read feed ≡ Err refused → RefusedLine spell Valid feed refused
whole_stops {A = A} spell Valid read exact feed refused e = stopped (bind_err (read feed) (λ (a : A × Feed). ended a.0 a.1.lines) refused e)
  where
    behind_it : (value : A) (left : Feed) → Valid value → Starts spell feed value left → Behind left.lines refused → RefusedLine spell Valid feed refused
    behind_it value left valid s b = inl (record {
      front = s.front;
      line = b.line;
      rest = b.more;
      lines = s.lines ∙ ap (λ (ls : List WordLine). s.front ++ ls) b.split;
      number = b.number;
      begun = record { value = value; valid = valid; more = []; spelled = sym s.spelled ∙ sym (append-nil (text_of s.front)) };
      broken = λ begins.
          let same = spelling_unique exact value begins.value (b.line.words ∷ begins.more) [] valid begins.valid
          (ap (λ (t : Text). t ++ b.line.words ∷ begins.more) (sym s.spelled) ∙ sym (append_assoc (text_of s.front) (b.line.words ∷ []) begins.more) ∙ sym begins.spelled ∙ sym (append-nil (spell begins.value))) in
          let clash = same.rest in
          absurd cc;
    })

    stopped : ((read feed ≡ Err refused) ⊎ ((a : A × Feed) × (read feed ≡ Ok a) × (ended a.0 a.1.lines ≡ Err refused))) → RefusedLine spell Valid feed refused
    stopped (inl is) = refuses_line exact feed refused (exact.stops feed refused is)
    stopped (inr p) =
        let t = exact.takes feed p.0.1 p.0.0 p.1 in
        behind_it p.0.0 p.0.1 t.0 t.1 (ended_err p.0.0 p.0.1.lines refused p.2)

-- ---- one refused line, and none where the input is accepted

begins_less : {A : Type 0} {spell : A → Text} {Valid : A → Type 0} (a b : Text) → Begins spell Valid (a ++ b) → Begins spell Valid a
begins_less a b begins = record { value = begins.value; valid = begins.valid; more = b ++ begins.more; spelled = begins.spelled ∙ append_assoc a b begins.more }

-- lines that go on behind a front and a line begin no more than these
begins_front : {A : Type 0} {spell : A → Text} {Valid : A → Type 0} (lines front rest : List WordLine) (line : WordLine) → lines ≡ front ++ line ∷ rest
    → Begins spell Valid (text_of lines) → Begins spell Valid (text_of front ++ line.words ∷ [])
begins_front {spell = spell} {Valid = Valid} lines front rest line split begins =
    let text : text_of lines ≡ (text_of front ++ line.words ∷ []) ++ text_of rest =
    ap text_of split ∙ text_of-append front (line ∷ rest) ∙ sym (append_assoc (text_of front) (line.words ∷ []) (text_of rest)) in
    begins_less (text_of front ++ line.words ∷ []) (text_of rest) (subst (λ (t : Text). Begins spell Valid t) text begins)

same_break : {A : Type 0} (spell : A → Text) (Valid : A → Type 0) (feed : Feed) (m n : ℕ) → FirstBreak spell Valid feed m → FirstBreak spell Valid feed n → m ≡ n
same_break spell Valid feed m n p q =
    elim (append_cases p.front (p.line ∷ p.rest) q.front (q.line ∷ q.rest) (sym p.lines ∙ q.lines)) [
      | inl h ↦ longer h.0 h.1 h.2
      | inr h ↦
          let at : q.line ≡ h.0 = head_is q.line h.0 q.rest (h.1 ++ p.line ∷ p.rest) h.3 in
          absurd (q.broken (begins_front p.front q.front h.1 q.line (h.2 ∙ ap (λ (l : WordLine). q.front ++ l ∷ h.1) (sym at)) p.begun))
    ]
  where
    longer : (k : List WordLine) → q.front ≡ p.front ++ k → p.line ∷ p.rest ≡ k ++ q.line ∷ q.rest → m ≡ n
    longer [] is rest = p.number ∙ ap (λ (l : WordLine). l.line) (head_is p.line q.line p.rest q.rest rest) ∙ sym q.number
    longer (l ∷ k) is rest =
        let at : p.line ≡ l = head_is p.line l p.rest (k ++ q.line ∷ q.rest) rest in
        absurd (p.broken (begins_front q.front p.front k p.line (is ∙ ap (λ (x : WordLine). p.front ++ x ∷ k) (sym at)) q.begun))

pub one_place : {A : Type 0} (spell : A → Text) (Valid : A → Type 0) (feed : Feed) (m n : ℕ) → RefusedLine spell Valid feed m → RefusedLine spell Valid feed n → m ≡ n
one_place spell Valid feed m n (inl p) (inl q) = same_break spell Valid feed m n p q
one_place spell Valid feed m n (inl p) (inr q) = absurd (p.broken (begins_front feed.lines p.front p.rest p.line p.lines q.begun))
one_place spell Valid feed m n (inr p) (inl q) = absurd (q.broken (begins_front feed.lines q.front q.rest q.line q.lines p.begun))
one_place spell Valid feed m n (inr p) (inr q) = p.number ∙ sym q.number

pub never_both : {A : Type 0} (spell : A → Text) (Valid : A → Type 0) (feed : Feed) (value : A) (n : ℕ) → Valid value → IsWhole spell feed value → RefusedLine spell Valid feed n → ⊥
never_both spell Valid feed value n valid is (inl p) =
    p.broken (begins_front feed.lines p.front p.rest p.line p.lines (record { value = value; valid = valid; more = []; spelled = sym is ∙ sym (append-nil (text_of feed.lines)) }))
never_both spell Valid feed value n valid is (inr p) = p.none value valid is

pub whole_refused : {A : Type 0} (spell : A → Text) (Valid : A → Type 0) (read : Reader A) → Exact spell Valid read
    → (feed : Feed) (refused : ℕ) → RefusedLine spell Valid feed refused → whole read feed ≡ Err refused
whole_refused {A = A} spell Valid read exact feed refused at = by_answer (whole read feed) refl
  where
    as_err : ℕ → Result A ℕ
    as_err n = Err n

    by_answer : (r : Result A ℕ) → whole read feed ≡ r → r ≡ Err refused
    by_answer (Ok value) is =
        let f = whole_found spell Valid read exact feed value is in
        absurd (never_both spell Valid feed value refused f.0 f.1 at)
    by_answer (Err n) is = ap as_err (one_place spell Valid feed n refused (whole_stops spell Valid read exact feed n is) at)
