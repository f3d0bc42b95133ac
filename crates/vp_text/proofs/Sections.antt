-- Exact readers: what follows for spellings, and the parts from which readers are put together are exact.
use Rattle.std.proofs.Common.{◌≡◌, ℕ, List, [], ◌∷◌, ◌++◌, Option, Some, None, Result, Ok, Err, inl, inr, refl, sym, ap, subst, ◌∙◌}
use Rattle.std.proofs.lemmas.List.{append-nil}
use Rattle.vp_text.specs.Lines.{Past, Word, WordLine, Feed}
use Rattle.vp_text.specs.Reading.{behind, line_or, line_at, one_line, nothing}
use Rattle.vp_text.specs.Sections.{Text, text_of, last_of, Starts, Begins, Lacks, Refuses}
use Rattle.vp_text.specs.ExactReaders.{Reader, Exact, ExactText}
use Rattle.vp_text.proofs.Spelled.{ok_is, err_is, ok_err, tail_is, head_is, cons_is, lines_for, text_of-lines_for, lines_for-append, last_of-lines_for, feed_for}

abbrev ok_pair : {A : Type 0} → A → Feed → Result (A × Feed) ℕ
ok_pair value left = Ok (value, left)

-- ---- what follows for spellings

-- a spelling and what is behind it, as lines
pub starts_for : {A : Type 0} (spell : A → Text) (value : A) (more : Text) → Starts spell (feed_for (spell value ++ more)) value (feed_for more)
starts_for spell value more = record {
  front = lines_for (spell value);
  lines = lines_for-append (spell value) more;
  spelled = text_of-lines_for (spell value);
  past = refl;
  last = sym (last_of-lines_for (spell value));
}

pub record Same {A : Type 0} (a b : A) (x y : Text) : Type 0 where
  pub value : a ≡ b
  pub rest : x ≡ y

-- Two spellings that go on to be equal are of one value, and go on alike.
pub spelling_unique : {A : Type 0} {spell : A → Text} {Valid : A → Type 0} {read : Reader A} → Exact spell Valid read
    → (a b : A) (x y : Text) → Valid a → Valid b → spell a ++ x ≡ spell b ++ y → Same a b x y
spelling_unique {A = A} {spell = spell} {read = read} exact a b x y va vb e =
    let one = exact.again (feed_for (spell a ++ x)) (feed_for x) a va (starts_for spell a x) in
    let two = exact.again (feed_for (spell b ++ y)) (feed_for y) b vb (starts_for spell b y) in
    let alike : read (feed_for (spell a ++ x)) ≡ read (feed_for (spell b ++ y)) = ap (λ (t : Text). read (feed_for t)) e in
    let found = ok_is (a, feed_for x) (b, feed_for y) (sym one ∙ alike ∙ two) in
    record {
      value = ap (λ (p : A × Feed). p.0) found;
      rest = sym (text_of-lines_for x) ∙ ap (λ (p : A × Feed). text_of p.1.lines) found ∙ text_of-lines_for y;
    }

-- no valid spelling ends inside a valid spelling
pub no_shorter : {A : Type 0} {spell : A → Text} {Valid : A → Type 0} {read : Reader A} → Exact spell Valid read
    → (a b : A) (next : List Word) (more : Text) → Valid a → Valid b → spell a ≡ spell b ++ next ∷ more → ⊥
no_shorter {spell = spell} exact a b next more va vb e =
    let same = spelling_unique exact a b [] (next ∷ more) va vb (append-nil (spell a) ∙ e) in
    let clash = same.rest in
    absurd cc

-- ---- lines that begin a spelling

pub begins_lacks : {A : Type 0} {spell : A → Text} {Valid : A → Type 0} {text : Text} → Lacks spell Valid text → Begins spell Valid text
begins_lacks lacks = record { value = lacks.value; valid = lacks.valid; more = lacks.next ∷ lacks.more; spelled = lacks.spelled }

-- ---- one line

line_takes : {A : Type 0} (line : A → List Word) (Valid : A → Type 0) (value_of : List Word → Option A) → ExactText line Valid value_of
    → (lines : List WordLine) (past : Past) (last : ℕ) (left : Feed) (value : A) → line_at value_of lines past ≡ Ok (value, left)
    → Valid value × Starts (λ a. line a ∷ []) (record { lines = lines; past = past; last = last }) value left
line_takes line Valid value_of exact [] past last left value e = absurd cc
line_takes {A = A} line Valid value_of exact (l ∷ lines) past last left value e =
    line_found (value_of l.words) refl e
  where
    line_found : (o : Option A) → value_of l.words ≡ o → line_or o l.line (behind l lines past) ≡ Ok (value, left)
        → Valid value × Starts (λ a. line a ∷ []) (record { lines = l ∷ lines; past = past; last = last }) value left
    line_found None is h = absurd cc
    line_found (Some a) is h =
        let found = ok_is (a, behind l lines past) (value, left) h in
        let t = exact.takes l.words a is in
        subst (λ (p : A × Feed). Valid p.0 × Starts (λ a. line a ∷ []) (record { lines = l ∷ lines; past = past; last = last }) p.0 p.1) found
        (t.0, record { front = l ∷ []; lines = refl; spelled = cons_is l.words (line a) [] [] (sym t.1) refl; past = refl; last = refl })

pub feed_is : (left : Feed) (past : Past) (last : ℕ) → left.past ≡ past → left.last ≡ last → record { lines = left.lines; past = past; last = last } ≡ left
feed_is left past last p q =
    let one : record { lines = left.lines; past = past; last = last } ≡ record { lines = left.lines; past = left.past; last = last } = ap (λ (k : Past). record { lines = left.lines; past = k; last = last }) (sym p) in
    one ∙ ap (λ (k : ℕ). record { lines = left.lines; past = left.past; last = k }) (sym q)

ok_as : {A : Type 0} (value : A) (f g : Feed) → f ≡ g → ok_pair value f ≡ ok_pair value g
ok_as value f g e = ap (λ (x : Feed). ok_pair value x) e

line_again : {A : Type 0} (line : A → List Word) (Valid : A → Type 0) (value_of : List Word → Option A) → ExactText line Valid value_of
    → (before left : Feed) (value : A) (front : List WordLine) → Valid value → before.lines ≡ front ++ left.lines → text_of front ≡ line value ∷ []
    → left.past ≡ before.past → left.last ≡ last_of front before.last → line_at value_of before.lines before.past ≡ Ok (value, left)
line_again line Valid value_of exact before left value [] valid lines spelled past last = absurd cc
line_again line Valid value_of exact before left value (l ∷ []) valid lines spelled past last =
    let read : value_of l.words ≡ Some value = ap value_of (head_is l.words (line value) [] [] spelled) ∙ exact.again value valid in
    ap (λ (ls : List WordLine). line_at value_of ls before.past) lines
    ∙ ap (λ (o : Option _). line_or o l.line (behind l left.lines before.past)) read
    ∙ ok_as value (behind l left.lines before.past) left (feed_is left before.past l.line past last)
line_again line Valid value_of exact before left value (l ∷ m ∷ front) valid lines spelled past last =
    let clash = tail_is l.words (line value) (m.words ∷ text_of front) [] spelled in absurd cc

line_stops : {A : Type 0} (line : A → List Word) (Valid : A → Type 0) (value_of : List Word → Option A) → ExactText line Valid value_of
    → (some : A) → Valid some → (lines : List WordLine) (past : Past) (last : ℕ) (refused : ℕ) → line_at value_of lines past ≡ Err refused
    → Refuses (λ a. line a ∷ []) Valid (record { lines = lines; past = past; last = last }) refused
line_stops {A = A} line Valid value_of exact some valid [] past last refused e =
    inr (record { number = sym (err_is {A = A × Feed} past.line refused e); wanted = record { value = some; valid = valid; next = line some; more = []; spelled = refl } })
line_stops {A = A} line Valid value_of exact some valid (l ∷ lines) past last refused e = refused_line (value_of l.words) refl e
  where
    unread : value_of l.words ≡ None → Begins (λ a. line a ∷ []) Valid (l.words ∷ []) → ⊥
    unread is begins =
        let same : line begins.value ≡ l.words = head_is (line begins.value) l.words [] begins.more begins.spelled in
        let read : value_of l.words ≡ Some begins.value = ap value_of (sym same) ∙ exact.again begins.value begins.valid in
        absurd cc

    refused_line : (o : Option A) → value_of l.words ≡ o → line_or o l.line (behind l lines past) ≡ Err refused
        → Refuses (λ a. line a ∷ []) Valid (record { lines = l ∷ lines; past = past; last = last }) refused
    refused_line None is h =
        inl (record {
          front = [];
          line = l;
          rest = lines;
          lines = refl;
          number = sym (err_is {A = A × Feed} l.line refused h);
          wanted = record { value = some; valid = valid; next = line some; more = []; spelled = refl };
          broken = unread is;
        })
    refused_line (Some a) is h = absurd cc

-- A section of one line is exact where its line is; some value has to be valid.
pub Exact-line : {A : Type 0} (line : A → List Word) (Valid : A → Type 0) (value_of : List Word → Option A) → ExactText line Valid value_of
    → (some : A) → Valid some → Exact (λ a. line a ∷ []) Valid (one_line value_of)
Exact-line line Valid value_of exact some valid = record {
  some = some;
  some_valid = valid;
  takes = λ before left value e. line_takes line Valid value_of exact before.lines before.past before.last left value e;
  again = λ before left value v s. line_again line Valid value_of exact before left value s.front v s.lines s.spelled s.past s.last;
  stops = λ feed refused e. line_stops line Valid value_of exact some valid feed.lines feed.past feed.last refused e;
}

-- ---- no line

nothing_again : (before left : Feed) (front : List WordLine) → before.lines ≡ front ++ left.lines → text_of front ≡ [] → left.past ≡ before.past → left.last ≡ last_of front before.last
    → before ≡ left
nothing_again before left [] lines spelled past last =
    ap (λ (ls : List WordLine). record { lines = ls; past = before.past; last = before.last }) lines ∙ feed_is left before.past before.last past last
nothing_again before left (l ∷ front) lines spelled past last = absurd cc

-- what is read where nothing is: any lines are left
pub Exact-nothing : Exact (λ (a : Unit {0}). []) (λ a. Unit {0}) nothing
Exact-nothing = record {
  some = tt;
  some_valid = tt;
  takes = λ before left value e. (tt, subst (λ (p : Unit {0} × Feed). Starts (λ (a : Unit {0}). []) before p.0 p.1) (ok_is (tt, before) (value, left) e) (record { front = []; lines = refl; spelled = refl; past = refl; last = refl }));
  again = λ before left value v s. ok_as tt before left (nothing_again before left s.front s.lines s.spelled s.past s.last);
  stops = λ feed refused e. absurd (ok_err (nothing feed) (tt, feed) refused refl e);
}
