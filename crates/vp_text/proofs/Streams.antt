-- Items that are read and not kept are the items that are read.
use Rattle.std.proofs.Common.{◌≡◌, ℕ, Bool, true, false, cond, List, [], ◌∷◌, ◌++◌, refl, sym, ap, ◌∙◌, Some, None, inl, inr, ◌⊎◌, append_assoc}
use Rattle.std.specs.Prelude.{Option, option_map, Result, Ok, Err, is_some}
use Rattle.std.proofs.lemmas.List.{append-nil}
use Rattle.vp_text.specs.ExactReaders.{ExactText}
use Rattle.vp_text.specs.Lines.{Word, WordLine, Feed, Past}
use Rattle.vp_text.specs.Reading.{◌>>=◌, behind, only_is, by_row, rows_at, closed_by, closed}
use Rattle.vp_text.specs.Streams.{in_front, front_items, skip_at, skipped_items, always, any_behind, folded_at, row_step, StandsFor, stated, kind_in_front, ReadAgain, passing, following, MayFollow}
use Rattle.vp_text.proofs.Pieces.{chosen, no_value, so}
use Rattle.vp_text.proofs.Rows.{only_word}
use Rattle.vp_text.proofs.Spelled.{ok_is}

-- ---- a state that stands for the items before

-- what is read with a state is the state of what is read
pub folded_is : {I S Z : Type 0} (row_of : List I → List Word → Option (I ⊎ Z)) (step_of : S → List Word → Option (S ⊎ Z)) (state : List I → S) → StandsFor row_of step_of state
    → (lines : List WordLine) (past : Past) (items : List I) → folded_at step_of lines past (state items) ≡ stated state (rows_at row_of lines past items)
folded_is row_of step_of state stands [] past items = refl
folded_is {I} {S} {Z} row_of step_of state stands (line ∷ lines) past items =
    ap (λ (o : Option (S ⊎ Z)). by_row o (Err line.line) (λ next. folded_at step_of lines past next) (λ z. Ok ((state items, z), behind line lines past))) (stands.step items line.words)
    ∙ by_cases (λ i. folded_is row_of step_of state stands lines past (items ++ i ∷ [])) (row_of items line.words)
  where
    by_cases : ((i : I) → folded_at step_of lines past (state (items ++ i ∷ [])) ≡ stated state (rows_at row_of lines past (items ++ i ∷ [])))
        → (o : Option (I ⊎ Z))
        → by_row (row_step state items o) (Err line.line) (λ next. folded_at step_of lines past next) (λ z. Ok ((state items, z), behind line lines past))
        ≡ stated state (by_row o (Err line.line) (λ i. rows_at row_of lines past (items ++ i ∷ [])) (λ z. Ok ((items, z), behind line lines past)))
    by_cases goes_on None = refl
    by_cases goes_on (Some (inl i)) = goes_on i
    by_cases goes_on (Some (inr z)) = refl

-- ---- items of one kind, read again

-- what was read behind some items, of which those of a kind are read again
pub record Again {I K : Type 0} (kind : I → Option K) (front : List I) (lines : List WordLine) (again : List Word → Option K) (all : List I) : Type 0 where
  pub more : List I
  pub split : all ≡ front ++ more
  pub same : front_items again lines ≡ kind_in_front kind more

pub read_again : {I K Z : Type 0} (row_of : List I → List Word → Option (I ⊎ Z)) (kind : I → Option K) (again : List Word → Option K) → ReadAgain row_of kind again
    → (lines : List WordLine) (past : Past) (items all : List I) (z : Z) (left : Feed) → rows_at row_of lines past items ≡ Ok ((all, z), left) → Again kind items lines again all
read_again row_of kind again law [] past items all z left read = absurd cc
read_again {I} {K} {Z} row_of kind again law (line ∷ lines) past items all z left read =
    by_cases (λ i. read_again row_of kind again law lines past (items ++ i ∷ []) all z left) (row_of items line.words) refl read
  where
    by_cases : ((i : I) → rows_at row_of lines past (items ++ i ∷ []) ≡ Ok ((all, z), left) → Again kind (items ++ i ∷ []) lines again all)
        → (o : Option (I ⊎ Z)) → row_of items line.words ≡ o
        → by_row o (Err line.line) (λ i. rows_at row_of lines past (items ++ i ∷ [])) (λ z. Ok ((items, z), behind line lines past)) ≡ Ok ((all, z), left)
        → Again kind items (line ∷ lines) again all
    by_cases goes_on None is h = absurd cc
    by_cases goes_on (Some (inl i)) is h =
        let r = goes_on i h in
        record {
          more = i ∷ r.more;
          split = r.split ∙ append_assoc items (i ∷ []) r.more;
          same = ap (λ (o : Option K). in_front o (front_items again lines)) (law.item items line.words i is) ∙ ap (λ (ks : List K). in_front (kind i) ks) r.same;
        }
    by_cases goes_on (Some (inr y)) is h =
        let one : (List I × Z) × Feed = ((items, y), behind line lines past) in
        let two : (List I × Z) × Feed = ((all, z), left) in
        let same : one ≡ two = ok_is one two h in
        let all_is : items ≡ all = ap (λ (p : (List I × Z) × Feed). p.0.0) same in
        record {
          more = [];
          split = sym all_is ∙ sym (append-nil items);
          same = ap (λ (o : Option K). in_front o (front_items again lines)) (law.close items line.words y is);
        }

-- the items of a kind that stand in front of all others are those that are read again
pub kinds_again : {I K Z : Type 0} (row_of : List I → List Word → Option (I ⊎ Z)) (kind : I → Option K) (again : List Word → Option K) → ReadAgain row_of kind again
    → (lines : List WordLine) (past : Past) (all : List I) (z : Z) (left : Feed) → rows_at row_of lines past [] ≡ Ok ((all, z), left) → front_items again lines ≡ kind_in_front kind all
kinds_again row_of kind again law lines past all z left read =
    let r = read_again row_of kind again law lines past [] all z left read in
    r.same ∙ ap (kind_in_front kind) (sym r.split)

-- ---- items up to a closing word

-- these items, where what follows them was skipped
abbrev pub with_items : {I : Type 0} → List I → Result (Unit {0} × Feed) ℕ → Result ((List I × Unit {0}) × Feed) ℕ
with_items items (Ok p) = Ok ((items, tt), p.1)
with_items items (Err n) = Err n

pub rows_are : {I : Type 0} (word : Word) (item_of : List Word → Option I) → item_of (word ∷ []) ≡ None
    → (lines : List WordLine) (past : Past) (items : List I)
    → rows_at (closed_by word always (any_behind item_of)) lines past items ≡ with_items (items ++ front_items item_of lines) (skip_at word item_of lines past)
rows_are word item_of apart [] past items = refl
rows_are {I} word item_of apart (line ∷ more) past items = by_word (only_is word line.words) refl (rows_are word item_of apart more past)
  where
    Now : Bool → Option I → Type 0
    Now b o = by_row (cond b (Some (inr tt)) (option_map inl o)) (Err line.line) (λ i. rows_at (closed_by word always (any_behind item_of)) more past (items ++ i ∷ [])) (λ z. Ok ((items, z), behind line more past))
        ≡ with_items (items ++ in_front o (front_items item_of more)) (cond b (Ok (tt, behind line more past)) (cond (is_some o) (skip_at word item_of more past) (Err line.line)))

    by_item : (o : Option I) → ((items : List I) → rows_at (closed_by word always (any_behind item_of)) more past items ≡ with_items (items ++ front_items item_of more) (skip_at word item_of more past)) → Now false o
    by_item None rec = refl
    by_item (Some i) rec = rec (items ++ i ∷ []) ∙ ap (λ (all : List I). with_items all (skip_at word item_of more past)) (append_assoc items (i ∷ []) (front_items item_of more))

    by_word : (b : Bool) → only_is word line.words ≡ b → ((items : List I) → rows_at (closed_by word always (any_behind item_of)) more past items ≡ with_items (items ++ front_items item_of more) (skip_at word item_of more past))
        → rows_at (closed_by word always (any_behind item_of)) (line ∷ more) past items ≡ with_items (items ++ front_items item_of (line ∷ more)) (skip_at word item_of (line ∷ more) past)
    by_word true is rec =
        let none : item_of line.words ≡ None = ap item_of (sym (only_word word line.words is)) ∙ apart in
        rw (is, none) (ap (λ (all : List I). with_items all (Ok (tt, behind line more past))) (sym (append-nil items)))
    by_word false is rec = rw is (by_item (item_of line.words) rec)

-- items that are skipped and read again are the items that are read
pub skipped_is : {I : Type 0} (word : Word) (item_of : List Word → Option I) → item_of (word ∷ []) ≡ None
    → (feed : Feed) → closed word always (any_behind item_of) feed ≡ skipped_items word item_of feed
skipped_is {I} word item_of apart feed =
    ap (λ (r : Result ((List I × Unit {0}) × Feed) ℕ). r >>= items_only) (rows_are word item_of apart feed.lines feed.past []) ∙ by_skip (skip_at word item_of feed.lines feed.past)
  where
    items_only : (List I × Unit {0}) × Feed → Result (List I × Feed) ℕ
    items_only a = Ok (a.0.0, a.1)

    by_skip : (r : Result (Unit {0} × Feed) ℕ) → (with_items (front_items item_of feed.lines) r >>= items_only) ≡ (r >>= λ left. Ok (front_items item_of feed.lines, left.1))
    by_skip (Ok p) = refl
    by_skip (Err n) = refl

-- ---- an item that may follow

-- a line is read as an item that may follow exactly where it is read as an item, and this one may follow
pub Exact-following : {S I : Type 0} (line : I → List Word) (Valid : I → Type 0) (may : S → I → Bool) (item_of : List Word → Option I) → ExactText line Valid item_of
    → (state : S) → ExactText line (MayFollow Valid may state) (following may item_of state)
Exact-following {S} {I} line Valid may item_of exact state = record {
  takes = λ words value read. by_item words (item_of words) refl value read;
  again = λ item is. ap (passing (may state)) (exact.again item is.valid) ∙ rw is.follows;
}
  where
    by_item : (words : List Word) (o : Option I) → item_of words ≡ o → (value : I) → passing (may state) o ≡ Some value → MayFollow Valid may state value × (line value ≡ words)
    by_item words None is value read = absurd (no_value value read)
    by_item words (Some item) is value read =
        let t = exact.takes words item is in
        chosen (λ i. MayFollow Valid may state i × (line i ≡ words)) (may state item) (Some item) None value read
        (λ passes same. so (λ i. MayFollow Valid may state i × (line i ≡ words)) item value same (record { valid = t.0; follows = passes }, t.1))
        (λ none. absurd (no_value value none))
