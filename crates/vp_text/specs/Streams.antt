-- Items that are read and not kept: they are read again from the text, or a state stands for them.
use Rattle.std.specs.Prelude.{◌≡◌, ℕ, Bool, true, nat_lt, List, [], ◌∷◌, ◌++◌, length, Option, Some, None, Result, Ok, Err, is_some, ◌⊎◌, if◌then◌else◌}
use Rattle.std.proofs.Common.{inl, inr}
use Rattle.vp_text.specs.Lines.{Word, WordLine, Feed, Past}
use Rattle.vp_text.specs.ExactReaders.{Reader}
use Rattle.vp_text.specs.Reading.{◌>>=◌, behind, only_is, by_row}

-- ---- items at the front of lines

-- an item in front of more, where there is one; else nothing
abbrev pub in_front : {I : Type 0} → Option I → List I → List I
in_front None more = []
in_front (Some item) more = item ∷ more

-- what these lines give, up to the first line that gives nothing
abbrev pub at_front : {I : Type 0} → (WordLine → Option I) → List WordLine → List I
at_front given [] = []
at_front given (line ∷ more) = in_front (given line) (at_front given more)

-- the items at the front of these lines, up to the first line that is none
abbrev pub front_items : {I : Type 0} → (List Word → Option I) → List WordLine → List I
front_items item_of lines = at_front (λ line. item_of line.words) lines

-- ---- items up to a closing word, of which nothing is kept

-- items up to a line of this word alone
abbrev pub skip_at : {I : Type 0} → Word → (List Word → Option I) → List WordLine → Past → Result (Unit {0} × Feed) ℕ
skip_at word item_of [] past = Err past.line
skip_at word item_of (line ∷ more) past =
    if only_is word line.words then Ok (tt, behind line more past)
    else (if is_some (item_of line.words) then skip_at word item_of more past else Err line.line)

abbrev pub skipped : {I : Type 0} → Word → (List Word → Option I) → Reader (Unit {0})
skipped word item_of feed = skip_at word item_of feed.lines feed.past

-- items that are skipped, and then read again from the front
abbrev pub skipped_items : {I : Type 0} → Word → (List Word → Option I) → Reader (List I)
skipped_items word item_of feed = do
  left ← skipped word item_of feed
  Ok (front_items item_of feed.lines, left.1)

-- any items may be closed, and any item may follow them
abbrev pub always : {I : Type 0} → List I → Bool
always items = true

abbrev pub any_behind : {I : Type 0} → (List Word → Option I) → List I → List Word → Option I
any_behind item_of items words = item_of words

-- ---- a state that stands for the items before

-- the lines from here, behind items for which this state stands
abbrev pub folded_at : {S Z : Type 0} → (S → List Word → Option (S ⊎ Z)) → List WordLine → Past → S → Result ((S × Z) × Feed) ℕ
folded_at step_of [] past state = Err past.line
folded_at step_of (line ∷ more) past state =
    by_row (step_of state line.words) (Err line.line) (λ next. folded_at step_of more past next) (λ z. Ok ((state, z), behind line more past))

-- items up to a line that closes the section, of which a state is kept
abbrev pub folded : {S Z : Type 0} → (S → List Word → Option (S ⊎ Z)) → S → Reader (S × Z)
folded step_of state feed = folded_at step_of feed.lines feed.past state

-- what a row does to the state that stands for the items before
abbrev pub row_step : {I S Z : Type 0} → (List I → S) → List I → Option (I ⊎ Z) → Option (S ⊎ Z)
row_step state items None = None
row_step state items (Some (inl item)) = Some (inl (state (items ++ item ∷ [])))
row_step state items (Some (inr z)) = Some (inr z)

-- the state tells as much of the next line as the items do
pub record StandsFor {I S Z : Type 0} (row_of : List I → List Word → Option (I ⊎ Z)) (step_of : S → List Word → Option (S ⊎ Z)) (state : List I → S) : Type 0 where
  pub step : (items : List I) (words : List Word) → step_of (state items) words ≡ row_step state items (row_of items words)

-- the state of the items that were read
abbrev pub stated : {I S Z : Type 0} → (List I → S) → Result ((List I × Z) × Feed) ℕ → Result ((S × Z) × Feed) ℕ
stated state (Ok r) = Ok ((state r.0.0, r.0.1), r.1)
stated state (Err n) = Err n

-- ---- items of one kind, read again

-- the items of a kind that stand in front of all others
abbrev pub kind_in_front : {I K : Type 0} → (I → Option K) → List I → List K
kind_in_front kind [] = []
kind_in_front kind (item ∷ items) = in_front (kind item) (kind_in_front kind items)

-- a line that is read as an item of the kind is read so wherever it stands, and no other line is
pub record ReadAgain {I K Z : Type 0} (row_of : List I → List Word → Option (I ⊎ Z)) (kind : I → Option K) (again : List Word → Option K) : Type 0 where
  pub item : (items : List I) (words : List Word) (i : I) → row_of items words ≡ Some (inl i) → again words ≡ kind i
  pub close : (items : List I) (words : List Word) (z : Z) → row_of items words ≡ Some (inr z) → again words ≡ None

-- ---- an item that may follow

-- this item, where it passes
abbrev pub passing : {I : Type 0} → (I → Bool) → Option I → Option I
passing may None = None
passing may (Some item) = if may item then Some item else None

-- the item of a line, where it may follow what this state stands for
abbrev pub following : {S I : Type 0} → (S → I → Bool) → (List Word → Option I) → S → List Word → Option I
following may item_of state words = passing (may state) (item_of words)

-- a valid item that may follow
pub record MayFollow {S I : Type 0} (Valid : I → Type 0) (may : S → I → Bool) (state : S) (item : I) : Type 0 where
  pub valid : Valid item
  pub follows : may state item ≡ true

-- fewer than so many items stand in front
abbrev pub has_room : {I : Type 0} → ℕ → List I → I → Bool
has_room most items item = nat_lt (length items) most
