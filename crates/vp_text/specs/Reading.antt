-- How sections are read: the parts from which each reader of a section is put together.
--
-- A section of a heading and of items up to `end`, say `list NAME`, then lines `item N`, is read by
--     both (one_line heading_of) (λ name. closed (codes "end") may_close (item_of name))
-- where heading_of gives a line's name, item_of name items words gives the number of a line that may follow these items, and
-- may_close items tells whether they may be closed. `mapped` makes a record of the pair. Beside it stand the spelling, put together
-- from both_text and closed_text, and which values are valid. Each part is exact where its own parts are (Exact-line, Exact-both,
-- Exact-closed, Exact-mapped), and so the whole section is: see Exact.
use Rattle.std.specs.Prelude.{◌≡◌, ℕ, Bool, List, [], ◌∷◌, ◌++◌, Option, Some, None, option_map, Result, Ok, Err, ◌⊎◌, if◌then◌else◌, false, bytes_eq}
use Rattle.std.proofs.Common.{inl, inr}
use Rattle.vp_text.specs.Lines.{Word, WordLine, Feed, Past}
use Rattle.vp_text.specs.ExactReaders.{Reader}
use Rattle.vp_text.specs.declared.refused.Refused.{Refused}

-- the lines behind this one
abbrev pub behind : WordLine → List WordLine → Past → Feed
behind line lines past = record { lines = lines; past = past; last = line.line }

-- the next word is this one
abbrev pub next_is : Word → List Word → Bool
next_is word [] = false
next_is word (next ∷ more) = bytes_eq next word

-- this word is the only one
abbrev pub only_is : Word → List Word → Bool
only_is word [] = false
only_is word (next ∷ []) = bytes_eq next word
only_is word (next ∷ second ∷ more) = false

infixl 10 ◌>>=◌
abbrev pub ◌>>=◌ : {A B : Type 0} → Result A ℕ → (A → Result B ℕ) → Result B ℕ
(Ok x) >>= f = f x
(Err e) >>= f = Err e

-- ---- one line

-- the value of a line, where its words have one; else it is refused
abbrev pub line_or : {A : Type 0} → Option A → ℕ → Feed → Result (A × Feed) ℕ
line_or None refused left = Err refused
line_or (Some value) refused left = Ok (value, left)

abbrev pub line_at : {A : Type 0} → (List Word → Option A) → List WordLine → Past → Result (A × Feed) ℕ
line_at value_of [] past = Err past.line
line_at value_of (line ∷ more) past = line_or (value_of line.words) line.line (behind line more past)

-- a section of one line
abbrev pub one_line : {A : Type 0} → (List Word → Option A) → Reader A
one_line value_of feed = line_at value_of feed.lines feed.past

-- ---- no line

-- a section without lines
abbrev pub nothing : Reader (Unit {0})
nothing feed = Ok (tt, feed)

-- ---- a section, and then one that depends on its value

abbrev pub both : {A B : Type 0} → Reader A → (A → Reader B) → Reader (A × B)
both first second feed = do
  a ← first feed
  b ← second a.0 a.1
  Ok ((a.0, b.0), b.1)

-- ---- items up to a closing line

-- a line of such a section is an item, or it closes the section; nothing else
abbrev pub by_row : {I Z R : Type 0} → Option (I ⊎ Z) → R → (I → R) → (Z → R) → R
by_row None refused item close = refused
by_row (Some (inl i)) refused item close = item i
by_row (Some (inr z)) refused item close = close z

-- the lines from here, behind these items
abbrev pub rows_at : {I Z : Type 0} → (List I → List Word → Option (I ⊎ Z)) → List WordLine → Past → List I → Result ((List I × Z) × Feed) ℕ
rows_at row_of [] past items = Err past.line
rows_at row_of (line ∷ more) past items =
    by_row (row_of items line.words) (Err line.line) (λ i. rows_at row_of more past (items ++ i ∷ [])) (λ z. Ok ((items, z), behind line more past))

-- items, each after its rule (which sees the items before it), up to a line that closes the section
abbrev pub rows : {I Z : Type 0} → (List I → List Word → Option (I ⊎ Z)) → Reader (List I × Z)
rows row_of feed = rows_at row_of feed.lines feed.past []

-- rows that are closed by a word alone, where these items may be closed
abbrev pub closed_by : {I : Type 0} → Word → (List I → Bool) → (List I → List Word → Option I) → List I → List Word → Option (I ⊎ Unit {0})
closed_by word may_close item_of items words =
    if only_is word words then (if may_close items then Some (inr tt) else None) else option_map inl (item_of items words)

-- ---- a value seen otherwise

abbrev pub mapped : {A B : Type 0} → (A → B) → Reader A → Reader B
mapped see read feed = do
  a ← read feed
  Ok (see a.0, a.1)

-- items up to the word that closes them
abbrev pub closed : {I : Type 0} → Word → (List I → Bool) → (List I → List Word → Option I) → Reader (List I)
closed word may_close item_of = mapped (λ value. value.0) (rows (closed_by word may_close item_of))

-- ---- a section that has to fit; it is refused at its last line

abbrev pub fitted : {A : Type 0} → (A → Bool) → Reader A → Reader A
fitted fits read feed = do
  a ← read feed
  if fits a.0 then Ok a else Err a.1.last

-- ---- the same, and then one that depends on its value

abbrev pub fitting : {A B : Type 0} → (A → Bool) → Reader A → (A → Reader B) → Reader (A × B)
fitting fits first second feed = do
  a ← first feed
  b ← if fits a.0 then second a.0 a.1 else Err a.1.last
  Ok ((a.0, b.0), b.1)

-- ---- the whole input

abbrev pub ended : {A : Type 0} → A → List WordLine → Result A ℕ
ended value [] = Ok value
ended value (line ∷ more) = Err line.line

-- a value, and no line behind it
abbrev pub whole : {A : Type 0} → Reader A → Feed → Result A ℕ
whole read feed = do
  a ← read feed
  ended a.0 a.1.lines

-- ---- what a function of the program returned

-- It is what reading gives: the value (seen so) and the lines that are left, or the refused line.
abbrev pub Gives : {X Y : Type 0} → (X → Y) → Result X Refused → Feed → Result (Y × Feed) ℕ → Type 0
Gives see (Ok x) left reading = reading ≡ Ok (see x, left)
Gives see (Err e) left reading = reading ≡ Err e.line
