-- When a reader of sections takes exactly the spellings of valid values, and what such readers are made of.
use Rattle.std.specs.Prelude.{◌≡◌, ℕ, List, [], ◌∷◌, ◌++◌, map, Bool, IsTrue, Option, Some, Result, Ok, Err, ◌⊎◌}
use Rattle.std.proofs.Common.{inl, inr}
use Rattle.vp_text.specs.Lines.{Word, Feed}
use Rattle.vp_text.specs.Sections.{Text, Starts, Refuses}

-- a reader takes a value from the front and leaves the lines behind it, or refuses a line by its number
abbrev pub Reader : Type 0 → Type 0
Reader A = Feed → Result (A × Feed) ℕ

-- The reader takes exactly the spellings of valid values, and refuses at the first line with which the lines so far begin none, or past the end where the input ends first.
pub record Exact {A : Type 0} (spell : A → Text) (Valid : A → Type 0) (read : Reader A) : Type 0 where
  pub some : A
  pub some_valid : Valid some
  pub takes : (before left : Feed) (value : A) → read before ≡ Ok (value, left) → Valid value × Starts spell before value left
  pub again : (before left : Feed) (value : A) → Valid value → Starts spell before value left → read before ≡ Ok (value, left)
  pub stops : (feed : Feed) (refused : ℕ) → read feed ≡ Err refused → Refuses spell Valid feed refused

-- ---- a value that is seen otherwise

-- Valid values are seen as valid values, each has its view's spelling, and the view gives it back.
pub record Seen {A B : Type 0} (spell : A → Text) (Valid : A → Type 0) (spell2 : B → Text) (Valid2 : B → Type 0) (see : A → B) (back : B → A) : Type 0 where
  pub seen : (a : A) → Valid a → Valid2 (see a)
  pub meant : (b : B) → Valid2 b → Valid (back b)
  pub spelled : (b : B) → Valid2 b → spell2 b ≡ spell (back b)
  pub back_of : (a : A) → Valid a → back (see a) ≡ a
  pub see_of : (b : B) → Valid2 b → see (back b) ≡ b

-- ---- the rules of lines

-- What a valid value says is read as this value, and nothing else is read: a value of one word, or one of the words of a line.
pub record ExactText {A T : Type 0} (say : A → T) (Valid : A → Type 0) (read : T → Option A) : Type 0 where
  pub takes : (said : T) (value : A) → read said ≡ Some value → Valid value × (say value ≡ said)
  pub again : (value : A) → Valid value → read (say value) ≡ Some value

-- each item keeps its rule, which sees the items before it
abbrev pub Keeps : {I : Type 0} → (List I → I → Type 0) → List I → List I → Type 0
Keeps Allows front [] = Unit {0}
Keeps Allows front (item ∷ more) = Allows front item × Keeps Allows (front ++ item ∷ []) more

-- the rule of a line at the items alone
abbrev pub on_item : {I Z : Type 0} → (List I → I ⊎ Z → Type 0) → List I → I → Type 0
on_item Rule front item = Rule front (inl item)

-- behind these items more can follow, and a line that closes the section
pub record Finish {I Z : Type 0} (Rule : List I → I ⊎ Z → Type 0) (front : List I) : Type 0 where
  pub more : List I
  pub close : Z
  pub keeps : Keeps (on_item Rule) front more
  pub closes : Rule (front ++ more) (inr close)

-- the spelling of items and of what closes them
abbrev pub rows_text : {I Z : Type 0} → (I ⊎ Z → List Word) → List I × Z → Text
rows_text line value = map (λ item. line (inl item)) value.0 ++ line (inr value.1) ∷ []

abbrev pub AreRows : {I Z : Type 0} → (List I → I ⊎ Z → Type 0) → List I × Z → Type 0
AreRows Rule value = Keeps (on_item Rule) [] value.0 × Rule value.0 (inr value.1)

-- ---- items that a word alone closes

abbrev pub item_or : {I : Type 0} → Word → (I → List Word) → I ⊎ Unit {0} → List Word
item_or word line (inl item) = line item
item_or word line (inr z) = word ∷ []

abbrev pub allows_or : {I : Type 0} → (List I → Bool) → (List I → I → Type 0) → List I → I ⊎ Unit {0} → Type 0
allows_or may_close Allows front (inl item) = Allows front item
allows_or may_close Allows front (inr z) = IsTrue (may_close front)

-- the spelling of the items, and the word that closes them
abbrev pub closed_text : {I : Type 0} → Word → (I → List Word) → List I → Text
closed_text word line items = map line items ++ (word ∷ []) ∷ []

-- each item keeps its rule, and they may be closed
abbrev pub AreClosed : {I : Type 0} → (List I → Bool) → (List I → I → Type 0) → List I → Type 0
AreClosed may_close Allows items = Keeps Allows [] items × IsTrue (may_close items)

-- behind these items more can follow, so that all may be closed
pub record Closes {I : Type 0} (may_close : List I → Bool) (Allows : List I → I → Type 0) (front : List I) : Type 0 where
  pub more : List I
  pub keeps : Keeps Allows front more
  pub closes : IsTrue (may_close (front ++ more))
