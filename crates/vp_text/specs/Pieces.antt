-- Words that are read from the front of a line, piece by piece.
use Rattle.std.specs.Prelude.{◌≡◌, ◌≤◌, ℕ, zero, suc, ◌-◌, nat_lt, length, Bool, true, false, List, [], ◌∷◌, ◌++◌, Option, Some, None, option_map, bytes_eq, if◌then◌else◌}
use Rattle.std.specs.List.{AllByRecursion}
use Rattle.vp_text.specs.Lines.{Word}

-- a piece is read from the front of the words, and leaves the words behind it
abbrev pub Piece : Type 0 → Type 0
Piece A = List Word → Option (A × List Word)

infixl 10 ◌>>=◌
abbrev pub ◌>>=◌ : {A B : Type 0} → Option A → (A → Option B) → Option B
(Some x) >>= f = f x
None >>= f = None

-- the words of a value are read as this value wherever such words follow, and no other words are read
pub record ExactPiece {A : Type 0} (spell : A → List Word) (Valid : A → Type 0) (May : List Word → Bool) (read : Piece A) : Type 0 where
  pub takes : (words rest : List Word) (value : A) → read words ≡ Some (value, rest) → Valid value × (words ≡ spell value ++ rest)
  pub again : (rest : List Word) (value : A) → Valid value → May rest ≡ true → read (spell value ++ rest) ≡ Some (value, rest)

-- a value of one word
abbrev pub one_word : {A : Type 0} → (Word → Option A) → Piece A
one_word read [] = None
one_word read (word ∷ rest) = option_map (λ value. (value, rest)) (read word)

-- so many words of one kind
abbrev pub so_many : {A : Type 0} → (Word → Option A) → ℕ → Piece (List A)
so_many read zero words = Some ([], words)
so_many read (suc n) words = do
  value ← one_word read words
  more ← so_many read n value.1
  Some (value.0 ∷ more.0, more.1)

-- so many valid values
pub record AreMany {A : Type 0} (Valid : A → Type 0) (n : ℕ) (values : List A) : Type 0 where
  pub count : length values ≡ n
  pub all : AllByRecursion Valid values

-- this word
abbrev pub key_word : Word → Piece (Unit {0})
key_word key [] = None
key_word key (word ∷ rest) = if bytes_eq word key then Some (tt, rest) else None

-- no word is left
abbrev pub none_left : List Word → Bool
none_left [] = true
none_left (word ∷ rest) = false

-- a value, and no word behind it
abbrev pub ended : {A : Type 0} → A → List Word → Option A
ended value words = if none_left words then Some value else None

-- ---- at most so many values

-- values of one word each, behind these, up to this word: at most so many in all
abbrev pub up_to : {A : Type 0} → (Word → Option A) → ℕ → Word → List A → Piece (List A)
up_to read most key values [] = None
up_to read most key values (word ∷ rest) =
    if bytes_eq word key then Some (values, rest) else (if nat_lt (length values) most then (do
      value ← read word
      up_to read most key (values ++ value ∷ []) rest) else None)

-- a value that is told by its first word, and read from the words behind it
abbrev pub by_first : {A : Type 0} → (Word → Piece A) → Piece A
by_first behind [] = None
by_first behind (word ∷ rest) = behind word rest

-- at most so many values up to the end of the line, each told by its first word
abbrev pub up_to_end : {A : Type 0} → ℕ → (Word → Piece A) → List Word → Option (List A)
up_to_end n behind [] = Some []
up_to_end zero behind (word ∷ rest) = None
up_to_end (suc n) behind (word ∷ rest) = do
  value ← behind word rest
  more ← up_to_end n behind value.1
  Some (value.0 ∷ more)

-- the same, behind values that were read
abbrev pub ahead : {A : Type 0} → ℕ → (Word → Piece A) → List A → List Word → Option (List A)
ahead most behind front words = option_map (λ more. front ++ more) (up_to_end (most - length front) behind words)

-- at most so many valid values
pub record AreUpTo {A : Type 0} (Valid : A → Type 0) (most : ℕ) (values : List A) : Type 0 where
  pub count : length values ≤ most
  pub all : AllByRecursion Valid values

-- what a function of the program returned is what reading gives: the value (seen so) and the words that are left
abbrev pub Takes : {X Y : Type 0} → (X → Y) → Option X → List Word → Option (Y × List Word) → Type 0
Takes see None left reading = reading ≡ None
Takes see (Some x) left reading = reading ≡ Some (see x, left)
