-- Sections of a text: what spells a value, and which line of a text is refused.
use Rattle.std.specs.Prelude.{◌≡◌, ℕ, List, [], ◌∷◌, ◌++◌, map, Bool, false, IsTrue, ◌⊎◌}
use Rattle.vp_text.specs.Lines.{Word, WordLine, Feed}

-- the words of some lines, line by line
abbrev pub Text : Type 0
Text = List (List Word)

-- the values that a test lets pass
abbrev pub Passes : {A : Type 0} → (A → Bool) → A → Type 0
Passes test value = IsTrue (test value)

-- the values that a test lets pass behind another one
abbrev pub PassesBehind : {A B : Type 0} → (A → B → Bool) → A → B → Type 0
PassesBehind test first second = IsTrue (test first second)

abbrev pub text_of : List WordLine → Text
text_of lines = map (λ line. line.words) lines

-- the number of the last of these lines, or another where there is none
abbrev pub last_of : List WordLine → ℕ → ℕ
last_of [] other = other
last_of (line ∷ more) other = last_of more line.line

-- the value's spelling stands at the front, and these lines are left behind it
pub record Starts {A : Type 0} (spell : A → Text) (before : Feed) (value : A) (left : Feed) : Type 0 where
  pub front : List WordLine
  pub lines : before.lines ≡ front ++ left.lines
  pub spelled : text_of front ≡ spell value
  pub past : left.past ≡ before.past
  pub last : left.last ≡ last_of front before.last

-- the spelling of some valid value begins with these lines
pub record Begins {A : Type 0} (spell : A → Text) (Valid : A → Type 0) (text : Text) : Type 0 where
  pub value : A
  pub valid : Valid value
  pub more : Text
  pub spelled : spell value ≡ text ++ more

-- the spelling of some valid value begins with these lines, and more lines follow in it
pub record Lacks {A : Type 0} (spell : A → Text) (Valid : A → Type 0) (text : Text) : Type 0 where
  pub value : A
  pub valid : Valid value
  pub next : List Word
  pub more : Text
  pub spelled : spell value ≡ text ++ next ∷ more

-- this line is the first with which the lines so far begin no spelling, and more lines were wanted there
pub record Breaks {A : Type 0} (spell : A → Text) (Valid : A → Type 0) (feed : Feed) (refused : ℕ) : Type 0 where
  pub front : List WordLine
  pub line : WordLine
  pub rest : List WordLine
  pub lines : feed.lines ≡ front ++ line ∷ rest
  pub number : refused ≡ line.line
  pub wanted : Lacks spell Valid (text_of front)
  pub broken : Begins spell Valid (text_of front ++ line.words ∷ []) → ⊥

-- the input ends where more lines were wanted: refused is the line past its end
pub record Ends {A : Type 0} (spell : A → Text) (Valid : A → Type 0) (feed : Feed) (refused : ℕ) : Type 0 where
  pub number : refused ≡ feed.past.line
  pub wanted : Lacks spell Valid (text_of feed.lines)

-- the line that a section is refused at
abbrev pub Refuses : {A : Type 0} → (A → Text) → (A → Type 0) → Feed → ℕ → Type 0
Refuses spell Valid feed refused = Breaks spell Valid feed refused ⊎ Ends spell Valid feed refused

-- ---- where a reader stands

-- some lines were read from the front, and these are left
pub record Leaves (before left : Feed) : Type 0 where
  pub front : List WordLine
  pub lines : before.lines ≡ front ++ left.lines
  pub past : left.past.line ≡ before.past.line
  pub last : left.last ≡ last_of front before.last

-- the refused line was given last, or it is the one past the end and no line is left
abbrev pub IsAt : ℕ → Feed → Type 0
IsAt refused left = (refused ≡ left.last) ⊎ ((refused ≡ left.past.line) × (left.lines ≡ []))

-- A reader that refused a line stands behind that line, or at the end of the text where the input ended too early.
pub record StandsBehind (before : Feed) (refused : ℕ) (left : Feed) : Type 0 where
  pub read : Leaves before left
  pub at : IsAt refused left

-- ---- a section, and then one that depends on its value

abbrev pub both_text : {A B : Type 0} → (A → Text) → (A → B → Text) → A × B → Text
both_text first second value = first value.0 ++ second value.0 value.1

abbrev pub AreBoth : {A B : Type 0} → (A → Type 0) → (A → B → Type 0) → A × B → Type 0
AreBoth First Second value = First value.0 × Second value.0 value.1

-- ---- the whole input

-- the lines of the input are the value's spelling, and nothing else
abbrev pub IsWhole : {A : Type 0} → (A → Text) → Feed → A → Type 0
IsWhole spell feed value = text_of feed.lines ≡ spell value

-- there is a line with which the lines so far begin no spelling, and this is the first
pub record FirstBreak {A : Type 0} (spell : A → Text) (Valid : A → Type 0) (feed : Feed) (refused : ℕ) : Type 0 where
  pub front : List WordLine
  pub line : WordLine
  pub rest : List WordLine
  pub lines : feed.lines ≡ front ++ line ∷ rest
  pub number : refused ≡ line.line
  pub begun : Begins spell Valid (text_of front)
  pub broken : Begins spell Valid (text_of front ++ line.words ∷ []) → ⊥

-- all lines begin a spelling, they are none, and this is one more than the number of lines of the input
pub record TooShort {A : Type 0} (spell : A → Text) (Valid : A → Type 0) (feed : Feed) (refused : ℕ) : Type 0 where
  pub number : refused ≡ feed.past.line
  pub begun : Begins spell Valid (text_of feed.lines)
  pub none : (value : A) → Valid value → IsWhole spell feed value → ⊥

-- the refused line of an input that is no valid value's spelling
abbrev pub RefusedLine : {A : Type 0} → (A → Text) → (A → Type 0) → Feed → ℕ → Type 0
RefusedLine spell Valid feed refused = FirstBreak spell Valid feed refused ⊎ TooShort spell Valid feed refused

-- ---- a section that has to fit before the next is read

-- A valid value's spelling stands at the front and the value does not fit: refused is the last line of the spelling.
pub record Misfit {A : Type 0} (spell : A → Text) (Valid : A → Type 0) (fits : A → Bool) (feed : Feed) (refused : ℕ) : Type 0 where
  pub value : A
  pub left : Feed
  pub valid : Valid value
  pub front : Starts spell feed value left
  pub misfit : fits value ≡ false
  pub number : refused ≡ left.last

-- the refused line of an input of two sections, the first of which has to fit: a misfit comes first
abbrev pub RefusedInput : {A B : Type 0} → (A → Text) → (A → Type 0) → (A → Bool) → (A → B → Text) → (A → B → Type 0) → Feed → ℕ → Type 0
RefusedInput spell Valid fits spell2 Valid2 feed refused =
    Misfit spell Valid fits feed refused
    ⊎ (((other : ℕ) → Misfit spell Valid fits feed other → ⊥) × RefusedLine (both_text spell spell2) (AreBoth Valid Valid2) feed refused)

-- an input of two valid sections, the first of which fits, and nothing else
abbrev pub AcceptedInput : {A B : Type 0} → (A → Text) → (A → Type 0) → (A → Bool) → (A → B → Text) → (A → B → Type 0) → Feed → A × B → Type 0
AcceptedInput spell Valid fits spell2 Valid2 feed value =
    AreBoth Valid Valid2 value × IsTrue (fits value.0) × IsWhole (both_text spell spell2) feed value
