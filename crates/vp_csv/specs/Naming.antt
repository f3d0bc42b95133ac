-- What the names of records are, whatever the order in which these are read.
use Rattle.std.specs.Prelude.{◌≡◌, Bool, true, false, not, ◌&&◌, ◌||◌, List, [], ◌∷◌, bytes_eq}
use Rattle.std.specs.List.{AllByRecursion}
use Rattle.vp_text.specs.Lines.{Word}
use Rattle.vp_csv.specs.Records.{Record}
use Rattle.vp_csv.specs.Rules.{knows, name_of}

-- an item that passes the first test stands before every item that passes the second
abbrev pub earlier : {A : Type 0} → (A → Bool) → (A → Bool) → List A → Bool
earlier first second [] = false
earlier first second (item ∷ items) = not (second item) && (first item || earlier first second items)

-- no name stands twice
abbrev pub AllDiffer : List Word → Type 0
AllDiffer [] = Unit {0}
AllDiffer (name ∷ names) = (knows name names ≡ false) × AllDiffer names

-- each name stands once; the name of each record is among them; and of two names the one whose first record comes earlier stands first
pub record AreNames (rs : List Record) (names : List Word) : Type 0 where
  pub once : AllDiffer names
  pub all : AllByRecursion (λ r. knows (name_of r) names ≡ true) rs
  pub order : (a b : Word) → earlier (λ (r : Record). bytes_eq (name_of r) a) (λ (r : Record). bytes_eq (name_of r) b) rs ≡ true
      → earlier (λ (name : Word). bytes_eq name a) (λ (name : Word). bytes_eq name b) names ≡ true
