-- Class lines with the numbers of their lines in the text.
use Rattle.std.specs.Prelude.{ℕ, List, [], ◌∷◌, map, Option, Some, None}
use Rattle.vp_text.specs.Lines.{WordLine}
use Rattle.vp_check.specs.Reading.{class_of}
use Rattle.vp_check.specs.declared.class_line.ClassLine.{ClassLine}
use Rattle.vp_check.specs.declared.numbered.Numbered.{Numbered}

-- a class line in front of more, where there is one; else nothing
abbrev pub in_front : ℕ → Option ClassLine → List Numbered → List Numbered
in_front line None more = []
in_front line (Some class) more = record { line = line; class = class } ∷ more

-- the class lines at the front of these lines, up to the first line that is none
abbrev pub numbered_classes : ℕ → List WordLine → List Numbered
numbered_classes n [] = []
numbered_classes n (line ∷ more) = in_front line.line (class_of n line.words) (numbered_classes n more)

-- the class lines without the numbers of their lines
abbrev pub classes_of : List Numbered → List ClassLine
classes_of numbered = map (λ row. row.class) numbered
