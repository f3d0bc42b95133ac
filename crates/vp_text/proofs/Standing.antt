-- Where a reader stands: what one line more, and one reader after the other, leave.
use Rattle.std.proofs.Common.{◌≡◌, List, [], ◌∷◌, ◌++◌, Result, Ok, Err, IfErr, refl, sym, ap, subst, ◌∙◌}
use Rattle.std.proofs.lemmas.List.{append_assoc}
use Rattle.vp_text.specs.Lines.{WordLine, Feed, at_end}
use Rattle.vp_text.specs.Sections.{last_of, Leaves, IsAt, StandsBehind}
use Rattle.vp_text.specs.declared.refused.Refused.{Refused}
use Rattle.vp_text.proofs.Spelled.{last_of-append}

-- ---- which lines were read

-- none
pub leaves_all : (before left : Feed) → left ≡ at_end before → Leaves before left
leaves_all before left e =
    subst (λ (f : Feed). Leaves before f) (sym e) (record { front = []; lines = refl; past = refl; last = refl })

-- one
pub leaves_line : (before left : Feed) (line : WordLine) → before.lines ≡ line ∷ left.lines → left.last ≡ line.line → left.past.line ≡ before.past.line → Leaves before left
leaves_line before left line lines last past = record { front = line ∷ []; lines = lines; past = past; last = last }

-- some, and then some more
pub leaves_then : (before mid left : Feed) → Leaves before mid → Leaves mid left → Leaves before left
leaves_then before mid left one two = record {
  front = one.front ++ two.front;
  lines = one.lines ∙ ap (λ (ls : List WordLine). one.front ++ ls) two.lines ∙ sym (append_assoc one.front two.front left.lines);
  past = two.past ∙ one.past;
  last = two.last ∙ ap (last_of two.front) one.last ∙ sym (last_of-append one.front two.front before.last);
}

-- some, and then one more
pub leaves_next : (before mid left : Feed) (line : WordLine) → Leaves before mid → mid.lines ≡ line ∷ left.lines → left.last ≡ line.line → left.past.line ≡ mid.past.line → Leaves before left
leaves_next before mid left line read lines last past = leaves_then before mid left read (leaves_line mid left line lines last past)

-- ---- where a refused line leaves the reader

-- the clause of a reader that may refuse a line
pub stands_refused : {X : Type 0} (result : Result X Refused) (before left : Feed) → Leaves before left → IfErr result (λ e. IsAt e.line left) → IfErr result (λ e. StandsBehind before e.line left)
stands_refused (Ok x) before left read at = tt
stands_refused (Err e) before left read at = record { read = read; at = at }
