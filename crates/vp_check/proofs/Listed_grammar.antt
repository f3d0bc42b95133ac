-- Class lines of which none is kept are the class lines that are read.
use Rattle.std.proofs.Common.{◌≡◌, ℕ, Bool, true, false, cond, if◌then◌else◌, nat_lt, List, [], ◌∷◌, ◌++◌, map, length, refl, sym, ap, subst, ◌∙◌, arith, Some, None, inl, inr, ◌⊎◌, length-append, append_assoc}
use Rattle.std.specs.Prelude.{Option, option_map, Result, Ok, Err, codes}
use Rattle.std.proofs.lemmas.List.{append-nil}
use Rattle.std.proofs.lemmas.Slice.Eq.{bytes_eq-Decides}
use Rattle.vp_text.specs.Lines.{Word, WordLine, Feed, Past}
use Rattle.vp_text.specs.Pieces as pieces
use Rattle.vp_text.specs.Reading.{behind, next_is, by_row, rows_at, ◌>>=◌}
use Rattle.vp_text.proofs.Follows.{Follows}
use Rattle.vp_suit.specs.Classes.{representatives}
use Rattle.vp_check.specs.Listing.{comes_to, counted_at, counted, counted_rows, counted_with, listed_with, none_listed}
use Rattle.vp_check.specs.Reading.{class_of, return_of, row_of, may_follow, class_or_return, class_lines}
use Rattle.vp_check.specs.Rows.{classes_of, in_front, numbered_classes}
use Rattle.vp_check.specs.declared.class_line.ClassLine.{ClassLine}
use Rattle.vp_check.specs.declared.listed.Listed.{Listed}
use Rattle.vp_check.specs.declared.numbered.Numbered.{Numbered}
use Rattle.vp_check.specs.declared.reading.Counted.{Counted}

abbrev pub lines_of : List Numbered → List ℕ
lines_of rows = map (λ (row : Numbered). row.line) rows

abbrev pub numbers_of : List WordLine → List ℕ
numbers_of lines = map (λ (line : WordLine). line.line) lines

-- ---- one line

as_class : ClassLine → ClassLine ⊎ (ℕ × ℕ)
as_class line = inl line

as_return : ℕ × ℕ → ClassLine ⊎ (ℕ × ℕ)
as_return r = inr r

return_is_no_class : (n : ℕ) (words : List Word) → next_is (codes "return") words ≡ true → class_of n words ≡ None
unfolding class_of
return_is_no_class n [] is = absurd cc
return_is_no_class n (word ∷ words) is =
    let same : word ≡ codes "return" = (bytes_eq-Decides word (codes "return")).0 is in
    rw same

class_row : (n : ℕ) (words : List Word) (class : ClassLine) → row_of n words ≡ Some (inl class) → class_of n words ≡ Some class
unfolding row_of as_class as_return
class_row n words class is = by_key (next_is (codes "return") words) (return_of words) (class_of n words) refl is
  where
    by_key : (b : Bool) (r : Option (ℕ × ℕ)) (o : Option ClassLine) → class_of n words ≡ o → cond b (option_map as_return r) (option_map as_class o) ≡ Some (inl class) → class_of n words ≡ Some class
    by_key true None o e h = absurd cc
    by_key true (Some r) o e h = absurd cc
    by_key false r None e h = absurd cc
    by_key false r (Some other) e h = let same : other ≡ class = cc in e ∙ ap (λ (c : ClassLine). Some c) same

return_row : (n : ℕ) (words : List Word) (r : ℕ × ℕ) → row_of n words ≡ Some (inr r) → class_of n words ≡ None
unfolding row_of as_class as_return
return_row n words r is = by_key (next_is (codes "return") words) refl (return_of words) (class_of n words) is
  where
    by_key : (b : Bool) → next_is (codes "return") words ≡ b → (s : Option (ℕ × ℕ)) (o : Option ClassLine) → cond b (option_map as_return s) (option_map as_class o) ≡ Some (inr r) → class_of n words ≡ None
    by_key true key s o h = return_is_no_class n words key
    by_key false key s None h = absurd cc
    by_key false key s (Some other) h = absurd cc

-- ---- all lines

-- class lines and what stands behind them: what they come to behind others, and where they stand
pub record RowsSeen (n : ℕ) (lines : List WordLine) (listed : Listed) (items : List ClassLine) (c : Counted) (value : List ClassLine × (ℕ × ℕ)) (left : Feed) : Type 0 where
  pub seen : value ≡ (items ++ classes_of (numbered_classes n lines), (c.sum, c.denominator))
  pub comes : c.listed ≡ comes_to listed (numbered_classes n lines)
  pub front : List WordLine
  pub at : WordLine
  pub split : lines ≡ front ++ at ∷ left.lines
  pub same : numbers_of front ≡ lines_of (numbered_classes n lines)
  pub return_line : c.return_line ≡ at.line

seen_return : (n : ℕ) (line : WordLine) (lines : List WordLine) (past : Past) (listed : Listed) (items : List ClassLine) (r : ℕ × ℕ) → row_of n line.words ≡ Some (inr r)
    → RowsSeen n (line ∷ lines) listed items (counted_with listed line.line r) (items, r) (behind line lines past)
seen_return n line lines past listed items r is =
    let none : numbered_classes n (line ∷ lines) ≡ [] = ap (λ (o : Option ClassLine). in_front line.line o (numbered_classes n lines)) (return_row n line.words r is) in
    record {
      seen = ap (λ (all : List ClassLine). (all, r)) (sym (append-nil items) ∙ ap (λ (rows : List Numbered). items ++ classes_of rows) (sym none));
      comes = ap (λ (rows : List Numbered). comes_to listed rows) (sym none);
      front = [];
      at = line;
      split = refl;
      same = ap lines_of (sym none);
      return_line = refl;
    }

seen_class : (n : ℕ) (line : WordLine) (lines : List WordLine) (listed : Listed) (items : List ClassLine) (class : ClassLine) (c : Counted) (value : List ClassLine × (ℕ × ℕ)) (left : Feed)
    → row_of n line.words ≡ Some (inl class)
    → RowsSeen n lines (listed_with listed (record { line = line.line; class = class })) (items ++ class ∷ []) c value left → RowsSeen n (line ∷ lines) listed items c value left
seen_class n line lines listed items class c value left is rest =
    let row : Numbered = record { line = line.line; class = class } in
    let rows : numbered_classes n (line ∷ lines) ≡ row ∷ numbered_classes n lines = ap (λ (o : Option ClassLine). in_front line.line o (numbered_classes n lines)) (class_row n line.words class is) in
    let regroup : (items ++ class ∷ []) ++ classes_of (numbered_classes n lines) ≡ items ++ classes_of (numbered_classes n (line ∷ lines)) =
    append_assoc items (class ∷ []) (classes_of (numbered_classes n lines)) ∙ ap (λ (rs : List Numbered). items ++ classes_of rs) (sym rows) in
    record {
      seen = rest.seen ∙ ap (λ (all : List ClassLine). (all, (c.sum, c.denominator))) regroup;
      comes = rest.comes ∙ ap (λ (rs : List Numbered). comes_to listed rs) (sym rows);
      front = line ∷ rest.front;
      at = rest.at;
      split = ap (λ (ls : List WordLine). line ∷ ls) rest.split;
      same = ap (λ (ls : List ℕ). line.line ∷ ls) rest.same ∙ ap lines_of (sym rows);
      return_line = rest.return_line;
    }

-- two readings that are so related are so related
follows_as : {A B : Type 0} (R S : A → B → Feed → Type 0) → ((a : A) (b : B) (left : Feed) → R a b left → S a b left)
    → (first : Result (A × Feed) ℕ) (second : Result (B × Feed) ℕ) → Follows R first second → Follows S first second
follows_as R S related (Ok p) second both = record { value = both.value; read = both.read; related = related p.0 both.value p.1 both.related }
follows_as R S related (Err e) second both = both

-- what a row does to the readings behind it
abbrev counted_row : ℕ → WordLine → List WordLine → Past → Listed → Option (ClassLine ⊎ (ℕ × ℕ)) → Result (Counted × Feed) ℕ
counted_row n line lines past listed o =
    by_row o (Err line.line)
    (λ class. if nat_lt listed.lines (length (representatives n)) then counted_at n lines past (listed_with listed (record { line = line.line; class = class })) else Err line.line)
    (λ r. Ok (counted_with listed line.line r, behind line lines past))

abbrev read_row : ℕ → WordLine → List WordLine → Past → List ClassLine → Option (ClassLine ⊎ (ℕ × ℕ)) → Result ((List ClassLine × (ℕ × ℕ)) × Feed) ℕ
read_row n line lines past items o = by_row o (Err line.line) (λ i. rows_at (class_or_return n) lines past (items ++ i ∷ [])) (λ z. Ok ((items, z), behind line lines past))

one_row : (n : ℕ) (line : WordLine) (lines : List WordLine) (past : Past) (listed : Listed) (items : List ClassLine) → listed.lines ≡ length items
    → ((class : ClassLine) → Follows (RowsSeen n lines (listed_with listed (record { line = line.line; class = class })) (items ++ class ∷ []))
    (counted_at n lines past (listed_with listed (record { line = line.line; class = class }))) (rows_at (class_or_return n) lines past (items ++ class ∷ [])))
    → (o : Option (ClassLine ⊎ (ℕ × ℕ))) → row_of n line.words ≡ o
    → Follows (RowsSeen n (line ∷ lines) listed items) (counted_row n line lines past listed o) (read_row n line lines past items (pieces.◌>>=◌ o (may_follow n items)))
one_row n line lines past listed items many goes_on None is = refl
one_row n line lines past listed items many goes_on (Some (inr r)) is = record { value = (items, r); read = refl; related = seen_return n line lines past listed items r is }
one_row n line lines past listed items many goes_on (Some (inl class)) is =
    subst (λ (k : ℕ). Follows (RowsSeen n (line ∷ lines) listed items) (cond (nat_lt k (length (representatives n))) (counted_at n lines past (listed_with listed (record { line = line.line; class = class }))) (Err line.line))
    (read_row n line lines past items (cond (nat_lt (length items) (length (representatives n))) (Some (inl class)) None)))
    (sym many) (by_room (nat_lt (length items) (length (representatives n))))
  where
    by_room : (b : Bool)
        → Follows (RowsSeen n (line ∷ lines) listed items) (cond b (counted_at n lines past (listed_with listed (record { line = line.line; class = class }))) (Err line.line)) (read_row n line lines past items (cond b (Some (inl class)) None))
    by_room true =
        follows_as (RowsSeen n lines (listed_with listed (record { line = line.line; class = class })) (items ++ class ∷ [])) (RowsSeen n (line ∷ lines) listed items) (λ c value left. seen_class n line lines listed items class c value left is)
        (counted_at n lines past (listed_with listed (record { line = line.line; class = class }))) (rows_at (class_or_return n) lines past (items ++ class ∷ [])) (goes_on class)
    by_room false = refl

one_longer : (listed : Listed) (row : Numbered) (items : List ClassLine) → listed.lines ≡ length items → (listed_with listed row).lines ≡ length (items ++ row.class ∷ [])
unfolding listed_with
one_longer listed row items is = omega (arith, is, length-append items (row.class ∷ []))

pub rows_follow_behind : (n : ℕ) (lines : List WordLine) (past : Past) (listed : Listed) (items : List ClassLine) → listed.lines ≡ length items
    → Follows (RowsSeen n lines listed items) (counted_at n lines past listed) (rows_at (class_or_return n) lines past items)
unfolding class_or_return
rows_follow_behind n [] past listed items many = refl
rows_follow_behind n (line ∷ lines) past listed items many =
    one_row n line lines past listed items many
    (λ class. rows_follow_behind n lines past (listed_with listed (record { line = line.line; class = class })) (items ++ class ∷ []) (one_longer listed (record { line = line.line; class = class }) items many))
    (row_of n line.words) refl

-- the class lines, what they come to, and where they stand
pub record ListedSeen (n : ℕ) (lines : List WordLine) (read : List Numbered × Counted) (value : List ClassLine × (ℕ × ℕ)) (left : Feed) : Type 0 where
  pub seen : value ≡ (classes_of read.0, (read.1.sum, read.1.denominator))
  pub comes : read.1.listed ≡ comes_to none_listed read.0
  pub front : List WordLine
  pub at : WordLine
  pub split : lines ≡ front ++ at ∷ left.lines
  pub same : numbers_of front ≡ lines_of read.0
  pub return_line : read.1.return_line ≡ at.line

pub rows_follow : (n : ℕ) (feed : Feed) → Follows (ListedSeen n feed.lines) (counted_rows n feed) (class_lines n feed)
unfolding counted
rows_follow n feed = by_count (counted_at n feed.lines feed.past none_listed) (rows_at (class_or_return n) feed.lines feed.past []) (rows_follow_behind n feed.lines feed.past none_listed [] refl)
  where
    by_count : (first : Result (Counted × Feed) ℕ) (second : Result ((List ClassLine × (ℕ × ℕ)) × Feed) ℕ) → Follows (RowsSeen n feed.lines none_listed []) first second
        → Follows (ListedSeen n feed.lines) (first >>= (λ c. Ok ((numbered_classes n feed.lines, c.0), c.1))) second
    by_count (Ok p) second both = record {
      value = both.value;
      read = both.read;
      related = record {
        seen = both.related.seen;
        comes = both.related.comes;
        front = both.related.front;
        at = both.related.at;
        split = both.related.split;
        same = both.related.same;
        return_line = both.related.return_line;
      };
    }
    by_count (Err e) second both = both
