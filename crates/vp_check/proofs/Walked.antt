-- The walk over some class lines, and the broken rules of all lines: together they are the first broken rule of the class lines.
use Rattle.std.proofs.Common.{◌≡◌, ℕ, ◌+◌, ◌*◌, ◌^◌, ◌<◌, ◌≤◌, Bool, true, false, cond, ◌&&◌, nat_le, nat_lt, Option, Some, None, Result, Ok, Err, List, [], ◌∷◌, length, map, refl, ap, sym, subst, ◌∙◌, arith, if◌then◌else◌, inl, inr}
use Rattle.std.specs.Prelude.{option_map}
use Rattle.std.specs.List.{All, sum_by, count_by}
use Rattle.std.specs.Option.{IfSome, IsSomeAnd}
use Rattle.std.proofs.Math.Nat.{mul-le-mul_right}
use Rattle.std.proofs.lemmas.Bool.Decides.{nat_tests}
use Rattle.std.proofs.lemmas.Bool.{cases_lt, lt-ltb}
use Rattle.std.proofs.lemmas.List.Elements.{All-head, All-tail}
use Rattle.std.proofs.lemmas.List.Sums.{sum_by-cons}
use Rattle.vp_text.specs.Lines.{Feed}
use Rattle.vp_text.proofs.Pieces.{no_value}
use Rattle.vp_card.specs.Cards.{in_deck}
use Rattle.vp_pay.specs.declared.table.PayTable.{PayTable}
use Rattle.vp_sets.specs.Index.{set_index}
use Rattle.vp_suit.proofs.TurnedDraws.{dealt_is}
use Rattle.vp_check.specs.Certificates.{Certificate, IsClassLine}
use Rattle.vp_check.specs.Checking.{bad_at, line_number}
use Rattle.vp_check.specs.Listing.{broken_at, comes_to, listed_with}
use Rattle.vp_check.specs.Read.{AreAt}
use Rattle.vp_check.specs.Rows.{classes_of}
use Rattle.vp_check.specs.Rules.{Row, Break, at, first_of, in_range, rows_from, listed_breach, walked_breach, class_breach}
use Rattle.vp_check.specs.Walks.{found_or, walk_end, walked_at}
use Rattle.vp_check.specs.declared.class_line.ClassLine.{ClassLine}
use Rattle.vp_check.specs.declared.listed.Broken.{Broken}
use Rattle.vp_check.specs.declared.listed.Listed.{Listed}
use Rattle.vp_check.specs.declared.numbered.Numbered.{Numbered}
use Rattle.vp_check.specs.declared.rules.Breach.{Breach}
use Rattle.vp_check.specs.declared.finding.Finding.{Finding}
use Rattle.vp_check.specs.declared.finding.Finding.TheVariants.{Bad}
use Rattle.vp_check.proofs.KeptRules.{break_at}

-- ---- class lines that are read one by one

pub next_line : (n : ℕ) (rows more : List Numbered) (row : Numbered) → rows ≡ row ∷ more → All (IsClassLine n) (classes_of rows) → IsClassLine n row.class
next_line n rows more row is all =
    All-head (IsClassLine n) row.class (classes_of more) (subst (λ (rs : List Numbered). All (IsClassLine n) (classes_of rs)) is all)

pub later_lines : (n : ℕ) (rows more : List Numbered) (row : Numbered) → rows ≡ row ∷ more → All (IsClassLine n) (classes_of rows) → All (IsClassLine n) (classes_of more)
later_lines n rows more row is all =
    All-tail (IsClassLine n) row.class (classes_of more) (subst (λ (rs : List Numbered). All (IsClassLine n) (classes_of rs)) is all)

-- a row that is asked where it is in the range, and what comes later
pub walk_next : (table : PayTable) (coin from end place walked n : ℕ) (rows more : List Numbered) (row : Numbered) → rows ≡ row ∷ more → place < end → n ≡ cond (nat_le from place) 1 0
    → found_or (cond (nat_le from place) (walked_breach table coin row.class) None) row.line (walked_at table coin from end (place + 1) more (walked + n)) ≡ walked_at table coin from end place rows walked
walk_next table coin from end place walked n rows more row is before many =
    ap (λ k. found_or (cond (nat_le from place) (walked_breach table coin row.class) None) row.line (walked_at table coin from end (place + 1) more (walked + k))) many
    ∙ (ap (λ b. cond b (found_or (cond (nat_le from place) (walked_breach table coin row.class) None) row.line (walked_at table coin from end (place + 1) more (walked + cond (nat_le from place) 1 0))) (Ok walked)) (sym (lt-ltb place end before))
    ∙ ap (λ (rs : List Numbered). walked_at table coin from end place rs walked) (sym is))

pub one_asked : (b : Bool) (n walked place : ℕ) → n ≡ cond b 1 0 → walked < place → walked + n < place + 1
one_asked true n walked place is few = omega arith
one_asked false n walked place is few = omega arith

-- ---- what class lines come to

pub comes_lines : (p : Listed) (rows : List Numbered) → (comes_to p rows).lines ≡ p.lines + length rows
unfolding listed_with
comes_lines p [] = omega arith
comes_lines p (row ∷ rows) = omega (arith, comes_lines (listed_with p row) rows)

pub comes_weights : (p : Listed) (rows : List Numbered) → (comes_to p rows).weights ≡ p.weights + sum_by (λ line. line.weight) (classes_of rows)
unfolding listed_with
comes_weights p [] = omega arith
comes_weights p (row ∷ rows) =
    let first = sum_by-cons (λ (line : ClassLine). line.weight) row.class (classes_of rows) in
    omega (arith, first, comes_weights (listed_with p row) rows)

pub comes_values : (p : Listed) (rows : List Numbered) → (comes_to p rows).values ≡ p.values + sum_by (λ line. line.weight * line.value) (classes_of rows)
unfolding listed_with
comes_values p [] = omega arith
comes_values p (row ∷ rows) =
    let first = sum_by-cons (λ (line : ClassLine). line.weight * line.value) row.class (classes_of rows) in
    omega (arith, first, comes_values (listed_with p row) rows)

-- the first broken rule of cards and weights, of rows from a place on, behind one with this index
unfoldable pub broken_from : ℕ → Option ℕ → List Numbered → Option Broken
broken_from place before [] = None
broken_from place before (row ∷ rows) = first_of (broken_at place before row ∷ broken_from (place + 1) (Some (set_index row.class.hand)) rows ∷ [])

first_again : {A : Type 0} (a b c : Option A) → first_of (first_of (a ∷ b ∷ []) ∷ c ∷ []) ≡ first_of (a ∷ first_of (b ∷ c ∷ []) ∷ [])
first_again None None None = refl
first_again None None (Some c) = refl
first_again None (Some b) c = refl
first_again (Some a) b c = refl

first_alone : {A : Type 0} (a : Option A) → first_of (a ∷ None ∷ []) ≡ a
first_alone None = refl
first_alone (Some a) = refl

pub comes_broken : (p : Listed) (rows : List Numbered) → (comes_to p rows).broken ≡ first_of (p.broken ∷ broken_from (p.lines + 1) p.last rows ∷ [])
unfolding listed_with broken_from
comes_broken p [] = sym (first_alone p.broken)
comes_broken p (row ∷ rows) =
    comes_broken (listed_with p row) rows
    ∙ first_again p.broken (broken_at (p.lines + 1) p.last row) (broken_from (p.lines + 1 + 1) (Some (set_index row.class.hand)) rows)

-- ---- where a line is broken

abbrev pub break_of : Broken → Break
break_of b = record { place = b.place; breach = b.breach }

-- a broken rule stands at one of the places, on the line of this place
abbrev pub StandsAt : Certificate → Feed → ℕ → Broken → Type 0
StandsAt c feed place b = (place ≤ b.place) × (b.line ≡ line_number c feed b.place)

pub broken_stands : (c : Certificate) (feed : Feed) (place : ℕ) (before : Option ℕ) (rows : List Numbered) → AreAt c feed place rows → IfSome (broken_from place before rows) (StandsAt c feed place)
unfolding broken_from
broken_stands c feed place before [] are = tt
broken_stands c feed place before (row ∷ rows) are =
    here (listed_breach before row.class) (broken_from (place + 1) (Some (set_index row.class.hand)) rows) (broken_stands c feed (place + 1) (Some (set_index row.class.hand)) rows are.1)
  where
    later : (o : Option Broken) → IfSome o (StandsAt c feed (place + 1)) → IfSome o (StandsAt c feed place)
    later None is = tt
    later (Some b) is = (omega (arith, is.0), is.1)

    here : (o : Option Breach) (rest : Option Broken) → IfSome rest (StandsAt c feed (place + 1))
        → IfSome (first_of (option_map (λ breach. record { place = place; line = row.line; breach = breach }) o ∷ rest ∷ [])) (StandsAt c feed place)
    here (Some b) rest is = (omega arith, are.0)
    here None None is = tt
    here None (Some b) is = later (Some b) is

-- ---- the first broken rule, from a place on

pub first_single : {A : Type 0} (a : Option A) → first_of (a ∷ []) ≡ a
first_single None = refl
first_single (Some a) = refl

first_rest : {A : Type 0} (a : Option A) (rest : List (Option A)) → first_of (a ∷ rest) ≡ first_of (a ∷ first_of rest ∷ [])
first_rest None rest = sym (first_single (first_of rest))
first_rest (Some a) rest = refl

first_mapped : {A B : Type 0} (f : A → B) (a b : Option A) → first_of (option_map f a ∷ option_map f b ∷ []) ≡ option_map f (first_of (a ∷ b ∷ []))
first_mapped f None None = refl
first_mapped f None (Some b) = refl
first_mapped f (Some a) b = refl

module _ (table : PayTable) (coin from count : ℕ) where
  -- the first broken rule of class lines from a place on, behind one with this index
  unfoldable pub break_from : ℕ → Option ℕ → List Numbered → Option Break
  break_from place before rows = first_of (map (λ row. break_at table coin from count row) (rows_from place before (classes_of rows)))

  -- how many of them are walked
  unfoldable pub walked_from : ℕ → Option ℕ → List Numbered → ℕ
  walked_from place before rows = count_by (λ row. in_range from count row.place) (rows_from place before (classes_of rows))

  row_at : ℕ → Option ℕ → Numbered → Row
  row_at place before row = record { place = place; before = before; line = row.class }

  break_next : (place : ℕ) (before : Option ℕ) (row : Numbered) (rows : List Numbered)
      → break_from place before (row ∷ rows) ≡ first_of (break_at table coin from count (row_at place before row) ∷ break_from (place + 1) (Some (set_index row.class.hand)) rows ∷ [])
  unfolding break_from row_at
  break_next place before row rows =
      first_rest (break_at table coin from count (row_at place before row)) (map (λ row. break_at table coin from count row) (rows_from (place + 1) (Some (set_index row.class.hand)) (classes_of rows)))

  walked_next : (place : ℕ) (before : Option ℕ) (row : Numbered) (rows : List Numbered)
      → walked_from place before (row ∷ rows) ≡ cond (in_range from count place) 1 0 + walked_from (place + 1) (Some (set_index row.class.hand)) rows
  unfolding walked_from row_at
  walked_next place before row rows =
      sum_by-cons (λ (r : Row). if in_range from count r.place then 1 else 0) (row_at place before row) (rows_from (place + 1) (Some (set_index row.class.hand)) (classes_of rows))

  -- what a line breaks by its cards and weight, and then by its value and mask
  break_by : (place : ℕ) (before : Option ℕ) (row : Numbered) (listed walked : Option Breach) (asked : Bool) → listed_breach before row.class ≡ listed → walked_breach table coin row.class ≡ walked
      → in_range from count place ≡ asked → break_at table coin from count (row_at place before row) ≡ at place (first_of (listed ∷ cond asked walked None ∷ []))
  unfolding break_at row_at class_breach
  break_by place before row listed walked asked is_listed is_walked is_asked =
      ap (λ (o : Option Breach). at place (first_of (o ∷ cond (in_range from count place) (walked_breach table coin row.class) None ∷ []))) is_listed
      ∙ (ap (λ (o : Option Breach). at place (first_of (listed ∷ cond (in_range from count place) o None ∷ []))) is_walked
      ∙ ap (λ (b : Bool). at place (first_of (listed ∷ cond b walked None ∷ []))) is_asked)

  -- a line that is not walked breaks what its cards and weight break
  unasked : (place : ℕ) (before : Option ℕ) (row : Numbered) → in_range from count place ≡ false → break_at table coin from count (row_at place before row) ≡ option_map break_of (broken_at place before row)
  unasked place before row out = break_by place before row (listed_breach before row.class) (walked_breach table coin row.class) false refl refl out ∙ by_listed (listed_breach before row.class)
    where
      by_listed : (o : Option Breach) → at place (first_of (o ∷ None ∷ [])) ≡ option_map break_of (option_map (λ breach. record { place = place; line = row.line; breach = breach }) o)
      by_listed None = refl
      by_listed (Some b) = refl

  -- behind the last walked place
  past_end : (place : ℕ) (before : Option ℕ) (rows : List Numbered) → from + count ≤ place
      → (break_from place before rows ≡ option_map break_of (broken_from place before rows)) × (walked_from place before rows ≡ 0)
  unfolding broken_from break_from walked_from
  past_end place before [] past = (refl, refl)
  past_end place before (row ∷ rows) past =
      let out : in_range from count place ≡ false = grind (arith, nat_tests) in
      let rest = past_end (place + 1) (Some (set_index row.class.hand)) rows (omega arith) in
      let none : cond {A = ℕ} (in_range from count place) 1 0 ≡ 0 = ap (λ b. cond {A = ℕ} b 1 0) out in (
        break_next place before row rows
            ∙ (ap (λ (o : Option Break). first_of (o ∷ break_from (place + 1) (Some (set_index row.class.hand)) rows ∷ [])) (unasked place before row out)
            ∙ (ap (λ (o : Option Break). first_of (option_map break_of (broken_at place before row) ∷ o ∷ [])) rest.0
            ∙ first_mapped break_of (broken_at place before row) (broken_from (place + 1) (Some (set_index row.class.hand)) rows))),
        omega (arith, walked_next place before row rows, rest.1),
      )

-- ---- what a walk tells

-- What a walk from a place on tells, where so many lines were walked before. A finding is the first broken rule. Where there is none, the first broken
-- rule is that of the cards and weights; and where these break none either, all lines of the range were walked.
abbrev pub WalkTells : PayTable → ℕ → ℕ → ℕ → Certificate → Feed → ℕ → Option ℕ → List Numbered → ℕ → Result ℕ Finding → Type 0
WalkTells table coin from count c feed place before rows walked (Err finding) = IsSomeAnd (break_from table coin from count place before rows) (λ b. finding ≡ bad_at c feed b)
WalkTells table coin from count c feed place before rows walked (Ok all) =
    (break_from table coin from count place before rows ≡ option_map break_of (broken_from place before rows))
    × (broken_from place before rows ≡ None → all ≡ walked + walked_from table coin from count place before rows)

-- the last walked place is before a line with a broken rule
end_behind : (last place end : ℕ) (rest : Option Broken) → end ≡ walk_end last rest → IfSome rest (λ b. place < b.place) → end ≤ place → last ≤ place
end_behind last place end None is behind late = omega arith
end_behind last place end (Some b) is behind late = omega (arith, is, behind)

end_within : (last end : ℕ) (rest : Option Broken) → end ≡ walk_end last rest → end ≤ last
end_within last end None is = omega arith
end_within last end (Some b) is = omega (arith, is)

module _ (table : PayTable) (coin from count : ℕ) (c : Certificate) (feed : Feed) where
  -- a line that breaks no rule changes nothing
  tells_later : (place : ℕ) (before : Option ℕ) (row : Numbered) (rows : List Numbered) (walked one : ℕ) (result : Result ℕ Finding)
      → listed_breach before row.class ≡ None → break_at table coin from count (row_at table coin from count place before row) ≡ None → one ≡ cond (in_range from count place) 1 0
      → WalkTells table coin from count c feed (place + 1) (Some (set_index row.class.hand)) rows (walked + one) result → WalkTells table coin from count c feed place before (row ∷ rows) walked result
  unfolding broken_from
  tells_later place before row rows walked one result listed none is tells = by_result result tells
    where
      next : Option ℕ
      next = Some (set_index row.class.hand)

      breaks : break_from table coin from count place before (row ∷ rows) ≡ break_from table coin from count (place + 1) (Some (set_index row.class.hand)) rows
      breaks =
          break_next table coin from count place before row rows
          ∙ (ap (λ (o : Option Break). first_of (o ∷ break_from table coin from count (place + 1) (Some (set_index row.class.hand)) rows ∷ [])) none
          ∙ first_single (break_from table coin from count (place + 1) (Some (set_index row.class.hand)) rows))

      lists : broken_from place before (row ∷ rows) ≡ broken_from (place + 1) (Some (set_index row.class.hand)) rows
      lists =
          ap (λ (o : Option Breach). first_of (option_map (λ breach. record { place = place; line = row.line; breach = breach }) o ∷ broken_from (place + 1) (Some (set_index row.class.hand)) rows ∷ [])) listed
          ∙ first_single (broken_from (place + 1) (Some (set_index row.class.hand)) rows)

      by_result : (result : Result ℕ Finding) → WalkTells table coin from count c feed (place + 1) (Some (set_index row.class.hand)) rows (walked + one) result
          → WalkTells table coin from count c feed place before (row ∷ rows) walked result
      by_result (Err finding) tells = subst (λ (o : Option Break). IsSomeAnd o (λ b. finding ≡ bad_at c feed b)) (sym breaks) tells
      by_result (Ok all) tells = (
        breaks ∙ (tells.0 ∙ ap (option_map break_of) (sym lists)),
        λ free. let a : all ≡ walked + one + walked_from table coin from count (place + 1) (Some (set_index row.class.hand)) rows = tells.1 (sym lists ∙ free) in omega (arith, a, is, walked_next table coin from count place before row rows),
      )

  -- a line with a broken rule of its cards or its weight is not walked
  tells_broken : (place : ℕ) (before : Option ℕ) (row : Numbered) (rows : List Numbered) (walked end : ℕ) (b : Breach) → listed_breach before row.class ≡ Some b
      → end ≡ walk_end (from + count) (broken_from place before (row ∷ rows))
      → WalkTells table coin from count c feed place before (row ∷ rows) walked (walked_at table coin from end place (row ∷ rows) walked)
  unfolding broken_from
  tells_broken place before row rows walked end b is ends =
      let lists : broken_from place before (row ∷ rows) ≡ Some (record { place = place; line = row.line; breach = b }) =
      ap (λ (o : Option Breach). first_of (option_map (λ breach. record { place = place; line = row.line; breach = breach }) o ∷ broken_from (place + 1) (Some (set_index row.class.hand)) rows ∷ [])) is in
      let breaks : break_from table coin from count place before (row ∷ rows) ≡ Some (record { place = place; breach = b }) =
      break_next table coin from count place before row rows
      ∙ ap (λ (o : Option Break). first_of (o ∷ break_from table coin from count (place + 1) (Some (set_index row.class.hand)) rows ∷ []))
      (break_by table coin from count place before row (Some b) (walked_breach table coin row.class) (in_range from count place) is refl refl) in
      let late : end ≤ place = let e : end ≡ walk_end (from + count) (Some (record { place = place; line = row.line; breach = b })) = ends ∙ ap (walk_end (from + count)) lists in omega (arith, e) in
      let stops : nat_lt place end ≡ false = grind (arith, nat_tests) in
      subst (λ (r : Result ℕ Finding). WalkTells table coin from count c feed place before (row ∷ rows) walked r)
      (ap (λ t. cond t (found_or (cond (nat_le from place) (walked_breach table coin row.class) None) row.line (walked_at table coin from end (place + 1) rows (walked + cond (nat_le from place) 1 0))) (Ok walked)) (sym stops))
      (breaks ∙ ap (option_map break_of) (sym lists), λ free. absurd (let e : Some (record { place = place; line = row.line; breach = b }) ≡ None = sym lists ∙ free in no_value _ (sym e)))

  -- the walk ends here
  tells_end : (place : ℕ) (before : Option ℕ) (row : Numbered) (rows : List Numbered) (walked end : ℕ) → from + count ≤ place → end ≤ place
      → WalkTells table coin from count c feed place before (row ∷ rows) walked (walked_at table coin from end place (row ∷ rows) walked)
  tells_end place before row rows walked end past late =
      let stops : nat_lt place end ≡ false = grind (arith, nat_tests) in
      let behind = past_end table coin from count place before (row ∷ rows) past in
      subst (λ (r : Result ℕ Finding). WalkTells table coin from count c feed place before (row ∷ rows) walked r)
      (ap (λ t. cond t (found_or (cond (nat_le from place) (walked_breach table coin row.class) None) row.line (walked_at table coin from end (place + 1) rows (walked + cond (nat_le from place) 1 0))) (Ok walked)) (sym stops))
      (behind.0, λ free. omega (arith, behind.1))

  -- a line whose cards and weight break no rule, where the walk goes on
  tells_on : (place : ℕ) (before : Option ℕ) (row : Numbered) (rows : List Numbered) (walked end : ℕ) → row.line ≡ line_number c feed place → listed_breach before row.class ≡ None
      → place < end → end ≤ from + count
      → ((more : ℕ) → WalkTells table coin from count c feed (place + 1) (Some (set_index row.class.hand)) rows more (walked_at table coin from end (place + 1) rows more))
      → WalkTells table coin from count c feed place before (row ∷ rows) walked (walked_at table coin from end place (row ∷ rows) walked)
  tells_on place before row rows walked end line listed on within later =
      let goes : nat_lt place end ≡ true = lt-ltb place end on in
      let inside : place < from + count = omega arith in
      subst (λ (r : Result ℕ Finding). WalkTells table coin from count c feed place before (row ∷ rows) walked r)
      (ap (λ t. cond t (found_or (cond (nat_le from place) (walked_breach table coin row.class) None) row.line (walked_at table coin from end (place + 1) rows (walked + cond (nat_le from place) 1 0))) (Ok walked)) (sym goes))
      (by_asked (nat_le from place) (ap (λ b. nat_le from place && b) (lt-ltb place (from + count) inside) ∙ and_true (nat_le from place)) (walked_breach table coin row.class) refl)
    where
      and_true : (b : Bool) → (b && true) ≡ b
      and_true true = refl
      and_true false = refl

      none_at : (b : Bool) (breach : Option Breach) → in_range from count place ≡ b → walked_breach table coin row.class ≡ breach → cond b breach None ≡ None
          → break_at table coin from count (row_at table coin from count place before row) ≡ None
      none_at b breach range is none =
          break_by table coin from count place before row None breach b listed is range
          ∙ ap (λ (o : Option Breach). at place (first_of (None ∷ o ∷ []))) none

      by_asked : (b : Bool) → in_range from count place ≡ b → (breach : Option Breach) → walked_breach table coin row.class ≡ breach
          → WalkTells table coin from count c feed place before (row ∷ rows) walked (found_or (cond b breach None) row.line (walked_at table coin from end (place + 1) rows (walked + cond b 1 0)))
      by_asked true range (Some b) is =
          subst (λ (o : Option Break). IsSomeAnd o (λ x. Bad row.line b.rule b.said b.due ≡ bad_at c feed x))
          (sym (break_next table coin from count place before row rows
          ∙ ap (λ (o : Option Break). first_of (o ∷ break_from table coin from count (place + 1) (Some (set_index row.class.hand)) rows ∷ [])) (break_by table coin from count place before row None (Some b) true listed is range)))
          (ap (λ l. Bad l b.rule b.said b.due) line)
      by_asked true range None is =
          tells_later place before row rows walked 1 _ listed (none_at true None range is refl) (ap (λ b. cond {A = ℕ} b 1 0) (sym range)) (later (walked + 1))
      by_asked false range breach is =
          tells_later place before row rows walked 0 _ listed (none_at false breach range is refl) (ap (λ b. cond {A = ℕ} b 1 0) (sym range)) (later (walked + 0))

  tells_row : (place : ℕ) (before : Option ℕ) (row : Numbered) (rows : List Numbered) (walked end : ℕ) → row.line ≡ line_number c feed place → AreAt c feed (place + 1) rows
      → end ≡ walk_end (from + count) (broken_from place before (row ∷ rows)) → (listed : Option Breach) → listed_breach before row.class ≡ listed
      → (end ≡ walk_end (from + count) (broken_from (place + 1) (Some (set_index row.class.hand)) rows)
      → (more : ℕ) → WalkTells table coin from count c feed (place + 1) (Some (set_index row.class.hand)) rows more (walked_at table coin from end (place + 1) rows more))
      → WalkTells table coin from count c feed place before (row ∷ rows) walked (walked_at table coin from end place (row ∷ rows) walked)
  unfolding broken_from
  tells_row place before row rows walked end line are ends (Some b) is later = tells_broken place before row rows walked end b is ends
  tells_row place before row rows walked end line are ends None is later =
      let rest = broken_from (place + 1) (Some (set_index row.class.hand)) rows in
      let lists : broken_from place before (row ∷ rows) ≡ rest =
      ap (λ (o : Option Breach). first_of (option_map (λ breach. record { place = place; line = row.line; breach = breach }) o ∷ rest ∷ [])) is ∙ first_single rest in
      let ends_later : end ≡ walk_end (from + count) rest = ends ∙ ap (walk_end (from + count)) lists in
      elim (cases_lt place end) [
        | inl on ↦ tells_on place before row rows walked end line is on (end_within (from + count) end rest ends_later) (later ends_later)
        | inr late ↦ tells_end place before row rows walked end (end_behind (from + count) place end rest ends_later (weaker rest (broken_stands c feed (place + 1) (Some (set_index row.class.hand)) rows are)) late) late
      ]
    where
      weaker : (o : Option Broken) → IfSome o (StandsAt c feed (place + 1)) → IfSome o (λ b. place < b.place)
      weaker None is = tt
      weaker (Some b) is = omega (arith, is.0)

  pub walk_tells : (place : ℕ) (before : Option ℕ) (rows : List Numbered) (walked end : ℕ) → AreAt c feed place rows → end ≡ walk_end (from + count) (broken_from place before rows)
      → WalkTells table coin from count c feed place before rows walked (walked_at table coin from end place rows walked)
  unfolding broken_from break_from walked_from
  walk_tells place before [] walked end are ends = (refl, λ free. omega arith)
  walk_tells place before (row ∷ rows) walked end are ends =
      tells_row place before row rows walked end are.0 are.1 ends (listed_breach before row.class) refl
      (λ ends_later more. walk_tells (place + 1) (Some (set_index row.class.hand)) rows more end are.1 ends_later)

pub weighed_fits : (w v : ℕ) → w < 2 ^ 8 → v < 2 ^ 64 → w * v ≤ 2 ^ 72
weighed_fits w v lw lv =
    let a : w * v ≤ 256 * v = mul-le-mul_right v (omega arith) in
    omega arith
