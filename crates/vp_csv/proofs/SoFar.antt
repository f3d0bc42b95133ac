-- The records that were read so far, and those that are left.
use Rattle.std.proofs.Common.{◌≡◌, ℕ, ◌+◌, List, [], ◌∷◌, ◌++◌, length, Some, None, refl, sym, ap, ◌∙◌, arith, true, false, Bool, append_assoc, length-append}
use Rattle.std.proofs.lemmas.List.{append-nil}
use Rattle.vp_csv.specs.Records.{Record}
use Rattle.vp_csv.specs.Left.{Steps}
use Rattle.vp_csv.specs.Rules.{break_behind, keeps_rule, may_follow, names_behind}
use Rattle.vp_csv.specs.Kept.{Kept, kept_in, names_kept, updated}
use Rattle.vp_csv.proofs.OneMore.{names_are, updates}

-- so many records were read, these sessions are theirs, and the first break is among those that are left
pub record SoFar (n : ℕ) (all left : List Record) (kept : List Kept) (count : ℕ) : Type 0 where
  pub front : List Record
  pub split : front ++ left ≡ all
  pub sessions : kept ≡ kept_in n front
  pub many : length front ≡ count
  pub place : break_behind n front left ≡ break_behind n [] all

pub starts : (n : ℕ) (all : List Record) (kept : List Kept) → kept ≡ [] → SoFar n all all kept 0
unfolding kept_in names_behind
starts n all kept none = record { front = []; split = refl; sessions = none; many = refl; place = refl }

-- the rule at the records that were read is the rule at the sessions that are kept
same_rule : (n : ℕ) (all left : List Record) (kept : List Kept) (count : ℕ) (row : Record) → (s : SoFar n all left kept count) → may_follow n s.front row ≡ keeps_rule n count (names_kept kept) row
same_rule n all left kept count row s = rw (s.many, s.sessions, names_are n s.front) refl

pub goes_on : (n : ℕ) (all old new : List Record) (found : Bool) (row : Record) (kept kept2 : List Kept) (count : ℕ) → SoFar n all old kept count → Steps old found row new → found ≡ true
    → keeps_rule n count (names_kept kept) row ≡ true → kept2 ≡ updated n row kept → SoFar n all new kept2 (count + 1)
unfolding break_behind
goes_on n all old new true row kept kept2 count s steps e may is =
    let rule : may_follow n s.front row ≡ true = same_rule n all old kept count row s ∙ may in
    let next : break_behind n s.front (row ∷ new) ≡ break_behind n (s.front ++ row ∷ []) new = rw rule refl in
    record {
      front = s.front ++ row ∷ [];
      split = append_assoc s.front (row ∷ []) new ∙ ap (λ (l : List Record). s.front ++ l) (sym steps) ∙ s.split;
      sessions = is ∙ ap (updated n row) s.sessions ∙ sym (updates n s.front row);
      many = let m = s.many in omega (arith, length-append s.front (row ∷ []));
      place = sym next ∙ ap (break_behind n s.front) (sym steps) ∙ s.place;
    }
goes_on n all old new false row kept kept2 count s steps e may is = absurd cc

pub breaks : (n : ℕ) (all old new : List Record) (found : Bool) (row : Record) (kept : List Kept) (count : ℕ) → SoFar n all old kept count → Steps old found row new → found ≡ true
    → keeps_rule n count (names_kept kept) row ≡ false → break_behind n [] all ≡ Some (count + 2)
unfolding break_behind
breaks n all old new true row kept count s steps e may =
    let rule : may_follow n s.front row ≡ false = same_rule n all old kept count row s ∙ may in
    let here : break_behind n s.front (row ∷ new) ≡ Some (length s.front + 2) = rw rule refl in
    sym s.place ∙ ap (break_behind n s.front) steps ∙ here ∙ ap (λ (m : ℕ). Some (m + 2)) s.many
breaks n all old new false row kept count s steps e may = absurd cc

-- no record is left: none breaks its rule, and the sessions are those of all records
pub record Ended (n : ℕ) (all : List Record) (kept : List Kept) : Type 0 where
  pub none : break_behind n [] all ≡ None
  pub sessions : kept ≡ kept_in n all

pub ends : (n : ℕ) (all old new : List Record) (found : Bool) (row : Record) (kept : List Kept) (count : ℕ) → SoFar n all old kept count → Steps old found row new → found ≡ false → Ended n all kept
unfolding break_behind
ends n all old new true row kept count s steps e = absurd cc
ends n all old new false row kept count s steps e =
    let whole : s.front ≡ all = sym (append-nil s.front) ∙ ap (λ (l : List Record). s.front ++ l) (sym steps) ∙ s.split in
    record {
      none = sym s.place ∙ ap (break_behind n s.front) steps;
      sessions = s.sessions ∙ ap (kept_in n) whole;
    }
