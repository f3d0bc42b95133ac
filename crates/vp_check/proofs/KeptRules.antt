-- Where no line breaks a rule, each line keeps all of its rules.
use Rattle.std.proofs.Common.{◌≡◌, ℕ, ◌+◌, ◌*◌, ◌<◌, ◌≤◌, Bool, true, false, not, cond, ◌==◌, leb, ltb, Option, Some, None, List, [], ◌∷◌, length, map, get_or, refl, ap, ◌∙◌, arith}
use Rattle.std.specs.List.{All, sum_by}
use Rattle.std.specs.Option.{IfSome}
use Rattle.std.proofs.lemmas.Bool.Decides.{nat_tests}
use Rattle.std.proofs.lemmas.Bool.{eq-eqb, eqb-true}
use Rattle.std.proofs.lemmas.List.Elements.{All-nil, All-cons, All-head, All-tail}
use Rattle.vp_pay.specs.declared.table.PayTable.{PayTable}
use Rattle.vp_card.specs.Rising.{IsBelow, IsRising}
use Rattle.vp_sets.specs.Sets.{choose}
use Rattle.vp_sets.specs.Index.{set_index}
use Rattle.vp_card.proofs.Rising.{below_down}
use Rattle.vp_draws.specs.Draws.{best, return_denominator, value}
use Rattle.vp_suit.specs.Classes.{is_representative, weight}
use Rattle.vp_check.specs.Certificates.{Certificate}
use Rattle.vp_check.specs.Rules.{Row, broken_if, first_of, rows, rows_from, in_range, image_breach, rising_breach, weight_breach, value_breach, mask_breach, listed_breach, walked_breach, class_breach, cover_breach, sum_breach, denominator_breach, return_breach, Break, at, class_break, first_break}
use Rattle.vp_check.specs.declared.class_line.ClassLine.{ClassLine}
use Rattle.vp_check.specs.declared.rules.Breach.{Breach}
use Rattle.vp_check.specs.declared.finding.CertRule.{CertRule}

-- ---- the first that is there

pub first_none : {A : Type 0} (x : Option A) (xs : List (Option A)) → first_of (x ∷ xs) ≡ None → (x ≡ None) × (first_of xs ≡ None)
first_none None xs e = (refl, e)
first_none (Some a) xs e = absurd (cc)

pub first_later : {A : Type 0} (x : Option A) (xs : List (Option A)) → x ≡ None → first_of (x ∷ xs) ≡ first_of xs
first_later None xs e = refl
first_later (Some a) xs e = absurd (cc)

pub first_here : {A : Type 0} (x : Option A) (a : A) (xs : List (Option A)) → x ≡ Some a → first_of (x ∷ xs) ≡ Some a
first_here None a xs e = absurd (cc)
first_here (Some b) a xs e = e

-- none of them is there where each of them is not
pub none_all : {A B : Type 0} (f : A → Option B) (xs : List A) → first_of (map f xs) ≡ None → All (λ x. f x ≡ None) xs
none_all f [] e = All-nil (λ x. f x ≡ None)
none_all f (x ∷ xs) e =
    let parts = first_none (f x) (map f xs) e in
    All-cons (λ x. f x ≡ None) x xs parts.0 (none_all f xs parts.1)

pub all_none : {A B : Type 0} (f : A → Option B) (xs : List A) → All (λ x. f x ≡ None) xs → first_of (map f xs) ≡ None
all_none f [] h = refl
all_none f (x ∷ xs) h = first_later (f x) (map f xs) (All-head (λ x. f x ≡ None) x xs h) ∙ all_none f xs (All-tail (λ x. f x ≡ None) x xs h)

at_none : (place : ℕ) (b : Option Breach) → at place b ≡ None → b ≡ None
at_none place None e = refl
at_none place (Some b) e = absurd (cc)

kept_if : (b : Bool) (rule : CertRule) (said due : ℕ) → broken_if b rule said due ≡ None → b ≡ false
kept_if true rule said due e = absurd (cc)
kept_if false rule said due e = refl

not_broken : (b : Bool) (rule : CertRule) (said due : ℕ) → b ≡ false → broken_if b rule said due ≡ None
not_broken b rule said due e = rw e

-- ---- one class line

-- a class line that keeps its rules, behind one with this index
pub record KeptLine (table : PayTable) (coin : ℕ) (walked : Bool) (before : Option ℕ) (line : ClassLine) : Type 0 where
  pub least : is_representative line.hand ≡ true
  pub above : IfSome before (λ b. b < set_index line.hand)
  pub weighs : line.weight ≡ weight line.hand
  pub worth : walked ≡ true → line.value ≡ best table coin line.hand
  pub held : walked ≡ true → best table coin line.hand ≤ value table coin line.hand line.mask

rising_kept : (before : Option ℕ) (hand : List ℕ) → rising_breach before hand ≡ None → IfSome before (λ b. b < set_index hand)
rising_kept None hand e = tt
rising_kept (Some b) hand e = let t : leb (set_index hand) b ≡ false = kept_if _ _ _ _ e in grind (arith, nat_tests)

kept_rising : (before : Option ℕ) (hand : List ℕ) → IfSome before (λ b. b < set_index hand) → rising_breach before hand ≡ None
kept_rising None hand l = refl
kept_rising (Some b) hand l = let t : leb (set_index hand) b ≡ false = grind (arith, nat_tests) in not_broken _ _ _ _ t

not_false : (b : Bool) → not b ≡ false → b ≡ true
not_false true e = refl
not_false false e = absurd (cc)

same_kept : (a b : ℕ) → not (a == b) ≡ false → a ≡ b
same_kept a b e = eqb-true a b (not_false (a == b) e)

kept_same : (a b : ℕ) → a ≡ b → not (a == b) ≡ false
kept_same a b e = ap not (eq-eqb a b e)

when_walked : (walked : Bool) (b : Option Breach) → (if_walked : cond walked b None ≡ None) → walked ≡ true → b ≡ None
when_walked true b e t = e
when_walked false b e t = absurd (cc)

walked_when : (walked : Bool) (b : Option Breach) → (walked ≡ true → b ≡ None) → cond walked b None ≡ None
walked_when true b h = h refl
walked_when false b h = refl

image_kept : (hand : List ℕ) → image_breach hand ≡ None → is_representative hand ≡ true
unfolding image_breach
image_kept hand e = not_false (is_representative hand) (kept_if _ _ _ _ e)

weight_kept : (line : ClassLine) → weight_breach line ≡ None → line.weight ≡ weight line.hand
unfolding weight_breach
weight_kept line e = same_kept line.weight (weight line.hand) (kept_if _ _ _ _ e)

worth_kept : (table : PayTable) (coin : ℕ) (line : ClassLine) → value_breach table coin line ≡ None → line.value ≡ best table coin line.hand
unfolding value_breach
worth_kept table coin line e = same_kept line.value (best table coin line.hand) (kept_if _ _ _ _ e)

held_kept : (table : PayTable) (coin : ℕ) (line : ClassLine) → mask_breach table coin line ≡ None → best table coin line.hand ≤ value table coin line.hand line.mask
unfolding mask_breach
held_kept table coin line e = let k : ltb (value table coin line.hand line.mask) (best table coin line.hand) ≡ false = kept_if _ _ _ _ e in grind (arith, nat_tests)

three_none : {A : Type 0} (a b c : Option A) → first_of (a ∷ b ∷ c ∷ []) ≡ None → (a ≡ None) × (b ≡ None) × (c ≡ None)
three_none a b c h =
    let first = first_none a (b ∷ c ∷ []) h in
    let second = first_none b (c ∷ []) first.1 in
    let third = first_none c [] second.1 in
    (first.0, second.0, third.0)

two_none : {A : Type 0} (a b : Option A) → first_of (a ∷ b ∷ []) ≡ None → (a ≡ None) × (b ≡ None)
two_none a b h =
    let first = first_none a (b ∷ []) h in
    let second = first_none b [] first.1 in
    (first.0, second.0)

pub line_kept : (table : PayTable) (coin : ℕ) (walked : Bool) (before : Option ℕ) (line : ClassLine) → class_breach table coin walked before line ≡ None → KeptLine table coin walked before line
unfolding class_breach listed_breach walked_breach
line_kept table coin walked before line e =
    let both = two_none (listed_breach before line) (cond walked (walked_breach table coin line) None) e in
    let listed = three_none (image_breach line.hand) (rising_breach before line.hand) (weight_breach line) both.0 in
    let asked : walked ≡ true → (value_breach table coin line ≡ None) × (mask_breach table coin line ≡ None) =
    λ t. two_none (value_breach table coin line) (mask_breach table coin line) (when_walked walked (walked_breach table coin line) both.1 t) in
    record {
      least = image_kept line.hand listed.0;
      above = rising_kept before line.hand listed.1;
      weighs = weight_kept line listed.2;
      worth = λ t. worth_kept table coin line (asked t).0;
      held = λ t. held_kept table coin line (asked t).1;
    }

pub kept_line : (table : PayTable) (coin : ℕ) (walked : Bool) (before : Option ℕ) (line : ClassLine) → KeptLine table coin walked before line → class_breach table coin walked before line ≡ None
unfolding class_breach listed_breach walked_breach image_breach weight_breach value_breach mask_breach
kept_line table coin walked before line k =
    let listed : listed_breach before line ≡ None =
    first_later _ _ (not_broken _ _ _ _ (ap not k.least)) ∙ first_later _ _ (kept_rising before line.hand k.above) ∙ first_later _ _ (not_broken _ _ _ _ (kept_same _ _ k.weighs)) in
    let asked : walked ≡ true → walked_breach table coin line ≡ None =
    λ t. first_later _ _ (not_broken _ _ _ _ (kept_same _ _ (k.worth t)))
    ∙ first_later _ _ (let l : best table coin line.hand ≤ value table coin line.hand line.mask = k.held t in let m : ltb (value table coin line.hand line.mask) (best table coin line.hand) ≡ false = grind (arith, nat_tests) in not_broken _ _ _ _ m) in
    first_later _ _ listed ∙ first_later _ _ (walked_when walked (walked_breach table coin line) asked)

-- ---- all class lines

-- what stands at a row where a rule is broken
unfoldable pub break_at : PayTable → ℕ → ℕ → ℕ → Row → Option Break
break_at table coin from count row = at row.place (class_breach table coin (in_range from count row.place) row.before row.line)

-- a row that keeps its rules
abbrev pub KeptRow : PayTable → ℕ → ℕ → ℕ → Row → Type 0
KeptRow table coin from count row = KeptLine table coin (in_range from count row.place) row.before row.line

rows_kept : (table : PayTable) (coin from count : ℕ) (lines : List ClassLine) → class_break table coin from count lines ≡ None → All (KeptRow table coin from count) (rows lines)
unfolding class_break break_at
rows_kept table coin from count lines e =
    let none = none_all (break_at table coin from count) (rows lines) e in
    λ i d l. line_kept table coin _ _ _ (at_none _ _ (none i d l))

kept_rows : (table : PayTable) (coin from count : ℕ) (lines : List ClassLine) → All (KeptRow table coin from count) (rows lines) → class_break table coin from count lines ≡ None
unfolding class_break break_at
kept_rows table coin from count lines k =
    all_none (break_at table coin from count) (rows lines) (λ i d l. ap (λ b. at (get_or (rows lines) i d).place b) (kept_line table coin _ _ _ (k i d l)))

-- what is told of each row is told of each line
pub told_lines : (P : ClassLine → Type 0) (place : ℕ) (before : Option ℕ) (lines : List ClassLine) → All (λ row. P row.line) (rows_from place before lines) → All P lines
told_lines P place before [] all = All-nil P
told_lines P place before (line ∷ lines) all =
    let row : Row = record { place = place; before = before; line = line } in
    let more = rows_from (place + 1) (Some (set_index line.hand)) lines in
    All-cons P line lines (All-head (λ r. P r.line) row more all) (told_lines P (place + 1) (Some (set_index line.hand)) lines (All-tail (λ r. P r.line) row more all))

-- what is told of each line is told of each row
pub told_rows : (P : ClassLine → Type 0) (place : ℕ) (before : Option ℕ) (lines : List ClassLine) → All P lines → All (λ row. P row.line) (rows_from place before lines)
told_rows P place before [] all = All-nil (λ row. P row.line)
told_rows P place before (line ∷ lines) all =
    All-cons (λ r. P r.line) (record { place = place; before = before; line = line }) (rows_from (place + 1) (Some (set_index line.hand)) lines) (All-head P line lines all)
    (told_rows P (place + 1) (Some (set_index line.hand)) lines (All-tail P line lines all))

-- the places of rows are those of the lines
pub places_within : (place : ℕ) (before : Option ℕ) (lines : List ClassLine) → All (λ row. (place ≤ row.place) × (row.place < place + length lines)) (rows_from place before lines)
places_within place before [] = All-nil (λ row. (place ≤ row.place) × (row.place < place + 0))
places_within place before (line ∷ lines) =
    let rest = places_within (place + 1) (Some (set_index line.hand)) lines in
    All-cons (λ row. (place ≤ row.place) × (row.place < place + length (line ∷ lines))) (record { place = place; before = before; line = line }) (rows_from (place + 1) (Some (set_index line.hand)) lines)
    (omega arith, omega arith)
    (λ i d l. (omega (arith, (rest i d l).0), omega (arith, (rest i d l).1)))

-- each index is above the one before it
abbrev Above : Row → Type 0
Above row = IfSome row.before (λ b. b < set_index row.line.hand)

abbrev indexes : List ClassLine → List ℕ
indexes lines = map (λ hand. set_index hand) (map (λ line. line.hand) lines)

pub rising_rows : (place : ℕ) (before : Option ℕ) (lines : List ClassLine) → All Above (rows_from place before lines) → IsRising (indexes lines) × IfSome before (λ b. IsBelow b (indexes lines))
rising_rows place None [] all = (tt, tt)
rising_rows place (Some b) [] all = (tt, tt)
rising_rows place before (line ∷ lines) all =
    let row : Row = record { place = place; before = before; line = line } in
    let more = rows_from (place + 1) (Some (set_index line.hand)) lines in
    let rest = rising_rows (place + 1) (Some (set_index line.hand)) lines (All-tail Above row more all) in
    ((rest.1, rest.0), below_all before (All-head Above row more all) rest.1)
  where
    below_all : (b : Option ℕ) → IfSome b (λ x. x < set_index line.hand) → IsBelow (set_index line.hand) (indexes lines) → IfSome b (λ x. IsBelow x (indexes (line ∷ lines)))
    below_all None h below = tt
    below_all (Some x) h below = (h, below_down x (set_index line.hand) (indexes lines) (omega (arith, h)) below)

pub rows_rising : (place : ℕ) (before : Option ℕ) (lines : List ClassLine) → IsRising (indexes lines) → IfSome before (λ b. IsBelow b (indexes lines)) → All Above (rows_from place before lines)
rows_rising place before [] rising below = All-nil Above
rows_rising place before (line ∷ lines) rising below =
    All-cons Above (record { place = place; before = before; line = line }) (rows_from (place + 1) (Some (set_index line.hand)) lines) (first_above before below)
    (rows_rising (place + 1) (Some (set_index line.hand)) lines rising.1 rising.0)
  where
    first_above : (b : Option ℕ) → IfSome b (λ x. IsBelow x (indexes (line ∷ lines))) → IfSome b (λ x. x < set_index line.hand)
    first_above None h = tt
    first_above (Some x) h = h.0

-- ---- the return

-- a return that keeps its rules
pub record KeptReturn (c : Certificate) : Type 0 where
  pub cover : sum_by (λ line. line.weight) c.classes ≡ choose c.table.deck 5
  pub total : c.sum ≡ sum_by (λ line. line.weight * line.value) c.classes
  pub over : c.denominator ≡ return_denominator c.table.deck c.coin

return_kept : (c : Certificate) → return_breach c ≡ None → KeptReturn c
unfolding return_breach cover_breach sum_breach denominator_breach
return_kept c e =
    let cover = first_none _ _ e in
    let total = first_none _ _ cover.1 in
    let over = first_none _ _ total.1 in
    record {
      cover = same_kept _ _ (kept_if _ _ _ _ cover.0);
      total = same_kept _ _ (kept_if _ _ _ _ total.0);
      over = same_kept _ _ (kept_if _ _ _ _ over.0);
    }

kept_return : (c : Certificate) → KeptReturn c → return_breach c ≡ None
unfolding return_breach cover_breach sum_breach denominator_breach
kept_return c k =
    first_later _ _ (not_broken _ _ _ _ (kept_same _ _ k.cover))
    ∙ first_later _ _ (not_broken _ _ _ _ (kept_same _ _ k.total))
    ∙ first_later _ _ (not_broken _ _ _ _ (kept_same _ _ k.over))

-- ---- all lines

pub all_kept : (from count : ℕ) (c : Certificate) → first_break from count c ≡ None → All (KeptRow c.table c.coin from count) (rows c.classes) × KeptReturn c
unfolding first_break
all_kept from count c e =
    let both = two_none (class_break c.table c.coin from count c.classes) (at (length c.classes + 1) (return_breach c)) e in
    (rows_kept c.table c.coin from count c.classes both.0, return_kept c (at_none (length c.classes + 1) (return_breach c) both.1))

pub kept_all : (from count : ℕ) (c : Certificate) → All (KeptRow c.table c.coin from count) (rows c.classes) → KeptReturn c → first_break from count c ≡ None
unfolding first_break
kept_all from count c k r =
    first_later _ _ (kept_rows c.table c.coin from count c.classes k)
    ∙ first_later _ _ (ap (λ b. at (length c.classes + 1) b) (kept_return c r))
