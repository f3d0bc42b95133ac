-- The graph of one class, from one payment to the next.
use Rattle.std.proofs.Common.{◌≡◌, ◌≢◌, ◌⊎◌, inl, inr, ℕ, suc, ◌+◌, ◌*◌, ◌-◌, ◌<◌, ◌≤◌, Bool, true, false, List, [], ◌∷◌, ◌++◌, refl, ap, sym, ◌∙◌, arith}
use Rattle.std.specs.Prelude.{if◌then◌else◌, ◌==◌, ◌||◌, nat_le, sum_by, flat_map}
use Rattle.std.specs.List.{All, list_any}
use Rattle.std.proofs.lemmas.Bool.Decides.{nat_tests}
use Rattle.std.proofs.lemmas.List.Sums.{sum_by-cons, sum_by-append}
use Rattle.std.proofs.lemmas.List.Elements.{All-head, All-tail}
use Rattle.vp_meter.specs.declared.segment.Segment.{Segment}
use Rattle.vp_meter.specs.declared.tallies.Turn.{Turn}
use Rattle.vp_meter.specs.Pieces.{Graph, climbs, in_force, base_in, slope_in, begins_at, classes_at, deals_at}
use Rattle.vp_meter.specs.Tallies.{at_turn, begun, change, turns_from, turns_of}

-- what two neighbours keep
pub record Climb (s t : Segment) (ts : List Segment) : Type 0 where
  pub later : s.from < t.from
  pub base : t.base ≤ s.base
  pub slope : s.slope ≤ t.slope
  pub steeper : s.slope < t.slope
  pub rest : climbs t ts ≡ true

pub climb : (s t : Segment) (ts : List Segment) → climbs s (t ∷ ts) ≡ true → Climb s t ts
unfolding climbs
climb s t ts h = record { later = grind (arith, nat_tests); base = grind (arith, nat_tests); slope = grind (arith, nat_tests); steeper = grind (arith, nat_tests); rest = grind (arith, nat_tests) }

pub passed : (x : ℕ) (s t : Segment) (ts : List Segment) → t.from ≤ x → in_force x s (t ∷ ts) ≡ in_force x t ts
unfolding in_force
passed x s t ts l = let e : nat_le t.from x ≡ true = grind (arith, nat_tests) in ap (λ (b : Bool). in_force x (if b then t else s) ts) e

pub ahead : (x : ℕ) (s t : Segment) (ts : List Segment) → x < t.from → in_force x s (t ∷ ts) ≡ in_force x s ts
unfolding in_force
ahead x s t ts l = let e : nat_le t.from x ≡ false = grind (arith, nat_tests) in ap (λ (b : Bool). in_force x (if b then t else s) ts) e

-- nothing behind a segment that begins at y or later is in force at y
none_ahead : (y : ℕ) (d t : Segment) (ts : List Segment) → climbs t ts ≡ true → y ≤ t.from → in_force y d ts ≡ d
unfolding in_force
none_ahead y d t [] h l = refl
none_ahead y d t (u ∷ us) h l = let c = climb t u us h in ahead y d u us (omega (arith, c.later)) ∙ none_ahead y d u us c.rest (omega (arith, c.later))

pub at_turn-cons : (f : Turn → ℕ) (x : ℕ) (t : Turn) (ts : List Turn) → at_turn f x (t ∷ ts) ≡ (if t.from == x then f t else 0) + at_turn f x ts
unfolding at_turn
at_turn-cons f x t ts = sum_by-cons (λ (t : Turn). if t.from == x then f t else 0) t ts

pub turn_here : (f : Turn → ℕ) (x : ℕ) (t : Turn) (ts : List Turn) → t.from ≡ x → at_turn f x (t ∷ ts) ≡ f t + at_turn f x ts
turn_here f x t ts is = let e : (t.from == x) ≡ true = grind (arith, nat_tests) in at_turn-cons f x t ts ∙ ap (λ (b : Bool). (if b then f t else 0) + at_turn f x ts) e

turn_elsewhere : (f : Turn → ℕ) (x : ℕ) (t : Turn) (ts : List Turn) → t.from ≢ x → at_turn f x (t ∷ ts) ≡ at_turn f x ts
turn_elsewhere f x t ts other = let e : (t.from == x) ≡ false = grind (arith, nat_tests) in at_turn-cons f x t ts ∙ (ap (λ (b : Bool). (if b then f t else 0) + at_turn f x ts) e ∙ omega arith)

pub no_turn_ahead : (f : Turn → ℕ) (y w : ℕ) (t : Segment) (ts : List Segment) → climbs t ts ≡ true → y ≤ t.from → at_turn f y (turns_from w t ts) ≡ 0
unfolding turns_from at_turn
no_turn_ahead f y w t [] h l = refl
no_turn_ahead f y w t (u ∷ us) h l = let c = climb t u us h in turn_elsewhere f y _ (turns_from w u us) (omega (arith, c.later)) ∙ no_turn_ahead f y w u us c.rest (omega (arith, c.later))

-- a part and the rest of a number, each taken w times
parts : (w a b : ℕ) → b ≤ a → w * b + w * (a - b) ≡ w * a
parts w a b l = let e : b + (a - b) ≡ a = omega arith in sym (mul_add w b (a - b)) ∙ ap (λ (n : ℕ). w * n) e
  where
    mul_add : (w b c : ℕ) → w * (b + c) ≡ w * b + w * c
    mul_add w b c = omega arith

-- from one payment to the next
record Step (x w : ℕ) (s : Segment) (ts : List Segment) : Type 0 where
  pub base : w * (in_force (suc x) s ts).base + at_turn (λ t. t.lost) (suc x) (turns_from w s ts) ≡ w * (in_force x s ts).base
  pub slope : w * (in_force (suc x) s ts).slope ≡ w * (in_force x s ts).slope + at_turn (λ t. t.gained) (suc x) (turns_from w s ts)

place : (a b : ℕ) → (a < b) ⊎ ((a ≡ b) ⊎ (b < a))
place a b = grind arith

pub turns-cons : (w : ℕ) (s t : Segment) (ts : List Segment) → turns_from w s (t ∷ ts) ≡ change w s t ∷ turns_from w t ts
unfolding turns_from
turns-cons w s t ts = refl

nothing : (x w : ℕ) (s : Segment) → Step x w s []
unfolding turns_from at_turn in_force
nothing x w s = record { base = omega arith; slope = omega arith }

earlier : (x w : ℕ) (s t : Segment) (ts : List Segment) → t.from < suc x → Step x w t ts → Step x w s (t ∷ ts)
earlier x w s t ts l ih =
    let now = passed (suc x) s t ts (omega arith) in
    let before = passed x s t ts (omega arith) in
    let lost = turn_elsewhere (λ t. t.lost) (suc x) (change w s t) (turns_from w t ts) (omega arith) in
    let gained = turn_elsewhere (λ t. t.gained) (suc x) (change w s t) (turns_from w t ts) (omega arith) in
    record {
      base = rw (turns-cons w s t ts, now, before, lost) ih.base;
      slope = rw (turns-cons w s t ts, now, before, gained) ih.slope;
    }

here : (x w : ℕ) (s t : Segment) (ts : List Segment) → t.from ≡ suc x → Climb s t ts → Step x w s (t ∷ ts)
here x w s t ts e c =
    let now : in_force (suc x) s (t ∷ ts) ≡ t = passed (suc x) s t ts (omega arith) ∙ none_ahead (suc x) t t ts c.rest (omega arith) in
    let before : in_force x s (t ∷ ts) ≡ s = ahead x s t ts (omega arith) ∙ none_ahead x s t ts c.rest (omega arith) in
    let lost : at_turn (λ t. t.lost) (suc x) (turns_from w s (t ∷ ts)) ≡ w * (s.base - t.base) =
    rw (turns-cons w s t ts) (turn_here (λ t. t.lost) (suc x) (change w s t) (turns_from w t ts) e ∙ (ap (λ (n : ℕ). w * (s.base - t.base) + n) (no_turn_ahead (λ t. t.lost) (suc x) w t ts c.rest (omega arith)) ∙ omega arith)) in
    let gained : at_turn (λ t. t.gained) (suc x) (turns_from w s (t ∷ ts)) ≡ w * (t.slope - s.slope) =
    rw (turns-cons w s t ts) (turn_here (λ t. t.gained) (suc x) (change w s t) (turns_from w t ts) e ∙ (ap (λ (n : ℕ). w * (t.slope - s.slope) + n) (no_turn_ahead (λ t. t.gained) (suc x) w t ts c.rest (omega arith)) ∙ omega arith)) in
    record {
      base = rw (now, before, lost) (parts w s.base t.base c.base);
      slope = rw (now, before, gained) (sym (parts w t.slope s.slope c.slope));
    }

after : (x w : ℕ) (s t : Segment) (ts : List Segment) → suc x < t.from → Climb s t ts → Step x w s (t ∷ ts)
after x w s t ts l c =
    let now : in_force (suc x) s (t ∷ ts) ≡ s = ahead (suc x) s t ts (omega arith) ∙ none_ahead (suc x) s t ts c.rest (omega arith) in
    let before : in_force x s (t ∷ ts) ≡ s = ahead x s t ts (omega arith) ∙ none_ahead x s t ts c.rest (omega arith) in
    let lost : at_turn (λ t. t.lost) (suc x) (turns_from w s (t ∷ ts)) ≡ 0 =
    rw (turns-cons w s t ts) (turn_elsewhere (λ t. t.lost) (suc x) (change w s t) (turns_from w t ts) (omega arith) ∙ no_turn_ahead (λ t. t.lost) (suc x) w t ts c.rest (omega arith)) in
    let gained : at_turn (λ t. t.gained) (suc x) (turns_from w s (t ∷ ts)) ≡ 0 =
    rw (turns-cons w s t ts) (turn_elsewhere (λ t. t.gained) (suc x) (change w s t) (turns_from w t ts) (omega arith) ∙ no_turn_ahead (λ t. t.gained) (suc x) w t ts c.rest (omega arith)) in
    record {
      base = rw (now, before, lost) (omega arith);
      slope = rw (now, before, gained) (omega arith);
    }

step : (x w : ℕ) (s : Segment) (ts : List Segment) → climbs s ts ≡ true → Step x w s ts
step x w s [] h = nothing x w s
step x w s (t ∷ ts) h =
    let c = climb s t ts h in
    let ih = step x w t ts c.rest in
    elim (place t.from (suc x)) [ inl before ↦ earlier x w s t ts before ih | inr o ↦ elim o [ inl now ↦ here x w s t ts now c | inr later ↦ after x w s t ts later c ] ]

-- ---- all classes

-- each graph climbs
abbrev pub Climbing : List Graph → Type 0
Climbing graphs = All (λ (g : Graph). climbs g.first g.later ≡ true) graphs

pub at_turn-append : (f : Turn → ℕ) (x : ℕ) (a b : List Turn) → at_turn f x (a ++ b) ≡ at_turn f x a + at_turn f x b
unfolding at_turn
at_turn-append f x a b = sum_by-append (λ (t : Turn). if t.from == x then f t else 0) a b

-- the sums of all classes, from one payment to the next
pub record Steps (x : ℕ) (graphs : List Graph) : Type 0 where
  pub base : sum_by (base_in (suc x)) graphs + at_turn (λ t. t.lost) (suc x) (flat_map turns_of graphs) ≡ sum_by (base_in x) graphs
  pub slope : sum_by (slope_in (suc x)) graphs ≡ sum_by (slope_in x) graphs + at_turn (λ t. t.gained) (suc x) (flat_map turns_of graphs)

at_turn-none : (f : Turn → ℕ) (x : ℕ) → at_turn f x [] ≡ 0
unfolding at_turn
at_turn-none f x = refl

pub steps : (x : ℕ) (graphs : List Graph) → Climbing graphs → Steps x graphs
unfolding at_turn
steps x [] h = record { base = refl; slope = refl }
steps x (g ∷ gs) h =
    let one = step x g.weight g.first g.later (All-head (λ (g : Graph). climbs g.first g.later ≡ true) g gs h) in
    let ih = steps x gs (All-tail (λ (g : Graph). climbs g.first g.later ≡ true) g gs h) in
    let lost = at_turn-append (λ t. t.lost) (suc x) (turns_of g) (flat_map turns_of gs) in
    let gained = at_turn-append (λ t. t.gained) (suc x) (turns_of g) (flat_map turns_of gs) in
    record {
      base = omega (arith, one.base, ih.base, lost, sum_by-cons (base_in (suc x)) g gs, sum_by-cons (base_in x) g gs);
      slope = omega (arith, one.slope, ih.slope, gained, sum_by-cons (slope_in (suc x)) g gs, sum_by-cons (slope_in x) g gs);
    }

-- ---- the classes that have a turn at x

same_or_not : (a b : ℕ) → (a ≡ b) ⊎ (a ≢ b)
same_or_not a b = grind arith

-- some segment that begins at x, or none: of one class, there is at most one such turn
turn_begins : (f : Turn → ℕ) (c x w : ℕ) (s : Segment) (ts : List Segment) → ((a b : Segment) → f (change w a b) ≡ c) → climbs s ts ≡ true
    → at_turn f x (turns_from w s ts) ≡ (if list_any (λ (t : Segment). t.from == x) ts then c else 0)
unfolding turns_from at_turn
turn_begins f c x w s [] is h = refl
turn_begins f c x w s (t ∷ ts) is h =
    let k = climb s t ts h in
    elim (same_or_not t.from x) [
      | inl same ↦
          let e : (t.from == x) ≡ true = grind (arith, nat_tests) in
          turn_here f x (change w s t) (turns_from w t ts) same
          ∙ ap (λ (n : ℕ). f (change w s t) + n) (no_turn_ahead f x w t ts k.rest (omega arith))
          ∙ plus_zero (f (change w s t)) ∙ is s t
          ∙ sym (ap (λ (b : Bool). if (b || list_any (λ (t : Segment). t.from == x) ts) then c else 0) e)
      | inr other ↦
          let e : (t.from == x) ≡ false = grind (arith, nat_tests) in
          turn_elsewhere f x (change w s t) (turns_from w t ts) other
          ∙ turn_begins f c x w t ts is k.rest
          ∙ sym (ap (λ (b : Bool). if (b || list_any (λ (t : Segment). t.from == x) ts) then c else 0) e)
    ]
  where
    plus_zero : (n : ℕ) → n + 0 ≡ n
    plus_zero n = omega arith

turns_begin : (f : Turn → ℕ) (of : Graph → ℕ) (x : ℕ) (graphs : List Graph) → ((g : Graph) (a b : Segment) → f (change g.weight a b) ≡ of g) → Climbing graphs
    → at_turn f x (flat_map turns_of graphs) ≡ sum_by (λ g. if begins_at x g then of g else 0) graphs
unfolding at_turn begins_at
turns_begin f of x [] is h = refl
turns_begin f of x (g ∷ gs) is h =
    let one = turn_begins f (of g) x g.weight g.first g.later (is g) (All-head (λ (g : Graph). climbs g.first g.later ≡ true) g gs h) in
    let ih = turns_begin f of x gs is (All-tail (λ (g : Graph). climbs g.first g.later ≡ true) g gs h) in
    at_turn-append f x (turns_of g) (flat_map turns_of gs)
    ∙ ap (λ (n : ℕ). n + at_turn f x (flat_map turns_of gs)) one
    ∙ ap (λ (n : ℕ). (if begins_at x g then of g else 0) + n) ih
    ∙ sym (sum_by-cons (λ (g : Graph). if begins_at x g then of g else 0) g gs)

pub begun_is : (x : ℕ) (graphs : List Graph) → Climbing graphs → begun x (flat_map turns_of graphs) ≡ classes_at x graphs
begun_is x graphs h = turns_begin (λ t. 1) (λ g. 1) x graphs (λ g a b. refl) h

pub dealt_is : (x : ℕ) (graphs : List Graph) → Climbing graphs → at_turn (λ t. t.weight) x (flat_map turns_of graphs) ≡ deals_at x graphs
dealt_is x graphs h = turns_begin (λ t. t.weight) (λ g. g.weight) x graphs (λ g a b. refl) h
