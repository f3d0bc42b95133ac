-- The words of all payments fit 64 bits.
use Rattle.std.proofs.Common.{◌≡◌, ℕ, zero, suc, ◌+◌, ◌*◌, ◌-◌, ◌^◌, ◌<◌, ◌≤◌, Bool, true, false, List, [], ◌∷◌, ◌++◌, length, get_or, refl, ap, ◌∙◌, arith}
use Rattle.std.specs.Prelude.{if◌then◌else◌, ◌==◌, sum_by, flat_map}
use Rattle.std.specs.List.{All}
use Rattle.std.proofs.Math.Nat.{le-mul_of_pos_right}
use Rattle.std.proofs.lemmas.List.Elements.{All-head, All-tail, All-nil, All-cons}
use Rattle.std.proofs.lemmas.Grind.{flat_map-append}
use Rattle.vp_meter.specs.declared.segment.Segment.{Segment}
use Rattle.vp_meter.specs.declared.tallies.Turn.{Turn}
use Rattle.vp_meter.specs.Pieces.{Graph, base_in, slope_in, climbs}
use Rattle.vp_meter.specs.Tallies.{change, Added, AreTallied, HasRoom, at_turn, turns_from, turns_of}
use Rattle.vp_meter.proofs.Graphs.{Climbing, at_turn-append, at_turn-cons, climb, no_turn_ahead, steps}

-- a number of each turn that is at most its weight is at most what the turn gains
few_turns : (f : Turn → ℕ) (x w : ℕ) (s : Segment) (ts : List Segment) → ((a b : Segment) → f (change w a b) ≤ w) → climbs s ts ≡ true
    → at_turn f x (turns_from w s ts) ≤ at_turn (λ t. t.gained) x (turns_from w s ts)
unfolding turns_from at_turn
few_turns f x w s [] few h = omega arith
few_turns f x w s (t ∷ ts) few h =
    let c = climb s t ts h in
    let ih = few_turns f x w t ts few c.rest in
    let gain : w ≤ w * (t.slope - s.slope) = le-mul_of_pos_right w (positive s.slope t.slope c.steeper) in
    rw (at_turn-cons f x (change w s t) (turns_from w t ts), at_turn-cons (λ t. t.gained) x (change w s t) (turns_from w t ts))
    (by_test (t.from == x) (f (change w s t)) (w * (t.slope - s.slope)) (at_turn f x (turns_from w t ts)) (at_turn (λ t. t.gained) x (turns_from w t ts)) (at_most (f (change w s t)) w (w * (t.slope - s.slope)) (few s t) gain) ih)
  where
    positive : (a b : ℕ) → a < b → 0 < b - a
    positive a b l = omega arith

    at_most : (a b c : ℕ) → a ≤ b → b ≤ c → a ≤ c
    at_most a b c k l = omega arith

    by_test : (b : Bool) (k l m n : ℕ) → k ≤ l → m ≤ n → (if b then k else 0) + m ≤ (if b then l else 0) + n
    by_test true k l m n h i = omega arith
    by_test false k l m n h i = omega arith

IsFew : (Turn → ℕ) → Graph → Type 0
IsFew f g = (a b : Segment) → f (change g.weight a b) ≤ g.weight

few_all : (f : Turn → ℕ) (x : ℕ) (graphs : List Graph) → All (IsFew f) graphs → Climbing graphs → at_turn f x (flat_map turns_of graphs) ≤ at_turn (λ t. t.gained) x (flat_map turns_of graphs)
unfolding at_turn IsFew
few_all f x [] few h = omega arith
few_all f x (g ∷ gs) few h =
    let one = few_turns f x g.weight g.first g.later (All-head (IsFew f) g gs few) (All-head (λ (g : Graph). climbs g.first g.later ≡ true) g gs h) in
    let ih = few_all f x gs (All-tail (IsFew f) g gs few) (All-tail (λ (g : Graph). climbs g.first g.later ≡ true) g gs h) in
    let left = at_turn-append f x (turns_of g) (flat_map turns_of gs) in
    let right = at_turn-append (λ t. t.gained) x (turns_of g) (flat_map turns_of gs) in
    omega arith

-- no turn where all first segments begin
none_at : (f : Turn → ℕ) (x : ℕ) (graphs : List Graph) → All (λ (g : Graph). x ≤ g.first.from) graphs → Climbing graphs → at_turn f x (flat_map turns_of graphs) ≡ 0
unfolding at_turn
none_at f x [] from h = refl
none_at f x (g ∷ gs) from h =
    let one = no_turn_ahead f x g.weight g.first g.later (All-head (λ (g : Graph). climbs g.first g.later ≡ true) g gs h) (All-head (λ (g : Graph). x ≤ g.first.from) g gs from) in
    let ih = none_at f x gs (All-tail (λ (g : Graph). x ≤ g.first.from) g gs from) (All-tail (λ (g : Graph). climbs g.first g.later ≡ true) g gs h) in
    let both = at_turn-append f x (turns_of g) (flat_map turns_of gs) in
    omega arith

-- the graphs of a meter from lo to hi
pub record AreGraphs (lo hi : ℕ) (graphs : List Graph) : Type 0 where
  pub climbing : Climbing graphs
  pub from : All (λ (g : Graph). lo ≤ g.first.from) graphs
  pub weights : All (λ (g : Graph). 1 ≤ g.weight) graphs
  pub bases : (x : ℕ) → lo ≤ x → x ≤ hi → sum_by (base_in x) graphs < 2 ^ 64
  pub slopes : (x : ℕ) → lo ≤ x → x ≤ hi → sum_by (slope_in x) graphs < 2 ^ 64

record Words (x : ℕ) (turns : List Turn) : Type 0 where
  pub classes : at_turn (λ t. 1) x turns < 2 ^ 64
  pub deals : at_turn (λ t. t.weight) x turns < 2 ^ 64
  pub lost : at_turn (λ t. t.lost) x turns < 2 ^ 64
  pub gained : at_turn (λ t. t.gained) x turns < 2 ^ 64

ones : (graphs : List Graph) → All (λ (g : Graph). 1 ≤ g.weight) graphs → All (IsFew (λ t. 1)) graphs
unfolding IsFew
ones [] h = All-nil (IsFew (λ t. 1))
ones (g ∷ gs) h = All-cons (IsFew (λ t. 1)) g gs (λ a b. All-head (λ (g : Graph). 1 ≤ g.weight) g gs h) (ones gs (All-tail (λ (g : Graph). 1 ≤ g.weight) g gs h))

weights_few : (graphs : List Graph) → All (IsFew (λ t. t.weight)) graphs
unfolding IsFew
weights_few [] = All-nil (IsFew (λ t. t.weight))
weights_few (g ∷ gs) = All-cons (IsFew (λ t. t.weight)) g gs (λ a b. omega arith) (weights_few gs)

words_at : (lo hi i : ℕ) (graphs : List Graph) → lo + i ≤ hi → AreGraphs lo hi graphs → Words (lo + i) (flat_map turns_of graphs)
words_at lo hi zero graphs to are =
    let e : lo + 0 ≡ lo = omega arith in
    let none = λ (f : Turn → ℕ). none_at f lo graphs are.from are.climbing in
    rw e (record { classes = let z = none (λ t. 1) in omega arith; deals = let z = none (λ t. t.weight) in omega arith; lost = let z = none (λ t. t.lost) in omega arith; gained = let z = none (λ t. t.gained) in omega arith })
words_at lo hi (suc i) graphs to are =
    let e : lo + suc i ≡ suc (lo + i) = omega arith in
    let s = steps (lo + i) graphs are.climbing in
    let base = are.bases (lo + i) (omega arith) (omega arith) in
    let slope = are.slopes (suc (lo + i)) (omega arith) (omega arith) in
    let gained : at_turn (λ t. t.gained) (suc (lo + i)) (flat_map turns_of graphs) < 2 ^ 64 = omega (arith, s.slope) in
    let one = few_all (λ t. 1) (suc (lo + i)) graphs (ones graphs are.weights) are.climbing in
    let deals = few_all (λ t. t.weight) (suc (lo + i)) graphs (weights_few graphs) are.climbing in
    rw e (record { classes = omega arith; deals = omega arith; lost = omega (arith, s.base); gained = gained })

split : (f : Turn → ℕ) (x : ℕ) (seen : List Graph) (g : Graph) (rest : List Graph)
    → at_turn f x (flat_map turns_of (seen ++ g ∷ rest)) ≡ at_turn f x (flat_map turns_of seen) + (at_turn f x (turns_of g) + at_turn f x (flat_map turns_of rest))
split f x seen g rest =
    ap (at_turn f x) (flat_map-append turns_of seen (g ∷ rest))
    ∙ (at_turn-append f x (flat_map turns_of seen) (flat_map turns_of (g ∷ rest)) ∙ ap (λ (n : ℕ). at_turn f x (flat_map turns_of seen) + n) (at_turn-append f x (turns_of g) (flat_map turns_of rest)))

word_fits : (f : Turn → ℕ) (x : ℕ) (seen : List Graph) (g : Graph) (rest : List Graph) (old now : ℕ) → at_turn f x (flat_map turns_of (seen ++ g ∷ rest)) < 2 ^ 64
    → old ≡ 0 → now ≡ old + at_turn f x (flat_map turns_of seen) → now + at_turn f x (turns_of g) < 2 ^ 64
word_fits f x seen g rest old now whole none is = let parts = split f x seen g rest in omega arith

-- there is room for the turns of the next class
pub room_for : (lo hi : ℕ) (seen : List Graph) (g : Graph) (rest : List Graph) (old now : List ℕ) → lo ≤ hi → length old ≡ 4 * (hi - lo + 1) → ((i : ℕ) → get_or old i 0 ≡ 0) → AreGraphs lo hi (seen ++ g ∷ rest)
    → Added lo (flat_map turns_of seen) old now → HasRoom lo (turns_of g) now
room_for lo hi seen g rest old now order long none are added =
    let inside = λ (i : ℕ) (l : 4 * i + 3 < length now). words_at lo hi i (seen ++ g ∷ rest) (reach lo hi i (length now) order (added.long ∙ long) l) are in
    let within = λ (i : ℕ) (l : 4 * i + 3 < length now). same_long (4 * i + 3) added.long l in
    record {
      classes = λ i l. word_fits (λ t. 1) (lo + i) seen g rest _ _ (inside i l).classes (none (4 * i)) (added.classes i (within i l));
      deals = λ i l. word_fits (λ t. t.weight) (lo + i) seen g rest _ _ (inside i l).deals (none (4 * i + 1)) (added.deals i (within i l));
      lost = λ i l. word_fits (λ t. t.lost) (lo + i) seen g rest _ _ (inside i l).lost (none (4 * i + 2)) (added.lost i (within i l));
      gained = λ i l. word_fits (λ t. t.gained) (lo + i) seen g rest _ _ (inside i l).gained (none (4 * i + 3)) (added.gained i (within i l));
    }
  where
    reach : (lo hi i n : ℕ) → lo ≤ hi → n ≡ 4 * (hi - lo + 1) → 4 * i + 3 < n → lo + i ≤ hi
    reach lo hi i n order long l = omega arith

    same_long : (k : ℕ) → length now ≡ length old → k < length now → k < length old
    same_long k e l = omega arith

-- where all turns were added to words that were 0, they are tallied
pub all_tallied : (lo : ℕ) (turns : List Turn) (old now : List ℕ) → ((i : ℕ) → get_or old i 0 ≡ 0) → Added lo turns old now → AreTallied lo turns now
all_tallied lo turns old now none added = record {
  classes = λ i l. let z = none (4 * i) in let e = added.classes i (omega (arith, added.long)) in omega arith;
  deals = λ i l. let z = none (4 * i + 1) in let e = added.deals i (omega (arith, added.long)) in omega arith;
  lost = λ i l. let z = none (4 * i + 2) in let e = added.lost i (omega (arith, added.long)) in omega arith;
  gained = λ i l. let z = none (4 * i + 3) in let e = added.gained i (omega (arith, added.long)) in omega arith;
}
