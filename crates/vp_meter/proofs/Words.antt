-- The four words of a payment.
use Rattle.std.proofs.Common.{◌≡◌, ◌≢◌, ◌⊎◌, inl, inr, ℕ, suc, ◌+◌, ◌*◌, ◌-◌, ◌^◌, ◌<◌, ◌≤◌, Bool, true, false, List, [], ◌∷◌, ◌++◌, length, get_or, set, refl, ap, sym, ◌∙◌, arith, length-set, get_or-set_same, get_or-set_other, append_assoc, append-nil, subst, drop, drop-cons, length-drop}
use Rattle.std.specs.Prelude.{if◌then◌else◌, ◌==◌}
use Rattle.std.proofs.lemmas.Bool.Decides.{nat_tests}
use Rattle.std.proofs.lemmas.List.Sums.{sum_by_push}
use Rattle.vp_meter.specs.declared.tallies.Turn.{Turn}
use Rattle.std.specs.List.{All}
use Rattle.std.proofs.lemmas.List.Elements.{All-get_or}
use Rattle.vp_meter.specs.declared.segment.Segment.{Segment}
use Rattle.vp_meter.proofs.Graphs.{at_turn-append, turn_here, turns-cons, climb}
use Rattle.vp_meter.specs.Pieces.{climbing}
use Rattle.vp_meter.specs.Tallies.{change, Added, HasRoom, at_turn, turns_from, turns_in}

-- four words from 4 * k on are written
abbrev four_set : List ℕ → ℕ → ℕ → ℕ → ℕ → ℕ → List ℕ
four_set xs k a b c d = set (set (set (set xs (4 * k) a) (4 * k + 1) b) (4 * k + 2) c) (4 * k + 3) d

-- the words of the other payments stay
elsewhere : (xs : List ℕ) (k a b c d j : ℕ) → (j < 4 * k) ⊎ (4 * k + 3 < j) → get_or (four_set xs k a b c d) j 0 ≡ get_or xs j 0
elsewhere xs k a b c d j (inl before) =
    get_or-set_other _ (4 * k + 3) j d 0 (omega arith) ∙ (get_or-set_other _ (4 * k + 2) j c 0 (omega arith) ∙ (get_or-set_other _ (4 * k + 1) j b 0 (omega arith) ∙ get_or-set_other xs (4 * k) j a 0 (omega arith)))
elsewhere xs k a b c d j (inr behind) =
    get_or-set_other _ (4 * k + 3) j d 0 (omega arith) ∙ (get_or-set_other _ (4 * k + 2) j c 0 (omega arith) ∙ (get_or-set_other _ (4 * k + 1) j b 0 (omega arith) ∙ get_or-set_other xs (4 * k) j a 0 (omega arith)))

-- these four are as written
record Four (xs : List ℕ) (k a b c d : ℕ) : Type 0 where
  pub zeroth : get_or xs (4 * k) 0 ≡ a
  pub first : get_or xs (4 * k + 1) 0 ≡ b
  pub second : get_or xs (4 * k + 2) 0 ≡ c
  pub third : get_or xs (4 * k + 3) 0 ≡ d

four : (xs : List ℕ) (k a b c d : ℕ) → 4 * k + 3 < length xs → Four (four_set xs k a b c d) k a b c d
four xs k a b c d inside =
    let xa = set xs (4 * k) a in
    let xb = set xa (4 * k + 1) b in
    let xc = set xb (4 * k + 2) c in
    let la = length-set xs (4 * k) a in
    let lb = length-set xa (4 * k + 1) b in
    let lc = length-set xb (4 * k + 2) c in
    record {
      zeroth = get_or-set_other xc (4 * k + 3) (4 * k) d 0 (omega arith) ∙ (get_or-set_other xb (4 * k + 2) (4 * k) c 0 (omega arith) ∙ (get_or-set_other xa (4 * k + 1) (4 * k) b 0 (omega arith) ∙ get_or-set_same xs (4 * k) a 0 (omega arith)));
      first = get_or-set_other xc (4 * k + 3) (4 * k + 1) d 0 (omega arith) ∙ (get_or-set_other xb (4 * k + 2) (4 * k + 1) c 0 (omega arith) ∙ get_or-set_same xa (4 * k + 1) b 0 (omega arith));
      second = get_or-set_other xc (4 * k + 3) (4 * k + 2) d 0 (omega arith) ∙ get_or-set_same xb (4 * k + 2) c 0 (omega arith);
      third = get_or-set_same xc (4 * k + 3) d 0 (omega arith);
    }

at_turn_one : (f : Turn → ℕ) (x : ℕ) (t : Turn) → at_turn f x (t ∷ []) ≡ (if t.from == x then f t else 0)
unfolding at_turn
at_turn_one f x t = sum_by_push (λ (t : Turn). if t.from == x then f t else 0) [] t ∙ zero_plus (if t.from == x then f t else 0)
  where
    zero_plus : (n : ℕ) → 0 + n ≡ n
    zero_plus n = omega arith

-- a word with what a turn adds: at the turn's place so much more, else the same
word_more : (f : Turn → ℕ) (lo k i : ℕ) (t : Turn) (old new : ℕ) → t.from ≡ lo + k
    → (i ≡ k → new ≡ old + f t) → (i ≢ k → new ≡ old) → new ≡ old + at_turn f (lo + i) (t ∷ [])
word_more f lo k i t old new at here there =
    by_test (t.from == (lo + i)) (at_turn_one f (lo + i) t) (λ same. grind (arith, nat_tests)) (λ other. grind (arith, nat_tests))
  where
    by_test : (b : Bool) → at_turn f (lo + i) (t ∷ []) ≡ (if b then f t else 0) → (b ≡ true → i ≡ k) → (b ≡ false → i ≢ k) → new ≡ old + at_turn f (lo + i) (t ∷ [])
    by_test true push same other = let e = here (same refl) in omega (arith, push, e)
    by_test false push same other = let e = there (other refl) in omega (arith, push, e)

split : (i k : ℕ) → (i ≡ k) ⊎ ((i < k) ⊎ (k < i))
split i k = grind arith

apart : (i k r : ℕ) → i ≢ k → r < 4 → (4 * i + r < 4 * k) ⊎ (4 * k + 3 < 4 * i + r)
apart i k r other l = elim (split i k) [ inl e ↦ absurd (other e) | inr o ↦ elim o [ inl a ↦ inl (omega arith) | inr b ↦ inr (omega arith) ] ]

first_apart : (i k : ℕ) → i ≢ k → (4 * i < 4 * k) ⊎ (4 * k + 3 < 4 * i)
first_apart i k other = elim (split i k) [ inl e ↦ absurd (other e) | inr o ↦ elim o [ inl a ↦ inl (omega arith) | inr b ↦ inr (omega arith) ] ]

pub added_more : (lo : ℕ) (t : Turn) (xs : List ℕ) (k a b c d w : ℕ) → lo ≤ t.from → k ≡ t.from - lo → 4 * k + 3 < length xs → w ≡ t.weight
    → a ≡ get_or xs (4 * k) 0 + 1
    → b ≡ get_or (set xs (4 * k) a) (4 * k + 1) 0 + w
    → c ≡ get_or (set (set xs (4 * k) a) (4 * k + 1) b) (4 * k + 2) 0 + t.lost
    → d ≡ get_or (set (set (set xs (4 * k) a) (4 * k + 1) b) (4 * k + 2) c) (4 * k + 3) 0 + t.gained
    → Added lo (t ∷ []) xs (four_set xs k a b c d)
added_more lo t xs k a b c d w from is_k inside is_w is_a is_b is_c is_d =
    let new = four_set xs k a b c d in
    let written = four xs k a b c d inside in
    let at : t.from ≡ lo + k = omega arith in
    let long : length new ≡ length xs = length-set _ (4 * k + 3) d ∙ (length-set _ (4 * k + 2) c ∙ (length-set _ (4 * k + 1) b ∙ length-set xs (4 * k) a)) in
    let was_b = get_or-set_other xs (4 * k) (4 * k + 1) a 0 (omega arith) in
    let was_c = get_or-set_other _ (4 * k + 1) (4 * k + 2) b 0 (omega arith) ∙ get_or-set_other xs (4 * k) (4 * k + 2) a 0 (omega arith) in
    let was_d = get_or-set_other _ (4 * k + 2) (4 * k + 3) c 0 (omega arith) ∙ (get_or-set_other _ (4 * k + 1) (4 * k + 3) b 0 (omega arith) ∙ get_or-set_other xs (4 * k) (4 * k + 3) a 0 (omega arith)) in
    record {
      long = long;
      classes = λ i l. word_more (λ t. 1) lo k i t (get_or xs (4 * i) 0) (get_or new (4 * i) 0) at
          (λ same. rw same (omega (arith, written.zeroth, is_a))) (λ other. elsewhere xs k a b c d (4 * i) (first_apart i k other));
      deals = λ i l. word_more (λ t. t.weight) lo k i t (get_or xs (4 * i + 1) 0) (get_or new (4 * i + 1) 0) at
          (λ same. rw same (omega (arith, written.first, is_b, was_b))) (λ other. elsewhere xs k a b c d (4 * i + 1) (apart i k 1 other (omega arith)));
      lost = λ i l. word_more (λ t. t.lost) lo k i t (get_or xs (4 * i + 2) 0) (get_or new (4 * i + 2) 0) at
          (λ same. rw same (omega (arith, written.second, is_c, was_c))) (λ other. elsewhere xs k a b c d (4 * i + 2) (apart i k 2 other (omega arith)));
      gained = λ i l. word_more (λ t. t.gained) lo k i t (get_or xs (4 * i + 3) 0) (get_or new (4 * i + 3) 0) at
          (λ same. rw same (omega (arith, written.third, is_d, was_d))) (λ other. elsewhere xs k a b c d (4 * i + 3) (apart i k 3 other (omega arith)));
    }

-- turns, and then more
pub added_then : (lo : ℕ) (a b : List Turn) (x y z : List ℕ) → Added lo a x y → Added lo b y z → Added lo (a ++ b) x z
added_then lo a b x y z p q = record {
  long = q.long ∙ p.long;
  classes = λ i l. let e = at_turn-append (λ t. 1) (lo + i) a b in let f = p.classes i l in let g = q.classes i (omega (arith, p.long)) in omega arith;
  deals = λ i l. let e = at_turn-append (λ t. t.weight) (lo + i) a b in let f = p.deals i l in let g = q.deals i (omega (arith, p.long)) in omega arith;
  lost = λ i l. let e = at_turn-append (λ t. t.lost) (lo + i) a b in let f = p.lost i l in let g = q.lost i (omega (arith, p.long)) in omega arith;
  gained = λ i l. let e = at_turn-append (λ t. t.gained) (lo + i) a b in let f = p.gained i l in let g = q.gained i (omega (arith, p.long)) in omega arith;
}

-- ---- the turns of a class, one by one

-- some turns were added, and these segments are left, the first of them in force
pub record Going (lo w : ℕ) (segments left : List Segment) (old now : List ℕ) : Type 0 where
  pub front : List Turn
  pub all : turns_in w segments ≡ front ++ turns_in w left
  pub added : Added lo front old now
  pub climbs_on : climbing left ≡ true

pub going_start : (lo w : ℕ) (segments : List Segment) (old : List ℕ) → climbing segments ≡ true → Going lo w segments segments old old
unfolding at_turn
going_start lo w segments old h = record {
  front = [];
  all = refl;
  added = record { long = refl; classes = λ i l. omega arith; deals = λ i l. omega arith; lost = λ i l. omega arith; gained = λ i l. omega arith };
  climbs_on = h;
}

-- what the next turn needs, and what it leaves
pub record NextTurn (lo w : ℕ) (segments : List Segment) (s t : Segment) (more : List Segment) (old now : List ℕ) : Type 0 where
  pub base : t.base ≤ s.base
  pub slope : s.slope ≤ t.slope
  pub lost : w * (s.base - t.base) < 2 ^ 64
  pub gained : w * (t.slope - s.slope) < 2 ^ 64
  pub classes : get_or now (4 * (t.from - lo)) 0 + 1 < 2 ^ 64
  pub deals : get_or now (4 * (t.from - lo) + 1) 0 + w < 2 ^ 64
  pub lost_fits : get_or now (4 * (t.from - lo) + 2) 0 + w * (s.base - t.base) < 2 ^ 64
  pub gained_fits : get_or now (4 * (t.from - lo) + 3) 0 + w * (t.slope - s.slope) < 2 ^ 64
  pub leaves : (new : List ℕ) → Added lo (change w s t ∷ []) now new → Going lo w segments (t ∷ more) old new

-- what a word is to be, where one turn at this payment is still to come
word_room : (f : Turn → ℕ) (x : ℕ) (all front rest : List Turn) (t : Turn) (old now : ℕ) → all ≡ front ++ t ∷ rest → t.from ≡ x → old + at_turn f x all < 2 ^ 64 → now ≡ old + at_turn f x front → now + f t < 2 ^ 64
word_room f x all front rest t old now is at room was =
    let parts : at_turn f x all ≡ at_turn f x front + at_turn f x (t ∷ rest) = ap (at_turn f x) is ∙ at_turn-append f x front (t ∷ rest) in
    let here = turn_here f x t rest at in
    omega arith

pub next_turn : (lo w : ℕ) (segments : List Segment) (s t : Segment) (more : List Segment) (old now : List ℕ) → lo ≤ t.from → 4 * (t.from - lo) + 3 < length old → HasRoom lo (turns_in w segments) old
    → Going lo w segments (s ∷ t ∷ more) old now → NextTurn lo w segments s t more old now
unfolding turns_in climbing
next_turn lo w segments s t more old now from inside room so =
    let c = climb s t more so.climbs_on in
    let turn = change w s t in
    let is : turns_in w segments ≡ so.front ++ turn ∷ turns_from w t more = so.all ∙ ap (λ (ts : List Turn). so.front ++ ts) (turns-cons w s t more) in
    let k = t.from - lo in
    let at : t.from ≡ lo + k = omega arith in
    let classes = word_room (λ t. 1) (lo + k) (turns_in w segments) so.front (turns_from w t more) turn (get_or old (4 * k) 0) (get_or now (4 * k) 0) is at (room.classes k inside) (so.added.classes k inside) in
    let deals = word_room (λ t. t.weight) (lo + k) (turns_in w segments) so.front (turns_from w t more) turn (get_or old (4 * k + 1) 0) (get_or now (4 * k + 1) 0) is at (room.deals k inside) (so.added.deals k inside) in
    let lost = word_room (λ t. t.lost) (lo + k) (turns_in w segments) so.front (turns_from w t more) turn (get_or old (4 * k + 2) 0) (get_or now (4 * k + 2) 0) is at (room.lost k inside) (so.added.lost k inside) in
    let gained = word_room (λ t. t.gained) (lo + k) (turns_in w segments) so.front (turns_from w t more) turn (get_or old (4 * k + 3) 0) (get_or now (4 * k + 3) 0) is at (room.gained k inside) (so.added.gained k inside) in
    record {
      base = c.base;
      slope = c.slope;
      lost = omega (arith, lost);
      gained = omega (arith, gained);
      classes = classes;
      deals = deals;
      lost_fits = lost;
      gained_fits = gained;
      leaves = λ new more_added. record {
        front = so.front ++ turn ∷ [];
        all = is ∙ sym (append_assoc so.front (turn ∷ []) (turns_from w t more));
        added = added_then lo so.front (turn ∷ []) old now new so.added more_added;
        climbs_on = c.rest;
      };
    }

more_is : (i : ℕ) → suc i ≡ i + 1
more_is i = omega arith

abbrev pub nowhere : Segment
nowhere = record { from = 0; mask = 0; base = 0; slope = 0 }

-- what the turn between the neighbours before place i needs
pub going_at : (lo w : ℕ) (segments : List Segment) (old now : List ℕ) (i : ℕ) → 1 ≤ i → i < length segments
    → All (λ (s : Segment). (lo ≤ s.from) × (4 * (s.from - lo) + 3 < length old)) segments → HasRoom lo (turns_in w segments) old → Going lo w segments (drop (i - 1) segments) old now
    → NextTurn lo w segments (get_or segments (i - 1) nowhere) (get_or segments i nowhere) (drop (i + 1) segments) old now
going_at lo w segments old now i some inside within room so =
    let here = All-get_or (λ (s : Segment). (lo ≤ s.from) × (4 * (s.from - lo) + 3 < length old)) segments i nowhere inside within in
    let again : suc (i - 1) ≡ i = omega arith in
    let next : drop (suc i) segments ≡ drop (i + 1) segments = ap (λ (n : ℕ). drop n segments) (more_is i) in
    let two : drop (i - 1) segments ≡ get_or segments (i - 1) nowhere ∷ get_or segments i nowhere ∷ drop (i + 1) segments =
    drop-cons segments (i - 1) nowhere (omega arith) ∙ ap (λ (ss : List Segment). get_or segments (i - 1) nowhere ∷ ss) (ap (λ (n : ℕ). drop n segments) again ∙ (drop-cons segments i nowhere inside ∙ ap (λ (ss : List Segment). get_or segments i nowhere ∷ ss) next)) in
    next_turn lo w segments (get_or segments (i - 1) nowhere) (get_or segments i nowhere) (drop (i + 1) segments) old now here.0 here.1 room (subst (λ (left : List Segment). Going lo w segments left old now) two so)

-- where at most one segment is left, all turns were added
pub going_end : (lo w : ℕ) (segments left : List Segment) (old now : List ℕ) → length left ≤ 1 → Going lo w segments left old now → Added lo (turns_in w segments) old now
unfolding turns_in turns_from
going_end lo w segments [] old now few so = rw (so.all, append-nil so.front) so.added
going_end lo w segments (s ∷ []) old now few so = rw (so.all, append-nil so.front) so.added
going_end lo w segments (s ∷ t ∷ more) old now few so = absurd (omega arith)

pub going_same : (lo w : ℕ) (segments a b : List Segment) (old now : List ℕ) → b ≡ a → Going lo w segments a old now → Going lo w segments b old now
going_same lo w segments a b old now e so = subst (λ (left : List Segment). Going lo w segments left old now) (sym e) so

pub drop_next : (segments : List Segment) (i : ℕ) → i < length segments → drop (i + 1 - 1) segments ≡ get_or segments i nowhere ∷ drop (i + 1) segments
drop_next segments i inside = let e : i + 1 - 1 ≡ i = omega arith in ap (λ (n : ℕ). drop n segments) e ∙ (drop-cons segments i nowhere inside ∙ ap (λ (n : ℕ). get_or segments i nowhere ∷ drop n segments) (more_is i))

pub few_left : (segments : List Segment) (i : ℕ) → length segments ≤ i → length (drop (i - 1) segments) ≤ 1
few_left segments i past = let e = length-drop (i - 1) segments in omega arith
