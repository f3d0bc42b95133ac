-- What the words tell are the pieces, and the piece in force has the sums in force.
use Rattle.std.proofs.Common.{◌≡◌, ◌⊎◌, inl, inr, ℕ, zero, suc, ◌+◌, ◌*◌, ◌-◌, ◌<◌, ◌≤◌, Bool, true, false, List, [], ◌∷◌, ◌++◌, length, map, refl, ap, sym, ◌∙◌, arith}
use Rattle.std.specs.Prelude.{if◌then◌else◌, ◌==◌, nat_le, nat_lt, sum_by, filter, flat_map, slice_index}
use Rattle.std.specs.List.{range_with_len}
use Rattle.std.proofs.lemmas.List.Sums.{sum_by-cons}
use Rattle.std.proofs.lemmas.Bool.Decides.{nat_tests}
use Rattle.vp_text.specs.Written.{written, line_of}
use Rattle.vp_meter.specs.declared.piece.Piece.{Piece}
use Rattle.vp_meter.specs.declared.tallies.Turn.{Turn}
use Rattle.vp_meter.specs.Pieces.{Graph, base_in, slope_in, classes_at, deals_at, piece_at, breaks, piece_in_force, piece_words}
use Rattle.vp_meter.specs.Tallies.{AreTallied, at_turn, begun, next_piece, turns_of, told}
use Rattle.vp_meter.proofs.Graphs.{Climbing, begun_is, dealt_is, steps}

-- the payments behind x: the next, if a segment begins there, and the others
breaks_next : (graphs : List Graph) (x room : ℕ) → breaks graphs x (suc room) ≡ (if nat_lt 0 (classes_at (suc x) graphs) then suc x ∷ breaks graphs (suc x) room else breaks graphs (suc x) room)
breaks_next graphs x room =
    let passes = λ (y : ℕ). nat_lt 0 (classes_at y graphs) in
    let one : suc x + 1 ≡ suc (suc x) = omega arith in
    ap (λ (m : ℕ). if passes (suc x) then suc x ∷ filter passes (range_with_len m room) else filter passes (range_with_len m room)) one

map_if : (b : Bool) (f : ℕ → Piece) (x : ℕ) (xs : List ℕ) → map f (if b then x ∷ xs else xs) ≡ (if b then f x ∷ map f xs else map f xs)
map_if true f x xs = refl
map_if false f x xs = refl

abbrev the_piece : ℕ → ℕ → ℕ → ℕ → ℕ → Piece
the_piece f c d b s = record { from = f; classes = c; deals = d; base = b; slope = s }

same_if : (b c : Bool) (p q : Piece) (t u : List Piece) → b ≡ c → p ≡ q → t ≡ u → (if b then p ∷ t else t) ≡ (if c then q ∷ u else u)
same_if b c p q t u is_b is_p is_t = rw (is_b, is_p, is_t) refl

same_piece : (f g c d e h b k s l : ℕ) → f ≡ g → c ≡ d → e ≡ h → b ≡ k → s ≡ l
    → the_piece f c e b s ≡ the_piece g d h k l
same_piece f g c d e h b k s l is_f is_c is_e is_b is_s = rw (is_f, is_c, is_e, is_b, is_s) refl

pub told_is : (graphs : List Graph) (counts : List ℕ) (lo i base slope room : ℕ) → Climbing graphs → AreTallied lo (flat_map turns_of graphs) counts
    → 4 * (i + room) + 3 < length counts → base ≡ sum_by (base_in (lo + i)) graphs → slope ≡ sum_by (slope_in (lo + i)) graphs
    → told lo counts i base slope room ≡ map (piece_at graphs) (breaks graphs (lo + i) room)
unfolding told
told_is graphs counts lo i base slope zero climbing so inside is_base is_slope = refl
told_is graphs counts lo i base slope (suc room) climbing so inside is_base is_slope =
    let T = flat_map turns_of graphs in
    let e : lo + suc i ≡ suc (lo + i) = omega arith in
    let word_0 : slice_index counts (4 * suc i) ≡ classes_at (suc (lo + i)) graphs = so.classes (suc i) (omega arith) ∙ ap (λ (n : ℕ). begun n T) e ∙ begun_is (suc (lo + i)) graphs climbing in
    let word_1 : slice_index counts (4 * suc i + 1) ≡ deals_at (suc (lo + i)) graphs = so.deals (suc i) (omega arith) ∙ ap (λ (n : ℕ). at_turn (λ t. t.weight) n T) e ∙ dealt_is (suc (lo + i)) graphs climbing in
    let word_2 : slice_index counts (4 * suc i + 2) ≡ at_turn (λ t. t.lost) (suc (lo + i)) T = so.lost (suc i) (omega arith) ∙ ap (λ (n : ℕ). at_turn (λ t. t.lost) n T) e in
    let word_3 : slice_index counts (4 * suc i + 3) ≡ at_turn (λ t. t.gained) (suc (lo + i)) T = so.gained (suc i) (omega arith) ∙ ap (λ (n : ℕ). at_turn (λ t. t.gained) n T) e in
    let s = steps (lo + i) graphs climbing in
    let next_base : base - slice_index counts (4 * suc i + 2) ≡ sum_by (base_in (suc (lo + i))) graphs = omega (arith, is_base, word_2, s.base) in
    let next_slope : slope + slice_index counts (4 * suc i + 3) ≡ sum_by (slope_in (suc (lo + i))) graphs = omega (arith, is_slope, word_3, s.slope) in
    let ih = told_is graphs counts lo (suc i) (base - slice_index counts (4 * suc i + 2)) (slope + slice_index counts (4 * suc i + 3)) room climbing so (omega arith)
    (next_base ∙ ap (λ (n : ℕ). sum_by (base_in n) graphs) (sym e)) (next_slope ∙ ap (λ (n : ℕ). sum_by (slope_in n) graphs) (sym e)) in
    same_if (nat_lt 0 (slice_index counts (4 * suc i))) (nat_lt 0 (classes_at (suc (lo + i)) graphs)) _ (piece_at graphs (suc (lo + i))) _ (map (piece_at graphs) (breaks graphs (suc (lo + i)) room))
    (ap (λ (n : ℕ). nat_lt 0 n) word_0) (same_piece _ _ _ _ _ _ _ _ _ _ e word_0 word_1 next_base next_slope) (ih ∙ ap (λ (n : ℕ). map (piece_at graphs) (breaks graphs n room)) e)
    ∙ (sym (map_if (nat_lt 0 (classes_at (suc (lo + i)) graphs)) (piece_at graphs) (suc (lo + i)) (breaks graphs (suc (lo + i)) room))
    ∙ ap (map (piece_at graphs)) (sym (breaks_next graphs (lo + i) room)))

-- ---- the piece in force

-- the sums of a piece are those in force at x
pub record Tells (graphs : List Graph) (x : ℕ) (p : Piece) : Type 0 where
  pub bases : p.base ≡ sum_by (base_in x) graphs
  pub slopes : p.slope ≡ sum_by (slope_in x) graphs

force_passed : (x : ℕ) (p q : Piece) (qs : List Piece) → q.from ≤ x → piece_in_force x p (q ∷ qs) ≡ piece_in_force x q qs
unfolding piece_in_force
force_passed x p q qs l = let e : nat_le q.from x ≡ true = grind (arith, nat_tests) in ap (λ (b : Bool). piece_in_force x (if b then q else p) qs) e

force_ahead : (x : ℕ) (p q : Piece) (qs : List Piece) → x < q.from → piece_in_force x p (q ∷ qs) ≡ piece_in_force x p qs
unfolding piece_in_force
force_ahead x p q qs l = let e : nat_le q.from x ≡ false = grind (arith, nat_tests) in ap (λ (b : Bool). piece_in_force x (if b then q else p) qs) e

-- no piece behind y is in force at y or before
none_in_force : (graphs : List Graph) (x y room : ℕ) (p : Piece) → x ≤ y → piece_in_force x p (map (piece_at graphs) (breaks graphs y room)) ≡ p
unfolding piece_in_force
none_in_force graphs x y zero p l = refl
none_in_force graphs x y (suc room) p l =
    let ih = none_in_force graphs x (suc y) room p (omega arith) in
    ap (λ (ys : List ℕ). piece_in_force x p (map (piece_at graphs) ys)) (breaks_next graphs y room) ∙ by_test (nat_lt 0 (classes_at (suc y) graphs)) ih
  where
    by_test : (b : Bool) → piece_in_force x p (map (piece_at graphs) (breaks graphs (suc y) room)) ≡ p
        → piece_in_force x p (map (piece_at graphs) (if b then suc y ∷ breaks graphs (suc y) room else breaks graphs (suc y) room)) ≡ p
    by_test true ih = force_ahead x p (piece_at graphs (suc y)) (map (piece_at graphs) (breaks graphs (suc y) room)) (omega arith) ∙ ih
    by_test false ih = ih

-- where no turn is, nothing changes
no_change : (f : Turn → ℕ) (x : ℕ) (ts : List Turn) → begun x ts ≡ 0 → at_turn f x ts ≡ 0
unfolding at_turn
no_change f x [] h = refl
no_change f x (t ∷ ts) h = by_test (t.from == x) (sym (sum_by-cons (λ (t : Turn). if t.from == x then 1 else 0) t ts) ∙ h) (sum_by-cons (λ (t : Turn). if t.from == x then f t else 0) t ts) (λ e. no_change f x ts e)
  where
    by_test : (b : Bool) → (if b then 1 else 0) + at_turn (λ t. 1) x ts ≡ 0 → at_turn f x (t ∷ ts) ≡ (if b then f t else 0) + at_turn f x ts → (at_turn (λ t. 1) x ts ≡ 0 → at_turn f x ts ≡ 0) → at_turn f x (t ∷ ts) ≡ 0
    by_test true h is rest = omega arith
    by_test false h is rest = let ih = rest (omega arith) in omega arith

-- where no segment begins, the sums stay
stays : (graphs : List Graph) (y : ℕ) (p : Piece) → Climbing graphs → classes_at (suc y) graphs ≡ 0 → Tells graphs y p → Tells graphs (suc y) p
stays graphs y p climbing none h =
    let no_turn = begun_is (suc y) graphs climbing ∙ none in
    let s = steps y graphs climbing in
    let lost = no_change (λ t. t.lost) (suc y) (flat_map turns_of graphs) no_turn in
    let gained = no_change (λ t. t.gained) (suc y) (flat_map turns_of graphs) no_turn in
    record { bases = omega (arith, h.bases, s.base, lost); slopes = omega (arith, h.slopes, s.slope, gained) }

here_or_later : (x y : ℕ) → y ≤ x → (x ≡ y) ⊎ (suc y ≤ x)
here_or_later x y l = grind arith

force_later : (graphs : List Graph) (x y room : ℕ) (p : Piece) → Climbing graphs → suc y ≤ x → x ≤ y + suc room → Tells graphs y p
    → ((q : Piece) → Tells graphs (suc y) q → Tells graphs x (piece_in_force x q (map (piece_at graphs) (breaks graphs (suc y) room))))
    → Tells graphs x (piece_in_force x p (map (piece_at graphs) (breaks graphs y (suc room))))
force_later graphs x y room p climbing from to h ih =
    rw (breaks_next graphs y room) (by_test (nat_lt 0 (classes_at (suc y) graphs)) (λ no_turn. stays graphs y p climbing (grind (arith, nat_tests)) h))
  where
    by_test : (b : Bool) → (b ≡ false → Tells graphs (suc y) p) → Tells graphs x (piece_in_force x p (map (piece_at graphs) (if b then suc y ∷ breaks graphs (suc y) room else breaks graphs (suc y) room)))
    by_test true same = rw (force_passed x p (piece_at graphs (suc y)) (map (piece_at graphs) (breaks graphs (suc y) room)) from) (ih (piece_at graphs (suc y)) (record { bases = refl; slopes = refl }))
    by_test false same = ih p (same refl)

pub force_tells : (graphs : List Graph) (x y room : ℕ) (p : Piece) → Climbing graphs → y ≤ x → x ≤ y + room → Tells graphs y p
    → Tells graphs x (piece_in_force x p (map (piece_at graphs) (breaks graphs y room)))
force_tells graphs x y zero p climbing from to h = let e : x ≡ y = omega arith in only e
  where
    only : x ≡ y → Tells graphs x (piece_in_force x p (map (piece_at graphs) (breaks graphs y zero)))
    only e = rw e (rw (none_in_force graphs y y zero p (omega arith)) h)
force_tells graphs x y (suc room) p climbing from to h =
    elim (here_or_later x y from) [
      | inl e ↦ rw e (rw (none_in_force graphs y y (suc room) p (omega arith)) h)
      | inr later ↦ force_later graphs x y room p climbing later to h (λ q t. force_tells graphs x (suc y) room q climbing later (omega arith) t)
    ]

-- ---- as the loop reads them

told_more : (lo : ℕ) (counts : List ℕ) (i base slope room : ℕ) (b : Bool) (p : Piece) → p ≡ next_piece lo counts i base slope → nat_lt 0 p.classes ≡ b
    → told lo counts i base slope (suc room) ≡ (if b then p ∷ told lo counts (i + 1) p.base p.slope room else told lo counts (i + 1) p.base p.slope room)
unfolding told
told_more lo counts i base slope room b p is test = rw (← test, is) (ap (λ (j : ℕ). at j) (sym (next i)))
  where
    next : (i : ℕ) → i + 1 ≡ suc i
    next i = omega arith

    at : ℕ → List Piece
    at j =
        if nat_lt 0 (slice_index counts (4 * j))
        then the_piece (lo + j) (slice_index counts (4 * j)) (slice_index counts (4 * j + 1)) (base - slice_index counts (4 * j + 2)) (slope + slice_index counts (4 * j + 3)) ∷ told lo counts j (base - slice_index counts (4 * j + 2)) (slope + slice_index counts (4 * j + 3)) room
        else told lo counts j (base - slice_index counts (4 * j + 2)) (slope + slice_index counts (4 * j + 3)) room

-- the text of the pieces that are left, where one more is put
pub text_put : (lo : ℕ) (counts : List ℕ) (i base slope room left : ℕ) (p : Piece) → p ≡ next_piece lo counts i base slope → 0 < p.classes → room ≡ suc left
    → written (map piece_words (told lo counts i base slope room)) ≡ line_of (piece_words p) ++ written (map piece_words (told lo counts (i + 1) p.base p.slope left))
text_put lo counts i base slope room left p is some e =
    ap (λ (n : ℕ). written (map piece_words (told lo counts i base slope n))) e ∙ ap (λ (ps : List Piece). written (map piece_words ps)) (told_more lo counts i base slope left true p is (grind (arith, nat_tests)))

-- and where none is
pub text_skipped : (lo : ℕ) (counts : List ℕ) (i base slope room left : ℕ) (p : Piece) → p ≡ next_piece lo counts i base slope → p.classes ≡ 0 → room ≡ suc left
    → written (map piece_words (told lo counts i base slope room)) ≡ written (map piece_words (told lo counts (i + 1) p.base p.slope left))
text_skipped lo counts i base slope room left p is none e =
    ap (λ (n : ℕ). written (map piece_words (told lo counts i base slope n))) e ∙ ap (λ (ps : List Piece). written (map piece_words ps)) (told_more lo counts i base slope left false p is (grind (arith, nat_tests)))

pub text_end : (lo : ℕ) (counts : List ℕ) (i base slope room : ℕ) → room ≡ 0 → written (map piece_words (told lo counts i base slope room)) ≡ []
unfolding told
text_end lo counts i base slope room e = ap (λ (n : ℕ). written (map piece_words (told lo counts i base slope n))) e
