-- The lines of the holds, put one behind the other.
use Rattle.std.proofs.Common.{◌≡◌, ℕ, zero, suc, ◌+◌, ◌<◌, ◌≤◌, List, [], ◌∷◌, ◌++◌, length, take, drop, drop-cons, get_or, map, refl, sym, ap, ◌∙◌, arith}
use Rattle.std.specs.Prelude.{slice_index}
use Rattle.std.proofs.lemmas.List.{get_or-take, length-take-le}
use Rattle.vp_card.specs.Cards.{held}
use Rattle.vp_sets.specs.Draws.{common}
use Rattle.vp_draws.specs.Draws.{value}
use Rattle.vp_text.specs.Lines.{Word}
use Rattle.vp_text.specs.Written.{line_of, written}
use Rattle.vp_sets.specs.Sets.{deck}
use Rattle.vp_sets.proofs.Decks.{length-deck}
use Rattle.vp_draws.specs.ByLine.{line_draws}
use Rattle.vp_deal.specs.Deal.{Dealt}
use Rattle.vp_holds.specs.Holds.{AreLineDraws, hold_line, hold_words, line_counts, none_count}
use Rattle.vp_holds.proofs.LineShares.{at_place}

-- the next line, and those behind it
pub holds_left : (f : ℕ → List Word) (masks : List ℕ) (place other : ℕ) → place < length masks
    → written (map f (drop place masks)) ≡ line_of (f (get_or masks place other)) ++ written (map f (drop (place + 1) masks))
holds_left f masks place other low =
    let next : suc place ≡ place + 1 = omega arith in
    ap (λ (ms : List ℕ). written (map f ms)) (drop-cons masks place other low ∙ ap (λ n. get_or masks place other ∷ drop n masks) next)

pub no_holds_left : (f : ℕ → List Word) (masks : List ℕ) (place : ℕ) → length masks ≤ place → written (map f (drop place masks)) ≡ []
no_holds_left f masks place high = ap (λ (ms : List ℕ). written (map f ms)) (none masks place high)
  where
    none : (masks : List ℕ) (place : ℕ) → length masks ≤ place → drop place masks ≡ []
    none [] zero high = refl
    none [] (suc k) high = refl
    none (l ∷ ls) zero high = absurd (omega arith)
    none (l ∷ ls) (suc k) high = none ls k (omega arith)

-- a list that has these numbers at its places
same_row : (row other : List ℕ) → length row ≡ length other → ((i : ℕ) → i < length row → get_or row i 0 ≡ get_or other i 0) → row ≡ other
same_row [] [] long same = refl
same_row [] (b ∷ other) long same = absurd (omega arith)
same_row (a ∷ row) [] long same = absurd (omega arith)
same_row (a ∷ row) (b ∷ other) long same =
    ap (λ x. x ∷ row) (same 0 (omega arith)) ∙ ap (λ (xs : List ℕ). b ∷ xs) (same_row row other (omega arith) (λ i l. same (suc i) (omega arith)))

length_map : (f : ℕ → ℕ) (xs : List ℕ) → length (map f xs) ≡ length xs
length_map f [] = refl
length_map f (x ∷ xs) = omega (arith, length_map f xs)

-- the counts of the lines of the table are the front of the row
pub row_front : (d : Dealt) (mask : ℕ) (front : List ℕ) → length front ≡ length d.table.lines.items
    → ((i : ℕ) → i < length front → get_or front i 0 ≡ line_draws d.table i d.hand mask) → front ≡ line_counts d mask
unfolding line_counts
row_front d mask front long same =
    same_row front (map (λ place. line_draws d.table place d.hand mask) (deck (length d.table.lines.items)))
    (omega (arith, length_map (λ place. line_draws d.table place d.hand mask) (deck (length d.table.lines.items)), length-deck (length d.table.lines.items)))
    (λ i l. same i l ∙ sym (at_place (λ place. line_draws d.table place d.hand mask) (length d.table.lines.items) i (omega arith)))

pub counts_length : (d : Dealt) (mask : ℕ) → length (line_counts d mask) ≡ length d.table.lines.items
unfolding line_counts
counts_length d mask = length_map (λ place. line_draws d.table place d.hand mask) (deck (length d.table.lines.items)) ∙ length-deck (length d.table.lines.items)

pub counts_at : (d : Dealt) (mask place : ℕ) → place < length d.table.lines.items → slice_index (line_counts d mask) place ≡ line_draws d.table place d.hand mask
unfolding line_counts
counts_at d mask place l = at_place (λ place. line_draws d.table place d.hand mask) (length d.table.lines.items) place l

-- the line of a hold, out of what was reckoned
pub line_is : (d : Dealt) (mask : ℕ) (kept : List ℕ) (worth under : ℕ) (lines : List ℕ) (none : ℕ) → kept ≡ held mask d.hand → worth ≡ value d.table d.coin d.hand mask → under ≡ common d.table.deck
    → lines ≡ line_counts d mask → none ≡ none_count d mask → hold_words mask kept worth under lines none ≡ hold_line d mask
line_is d mask kept worth under lines none a b c e f = rw (a, b, c, e, f) refl

-- the front of the row of a hold, and its last number
pub row_take : (d : Dealt) (counts : List (List ℕ)) (row : List ℕ) (mask n : ℕ) → AreLineDraws d.table d.hand counts → mask < 32 → n ≡ length d.table.lines.items → n ≤ 32 → row ≡ get_or counts mask [] → length row ≡ 33
    → take n row ≡ line_counts d mask
row_take d counts row mask n are small many few is long =
    let taken : length (take n row) ≡ n = length-take-le n row (omega arith) in
    row_front d mask (take n row) (taken ∙ many) (λ i l. get_or-take n row i 0 (omega arith) ∙ ap (λ (r : List ℕ). get_or r i 0) is ∙ are mask i small (omega arith))

pub row_last : (d : Dealt) (counts : List (List ℕ)) (row : List ℕ) (mask : ℕ) → AreLineDraws d.table d.hand counts → mask < 32 → row ≡ get_or counts mask [] → get_or row 32 0 ≡ none_count d mask
row_last d counts row mask are small is = ap (λ (r : List ℕ). get_or r 32 0) is ∙ are mask 32 small (omega arith)
