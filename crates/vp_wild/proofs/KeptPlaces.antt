-- Pay lines that are kept are those of all hands of their places.
use Rattle.std.proofs.Common.{◌≡◌, ◌⊎◌, inl, inr, ℕ, zero, suc, ◌+◌, ◌*◌, ◌<◌, ◌≤◌, Bool, true, false, cond, List, length, length-set, get_or, set, replicate, refl, ap, sym, subst, ◌∙◌, arith, Option, None, Some}
use Rattle.std.specs.Prelude.{IfSome, position, ltb}
use Rattle.std.specs.List.{position_or_len}
use Rattle.std.specs.Option.{unwrap_or}
use Rattle.vp_pay.specs.declared.table.PayLine.{PayLine}
use Rattle.std.proofs.lemmas.Bool.{cases_eq, cases_Bool, ltb-true}
use Rattle.std.proofs.lemmas.List.{length-replicate, get_or-set_same, get_or-set_other}
use Rattle.vp_pay.specs.declared.table.PayTable.{PayTable}
use Rattle.vp_rank.specs.Counts.{one_suit}
use Rattle.vp_rank.specs.Wilds.{naturals}
use Rattle.vp_sets.specs.Index.{IsSet, set_index}
use Rattle.vp_sets.proofs.Colex.{set_below}
use Rattle.vp_wild.specs.Alike.{Alike}
use Rattle.vp_wild.specs.Payment.{first_line, hits, line, pay}
use Rattle.vp_wild.proofs.AlikeHands.{alike_line}
use Rattle.vp_wild.proofs.ByShape.{mask_one_suit, pay_none}
use Rattle.vp_wild.specs.Kept.{AreKept, ArePaid, slot}
use Rattle.vp_wild.specs.ByCounts.{at_most_one_suit}
use Rattle.vp_wild.specs.Places.{AreSuitBits, place_of, raised, suits_by}
use Rattle.vp_wild.proofs.Raised.{naturals_told, ranks_told, wilds_told}
use Rattle.vp_wild.proofs.SuitBits.{suits_masked}

flag : Bool → ℕ
flag b = cond b 1 0

-- a place tells the row of ranks and whether the natural cards have one suit
flags_told : (m n : ℕ) (a b : Bool) → 2 * m + flag a ≡ 2 * n + flag b → (m ≡ n) × (a ≡ b)
unfolding flag
flags_told m n true true e = (omega arith, refl)
flags_told m n false false e = (omega arith, refl)
flags_told m n true false e = absurd (omega arith)
flags_told m n false true e = absurd (omega arith)

-- hands with one place are alike
place_tells : (w : Option ℕ) (s t : List ℕ) → IsSet 54 s → IsSet 54 t → length s ≡ 5 → length t ≡ 5 → place_of w s ≡ place_of w t → Alike w s t
unfolding place_of flag
place_tells w s t h g five also e =
    let told = flags_told (set_index (raised 0 s)) (set_index (raised 0 t)) (one_suit (naturals w s)) (one_suit (naturals w t)) e in
    let same = ranks_told s t h g five also told.0 in
    record { wilds = wilds_told w s t same; ranks = λ r. naturals_told w r s t same; suit = told.1 }

-- the bits tell the place
pub place_told : (w : Option ℕ) (bits s : List ℕ) → AreSuitBits w bits → IsSet 54 s → 2 * set_index (raised 0 s) + cond (at_most_one_suit (suits_by bits s)) 1 0 ≡ place_of w s
unfolding place_of
place_told w bits s are h =
    ap (λ b. 2 * set_index (raised 0 s) + cond b 1 0) (mask_one_suit (suits_by bits s) (naturals w s) (suits_masked w bits s are (set_below 54 s h)))

-- the same, for the test as the code has it
pub place_is : (w : Option ℕ) (bits s : List ℕ) (one : Bool) (index place : ℕ) → AreSuitBits w bits → IsSet 54 s → one ≡ at_most_one_suit (suits_by bits s) → index ≡ set_index (raised 0 s) → place ≡ 2 * index + cond one 1 0 → place ≡ place_of w s
place_is w bits s one index place are h e i p = p ∙ ap (λ n. 2 * n + cond one 1 0) i ∙ ap (λ b. 2 * set_index (raised 0 s) + cond b 1 0) e ∙ place_told w bits s are h

-- nothing is kept
pub none_kept : (table : PayTable) → AreKept table (replicate 17136 None)
none_kept table = record { room = length-replicate {A = Option ℕ} 17136 None; told = λ hand h five. at (λ found. found ≡ slot table hand) (place_of table.wild hand) 17136 }
  where
    at : (P : ℕ → Type 0) (i n : ℕ) → IfSome (get_or (replicate n None) i None) P
    at P i zero = tt
    at P zero (suc n) = tt
    at P (suc i) (suc n) = at P i n

-- a slot is put among those that are kept
pub kept_more : (table : PayTable) (kept : List (Option ℕ)) (hand : List ℕ) (place found : ℕ) → place < 17136 → AreKept table kept
    → IsSet 54 hand → length hand ≡ 5 → place ≡ place_of table.wild hand → found ≡ slot table hand → AreKept table (set kept place (Some found))
kept_more table kept hand place found small k h five at e = record {
  room = length-set kept place (Some found) ∙ k.room;
  told = λ other g also. one other g also (cases_eq (place_of table.wild other) place);
}
  where
    room : place < length kept
    room = omega (arith, k.room)

    one : (other : List ℕ) → IsSet 54 other → length other ≡ 5 → (place_of table.wild other ≡ place) ⊎ (place_of table.wild other ≡ place → ⊥)
        → IfSome (get_or (set kept place (Some found)) (place_of table.wild other) None) (λ p. p ≡ slot table other)
    one other g also (inl same) =
        let here : get_or (set kept place (Some found)) (place_of table.wild other) None ≡ Some found =
        ap (λ i. get_or (set kept place (Some found)) i None) same ∙ get_or-set_same kept place (Some found) None room in
        let alike : Alike table.wild hand other = place_tells table.wild hand other h g five also (sym at ∙ sym same) in
        subst (λ (o : Option ℕ). IfSome o (λ p. p ≡ slot table other)) (sym here) (e ∙ ap (λ (o : Option ℕ). unwrap_or o 32) (alike_line table hand other five also alike))
    one other g also (inr ne) =
        subst (λ (o : Option ℕ). IfSome o (λ p. p ≡ slot table other)) (sym (get_or-set_other kept place (place_of table.wild other) (Some found) None ne)) (k.told other g also)

-- a slot that is kept
pub kept_at : (table : PayTable) (kept : List (Option ℕ)) (hand : List ℕ) (place found : ℕ) → AreKept table kept
    → IsSet 54 hand → length hand ≡ 5 → place ≡ place_of table.wild hand → get_or kept place None ≡ Some found → found ≡ slot table hand
kept_at table kept hand place found k h five at e =
    subst (λ (o : Option ℕ). IfSome o (λ p. p ≡ slot table hand)) (ap (λ i. get_or kept i None) (sym at) ∙ e) (k.told hand h five)

-- the place of a line is one of the table's
first_inside : (test : PayLine → Bool) (lines : List PayLine) → IfSome (position test lines) (λ i. i < length lines)
first_inside test lines =
    let at = position_or_len test lines in
    elim (cases_Bool (ltb at (length lines))) [
      | inl inside ↦ subst (λ (b : Bool). IfSome (cond b (Some at) None) (λ i. i < length lines)) (sym inside) (ltb-true at (length lines) inside)
      | inr past ↦ subst (λ (b : Bool). IfSome (cond b (Some at) None) (λ i. i < length lines)) (sym past) tt
    ]

pub line_inside : (table : PayTable) (hand : List ℕ) (found : Option ℕ) → found ≡ line table hand → IfSome found (λ i. i < length table.lines.items)
unfolding first_line
line_inside table hand found is = subst (λ (o : Option ℕ). IfSome o (λ i. i < length table.lines.items)) (sym is) (first_inside (λ l. hits table.wild l hand) table.lines.items)

-- a slot that is one of the table's lines is the line that is hit
pub slot_some : (table : PayTable) (hand : List ℕ) (found lines : ℕ) → found ≡ slot table hand → lines ≤ 32 → found < lines → Some found ≡ line table hand
unfolding first_line
slot_some table hand found lines is few l = at (line table hand) is
  where
    at : (o : Option ℕ) → found ≡ unwrap_or o 32 → Some found ≡ o
    at None e = absurd (omega arith)
    at (Some place) e = ap (λ i. Some i) e

-- another is that of no line
pub slot_none : (table : PayTable) (hand : List ℕ) (found lines : ℕ) → found ≡ slot table hand → lines ≡ length table.lines.items → lines ≤ found → None ≡ line table hand
slot_none table hand found lines is all l = at (line table hand) (line_inside table hand (line table hand) refl) is
  where
    at : (o : Option ℕ) → IfSome o (λ i. i < length table.lines.items) → found ≡ unwrap_or o 32 → None ≡ o
    at None inside e = refl
    at (Some place) inside e = absurd (omega arith)

-- ---- what is paid at the slots

-- a table has at most 32 lines, so that the slots are the places of 33 numbers
pub slot_small : (table : PayTable) (hand : List ℕ) (found : ℕ) → length table.lines.items ≤ 32 → found ≡ slot table hand → found < 33
slot_small table hand found few is = at (line table hand) (line_inside table hand (line table hand) refl) is
  where
    at : (o : Option ℕ) → IfSome o (λ i. i < length table.lines.items) → found ≡ unwrap_or o 32 → found < 33
    at None inside e = omega arith
    at (Some place) inside e = omega (arith, few)

pub paid_slots : (table : PayTable) (coin : ℕ) (pays : List ℕ) → length table.lines.items ≤ 32
    → ((hand : List ℕ) (place : ℕ) → place < length table.lines.items → line table hand ≡ Some place → get_or pays place 0 ≡ pay table coin hand) → get_or pays 32 0 ≡ 0 → ArePaid table coin pays
paid_slots table coin pays few each none = record {
  few = few;
  told = λ hand. at hand (line table hand) refl (line_inside table hand (line table hand) refl);
}
  where
    at : (hand : List ℕ) (o : Option ℕ) → o ≡ line table hand → IfSome o (λ i. i < length table.lines.items) → get_or pays (slot table hand) 0 ≡ pay table coin hand
    at hand None e inside = ap (λ (o : Option ℕ). get_or pays (unwrap_or o 32) 0) (sym e) ∙ none ∙ sym (pay_none table coin hand (sym e))
    at hand (Some place) e inside = ap (λ (o : Option ℕ). get_or pays (unwrap_or o 32) 0) (sym e) ∙ each hand place inside (sym e)
