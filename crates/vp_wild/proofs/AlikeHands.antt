-- Hands that are alike hit the same pay lines; hands that differ in the order of their cards are alike.
use Rattle.std.proofs.Common.{◌≡◌, ℕ, ◌+◌, ◌-◌, Bool, true, false, cond, not, eqb, ◌&&◌, List, [], ◌∷◌, length, refl, sym, ap, ◌∙◌, arith, Option}
use Rattle.std.proofs.Math.Path.{fun_ext}
use Rattle.std.specs.Prelude.{position, find, slice_index}
use Rattle.std.specs.Option.{option_map_or}
use Rattle.std.specs.List.{count_by}
use Rattle.std.specs.List.Sorted.{IsPermutation}
use Rattle.std.proofs.lemmas.List.Sorted.{sum_by-IsPermutation, length_permutation}
use Rattle.vp_card.specs.Cards.{rank, suit}
use Rattle.vp_rank.specs.Counts.{ranked, suited, one_suit}
use Rattle.vp_rank.specs.Wilds.{is_wild, wilds, naturals}
use Rattle.vp_rank.proofs.BoundedTests.{some_below-same}
use Rattle.vp_rank.proofs.CountLemmas.{tally, count_by-cons, length-naturals}
use Rattle.vp_pay.specs.declared.pattern.Pattern.{Pattern}
use Rattle.vp_pay.specs.declared.table.PayLine.{PayLine}
use Rattle.vp_pay.specs.declared.table.PayTable.{PayTable}
use Rattle.vp_wild.specs.Alike.{Alike}
use Rattle.vp_wild.specs.Patterns.{matches, qualifies}
use Rattle.vp_wild.specs.Payment.{hits, first_line, line, pay}
use Rattle.vp_wild.specs.ByCounts.{matches_by_counts}
use Rattle.vp_wild.proofs.CountTable.{matches-counts}

pub alike_matches : (pattern : Pattern) (w : Option ℕ) (a b : List ℕ) → length a ≡ 5 → length b ≡ 5 → Alike w a b → matches pattern w a ≡ matches pattern w b
alike_matches pattern w a b five also alike =
    matches-counts pattern w a five
    ∙ ap (λ (n : ℕ). matches_by_counts pattern n (λ r. ranked r (naturals w a)) (one_suit (naturals w a))) alike.wilds
    ∙ ap (λ (count : ℕ → ℕ). matches_by_counts pattern (wilds w b) count (one_suit (naturals w a))) (fun_ext alike.ranks)
    ∙ ap (matches_by_counts pattern (wilds w b) (λ r. ranked r (naturals w b))) alike.suit
    ∙ sym (matches-counts pattern w b also)

pub alike_hits : (w : Option ℕ) (a b : List ℕ) → length a ≡ 5 → length b ≡ 5 → Alike w a b → (l : PayLine) → hits w l a ≡ hits w l b
unfolding hits
alike_hits w a b five also alike l =
    ap (λ (n : ℕ). qualifies l.qualifier n && matches l.pattern w a) alike.wilds
    ∙ ap (λ (t : Bool). qualifies l.qualifier (wilds w b) && t) (alike_matches l.pattern w a b five also alike)

pub alike_line : (t : PayTable) (a b : List ℕ) → length a ≡ 5 → length b ≡ 5 → Alike t.wild a b → line t a ≡ line t b
unfolding first_line
alike_line t a b five also alike =
    ap (λ (test : PayLine → Bool). position test t.lines.items) (fun_ext (alike_hits t.wild a b five also alike))

pub alike_pay : (t : PayTable) (coin : ℕ) (a b : List ℕ) → length a ≡ 5 → length b ≡ 5 → Alike t.wild a b → pay t coin a ≡ pay t coin b
unfolding pay
alike_pay t coin a b five also alike =
    ap (λ (test : PayLine → Bool). option_map_or (λ l. slice_index l.pays (coin - 1)) (find test t.lines.items) 0)
    (fun_ext (alike_hits t.wild a b five also alike))

-- a count of natural cards is a count of all cards with a narrower test
pub count_naturals : (p : ℕ → Bool) (w : Option ℕ) (cards : List ℕ) → count_by p (naturals w cards) ≡ count_by (λ c. not (is_wild w c) && p c) cards
count_naturals p w [] = refl
count_naturals p w (c ∷ cs) =
    let before : count_by p (naturals w cs) ≡ count_by (λ c. not (is_wild w c) && p c) cs = count_naturals p w cs in
    let all : count_by (λ c. not (is_wild w c) && p c) (c ∷ cs) ≡ tally (not (is_wild w c) && p c) + count_by (λ c. not (is_wild w c) && p c) cs =
    count_by-cons (λ c. not (is_wild w c) && p c) c cs in
    let first : count_by p (naturals w (c ∷ cs)) ≡ tally (not (is_wild w c) && p c) + count_by p (naturals w cs) = at (not (is_wild w c)) in
    omega arith
  where
    at : (b : Bool) → count_by p (cond b (c ∷ naturals w cs) (naturals w cs)) ≡ tally (b && p c) + count_by p (naturals w cs)
    at true = count_by-cons p c (naturals w cs)
    at false = omega arith

same_count : (p : ℕ → Bool) (a b : List ℕ) → IsPermutation a b → count_by p a ≡ count_by p b
same_count p a b moved = sym (sum_by-IsPermutation (λ c. tally (p c)) a b moved)

-- the order plays no part in a count of natural cards
pub same_naturals : (p : ℕ → Bool) (w : Option ℕ) (a b : List ℕ) → IsPermutation a b → count_by p (naturals w a) ≡ count_by p (naturals w b)
same_naturals p w a b moved =
    count_naturals p w a ∙ same_count (λ c. not (is_wild w c) && p c) a b moved ∙ sym (count_naturals p w b)

-- the order of the cards plays no part
pub alike_order : (w : Option ℕ) (a b : List ℕ) → IsPermutation a b → Alike w a b
unfolding one_suit
alike_order w a b moved =
    let wild : wilds w a ≡ wilds w b = same_count (is_wild w) a b moved in
    let left : length (naturals w a) + wilds w a ≡ length a = length-naturals w a in
    let right : length (naturals w b) + wilds w b ≡ length b = length-naturals w b in
    let whole : length b ≡ length a = length_permutation a b moved in
    let long : length (naturals w a) ≡ length (naturals w b) = omega arith in
    record {
      wilds = wild;
      ranks = λ r. same_naturals (λ c. eqb (rank c) r) w a b moved;
      suit = some_below-same 4 (λ s. eqb (suited s (naturals w a)) (length (naturals w a))) (λ s. eqb (suited s (naturals w b)) (length (naturals w b)))
          (λ s l.
          ap (λ (n : ℕ). eqb n (length (naturals w a))) (same_naturals (λ c. eqb (suit c) s) w a b moved)
          ∙ ap (eqb (suited s (naturals w b))) long);
    }

pub line_order : (t : PayTable) (a b : List ℕ) → length a ≡ 5 → IsPermutation a b → line t a ≡ line t b
line_order t a b five moved = alike_line t a b five (length_permutation a b moved ∙ five) (alike_order t.wild a b moved)

pub pay_order : (t : PayTable) (coin : ℕ) (a b : List ℕ) → length a ≡ 5 → IsPermutation a b → pay t coin a ≡ pay t coin b
pay_order t coin a b five moved = alike_pay t coin a b five (length_permutation a b moved ∙ five) (alike_order t.wild a b moved)
