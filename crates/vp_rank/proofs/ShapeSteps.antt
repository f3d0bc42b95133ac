-- The shape of one card more.
use Rattle.std.proofs.Common.{◌≡◌, ℕ, ◌+◌, ◌<◌, ◌≤◌, Bool, true, false, cond, not, ltb, eqb, List, [], ◌∷◌, ◌++◌, length, get_or, take, set, slice_index, sym, ap, ◌∙◌, subst, inl, inr, arith, Option}
use Rattle.std.specs.Int.{bit_at}
use Rattle.std.specs.List.{count_by}
use Rattle.std.proofs.lemmas.List.{append-nil, take_more, get_or-set_same, get_or-set_other, length-set}
use Rattle.std.proofs.lemmas.List.Elements.{filter-append}
use Rattle.std.proofs.lemmas.List.Sums.{count_by-le-length, sum_by_push}
use Rattle.std.proofs.lemmas.Bool.{cases_eq, eq-eqb, ne_eqb, lt-ltb}
use Rattle.vp_card.specs.Cards.{rank, suit}
use Rattle.vp_rank.specs.Counts.{ranked, suited}
use Rattle.vp_rank.specs.Shapes.{bit_of, IsSuitMask, IsShape}
use Rattle.vp_rank.specs.Wilds.{is_wild, wilds, naturals}
use Rattle.vp_rank.specs.declared.shape.Shape.{Shape}
use Rattle.vp_rank.proofs.CountLemmas.{tally, length-naturals}

count_by_push : (p : ℕ → Bool) (xs : List ℕ) (x : ℕ) → count_by p (xs ++ x ∷ []) ≡ count_by p xs + tally (p x)
count_by_push p xs x = sum_by_push (λ y. tally (p y)) xs x

-- the natural cards after one card more
more_wild : (w : Option ℕ) (cs : List ℕ) (c : ℕ) → is_wild w c ≡ true → naturals w (cs ++ c ∷ []) ≡ naturals w cs
more_wild w cs c e =
    filter-append (λ x. not (is_wild w x)) cs (c ∷ [])
    ∙ ap (λ (b : Bool). naturals w cs ++ cond (not b) (c ∷ []) []) e
    ∙ append-nil (naturals w cs)

more_natural : (w : Option ℕ) (cs : List ℕ) (c : ℕ) → is_wild w c ≡ false → naturals w (cs ++ c ∷ []) ≡ naturals w cs ++ c ∷ []
more_natural w cs c e =
    filter-append (λ x. not (is_wild w x)) cs (c ∷ [])
    ∙ ap (λ (b : Bool). naturals w cs ++ cond (not b) (c ∷ []) []) e

-- a shape after a wild card
pub shape_wild : (w : Option ℕ) (cs : List ℕ) (c : ℕ) (before after : Shape) → is_wild w c ≡ true → IsShape w cs before
    → after.wilds ≡ before.wilds + 1 → after.counts ≡ before.counts → after.suits ≡ before.suits → IsShape w (cs ++ c ∷ []) after
shape_wild w cs c before after wild is wilds_is counts_is suits_is =
    let same : naturals w (cs ++ c ∷ []) ≡ naturals w cs = more_wild w cs c wild in
    let more : wilds w (cs ++ c ∷ []) ≡ wilds w cs + tally (is_wild w c) = count_by_push (is_wild w) cs c in
    let one : tally (is_wild w c) ≡ 1 = ap tally wild in
    let had : before.wilds ≡ wilds w cs = is.wilds in
    record {
      wilds = omega arith;
      ranks = ap length counts_is ∙ is.ranks;
      counts = λ r l. ap (λ (xs : List ℕ). slice_index xs r) counts_is ∙ is.counts r l ∙ ap (ranked r) (sym same);
      suits =
          subst (λ (m : ℕ). IsSuitMask m (naturals w (cs ++ c ∷ []))) (sym suits_is)
          (subst (λ (l : List ℕ). IsSuitMask before.suits l) (sym same) is.suits);
    }

-- a shape after a card that is not wild
pub shape_natural : (w : Option ℕ) (cs : List ℕ) (c : ℕ) (before after : Shape) → is_wild w c ≡ false → c < 52 → IsShape w cs before
    → after.wilds ≡ before.wilds → after.counts ≡ set before.counts (rank c) (slice_index before.counts (rank c) + 1)
    → (before.suits < 16 → after.suits < 16)
    → ((s : ℕ) → s < 4 → bit_at after.suits s ≡ cond (eqb s (suit c)) 1 (bit_at before.suits s))
    → IsShape w (cs ++ c ∷ []) after
shape_natural w cs c before after plain low is wilds_is counts_is below_is suits_is =
    let same : naturals w (cs ++ c ∷ []) ≡ naturals w cs ++ c ∷ [] = more_natural w cs c plain in
    let more : wilds w (cs ++ c ∷ []) ≡ wilds w cs + tally (is_wild w c) = count_by_push (is_wild w) cs c in
    let none : tally (is_wild w c) ≡ 0 = ap tally plain in
    let had : before.wilds ≡ wilds w cs = is.wilds in
    let inside : rank c < length before.counts = let long : length before.counts ≡ 13 = is.ranks in omega arith in
    record {
      wilds = omega arith;
      ranks = ap length counts_is ∙ length-set before.counts (rank c) (slice_index before.counts (rank c) + 1) ∙ is.ranks;
      counts = λ r l.
          let pushed : ranked r (naturals w cs ++ c ∷ []) ≡ ranked r (naturals w cs) + tally (eqb (rank c) r) = count_by_push (λ x. eqb (rank x) r) (naturals w cs) c in
          let whole : ranked r (naturals w (cs ++ c ∷ [])) ≡ ranked r (naturals w cs ++ c ∷ []) = ap (ranked r) same in
          let old : slice_index before.counts r ≡ ranked r (naturals w cs) = is.counts r l in
          let now : slice_index after.counts r ≡ slice_index (set before.counts (rank c) (slice_index before.counts (rank c) + 1)) r = ap (λ (xs : List ℕ). slice_index xs r) counts_is in
          elim (cases_eq r (rank c)) [
            | inl e ↦
                let one : tally (eqb (rank c) r) ≡ 1 = ap tally (eq-eqb (rank c) r (sym e)) in
                let at : slice_index (set before.counts (rank c) (slice_index before.counts (rank c) + 1)) r ≡ slice_index before.counts (rank c) + 1 =
                subst (λ (x : ℕ). slice_index (set before.counts (rank c) (slice_index before.counts (rank c) + 1)) x ≡ slice_index before.counts (rank c) + 1) (sym e)
                (get_or-set_same before.counts (rank c) (slice_index before.counts (rank c) + 1) 0 inside) in
                let here : slice_index before.counts (rank c) ≡ slice_index before.counts r = ap (slice_index before.counts) (sym e) in
                omega arith
            | inr ne ↦
                let one : tally (eqb (rank c) r) ≡ 0 = ap tally (ne_eqb (rank c) r (λ e. ne (sym e))) in
                let at : slice_index (set before.counts (rank c) (slice_index before.counts (rank c) + 1)) r ≡ slice_index before.counts r =
                get_or-set_other before.counts (rank c) r (slice_index before.counts (rank c) + 1) 0 ne in
                omega arith
          ];
      suits = record {
        below = below_is is.suits.below;
        bits = λ s l.
            let pushed : suited s (naturals w cs ++ c ∷ []) ≡ suited s (naturals w cs) + tally (eqb (suit c) s) = count_by_push (λ x. eqb (suit x) s) (naturals w cs) c in
            let whole : suited s (naturals w (cs ++ c ∷ [])) ≡ suited s (naturals w cs ++ c ∷ []) = ap (suited s) same in
            elim (cases_eq s (suit c)) [
              | inl e ↦
                  let one : tally (eqb (suit c) s) ≡ 1 = ap tally (eq-eqb (suit c) s (sym e)) in
                  let some : 0 < suited s (naturals w (cs ++ c ∷ [])) = omega arith in
                  suits_is s l ∙ ap (λ (b : Bool). cond b 1 (bit_at before.suits s)) (eq-eqb s (suit c) e) ∙ sym (ap bit_of (lt-ltb 0 (suited s (naturals w (cs ++ c ∷ []))) some))
              | inr ne ↦
                  let one : tally (eqb (suit c) s) ≡ 0 = ap tally (ne_eqb (suit c) s (λ e. ne (sym e))) in
                  let kept : suited s (naturals w (cs ++ c ∷ [])) ≡ suited s (naturals w cs) = omega arith in
                  suits_is s l ∙ ap (λ (b : Bool). cond b 1 (bit_at before.suits s)) (ne_eqb s (suit c) ne) ∙ is.suits.bits s l ∙ sym (ap (λ (x : ℕ). bit_of (ltb 0 x)) kept)
            ];
      };
    }

-- the shape of the cards up to the next one
pub shape_next : (w : Option ℕ) (cards : List ℕ) (i c : ℕ) (s : Shape) → i < length cards → c ≡ get_or cards i c → IsShape w (take i cards ++ c ∷ []) s → IsShape w (take (i + 1) cards) s
shape_next w cards i c s inside is shape =
    subst (λ (l : List ℕ). IsShape w l s) (sym (take_more cards i c inside ∙ ap (λ (x : ℕ). take i cards ++ x ∷ []) (sym is))) shape

-- a count of ranks is at most the number of cards
pub count_bound : (w : Option ℕ) (cs : List ℕ) (s : Shape) (r : ℕ) → r < 13 → IsShape w cs s → slice_index s.counts r ≤ length cs
count_bound w cs s r low is =
    let e : slice_index s.counts r ≡ ranked r (naturals w cs) = is.counts r low in
    let b : ranked r (naturals w cs) ≤ length (naturals w cs) = count_by-le-length (λ c. eqb (rank c) r) (naturals w cs) in
    let n : length (naturals w cs) + wilds w cs ≡ length cs = length-naturals w cs in
    omega arith
