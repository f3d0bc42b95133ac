-- A hand whose suits are exchanged is alike to the hand.
use Rattle.std.proofs.Common.{◌≡◌, ℕ, ◌+◌, ◌<◌, Bool, false, eqb, List, [], ◌∷◌, map, length, refl, sym, ap, ◌∙◌, inl, inr, arith, Option}
use Rattle.std.specs.List.{count_by}
use Rattle.std.proofs.lemmas.Bool.{cases_Bool, eqb-true, eq-eqb}
use Rattle.std.proofs.lemmas.List.{length-map}
use Rattle.vp_card.specs.Cards.{rank, suit}
use Rattle.vp_rank.specs.Counts.{ranked, suited, one_suit}
use Rattle.vp_rank.specs.Wilds.{is_wild, naturals}
use Rattle.vp_rank.proofs.BoundedTests.{same_tests, Below}
use Rattle.vp_rank.proofs.CountLemmas.{tally, count_by-cons, naturals_yes, naturals_no}
use Rattle.vp_wild.specs.Alike.{Alike, ExchangesSuits}
use Rattle.vp_wild.proofs.RankRows.{one_suit-to, one_suit-from}

-- a count over exchanged cards
count_map : (p q : ℕ → Bool) (f : ℕ → ℕ) (cards : List ℕ) → ((c : ℕ) → p (f c) ≡ q c) → count_by p (map f cards) ≡ count_by q cards
count_map p q f [] same = refl
count_map p q f (c ∷ cs) same =
    let rest : count_by p (map f cs) ≡ count_by q cs = count_map p q f cs same in
    let left : count_by p (f c ∷ map f cs) ≡ tally (p (f c)) + count_by p (map f cs) = count_by-cons p (f c) (map f cs) in
    let right : count_by q (c ∷ cs) ≡ tally (q c) + count_by q cs = count_by-cons q c cs in
    let here : tally (p (f c)) ≡ tally (q c) = ap tally (same c) in
    omega arith

module _ (w : Option ℕ) (f to from : ℕ → ℕ) where
  naturals_map : ExchangesSuits w f to from → (cards : List ℕ) → naturals w (map f cards) ≡ map f (naturals w cards)
  naturals_map turn [] = refl
  naturals_map turn (c ∷ cs) =
      elim (cases_Bool (is_wild w c)) [
        | inl yes_wild ↦
            naturals_yes w (f c) (map f cs) (turn.wild_cards c ∙ yes_wild) ∙ naturals_map turn cs
            ∙ sym (ap (map f) (naturals_yes w c cs yes_wild))
        | inr plain ↦
            naturals_no w (f c) (map f cs) (turn.wild_cards c ∙ plain) ∙ ap (λ (l : List ℕ). f c ∷ l) (naturals_map turn cs)
            ∙ sym (ap (map f) (naturals_no w c cs plain))
      ]

  -- as many cards of the exchanged suit
  suited_map : ExchangesSuits w f to from → (s : ℕ) → s < 4 → (cards : List ℕ) → suited (to s) (naturals w (map f cards)) ≡ suited s (naturals w cards)
  suited_map turn s low [] = refl
  suited_map turn s low (c ∷ cs) =
      let rest : suited (to s) (naturals w (map f cs)) ≡ suited s (naturals w cs) = suited_map turn s low cs in
      elim (cases_Bool (is_wild w c)) [
        | inl yes_wild ↦
            ap (suited (to s)) (naturals_yes w (f c) (map f cs) (turn.wild_cards c ∙ yes_wild)) ∙ rest
            ∙ sym (ap (suited s) (naturals_yes w c cs yes_wild))
        | inr plain ↦
            let left : suited (to s) (f c ∷ naturals w (map f cs)) ≡ tally (eqb (suit (f c)) (to s)) + suited (to s) (naturals w (map f cs)) =
            count_by-cons (λ card. eqb (suit card) (to s)) (f c) (naturals w (map f cs)) in
            let right : suited s (c ∷ naturals w cs) ≡ tally (eqb (suit c) s) + suited s (naturals w cs) =
            count_by-cons (λ card. eqb (suit card) s) c (naturals w cs) in
            let here : tally (eqb (suit (f c)) (to s)) ≡ tally (eqb (suit c) s) = ap tally (same_suit c plain) in
            let all : suited (to s) (f c ∷ naturals w (map f cs)) ≡ suited s (c ∷ naturals w cs) = omega arith in
            ap (suited (to s)) (naturals_no w (f c) (map f cs) (turn.wild_cards c ∙ plain)) ∙ all
            ∙ sym (ap (suited s) (naturals_no w c cs plain))
      ]
    where
      same_suit : (c : ℕ) → is_wild w c ≡ false → eqb (suit (f c)) (to s) ≡ eqb (suit c) s
      same_suit c plain =
          same_tests (eqb (suit (f c)) (to s)) (eqb (suit c) s)
          (λ h. eq-eqb (suit c) s
          (sym (turn.back (suit c) (omega arith))
          ∙ ap from (sym (turn.suits c plain) ∙ eqb-true (suit (f c)) (to s) h)
          ∙ turn.back s low))
          (λ h. eq-eqb (suit (f c)) (to s) (turn.suits c plain ∙ ap to (eqb-true (suit c) s h)))

  long_map : ExchangesSuits w f to from → (cards : List ℕ) → length (naturals w (map f cards)) ≡ length (naturals w cards)
  long_map turn cards = ap length (naturals_map turn cards) ∙ length-map (naturals w cards) f

  suit_map : ExchangesSuits w f to from → (cards : List ℕ) → one_suit (naturals w cards) ≡ one_suit (naturals w (map f cards))
  suit_map turn cards =
      same_tests (one_suit (naturals w cards)) (one_suit (naturals w (map f cards)))
      (λ h.
      let found : Below 4 (λ s. eqb (suited s (naturals w cards)) (length (naturals w cards))) = one_suit-to (naturals w cards) h in
      one_suit-from (naturals w (map f cards)) (to found.at) (turn.within found.at found.below)
      (suited_map turn found.at found.below cards
      ∙ eqb-true (suited found.at (naturals w cards)) (length (naturals w cards)) found.holds
      ∙ sym (long_map turn cards)))
      (λ h.
      let found : Below 4 (λ s. eqb (suited s (naturals w (map f cards))) (length (naturals w (map f cards)))) = one_suit-to (naturals w (map f cards)) h in
      one_suit-from (naturals w cards) (from found.at) (turn.back_within found.at found.below)
      (sym (suited_map turn (from found.at) (turn.back_within found.at found.below) cards)
      ∙ ap (λ (s : ℕ). suited s (naturals w (map f cards))) (turn.forth found.at found.below)
      ∙ eqb-true (suited found.at (naturals w (map f cards))) (length (naturals w (map f cards))) found.holds
      ∙ long_map turn cards))

  pub alike_map : ExchangesSuits w f to from → (cards : List ℕ) → Alike w cards (map f cards)
  alike_map turn cards =
      record {
        wilds = sym (count_map (is_wild w) (is_wild w) f cards turn.wild_cards);
        ranks = λ r.
            sym (ap (ranked r) (naturals_map turn cards)
            ∙ count_map (λ c. eqb (rank c) r) (λ c. eqb (rank c) r) f (naturals w cards) (λ c. ap (λ (x : ℕ). eqb x r) (turn.ranks c)));
        suit = suit_map turn cards;
      }
