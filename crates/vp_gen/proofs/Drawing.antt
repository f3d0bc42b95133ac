-- Cards that are drawn, one by one.
use Rattle.std.proofs.Common.{◌≡◌, ℕ, zero, suc, ◌+◌, ◌-◌, ◌<◌, ◌≤◌, List, [], ◌∷◌, ◌++◌, length, get_or, refl, sym, ap, ◌∙◌, arith, add-one, append_assoc}
use Rattle.std.specs.List.{remove}
use Rattle.std.proofs.lemmas.List.{append-nil}
use Rattle.vp_sets.specs.Sets.{deck}
use Rattle.vp_sets.proofs.Decks.{deck-suc}
use Rattle.vp_gen.specs.Generator.{next_state, pick, drawn, Drawn}

-- ---- a whole deck

pub no_card : [] ≡ deck 0
unfolding deck
no_card = refl

pub next_card : (n : ℕ) (cards : List ℕ) → cards ≡ deck n → cards ++ n ∷ [] ≡ deck (n + 1)
next_card n cards is = rw (add-one, deck-suc n, is) refl

-- ---- drawing

-- cards that were drawn before
abbrev pub behind_cards : List ℕ → Drawn → Drawn
behind_cards front d = record { cards = front ++ d.cards; rest = d.rest; state = d.state }

other_default : (cards : List ℕ) (i x : ℕ) → i < length cards → x ≡ get_or cards i x → x ≡ get_or cards i 0
other_default [] i x inside e = absurd (omega arith)
other_default (c ∷ cards) zero x inside e = e
other_default (c ∷ cards) (suc i) x inside e = other_default cards i x (omega arith) e

pub draws_more : (left x i card : ℕ) (front rest : List ℕ) (all : Drawn) → 0 < left → i ≡ pick (length rest) x → i < length rest → card ≡ get_or rest i card
    → behind_cards front (drawn left x rest) ≡ all → behind_cards (front ++ card ∷ []) (drawn (left - 1) (next_state x) (remove rest i)) ≡ all
unfolding drawn
draws_more zero x i card front rest all some is inside at so_far = absurd (omega arith)
draws_more (suc left) x i card front rest all some is inside at so_far =
    let same : suc left - 1 ≡ left = omega arith in
    let c : card ≡ get_or rest (pick (length rest) x) 0 = other_default rest i card inside at ∙ ap (λ (i : ℕ). get_or rest i 0) is in
    rw (same, is, append_assoc front (card ∷ []), c) so_far

pub draws_end : (left x : ℕ) (front rest : List ℕ) (all : Drawn) → left ≤ 0 → behind_cards front (drawn left x rest) ≡ all → all ≡ record { cards = front; rest = rest; state = x }
unfolding drawn
draws_end zero x front rest all none so_far = sym so_far ∙ rw append-nil refl
draws_end (suc left) x front rest all none so_far = absurd (omega arith)
