-- The steps of a total of one hold.
use Rattle.std.proofs.Common.{◌≡◌, ℕ, suc, ◌+◌, ◌*◌, ◌/◌, ◌%◌, ◌^◌, ◌<◌, ◌≤◌, ap, sym, ◌∙◌, subst, arith, add-one, eq-eqb, true, false, ◌==◌, List, [], ◌∷◌, ◌++◌, length, take, set}
use Rattle.std.proofs.Math.Nat.{pow-suc}
use Rattle.std.proofs.Math.Seq.{take-suc-set}
use Rattle.std.proofs.lemmas.Bool.{ne_eqb}
use Rattle.vp_card.specs.Rising.{IsBelow, IsRising}
use Rattle.vp_sets.specs.Draws.{discarded}
use Rattle.vp_sets.specs.Index.{IsSet}
use Rattle.vp_sets.proofs.Colex.{Below, set_rises, set_below, set_from}
use Rattle.vp_sets.proofs.Bridge.{discarded-none, discarded-held, discarded-discarded}
use Rattle.vp_count.specs.Sums.{containing, one_more, part}
use Rattle.vp_count.proofs.Exclusion.{part-none, part-held, part-discarded}

below_middle : (d : ℕ) (a : List ℕ) (c : ℕ) (b : List ℕ) → IsBelow d (a ++ c ∷ b) → IsBelow d (a ++ b)
below_middle d [] c b h = h.1
below_middle d (x ∷ a) c b h = (h.0, below_middle d a c b h.1)

rises_middle : (a : List ℕ) (c : ℕ) (b : List ℕ) → IsRising (a ++ c ∷ b) → IsRising (a ++ b)
rises_middle [] c b h = h.1
rises_middle (x ∷ a) c b h = (below_middle x a c b h.0, rises_middle a c b h.1)

bounded_middle : (n : ℕ) (a : List ℕ) (c : ℕ) (b : List ℕ) → Below n (a ++ c ∷ b) → Below n (a ++ b)
bounded_middle n [] c b h = h.1
bounded_middle n (x ∷ a) c b h = (h.0, bounded_middle n a c b h.1)

-- a set stays a set where a member is left out
pub set_without : (n : ℕ) (a : List ℕ) (c : ℕ) (b rest : List ℕ) → rest ≡ c ∷ b → IsSet n (a ++ rest) → IsSet n (a ++ b)
set_without n a c b rest e h =
    let h' : IsSet n (a ++ c ∷ b) = subst (λ z. IsSet n (a ++ z)) e h in
    set_from n (a ++ b) (rises_middle a c b (set_rises n (a ++ c ∷ b) h')) (bounded_middle n a c b (set_below n (a ++ c ∷ b) h'))

-- the held cards with one card more
pub take_more : (held : List ℕ) (count c : ℕ) → count < length held → take (count + 1) (set held count c) ≡ take count held ++ c ∷ []
take_more held count c l = ap (λ k. take k (set held count c)) (add-one count) ∙ take-suc-set held count c l

mask_one : (m : ℕ) → m % 2 ≡ 1 → (m % 2 == 1) ≡ true
mask_one m h = eq-eqb (m % 2) 1 h

mask_zero : (m : ℕ) → (m % 2 ≡ 1 → ⊥) → (m % 2 == 1) ≡ false
mask_zero m h = ne_eqb (m % 2) 1 h

pub leaf_total : (n : ℕ) (w a rest : List ℕ) (m r : ℕ) → rest ≡ [] → r ≡ containing n w a → r ≡ part n w a rest m
leaf_total n w a rest m r e h = h ∙ sym (part-none n w a m) ∙ ap (λ z. part n w a z m) (sym e)

pub one_more_le : (r : ℕ) → one_more r ≤ r + 1
unfolding one_more
one_more_le r = omega arith

pub leaf_reads : (rest : List ℕ) (m old now : ℕ) → rest ≡ [] → now ≡ one_more old → now ≤ old + 2 ^ length (discarded m rest)
leaf_reads rest m old now e h =
    let d : length (discarded m rest) ≡ 0 = ap (λ z. length (discarded m z)) e ∙ ap length (discarded-none m) in
    let p : 2 ^ length (discarded m rest) ≡ 1 = ap (λ k. 2 ^ k) d in
    omega (arith, one_more_le old)

pub held_step : (n : ℕ) (w held : List ℕ) (count c : ℕ) (b rest : List ℕ) (m r : ℕ) → count < length held → rest ≡ c ∷ b → m % 2 ≡ 1 → r ≡ part n w (take (count + 1) (set held count c)) b (m / 2) → r ≡ part n w (take count held) rest m
held_step n w held count c b rest m r l e one h =
    h ∙ ap (λ z. part n w z b (m / 2)) (take_more held count c l) ∙ sym (part-held n w (take count held) c b m (mask_one m one)) ∙ ap (λ z. part n w (take count held) z m) (sym e)

pub held_reads : (c : ℕ) (b rest : List ℕ) (m old now : ℕ) → rest ≡ c ∷ b → m % 2 ≡ 1 → now ≤ old + 2 ^ length (discarded (m / 2) b) → now ≤ old + 2 ^ length (discarded m rest)
held_reads c b rest m old now e one h =
    let d : discarded m rest ≡ discarded (m / 2) b = ap (λ z. discarded m z) e ∙ discarded-held m c b (mask_one m one) in
    subst (λ z. now ≤ old + 2 ^ length z) (sym d) h

pub discard_sum : (n : ℕ) (w held : List ℕ) (count c : ℕ) (b rest : List ℕ) (m free with n' : ℕ) (w' : List ℕ) → n' ≡ n → w' ≡ w → count < length held → rest ≡ c ∷ b → (m % 2 ≡ 1 → ⊥) → free ≡ part n w (take count held) b (m / 2) → with ≡ part n' w' (take (count + 1) (set held count c)) b (m / 2) → part n w (take count held) rest m + with ≡ free
discard_sum n w held count c b rest m free with n' w' x y l e other f g =
    let p : part n w (take count held) rest m ≡ part n w (take count held) (c ∷ b) m = ap (λ z. part n w (take count held) z m) e in
    let q : with ≡ part n w (take count held ++ c ∷ []) b (m / 2) = g ∙ ap (λ z. part z w' (take (count + 1) (set held count c)) b (m / 2)) x ∙ ap (λ z. part n z (take (count + 1) (set held count c)) b (m / 2)) y ∙ ap (λ z. part n w z b (m / 2)) (take_more held count c l) in
    omega (arith, part-discarded n w (take count held) c b m (mask_zero m other))

pub discard_reads : (c : ℕ) (b rest : List ℕ) (m old mid now : ℕ) → rest ≡ c ∷ b → (m % 2 ≡ 1 → ⊥) → mid ≤ old + 2 ^ length (discarded (m / 2) b) → now ≤ mid + 2 ^ length (discarded (m / 2) b) → now ≤ old + 2 ^ length (discarded m rest)
discard_reads c b rest m old mid now e other h k =
    let d : length (discarded m rest) ≡ suc (length (discarded (m / 2) b)) = ap (λ z. length (discarded m z)) e ∙ ap length (discarded-discarded m c b (mask_zero m other)) in
    let p : 2 ^ length (discarded m rest) ≡ 2 ^ length (discarded (m / 2) b) * 2 = ap (λ i. 2 ^ i) d ∙ pow-suc 2 (length (discarded (m / 2) b)) in
    omega arith
