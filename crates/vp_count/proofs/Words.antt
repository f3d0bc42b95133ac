-- Where the words of each size stand.
use Rattle.std.proofs.Common.{◌≡◌, ℕ, zero, suc, ◌+◌, ◌-◌, ◌*◌, ◌≤◌, refl, ap, ◌∙◌, subst, arith, add-one}
use Rattle.std.specs.List.{sum_by}
use Rattle.std.proofs.lemmas.List.Sums.{sum_by_push}
use Rattle.vp_sets.specs.Sets.{deck, choose}
use Rattle.vp_sets.proofs.Decks.{deck-suc}
use Rattle.vp_sets.proofs.Binomials.{choose_small}
use Rattle.vp_count.specs.Table.{first_word}

pub first_word-zero : (n : ℕ) → first_word n 0 ≡ 0
unfolding first_word deck
first_word-zero n = refl

pub first_word-suc : (n k : ℕ) → first_word n (suc k) ≡ first_word n k + choose n k
unfolding first_word
first_word-suc n k = ap (λ s. sum_by (λ i. choose n i) s) (deck-suc k) ∙ sum_by_push (λ i. choose n i) (deck k) k

pub first_word_next : (n k : ℕ) → first_word n (k + 1) ≡ first_word n k + choose n k
first_word_next n k = ap (λ i. first_word n i) (add-one k) ∙ first_word-suc n k

pub first_word_up : (n k d : ℕ) → first_word n k ≤ first_word n (k + d)
first_word_up n k zero =
    let e : k + 0 ≡ k = omega arith in
    let f : first_word n (k + 0) ≡ first_word n k = ap (λ i. first_word n i) e in
    omega arith
first_word_up n k (suc d) =
    let e : k + suc d ≡ suc (k + d) = omega arith in
    let f : first_word n (k + suc d) ≡ first_word n (suc (k + d)) = ap (λ i. first_word n i) e in
    omega (arith, first_word_up n k d, first_word-suc n (k + d))

pub first_word_mono : (n k m : ℕ) → k ≤ m → first_word n k ≤ first_word n m
first_word_mono n k m l =
    let e : k + (m - k) ≡ m = omega arith in
    subst (λ i. first_word n k ≤ first_word n i) e (first_word_up n k (m - k))

pub first_word_small : (n k : ℕ) → n ≤ 54 → k ≤ 6 → first_word n k ≤ k * 459165024
first_word_small n zero l m = omega (arith, first_word-zero n)
first_word_small n (suc k) l m = omega (arith, first_word_small n k l (omega arith), first_word-suc n k, choose_small n k l (omega arith))
