-- The first card that is wrong, place by place.
use Rattle.std.proofs.Common.{◌≡◌, ℕ, ◌+◌, ◌<◌, ◌≤◌, Bool, true, false, List, [], ◌∷◌, ◌++◌, length, get_or, take, drop, refl, sym, ◌∙◌, arith, Some, None, length-take}
use Rattle.std.specs.Prelude.{Option}
use Rattle.std.proofs.lemmas.List.{drop_more, drop_all, take_more}
use Rattle.vp_replay.specs.Rules.{first_wrong}

pub ends : (wrong : List ℕ → ℕ → Bool) (cards : List ℕ) (i : ℕ) (x : Option (ℕ × ℕ)) → length cards ≤ i → first_wrong wrong (take i cards) (drop i cards) ≡ x → x ≡ None
unfolding first_wrong
ends wrong cards i x past is = sym is ∙ rw (drop_all i cards past) refl

pub stops : (wrong : List ℕ → ℕ → Bool) (cards : List ℕ) (i : ℕ) (x : Option (ℕ × ℕ)) → i < length cards → wrong (take i cards) (get_or cards i 0) ≡ true
    → first_wrong wrong (take i cards) (drop i cards) ≡ x → x ≡ Some (i + 1, get_or cards i 0)
unfolding first_wrong
stops wrong cards i x inside bad is =
    let l : length (take i cards) ≡ i = omega (arith, length-take i cards) in
    sym is ∙ rw (drop_more cards i 0 inside, bad, l) refl

pub goes_on : (wrong : List ℕ → ℕ → Bool) (cards : List ℕ) (i : ℕ) (x : Option (ℕ × ℕ)) → i < length cards → wrong (take i cards) (get_or cards i 0) ≡ false
    → first_wrong wrong (take i cards) (drop i cards) ≡ x → first_wrong wrong (take (i + 1) cards) (drop (i + 1) cards) ≡ x
unfolding first_wrong
goes_on wrong cards i x inside fine is =
    let more : take (i + 1) cards ≡ take i cards ++ get_or cards i 0 ∷ [] = take_more cards i 0 inside in
    rw more (rw (drop_more cards i 0 inside, fine) at is)
