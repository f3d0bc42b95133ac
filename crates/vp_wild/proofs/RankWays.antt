-- The table of what each card adds to the index of a row of ranks.
use Rattle.std.proofs.Common.{◌≡◌, ℕ, zero, suc, ◌+◌, ◌/◌, ◌<◌, List, [], ◌∷◌, length, map, get_or, refl, ap, sym, subst, ◌∙◌, arith}
use Rattle.std.proofs.lemmas.List.{get_or-map}
use Rattle.vp_sets.specs.Sets.{choose, deck}
use Rattle.vp_sets.proofs.Decks.{length-deck, get_or-deck}
use Rattle.vp_wild.specs.declared.rank_ways.TheConstants.{RANK_WAYS}

row : ℕ → List ℕ
row place = map (λ card. choose (card / 4 + place) (place + 1)) (deck 54)

rows : RANK_WAYS ≡ map row (deck 5)
unfolding row choose deck
rows = refl

pub rank_ways : (place card : ℕ) → place < 5 → card < 54 → get_or (get_or RANK_WAYS place []) card 0 ≡ choose (card / 4 + place) (place + 1)
unfolding row
rank_ways place card l m =
    let at : get_or RANK_WAYS place [] ≡ row place = ap (λ r. get_or r place []) rows ∙ (get_or-map row (deck 5) place 0 [] (subst (λ n. place < n) (sym (length-deck 5)) l) ∙ ap row (get_or-deck 5 place l)) in
    ap (λ r. get_or r card 0) at
    ∙ (get_or-map (λ c. choose (c / 4 + place) (place + 1)) (deck 54) card 0 0 (subst (λ n. card < n) (sym (length-deck 54)) m)
    ∙ ap (λ c. choose (c / 4 + place) (place + 1)) (get_or-deck 54 card m))
