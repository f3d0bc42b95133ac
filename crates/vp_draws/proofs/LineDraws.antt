-- The draws of the holds by their lines.
use Rattle.std.proofs.Common.{◌≡◌, inl, inr, ℕ, ◌+◌, ◌-◌, ◌*◌, ◌<◌, ◌≤◌, ◌^◌, ◌++◌, lit≤, Bool, true, false, cond, ◌||◌, ◌==◌, List, [], ◌∷◌, length, get_or, Option, Some, None, ap, sym, ◌∙◌, arith}
use Rattle.std.specs.Prelude.{IfSome, unwrap_or}
use Rattle.std.proofs.Math.ListN.{replicate}
use Rattle.std.proofs.lemmas.Bool.{cases_lt, eq-eqb}
use Rattle.std.proofs.lemmas.List.{get_or-replicate, get_or_past, length-replicate}
use Rattle.vp_pay.specs.declared.table.PayTable.{PayTable}
use Rattle.vp_pay.specs.Table.{IsTable}
use Rattle.vp_sets.specs.Sets.{has}
use Rattle.vp_sets.specs.Draws.{discarded, mask_of}
use Rattle.vp_sets.specs.Index.{IsSet}
use Rattle.vp_sets.proofs.Binomials.{choose_small}
use Rattle.vp_sets.proofs.Colex.{set_below}
use Rattle.vp_sets.proofs.Holds.{Dealt, length-held, sum_over_draws_le}
use Rattle.vp_sets.proofs.Spread.{has-none}
use Rattle.vp_sets.proofs.Masks.{mask_small}
use Rattle.vp_sets.proofs.ByMask.{mask_of-none, mask_of-cons, mask_push, has-push}
use Rattle.vp_wild.specs.Kept.{slot}
use Rattle.vp_draws.specs.ByLine.{count_at, ends_at, line_draws, summed}
use Rattle.vp_draws.proofs.Summed.{below_absent, summed_all}

-- ---- masks of cards

bit_of : (card c : ℕ) → ◌≡◌ {A = ℕ} (cond (has (card ∷ []) c) 1 0) (cond (card == c) 1 0)
bit_of card c = ap (λ b. cond b 1 0) (has-push [] card c ∙ ap (λ b. b || (card == c)) (has-none c))

mask_more : (card c : ℕ) (cs : List ℕ) → mask_of (card ∷ []) (c ∷ cs) ≡ cond (card == c) 1 0 + 2 * mask_of (card ∷ []) cs
mask_more card c cs = mask_of-cons (card ∷ []) c cs ∙ ap (λ b. b + 2 * mask_of (card ∷ []) cs) (bit_of card c)

-- the mask of a card, bit by bit
pub mask_by_bits : (card a b c d e : ℕ) (hand : List ℕ) → hand ≡ a ∷ b ∷ c ∷ d ∷ e ∷ []
    → mask_of (card ∷ []) hand ≡ cond (card == a) 1 0 + 2 * cond (card == b) 1 0 + 4 * cond (card == c) 1 0 + 8 * cond (card == d) 1 0 + 16 * cond (card == e) 1 0
mask_by_bits card a b c d e hand h =
    omega (arith, ap (λ s. mask_of (card ∷ []) s) h, mask_more card a (b ∷ c ∷ d ∷ e ∷ []), mask_more card b (c ∷ d ∷ e ∷ []), mask_more card c (d ∷ e ∷ []), mask_more card d (e ∷ []), mask_more card e [], mask_of-none (card ∷ []))

-- a card above the others adds its own mask
pub mask_grows : (chosen : List ℕ) (card : ℕ) (deal : List ℕ) → IsSet card chosen → mask_of (chosen ++ card ∷ []) deal ≡ mask_of chosen deal + mask_of (card ∷ []) deal
mask_grows chosen card deal set = mask_push chosen card deal (below_absent card chosen (set_below card chosen set))

-- a mask over five cards
pub mask_lt : (cards deal : List ℕ) → length deal ≡ 5 → mask_of cards deal < 32
mask_lt cards deal five = omega (arith, mask_small cards deal, ap (λ k. 2 ^ k) five)

-- no card has the mask 0
pub no_cards : (deal : List ℕ) → mask_of [] deal ≡ 0
no_cards [] = mask_of-none []
no_cards (c ∷ deal) = omega (arith, mask_of-cons [] c deal, no_cards deal, none)
  where
    none : ◌≡◌ {A = ℕ} (cond (has [] c) 1 0) 0
    none = ap (λ b. cond b 1 0) (has-none c)

-- ---- counts

-- a row of zeros
pub nought_at : (n k : ℕ) → ◌≡◌ {A = ℕ} (get_or (replicate n 0) k 0) 0
nought_at n k = elim (cases_lt k n) [
  | inl l ↦ get_or-replicate n k 0 0 l
  | inr l ↦ get_or_past (replicate n 0) k 0 (let e : length (replicate {A = ℕ} n 0) ≡ n = length-replicate {A = ℕ} n 0 in omega arith)
]

-- rows of zeros
pub no_counts : (mask place : ℕ) → mask < 32 → count_at (replicate 32 (replicate 33 0)) mask place ≡ 0
no_counts mask place l = ap (λ (row : List ℕ). get_or row place 0) (get_or-replicate 32 mask (replicate 33 0) [] l) ∙ nought_at 33 place

-- the place of a line, or of none
pub place_lt : (table : PayTable) (hand : List ℕ) (line : Option ℕ) → IfSome line (λ i. i < length table.lines.items) → length table.lines.items ≤ 32 → unwrap_or line 32 < 33
place_lt table hand None h few = omega arith
place_lt table hand (Some i) h few = omega arith

one_le : (b : Bool) → cond b 1 0 ≤ 1
one_le true = lit≤ tt
one_le false = lit≤ tt

pub ends_at_le : (table : PayTable) (place : ℕ) (hand : List ℕ) → ends_at table place hand ≤ 1
unfolding ends_at
ends_at_le table place hand = one_le (slot table hand == place)

-- over all hands of the deck these are the draws of a hold
pub all_counted : (table : PayTable) (place : ℕ) (deal : List ℕ) (mask : ℕ) → Dealt table.deck deal → mask < 32 → summed (ends_at table place) table.deck [] 0 deal mask ≡ line_draws table place deal mask
unfolding line_draws
all_counted table place deal mask d small = summed_all (ends_at table place) table.deck deal mask d small

-- the numbers fit 32 bits
pub line_draws_fit : (table : PayTable) (place : ℕ) (deal : List ℕ) (mask : ℕ) → IsTable table → Dealt table.deck deal → line_draws table place deal mask < 2 ^ 32
unfolding line_draws
line_draws_fit table place deal mask t d =
    let few : length (discarded mask deal) ≤ 5 = omega (arith, length-held mask deal, d.five) in
    omega (arith, sum_over_draws_le (ends_at table place) 1 table.deck deal mask d (λ h. ends_at_le table place h), choose_small (table.deck - 5) (length (discarded mask deal)) (omega (arith, t.known_deck.1)) few)

-- one more hand, with its line, is counted at its place
pub counted_at : (table : PayTable) (hand : List ℕ) (line : Option ℕ) (place mask m p : ℕ) → line ≡ Rattle.vp_wild.specs.Payment.line table hand → place ≡ unwrap_or line 32
    → cond (mask == m) (cond (place == p) 1 0) 0 ≡ cond (mask == m) (ends_at table p hand) 0
unfolding ends_at
counted_at table hand line place mask m p found at = ap (λ (n : ℕ). cond (mask == m) (cond {A = ℕ} (n == p) 1 0) 0) (at ∙ ap (λ (o : Option ℕ). unwrap_or o 32) found)

own_place : (a b : ℕ) → a ≡ b → cond {A = ℕ} (a == b) 1 0 ≡ 1
own_place a b e = ap (λ (t : Bool). cond {A = ℕ} t 1 0) (eq-eqb a b e)

-- a hand is counted at its own place
pub own_line : (table : PayTable) (hand : List ℕ) (line : Option ℕ) (place : ℕ) → line ≡ Rattle.vp_wild.specs.Payment.line table hand → place ≡ unwrap_or line 32 → ends_at table place hand ≡ 1
unfolding ends_at
own_line table hand line place found at = own_place (slot table hand) place (sym (at ∙ ap (λ (o : Option ℕ). unwrap_or o 32) found))
