-- All lines and none share out the draws, and what the lines pay makes the return.
use Rattle.std.proofs.Common.{◌≡◌, ◌⊎◌, ◌≢◌, inl, inr, ℕ, zero, suc, ◌+◌, ◌-◌, ◌*◌, ◌<◌, ◌≤◌, Bool, true, false, if◌then◌else◌, ◌==◌, List, Option, Some, None, length, get_or, refl, sym, ap, ◌∙◌, arith}
use Rattle.std.proofs.Math.Nat.{mul_assoc}
use Rattle.std.specs.Prelude.{sum_by, slice_index}
use Rattle.std.proofs.lemmas.Bool.Decides.{nat_tests}
use Rattle.std.proofs.lemmas.List.{get_or-map}
use Rattle.vp_card.specs.Cards.{held, joined}
use Rattle.vp_pay.specs.declared.table.PayLine.{PayLine}
use Rattle.vp_pay.specs.declared.table.PayTable.{PayTable}
use Rattle.vp_pay.specs.Table.{IsTable}
use Rattle.vp_sets.specs.Sets.{choose, combos, deck}
use Rattle.vp_sets.specs.Draws.{common, discarded, draws, scale, sum_over_draws}
use Rattle.vp_sets.proofs.Decks.{length-deck}
use Rattle.vp_sets.proofs.Denominators.{scale_exact}
use Rattle.vp_sets.proofs.Holds.{Dealt, length-draws, length-held}
use Rattle.vp_sets.proofs.Sublists.{length-combos, sum_by-plus}
use Rattle.vp_sets.proofs.Sums.{exchanged, last_place, no_place, sum_const, sum_none, sum_of_times, sum_same, sum_times}
use Rattle.vp_suit.specs.Classes.{representative}
use Rattle.vp_suit.proofs.ClassLaws.{representative_deal}
use Rattle.vp_suit.proofs.TurnedDraws.{dealt_is}
use Rattle.vp_wild.specs.Payment.{line, pay}
use Rattle.vp_wild.proofs.ByShape.{pay_at, pay_none}
use Rattle.vp_draws.specs.Draws.{best, least_best, sum_of_best, total, value}
use Rattle.vp_draws.proofs.Chosen.{least_best_value}
use Rattle.vp_draws.proofs.Printed.{best_of_class}
use Rattle.vp_hits.specs.Hits.{chance, hit, is_asked, often, payments, printed_chance}
use Rattle.vp_hits.specs.Hits.{hits as line_hits}
use Rattle.vp_hits.specs.Laws.{LinesMakeTheReturn, LinesShareOutDraws, over_lines}
use Rattle.vp_hold.proofs.Numbers.{inside, nothing}
use Rattle.vp_suit.proofs.Weighed.{deals_agree}

-- ---- the lines of one hand

-- what is said of the place of the line that was found
abbrev said : (ℕ → ℕ) → Option ℕ → ℕ → ℕ
said g found i = g i * (if is_asked (Some i) found then 1 else 0)

other_place : (i j : ℕ) → i ≢ j → (i == j) ≡ false
other_place i j other = grind (arith, nat_tests)

own_place : (i : ℕ) → (i == i) ≡ true
own_place i = grind (arith, nat_tests)

said_other : (g : ℕ → ℕ) (i j : ℕ) → i ≢ j → said g (Some j) i ≡ 0
unfolding is_asked
said_other g i j other = ap (λ (b : Bool). g i * (if b then 1 else 0)) (other_place i j other) ∙ none (g i)
  where
    none : (n : ℕ) → n * 0 ≡ 0
    none n = omega arith

said_own : (g : ℕ → ℕ) (i : ℕ) → said g (Some i) i ≡ g i
unfolding is_asked
said_own g i = ap (λ (b : Bool). g i * (if b then 1 else 0)) (own_place i) ∙ once (g i)
  where
    once : (n : ℕ) → n * 1 ≡ n
    once n = omega arith

said_none : (g : ℕ → ℕ) (i : ℕ) → said g None i ≡ 0
unfolding is_asked
said_none g i = omega arith

none_found : (g : ℕ → ℕ) (m : ℕ) → sum_by (said g None) (deck m) ≡ 0
none_found g m = sum_same (said g None) (λ i. 0) (deck m) (said_none g) ∙ sum_none (deck m)

later_found : (g : ℕ → ℕ) (m j : ℕ) → m ≤ j → sum_by (said g (Some j)) (deck m) ≡ 0
later_found g zero j l = no_place (said g (Some j))
later_found g (suc m) j l = omega (arith, last_place (said g (Some j)) m, later_found g m j (omega arith), said_other g m j (λ e. omega arith))

place_found : (g : ℕ → ℕ) (m j : ℕ) → j < m → sum_by (said g (Some j)) (deck m) ≡ g j
place_found g zero j l = absurd (omega arith)
place_found g (suc m) j l = elim (same_or_below j m l) [
  | inl same ↦ (let none = later_found g m m (omega arith) in let own = said_own g m in rw same (omega (arith, last_place (said g (Some m)) m)))
  | inr below ↦ omega (arith, last_place (said g (Some j)) m, place_found g m j below, said_other g m j (λ e. omega arith))
]
  where
    same_or_below : (j m : ℕ) → j < suc m → (j ≡ m) ⊎ (j < m)
    same_or_below j m l = grind arith

-- what g says of the lines of a hand: of the one that it has
abbrev marks : PayTable → (ℕ → ℕ) → List ℕ → ℕ
marks table g hand = sum_by (λ i. g i * hit table (Some i) hand) (deck (length table.lines.items))

marks_are : (table : PayTable) (g : ℕ → ℕ) (hand : List ℕ) → marks table g hand ≡ sum_by (said g (line table hand)) (deck (length table.lines.items))
unfolding hit
marks_are table g hand = refl

-- a hand has one line or none
said_of_none : (m : ℕ) → sum_by (said (λ i. 1) None) (deck m) + (if is_asked None None then 1 else 0) ≡ 1
unfolding is_asked
said_of_none m = omega (arith, none_found (λ i. 1) m)

said_of_some : (m j : ℕ) → j < m → sum_by (said (λ i. 1) (Some j)) (deck m) + (if is_asked None (Some j) then 1 else 0) ≡ 1
unfolding is_asked
said_of_some m j l = omega (arith, place_found (λ i. 1) m j l)

one_or_none : (table : PayTable) (hand : List ℕ) → marks table (λ i. 1) hand + hit table None hand ≡ 1
unfolding hit
one_or_none table hand = by_line (line table hand) refl
  where
    by_line : (o : Option ℕ) → line table hand ≡ o → sum_by (said (λ i. 1) (line table hand)) (deck (length table.lines.items)) + (if is_asked None (line table hand) then 1 else 0) ≡ 1
    by_line None e = ap (λ (o : Option ℕ). sum_by (said (λ i. 1) o) (deck (length table.lines.items)) + (if is_asked None o then 1 else 0)) e ∙ said_of_none (length table.lines.items)
    by_line (Some j) e = ap (λ (o : Option ℕ). sum_by (said (λ i. 1) o) (deck (length table.lines.items)) + (if is_asked None o then 1 else 0)) e ∙ said_of_some (length table.lines.items) j (inside table hand j e)

-- a hand is paid by its line
payment_at : (table : PayTable) (coin j : ℕ) → j < length table.lines.items → slice_index (payments table coin) j ≡ slice_index (get_or table.lines.items j nothing).pays (coin - 1)
unfolding payments
payment_at table coin j l = get_or-map (λ (x : PayLine). slice_index x.pays (coin - 1)) table.lines.items j nothing 0 l

paid_by_line : (table : PayTable) (coin : ℕ) (hand : List ℕ) → marks table (slice_index (payments table coin)) hand ≡ pay table coin hand
paid_by_line table coin hand = marks_are table (slice_index (payments table coin)) hand ∙ by_line (line table hand) refl
  where
    by_line : (o : Option ℕ) → line table hand ≡ o → sum_by (said (slice_index (payments table coin)) (line table hand)) (deck (length table.lines.items)) ≡ pay table coin hand
    by_line None e =
        ap (λ (o : Option ℕ). sum_by (said (slice_index (payments table coin)) o) (deck (length table.lines.items))) e
        ∙ none_found (slice_index (payments table coin)) (length table.lines.items) ∙ sym (pay_none table coin hand e)
    by_line (Some j) e =
        let l = inside table hand j e in
        ap (λ (o : Option ℕ). sum_by (said (slice_index (payments table coin)) o) (deck (length table.lines.items))) e
        ∙ place_found (slice_index (payments table coin)) (length table.lines.items) j l ∙ payment_at table coin j l ∙ sym (pay_at table coin hand j nothing e)

-- ---- the draws of one hold

-- what g says of the lines, each as often as draws end with it, is what it says of the lines of the final hands
hits_said : (table : PayTable) (g : ℕ → ℕ) (cards : List ℕ) (mask : ℕ) → sum_by (λ i. g i * line_hits table (Some i) cards mask) (deck (length table.lines.items)) ≡ sum_over_draws (marks table g) table.deck cards mask
unfolding line_hits sum_over_draws
hits_said table g cards mask =
    let all = draws table.deck cards mask in
    sum_same (λ i. g i * sum_by (λ drawn. hit table (Some i) (joined (held mask cards) drawn)) all) (λ i. sum_by (λ drawn. g i * hit table (Some i) (joined (held mask cards) drawn)) all) (deck (length table.lines.items))
    (λ i. sum_times (g i) (λ drawn. hit table (Some i) (joined (held mask cards) drawn)) all)
    ∙ exchanged (λ i drawn. g i * hit table (Some i) (joined (held mask cards) drawn)) (length table.lines.items) all

chances_said : (table : PayTable) (g : ℕ → ℕ) (cards : List ℕ) (mask : ℕ) → sum_by (λ i. g i * chance table (Some i) cards mask) (deck (length table.lines.items))
    ≡ sum_over_draws (marks table g) table.deck cards mask * scale table.deck (length (discarded mask cards))
unfolding chance
chances_said table g cards mask =
    let s = scale table.deck (length (discarded mask cards)) in
    let places = deck (length table.lines.items) in
    sum_same (λ i. g i * (line_hits table (Some i) cards mask * s)) (λ i. g i * line_hits table (Some i) cards mask * s) places (λ i. sym (mul_assoc (g i) (line_hits table (Some i) cards mask) s))
    ∙ sum_of_times (λ i. g i * line_hits table (Some i) cards mask) s places
    ∙ ap (λ n. n * s) (hits_said table g cards mask)

-- the lines make the value of a hold
value_said : (table : PayTable) (coin : ℕ) (cards : List ℕ) (mask : ℕ) → sum_by (λ i. slice_index (payments table coin) i * chance table (Some i) cards mask) (deck (length table.lines.items)) ≡ value table coin cards mask
unfolding value total sum_over_draws
value_said table coin cards mask =
    chances_said table (slice_index (payments table coin)) cards mask
    ∙ ap (λ n. n * scale table.deck (length (discarded mask cards)))
    (sum_same (λ drawn. marks table (slice_index (payments table coin)) (joined (held mask cards) drawn)) (λ drawn. pay table coin (joined (held mask cards) drawn)) (draws table.deck cards mask)
    (λ drawn. paid_by_line table coin (joined (held mask cards) drawn)))

-- all lines and none make one
one_said : (table : PayTable) (cards : List ℕ) (mask : ℕ) → IsTable table → Dealt table.deck cards
    → sum_by (λ i. 1 * chance table (Some i) cards mask) (deck (length table.lines.items)) + chance table None cards mask ≡ common table.deck
unfolding chance line_hits sum_over_draws
one_said table cards mask t d =
    let k = length (discarded mask cards) in
    let s = scale table.deck k in
    let all = draws table.deck cards mask in
    let few : k ≤ 5 = omega (arith, length-held mask cards, d.five) in
    let some : sum_by (λ i. 1 * chance table (Some i) cards mask) (deck (length table.lines.items)) ≡ sum_by (λ drawn. marks table (λ i. 1) (joined (held mask cards) drawn)) all * s = chances_said table (λ i. 1) cards mask in
    let together : sum_by (λ drawn. marks table (λ i. 1) (joined (held mask cards) drawn)) all + sum_by (λ drawn. hit table None (joined (held mask cards) drawn)) all ≡ length all * 1 =
    sym (sum_by-plus (λ drawn. marks table (λ i. 1) (joined (held mask cards) drawn)) (λ drawn. hit table None (joined (held mask cards) drawn)) all)
    ∙ sum_same (λ drawn. marks table (λ i. 1) (joined (held mask cards) drawn) + hit table None (joined (held mask cards) drawn)) (λ drawn. 1) all (λ drawn. one_or_none table (joined (held mask cards) drawn))
    ∙ sum_const 1 all in
    let exact : s * choose (table.deck - 5) k ≡ common table.deck = scale_exact table.deck k t.known_deck few in
    let many : length all ≡ choose (table.deck - 5) k = length-draws table.deck cards mask d in
    ap (λ n. n + sum_by (λ drawn. hit table None (joined (held mask cards) drawn)) all * s) some
    ∙ gathered (sum_by (λ drawn. marks table (λ i. 1) (joined (held mask cards) drawn)) all) (sum_by (λ drawn. hit table None (joined (held mask cards) drawn)) all) s
    ∙ ap (λ n. n * s) together ∙ ap (λ n. n * 1 * s) many ∙ turned (choose (table.deck - 5) k) s ∙ exact
  where
    gathered : (a b s : ℕ) → a * s + b * s ≡ (a + b) * s
    gathered a b s = omega arith

    turned : (a s : ℕ) → a * 1 * s ≡ s * a
    turned a s = omega arith

-- ---- all deals

-- what g says of the lines, each as often as it comes
often_said : (table : PayTable) (coin : ℕ) (g : ℕ → ℕ) → over_lines table (λ i. g i * often table coin (Some i)) ≡ sum_by (λ cards. over_lines table (λ i. g i * printed_chance table coin (Some i) cards)) (combos 5 (deck table.deck))
unfolding often
often_said table coin g =
    let all = combos 5 (deck table.deck) in
    sum_same (λ i. g i * sum_by (printed_chance table coin (Some i)) all) (λ i. sum_by (λ cards. g i * printed_chance table coin (Some i) cards) all) (deck (length table.lines.items)) (λ i. sum_times (g i) (printed_chance table coin (Some i)) all)
    ∙ exchanged (λ i cards. g i * printed_chance table coin (Some i) cards) (length table.lines.items) all

pub lines_make_the_return : LinesMakeTheReturn
unfolding sum_of_best printed_chance
lines_make_the_return table coin t =
    often_said table coin (slice_index (payments table coin))
    ∙ deals_agree table.deck (λ cards. over_lines table (λ i. slice_index (payments table coin) i * printed_chance table coin (Some i) cards)) (best table coin)
    (λ cards d. value_said table coin (representative cards) (least_best table coin (representative cards)) ∙ least_best_value table coin (representative cards) ∙ best_of_class table coin cards t.known_deck.0 d)

pub lines_share_out_draws : LinesShareOutDraws
unfolding often printed_chance
lines_share_out_draws table coin t =
    let all = combos 5 (deck table.deck) in
    let many : length all ≡ choose table.deck 5 = length-combos 5 (deck table.deck) ∙ ap (λ n. choose n 5) (length-deck table.deck) in
    ap (λ n. n + often table coin None)
    (sum_same (λ i. often table coin (Some i)) (λ i. 1 * often table coin (Some i)) (deck (length table.lines.items)) (λ i. once (often table coin (Some i)))
    ∙ often_said table coin (λ i. 1))
    ∙ sym (sum_by-plus (λ cards. over_lines table (λ i. 1 * printed_chance table coin (Some i) cards)) (printed_chance table coin None) all)
    ∙ deals_agree table.deck (λ cards. over_lines table (λ i. 1 * printed_chance table coin (Some i) cards) + printed_chance table coin None cards) (λ cards. common table.deck)
    (λ cards d. one_said table (representative cards) (least_best table coin (representative cards)) t (dealt_is table.deck (representative cards) (representative_deal table.deck cards t.known_deck.0 d)))
    ∙ sum_const (common table.deck) all
    ∙ ap (λ n. n * common table.deck) many
  where
    once : (n : ℕ) → n ≡ 1 * n
    once n = omega arith
