-- The lines share out the draws of a hold, and what they pay makes the sum of its payments.
use Rattle.std.proofs.Common.{◌≡◌, ◌≢◌, inl, inr, ℕ, zero, suc, ◌+◌, ◌-◌, ◌*◌, ◌^◌, ◌<◌, ◌≤◌, Bool, true, false, cond, ◌==◌, List, [], Option, Some, None, length, get_or, map, refl, sym, ap, ◌∙◌, arith}
use Rattle.std.specs.Prelude.{sum_by, count_by, slice_index, unwrap_or}
use Rattle.std.proofs.lemmas.Bool.{cases_eq, eq-eqb, ne_eqb}
use Rattle.std.proofs.lemmas.List.{get_or-map}
use Rattle.vp_card.specs.Cards.{IsHand, held, in_deck, joined}
use Rattle.vp_pay.specs.declared.table.PayLine.{PayLine}
use Rattle.vp_pay.specs.declared.table.PayTable.{PayTable}
use Rattle.vp_pay.specs.Table.{IsTable}
use Rattle.vp_sets.specs.Sets.{deck}
use Rattle.vp_sets.specs.Draws.{discarded, draws, scale, sum_over_draws}
use Rattle.vp_sets.proofs.Decks.{get_or-deck, length-deck}
use Rattle.vp_sets.proofs.Sublists.{sum_by-plus}
use Rattle.vp_sets.proofs.Sums.{exchanged, last_place, no_place, sum_const, sum_same, sum_times}
use Rattle.vp_wild.specs.Kept.{slot}
use Rattle.vp_wild.specs.Payment.{line, pay}
use Rattle.vp_wild.proofs.ByShape.{pay_at, pay_none}
use Rattle.vp_draws.specs.Draws.{total, value}
use Rattle.vp_draws.proofs.Values.{total_le, value_fits, value_is}
use Rattle.vp_sets.proofs.Binomials.{choose_small}
use Rattle.vp_sets.proofs.Holds.{Dealt, dealt_from, length-held}
use Rattle.vp_draws.specs.ByLine.{ends_at, line_draws}
use Rattle.vp_hold.proofs.Numbers.{inside, nothing}
use Rattle.vp_holds.specs.Holds.{AreLineDraws, line_pays}
use Rattle.vp_holds.specs.HoldsTell.{has_line, has_none}

-- ---- the lines of one hand

-- what is said of the place s
abbrev said : (ℕ → ℕ) → ℕ → ℕ → ℕ
said g s i = g i * cond {A = ℕ} (s == i) 1 0

said_other : (g : ℕ → ℕ) (s i : ℕ) → s ≢ i → said g s i ≡ 0
said_other g s i other = ap (λ (b : Bool). g i * cond {A = ℕ} b 1 0) (ne_eqb s i other) ∙ none (g i)
  where
    none : (n : ℕ) → n * 0 ≡ 0
    none n = omega arith

said_own : (g : ℕ → ℕ) (s : ℕ) → said g s s ≡ g s
said_own g s = ap (λ (b : Bool). g s * cond {A = ℕ} b 1 0) (eq-eqb s s refl) ∙ once (g s)
  where
    once : (n : ℕ) → n * 1 ≡ n
    once n = omega arith

past : (g : ℕ → ℕ) (m s : ℕ) → m ≤ s → sum_by (said g s) (deck m) ≡ 0
past g zero s l = no_place (said g s)
past g (suc m) s l = omega (arith, last_place (said g s) m, past g m s (omega arith), said_other g s m (λ e. omega arith))

among : (g : ℕ → ℕ) (m s : ℕ) → s < m → sum_by (said g s) (deck m) ≡ g s
among g zero s l = absurd (omega arith)
among g (suc m) s l = elim (cases_eq s m) [
  | inl same ↦ omega (arith, last_place (said g s) m, past g m s (omega arith), ap (said g s) (sym same), said_own g s)
  | inr other ↦ omega (arith, last_place (said g s) m, among g m s (omega arith), said_other g s m other)
]

-- what g says of the lines of a hand: of the one that it has
abbrev marks : PayTable → (ℕ → ℕ) → List ℕ → ℕ
marks table g hand = sum_by (λ i. g i * ends_at table i hand) (deck (length table.lines.items))

marks_are : (table : PayTable) (g : ℕ → ℕ) (hand : List ℕ) → marks table g hand ≡ sum_by (said g (slot table hand)) (deck (length table.lines.items))
unfolding ends_at
marks_are table g hand = refl

ends_is : (table : PayTable) (place : ℕ) (hand : List ℕ) → ends_at table place hand ≡ cond (slot table hand == place) 1 0
unfolding ends_at
ends_is table place hand = refl

-- where a hand's line stands
slot_none : (table : PayTable) (hand : List ℕ) → line table hand ≡ None → slot table hand ≡ 32
slot_none table hand e = ap (λ (o : Option ℕ). unwrap_or o 32) e

slot_some : (table : PayTable) (hand : List ℕ) (j : ℕ) → line table hand ≡ Some j → slot table hand ≡ j
slot_some table hand j e = ap (λ (o : Option ℕ). unwrap_or o 32) e

-- a hand has one line or none
one_or_none : (table : PayTable) (hand : List ℕ) → IsTable table → marks table (λ i. 1) hand + ends_at table 32 hand ≡ 1
one_or_none table hand t = by_line (line table hand) refl
  where
    by_line : (o : Option ℕ) → line table hand ≡ o → marks table (λ i. 1) hand + ends_at table 32 hand ≡ 1
    by_line None e =
        let s : slot table hand ≡ 32 = slot_none table hand e in
        omega (arith, marks_are table (λ i. 1) hand, past (λ i. 1) (length table.lines.items) (slot table hand) (omega (arith, t.most_lines)), ends_is table 32 hand, ap (λ (b : Bool). cond {A = ℕ} b 1 0) (eq-eqb (slot table hand) 32 s))
    by_line (Some j) e =
        let l : j < length table.lines.items = inside table hand j e in
        let s : slot table hand ≡ j = slot_some table hand j e in
        omega (arith, marks_are table (λ i. 1) hand, among (λ i. 1) (length table.lines.items) (slot table hand) (omega arith), ends_is table 32 hand, ap (λ (b : Bool). cond {A = ℕ} b 1 0) (ne_eqb (slot table hand) 32 (λ q. omega (arith, t.most_lines))))

-- a hand is paid by its line
payment_at : (table : PayTable) (coin j : ℕ) → j < length table.lines.items → slice_index (line_pays table coin) j ≡ slice_index (get_or table.lines.items j nothing).pays (coin - 1)
unfolding line_pays
payment_at table coin j l = get_or-map (λ (x : PayLine). slice_index x.pays (coin - 1)) table.lines.items j nothing 0 l

paid_by_line : (table : PayTable) (coin : ℕ) (hand : List ℕ) → IsTable table → marks table (slice_index (line_pays table coin)) hand ≡ pay table coin hand
paid_by_line table coin hand t = by_line (line table hand) refl
  where
    by_line : (o : Option ℕ) → line table hand ≡ o → marks table (slice_index (line_pays table coin)) hand ≡ pay table coin hand
    by_line None e =
        let s : slot table hand ≡ 32 = slot_none table hand e in
        marks_are table (slice_index (line_pays table coin)) hand
        ∙ past (slice_index (line_pays table coin)) (length table.lines.items) (slot table hand) (omega (arith, t.most_lines)) ∙ sym (pay_none table coin hand e)
    by_line (Some j) e =
        let l : j < length table.lines.items = inside table hand j e in
        let s : slot table hand ≡ j = slot_some table hand j e in
        marks_are table (slice_index (line_pays table coin)) hand
        ∙ among (slice_index (line_pays table coin)) (length table.lines.items) (slot table hand) (omega arith)
        ∙ ap (slice_index (line_pays table coin)) s ∙ payment_at table coin j l ∙ sym (pay_at table coin hand j nothing e)

-- ---- the draws of a hold

-- what g says of the lines, for each draw that ends on them, is what it says of the lines of the final hands
draws_said : (table : PayTable) (g : ℕ → ℕ) (cards : List ℕ) (mask : ℕ) → sum_by (λ i. g i * line_draws table i cards mask) (deck (length table.lines.items)) ≡ sum_over_draws (marks table g) table.deck cards mask
unfolding line_draws sum_over_draws
draws_said table g cards mask =
    let all = draws table.deck cards mask in
    sum_same (λ i. g i * sum_by (λ drawn. ends_at table i (joined (held mask cards) drawn)) all) (λ i. sum_by (λ drawn. g i * ends_at table i (joined (held mask cards) drawn)) all) (deck (length table.lines.items))
    (λ i. sum_times (g i) (λ drawn. ends_at table i (joined (held mask cards) drawn)) all)
    ∙ exchanged (λ i drawn. g i * ends_at table i (joined (held mask cards) drawn)) (length table.lines.items) all

-- the lines make the sum of the payments
pub lines_pay : (table : PayTable) (coin : ℕ) (cards : List ℕ) (mask : ℕ) → IsTable table
    → sum_by (λ i. slice_index (line_pays table coin) i * line_draws table i cards mask) (deck (length table.lines.items)) ≡ total table coin cards mask
unfolding total sum_over_draws
lines_pay table coin cards mask t =
    draws_said table (slice_index (line_pays table coin)) cards mask
    ∙ sum_same (λ drawn. marks table (slice_index (line_pays table coin)) (joined (held mask cards) drawn)) (λ drawn. pay table coin (joined (held mask cards) drawn)) (draws table.deck cards mask)
    (λ drawn. paid_by_line table coin (joined (held mask cards) drawn) t)

-- all lines and none make all draws
pub lines_share : (table : PayTable) (cards : List ℕ) (mask : ℕ) → IsTable table
    → sum_by (λ i. line_draws table i cards mask) (deck (length table.lines.items)) + line_draws table 32 cards mask ≡ length (draws table.deck cards mask)
unfolding line_draws sum_over_draws
lines_share table cards mask t =
    let all = draws table.deck cards mask in
    ap (λ n. n + line_draws table 32 cards mask)
    (sum_same (λ i. line_draws table i cards mask) (λ i. 1 * line_draws table i cards mask) (deck (length table.lines.items)) (λ i. once (line_draws table i cards mask)) ∙ draws_said table (λ i. 1) cards mask)
    ∙ sym (sum_by-plus (λ drawn. marks table (λ i. 1) (joined (held mask cards) drawn)) (λ drawn. ends_at table 32 (joined (held mask cards) drawn)) all)
    ∙ sum_same (λ drawn. marks table (λ i. 1) (joined (held mask cards) drawn) + ends_at table 32 (joined (held mask cards) drawn)) (λ drawn. 1) all (λ drawn. one_or_none table (joined (held mask cards) drawn) t)
    ∙ sum_const 1 all ∙ many (length all)
  where
    once : (n : ℕ) → n ≡ 1 * n
    once n = omega arith

    many : (n : ℕ) → n * 1 ≡ n
    many n = omega arith

-- ---- the words of the law

ends_on_line : (table : PayTable) (place : ℕ) (hand : List ℕ) → place < 32 → ends_at table place hand ≡ cond (has_line table place hand) 1 0
unfolding ends_at has_line
ends_on_line table place hand small = by_line (line table hand)
  where
    by_line : (o : Option ℕ) → cond {A = ℕ} (unwrap_or o 32 == place) 1 0 ≡ cond {A = ℕ} (Rattle.std.specs.Option.option_map_or (λ found. found == place) o false) 1 0
    by_line None = ap (λ (b : Bool). cond {A = ℕ} b 1 0) (ne_eqb 32 place (λ e. omega arith))
    by_line (Some j) = refl

ends_on_none : (table : PayTable) (hand : List ℕ) → IsTable table → ends_at table 32 hand ≡ cond (has_none table hand) 1 0
unfolding ends_at has_none
ends_on_none table hand t = by_line (line table hand) refl
  where
    by_line : (o : Option ℕ) → line table hand ≡ o → cond {A = ℕ} (unwrap_or (line table hand) 32 == 32) 1 0 ≡ cond {A = ℕ} (Rattle.std.specs.Option.option_map_or (λ found. false) (line table hand) true) 1 0
    by_line None e =
        ap (λ (o : Option ℕ). cond {A = ℕ} (unwrap_or o 32 == 32) 1 0) e ∙ sym (ap (λ (o : Option ℕ). cond {A = ℕ} (Rattle.std.specs.Option.option_map_or (λ found. false) o true) 1 0) e)
    by_line (Some j) e =
        ap (λ (o : Option ℕ). cond {A = ℕ} (unwrap_or o 32 == 32) 1 0) e ∙ ap (λ (b : Bool). cond {A = ℕ} b 1 0) (ne_eqb j 32 (λ q. omega (arith, inside table hand j e, t.most_lines)))
        ∙ sym (ap (λ (o : Option ℕ). cond {A = ℕ} (Rattle.std.specs.Option.option_map_or (λ found. false) o true) 1 0) e)

pub counted_line : (table : PayTable) (place : ℕ) (cards : List ℕ) (mask : ℕ) → place < 32
    → line_draws table place cards mask ≡ count_by (λ drawn. has_line table place (joined (held mask cards) drawn)) (draws table.deck cards mask)
unfolding line_draws sum_over_draws
counted_line table place cards mask small =
    sum_same (λ drawn. ends_at table place (joined (held mask cards) drawn)) (λ drawn. cond (has_line table place (joined (held mask cards) drawn)) 1 0) (draws table.deck cards mask)
    (λ drawn. ends_on_line table place (joined (held mask cards) drawn) small)

pub counted_none : (table : PayTable) (cards : List ℕ) (mask : ℕ) → IsTable table
    → line_draws table 32 cards mask ≡ count_by (λ drawn. has_none table (joined (held mask cards) drawn)) (draws table.deck cards mask)
unfolding line_draws sum_over_draws
counted_none table cards mask t =
    sum_same (λ drawn. ends_at table 32 (joined (held mask cards) drawn)) (λ drawn. cond (has_none table (joined (held mask cards) drawn)) 1 0) (draws table.deck cards mask)
    (λ drawn. ends_on_none table (joined (held mask cards) drawn) t)

-- ---- numbers by the places of the lines

pub at_place : (f : ℕ → ℕ) (m place : ℕ) → place < m → slice_index (map f (deck m)) place ≡ f place
at_place f m place l =
    get_or-map f (deck m) place 0 0 (omega (arith, length-deck m)) ∙ ap f (get_or-deck m place l)

-- numbers that agree below m have the same sum
pub sum_agree : (f g : ℕ → ℕ) (m : ℕ) → ((i : ℕ) → i < m → f i ≡ g i) → sum_by f (deck m) ≡ sum_by g (deck m)
sum_agree f g zero same = no_place f ∙ sym (no_place g)
sum_agree f g (suc m) same = omega (arith, last_place f m, last_place g m, sum_agree f g m (λ i l. same i (omega arith)), same m (omega arith))

-- a sum over fewer places is no more
pub sum_grows : (f : ℕ → ℕ) (p m : ℕ) → p ≤ m → sum_by f (deck p) ≤ sum_by f (deck m)
sum_grows f p zero l = let z : p ≡ 0 = omega arith in ap_le z
  where
    ap_le : p ≡ 0 → sum_by f (deck p) ≤ sum_by f (deck 0)
    ap_le e = omega (arith, ap (λ k. sum_by f (deck k)) e)
sum_grows f p (suc m) l = elim (cases_eq p (suc m)) [
  | inl e ↦ omega (arith, ap (λ k. sum_by f (deck k)) e)
  | inr n ↦ omega (arith, last_place f m, sum_grows f p m (omega arith))
]

-- the payment of a line that was read
pub pay_of : (table : PayTable) (coin place : ℕ) (row : PayLine) → place < length table.lines.items → row ≡ get_or table.lines.items place row → slice_index row.pays (coin - 1) ≡ slice_index (line_pays table coin) place
unfolding line_pays
pay_of table coin place row l is = sym (get_or-map (λ (x : PayLine). slice_index x.pays (coin - 1)) table.lines.items place row 0 l ∙ ap (λ (x : PayLine). slice_index x.pays (coin - 1)) (sym is))

-- the row of a hold makes the sum of its payments, which fits
pub row_total : (table : PayTable) (coin : ℕ) (cards : List ℕ) (counts : List (List ℕ)) (mask : ℕ) → AreLineDraws table cards counts → mask < 32 → IsTable table
    → sum_by (λ place. slice_index (line_pays table coin) place * slice_index (get_or counts mask []) place) (deck (length table.lines.items)) ≡ total table coin cards mask
row_total table coin cards counts mask are small t =
    sum_agree (λ place. slice_index (line_pays table coin) place * slice_index (get_or counts mask []) place) (λ place. slice_index (line_pays table coin) place * line_draws table place cards mask) (length table.lines.items)
    (λ i l. ap (λ n. slice_index (line_pays table coin) i * n) (are mask i small (omega (arith, t.most_lines))))
    ∙ lines_pay table coin cards mask t

pub row_fits : (table : PayTable) (coin : ℕ) (cards : List ℕ) (counts : List (List ℕ)) (mask : ℕ) → AreLineDraws table cards counts → mask < 32 → IsTable table → IsHand cards → in_deck table.deck cards ≡ true
    → sum_by (λ place. slice_index (line_pays table coin) place * slice_index (get_or counts mask []) place) (deck (length table.lines.items)) < 2 ^ 64
row_fits table coin cards counts mask are small t h deck =
    let d : Dealt table.deck cards = dealt_from table.deck cards h deck in
    let few : length (discarded mask cards) ≤ 5 = omega (arith, length-held mask cards, d.five) in
    omega (arith, row_total table coin cards counts mask are small t, total_le table coin cards mask t d, choose_small (table.deck - 5) (length (discarded mask cards)) (omega (arith, t.known_deck.1)) few)

pub value_made : (table : PayTable) (coin : ℕ) (cards : List ℕ) (mask sum by drawn : ℕ) → sum ≡ total table coin cards mask → by ≡ scale table.deck drawn → drawn ≡ length (discarded mask cards) → sum * by ≡ value table coin cards mask
value_made table coin cards mask sum by drawn a b c = rw (a, b, c) (value_is table coin cards mask)

pub value_room : (table : PayTable) (coin : ℕ) (cards : List ℕ) (mask sum by drawn : ℕ) → IsTable table → IsHand cards → in_deck table.deck cards ≡ true → sum ≡ total table coin cards mask → by ≡ scale table.deck drawn → drawn ≡ length (discarded mask cards) → sum * by < 2 ^ 64
value_room table coin cards mask sum by drawn t h deck a b c = rw (a, b, c) (value_fits table coin cards mask t (dealt_from table.deck cards h deck))

-- one place more
pub next_place : (f : ℕ → ℕ) (m : ℕ) → sum_by f (deck (m + 1)) ≡ sum_by f (deck m) + f m
next_place f m = ap (λ k. sum_by f (deck k)) (one_more m) ∙ last_place f m
  where
    one_more : (m : ℕ) → m + 1 ≡ suc m
    one_more m = omega arith
