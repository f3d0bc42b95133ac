-- How the lines of `hits` are put, one behind the other.
use Rattle.std.proofs.Common.{◌≡◌, ℕ, zero, suc, ◌+◌, ◌<◌, ◌≤◌, List, [], ◌∷◌, ◌++◌, Some, None, length, drop, drop-cons, get_or, refl, sym, ap, ◌∙◌, arith}
use Rattle.std.proofs.lemmas.Grind.{flat_map-append}
use Rattle.vp_text.specs.Sections.{Text}
use Rattle.vp_text.specs.Written.{line_of, written}
use Rattle.vp_pay.specs.Bets.{Bet}
use Rattle.vp_pay.specs.declared.table.PayLine.{PayLine}
use Rattle.vp_draws.specs.Draws.{return_denominator, sum_of_best}
use Rattle.vp_hits.specs.Hits.{often}
use Rattle.vp_hits.specs.HitsJob.{end_lines, hit_lines, hit_words, hits_lines}

-- the next line, and those behind it
pub hits_left : (many : ℕ → ℕ) (coin all : ℕ) (lines : List PayLine) (place : ℕ) (other : PayLine) → place < length lines
    → written (hit_lines many coin all place (drop place lines)) ≡ line_of (hit_words (get_or lines place other) coin (many place) all) ++ written (hit_lines many coin all (place + 1) (drop (place + 1) lines))
hits_left many coin all lines place other low =
    let next : suc place ≡ place + 1 = omega arith in
    ap (λ (ls : List PayLine). written (hit_lines many coin all place ls)) (drop-cons lines place other low ∙ ap (λ n. get_or lines place other ∷ drop n lines) next)

pub no_hits_left : (many : ℕ → ℕ) (coin all : ℕ) (lines : List PayLine) (place : ℕ) → length lines ≤ place → written (hit_lines many coin all place (drop place lines)) ≡ []
no_hits_left many coin all lines place high = ap (λ (ls : List PayLine). written (hit_lines many coin all place ls)) (none lines place high)
  where
    none : (lines : List PayLine) (place : ℕ) → length lines ≤ place → drop place lines ≡ []
    none [] zero high = refl
    none [] (suc k) high = refl
    none (l ∷ ls) zero high = absurd (omega arith)
    none (l ∷ ls) (suc k) high = none ls k (omega arith)

-- the same numbers make the same lines
same_hits : (f g : ℕ → ℕ) (coin all place end : ℕ) (lines : List PayLine) → place + length lines ≤ end → ((i : ℕ) → i < end → f i ≡ g i) → hit_lines f coin all place lines ≡ hit_lines g coin all place lines
same_hits f g coin all place end [] room same = refl
same_hits f g coin all place end (line ∷ lines) room same =
    ap (λ n. hit_words line coin n all ∷ hit_lines f coin all (place + 1) lines) (same place (omega arith))
    ∙ ap (λ (t : Text). hit_words line coin (g place) all ∷ t) (same_hits f g coin all (place + 1) end lines (omega arith) same)

-- what is put, of the numbers that were reckoned
pub hits_text : (b : Bet) (f : ℕ → ℕ) (none value all under : ℕ) → all ≡ return_denominator b.table.deck 1 → under ≡ return_denominator b.table.deck b.coin
    → ((i : ℕ) → i < length b.table.lines.items → f i ≡ often b.table b.coin (Some i)) → none ≡ often b.table b.coin None → value ≡ sum_of_best b.table b.coin
    → written (hit_lines f b.coin all 0 b.table.lines.items) ++ written (end_lines none value all under) ≡ written (hits_lines b)
hits_text b f none value all under is_all is_under lines is_none is_value =
    let same : hit_lines f b.coin all 0 b.table.lines.items ≡ hit_lines (λ place. often b.table b.coin (Some place)) b.coin (return_denominator b.table.deck 1) 0 b.table.lines.items =
    same_hits f (λ place. often b.table b.coin (Some place)) b.coin all 0 (length b.table.lines.items) b.table.lines.items (omega arith) lines
    ∙ ap (λ n. hit_lines (λ place. often b.table b.coin (Some place)) b.coin n 0 b.table.lines.items) is_all in
    let ends : end_lines none value all under ≡ end_lines (often b.table b.coin None) (sum_of_best b.table b.coin) (return_denominator b.table.deck 1) (return_denominator b.table.deck b.coin) =
    rw (is_none, is_value, is_all, is_under) refl in
    ap (λ (t : Text). written t ++ written (end_lines none value all under)) same
    ∙ ap (λ (t : Text). written (hit_lines (λ place. often b.table b.coin (Some place)) b.coin (return_denominator b.table.deck 1) 0 b.table.lines.items) ++ written t) ends
    ∙ sym (flat_map-append line_of (hit_lines (λ place. often b.table b.coin (Some place)) b.coin (return_denominator b.table.deck 1) 0 b.table.lines.items) (end_lines (often b.table b.coin None) (sum_of_best b.table b.coin) (return_denominator b.table.deck 1) (return_denominator b.table.deck b.coin)))
