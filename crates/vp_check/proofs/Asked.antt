-- Class lines that are asked, and walked many at once.
use Rattle.std.proofs.Common.{◌≡◌, ℕ, zero, suc, ◌+◌, ◌<◌, ◌≤◌, Bool, true, false, cond, not, nat_lt, ◌==◌, Option, Some, None, Result, Ok, Err, List, [], ◌∷◌, ◌++◌, length, get_or, map, take, refl, ap, sym, subst, ◌∙◌, arith}
use Rattle.std.specs.List.{All}
use Rattle.std.proofs.lemmas.List.Elements.{All-append, All-head, All-tail}
use Rattle.std.proofs.lemmas.List.{get_or-take, length-take-le}
use Rattle.vp_card.specs.Cards.{in_deck}
use Rattle.vp_pay.specs.declared.table.PayTable.{PayTable}
use Rattle.vp_draws.specs.Many.{AreValues, deal_at}
use Rattle.vp_suit.proofs.TurnedDraws.{dealt_is}
use Rattle.vp_check.specs.Certificates.{IsClassLine}
use Rattle.vp_check.specs.Rows.{classes_of}
use Rattle.std.proofs.lemmas.Bool.{eq-eqb, ne_eqb}
use Rattle.vp_draws.specs.Draws.{best, value}
use Rattle.vp_check.specs.Rules.{broken_if, first_of, mask_breach, value_breach, walked_breach}
use Rattle.vp_check.specs.declared.finding.CertRule.TheVariants.{Mask, Value}
use Rattle.vp_check.proofs.Walked.{first_single}
use Rattle.vp_check.specs.Walks.{HaveValues, asked_or, finding_or, found_or}
use Rattle.vp_check.specs.declared.class_line.ClassLine.{ClassLine}
use Rattle.vp_check.specs.declared.numbered.Numbered.{Numbered}
use Rattle.vp_check.specs.declared.rules.Breach.{Breach}
use Rattle.vp_check.specs.declared.finding.Finding.{Finding}
use Rattle.vp_check.specs.declared.finding.Finding.TheVariants.{Bad}

-- one line more is asked behind the others
pub asked_push : (table : PayTable) (coin : ℕ) (asked : List Numbered) (row : Numbered) (later : Result ℕ Finding)
    → asked_or table coin (asked ++ row ∷ []) later ≡ asked_or table coin asked (found_or (walked_breach table coin row.class) row.line later)
asked_push table coin [] row later = refl
asked_push table coin (first ∷ asked) row later = ap (found_or (walked_breach table coin first.class) first.line) (asked_push table coin asked row later)

pub lines_push : (n : ℕ) (asked : List Numbered) (row : Numbered) → All (IsClassLine n) (classes_of asked) → IsClassLine n row.class → All (IsClassLine n) (classes_of (asked ++ row ∷ []))
lines_push n asked row all one =
    subst (λ (lines : List ClassLine). All (IsClassLine n) lines) (sym (pushed asked)) (All-append (IsClassLine n) (classes_of asked) (row.class ∷ []) all only)
  where
    pushed : (asked : List Numbered) → classes_of (asked ++ row ∷ []) ≡ classes_of asked ++ row.class ∷ []
    pushed [] = refl
    pushed (first ∷ asked) = ap (λ (lines : List ClassLine). first.class ∷ lines) (pushed asked)

    only : All (IsClassLine n) (row.class ∷ [])
    only zero d l = one
    only (suc k) d l = absurd (omega arith)

-- the hands of class lines of the deck
pub hands_of_deck : (n : ℕ) (asked : List Numbered) → All (IsClassLine n) (classes_of asked) → (k : ℕ) → k < length asked → in_deck n (deal_at (map (λ row. row.class.hand) asked) k) ≡ true
hands_of_deck n [] all k l = absurd (omega arith)
hands_of_deck n (row ∷ asked) all zero l = (dealt_is n row.class.hand (All-head (IsClassLine n) row.class (classes_of asked) all).deal).of_deck
hands_of_deck n (row ∷ asked) all (suc k) l = hands_of_deck n asked (All-tail (IsClassLine n) row.class (classes_of asked) all) k (omega arith)

-- the hands in front of others
pub front_is : (asked : List Numbered) (hands : List (List ℕ)) → ((k : ℕ) → k < length asked → deal_at hands k ≡ deal_at (map (λ row. row.class.hand) asked) k)
    → (k : ℕ) → k < length asked → deal_at (take (length asked) hands) k ≡ deal_at (map (λ row. row.class.hand) asked) k
front_is asked hands same k l = get_or-take (length asked) hands k [] l ∙ same k l

pub front_of_deck : (n : ℕ) (asked : List Numbered) (hands : List (List ℕ)) → All (IsClassLine n) (classes_of asked)
    → ((k : ℕ) → k < length asked → deal_at hands k ≡ deal_at (map (λ row. row.class.hand) asked) k) → length asked ≤ length hands
    → (k : ℕ) → k < length (take (length asked) hands) → in_deck n (deal_at (take (length asked) hands) k) ≡ true
front_of_deck n asked hands all same long k l =
    let m : k < length asked = omega (arith, length-take-le (length asked) hands long) in
    ap (in_deck n) (front_is asked hands same k m) ∙ hands_of_deck n asked all k m

-- each line with its row of values
pub have_values : (table : PayTable) (coin : ℕ) (asked : List Numbered) (values rest : List (List ℕ)) → length values ≡ length asked
    → ((k : ℕ) → k < length asked → AreValues table coin (deal_at (map (λ row. row.class.hand) asked) k) (get_or values k []))
    → HaveValues table coin asked (values ++ rest)
have_values table coin [] values rest long h = tt
have_values table coin (row ∷ asked) [] rest long h = absurd (omega arith)
have_values table coin (row ∷ asked) (worths ∷ values) rest long h = (h 0 (omega arith), have_values table coin asked values rest (omega arith) (λ k l. h (suc k) (omega arith)))

pub masks_small : (n : ℕ) (asked : List Numbered) → All (IsClassLine n) (classes_of asked) → All (λ line. line.mask < 32) (classes_of asked)
masks_small n asked all = λ k d l. let h : IsClassLine n (get_or (classes_of asked) k d) = all k d l in h.mask

-- ---- the broken rules of one line

-- the value is not the greatest
pub value_breaks : (table : PayTable) (coin : ℕ) (line : ClassLine) (due : ℕ) → due ≡ best table coin line.hand → (line.value ≡ due → ⊥) → broken_if true Value line.value due ≡ walked_breach table coin line
unfolding walked_breach value_breach
value_breaks table coin line due is other =
    rw is (ap (λ (b : Bool). first_of (broken_if (not b) Value line.value (best table coin line.hand) ∷ mask_breach table coin line ∷ [])) (sym (ne_eqb line.value (best table coin line.hand) (λ e. other (e ∙ sym is)))))

-- the value is the greatest, and the mask may have less
pub mask_breaks : (table : PayTable) (coin : ℕ) (line : ClassLine) (due worth : ℕ) → due ≡ best table coin line.hand → line.value ≡ due → worth ≡ value table coin line.hand line.mask
    → broken_if (nat_lt worth due) Mask worth due ≡ walked_breach table coin line
unfolding walked_breach value_breach mask_breach
mask_breaks table coin line due worth is same has =
    rw (is, has) (
    sym (first_single (mask_breach table coin line))
    ∙ ap (λ (b : Bool). first_of (broken_if (not b) Value line.value (best table coin line.hand) ∷ mask_breach table coin line ∷ [])) (sym (eq-eqb line.value (best table coin line.hand) (same ∙ is)))
    )
