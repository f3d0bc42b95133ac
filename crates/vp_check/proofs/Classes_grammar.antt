-- Class lines and the return: each is read from its words, and from no others.
use Rattle.std.proofs.Common.{◌≡◌, ℕ, ◌<◌, ◌≤◌, ◌^◌, Bool, true, false, cond, nat_lt, List, [], ◌∷◌, ◌++◌, length, refl, ap, ◌∙◌, arith, Some, None, inl, inr, ◌⊎◌, length-append, append_assoc}
use Rattle.std.specs.Prelude.{Option, option_map, codes}
use Rattle.std.specs.Fmt.{decimal}
use Rattle.std.specs.List.{AllByRecursion}
use Rattle.std.proofs.lemmas.Bool.{lt-ltb, ltb-true}
use Rattle.std.proofs.lemmas.List.{append-nil}
use Rattle.std.proofs.lemmas.List.Elements.{All-from_recursion}
use Rattle.vp_card.specs.Cards.{in_deck, rises}
use Rattle.vp_text.specs.Lines.{Word}
use Rattle.vp_text.specs.Reading.{next_is}
use Rattle.vp_text.specs.Pieces.{◌>>=◌}
use Rattle.vp_text.specs.ExactReaders.{Exact, Keeps, on_item, Finish, rows_text, AreRows, ExactText}
use Rattle.vp_text.specs.Numbers.{number_within}
use Rattle.vp_text.proofs.Numbers.{number_exact, number_within_exact}
use Rattle.vp_text.proofs.Pieces.{both_true, bound, chosen, no_value, so, Exact-so_many, Exact-one_word}
use Rattle.vp_text.proofs.Sequences.{Exact-then, Exact-after, Exact-all_of, Exact-made, Exact-passing, Exact-also}
use Rattle.vp_text.proofs.Rows.{Exact-rows}
use Rattle.vp_pay.proofs.Deals.{Exact-card}
use Rattle.vp_pay.proofs.Tables.{of_all}
use Rattle.vp_suit.specs.Classes.{IsDeal, representatives}
use Rattle.vp_check.specs.Certificates.{IsClassLine}
use Rattle.vp_check.specs.Reading.{ClassParts, class_from, class_of, return_of, rises_in, row_of, may_follow, class_or_return, class_lines}
use Rattle.vp_check.specs.Spelling.{class_words, return_words}
use Rattle.vp_check.specs.declared.class_line.ClassLine.{ClassLine}
use Rattle.vp_card.proofs.InDeck.{all_below, below_all, below_more}
use Rattle.vp_card.proofs.Rises.{rises-increasing, increasing-rises}

-- ---- cards

-- five rising cards of a deck are a deal
pub rising_deal : (n : ℕ) (cards : List ℕ) → length cards ≡ 5 → rises cards ≡ true → in_deck n cards ≡ true → IsDeal n cards
rising_deal n cards five rise below = record {
  five = five;
  set = record { rising = rises-increasing cards rise; below = All-from_recursion (λ card. card < n) cards (all_below n cards below) };
}

deal_below : (n : ℕ) (cards : List ℕ) → IsDeal n cards → AllByRecursion (λ card. card < n) cards
deal_below n cards is = of_all (λ card. card < n) cards is.set.below

-- ---- a class line

Exact-weight : ExactText decimal (λ weight. (1 ≤ weight) × (weight ≤ 24)) (number_within 1 24)
Exact-weight = number_within_exact 1 24 (omega arith)

Exact-mask : ExactText decimal (λ mask. (0 ≤ mask) × (mask ≤ 31)) (number_within 0 31)
Exact-mask = number_within_exact 0 31 (omega arith)

abbrev parts_of : ClassLine → ClassParts
parts_of line = (line.hand, (line.weight, (line.mask, line.value)))

pub Exact-class : (n : ℕ) → n ≤ 54 → ExactText class_words (IsClassLine n) (class_of n)
unfolding class_of class_words
Exact-class n most =
    let numbers = Exact-then (Exact-one_word Exact-weight) (Exact-then (Exact-one_word Exact-mask) (Exact-one_word number_exact)) in
    let parts = Exact-after (codes "class") (Exact-then (Exact-so_many Exact-card 5) numbers) in
    Exact-also (Exact-passing (Exact-made (Exact-all_of parts refl) class_from parts_of (λ p. refl) (λ line. refl)) (rises_in n))
    class_words (λ line. refl)
    (λ line is.
    let cards = both_true (rises line.hand) (in_deck n line.hand) is.1 in
    record {
      deal = rising_deal n line.hand is.0.0.count cards.0 cards.1;
      some_weight = is.0.1.0.0;
      most_weight = is.0.1.0.1;
      mask = omega (arith, is.0.1.1.0.1);
      value = is.0.1.1.1;
    })
    (λ line is.
    let below = deal_below n line.hand is.deal in (
      (record { count = is.deal.five; all = below_more n 54 line.hand most below }, ((is.some_weight, is.most_weight), ((omega arith, omega (arith, is.mask)), is.value))),
      rw (increasing-rises line.hand is.deal.set.rising) (below_all n line.hand below),
    ))

-- ---- the return

-- both are numbers
abbrev pub IsReturn : ℕ × ℕ → Type 0
IsReturn r = (r.0 < 2 ^ 64) × (r.1 < 2 ^ 64)

abbrev pub words_of_return : ℕ × ℕ → List Word
words_of_return r = return_words r.0 r.1

Exact-return : ExactText words_of_return IsReturn return_of
unfolding return_of return_words
Exact-return =
    let parts = Exact-after (codes "return") (Exact-then (Exact-one_word number_exact) (Exact-after (codes "/") (Exact-one_word number_exact))) in
    Exact-also (Exact-all_of parts refl) words_of_return (λ r. refl) (λ r is. is) (λ r is. is)

-- ---- class lines up to the return

-- a row: a class line, or the return
abbrev pub row_words : ClassLine ⊎ (ℕ × ℕ) → List Word
row_words (inl line) = class_words line
row_words (inr r) = words_of_return r

abbrev IsRow : ℕ → ClassLine ⊎ (ℕ × ℕ) → Type 0
IsRow n (inl line) = IsClassLine n line
IsRow n (inr r) = IsReturn r

as_class : ClassLine → ClassLine ⊎ (ℕ × ℕ)
as_class line = inl line

as_return : ℕ × ℕ → ClassLine ⊎ (ℕ × ℕ)
as_return r = inr r

row_taken : (n : ℕ) (words : List Word) (row : ClassLine ⊎ (ℕ × ℕ)) → n ≤ 54 → row_of n words ≡ Some row → IsRow n row × (row_words row ≡ words)
unfolding row_of as_class as_return
row_taken n words row most read = by_key (next_is (codes "return") words) read
  where
    P : ClassLine ⊎ (ℕ × ℕ) → Type 0
    P row = IsRow n row × (row_words row ≡ words)

    a_return : (o : Option (ℕ × ℕ)) → return_of words ≡ o → option_map as_return o ≡ Some row → P row
    a_return None is e = absurd (no_value row e)
    a_return (Some r) is e = so P (inr r) row e (Exact-return.takes words r is)

    a_class : (o : Option ClassLine) → class_of n words ≡ o → option_map as_class o ≡ Some row → P row
    a_class None is e = absurd (no_value row e)
    a_class (Some line) is e = so P (inl line) row e ((Exact-class n most).takes words line is)

    by_key : (b : Bool) → cond b (option_map as_return (return_of words)) (option_map as_class (class_of n words)) ≡ Some row → P row
    by_key true e = a_return (return_of words) refl e
    by_key false e = a_class (class_of n words) refl e

class_is : (line : ClassLine) → next_is (codes "return") (class_words line) ≡ false
unfolding class_words
class_is line = refl

return_is : (r : ℕ × ℕ) → next_is (codes "return") (words_of_return r) ≡ true
unfolding return_words
return_is r = refl

row_again : (n : ℕ) (row : ClassLine ⊎ (ℕ × ℕ)) → n ≤ 54 → IsRow n row → row_of n (row_words row) ≡ Some row
unfolding row_of as_class as_return
row_again n (inl line) most is =
    ap (λ (b : Bool). cond b (option_map as_return (return_of (class_words line))) (option_map as_class (class_of n (class_words line)))) (class_is line)
    ∙ ap (option_map as_class) ((Exact-class n most).again line is)
row_again n (inr r) most is =
    ap (λ (b : Bool). cond b (option_map as_return (return_of (words_of_return r))) (option_map as_class (class_of n (words_of_return r)))) (return_is r)
    ∙ ap (option_map as_return) (Exact-return.again r is)

-- a class line may follow these
pub record MayFollow (n : ℕ) (front : List ClassLine) (line : ClassLine) : Type 0 where
  pub class : IsClassLine n line
  pub room : length front < length (representatives n)

abbrev pub RowRule : ℕ → List ClassLine → ClassLine ⊎ (ℕ × ℕ) → Type 0
RowRule n front (inl line) = MayFollow n front line
RowRule n front (inr r) = IsReturn r

-- a row that may follow
follows : (n : ℕ) (front : List ClassLine) (words : List Word) (row other : ClassLine ⊎ (ℕ × ℕ)) → IsRow n row × (row_words row ≡ words) → may_follow n front row ≡ Some other
    → RowRule n front other × (row_words other ≡ words)
follows n front words (inr r) other is e = so (λ row. RowRule n front row × (row_words row ≡ words)) (inr r) other e is
follows n front words (inl line) other is e =
    chosen (λ row. RowRule n front row × (row_words row ≡ words)) (nat_lt (length front) (length (representatives n))) (Some (inl line)) None other e
    (λ room same. so (λ row. RowRule n front row × (row_words row ≡ words)) (inl line) other same (record { class = is.0; room = ltb-true (length front) (length (representatives n)) room }, is.1))
    (λ none. absurd (no_value other none))

followed : (n : ℕ) (front : List ClassLine) (row : ClassLine ⊎ (ℕ × ℕ)) → RowRule n front row → IsRow n row × (may_follow n front row ≡ Some row)
followed n front (inl line) is = (is.class, rw (lt-ltb (length front) (length (representatives n)) is.room))
followed n front (inr r) is = (is, refl)

rule_taken : (n : ℕ) (front : List ClassLine) (words : List Word) (row : ClassLine ⊎ (ℕ × ℕ)) → n ≤ 54 → class_or_return n front words ≡ Some row → RowRule n front row × (row_words row ≡ words)
unfolding class_or_return
rule_taken n front words row most read =
    let first = bound _ _ _ read in
    follows n front words first.value row (row_taken n words first.value most first.first) first.then

rule_again : (n : ℕ) (front : List ClassLine) (row : ClassLine ⊎ (ℕ × ℕ)) → n ≤ 54 → RowRule n front row → class_or_return n front (row_words row) ≡ Some row
unfolding class_or_return
rule_again n front row most is =
    let both = followed n front row is in
    ap (λ (o : Option (ClassLine ⊎ (ℕ × ℕ))). o >>= may_follow n front) (row_again n row most both.0) ∙ both.1

Exact-row : (n : ℕ) → n ≤ 54 → (front : List ClassLine) → ExactText row_words (RowRule n front) (class_or_return n front)
Exact-row n most front = record {
  takes = λ words row read. rule_taken n front words row most read;
  again = λ row is. rule_again n front row most is;
}

-- behind any class lines the return can follow
finish : (n : ℕ) (front : List ClassLine) → Finish (RowRule n) front
finish n front = record { more = []; close = (0, 0); keeps = tt; closes = (omega arith, omega arith) }

pub Exact-class_lines : (n : ℕ) → n ≤ 54 → Exact (rows_text row_words) (AreRows (RowRule n)) (class_lines n)
Exact-class_lines n most = Exact-rows row_words (RowRule n) (class_or_return n) (Exact-row n most) (λ front keeps. finish n front)

-- ---- class lines that keep their rules one after another

pub keeps_are : (n : ℕ) (front more : List ClassLine) → Keeps (on_item (RowRule n)) front more → length front ≤ length (representatives n)
    → AllByRecursion (IsClassLine n) more × (length (front ++ more) ≤ length (representatives n))
keeps_are n front [] keeps room = (tt, rw (append-nil front) room)
keeps_are n front (line ∷ more) keeps room =
    let rest = keeps_are n (front ++ line ∷ []) more keeps.1 (omega (arith, length-append front (line ∷ []), keeps.0.room)) in
    ((keeps.0.class, rest.0), rw (← append_assoc front (line ∷ []) more) rest.1)

pub are_keeps : (n : ℕ) (front more : List ClassLine) → AllByRecursion (IsClassLine n) more → length (front ++ more) ≤ length (representatives n) → Keeps (on_item (RowRule n)) front more
are_keeps n front [] all room = tt
are_keeps n front (line ∷ more) all room = (
  record { class = all.0; room = omega (arith, length-append front (line ∷ more)) },
  are_keeps n (front ++ line ∷ []) more all.1 (rw (append_assoc front (line ∷ []) more) room),
)
