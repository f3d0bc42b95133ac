-- Rules and exceptions: each is read from its words, and from no others.
use Rattle.std.proofs.Common.{◌≡◌, ℕ, ◌<◌, ◌≤◌, true, ◌&&◌, List, [], ◌∷◌, length, refl, sym, ap, ◌∙◌, arith, Some}
use Rattle.std.specs.Prelude.{codes, flat_map}
use Rattle.std.specs.Fmt.{decimal}
use Rattle.std.proofs.lemmas.List.Elements.{All-from_recursion}
use Rattle.vp_card.specs.Cards.{IsDeck, in_deck, rises}
use Rattle.vp_card.proofs.InDeck.{all_below, below_all, below_more}
use Rattle.vp_card.proofs.Rises.{rises-increasing, increasing-rises}
use Rattle.vp_text.specs.Lines.{Word}
use Rattle.vp_text.specs.Pieces.{AreUpTo, up_to_end}
use Rattle.vp_text.specs.ExactReaders.{ExactText}
use Rattle.vp_text.proofs.Numbers.{number_within_exact}
use Rattle.vp_text.proofs.Pieces.{both_true, bound, no_value, so, took, Exact-key_word, Exact-one_word, Exact-so_many}
use Rattle.vp_text.proofs.Sequences.{Exact-after, Exact-all_of, Exact-also, Exact-passing, Exact-then}
use Rattle.vp_text.proofs.UpTo.{Exact-up_to_end}
use Rattle.vp_pay.proofs.Deals.{Exact-card}
use Rattle.vp_pay.proofs.Tables.{of_all}
use Rattle.vp_pay.specs.Table.{IsTable}
use Rattle.vp_pay.specs.declared.table.PayTable.{PayTable}
use Rattle.vp_suit.specs.Classes.{IsDeal, is_representative}
use Rattle.vp_rule.specs.Reading.{digit, stands, exception_of, rule_from, rule_of, test_behind}
use Rattle.vp_rule.specs.Spelling.{except_words, rule_words, test_words}
use Rattle.vp_rule.specs.Valid.{IsTest, IsRule, IsException}
use Rattle.vp_rule.specs.declared.rule.Rule.{Rule}
use Rattle.vp_rule.specs.declared.rule.Test.{Test}
use Rattle.vp_rule.proofs.TestsGrammar.{Exact-test}

-- ---- rules

module _ (version : ℕ) (table : PayTable) (is_table : IsTable table) where
  -- the tests of a rule
  Exact-tests : ExactText (flat_map (test_words table)) (AreUpTo (IsTest version table) 8) (up_to_end 8 (test_behind version table))
  Exact-tests = Exact-up_to_end (test_words table) (IsTest version table) (test_behind version table) (Exact-test version table is_table) 8

  of_tests : (words : List Word) (tests : List Test) (rule : Rule) → AreUpTo (IsTest version table) 8 tests → flat_map (test_words table) tests ≡ words → rule_from tests ≡ Some rule
      → IsRule version table rule × (flat_map (test_words table) rule.tests.items ≡ words)
  of_tests words [] rule are said read = absurd (no_value rule read)
  of_tests words (test ∷ tests) rule are said read =
      so (λ r. IsRule version table r × (flat_map (test_words table) r.tests.items ≡ words)) (record { tests = record { items = test ∷ tests } }) rule read
      (record { tests = All-from_recursion (IsTest version table) (test ∷ tests) are.all; some = omega arith; most = are.count }, said)

  rule_taken : (words : List Word) (rule : Rule) → rule_of version table words ≡ Some rule → IsRule version table rule × (rule_words table rule ≡ words)
  unfolding rule_of rule_words
  rule_taken words rule read =
      let key = bound _ _ _ read in
      let tests = bound _ _ _ key.then in
      let k = took (Exact-key_word (codes "rule")) words key.value key.first in
      let t = Exact-tests.takes key.value.1 tests.value tests.first in
      let r = of_tests key.value.1 tests.value rule t.0 t.1 tests.then in
      (r.0, ap (λ (ws : List Word). codes "rule" ∷ ws) r.1 ∙ sym k.front)

  tests_back : (tests : List Test) → 1 ≤ length tests → rule_from tests ≡ Some (record { tests = record { items = tests } })
  tests_back [] some = absurd (omega arith)
  tests_back (test ∷ tests) some = refl

  rule_again : (rule : Rule) → IsRule version table rule → rule_of version table (rule_words table rule) ≡ Some rule
  unfolding rule_of rule_words
  rule_again rule is =
      let tests = Exact-tests.again rule.tests.items (record { count = is.most; all = of_all (IsTest version table) rule.tests.items is.tests }) in
      rw tests (tests_back rule.tests.items is.some)

  pub Exact-rule : ExactText (rule_words table) (IsRule version table) (rule_of version table)
  Exact-rule = record { takes = λ words rule read. rule_taken words rule read; again = λ rule is. rule_again rule is }

-- ---- exceptions

rising_deal : (n : ℕ) (cards : List ℕ) → length cards ≡ 5 → rises cards ≡ true → in_deck n cards ≡ true → IsDeal n cards
rising_deal n cards five rise below = record {
  five = five;
  set = record { rising = rises-increasing cards rise; below = All-from_recursion (λ card. card < n) cards (all_below n cards below) };
}

Exact-mask : ExactText decimal (λ mask. (0 ≤ mask) × (mask ≤ 31)) (digit 31)
Exact-mask = number_within_exact 0 31 (omega arith)

pub Exact-exception : (n : ℕ) → IsDeck n → ExactText except_words (IsException n) (exception_of n)
unfolding exception_of except_words
Exact-exception n deck =
    let parts = Exact-after (codes "except") (Exact-then (Exact-so_many Exact-card 5) (Exact-one_word Exact-mask)) in
    Exact-also (Exact-passing (Exact-all_of parts refl) (stands n))
    except_words (λ e. refl)
    (λ e is.
    let both = both_true (rises e.0 && in_deck n e.0) (is_representative e.0) is.1 in
    let parts = both_true (rises e.0) (in_deck n e.0) both.0 in
    record { deal = rising_deal n e.0 is.0.0.count parts.0 parts.1; representative = both.1; mask = omega (arith, is.0.1.1) })
    (λ e is.
    let below = of_all (λ card. card < n) e.0 is.deal.set.below in (
      (record { count = is.deal.five; all = below_more n 54 e.0 deck.1 below }, (omega arith, omega (arith, is.mask))),
      rw (increasing-rises e.0 is.deal.set.rising, below_all n e.0 below, is.representative) refl,
    ))
