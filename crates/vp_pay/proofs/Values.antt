-- Words that are one value each.
use Rattle.std.proofs.Common.{◌≡◌, ℕ, ◌<◌, ◌≤◌, Bool, true, false, ◌&&◌, nat_le, [], ◌∷◌, refl, ap, sym, arith, Some, None, IfSome, get_or, eqb}
use Rattle.std.specs.Prelude.{Option, option_map, bytes_eq, codes}
use Rattle.std.specs.Fmt.{decimal}
use Rattle.std.proofs.lemmas.Bool.Decides.{nat_tests}
use Rattle.vp_card.specs.Cards.{IsDeck, is_deck, is_rank_set}
use Rattle.vp_card.specs.Texts.{rank_set_text, rank_letters}
use Rattle.vp_card.specs.Reading.{rank_of, rank_set_of}
use Rattle.vp_card.proofs.RankSets.{rank_set_of-text, text-rank_set_of}
use Rattle.vp_card.proofs.Texts.{rank_of-letter, rank_of-again}
use Rattle.vp_text.specs.ExactReaders.{ExactText}
use Rattle.vp_text.specs.Lines.{Word}
use Rattle.vp_text.specs.Numbers.{number_of}
use Rattle.vp_pay.specs.declared.pattern.Pattern.{Pattern}
use Rattle.vp_pay.specs.declared.pattern.Pattern.TheVariants.{Royal, StraightFlush, FullHouse, Flush, Straight, Trips, TwoPair}
use Rattle.vp_pay.specs.declared.pattern.Qualifier.{Qualifier}
use Rattle.vp_pay.specs.declared.pattern.Qualifier.TheVariants.{Either, Natural, Wild}
use Rattle.vp_pay.specs.Names.{is_name}
use Rattle.vp_pay.specs.Spelling.{qualifier_word, wild_word, pattern_words}
use Rattle.vp_pay.specs.Reading.{name_of, a_deck, deck_of, one_to_five, payment_of, letter_of_rank, wild_of, qualifier_of, plain_of}
use Rattle.vp_pay.specs.Table.{is_pattern}
use Rattle.vp_text.proofs.Numbers.{number_exact, number_within_exact}
use Rattle.vp_text.proofs.Pieces.{both_true, bound, by_key, chosen, same_value, no_value, so}

pub Exact-rank_set : ExactText rank_set_text (λ set. is_rank_set set ≡ true) rank_set_of
Exact-rank_set = record { takes = λ text set read. text-rank_set_of text set read; again = λ set is_set. rank_set_of-text set is_set }

pub Exact-name : ExactText (λ (name : Word). name) (λ name. is_name name ≡ true) name_of
unfolding name_of
Exact-name = record {
  takes = λ text name read. chosen (λ n. (is_name n ≡ true) × (n ≡ text)) (is_name text) (Some text) None name read
      (λ is e. let same : text ≡ name = same_value text name e in rw (← same) (is, refl)) (λ e. absurd (no_value name e));
  again = λ name is. rw is;
}

deck_test : (n : ℕ) → IsDeck n → is_deck n ≡ true
deck_test n is = let low = is.0 in let high = is.1 in grind (arith, nat_tests)

test_deck : (n : ℕ) → is_deck n ≡ true → IsDeck n
test_deck n is = let parts = both_true (nat_le 52 n) (nat_le n 54) is in (grind (arith, nat_tests), grind (arith, nat_tests))

pub Exact-deck : ExactText decimal IsDeck deck_of
unfolding deck_of
Exact-deck = record {
  takes = λ text deck read.
      let number = bound (number_of text) a_deck deck read in
      let said = number_exact.takes text number.value number.first in
      chosen (λ d. IsDeck d × (decimal d ≡ text)) (is_deck number.value) (Some number.value) None deck number.then
      (λ is e. so (λ d. IsDeck d × (decimal d ≡ text)) number.value deck e (test_deck number.value is, said.1))
      (λ none. absurd (no_value deck none));
  again = λ deck is. rw (number_exact.again deck (omega (arith, is.1)), deck_test deck is);
}

-- ---- numbers

pub Exact-one_to_five : ExactText decimal (λ n. (1 ≤ n) × (n ≤ 5)) one_to_five
Exact-one_to_five = number_within_exact 1 5 (omega arith)

pub Exact-payment : ExactText decimal (λ pay. pay ≤ 500000) payment_of
Exact-payment =
    let exact = number_within_exact 0 500000 (omega arith)
    in record {
      takes = λ text pay read. let t = exact.takes text pay read in (t.0.1, t.1);
      again = λ pay is. exact.again pay (omega arith, is);
    }

-- ---- the wild rank

letter_read : (text : Word) (wild : Option ℕ) → letter_of_rank text ≡ Some wild → IfSome wild (λ rank. rank < 13) × (wild_word wild ≡ text)
letter_read [] wild read = absurd (no_value wild read)
letter_read (letter ∷ []) wild read = ranked (rank_of letter) refl read
  where
    ranked : (o : Option ℕ) → rank_of letter ≡ o → option_map Some o ≡ Some wild → IfSome wild (λ rank. rank < 13) × (wild_word wild ≡ letter ∷ [])
    ranked None is e = absurd (no_value wild e)
    ranked (Some rank) is e =
        let t = rank_of-letter letter rank is
        in let same : Some rank ≡ wild = same_value (Some rank) wild e
        in rw (← same) (t.0, ap (λ l. l ∷ []) t.1)
letter_read (letter ∷ other ∷ more) wild read = absurd (no_value wild read)

none_no_letter : (rank : ℕ) → bytes_eq (get_or rank_letters rank 0 ∷ []) (codes "none") ≡ false
none_no_letter rank = and_false (eqb (get_or rank_letters rank 0) 110)
  where
    and_false : (b : Bool) → (b && false) ≡ false
    and_false true = refl
    and_false false = refl

wild_again : (wild : Option ℕ) → IfSome wild (λ rank. rank < 13) → wild_of (wild_word wild) ≡ Some wild
unfolding wild_of
wild_again None is = refl
wild_again (Some rank) is = rw (none_no_letter rank, rank_of-again rank is)

pub Exact-wild : ExactText wild_word (λ wild. IfSome wild (λ rank. rank < 13)) wild_of
unfolding wild_of
Exact-wild = record {
  takes = λ text wild read.
      by_key (λ w. IfSome w (λ rank. rank < 13) × (wild_word w ≡ text)) text (codes "none") None _ wild read (λ is. (tt, sym is)) (λ letter. letter_read text wild letter);
  again = wild_again;
}

-- ---- qualifiers

qualifier_again : (q : Qualifier) → qualifier_of (qualifier_word q) ≡ Some q
unfolding qualifier_of
qualifier_again Either = refl
qualifier_again Natural = refl
qualifier_again Wild = refl

pub Exact-qualifier : ExactText qualifier_word (λ q. Unit {0}) qualifier_of
unfolding qualifier_of
Exact-qualifier = record {
  takes = λ text q read.
      let P : Qualifier → Type 0 = λ q. Unit {0} × (qualifier_word q ≡ text) in
      by_key P text (codes "either") Either _ q read (λ is. (tt, sym is)) (λ more.
      by_key P text (codes "natural") Natural _ q more (λ is. (tt, sym is)) (λ last.
      by_key P text (codes "wild") Wild _ q last (λ is. (tt, sym is)) (λ none. absurd (no_value q none))));
  again = λ q is. qualifier_again q;
}

-- a plain pattern has one word
pub plain_word : (text : Word) (pattern : Pattern) → plain_of text ≡ Some pattern → (is_pattern pattern ≡ true) × (pattern_words pattern ≡ text ∷ [])
unfolding plain_of
plain_word text pattern read =
    let P : Pattern → Type 0 = λ p. (is_pattern p ≡ true) × (pattern_words p ≡ text ∷ [])
    in let alone : (key : Word) → text ≡ key → key ∷ [] ≡ text ∷ [] = λ key is. ap (λ (w : Word). w ∷ []) (sym is) in
    by_key P text (codes "royal") Royal _ pattern read (λ is. (refl, alone _ is)) (λ m1.
    by_key P text (codes "straight-flush") StraightFlush _ pattern m1 (λ is. (refl, alone _ is)) (λ m2.
    by_key P text (codes "full-house") FullHouse _ pattern m2 (λ is. (refl, alone _ is)) (λ m3.
    by_key P text (codes "flush") Flush _ pattern m3 (λ is. (refl, alone _ is)) (λ m4.
    by_key P text (codes "straight") Straight _ pattern m4 (λ is. (refl, alone _ is)) (λ m5.
    by_key P text (codes "trips") Trips _ pattern m5 (λ is. (refl, alone _ is)) (λ m6.
    by_key P text (codes "two-pair") TwoPair _ pattern m6 (λ is. (refl, alone _ is)) (λ none. absurd (no_value pattern none))))))))
