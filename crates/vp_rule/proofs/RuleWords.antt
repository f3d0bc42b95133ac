-- The words of a rule, put together from those of its tests.
use Rattle.std.proofs.Common.{◌≡◌, ℕ, ◌+◌, ◌<◌, List, [], ◌∷◌, ◌++◌, length, take, get_or, refl, ap, sym, ◌∙◌, add-one, append_assoc}
use Rattle.std.specs.Prelude.{flat_map, codes}
use Rattle.std.specs.Fmt.{decimal, digits}
use Rattle.std.proofs.lemmas.Fmt.{decimal_digit}
use Rattle.std.proofs.lemmas.Grind.{flat_map-append}
use Rattle.std.proofs.lemmas.List.{append-nil}
use Rattle.std.proofs.lemmas.List.Sums.{sum_by-append}
use Rattle.std.proofs.Math.Seq.{take-suc}
use Rattle.vp_lines.specs.Words.{HasStart, line_words, room_of, word_room, words_of}
use Rattle.vp_lines.specs.declared.words.Word.{Word}
use Rattle.vp_lines.specs.declared.words.Word.TheVariants.{Nothing, Text, Number, Numbers, Fraction, Ranks, Cards, Hand}
use Rattle.vp_pay.specs.declared.table.PayTable.{PayTable}
use Rattle.vp_rule.specs.Spelling.{test_words}
use Rattle.vp_rule.specs.declared.rule.Test.{Test}

pub one_digit : (n : ℕ) → n < 10 → decimal n ≡ (48 + n) ∷ []
one_digit n small = decimal_digit n small

pub ten : decimal 10 ≡ 49 ∷ 48 ∷ []
unfolding digits
ten = refl

-- ---- words one behind the other

line_append : (front back : List Word) → line_words (front ++ back) ≡ line_words front ++ line_words back
line_append [] back = refl
line_append (word ∷ []) [] = sym (append-nil (words_of word))
line_append (word ∷ []) (next ∷ more) = refl
line_append (word ∷ next ∷ more) back = ap (λ ws. words_of word ++ ws) (line_append (next ∷ more) back) ∙ sym (append_assoc (words_of word) (line_words (next ∷ more)) (line_words back))

pub room_append : (front back : List Word) → room_of (front ++ back) ≡ room_of front + room_of back
room_append front back = sum_by-append word_room front back

pub start_append : (front back : List Word) → HasStart front → HasStart (front ++ back)
start_append [] back some = absurd some
start_append (Text text ∷ more) back some = some
start_append (Nothing ∷ more) back some = absurd some
start_append (Number n ∷ more) back some = absurd some
start_append (Numbers ns ∷ more) back some = absurd some
start_append (Fraction over under ∷ more) back some = absurd some
start_append (Ranks set ∷ more) back some = absurd some
start_append (Cards cards ∷ more) back some = absurd some
start_append (Hand hand ∷ more) back some = absurd some

-- the words of the tests so far, and those of one more
pub tests_next : (table : PayTable) (front four : List Word) (tests : List Test) (i : ℕ) (test : Test) → i < length tests → test ≡ get_or tests i test
    → line_words front ≡ codes "rule" ∷ flat_map (test_words table) (take i tests) → line_words four ≡ test_words table test
    → line_words (front ++ four) ≡ codes "rule" ∷ flat_map (test_words table) (take (i + 1) tests)
tests_next table front four tests i test inside is so_far words =
    let taken : take (i + 1) tests ≡ take i tests ++ test ∷ [] = rw add-one (take-suc tests i test inside ∙ ap (λ x. take i tests ++ x ∷ []) (sym is)) in
    let all : flat_map (test_words table) (take (i + 1) tests) ≡ flat_map (test_words table) (take i tests) ++ test_words table test =
    ap (flat_map (test_words table)) taken ∙ flat_map-append (test_words table) (take i tests) (test ∷ []) ∙ ap (λ ws. flat_map (test_words table) (take i tests) ++ ws) (append-nil (test_words table test)) in
    line_append front four ∙ ap (λ ws. ws ++ line_words four) so_far ∙ ap (λ ws. codes "rule" ∷ (flat_map (test_words table) (take i tests) ++ ws)) words ∙ ap (λ ws. codes "rule" ∷ ws) (sym all)
