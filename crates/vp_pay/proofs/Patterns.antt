-- Patterns: each is read from its words, and from no others.
use Rattle.std.proofs.Common.{◌≡◌, ℕ, ◌≤◌, Bool, true, false, not, ◌==◌, List, [], ◌∷◌, ◌++◌, refl, ap, sym, ◌∙◌, arith, Some, None, eqb-true}
use Rattle.std.specs.Prelude.{Option, option_map, bytes_eq, codes}
use Rattle.std.specs.Fmt.{decimal}
use Rattle.std.proofs.lemmas.Bool.Decides.{nat_tests}
use Rattle.std.proofs.lemmas.Slice.Eq.{bytes_eq-Decides}
use Rattle.vp_card.specs.Cards.{is_rank_set}
use Rattle.vp_card.specs.Texts.{rank_set_text}
use Rattle.vp_text.specs.Lines.{Word}
use Rattle.vp_text.specs.Reading.{next_is}
use Rattle.vp_pay.specs.declared.pattern.Pattern.{Pattern}
use Rattle.vp_pay.specs.declared.pattern.Pattern.TheVariants.{Royal, StraightFlush, FiveKind, Wilds, Quads, FullHouse, Flush, Straight, Trips, TwoPair, Pair}
use Rattle.vp_text.specs.Pieces.{ExactPiece}
use Rattle.vp_pay.specs.Spelling.{kicker_words, pattern_words}
use Rattle.vp_pay.specs.Reading.{plain_of, kicker_piece, wilds_of, wilds_piece, quads_piece, set_piece, pattern_behind, pattern_piece}
use Rattle.vp_pay.specs.Table.{is_kicker, is_pattern}
use Rattle.vp_text.proofs.Pieces.{both_true, bound, chosen, no_value, so, took, Exact-one_word, Exact-key_word}
use Rattle.vp_pay.proofs.Values.{Exact-rank_set, Exact-one_to_five, plain_word}

-- the next word is not `kicker`
abbrev pub no_kicker : List Word → Bool
no_kicker rest = not (next_is (codes "kicker") rest)

not_true : (b : Bool) → not b ≡ true → b ≡ false
not_true true h = sym h
not_true false h = refl

-- ---- kickers

kicker_again : (rest : List Word) (kicker : Option ℕ) → is_kicker kicker ≡ true → no_kicker rest ≡ true → kicker_piece (kicker_words kicker ++ rest) ≡ Some (kicker, rest)
unfolding kicker_piece
kicker_again rest None is may = rw (not_true _ may)
kicker_again rest (Some set) is may = rw (Exact-rank_set.again set is)

-- what stands for words that were taken as a value, and what is left of them
abbrev As : {A : Type 0} → (A → List Word) → (A → Bool) → List Word → A × List Word → Type 0
As spell valid words taken = (valid taken.0 ≡ true) × (words ≡ spell taken.0 ++ taken.1)

kicker_taken : (words rest : List Word) (kicker : Option ℕ) → kicker_piece words ≡ Some (kicker, rest) → (is_kicker kicker ≡ true) × (words ≡ kicker_words kicker ++ rest)
unfolding kicker_piece
kicker_taken words rest kicker read =
    chosen (As kicker_words is_kicker words) (next_is (codes "kicker") words) _ (Some (None, words)) (kicker, rest) read
    (λ is e.
    let key = bound _ _ _ e
    in let set = bound _ _ _ key.then
    in let k = took (Exact-key_word (codes "kicker")) words key.value key.first
    in let s = took (Exact-one_word Exact-rank_set) key.value.1 set.value set.first
    in so (As kicker_words is_kicker words) (Some set.value.0, set.value.1) (kicker, rest) set.then (s.valid, k.front ∙ ap (λ (ws : List Word). codes "kicker" ∷ ws) s.front))
    (λ e. so (As kicker_words is_kicker words) (None, words) (kicker, rest) e (refl, refl))

pub Exact-kicker : ExactPiece kicker_words (λ kicker. is_kicker kicker ≡ true) no_kicker kicker_piece
Exact-kicker = record { takes = λ words rest kicker read. kicker_taken words rest kicker read; again = λ rest kicker is may. kicker_again rest kicker is may }

-- ---- each pattern behind its first word

-- the words behind the first word of a pattern, which are kept as a pattern's words with another first word
abbrev Behind : Word → List Word → Pattern × List Word → Type 0
Behind word words taken = (is_pattern taken.0 ≡ true) × (word ∷ words ≡ pattern_words taken.0 ++ taken.1)

four : (count set : ℕ) → is_rank_set set ≡ true → (count == 4) ≡ true → is_pattern (Wilds count (Some set)) ≡ true
four count set is e = rw e is

wilds_taken : (words rest : List Word) (count : ℕ) (kicker : Option ℕ) (pattern : Pattern) → 1 ≤ count → count ≤ 5 → is_kicker kicker ≡ true → wilds_of count kicker ≡ Some pattern
    → (is_pattern pattern ≡ true) × (pattern_words pattern ≡ codes "wilds" ∷ decimal count ∷ kicker_words kicker)
wilds_taken words rest count None pattern low high is read =
    so (λ p. (is_pattern p ≡ true) × (pattern_words p ≡ codes "wilds" ∷ decimal count ∷ [])) (Wilds count None) pattern read (grind (arith, nat_tests), refl)
wilds_taken words rest count (Some set) pattern low high is read =
    chosen (λ p. (is_pattern p ≡ true) × (pattern_words p ≡ codes "wilds" ∷ decimal count ∷ codes "kicker" ∷ rank_set_text set ∷ [])) (count == 4) (Some (Wilds count (Some set))) None pattern read
    (λ e made. so (λ p. (is_pattern p ≡ true) × (pattern_words p ≡ codes "wilds" ∷ decimal count ∷ codes "kicker" ∷ rank_set_text set ∷ [])) (Wilds count (Some set)) pattern made (four count set is e, refl))
    (λ none. absurd (no_value pattern none))

set_taken : (key : Word) (pattern : ℕ → Pattern) → ((set : ℕ) → is_rank_set set ≡ true → is_pattern (pattern set) ≡ true) → ((set : ℕ) → pattern_words (pattern set) ≡ key ∷ rank_set_text set ∷ [])
    → (words : List Word) (taken : Pattern × List Word) → set_piece pattern words ≡ Some taken → Behind key words taken
set_taken key pattern valid spelled words taken read =
    let set = bound _ _ _ read
    in let s = took (Exact-one_word Exact-rank_set) words set.value set.first
    in so (Behind key words) (pattern set.value.0, set.value.1) taken set.then (valid set.value.0 s.valid, ap (λ (ws : List Word). key ∷ ws) s.front ∙ ap (λ (ws : List Word). ws ++ set.value.1) (sym (spelled set.value.0)))

wilds_piece_taken : (words : List Word) (taken : Pattern × List Word) → wilds_piece words ≡ Some taken → Behind (codes "wilds") words taken
unfolding wilds_piece
wilds_piece_taken words taken read =
    let count = bound _ _ _ read
    in let kicker = bound _ _ _ count.then
    in let pattern = bound _ _ _ kicker.then
    in let n = took (Exact-one_word Exact-one_to_five) words count.value count.first
    in let k = took Exact-kicker count.value.1 kicker.value kicker.first
    in let p = wilds_taken words kicker.value.1 count.value.0 kicker.value.0 pattern.value n.valid.0 n.valid.1 k.valid pattern.first
    in so (Behind (codes "wilds") words) (pattern.value, kicker.value.1) taken pattern.then
    (p.0, ap (λ (ws : List Word). codes "wilds" ∷ ws) (n.front ∙ ap (λ (ws : List Word). decimal count.value.0 ∷ ws) k.front) ∙ ap (λ (ws : List Word). ws ++ kicker.value.1) (sym p.1))

quads_piece_taken : (words : List Word) (taken : Pattern × List Word) → quads_piece words ≡ Some taken → Behind (codes "quads") words taken
unfolding quads_piece
quads_piece_taken words taken read =
    let set = bound _ _ _ read
    in let kicker = bound _ _ _ set.then
    in let s = took (Exact-one_word Exact-rank_set) words set.value set.first
    in let k = took Exact-kicker set.value.1 kicker.value kicker.first
    in let valid : is_pattern (Quads set.value.0 kicker.value.0) ≡ true = rw (s.valid) k.valid
    in so (Behind (codes "quads") words) (Quads set.value.0 kicker.value.0, kicker.value.1) taken kicker.then
    (valid, ap (λ (ws : List Word). codes "quads" ∷ ws) (s.front ∙ ap (λ (ws : List Word). rank_set_text set.value.0 ∷ ws) k.front))

plain_taken : (word : Word) (words : List Word) (taken : Pattern × List Word) (o : Option Pattern) → plain_of word ≡ o
    → option_map {U = Pattern × List Word} (λ p. (p, words)) o ≡ Some taken → Behind word words taken
plain_taken word words taken None is e = absurd cc
plain_taken word words taken (Some p) is e =
    let w = plain_word word p is
    in so (Behind word words) (p, words) taken e (w.0, ap (λ (ws : List Word). ws ++ words) (sym w.1))

keyed_by : (word key : Word) (words : List Word) (taken : Pattern × List Word) → bytes_eq word key ≡ true → Behind key words taken → Behind word words taken
keyed_by word key words taken is behind = (behind.0, ap (λ (w : Word). w ∷ words) ((bytes_eq-Decides word key).0 is) ∙ behind.1)

behind_taken : (word : Word) (words : List Word) (taken : Pattern × List Word) → pattern_behind word words ≡ Some taken → Behind word words taken
unfolding pattern_behind
behind_taken word words taken read =
    let P : Pattern × List Word → Type 0 = Behind word words in
    chosen P (bytes_eq word (codes "five-kind")) _ _ taken read (λ is e. keyed_by word _ words taken is (set_taken (codes "five-kind") FiveKind (λ set valid. valid) (λ set. refl) words taken e)) (λ m1.
    chosen P (bytes_eq word (codes "wilds")) _ _ taken m1 (λ is e. keyed_by word _ words taken is (wilds_piece_taken words taken e)) (λ m2.
    chosen P (bytes_eq word (codes "quads")) _ _ taken m2 (λ is e. keyed_by word _ words taken is (quads_piece_taken words taken e)) (λ m3.
    chosen P (bytes_eq word (codes "pair")) _ _ taken m3 (λ is e. keyed_by word _ words taken is (set_taken (codes "pair") Pair (λ set valid. valid) (λ set. refl) words taken e)) (λ m4.
    plain_taken word words taken (plain_of word) refl m4))))

pattern_taken : (words rest : List Word) (pattern : Pattern) → pattern_piece words ≡ Some (pattern, rest) → (is_pattern pattern ≡ true) × (words ≡ pattern_words pattern ++ rest)
unfolding pattern_piece
pattern_taken [] rest pattern read = absurd cc
pattern_taken (word ∷ words) rest pattern read = behind_taken word words (pattern, rest) read

wilds_again : (rest : List Word) (count : ℕ) (kicker : Option ℕ) → is_pattern (Wilds count kicker) ≡ true → no_kicker rest ≡ true
    → wilds_piece (decimal count ∷ kicker_words kicker ++ rest) ≡ Some (Wilds count kicker, rest)
unfolding wilds_piece
wilds_again rest count None is may =
    let low : 1 ≤ count = grind (arith, nat_tests)
    in let high : count ≤ 5 = grind (arith, nat_tests)
    in rw (Exact-one_to_five.again count (low, high), kicker_again rest None refl may)
wilds_again rest count (Some set) is may =
    let parts = both_true (count == 4) (is_rank_set set) is
    in let four : count ≡ 4 = eqb-true count 4 parts.0
    in rw (Exact-one_to_five.again count (omega arith, omega arith), kicker_again rest (Some set) parts.1 may, parts.0)

pattern_again : (rest : List Word) (pattern : Pattern) → is_pattern pattern ≡ true → no_kicker rest ≡ true → pattern_piece (pattern_words pattern ++ rest) ≡ Some (pattern, rest)
unfolding pattern_piece pattern_behind wilds_piece quads_piece plain_of
pattern_again rest Royal is may = refl
pattern_again rest StraightFlush is may = refl
pattern_again rest (FiveKind set) is may = rw (Exact-rank_set.again set is)
pattern_again rest (Wilds count kicker) is may = wilds_again rest count kicker is may
pattern_again rest (Quads set kicker) is may =
    let parts = both_true (is_rank_set set) (is_kicker kicker) is
    in rw (Exact-rank_set.again set parts.0, kicker_again rest kicker parts.1 may)
pattern_again rest FullHouse is may = refl
pattern_again rest Flush is may = refl
pattern_again rest Straight is may = refl
pattern_again rest Trips is may = refl
pattern_again rest TwoPair is may = refl
pattern_again rest (Pair set) is may = rw (Exact-rank_set.again set is)

pub Exact-pattern : ExactPiece pattern_words (λ pattern. is_pattern pattern ≡ true) no_kicker pattern_piece
Exact-pattern = record { takes = λ words rest pattern read. pattern_taken words rest pattern read; again = λ rest pattern is may. pattern_again rest pattern is may }
