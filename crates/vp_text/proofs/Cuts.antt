-- Where a list is cut: lines at line feeds, words at blanks.
use Rattle.std.proofs.Common.{◌≡◌, ℕ, zero, suc, ◌+◌, ◌<◌, ◌≤◌, Bool, true, false, not, cond, ltb, nat_lt, eqb, List, [], ◌∷◌, ◌++◌, length, get_or, take, drop, Some, None, refl, sym, ap, subst, ◌∙◌, arith, position, length-take}
use Rattle.std.specs.List.{AllByRecursion, slice_split, onto_first, position_or_len, filter}
use Rattle.std.proofs.lemmas.Bool.{lt-ltb, ltb-false, ne_eqb}
use Rattle.std.proofs.lemmas.List.{append-nil, drop_more, get_or-drop}
use Rattle.std.proofs.lemmas.List.Quantifiers.{position-Some}
use Rattle.std.proofs.lemmas.List.Sums.{position_or_len_is, fails_before_first}
use Rattle.std.proofs.lemmas.List.Elements.{All-from_get_or, All-from_recursion}
use Rattle.std.proofs.lemmas.List.Splits.{slice_split_at, slice_split_first, slice_split_none, slice_split-cons_yes}
use Rattle.vp_text.specs.Lines.{is_blank, is_empty, words_in, lines_in, lines_between}

pub position_found : (p : ℕ → Bool) (xs : List ℕ) (i : ℕ) → position p xs ≡ Some i → position_or_len p xs ≡ i
position_found p xs i e =
    let s = position-Some p xs i 0 e in
    position_or_len_is p xs i 0 (omega (arith, s.0)) s.2 (λ _. s.1)

cond_none : (b : Bool) (i : ℕ) → cond b (Some i) None ≡ None → b ≡ false
cond_none true i e = absurd cc
cond_none false i e = refl

pub position_missing : (p : ℕ → Bool) (xs : List ℕ) → position p xs ≡ None → length xs ≤ position_or_len p xs
position_missing p xs e = ltb-false _ _ (cond_none (ltb (position_or_len p xs) (length xs)) (position_or_len p xs) e)

pub split_found : (p : ℕ → Bool) (xs : List ℕ) (i : ℕ) → position p xs ≡ Some i → slice_split p xs ≡ take i xs ∷ slice_split p (drop (i + 1) xs)
split_found p xs i e =
    let at : position_or_len p xs ≡ i = position_found p xs i e in
    let lt : position_or_len p xs < length xs = rw at (position-Some p xs i 0 e).0 in
    let whole = slice_split_first p xs 0 lt in
    subst (λ (k : ℕ). slice_split p xs ≡ take k xs ∷ slice_split p (drop (k + 1) xs)) at whole

pub split_missing : (p : ℕ → Bool) (xs : List ℕ) → position p xs ≡ None → slice_split p xs ≡ xs ∷ []
split_missing p xs e =
    let le = position_missing p xs e in
    slice_split_none p xs (All-from_get_or (λ x. p x ≡ false) xs 0 (λ i lt. fails_before_first p xs i 0 (omega arith)))

-- ---- lines

onto_first_some : (x : ℕ) (parts : List (List ℕ)) → (part : List ℕ) × (more : List (List ℕ)) × (onto_first x parts ≡ part ∷ more)
onto_first_some x [] = (x ∷ [], [], refl)
onto_first_some x (part ∷ parts) = (x ∷ part, parts, refl)

cond_some : (b : Bool) (xs ys : List (List ℕ)) (part : List ℕ) → ((head : List ℕ) × (more : List (List ℕ)) × (ys ≡ head ∷ more)) → (head : List ℕ) × (more : List (List ℕ)) × (cond b (part ∷ xs) ys ≡ head ∷ more)
cond_some true xs ys part h = (part, xs, refl)
cond_some false xs ys part h = h

pub split_some : (p : ℕ → Bool) (xs : List ℕ) → (part : List ℕ) × (more : List (List ℕ)) × (slice_split p xs ≡ part ∷ more)
split_some p [] = ([], [], refl)
split_some p (x ∷ xs) = cond_some (p x) (slice_split p xs) (onto_first x (slice_split p xs)) [] (onto_first_some x (slice_split p xs))

pub line_found : (bytes : List ℕ) (i : ℕ) → position (λ byte. eqb byte 10) bytes ≡ Some i → lines_in bytes ≡ take i bytes ∷ lines_in (drop 1 (drop i bytes))
line_found bytes i e =
    let p : ℕ → Bool = λ byte. eqb byte 10 in
    let lt = (position-Some p bytes i 0 e).0 in
    let tail : drop 1 (drop i bytes) ≡ drop (i + 1) bytes = rw (drop_more bytes i 0 lt) refl in
    let s = split_some p (drop (i + 1) bytes) in
    let parts : slice_split p bytes ≡ take i bytes ∷ (s.0 ∷ s.1) = split_found p bytes i e ∙ ap (λ (ps : List (List ℕ)). take i bytes ∷ ps) s.2 in
    ap lines_between parts ∙ ap (λ (ps : List (List ℕ)). take i bytes ∷ lines_between ps) (sym s.2) ∙ ap (λ (rest : List ℕ). take i bytes ∷ lines_in rest) (sym tail)

pub take_whole : (xs : List ℕ) → take (length xs) xs ≡ xs
take_whole [] = refl
take_whole (x ∷ xs) = ap (λ (ys : List ℕ). x ∷ ys) (take_whole xs)

drop_whole : (xs : List ℕ) → drop (length xs) xs ≡ []
drop_whole [] = refl
drop_whole (x ∷ xs) = drop_whole xs

pub line_missing : (bytes : List ℕ) → 0 < length bytes → position (λ byte. eqb byte 10) bytes ≡ None → lines_in bytes ≡ take (length bytes) bytes ∷ lines_in (drop (length bytes) bytes)
line_missing bytes some e =
    let p : ℕ → Bool = λ byte. eqb byte 10 in
    let full : is_empty bytes ≡ false = ne_eqb _ _ (omega arith) in
    let one : lines_in bytes ≡ bytes ∷ [] = ap lines_between (split_missing p bytes e) ∙ rw full refl in
    rw (take_whole bytes, drop_whole bytes) one

-- ---- words

full_word : (word : List ℕ) → 0 < length word → not (is_empty word) ≡ true
full_word word some = ap not (ne_eqb (length word) 0 (omega arith))

blank_dropped : (x : ℕ) (xs : List ℕ) → is_blank x ≡ true → words_in (x ∷ xs) ≡ words_in xs
blank_dropped x xs e = ap (filter (λ word. not (is_empty word))) (slice_split-cons_yes is_blank x xs e)

pub blanks_dropped : (i : ℕ) (xs : List ℕ) → ((k : ℕ) → k < i → is_blank (get_or xs k 0) ≡ true) → i ≤ length xs → words_in (drop i xs) ≡ words_in xs
blanks_dropped zero xs blank le = refl
blanks_dropped (suc i) [] blank le = absurd (omega arith)
blanks_dropped (suc i) (x ∷ xs) blank le = blanks_dropped i xs (λ k lt. blank (suc k) (omega arith)) (omega arith) ∙ sym (blank_dropped x xs (blank 0 (omega arith)))

pub word_first : (word : List ℕ) (parts : List (List ℕ)) → 0 < length word → filter (λ w. not (is_empty w)) (word ∷ parts) ≡ word ∷ filter (λ w. not (is_empty w)) parts
word_first word parts some = rw (full_word word some) refl

positive : (p : ℕ → Bool) (text : List ℕ) (i : ℕ) → p (get_or text 0 0) ≡ false → p (get_or text i 0) ≡ true → 0 < i
positive p text zero first here = absurd cc
positive p text (suc i) first here = omega arith

pub word_found : (text : List ℕ) (i : ℕ) → is_blank (get_or text 0 0) ≡ false → position is_blank text ≡ Some i → words_in text ≡ take i text ∷ words_in (drop i text)
word_found text i starts e =
    let s = position-Some is_blank text i 0 e in
    let lt = s.0 in
    let pos : 0 < i = positive is_blank text i starts s.1 in
    let tail : words_in (drop i text) ≡ words_in (drop (i + 1) text) = ap words_in (drop_more text i 0 lt) ∙ blank_dropped (get_or text i 0) (drop (i + 1) text) s.1 in
    ap (filter (λ word. not (is_empty word))) (split_found is_blank text i e) ∙ word_first (take i text) (slice_split is_blank (drop (i + 1) text)) (omega (arith, length-take i text)) ∙ ap (λ (ws : List (List ℕ)). take i text ∷ ws) (sym tail)

-- a space at the front is in no word
pub space_dropped : (text : List ℕ) → 0 < length text → get_or text 0 0 ≡ 32 → words_in (drop 1 text) ≡ words_in text
space_dropped [] some front = absurd (omega arith)
space_dropped (x ∷ xs) some front = sym (blank_dropped x xs (rw front refl))

-- a word without blanks, and behind it the end or a blank
pub key_found : (key rest : List ℕ) → 0 < length key → AllByRecursion (λ byte. is_blank byte ≡ false) key → (0 < length rest → is_blank (get_or rest 0 0) ≡ true) → words_in (key ++ rest) ≡ key ∷ words_in rest
key_found key [] some none ends =
    let all = All-from_recursion (λ byte. is_blank byte ≡ false) key none in
    ap words_in (append-nil key) ∙ ap (filter (λ word. not (is_empty word))) (slice_split_none is_blank key all) ∙ word_first key [] some
key_found key (blank ∷ rest) some none ends =
    let all = All-from_recursion (λ byte. is_blank byte ≡ false) key none in
    let behind = ends (omega arith) in
    ap (filter (λ word. not (is_empty word))) (slice_split_at is_blank key blank rest all behind) ∙ word_first key (slice_split is_blank rest) some ∙ ap (λ (ws : List (List ℕ)). key ∷ ws) (sym (blank_dropped blank rest behind))

-- a word of two bytes between blanks
pub two_found : (text : List ℕ) → 4 ≤ length text → is_blank (get_or text 0 0) ≡ true → is_blank (get_or text 1 0) ≡ false → is_blank (get_or text 2 0) ≡ false → is_blank (get_or text 3 0) ≡ true
    → words_in text ≡ take 2 (drop 1 text) ∷ words_in (drop 2 (drop 1 text))
two_found (s ∷ a ∷ b ∷ t ∷ rest) long front first second behind =
    let inside : nat_lt 2 (length (a ∷ b ∷ t ∷ rest)) ≡ true = lt-ltb 2 (length (a ∷ b ∷ t ∷ rest)) (omega arith) in
    let at : position is_blank (a ∷ b ∷ t ∷ rest) ≡ Some 2 = rw (first, second, behind, inside) refl in
    blank_dropped s (a ∷ b ∷ t ∷ rest) front ∙ word_found (a ∷ b ∷ t ∷ rest) 2 first at
two_found [] long front first second behind = absurd (omega arith)
two_found (s ∷ []) long front first second behind = absurd (omega arith)
two_found (s ∷ a ∷ []) long front first second behind = absurd (omega arith)
two_found (s ∷ a ∷ b ∷ []) long front first second behind = absurd (omega arith)

pub word_missing : (text : List ℕ) → 0 < length text → position is_blank text ≡ None → words_in text ≡ text ∷ []
word_missing text some e = ap (filter (λ word. not (is_empty word))) (split_missing is_blank text e) ∙ word_first text [] some

pub word_missing_all : (text : List ℕ) → 0 < length text → position is_blank text ≡ None → words_in text ≡ take (length text) text ∷ words_in (drop (length text) text)
word_missing_all text some e = rw (take_whole text, drop_whole text) (word_missing text some e)

pub first_dropped : (text : List ℕ) (i : ℕ) → is_blank (get_or text i 0) ≡ false → is_blank (get_or (drop i text) 0 0) ≡ false
first_dropped text i e =
    let at : get_or (drop i text) 0 0 ≡ get_or text i 0 = get_or-drop i text 0 0 ∙ ap (λ (k : ℕ). get_or text k 0) (omega arith) in
    ap is_blank at ∙ e

pub no_blank : (b : Bool) → not b ≡ false → b ≡ true
no_blank true e = refl
no_blank false e = absurd cc

pub blank_no : (b : Bool) → not b ≡ true → b ≡ false
blank_no true e = absurd cc
blank_no false e = refl

-- the text from its first word on has the same words
pub from_first : (text : List ℕ) (i : ℕ) → position (λ byte. not (is_blank byte)) text ≡ Some i → words_in (drop i text) ≡ words_in text
from_first text i e =
    let s = position-Some (λ byte. not (is_blank byte)) text i 0 e in
    blanks_dropped i text (λ k lt. no_blank _ (s.2 k lt)) (omega (arith, s.0))

pub from_none : (text : List ℕ) → position (λ byte. not (is_blank byte)) text ≡ None → words_in (drop (length text) text) ≡ words_in text
from_none text e =
    let p : ℕ → Bool = λ byte. not (is_blank byte) in
    let le = position_missing p text e in
    blanks_dropped (length text) text (λ k lt. no_blank _ (fails_before_first p text k 0 (omega arith))) (omega arith)
