-- What is written is read again, whatever follows.
use Rattle.std.proofs.Common.{◌≡◌, ℕ, ◌+◌, ◌-◌, ◌<◌, Bool, true, false, not, ◌||◌, cond, eqb, IsTrue, List, [], ◌∷◌, ◌++◌, length, get_or, Ok, take, refl, sym, ap, ◌∙◌, arith, append_assoc, length-append}
use Rattle.std.specs.List.{AllByRecursion, slice_split, position_or_len, before_first, filter}
use Rattle.std.specs.Str.Lines.{strip_carriage_return}
use Rattle.std.proofs.lemmas.Bool.{ne_eqb}
use Rattle.std.proofs.lemmas.List.Elements.{All-from_recursion, All-get_or}
use Rattle.std.proofs.lemmas.List.Sums.{position_or_len_is}
use Rattle.std.proofs.lemmas.List.Concat.{flat_map-cons}
use Rattle.std.proofs.lemmas.List.Splits.{slice_split_at, slice_split_none}
use Rattle.vp_text.specs.Lines.{Word, WordLine, Feed, is_blank, is_empty, words_in, said, lines_in, lines_between, numbered, feed_of}
use Rattle.vp_text.specs.Sections.{Text, text_of, last_of, Starts}
use Rattle.vp_text.specs.ExactReaders.{Reader, Exact}
use Rattle.vp_text.specs.Written.{with_word, spaced, line_of, written, is_plain, IsPlainWord, IsPlainText}
use Rattle.vp_text.proofs.Spelled.{parts}
use Rattle.vp_text.proofs.Cuts.{split_some, take_whole, word_first}

-- ---- bytes

pub record Plain (byte : ℕ) : Type 0 where
  pub blank : is_blank byte ≡ false
  pub feed : eqb byte 10 ≡ false
  pub return : eqb byte 13 ≡ false
  pub comment : eqb byte 35 ≡ false

plain_parts : (a b c d : Bool) → not (a || b || c || d) ≡ true → (a ≡ false) × (b ≡ false) × (c ≡ false) × (d ≡ false)
plain_parts true b c d e = absurd cc
plain_parts false true c d e = absurd cc
plain_parts false false true d e = absurd cc
plain_parts false false false true e = absurd cc
plain_parts false false false false e = (refl, refl, refl, refl)

plain_is : (byte : ℕ) → IsTrue (is_plain byte) → Plain byte
plain_is byte h =
    let p = plain_parts (is_blank byte) (eqb byte 10) (eqb byte 13) (eqb byte 35) h in
    record { blank = p.0; feed = p.1; return = p.2; comment = p.3 }

-- what may stand in a line that is written
pub record Clean (byte : ℕ) : Type 0 where
  pub feed : eqb byte 10 ≡ false
  pub return : eqb byte 13 ≡ false
  pub comment : eqb byte 35 ≡ false

clean_space : Clean 32
clean_space = record { feed = refl; return = refl; comment = refl }

plain_clean : (word : List ℕ) → AllByRecursion (λ byte. IsTrue (is_plain byte)) word → AllByRecursion Clean word
plain_clean [] h = tt
plain_clean (b ∷ word) h = let p = plain_is b h.0 in (record { feed = p.feed; return = p.return; comment = p.comment }, plain_clean word h.1)

pub no_blanks : (word : List ℕ) → AllByRecursion (λ byte. IsTrue (is_plain byte)) word → AllByRecursion (λ byte. is_blank byte ≡ false) word
no_blanks [] h = tt
no_blanks (b ∷ word) h = ((plain_is b h.0).blank, no_blanks word h.1)

clean_append : (a b : List ℕ) → AllByRecursion Clean a → AllByRecursion Clean b → AllByRecursion Clean (a ++ b)
clean_append [] b h k = k
clean_append (x ∷ a) b h k = (h.0, clean_append a b h.1 k)

clean_spaced : (words : List Word) → AllByRecursion IsPlainWord words → AllByRecursion Clean (spaced words)
clean_spaced [] h = tt
clean_spaced (word ∷ []) h = plain_clean word h.0.1
clean_spaced (word ∷ next ∷ more) h = clean_append word (32 ∷ spaced (next ∷ more)) (plain_clean word h.0.1) (clean_space, clean_spaced (next ∷ more) h.1)

-- ---- a line says what is written

no_feeds : (xs : List ℕ) → AllByRecursion Clean xs → AllByRecursion (λ byte. eqb byte 10 ≡ false) xs
no_feeds [] h = tt
no_feeds (x ∷ xs) h = (h.0.feed, no_feeds xs h.1)

clean_at : (xs : List ℕ) → AllByRecursion Clean xs → (k : ℕ) → k < length xs → Clean (get_or xs k 0)
clean_at xs h k lt = All-get_or Clean xs k 0 lt (All-from_recursion Clean xs h)

no_return : (xs : List ℕ) → AllByRecursion Clean xs → strip_carriage_return xs ≡ xs
no_return [] h = refl
no_return (x ∷ xs) h =
    let at : Clean (get_or (x ∷ xs) (length (x ∷ xs) - 1) 0) = clean_at (x ∷ xs) h (length (x ∷ xs) - 1) (omega arith) in
    ap (λ (b : Bool). cond b (take (length (x ∷ xs) - 1) (x ∷ xs)) (x ∷ xs)) at.return

no_comment : (xs : List ℕ) → AllByRecursion Clean xs → before_first (λ byte. eqb byte 35) xs ≡ xs
no_comment xs h =
    let len : position_or_len (λ byte. eqb byte 35) xs ≡ length xs = position_or_len_is (λ byte. eqb byte 35) xs (length xs) 0 (omega arith) (λ k lt. (clean_at xs h k lt).comment) (λ lt. absurd (omega arith)) in
    ap (λ (n : ℕ). take n xs) len ∙ take_whole xs

said_clean : (xs : List ℕ) → AllByRecursion Clean xs → said xs ≡ xs
said_clean xs h = ap (before_first (λ byte. eqb byte 35)) (no_return xs h) ∙ no_comment xs h

words_in_spaced : (words : List Word) → AllByRecursion IsPlainWord words → words_in (spaced words) ≡ words
words_in_spaced [] h = refl
words_in_spaced (word ∷ []) h =
    let whole : slice_split is_blank word ≡ word ∷ [] = slice_split_none is_blank word (All-from_recursion (λ byte. is_blank byte ≡ false) word (no_blanks word h.0.1)) in
    ap (filter (λ w. not (is_empty w))) whole ∙ word_first word [] h.0.0
words_in_spaced (word ∷ next ∷ more) h =
    let rest = spaced (next ∷ more) in
    let cut : slice_split is_blank (word ++ 32 ∷ rest) ≡ word ∷ slice_split is_blank rest =
    slice_split_at is_blank word 32 rest (All-from_recursion (λ byte. is_blank byte ≡ false) word (no_blanks word h.0.1)) refl in
    ap (filter (λ w. not (is_empty w))) cut ∙ word_first word (slice_split is_blank rest) h.0.0 ∙ ap (λ (ws : List Word). word ∷ ws) (words_in_spaced (next ∷ more) h.1)

-- ---- lines

-- a line without a line feed, in front of more
pub line_cut : (line more : List ℕ) → AllByRecursion (λ byte. eqb byte 10 ≡ false) line → lines_in (line ++ 10 ∷ more) ≡ line ∷ lines_in more
line_cut line more h =
    let p : ℕ → Bool = λ byte. eqb byte 10 in
    let s = split_some p more in
    let cut : slice_split p (line ++ 10 ∷ more) ≡ line ∷ slice_split p more = slice_split_at p line 10 more (All-from_recursion (λ byte. eqb byte 10 ≡ false) line h) refl in
    ap lines_between (cut ∙ ap (λ (ps : List (List ℕ)). line ∷ ps) s.2) ∙ ap (λ (ps : List (List ℕ)). line ∷ lines_between ps) (sym s.2)

choose_alike : (b : Bool) (x y : List WordLine) (v w : WordLine) → v.words ≡ w.words → text_of x ≡ text_of y → text_of (cond b x (v ∷ x)) ≡ text_of (cond b y (w ∷ y))
choose_alike true x y v w words e = e
choose_alike false x y v w words e = ap (λ (t : Text). v.words ∷ t) e ∙ ap (λ (ws : List Word). ws ∷ text_of y) words

-- the words don't depend on the number of the first line
pub numbered_alike : (m n : ℕ) (lines : List (List ℕ)) → text_of (numbered m lines) ≡ text_of (numbered n lines)
numbered_alike m n [] = refl
numbered_alike m n (line ∷ lines) =
    choose_alike (eqb (length (words_in (said line))) 0) (numbered (m + 1) lines) (numbered (n + 1) lines)
    (record { line = m; words = words_in (said line) }) (record { line = n; words = words_in (said line) }) refl (numbered_alike (m + 1) (n + 1) lines)

numbered_line : (n : ℕ) (line : List ℕ) (lines : List (List ℕ)) (words : List Word) → words_in (said line) ≡ words → 0 < length words
    → text_of (numbered n (line ∷ lines)) ≡ words ∷ text_of (numbered n lines)
numbered_line n line lines words is some =
    let full : eqb (length words) 0 ≡ false = ne_eqb (length words) 0 (omega arith) in
    ap (λ (ws : List Word). text_of (cond (eqb (length ws) 0) (numbered (n + 1) lines) (record { line = n; words = ws } ∷ numbered (n + 1) lines))) is
    ∙ ap (λ (b : Bool). text_of (cond b (numbered (n + 1) lines) (record { line = n; words = words } ∷ numbered (n + 1) lines))) full
    ∙ ap (λ (t : Text). words ∷ t) (numbered_alike (n + 1) n lines)

pub written_read : (text : Text) (more : List ℕ) → IsPlainText text → text_of (feed_of (written text ++ more)).lines ≡ text ++ text_of (feed_of more).lines
written_read [] more h = refl
written_read (words ∷ text) more h =
    let rest = written text ++ more in
    let regroup : written (words ∷ text) ++ more ≡ spaced words ++ 10 ∷ rest =
    ap (λ (bs : List ℕ). bs ++ more) (flat_map-cons line_of words text) ∙ append_assoc (line_of words) (written text) more ∙ append_assoc (spaced words) (10 ∷ []) rest in
    let clean = clean_spaced words h.0.1 in
    let says : words_in (said (spaced words)) ≡ words = ap words_in (said_clean (spaced words) clean) ∙ words_in_spaced words h.0.1 in
    ap (λ (bs : List ℕ). text_of (numbered 1 (lines_in bs))) regroup
    ∙ ap (λ (ls : List (List ℕ)). text_of (numbered 1 ls)) (line_cut (spaced words) rest (no_feeds (spaced words) clean))
    ∙ numbered_line 1 (spaced words) (lines_in rest) words says h.0.0
    ∙ ap (λ (t : Text). words ∷ t) (written_read text more h.1)

-- ---- word by word

full_spaced : (word : Word) (more : List Word) → 0 < length word → is_empty (spaced (word ∷ more)) ≡ false
full_spaced word [] some = ne_eqb (length word) 0 (omega arith)
full_spaced word (next ∷ more) some = ne_eqb (length (word ++ 32 ∷ spaced (next ∷ more))) 0 (omega (arith, length-append word (32 ∷ spaced (next ∷ more))))

appended : (words : List Word) (word : Word) → 0 < length words → spaced words ++ 32 ∷ word ≡ spaced (words ++ word ∷ [])
appended [] word some = absurd (omega arith)
appended (first ∷ []) word some = refl
appended (first ∷ next ∷ more) word some =
    append_assoc first (32 ∷ spaced (next ∷ more)) (32 ∷ word) ∙ ap (λ (bs : List ℕ). first ++ 32 ∷ bs) (appended (next ∷ more) word (omega arith))

pub with_word_spaced : (words : List Word) (word : Word) → AllByRecursion (λ w. 0 < length w) words → with_word (spaced words) word ≡ spaced (words ++ word ∷ [])
with_word_spaced [] word h = refl
with_word_spaced (first ∷ more) word h =
    ap (λ (b : Bool). cond b word (spaced (first ∷ more) ++ 32 ∷ word)) (full_spaced first more h.0) ∙ appended (first ∷ more) word (omega arith)

-- ---- values

-- A value whose spelling is written in plain words stands at the front, and what follows is left.
pub written_stands : {A : Type 0} (spell : A → Text) (value : A) (more : List ℕ) → IsPlainText (spell value)
    → (left : Feed) × Starts spell (feed_of (written (spell value) ++ more)) value left × (text_of left.lines ≡ text_of (feed_of more).lines)
written_stands spell value more plain =
    let feed : Feed = feed_of (written (spell value) ++ more) in
    let p = parts feed.lines (spell value) (text_of (feed_of more).lines) (written_read (spell value) more plain) in
    let left : Feed = record { lines = p.back; past = feed.past; last = last_of p.front feed.last } in
    (left, record { front = p.front; lines = p.both; spelled = p.first; past = refl; last = refl }, p.second)

-- A valid value whose spelling is written in plain words is read again, and what follows is left.
pub written_again : {A : Type 0} (spell : A → Text) (Valid : A → Type 0) (read : Reader A) → Exact spell Valid read
    → (value : A) (more : List ℕ) → Valid value → IsPlainText (spell value)
    → (left : Feed) × (read (feed_of (written (spell value) ++ more)) ≡ Ok (value, left)) × (text_of left.lines ≡ text_of (feed_of more).lines)
written_again spell Valid read exact value more valid plain =
    let s = written_stands spell value more plain in
    (s.0, exact.again (feed_of (written (spell value) ++ more)) s.0 value valid s.1, s.2)
