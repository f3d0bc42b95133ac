-- Words that are put into a line one by one, and lines that are put one by one.
use Rattle.std.proofs.Common.{◌≡◌, ℕ, ◌+◌, ◌<◌, ◌≤◌, List, [], ◌∷◌, ◌++◌, map, length, take, get_or, ap, sym, ◌∙◌, add-one, subst, append_assoc, refl}
use Rattle.std.specs.Borrow.{Bor}
use Rattle.std.specs.Fmt.{decimal}
use Rattle.std.proofs.Math.Seq.{take-suc}
use Rattle.std.proofs.lemmas.List.Sums.{sum_by_more, sum_by_more_le}
use Rattle.vp_text.specs.Written.{with_word, with_words, line_of}
use Rattle.std.proofs.lemmas.List.{get_or_default}
use Rattle.vp_text.proofs.WithWords.{with_words_append, words_next, line_bytes}
use Rattle.vp_lines.specs.Words.{HasStart, line_words, room_of, word_room, words_of}
use Rattle.vp_lines.specs.declared.words.Word.{Word}
use Rattle.vp_lines.specs.declared.words.Word.TheVariants.{Text}

-- the numbers so far, and one more
pub numbers_next : (line numbers : List ℕ) (i : ℕ) → i < length numbers
    → with_word (with_words line (map decimal (take i numbers))) (decimal (get_or numbers i 0)) ≡ with_words line (map decimal (take (i + 1) numbers))
numbers_next line numbers i inside = words_next decimal line numbers i (get_or numbers i 0) inside (get_or_default numbers i 0 (get_or numbers i 0) inside)

-- the words, and those of the last
line_append : (front : List Word) (word : Word) → line_words (front ++ word ∷ []) ≡ line_words front ++ words_of word
line_append [] word = refl
line_append (first ∷ []) word = refl
line_append (first ∷ next ∷ more) word = ap (λ ws. words_of first ++ ws) (line_append (next ∷ more) word) ∙ sym (append_assoc (words_of first) (line_words (next ∷ more)) (words_of word))

first_words : (text : List ℕ) (more : List Word) (t : Bor (List ℕ)) → text ≡ t.now → line_words (Text t ∷ more) ≡ text ∷ line_words more
first_words text [] t is = rw is refl
first_words text (next ∷ more) t is = rw is refl

-- the words so far, and those of one more
pub words_more : (line : List ℕ) (words : List Word) (i : ℕ) (word : Word) → i < length words → word ≡ get_or words i word
    → with_words (with_words line (line_words (take i words))) (words_of word) ≡ with_words line (line_words (take (i + 1) words))
words_more line words i word inside is =
    let taken : take (i + 1) words ≡ take i words ++ word ∷ [] = rw add-one (take-suc words i word inside ∙ ap (λ x. take i words ++ x ∷ []) (sym is))
    in let all : line_words (take (i + 1) words) ≡ line_words (take i words) ++ words_of word =
    ap line_words taken ∙ line_append (take i words) word
    in rw all (sym (with_words_append line (line_words (take i words)) (words_of word)))

-- there is room for one more
pub room_more : (words : List Word) (i : ℕ) (word : Word) → i < length words → word ≡ get_or words i word → room_of (take i words) + word_room word ≤ room_of words
room_more words i word inside is = subst (λ w. room_of (take i words) + word_room w ≤ room_of words) (sym is) (sum_by_more_le word_room words i word inside)

-- the room so far, and that of one more
pub room_next : (words : List Word) (i : ℕ) (word : Word) → i < length words → word ≡ get_or words i word → room_of (take (i + 1) words) ≡ room_of (take i words) + word_room word
room_next words i word inside is = sum_by_more word_room words i word inside ∙ ap (λ w. room_of (take i words) + word_room w) (sym is)

-- a line that begins with a word that is not empty
start_words : (words : List Word) (P : List (List ℕ) → Type 0) → HasStart words → ((first : List ℕ) (more : List (List ℕ)) → 0 < length first → P (first ∷ more)) → P (line_words words)
start_words (Text text ∷ []) P some is = is text.now [] some
start_words (Text text ∷ next ∷ more) P some is = is text.now (line_words (next ∷ more)) some
start_words _ P some is = absurd some

-- the bytes of a line whose words were appended one by one
pub line_bytes_of : (words : List Word) → HasStart words → with_words [] (line_words words) ++ 10 ∷ [] ≡ line_of (line_words words)
line_bytes_of words some = start_words words (λ ws. with_words [] ws ++ 10 ∷ [] ≡ line_of ws) some line_bytes
