-- Words that are put into a line one by one, and lines that are put one by one.
use Rattle.std.proofs.Common.{◌≡◌, ℕ, false, ◌+◌, ◌<◌, List, [], ◌∷◌, ◌++◌, map, length, take, drop, get_or, refl, ap, sym, ◌∙◌, arith, add-one, append_assoc, length-append}
use Rattle.std.proofs.lemmas.List.{drop_more, map-append, append-nil}
use Rattle.std.proofs.lemmas.Grind.{flat_map-append}
use Rattle.std.proofs.lemmas.Bool.Decides.{nat_tests}
use Rattle.std.proofs.Math.Seq.{take-suc}
use Rattle.vp_text.specs.Lines.{Word, is_empty}
use Rattle.vp_text.specs.Written.{with_word, with_words, spaced, line_of, written}

-- ---- the words of a line

-- some words, and then some more
pub with_words_append : (line : List ℕ) (front back : List Word) → with_words line (front ++ back) ≡ with_words (with_words line front) back
with_words_append line [] back = refl
with_words_append line (word ∷ front) back = with_words_append (with_word line word) front back

-- the words of the items so far, and the word of one more
pub words_next : {A : Type 0} (word : A → Word) (line : List ℕ) (items : List A) (i : ℕ) (item : A) → i < length items → item ≡ get_or items i item
    → with_word (with_words line (map word (take i items))) (word item) ≡ with_words line (map word (take (i + 1) items))
words_next word line items i item inside is =
    let taken : take (i + 1) items ≡ take i items ++ item ∷ [] = rw add-one (take-suc items i item inside ∙ ap (λ x. take i items ++ x ∷ []) (sym is))
    in let words : map word (take (i + 1) items) ≡ map word (take i items) ++ word item ∷ [] = ap (map word) taken ∙ map-append word (take i items) (item ∷ [])
    in rw words (sym (with_words_append line (map word (take i items)) (word item ∷ [])))

joined_words : (line word : List ℕ) (more : List Word) → spaced ((line ++ 32 ∷ word) ∷ more) ≡ line ++ 32 ∷ spaced (word ∷ more)
joined_words line word [] = refl
joined_words line word (next ∷ more) = append_assoc line (32 ∷ word) (32 ∷ spaced (next ∷ more))

is_some : (line : List ℕ) → 0 < length line → is_empty line ≡ false
is_some line some = grind (arith, nat_tests)

with_words_spaced : (line : List ℕ) (more : List Word) → 0 < length line → with_words line more ≡ spaced (line ∷ more)
with_words_spaced line [] some = refl
with_words_spaced line (word ∷ more) some =
    let here : with_word line word ≡ line ++ 32 ∷ word = rw (is_some line some)
    in ap (λ l. with_words l more) here ∙ (with_words_spaced (line ++ 32 ∷ word) more (omega (arith, length-append line (32 ∷ word))) ∙ joined_words line word more)

-- the bytes of a line whose first word is not empty
pub line_bytes : (first : Word) (more : List Word) → 0 < length first → with_words [] (first ∷ more) ++ 10 ∷ [] ≡ line_of (first ∷ more)
line_bytes first more some = ap (λ (line : List ℕ). line ++ 10 ∷ []) (with_words_spaced first more some)

-- ---- the lines of a text

-- the lines of the items so far, and the line of one more
pub lines_next : {A : Type 0} (words : A → List Word) (items : List A) (i : ℕ) (item : A) → i < length items → item ≡ get_or items i item
    → written (map words (take (i + 1) items)) ≡ written (map words (take i items)) ++ line_of (words item)
lines_next words items i item inside is =
    let taken : take (i + 1) items ≡ take i items ++ item ∷ [] = rw add-one (take-suc items i item inside ∙ ap (λ x. take i items ++ x ∷ []) (sym is))
    in let all : map words (take (i + 1) items) ≡ map words (take i items) ++ words item ∷ [] = ap (map words) taken ∙ map-append words (take i items) (item ∷ [])
    in rw all (flat_map-append line_of (map words (take i items)) (words item ∷ []) ∙ ap (λ (l : List ℕ). written (map words (take i items)) ++ l) (append-nil (line_of (words item))))

-- the lines of the items from one on are its line, and the lines of the rest
pub lines_left : {A : Type 0} (words : A → List Word) (items : List A) (i : ℕ) (item : A) → i < length items → item ≡ get_or items i item
    → written (map words (drop i items)) ≡ line_of (words item) ++ written (map words (drop (i + 1) items))
lines_left words items i item inside is =
    ap (λ ls. written (map words ls)) (drop_more items i item inside)
    ∙ ap (λ x. line_of (words x) ++ written (map words (drop (i + 1) items))) (sym is)
