-- Sequences of pieces: each is exact where its pieces are.
use Rattle.std.proofs.Common.{◌≡◌, Bool, true, List, [], ◌∷◌, ◌++◌, refl, ap, sym, ◌∙◌, Some, None, append_assoc, subst}
use Rattle.std.specs.Prelude.{Option, option_map}
use Rattle.std.proofs.lemmas.List.{append-nil}
use Rattle.vp_text.specs.Lines.{Word}
use Rattle.vp_text.specs.Pieces.{Piece, ExactPiece}
use Rattle.vp_text.specs.ExactReaders.{ExactText}
use Rattle.vp_text.specs.Streams.{passing}
use Rattle.vp_text.specs.Sequences.{◌>>◌, after, all_of, keyed}
use Rattle.vp_text.proofs.Pieces.{bound, at_end, chosen, no_value, so, took, same_bytes, Exact-key_word, Exact-one_word}

-- two pieces, of which the first may stand before the second
pub Exact-before : {A B : Type 0} {spell : A → List Word} {spell2 : B → List Word} {Valid : A → Type 0} {Valid2 : B → Type 0} {May May2 : List Word → Bool} {first : Piece A} {second : Piece B}
    → ExactPiece spell Valid May first → ExactPiece spell2 Valid2 May2 second
    → ((b : B) (rest : List Word) → Valid2 b → May2 rest ≡ true → May (spell2 b ++ rest) ≡ true)
    → ExactPiece (λ (v : A × B). spell v.0 ++ spell2 v.1) (λ (v : A × B). Valid v.0 × Valid2 v.1) May2 (first >> second)
Exact-before {A} {B} {spell} {spell2} {Valid} {Valid2} {May} {May2} {first} {second} exact exact2 before = record {
  takes = taken;
  again = λ rest value valid may.
      rw (
        append_assoc (spell value.0) (spell2 value.1) rest,
        exact.again (spell2 value.1 ++ rest) value.0 valid.0 (before value.1 rest valid.1 may),
        exact2.again rest value.1 valid.1 may,
      ) refl;
} where
  P : List Word → (A × B) × List Word → Type 0
  P words t = (Valid t.0.0 × Valid2 t.0.1) × (words ≡ (spell t.0.0 ++ spell2 t.0.1) ++ t.1)

  taken : (words rest : List Word) (value : A × B) → (first >> second) words ≡ Some (value, rest) → (Valid value.0 × Valid2 value.1) × (words ≡ (spell value.0 ++ spell2 value.1) ++ rest)
  taken words rest value e =
      let a = bound _ _ _ e in
      let b = bound _ _ _ a.then in
      let f = took exact words a.value a.first in
      let s = took exact2 a.value.1 b.value b.first in
      so (P words) ((a.value.0, b.value.0), b.value.1) (value, rest) b.then
      ((f.valid, s.valid), f.front ∙ ap (λ (ws : List Word). spell a.value.0 ++ ws) s.front ∙ sym (append_assoc (spell a.value.0) (spell2 b.value.0) b.value.1))

-- two pieces, of which the first may stand before all words
pub Exact-then : {A B : Type 0} {spell : A → List Word} {spell2 : B → List Word} {Valid : A → Type 0} {Valid2 : B → Type 0} {May2 : List Word → Bool} {first : Piece A} {second : Piece B}
    → ExactPiece spell Valid (λ rest. true) first → ExactPiece spell2 Valid2 May2 second
    → ExactPiece (λ (v : A × B). spell v.0 ++ spell2 v.1) (λ (v : A × B). Valid v.0 × Valid2 v.1) May2 (first >> second)
Exact-then exact exact2 = Exact-before exact exact2 (λ b rest valid may. refl)

-- this word, and then a piece
pub Exact-after : {A : Type 0} {spell : A → List Word} {Valid : A → Type 0} {May : List Word → Bool} {piece : Piece A} (key : Word)
    → ExactPiece spell Valid May piece → ExactPiece (λ a. key ∷ spell a) Valid May (after key piece)
Exact-after {A} {spell} {Valid} {May} {piece} key exact = record {
  takes = taken;
  again = λ rest value valid may. rw (same_bytes key, exact.again rest value valid may) refl;
} where
  taken : (words rest : List Word) (value : A) → after key piece words ≡ Some (value, rest) → Valid value × (words ≡ key ∷ spell value ++ rest)
  taken words rest value e =
      let word = bound _ _ _ e in
      let k = took (Exact-key_word key) words word.value word.first in
      let p = exact.takes word.value.1 rest value word.then in
      (p.0, k.front ∙ ap (λ (ws : List Word). key ∷ ws) p.1)

-- a piece alone on its line
pub Exact-all_of : {A : Type 0} {spell : A → List Word} {Valid : A → Type 0} {May : List Word → Bool} {piece : Piece A}
    → ExactPiece spell Valid May piece → May [] ≡ true → ExactText spell Valid (all_of piece)
Exact-all_of {A} {spell} {Valid} {May} {piece} exact may = record {
  takes = taken;
  again = λ value valid.
      let read : piece (spell value) ≡ Some (value, []) = ap piece (sym (append-nil (spell value))) ∙ exact.again [] value valid may in
      rw read refl;
} where
  P : List Word → A → Type 0
  P words value = Valid value × (spell value ≡ words)

  taken : (words : List Word) (value : A) → all_of piece words ≡ Some value → Valid value × (spell value ≡ words)
  taken words value e =
      let v = bound _ _ _ e in
      let end = at_end _ _ _ v.then in
      let t = took exact words v.value v.first in
      subst (P words) end.1 (t.valid, sym (t.front ∙ ap (λ (ws : List Word). spell v.value.0 ++ ws) end.0 ∙ append-nil (spell v.value.0)))

-- a line of two words
pub Exact-keyed : {A : Type 0} (key : Word) {word : A → Word} {Valid : A → Type 0} {read : Word → Option A} → ExactText word Valid read
    → ExactText (λ a. key ∷ word a ∷ []) Valid (keyed key read)
Exact-keyed key exact = Exact-all_of (Exact-after key (Exact-one_word exact)) refl

-- a value that is made of another one
pub Exact-made : {A B : Type 0} {say : A → List Word} {Valid : A → Type 0} {read : List Word → Option A}
    → ExactText say Valid read → (make : A → B) (parts : B → A) → ((a : A) → parts (make a) ≡ a) → ((b : B) → make (parts b) ≡ b)
    → ExactText (λ b. say (parts b)) (λ b. Valid (parts b)) (λ words. option_map make (read words))
Exact-made {A} {B} {say} {Valid} {read} exact make parts parts_of make_of = record {
  takes = λ words value e. by_read words value (read words) refl e;
  again = λ value is. rw (exact.again (parts value) is, make_of value) refl;
} where
  P : List Word → B → Type 0
  P words b = Valid (parts b) × (say (parts b) ≡ words)

  by_read : (words : List Word) (value : B) (o : Option A) → read words ≡ o → option_map make o ≡ Some value → Valid (parts value) × (say (parts value) ≡ words)
  by_read words value None is e = absurd (no_value value e)
  by_read words value (Some a) is e = so (P words) (make a) value e (rw (parts_of a) (exact.takes words a is))

-- a value that passes a test
pub Exact-passing : {A : Type 0} {say : A → List Word} {Valid : A → Type 0} {read : List Word → Option A}
    → ExactText say Valid read → (test : A → Bool) → ExactText say (λ a. Valid a × (test a ≡ true)) (λ words. passing test (read words))
Exact-passing {A} {say} {Valid} {read} exact test = record {
  takes = λ words value e. by_read words value (read words) refl e;
  again = λ value is. rw (exact.again value is.0, is.1) refl;
} where
  P : List Word → A → Type 0
  P words a = (Valid a × (test a ≡ true)) × (say a ≡ words)

  by_read : (words : List Word) (value : A) (o : Option A) → read words ≡ o → passing test o ≡ Some value → (Valid value × (test value ≡ true)) × (say value ≡ words)
  by_read words value None is e = absurd (no_value value e)
  by_read words value (Some a) is e =
      let t = exact.takes words a is in
      chosen (P words) (test a) (Some a) None value e
      (λ passes same. so (P words) a value same ((t.0, passes), t.1))
      (λ none. absurd (no_value value none))

-- the same values, said otherwise
pub Exact-also : {A : Type 0} {say : A → List Word} {Valid Valid2 : A → Type 0} {read : List Word → Option A}
    → ExactText say Valid read → (say2 : A → List Word) → ((a : A) → say2 a ≡ say a) → ((a : A) → Valid a → Valid2 a) → ((a : A) → Valid2 a → Valid a) → ExactText say2 Valid2 read
Exact-also {A} {read = read} exact say2 same to from = record {
  takes = λ words value e. let t = exact.takes words value e in (to value t.0, same value ∙ t.1);
  again = λ value is. ap read (same value) ∙ exact.again value (from value is);
}
