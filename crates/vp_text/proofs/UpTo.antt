-- At most so many values: up to a word, or up to the end of a line.
use Rattle.std.proofs.Common.{◌≡◌, ℕ, zero, suc, ◌+◌, ◌-◌, ◌<◌, ◌≤◌, true, false, nat_lt, List, [], ◌∷◌, ◌++◌, map, length, refl, sym, ap, ◌∙◌, arith, Some, None, inl, inr, length-append, append_assoc}
use Rattle.std.specs.Prelude.{Option, option_map, bytes_eq, flat_map}
use Rattle.std.specs.List.{AllByRecursion}
use Rattle.std.proofs.lemmas.Bool.{lt-ltb, ltb-true, cases_Bool}
use Rattle.std.proofs.lemmas.List.{append-nil}
use Rattle.std.proofs.lemmas.List.Concat.{flat_map-cons}
use Rattle.std.proofs.lemmas.Slice.Eq.{bytes_eq-Decides}
use Rattle.vp_text.specs.Lines.{Word}
use Rattle.vp_text.specs.ExactReaders.{ExactText}
use Rattle.vp_text.specs.Pieces.{Piece, ExactPiece, AreUpTo, up_to, by_first, up_to_end, ahead}
use Rattle.vp_text.proofs.Pieces.{bound, by_key, chosen, no_value, same_bytes, same_pair, so}

-- ---- up to a word

-- what was read behind some values
record Behind {A : Type 0} (word : A → Word) (Valid : A → Type 0) (most : ℕ) (key : Word) (front : List A) (words : List Word) (values : List A) (rest : List Word) : Type 0 where
  more : List A
  is : values ≡ front ++ more
  spelled : words ≡ map word more ++ key ∷ rest
  all : AllByRecursion Valid more
  count : length front + length more ≤ most

at_key : {A : Type 0} (word : A → Word) (Valid : A → Type 0) (most : ℕ) (key : Word) (front values : List A) (first : Word) (words rest : List Word)
    → length front ≤ most → first ≡ key → ◌≡◌ {A = Option (List A × List Word)} (Some (front, words)) (Some (values, rest)) → Behind word Valid most key front (first ∷ words) values rest
at_key word Valid most key front values first words rest room is same =
    let p = same_pair front words values rest same in
    record {
      more = [];
      is = sym p.0 ∙ sym (append-nil front);
      spelled = rw (is, p.1) refl;
      all = tt;
      count = omega arith;
    }

one_behind : {A : Type 0} (word : A → Word) (Valid : A → Type 0) (most : ℕ) (key : Word) (front values : List A) (value : A) (first : Word) (words rest : List Word)
    → word value ≡ first → Valid value → Behind word Valid most key (front ++ value ∷ []) words values rest → Behind word Valid most key front (first ∷ words) values rest
one_behind word Valid most key front values value first words rest is valid r = record {
  more = value ∷ r.more;
  is = r.is ∙ append_assoc front (value ∷ []) r.more;
  spelled = rw (is, ← r.spelled) refl;
  all = (valid, r.all);
  count = let c = r.count in omega (arith, length-append front (value ∷ []));
}

taken : {A : Type 0} (word : A → Word) (Valid : A → Type 0) (read : Word → Option A) → ExactText word Valid read → (most : ℕ) (key : Word) (front : List A) (words : List Word) (values : List A) (rest : List Word)
    → length front ≤ most → up_to read most key front words ≡ Some (values, rest) → Behind word Valid most key front words values rest
taken word Valid read exact most key front [] values rest room h = absurd (no_value _ h)
taken {A = A} word Valid read exact most key front (first ∷ words) values rest room h =
    let P : List A × List Word → Type 0 = λ p. Behind word Valid most key front (first ∷ words) p.0 p.1 in
    by_key P first key (front, words) _ (values, rest) h
    (λ same. at_key word Valid most key front front first words words room same refl)
    (λ e. chosen P (nat_lt (length front) most) _ None (values, rest) e
    (λ lt e2.
    let b = bound (read first) _ _ e2 in
    let ex = exact.takes first b.value b.first in
    let less = ltb-true (length front) most lt in
    let longer : length (front ++ b.value ∷ []) ≤ most = omega (arith, length-append front (b.value ∷ [])) in
    one_behind word Valid most key front values b.value first words rest ex.1 ex.0 (taken word Valid read exact most key (front ++ b.value ∷ []) words values rest longer b.then))
    (λ none. absurd (no_value _ none)))

no_key : (word key : Word) → (word ≡ key → ⊥) → bytes_eq word key ≡ false
no_key word key apart = elim (cases_Bool (bytes_eq word key)) [
  | inl same ↦ absurd (apart ((bytes_eq-Decides word key).0 same))
  | inr other ↦ other
]

again : {A : Type 0} (word : A → Word) (Valid : A → Type 0) (read : Word → Option A) → ExactText word Valid read → (most : ℕ) (key : Word) (front more : List A) (rest : List Word)
    → ((a : A) → Valid a → word a ≡ key → ⊥) → AllByRecursion Valid more → length front + length more ≤ most → up_to read most key front (map word more ++ key ∷ rest) ≡ Some (front ++ more, rest)
again word Valid read exact most key front [] rest apart all room = rw (same_bytes key, append-nil front) refl
again word Valid read exact most key front (value ∷ more) rest apart all room =
    let other = no_key (word value) key (apart value all.0) in
    let less = lt-ltb (length front) most (omega arith) in
    let is = exact.again value all.0 in
    let rec = again word Valid read exact most key (front ++ value ∷ []) more rest apart all.1 (omega (arith, length-append front (value ∷ []))) in
    rw (other, less, is, rec, append_assoc front (value ∷ []) more) refl

-- values up to a word that is no value's
pub Exact-up_to : {A : Type 0} (word : A → Word) (Valid : A → Type 0) (read : Word → Option A) → ExactText word Valid read → (most : ℕ) (key : Word) → ((a : A) → Valid a → word a ≡ key → ⊥)
    → ExactPiece (λ values. map word values ++ key ∷ []) (AreUpTo Valid most) (λ rest. true) (up_to read most key [])
Exact-up_to word Valid read exact most key apart = record {
  takes = λ words rest values e.
      let r = taken word Valid read exact most key [] words values rest (omega arith) e in
      let same : values ≡ r.more = r.is in
      (record { count = rw same (let c = r.count in omega arith); all = rw same r.all }, rw same (r.spelled ∙ sym (append_assoc (map word r.more) (key ∷ []) rest)));
  again = λ rest values valid may. rw (append_assoc (map word values) (key ∷ []) rest) (again word Valid read exact most key [] values rest apart valid.all (let c = valid.count in omega arith));
}

-- ---- up to the end of the line

-- valid values, at most so many, whose words these are
record AreSaid {A : Type 0} (say : A → List Word) (Valid : A → Type 0) (n : ℕ) (words : List Word) (values : List A) : Type 0 where
  all : AllByRecursion Valid values
  count : length values ≤ n
  said : flat_map say values ≡ words

ends_taken : {A : Type 0} (say : A → List Word) (Valid : A → Type 0) (behind : Word → Piece A) → ExactPiece say Valid (λ rest. true) (by_first behind)
    → (n : ℕ) (words : List Word) (values : List A) → up_to_end n behind words ≡ Some values → AreSaid say Valid n words values
ends_taken say Valid behind exact n [] values read = so (AreSaid say Valid n []) [] values read (record { all = tt; count = omega arith; said = refl })
ends_taken say Valid behind exact zero (word ∷ words) values read = absurd (no_value values read)
ends_taken say Valid behind exact (suc n) (word ∷ words) values read =
    let first = bound _ _ _ read in
    let more = bound _ _ _ first.then in
    let t = exact.takes (word ∷ words) first.value.1 first.value.0 first.first in
    let r = ends_taken say Valid behind exact n first.value.1 more.value more.first in
    so (AreSaid say Valid (suc n) (word ∷ words)) (first.value.0 ∷ more.value) values more.then (record {
      all = (t.0, r.all);
      count = omega (arith, r.count);
      said = flat_map-cons say first.value.0 more.value ∙ ap (λ (ws : List Word). say first.value.0 ++ ws) r.said ∙ sym t.1;
    })

one_more : {A : Type 0} (behind : Word → Piece A) (n : ℕ) (words left : List Word) (value : A) (more : List A) → by_first behind words ≡ Some (value, left) → up_to_end n behind left ≡ Some more
    → up_to_end (suc n) behind words ≡ Some (value ∷ more)
one_more behind n [] left value more read rest = absurd cc
one_more behind n (word ∷ words) left value more read rest = rw (read, rest)

ends_again : {A : Type 0} (say : A → List Word) (Valid : A → Type 0) (behind : Word → Piece A) → ExactPiece say Valid (λ rest. true) (by_first behind)
    → (n : ℕ) (values : List A) → AllByRecursion Valid values → length values ≤ n → up_to_end n behind (flat_map say values) ≡ Some values
ends_again say Valid behind exact zero [] all few = refl
ends_again say Valid behind exact (suc n) [] all few = refl
ends_again say Valid behind exact zero (value ∷ values) all few = absurd (omega arith)
ends_again say Valid behind exact (suc n) (value ∷ values) all few =
    rw (flat_map-cons say value values)
    (one_more behind n (say value ++ flat_map say values) (flat_map say values) value values
    (exact.again (flat_map say values) value all.0 refl) (ends_again say Valid behind exact n values all.1 (omega arith)))

-- values up to the end of a line
pub Exact-up_to_end : {A : Type 0} (say : A → List Word) (Valid : A → Type 0) (behind : Word → Piece A) → ExactPiece say Valid (λ rest. true) (by_first behind)
    → (most : ℕ) → ExactText (flat_map say) (AreUpTo Valid most) (up_to_end most behind)
Exact-up_to_end say Valid behind exact most = record {
  takes = λ words values read. let t = ends_taken say Valid behind exact most words values read in (record { count = t.count; all = t.all }, t.said);
  again = λ values are. ends_again say Valid behind exact most values are.all are.count;
}

-- ---- a loop over the values up to the end

as_some : {A : Type 0} → List A → Option (List A)
as_some values = Some values

room : (most k : ℕ) → k < most → most - k ≡ suc (most - (k + 1))
room most k less = omega arith

-- one more value is read
pub ahead_more : {A : Type 0} (most : ℕ) (behind : Word → Piece A) (front : List A) (word : Word) (words left : List Word) (value : A)
    → length front < most → behind word words ≡ Some (value, left) → ahead most behind front (word ∷ words) ≡ ahead most behind (front ++ value ∷ []) left
unfolding as_some
ahead_more {A} most behind front word words left value less read =
    ap (λ (n : ℕ). option_map (λ more. front ++ more) (up_to_end n behind (word ∷ words))) (room most (length front) less)
    ∙ (by_rest (up_to_end (most - (length front + 1)) behind left) refl ∙ ap (λ (n : ℕ). option_map (λ more. (front ++ value ∷ []) ++ more) (up_to_end (most - n) behind left)) (sym (length-append front (value ∷ []))))
  where
    joined : (o : Option (List A)) → option_map (λ more. front ++ more) (option_map (λ more. value ∷ more) o) ≡ option_map (λ more. (front ++ value ∷ []) ++ more) o
    joined None = refl
    joined (Some more) = ap as_some (sym (append_assoc front (value ∷ []) more))

    by_rest : (o : Option (List A)) → up_to_end (most - (length front + 1)) behind left ≡ o
        → option_map (λ more. front ++ more) (up_to_end (suc (most - (length front + 1))) behind (word ∷ words)) ≡ option_map (λ more. (front ++ value ∷ []) ++ more) (up_to_end (most - (length front + 1)) behind left)
    by_rest None is = rw (read, is)
    by_rest (Some more) is = rw (read, is) (joined (Some more))

-- a word is left, and there is no room
pub ahead_full : {A : Type 0} (most : ℕ) (behind : Word → Piece A) (front : List A) (word : Word) (words : List Word) → length front ≡ most → ahead most behind front (word ∷ words) ≡ None
ahead_full most behind front word words full =
    let none : most - length front ≡ 0 = omega (arith, full) in
    ap (λ (n : ℕ). option_map (λ more. front ++ more) (up_to_end n behind (word ∷ words))) none

-- a word is left that begins no value
pub ahead_none : {A : Type 0} (most : ℕ) (behind : Word → Piece A) (front : List A) (word : Word) (words : List Word) → length front < most → behind word words ≡ None → ahead most behind front (word ∷ words) ≡ None
ahead_none most behind front word words less read =
    ap (λ (n : ℕ). option_map (λ more. front ++ more) (up_to_end n behind (word ∷ words))) (room most (length front) less) ∙ rw read

-- no word is left
pub ahead_end : {A : Type 0} (most : ℕ) (behind : Word → Piece A) (front : List A) → ahead most behind front [] ≡ Some front
unfolding as_some
ahead_end {A} most behind front = at (most - length front)
  where
    at : (n : ℕ) → option_map (λ more. front ++ more) (up_to_end n behind []) ≡ Some front
    at zero = ap as_some (append-nil front)
    at (suc n) = ap as_some (append-nil front)
