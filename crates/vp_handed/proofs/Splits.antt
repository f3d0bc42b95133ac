-- Bytes are words in one way.
use Rattle.std.proofs.Common.{◌≡◌, ℕ, suc, ◌<◌, ◌≤◌, List, [], ◌∷◌, ◌++◌, length, take, get_or, refl, ap, sym, ◌∙◌, subst, arith, append_assoc, length-append, length-take, append-nil}
use Rattle.std.specs.List.{Contains}
use Rattle.std.proofs.lemmas.List.{take-append-le, take_all}
use Rattle.std.proofs.Math.Seq.{get_or-append_seam}
use Rattle.vp_text.specs.Lines.{Word}
use Rattle.vp_handed.specs.Words.{AreWords, BeginsWith}

-- behind a first byte there is no zero byte either
tail_whole : (byte : ℕ) (bytes : List ℕ) → ¬ Contains (byte ∷ bytes) 0 → ¬ Contains bytes 0
tail_whole byte bytes whole (k, inside, is) = whole (suc k, omega (arith, inside), is)

-- a zero byte is not the first byte
head_whole : (byte : ℕ) (bytes : List ℕ) → ¬ Contains (byte ∷ bytes) 0 → ¬ (byte ≡ 0)
head_whole byte bytes whole is = whole (0, omega arith, is)

-- what stands before the first zero byte, and what behind it
pub cut_once : (word other rest more : List ℕ) → ¬ Contains word 0 → ¬ Contains other 0 → word ++ (0 ∷ rest) ≡ other ++ (0 ∷ more) → (word ≡ other) × (rest ≡ more)
cut_once [] [] rest more w o same = (refl, cc)
cut_once [] (b ∷ other) rest more w o same = absurd (head_whole b other o (cc))
cut_once (a ∷ word) [] rest more w o same = absurd (head_whole a word w (cc))
cut_once (a ∷ word) (b ∷ other) rest more w o same =
    let both = cut_once word other rest more (tail_whole a word w) (tail_whole b other o) (cc) in
    (cc (both.0), both.1)

-- up to some place the words were split: those that were seen, and the first six of them, are given
pub record IsSplit (bytes left : List ℕ) (given : List Word) : Type 0 where
  pub seen : List Word
  pub given_is : given ≡ take 6 seen
  pub on : (more : List Word) → AreWords more left → AreWords (seen ++ more) bytes
  pub back : (all : List Word) → AreWords all bytes → (more : List Word) × (all ≡ seen ++ more) × AreWords more left

pub split_none : (bytes : List ℕ) → IsSplit bytes bytes []
split_none bytes = record {
  seen = [];
  given_is = refl;
  on = λ more are. are;
  back = λ all are. (all, refl, are);
}

-- the words of what is left begin with its first word
next_back : (left rest : List ℕ) (word : Word) (more : List Word) → BeginsWith word rest left → AreWords more left
    → (others : List Word) × (more ≡ word ∷ others) × AreWords others rest
next_back left rest word [] begins are = absurd (omega (arith, ap length are, ap length begins.bytes_are, length-append word (0 ∷ rest)))
next_back left rest word (other ∷ others) begins (behind, an, are) =
    let both = cut_once word other rest behind begins.word_is.whole an.word_is.whole (sym begins.bytes_are ∙ an.bytes_are) in
    (others, cc (both.0), subst (λ (r : List ℕ). AreWords others r) (sym (both.1)) are)

next_on : (bytes left rest : List ℕ) (given : List Word) (word : Word) (s : IsSplit bytes left given) → BeginsWith word rest left
    → (more : List Word) → AreWords more rest → AreWords ((s.seen ++ (word ∷ [])) ++ more) bytes
next_on bytes left rest given word s begins more are = rw append_assoc (s.on (word ∷ more) (rest, begins, are))

next_split : (bytes left rest : List ℕ) (given : List Word) (word : Word) (s : IsSplit bytes left given) → BeginsWith word rest left
    → (all : List Word) → AreWords all bytes → (more : List Word) × (all ≡ (s.seen ++ (word ∷ [])) ++ more) × AreWords more rest
next_split bytes left rest given word s begins all are =
    let (more, all_is, ares) = s.back all are in
    let (others, more_is, those) = next_back left rest word more begins ares in
    (others, all_is ∙ ap (λ (m : List Word). s.seen ++ m) more_is ∙ sym (append_assoc s.seen (word ∷ []) others), those)

-- six are given only where six were seen, and all that were seen where fewer than six are given
full_seen : (given seen : List Word) → given ≡ take 6 seen → 6 ≤ length given → 6 ≤ length seen
full_seen given seen is full = omega (arith, ap length is, length-take 6 seen)

few_seen : (given seen : List Word) → given ≡ take 6 seen → length given < 6 → length seen < 6
few_seen given seen is few = omega (arith, ap length is, length-take 6 seen)

-- one word more: it is given unless six are
pub split_full : (bytes left rest : List ℕ) (given : List Word) (word : Word) → IsSplit bytes left given → BeginsWith word rest left
    → 6 ≤ length given → IsSplit bytes rest given
split_full bytes left rest given word s begins full = record {
  seen = s.seen ++ (word ∷ []);
  given_is = s.given_is ∙ sym (take-append-le 6 s.seen (word ∷ []) (full_seen given s.seen s.given_is full));
  on = next_on bytes left rest given word s begins;
  back = next_split bytes left rest given word s begins;
}

few_more : (given seen : List Word) (word : Word) → given ≡ take 6 seen → length given < 6 → given ++ (word ∷ []) ≡ take 6 (seen ++ (word ∷ []))
few_more given seen word is few =
    let less = few_seen given seen is few in
    let all : take 6 seen ≡ seen = take_all 6 seen (omega arith) in
    ap (λ (ws : List Word). ws ++ (word ∷ [])) (is ∙ all) ∙ sym (take_all 6 (seen ++ (word ∷ [])) (omega (arith, length-append seen (word ∷ []))))

pub split_more : (bytes left rest : List ℕ) (given : List Word) (word : Word) → IsSplit bytes left given → BeginsWith word rest left
    → length given < 6 → IsSplit bytes rest (given ++ (word ∷ []))
split_more bytes left rest given word s begins room = record {
  seen = s.seen ++ (word ∷ []);
  given_is = few_more given s.seen word s.given_is room;
  on = next_on bytes left rest given word s begins;
  back = next_split bytes left rest given word s begins;
}

-- no bytes are no words
no_words : (words : List Word) (left : List ℕ) → length left ≡ 0 → AreWords words left → words ≡ []
no_words [] left none are = refl
no_words (word ∷ words) left none (rest, begins, are) = absurd (omega (arith, ap length begins.bytes_are, length-append word (0 ∷ rest)))

empty_is : (left : List ℕ) → length left ≡ 0 → left ≡ []
empty_is [] none = refl
empty_is (x ∷ left) none = absurd (omega arith)

-- at the end of the bytes they are the words that were seen
pub split_whole : (bytes left : List ℕ) (given : List Word) → IsSplit bytes left given → length left ≡ 0 → (all : List Word) × AreWords all bytes
split_whole bytes left given s none = (s.seen ++ [], s.on [] (empty_is left none))

pub split_first : (bytes left : List ℕ) (given : List Word) → IsSplit bytes left given → length left ≡ 0 → (all : List Word) → AreWords all bytes → given ≡ take 6 all
split_first bytes left given s none all are =
    let (more, all_is, ares) = s.back all are in
    s.given_is ∙ ap (take 6) (sym (all_is ∙ ap (λ (m : List Word). s.seen ++ m) (no_words more left none ares) ∙ append-nil s.seen))

stuck : (left : List ℕ) → 0 < length left → ((word rest : List ℕ) → ¬ BeginsWith word rest left) → (more : List Word) → ¬ AreWords more left
stuck left some none [] are = omega (arith, ap length are)
stuck left some none (word ∷ more) (rest, begins, are) = none word rest begins

-- what is left and is no words makes the whole no words
pub split_stuck : (bytes left : List ℕ) (given : List Word) → IsSplit bytes left given → 0 < length left
    → ((word rest : List ℕ) → ¬ BeginsWith word rest left) → (all : List Word) → ¬ AreWords all bytes
split_stuck bytes left given s some none all are =
    let (more, all_is, ares) = s.back all are in
    stuck left some none more ares

-- a zero byte behind a word is one of the bytes
pub zero_stands : (bytes word rest : List ℕ) → bytes ≡ word ++ (0 ∷ rest) → Contains bytes 0
zero_stands bytes word rest cut =
    (length word, omega (arith, ap length cut, length-append word (0 ∷ rest)), ap (λ (xs : List ℕ). get_or xs (length word) 0) cut ∙ get_or-append_seam word 0 rest 0)
