-- Tests: each is read from its words, and from no others.
use Rattle.std.proofs.Common.{◌≡◌, ℕ, zero, suc, ◌<◌, ◌≤◌, Bool, true, false, cond, ◌&&◌, ◌==◌, nat_lt, List, [], ◌∷◌, ◌++◌, map, length, get_or, refl, sym, ap, subst, ◌∙◌, arith, Some, None, Option, eqb, eqb-true}
use Rattle.std.specs.Prelude.{option_map, bytes_eq, codes}
use Rattle.std.specs.Fmt.{decimal}
use Rattle.std.specs.Cmp.Lexicographic.{pointwise}
use Rattle.std.specs.List.{AllByRecursion, IsDistinct, position_or_len}
use Rattle.std.proofs.lemmas.Bool.{lt-ltb}
use Rattle.std.proofs.lemmas.List.{get_or-map}
use Rattle.std.proofs.lemmas.List.Quantifiers.{position-Some}
use Rattle.std.proofs.lemmas.List.Sums.{position_or_len_is}
use Rattle.std.proofs.lemmas.Slice.Eq.{bytes_eq-Decides}
use Rattle.vp_card.specs.Texts.{rank_set_text}
use Rattle.vp_text.specs.Lines.{Word}
use Rattle.vp_text.specs.Numbers.{number_within}
use Rattle.vp_text.specs.ExactReaders.{ExactText}
use Rattle.vp_text.specs.Pieces.{ExactPiece, by_first}
use Rattle.vp_text.proofs.Numbers.{number_within_exact}
use Rattle.vp_text.proofs.Pieces.{both_true, bound, by_key, chosen, no_value, same_bytes, so, took, Exact-one_word}
use Rattle.vp_pay.proofs.Values.{Exact-rank_set}
use Rattle.vp_pay.specs.Table.{IsTable}
use Rattle.vp_pay.specs.declared.pattern.Pattern.TheVariants.{Flush}
use Rattle.vp_pay.specs.declared.pattern.Qualifier.TheVariants.{Either}
use Rattle.vp_pay.specs.declared.table.PayLine.{PayLine}
use Rattle.vp_pay.specs.declared.table.PayTable.{PayTable}
use Rattle.vp_rule.specs.Reading.{digit, number_piece, range_piece, windows_piece, count_piece, left_piece, place_of, made_piece, plain_test, test_behind}
use Rattle.vp_rule.specs.Spelling.{name_at, test_words}
use Rattle.vp_rule.specs.Valid.{IsTest}
use Rattle.vp_rule.specs.declared.rule.Test.{Test}
use Rattle.vp_rule.specs.declared.rule.Test.TheVariants.{Hold, Wilds, Suited, Mixed, Royal, Windows, Count, Equal, Ranks, Made, Left, LeftSuit}

Exact-five : ExactText decimal (λ n. (0 ≤ n) × (n ≤ 5)) (digit 5)
Exact-five = number_within_exact 0 5 (omega arith)

and_none : (b : Bool) → (b && false) ≡ false
and_none true = refl
and_none false = refl

-- ---- the names of pay lines

differ_at : (xs : List Word) (k i : ℕ) → IsDistinct (pointwise eqb) xs → k < i → i < length xs → bytes_eq (get_or xs k []) (get_or xs i []) ≡ false
unfolding IsDistinct
differ_at [] k i is l inside = absurd (omega arith)
differ_at (x ∷ xs) zero zero is l inside = absurd (omega arith)
differ_at (x ∷ xs) zero (suc i) is l inside = at xs i is.0 (omega arith)
  where
    at : (ys : List Word) (i : ℕ) → AllByRecursion (λ y. pointwise eqb x y ≡ false) ys → i < length ys → bytes_eq x (get_or ys i []) ≡ false
    at [] i all inside = absurd (omega arith)
    at (y ∷ ys) zero all inside = all.0
    at (y ∷ ys) (suc i) all inside = at ys i all.1 (omega arith)
differ_at (x ∷ xs) (suc k) zero is l inside = absurd (omega arith)
differ_at (x ∷ xs) (suc k) (suc i) is l inside = differ_at xs k i is.1 (omega arith) (omega arith)

no_line : PayTable → PayLine
no_line table = record { name = []; pattern = Flush; qualifier = Either; pays = [] }

named : (table : PayTable) (place : ℕ) → place < length table.lines.items → name_at table place ≡ (get_or table.lines.items place (no_line table)).name
named table place inside = get_or-map (λ (line : PayLine). line.name) table.lines.items place (no_line table) [] inside

place_taken : (table : PayTable) (name : Word) (place : ℕ) → place_of table name ≡ Some place → (place < length table.lines.items) × (name_at table place ≡ name)
place_taken table name place read =
    let at = position-Some (λ (line : PayLine). bytes_eq line.name name) table.lines.items place (no_line table) read in
    (at.0, named table place at.0 ∙ (bytes_eq-Decides (get_or table.lines.items place (no_line table)).name name).0 at.1)

place_again : (table : PayTable) (place : ℕ) → IsTable table → place < length table.lines.items → place_of table (name_at table place) ≡ Some place
place_again table place is inside =
    let p : PayLine → Bool = λ line. bytes_eq line.name (name_at table place) in
    let names : List Word = map (λ (line : PayLine). line.name) table.lines.items in
    let here : p (get_or table.lines.items place (no_line table)) ≡ true =
    ap (λ (w : Word). bytes_eq w (name_at table place)) (sym (named table place inside)) ∙ same_bytes (name_at table place) in
    let before : (k : ℕ) → k < place → p (get_or table.lines.items k (no_line table)) ≡ false = λ k l.
    ap (λ (w : Word). bytes_eq w (name_at table place)) (sym (named table k (omega arith)))
    ∙ differ_at names k place is.names l (subst (λ n. place < n) (sym (length_names table.lines.items)) inside) in
    let found : position_or_len p table.lines.items ≡ place = position_or_len_is p table.lines.items place (no_line table) (omega arith) before (λ l. here) in
    ap (λ (n : ℕ). cond (nat_lt n (length table.lines.items)) (as_some n) None) found ∙ ap (λ (b : Bool). cond b (as_some place) None) (lt-ltb place (length table.lines.items) inside)
  where
    as_some : ℕ → Option ℕ
    as_some n = Some n

    length_names : (ls : List PayLine) → length (map (λ (line : PayLine). line.name) ls) ≡ length ls
    length_names [] = refl
    length_names (l ∷ ls) = ap suc (length_names ls)

Exact-place : (table : PayTable) → IsTable table → ExactText (name_at table) (λ place. place < length table.lines.items) (place_of table)
Exact-place table is = record { takes = λ name place read. place_taken table name place read; again = λ place inside. place_again table place is inside }

-- ---- each test behind its first word

module _ (version : ℕ) (table : PayTable) (is_table : IsTable table) where
  abbrev pub Behind : Word → List Word → Test × List Word → Type 0
  Behind word words taken = IsTest version table taken.0 × (word ∷ words ≡ test_words table taken.0 ++ taken.1)

  number_taken : (key : Word) (test : ℕ → Test) → ((k : ℕ) → k ≤ 5 → IsTest version table (test k)) → ((k : ℕ) → test_words table (test k) ≡ key ∷ decimal k ∷ [])
      → (words : List Word) (taken : Test × List Word) → number_piece test words ≡ Some taken → Behind key words taken
  number_taken key test valid spelled words taken read =
      let k = bound _ _ _ read in
      let t = took (Exact-one_word Exact-five) words k.value k.first in
      so (Behind key words) (test k.value.0, k.value.1) taken k.then
      (valid k.value.0 t.valid.1, ap (λ (ws : List Word). key ∷ ws) t.front ∙ ap (λ (ws : List Word). ws ++ k.value.1) (sym (spelled k.value.0)))

  record Range (most : ℕ) (words : List Word) (r : (ℕ × ℕ) × List Word) : Type 0 where
    rises : r.0.0 ≤ r.0.1
    below : r.0.1 ≤ most
    front : words ≡ decimal r.0.0 ∷ decimal r.0.1 ∷ r.1

  range_taken : (most : ℕ) → most ≤ 10 → (words : List Word) (r : (ℕ × ℕ) × List Word) → range_piece most words ≡ Some r → Range most words r
  unfolding range_piece
  range_taken most small words r read =
      let a = bound _ _ _ read in
      let b = bound _ _ _ a.then in
      let s = took (Exact-one_word (number_within_exact 0 most (omega arith))) words a.value a.first in
      let t = took (Exact-one_word (number_within_exact a.value.0 most (omega (arith, s.valid.1)))) a.value.1 b.value b.first in
      so (Range most words) ((a.value.0, b.value.0), b.value.1) r b.then
      (record { rises = t.valid.0; below = t.valid.1; front = s.front ∙ ap (λ (ws : List Word). decimal a.value.0 ∷ ws) t.front })

  range_again : (most a b : ℕ) (rest : List Word) → most ≤ 10 → a ≤ b → b ≤ most → range_piece most (decimal a ∷ decimal b ∷ rest) ≡ Some ((a, b), rest)
  unfolding range_piece
  range_again most a b rest small rise below =
      let first : digit most (decimal a) ≡ Some a = (number_within_exact 0 most (omega arith)).again a (omega arith, omega arith) in
      let second : number_within a most (decimal b) ≡ Some b = (number_within_exact a most (omega arith)).again b (rise, below) in
      rw (first, second)

  windows_taken : (words : List Word) (taken : Test × List Word) → windows_piece words ≡ Some taken → Behind (codes "windows") words taken
  unfolding windows_piece
  windows_taken words taken read =
      let r = bound _ _ _ read in
      let t = range_taken 10 (omega arith) words r.value r.first in
      so (Behind (codes "windows") words) (Windows r.value.0.0 r.value.0.1, r.value.1) taken r.then ((t.rises, t.below), ap (λ (ws : List Word). codes "windows" ∷ ws) t.front)

  count_taken : (words : List Word) (taken : Test × List Word) → count_piece words ≡ Some taken → Behind (codes "count") words taken
  unfolding count_piece
  count_taken words taken read =
      let set = bound _ _ _ read in
      let r = bound _ _ _ set.then in
      let s = took (Exact-one_word Exact-rank_set) words set.value set.first in
      let t = range_taken 5 (omega arith) set.value.1 r.value r.first in
      so (Behind (codes "count") words) (Count set.value.0 r.value.0.0 r.value.0.1, r.value.1) taken r.then
      ((s.valid, t.rises, t.below), ap (λ (ws : List Word). codes "count" ∷ ws) (s.front ∙ ap (λ (ws : List Word). rank_set_text set.value.0 ∷ ws) t.front))

  left_taken : (words : List Word) (taken : Test × List Word) → version ≡ 2 → left_piece words ≡ Some taken → Behind (codes "left") words taken
  unfolding left_piece
  left_taken words taken second read =
      let set = bound _ _ _ read in
      let k = bound _ _ _ set.then in
      let s = took (Exact-one_word Exact-rank_set) words set.value set.first in
      let t = took (Exact-one_word Exact-five) set.value.1 k.value k.first in
      so (Behind (codes "left") words) (Left set.value.0 k.value.0, k.value.1) taken k.then
      ((second, s.valid, t.valid.1), ap (λ (ws : List Word). codes "left" ∷ ws) (s.front ∙ ap (λ (ws : List Word). rank_set_text set.value.0 ∷ ws) t.front))

  made_taken : (words : List Word) (taken : Test × List Word) → made_piece table words ≡ Some taken → Behind (codes "made") words taken
  unfolding made_piece
  made_taken words taken read =
      let p = bound _ _ _ read in
      let t = took (Exact-one_word (Exact-place table is_table)) words p.value p.first in
      so (Behind (codes "made") words) (Made p.value.0, p.value.1) taken p.then (t.valid, ap (λ (ws : List Word). codes "made" ∷ ws) t.front)

  plain_word : (word : Word) (test : Test) → plain_test word ≡ Some test → IsTest version table test × (test_words table test ≡ word ∷ [])
  plain_word word test read =
      let P : Test → Type 0 = λ t. IsTest version table t × (test_words table t ≡ word ∷ []) in
      let alone : (key : Word) → word ≡ key → key ∷ [] ≡ word ∷ [] = λ key is. ap (λ (w : Word). w ∷ []) (sym is) in
      by_key P word (codes "suited") Suited _ test read (λ is. (tt, alone _ is)) (λ m1.
      by_key P word (codes "mixed") Mixed _ test m1 (λ is. (tt, alone _ is)) (λ m2.
      by_key P word (codes "royal") Royal _ test m2 (λ is. (tt, alone _ is)) (λ none. absurd (no_value test none))))

  plain_taken : (word : Word) (words : List Word) (taken : Test × List Word) (o : Option Test) → plain_test word ≡ o
      → option_map {U = Test × List Word} (λ test. (test, words)) o ≡ Some taken → Behind word words taken
  plain_taken word words taken None is e = absurd cc
  plain_taken word words taken (Some p) is e =
      let w = plain_word word p is in
      so (Behind word words) (p, words) taken e (w.0, ap (λ (ws : List Word). ws ++ words) (sym w.1))

  keyed_by : (word key : Word) (words : List Word) (taken : Test × List Word) → bytes_eq word key ≡ true → Behind key words taken → Behind word words taken
  keyed_by word key words taken is behind = (behind.0, ap (λ (w : Word). w ∷ words) ((bytes_eq-Decides word key).0 is) ∙ behind.1)

  test_taken : (word : Word) (words : List Word) (taken : Test × List Word) → test_behind version table word words ≡ Some taken → Behind word words taken
  unfolding test_behind
  test_taken word words taken read =
      let P : Test × List Word → Type 0 = Behind word words in
      chosen P (bytes_eq word (codes "hold")) _ _ taken read (λ is e. keyed_by word _ words taken is (number_taken (codes "hold") Hold (λ k l. l) (λ k. refl) words taken e)) (λ m1.
      chosen P (bytes_eq word (codes "wilds")) _ _ taken m1 (λ is e. keyed_by word _ words taken is (number_taken (codes "wilds") Wilds (λ k l. l) (λ k. refl) words taken e)) (λ m2.
      chosen P (bytes_eq word (codes "windows")) _ _ taken m2 (λ is e. keyed_by word _ words taken is (windows_taken words taken e)) (λ m3.
      chosen P (bytes_eq word (codes "count")) _ _ taken m3 (λ is e. keyed_by word _ words taken is (count_taken words taken e)) (λ m4.
      chosen P (bytes_eq word (codes "equal")) _ _ taken m4 (λ is e. keyed_by word _ words taken is (number_taken (codes "equal") Equal (λ k l. l) (λ k. refl) words taken e)) (λ m5.
      chosen P (bytes_eq word (codes "ranks")) _ _ taken m5 (λ is e. keyed_by word _ words taken is (number_taken (codes "ranks") Ranks (λ k l. l) (λ k. refl) words taken e)) (λ m6.
      chosen P (bytes_eq word (codes "made")) _ _ taken m6 (λ is e. keyed_by word _ words taken is (made_taken words taken e)) (λ m7.
      chosen P (version == 2 && bytes_eq word (codes "left")) _ _ taken m7 (λ is e. let parts = both_true (version == 2) (bytes_eq word (codes "left")) is in keyed_by word _ words taken parts.1 (left_taken words taken (eqb-true version 2 parts.0) e)) (λ m8.
      chosen P (version == 2 && bytes_eq word (codes "leftsuit")) _ _ taken m8 (λ is e.
      let parts = both_true (version == 2) (bytes_eq word (codes "leftsuit")) is in
      keyed_by word _ words taken parts.1 (number_taken (codes "leftsuit") LeftSuit (λ k l. (eqb-true version 2 parts.0, l)) (λ k. refl) words taken e)) (λ m9.
      plain_taken word words taken (plain_test word) refl m9)))))))))

  five : (k : ℕ) → k ≤ 5 → digit 5 (decimal k) ≡ Some k
  five k l = Exact-five.again k (omega arith, l)

  test_again : (rest : List Word) (test : Test) → IsTest version table test → by_first (test_behind version table) (test_words table test ++ rest) ≡ Some (test, rest)
  unfolding test_behind windows_piece count_piece left_piece made_piece
  test_again rest (Hold k) is = rw (five k is)
  test_again rest (Wilds k) is = rw (five k is)
  test_again rest Suited is = rw (and_none (version == 2)) refl
  test_again rest Mixed is = rw (and_none (version == 2)) refl
  test_again rest Royal is = rw (and_none (version == 2)) refl
  test_again rest (Windows a b) is = rw (range_again 10 a b rest (omega arith) is.0 is.1)
  test_again rest (Count set a b) is = rw (Exact-rank_set.again set is.0, range_again 5 a b rest (omega arith) is.1 is.2)
  test_again rest (Equal k) is = rw (five k is)
  test_again rest (Ranks k) is = rw (five k is)
  test_again rest (Made place) is = rw (place_again table place is_table is)
  test_again rest (Left set k) is = rw (is.0, Exact-rank_set.again set is.1, five k is.2)
  test_again rest (LeftSuit k) is = rw (is.0, five k is.1)

  first_taken : (words rest : List Word) (test : Test) → by_first (test_behind version table) words ≡ Some (test, rest) → IsTest version table test × (words ≡ test_words table test ++ rest)
  first_taken [] rest test read = absurd cc
  first_taken (word ∷ words) rest test read = test_taken word words (test, rest) read

  pub Exact-test : ExactPiece (test_words table) (IsTest version table) (λ rest. true) (by_first (test_behind version table))
  Exact-test = record { takes = λ words rest test read. first_taken words rest test read; again = λ rest test is may. test_again rest test is }
