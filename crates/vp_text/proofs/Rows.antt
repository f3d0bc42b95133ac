-- Items up to a line that closes them: exact where each line is, and where every line that keeps its rule can be continued.
use Rattle.std.proofs.Common.{◌≡◌, ℕ, Bool, true, false, cond, List, [], ◌∷◌, ◌++◌, map, Option, Some, None, option_map, Result, Ok, Err, ◌⊎◌, inl, inr, refl, sym, ap, subst, ◌∙◌, append_assoc}
use Rattle.std.proofs.lemmas.List.{append-nil, map-append}
use Rattle.std.proofs.lemmas.Slice.Eq.{bytes_eq-Decides}
use Rattle.vp_text.specs.Lines.{Past, Word, WordLine, Feed}
use Rattle.vp_text.specs.Reading.{behind, only_is, by_row, rows_at, rows, closed_by, closed}
use Rattle.vp_text.specs.Sections.{Text, text_of, last_of, Starts, Begins, Lacks, Refuses}
use Rattle.vp_text.specs.ExactReaders.{Exact, Keeps, on_item, Finish, rows_text, AreRows, item_or, allows_or, closed_text, AreClosed, Closes, ExactText}
use Rattle.vp_text.proofs.Spelled.{ok_is, err_is, tail_is, head_is, cons_is}
use Rattle.vp_text.proofs.Sections.{feed_is}
use Rattle.vp_text.proofs.Joined.{Exact-mapped}

abbrev pub as_item : {I Z : Type 0} → I → I ⊎ Z
as_item i = inl i

abbrev pub as_close : {I Z : Type 0} → Z → I ⊎ Z
as_close z = inr z

abbrev found : {A : Type 0} → A → Option A
found x = Some x

some_is : {A : Type 0} (x y : A) → found x ≡ found y → x ≡ y
some_is x y e = cc

-- what all lemmas here are about
pub record Grammar {I Z : Type 0} (line : I ⊎ Z → List Word) (Rule : List I → I ⊎ Z → Type 0) (row_of : List I → List Word → Option (I ⊎ Z)) : Type 0 where
  pub exact : (front : List I) → ExactText line (Rule front) (row_of front)

abbrev items_text : {I Z : Type 0} → (I ⊎ Z → List Word) → List I → Text
items_text line items = map (λ i. line (inl i)) items

-- ---- what is read keeps its rules

pub record Taken {I Z : Type 0} (line : I ⊎ Z → List Word) (Rule : List I → I ⊎ Z → Type 0) (before : Feed) (items : List I) (value : List I × Z) (left : Feed) : Type 0 where
  pub more : List I
  pub all : value.0 ≡ items ++ more
  pub keeps : Keeps (on_item Rule) items more
  pub closes : Rule (items ++ more) (inr value.1)
  pub starts : Starts (rows_text line) before (more, value.1) left

rows_take : {I Z : Type 0} (line : I ⊎ Z → List Word) (Rule : List I → I ⊎ Z → Type 0) (row_of : List I → List Word → Option (I ⊎ Z)) → Grammar line Rule row_of
    → (lines : List WordLine) (past : Past) (last : ℕ) (items : List I) (value : List I × Z) (left : Feed) → rows_at row_of lines past items ≡ Ok (value, left)
    → Taken line Rule (record { lines = lines; past = past; last = last }) items value left
rows_take line Rule row_of grammar [] past last items value left e = absurd cc
rows_take {I = I} {Z = Z} line Rule row_of grammar (l ∷ lines) past last items value left e =
    row_taken (λ i h. rows_take line Rule row_of grammar lines past l.line (items ++ i ∷ []) value left h) (row_of items l.words) refl e
  where
    row_taken : ((i : I) → rows_at row_of lines past (items ++ i ∷ []) ≡ Ok (value, left) → Taken line Rule (record { lines = lines; past = past; last = l.line }) (items ++ i ∷ []) value left)
        → (o : Option (I ⊎ Z)) → row_of items l.words ≡ o
        → by_row o (Err l.line) (λ i. rows_at row_of lines past (items ++ i ∷ [])) (λ z. Ok ((items, z), behind l lines past)) ≡ Ok (value, left)
        → Taken line Rule (record { lines = l ∷ lines; past = past; last = last }) items value left
    row_taken goes_on None is h = absurd cc
    row_taken goes_on (Some (inl i)) is h =
        let t = (grammar.exact items).takes l.words (inl i) is in
        let r = goes_on i h in
        let regroup : (items ++ i ∷ []) ++ r.more ≡ items ++ i ∷ r.more = append_assoc items (i ∷ []) r.more in
        record {
          more = i ∷ r.more;
          all = r.all ∙ regroup;
          keeps = (t.0, r.keeps);
          closes = subst (λ (all : List I). Rule all (inr value.1)) regroup r.closes;
          starts = record {
            front = l ∷ r.starts.front;
            lines = ap (λ (ls : List WordLine). l ∷ ls) r.starts.lines;
            spelled = cons_is l.words (line (inl i)) (text_of r.starts.front) (rows_text line (r.more, value.1)) (sym t.1) r.starts.spelled;
            past = r.starts.past;
            last = r.starts.last;
          };
        }
    row_taken goes_on (Some (inr z)) is h =
        let t = (grammar.exact items).takes l.words (inr z) is in
        let found = ok_is ((items, z), behind l lines past) (value, left) h in
        subst (λ (p : (List I × Z) × Feed). Taken line Rule (record { lines = l ∷ lines; past = past; last = last }) items p.0 p.1) found
        (record {
          more = [];
          all = sym (append-nil items);
          keeps = tt;
          closes = subst (λ (all : List I). Rule all (inr z)) (sym (append-nil items)) t.0;
          starts = record {
            front = l ∷ [];
            lines = refl;
            spelled = cons_is l.words (line (inr z)) [] [] (sym t.1) refl;
            past = refl;
            last = refl;
          };
        })

-- ---- what keeps its rules is read

rows_again : {I Z : Type 0} (line : I ⊎ Z → List Word) (Rule : List I → I ⊎ Z → Type 0) (row_of : List I → List Word → Option (I ⊎ Z)) → Grammar line Rule row_of
    → (more items : List I) (z : Z) (lines front : List WordLine) (past : Past) (last : ℕ) (left : Feed) → Keeps (on_item Rule) items more → Rule (items ++ more) (inr z)
    → lines ≡ front ++ left.lines → text_of front ≡ rows_text line (more, z) → left.past ≡ past → left.last ≡ last_of front last
    → rows_at row_of lines past items ≡ Ok ((items ++ more, z), left)
rows_again line Rule row_of grammar [] items z lines [] past last left keeps closes split spelled p q = absurd cc
rows_again line Rule row_of grammar [] items z lines (l ∷ m ∷ front) past last left keeps closes split spelled p q =
    let clash = tail_is l.words (line (inr z)) (m.words ∷ text_of front) [] spelled in absurd cc
rows_again {I = I} {Z = Z} line Rule row_of grammar [] items z lines (l ∷ []) past last left keeps closes split spelled p q =
    let rule : Rule items (inr z) = subst (λ (all : List I). Rule all (inr z)) (append-nil items) closes in
    let read : row_of items l.words ≡ Some (inr z) = ap (row_of items) (head_is l.words (line (inr z)) [] [] spelled) ∙ (grammar.exact items).again (inr z) rule in
    ap (λ (ls : List WordLine). rows_at row_of ls past items) split
    ∙ ap (λ (o : Option (I ⊎ Z)). by_row o (Err l.line) (λ i. rows_at row_of left.lines past (items ++ i ∷ [])) (λ z. Ok ((items, z), behind l left.lines past))) read
    ∙ ap (λ (f : Feed). as_ok (items, z) f) (feed_is left past l.line p q)
    ∙ ap (λ (all : List I). as_ok (all, z) left) (sym (append-nil items))
  where
    as_ok : List I × Z → Feed → Result ((List I × Z) × Feed) ℕ
    as_ok value f = Ok (value, f)
rows_again line Rule row_of grammar (i ∷ more) items z lines [] past last left keeps closes split spelled p q = absurd cc
rows_again {I = I} {Z = Z} line Rule row_of grammar (i ∷ more) items z lines (l ∷ front) past last left keeps closes split spelled p q =
    let regroup : (items ++ i ∷ []) ++ more ≡ items ++ i ∷ more = append_assoc items (i ∷ []) more in
    let head = head_is l.words (line (inl i)) (text_of front) (rows_text line (more, z)) spelled in
    let tail = tail_is l.words (line (inl i)) (text_of front) (rows_text line (more, z)) spelled in
    let read : row_of items l.words ≡ Some (inl i) = ap (row_of items) head ∙ (grammar.exact items).again (inl i) keeps.0 in
    let closes2 : Rule ((items ++ i ∷ []) ++ more) (inr z) = subst (λ (all : List I). Rule all (inr z)) (sym regroup) closes in
    let rest = rows_again line Rule row_of grammar more (items ++ i ∷ []) z (front ++ left.lines) front past l.line left keeps.1 closes2 refl tail p q in
    ap (λ (ls : List WordLine). rows_at row_of ls past items) split
    ∙ ap (λ (o : Option (I ⊎ Z)). by_row o (Err l.line) (λ i. rows_at row_of (front ++ left.lines) past (items ++ i ∷ [])) (λ z. Ok ((items, z), behind l (front ++ left.lines) past))) read
    ∙ rest
    ∙ ap (λ (all : List I). as_ok (all, z) left) regroup
  where
    as_ok : List I × Z → Feed → Result ((List I × Z) × Feed) ℕ
    as_ok value f = Ok (value, f)

-- ---- what is refused

-- these items keep their rules, and the line behind them is none
pub record Stopped {I Z : Type 0} (line : I ⊎ Z → List Word) (Rule : List I → I ⊎ Z → Type 0) (row_of : List I → List Word → Option (I ⊎ Z)) (lines : List WordLine) (items : List I) (refused : ℕ) : Type 0 where
  pub more : List I
  pub keeps : Keeps (on_item Rule) items more
  pub front : List WordLine
  pub at : WordLine
  pub rest : List WordLine
  pub split : lines ≡ front ++ at ∷ rest
  pub spelled : text_of front ≡ items_text line more
  pub number : refused ≡ at.line
  pub unread : row_of (items ++ more) at.words ≡ None

-- these items keep their rules, and no line is behind them
pub record Ran {I Z : Type 0} (line : I ⊎ Z → List Word) (Rule : List I → I ⊎ Z → Type 0) (lines : List WordLine) (past : Past) (items : List I) (refused : ℕ) : Type 0 where
  pub more : List I
  pub keeps : Keeps (on_item Rule) items more
  pub spelled : text_of lines ≡ items_text line more
  pub number : refused ≡ past.line

rows_stop : {I Z : Type 0} (line : I ⊎ Z → List Word) (Rule : List I → I ⊎ Z → Type 0) (row_of : List I → List Word → Option (I ⊎ Z)) → Grammar line Rule row_of
    → (lines : List WordLine) (past : Past) (items : List I) (refused : ℕ) → rows_at row_of lines past items ≡ Err refused
    → Stopped line Rule row_of lines items refused ⊎ Ran line Rule lines past items refused
rows_stop {I = I} {Z = Z} line Rule row_of grammar [] past items refused e =
    inr (record { more = []; keeps = tt; spelled = refl; number = sym (err_is {A = (List I × Z) × Feed} past.line refused e) })
rows_stop {I = I} {Z = Z} line Rule row_of grammar (l ∷ lines) past items refused e =
    row_stops (λ i h. rows_stop line Rule row_of grammar lines past (items ++ i ∷ []) refused h) (row_of items l.words) refl e
  where
    one_more : (i : I) → row_of items l.words ≡ Some (inl i) → Stopped line Rule row_of lines (items ++ i ∷ []) refused ⊎ Ran line Rule lines past (items ++ i ∷ []) refused
        → Stopped line Rule row_of (l ∷ lines) items refused ⊎ Ran line Rule (l ∷ lines) past items refused
    one_more i is (inl s) =
        let t = (grammar.exact items).takes l.words (inl i) is in
        inl (record {
          more = i ∷ s.more;
          keeps = (t.0, s.keeps);
          front = l ∷ s.front;
          at = s.at;
          rest = s.rest;
          split = ap (λ (ls : List WordLine). l ∷ ls) s.split;
          spelled = cons_is l.words (line (inl i)) (text_of s.front) (items_text line s.more) (sym t.1) s.spelled;
          number = s.number;
          unread = subst (λ (all : List I). row_of all s.at.words ≡ None) (append_assoc items (i ∷ []) s.more) s.unread;
        })
    one_more i is (inr r) =
        let t = (grammar.exact items).takes l.words (inl i) is in
        inr (record {
          more = i ∷ r.more;
          keeps = (t.0, r.keeps);
          spelled = cons_is l.words (line (inl i)) (text_of lines) (items_text line r.more) (sym t.1) r.spelled;
          number = r.number;
        })

    row_stops : ((i : I) → rows_at row_of lines past (items ++ i ∷ []) ≡ Err refused → Stopped line Rule row_of lines (items ++ i ∷ []) refused ⊎ Ran line Rule lines past (items ++ i ∷ []) refused)
        → (o : Option (I ⊎ Z)) → row_of items l.words ≡ o
        → by_row o (Err l.line) (λ i. rows_at row_of lines past (items ++ i ∷ [])) (λ z. Ok ((items, z), behind l lines past)) ≡ Err refused
        → Stopped line Rule row_of (l ∷ lines) items refused ⊎ Ran line Rule (l ∷ lines) past items refused
    row_stops goes_on None is h = inl (record {
      more = [];
      keeps = tt;
      front = [];
      at = l;
      rest = lines;
      split = refl;
      spelled = refl;
      number = sym (err_is {A = (List I × Z) × Feed} l.line refused h);
      unread = ap (λ (all : List I). row_of all l.words) (append-nil items) ∙ is;
    })
    row_stops goes_on (Some (inl i)) is h = one_more i is (goes_on i h)
    row_stops goes_on (Some (inr z)) is h = absurd cc

-- ---- lines that begin a spelling

Keeps-append : {I Z : Type 0} (Rule : List I → I ⊎ Z → Type 0) (front a b : List I) → Keeps (on_item Rule) front a → Keeps (on_item Rule) (front ++ a) b → Keeps (on_item Rule) front (a ++ b)
Keeps-append Rule front [] b k m = subst (λ (all : List _). Keeps (on_item Rule) all b) (append-nil front) m
Keeps-append Rule front (i ∷ a) b k m =
    (k.0, Keeps-append Rule (front ++ i ∷ []) a b k.1 (subst (λ (all : List _). Keeps (on_item Rule) all b) (sym (append_assoc front (i ∷ []) a)) m))

text_lacks : {I Z : Type 0} (line : I ⊎ Z → List Word) (Rule : List I → I ⊎ Z → Type 0) (value : List I × Z) (text : Text) (more : List I) (z : Z)
    → AreRows Rule value → rows_text line value ≡ text ++ rows_text line (more, z) → Lacks (rows_text line) (AreRows Rule) text
text_lacks line Rule value text [] z valid spelled = record { value = value; valid = valid; next = line (inr z); more = []; spelled = spelled }
text_lacks line Rule value text (i ∷ more) z valid spelled = record { value = value; valid = valid; next = line (inl i); more = rows_text line (more, z); spelled = spelled }

-- items that keep their rules begin a spelling, and more follows
rows_lack : {I Z : Type 0} (line : I ⊎ Z → List Word) (Rule : List I → I ⊎ Z → Type 0) (items : List I) → Keeps (on_item Rule) [] items → Finish Rule items → Lacks (rows_text line) (AreRows Rule) (items_text line items)
rows_lack {I = I} line Rule items keeps f =
    text_lacks line Rule (items ++ f.more, f.close) (items_text line items) f.more f.close (Keeps-append Rule [] items f.more keeps f.keeps, f.closes)
    (ap (λ (t : Text). t ++ line (inr f.close) ∷ []) (map-append (λ (i : I). line (inl i)) items f.more) ∙ append_assoc (items_text line items) (items_text line f.more) (line (inr f.close) ∷ []))

two_reads : {R : Type 0} (o : Option R) (x y : R) → o ≡ Some x → o ≡ Some y → x ≡ y
two_reads o x y p q = cc

-- where a valid spelling goes on behind these items, its next line is read
rows_read : {I Z : Type 0} (line : I ⊎ Z → List Word) (Rule : List I → I ⊎ Z → Type 0) (row_of : List I → List Word → Option (I ⊎ Z)) → Grammar line Rule row_of
    → (more others items : List I) (z : Z) (words : List Word) (rest : Text) → Keeps (on_item Rule) items more → Keeps (on_item Rule) items others → Rule (items ++ others) (inr z)
    → rows_text line (others, z) ≡ items_text line more ++ words ∷ rest → row_of (items ++ more) words ≡ None → ⊥
rows_read line Rule row_of grammar [] [] items z words rest keeps kept closes spelled unread =
    let rule : Rule items (inr z) = subst (λ (all : List _). Rule all (inr z)) (append-nil items) closes in
    let read : row_of items words ≡ Some (inr z) = ap (row_of items) (sym (head_is (line (inr z)) words [] rest spelled)) ∙ (grammar.exact items).again (inr z) rule in
    let not_read : row_of items words ≡ None = ap (λ (all : List _). row_of all words) (sym (append-nil items)) ∙ unread in
    absurd cc
rows_read line Rule row_of grammar [] (i ∷ others) items z words rest keeps kept closes spelled unread =
    let read : row_of items words ≡ Some (inl i) = ap (row_of items) (sym (head_is (line (inl i)) words (rows_text line (others, z)) rest spelled)) ∙ (grammar.exact items).again (inl i) kept.0 in
    let not_read : row_of items words ≡ None = ap (λ (all : List _). row_of all words) (sym (append-nil items)) ∙ unread in
    absurd cc
rows_read {I = I} {Z = Z} line Rule row_of grammar (j ∷ more) [] items z words rest keeps kept closes spelled unread =
    let rule : Rule items (inr z) = subst (λ (all : List _). Rule all (inr z)) (append-nil items) closes in
    let head : line (inr z) ≡ line (inl j) = head_is (line (inr z)) (line (inl j)) [] (items_text line more ++ words ∷ rest) spelled in
    let clash : inr z ≡ inl j = two_reads (row_of items (line (inr z))) (inr z) (inl j) ((grammar.exact items).again (inr z) rule) (ap (row_of items) head ∙ (grammar.exact items).again (inl j) keeps.0) in
    absurd cc
rows_read {I = I} {Z = Z} line Rule row_of grammar (j ∷ more) (i ∷ others) items z words rest keeps kept closes spelled unread =
    let head : line (inl i) ≡ line (inl j) = head_is (line (inl i)) (line (inl j)) (rows_text line (others, z)) (items_text line more ++ words ∷ rest) spelled in
    let tail = tail_is (line (inl i)) (line (inl j)) (rows_text line (others, z)) (items_text line more ++ words ∷ rest) spelled in
    let same : as_item i ≡ as_item j = two_reads (row_of items (line (inl i))) (inl i) (inl j) ((grammar.exact items).again (inl i) kept.0) (ap (row_of items) head ∙ (grammar.exact items).again (inl j) keeps.0) in
    let item : i ≡ j = cc in
    let kept2 : Keeps (on_item Rule) (items ++ j ∷ []) others = subst (λ (k : I). Keeps (on_item Rule) (items ++ k ∷ []) others) item kept.1 in
    let closes2 : Rule ((items ++ j ∷ []) ++ others) (inr z) = subst (λ (all : List I). Rule all (inr z)) (ap (λ (k : I). items ++ k ∷ others) item ∙ sym (append_assoc items (j ∷ []) others)) closes in
    let unread2 : row_of ((items ++ j ∷ []) ++ more) words ≡ None = ap (λ (all : List I). row_of all words) (append_assoc items (j ∷ []) more) ∙ unread in
    rows_read line Rule row_of grammar more others (items ++ j ∷ []) z words rest keeps.1 kept2 closes2 tail unread2
  where
    as_item : I → I ⊎ Z
    as_item k = inl k

-- ---- all of it

pub Exact-rows : {I Z : Type 0} (line : I ⊎ Z → List Word) (Rule : List I → I ⊎ Z → Type 0) (row_of : List I → List Word → Option (I ⊎ Z))
    → ((front : List I) → ExactText line (Rule front) (row_of front)) → ((front : List I) → Keeps (on_item Rule) [] front → Finish Rule front)
    → Exact (rows_text line) (AreRows Rule) (rows row_of)
Exact-rows {I = I} {Z = Z} line Rule row_of exact finish = record {
  some = ((finish [] tt).more, (finish [] tt).close);
  some_valid = ((finish [] tt).keeps, (finish [] tt).closes);
  takes = rows_takes;
  again = rows_agains;
  stops = λ feed refused e. rows_stops feed refused (rows_stop line Rule row_of grammar feed.lines feed.past [] refused e);
}
  where
    grammar : Grammar line Rule row_of
    grammar = record { exact = exact }

    rows_takes : (before left : Feed) (value : List I × Z) → rows row_of before ≡ Ok (value, left) → AreRows Rule value × Starts (rows_text line) before value left
    rows_takes before left value e =
        let t = rows_take line Rule row_of grammar before.lines before.past before.last [] value left e in (
          (subst (λ (items : List I). Keeps (on_item Rule) [] items) (sym t.all) t.keeps, subst (λ (items : List I). Rule items (inr value.1)) (sym t.all) t.closes),
          subst (λ (items : List I). Starts (rows_text line) before (items, value.1) left) (sym t.all) t.starts,
        )

    rows_agains : (before left : Feed) (value : List I × Z) → AreRows Rule value → Starts (rows_text line) before value left → rows row_of before ≡ Ok (value, left)
    rows_agains before left value valid s =
        rows_again line Rule row_of grammar value.0 [] value.1 before.lines s.front before.past before.last left valid.0 valid.1 s.lines s.spelled s.past s.last

    broken_by : (items : List I) (text : Text) (words : List Word) → Keeps (on_item Rule) [] items → text ≡ items_text line items → row_of items words ≡ None → Begins (rows_text line) (AreRows Rule) (text ++ words ∷ []) → ⊥
    broken_by items text words keeps is unread begins =
        rows_read line Rule row_of grammar items begins.value.0 [] begins.value.1 words begins.more keeps begins.valid.0 begins.valid.1
        (begins.spelled ∙ append_assoc text (words ∷ []) begins.more ∙ ap (λ (t : Text). t ++ words ∷ begins.more) is) unread

    rows_stops : (feed : Feed) (refused : ℕ) → (Stopped line Rule row_of feed.lines [] refused ⊎ Ran line Rule feed.lines feed.past [] refused) → Refuses (rows_text line) (AreRows Rule) feed refused
    rows_stops feed refused (inl s) = inl (record {
      front = s.front;
      line = s.at;
      rest = s.rest;
      lines = s.split;
      number = s.number;
      wanted = subst (λ (t : Text). Lacks (rows_text line) (AreRows Rule) t) (sym s.spelled) (rows_lack line Rule s.more s.keeps (finish s.more s.keeps));
      broken = broken_by s.more (text_of s.front) s.at.words s.keeps s.spelled s.unread;
    })
    rows_stops feed refused (inr r) = inr (record {
      number = r.number;
      wanted = subst (λ (t : Text). Lacks (rows_text line) (AreRows Rule) t) (sym r.spelled) (rows_lack line Rule r.more r.keeps (finish r.more r.keeps));
    })

-- ---- items that a word alone closes

pub only_word : (word : Word) (words : List Word) → only_is word words ≡ true → word ∷ [] ≡ words
only_word word [] e = absurd cc
only_word word (next ∷ []) e = cons_is word next [] [] (sym ((bytes_eq-Decides next word).0 e)) refl
only_word word (next ∷ second ∷ more) e = absurd cc

word_only : (word : Word) → only_is word (word ∷ []) ≡ true
word_only word = (bytes_eq-Decides word word).1 refl

not_only : (b : Bool) (word : Word) (words : List Word) → only_is word words ≡ b → (words ≡ word ∷ [] → ⊥) → b ≡ false
not_only true word words e other = absurd (other (sym (only_word word words e)))
not_only false word words e other = refl

closed_takes : {I : Type 0} (word : Word) (may_close : List I → Bool) (line : I → List Word) (Allows : List I → I → Type 0) (item_of : List I → List Word → Option I) (front : List I)
    → ExactText line (Allows front) (item_of front) → (words : List Word) (value : I ⊎ Unit {0}) → closed_by word may_close item_of front words ≡ Some value
    → allows_or may_close Allows front value × (item_or word line value ≡ words)
closed_takes {I = I} word may_close line Allows item_of front exact words value e = by_word (only_is word words) refl e
  where
    closing : (b : Bool) → may_close front ≡ b → only_is word words ≡ true → cond b (Some (as_close tt)) None ≡ Some value → allows_or may_close Allows front value × (item_or word line value ≡ words)
    closing true may is h = subst (λ (v : I ⊎ Unit {0}). allows_or may_close Allows front v × (item_or word line v ≡ words)) (some_is (as_close tt) value h) (may, only_word word words is)
    closing false may is h = absurd cc

    an_item : (o : Option I) → item_of front words ≡ o → option_map as_item o ≡ Some value → allows_or may_close Allows front value × (item_or word line value ≡ words)
    an_item None is h = absurd cc
    an_item (Some i) is h = subst (λ (v : I ⊎ Unit {0}). allows_or may_close Allows front v × (item_or word line v ≡ words)) (some_is (as_item i) value h) (exact.takes words i is)

    by_word : (b : Bool) → only_is word words ≡ b → cond b (cond (may_close front) (Some (as_close tt)) None) (option_map as_item (item_of front words)) ≡ Some value → allows_or may_close Allows front value × (item_or word line value ≡ words)
    by_word true is h = closing (may_close front) refl is h
    by_word false is h = an_item (item_of front words) refl h

closed_again : {I : Type 0} (word : Word) (may_close : List I → Bool) (line : I → List Word) (Allows : List I → I → Type 0) (item_of : List I → List Word → Option I) (front : List I)
    → ExactText line (Allows front) (item_of front) → ((i : I) → Allows front i → line i ≡ word ∷ [] → ⊥)
    → (value : I ⊎ Unit {0}) → allows_or may_close Allows front value → closed_by word may_close item_of front (item_or word line value) ≡ Some value
closed_again {I = I} word may_close line Allows item_of front exact apart (inl i) valid =
    let other : only_is word (line i) ≡ false = not_only (only_is word (line i)) word (line i) refl (apart i valid) in
    ap (λ (b : Bool). cond b (cond (may_close front) (Some (as_close tt)) None) (option_map as_item (item_of front (line i)))) other
    ∙ ap (option_map as_item) (exact.again i valid)
closed_again {I = I} word may_close line Allows item_of front exact apart (inr z) valid =
    ap (λ (b : Bool). cond b (cond (may_close front) (Some (as_close tt)) None) (option_map as_item (item_of front (word ∷ [])))) (word_only word)
    ∙ ap (λ (b : Bool). cond b (Some (as_close tt)) None) valid

Exact-closing : {I : Type 0} (word : Word) (may_close : List I → Bool) (line : I → List Word) (Allows : List I → I → Type 0) (item_of : List I → List Word → Option I)
    → ((front : List I) → ExactText line (Allows front) (item_of front)) → ((front : List I) (i : I) → Allows front i → line i ≡ word ∷ [] → ⊥)
    → (front : List I) → ExactText (item_or word line) (allows_or may_close Allows front) (closed_by word may_close item_of front)
Exact-closing word may_close line Allows item_of exact apart front = record {
  takes = λ words value e. closed_takes word may_close line Allows item_of front (exact front) words value e;
  again = λ value valid. closed_again word may_close line Allows item_of front (exact front) (apart front) value valid;
}

pub Exact-closed : {I : Type 0} (word : Word) (may_close : List I → Bool) (line : I → List Word) (Allows : List I → I → Type 0) (item_of : List I → List Word → Option I)
    → ((front : List I) → ExactText line (Allows front) (item_of front)) → ((front : List I) (i : I) → Allows front i → line i ≡ word ∷ [] → ⊥)
    → ((front : List I) → Keeps Allows [] front → Closes may_close Allows front)
    → Exact (closed_text word line) (AreClosed may_close Allows) (closed word may_close item_of)
Exact-closed {I = I} word may_close line Allows item_of exact apart closes =
    Exact-mapped (rows_text (item_or word line)) (AreRows (allows_or may_close Allows)) (rows (closed_by word may_close item_of)) (closed_text word line) (AreClosed may_close Allows) (λ value. value.0) (λ items. (items, tt))
    (Exact-rows (item_or word line) (allows_or may_close Allows) (closed_by word may_close item_of) (Exact-closing word may_close line Allows item_of exact apart)
    (λ front keeps. let c = closes front keeps in record { more = c.more; close = tt; keeps = c.keeps; closes = c.closes }))
    (record { seen = λ a valid. valid; meant = λ b valid. valid; spelled = λ b valid. refl; back_of = λ a valid. refl; see_of = λ b valid. refl })
