-- A section and then one that depends on its value: exact where both are. And a value that is seen otherwise.
use Rattle.std.proofs.Common.{◌≡◌, ℕ, List, [], ◌∷◌, ◌++◌, Result, Ok, Err, ◌⊎◌, inl, inr, refl, sym, ap, subst, ◌∙◌, append_assoc}
use Rattle.std.proofs.lemmas.List.{append-nil}
use Rattle.vp_text.specs.Lines.{Past, Word, WordLine, Feed}
use Rattle.vp_text.specs.Sections.{Text, text_of, last_of, Starts, Begins, Lacks, Refuses, both_text, AreBoth}
use Rattle.vp_text.specs.ExactReaders.{Reader, Exact, Seen}
use Rattle.vp_text.specs.Reading.{◌>>=◌, both, mapped}
use Rattle.vp_text.proofs.Spelled.{bind_ok, bind_err, ok_is, ok_err, append_cases, text_of-append, last_of-append, parts}
use Rattle.vp_text.proofs.Sections.{spelling_unique, no_shorter}

-- ---- what stands at the front

pub starts_then : {A B : Type 0} (spell : A → Text) (spell2 : A → B → Text) (before between left : Feed) (a : A) (b : B)
    → Starts spell before a between → Starts (spell2 a) between b left → Starts (both_text spell spell2) before (a, b) left
starts_then spell spell2 before between left a b s t = record {
  front = s.front ++ t.front;
  lines = s.lines ∙ ap (λ (ls : List WordLine). s.front ++ ls) t.lines ∙ sym (append_assoc s.front t.front left.lines);
  spelled = text_of-append s.front t.front ∙ ap (λ (x : Text). x ++ text_of t.front) s.spelled ∙ ap (λ (x : Text). spell a ++ x) t.spelled;
  past = t.past ∙ s.past;
  last = t.last ∙ ap (λ (k : ℕ). last_of t.front k) s.last ∙ sym (last_of-append s.front t.front before.last);
}

-- the lines between the two
pub record Between {A B : Type 0} (spell : A → Text) (spell2 : A → B → Text) (before : Feed) (a : A) (b : B) (left : Feed) : Type 0 where
  pub between : Feed
  pub first : Starts spell before a between
  pub second : Starts (spell2 a) between b left

pub starts_apart : {A B : Type 0} (spell : A → Text) (spell2 : A → B → Text) (before left : Feed) (a : A) (b : B)
    → Starts (both_text spell spell2) before (a, b) left → Between spell spell2 before a b left
starts_apart spell spell2 before left a b s =
    let p = parts s.front (spell a) (spell2 a b) s.spelled in
    record {
      between = record { lines = p.back ++ left.lines; past = before.past; last = last_of p.front before.last };
      first = record {
        front = p.front;
        lines = s.lines ∙ ap (λ (ls : List WordLine). ls ++ left.lines) p.both ∙ append_assoc p.front p.back left.lines;
        spelled = p.first;
        past = refl;
        last = refl;
      };
      second = record {
        front = p.back;
        lines = refl;
        spelled = p.second;
        past = s.past;
        last = s.last ∙ ap (λ (ls : List WordLine). last_of ls before.last) p.both ∙ last_of-append p.front p.back before.last;
      };
    }

-- ---- lines that begin a spelling

lacks_first : {A B : Type 0} (spell : A → Text) (Valid : A → Type 0) (spell2 : A → B → Text) (Valid2 : A → B → Type 0) (text : Text)
    → ((a : A) → Valid a → (b : B) × Valid2 a b) → Lacks spell Valid text → Lacks (both_text spell spell2) (AreBoth Valid Valid2) text
lacks_first spell Valid spell2 Valid2 text goes_on lacks =
    let b = goes_on lacks.value lacks.valid in
    record {
      value = (lacks.value, b.0);
      valid = (lacks.valid, b.1);
      next = lacks.next;
      more = lacks.more ++ spell2 lacks.value b.0;
      spelled = ap (λ (x : Text). x ++ spell2 lacks.value b.0) lacks.spelled ∙ append_assoc text (lacks.next ∷ lacks.more) (spell2 lacks.value b.0);
    }

lacks_second : {A B : Type 0} (spell : A → Text) (Valid : A → Type 0) (spell2 : A → B → Text) (Valid2 : A → B → Type 0) (a : A) (front text : Text)
    → Valid a → front ≡ spell a → Lacks (spell2 a) (Valid2 a) text → Lacks (both_text spell spell2) (AreBoth Valid Valid2) (front ++ text)
lacks_second spell Valid spell2 Valid2 a front text valid is lacks = record {
  value = (a, lacks.value);
  valid = (valid, lacks.valid);
  next = lacks.next;
  more = lacks.more;
  spelled = ap (λ (x : Text). spell a ++ x) lacks.spelled ∙ sym (append_assoc (spell a) text (lacks.next ∷ lacks.more)) ∙ ap (λ (x : Text). (x ++ text) ++ lacks.next ∷ lacks.more) (sym is);
}

-- lines that begin both, and of which the last breaks the first, begin the first all the same
begins_first : {A B : Type 0} {spell : A → Text} {Valid : A → Type 0} {read : Reader A} (spell2 : A → B → Text) (Valid2 : A → B → Type 0) → Exact spell Valid read
    → (text : Text) (line : List Word) → Lacks spell Valid text → Begins (both_text spell spell2) (AreBoth Valid Valid2) (text ++ line ∷ []) → Begins spell Valid (text ++ line ∷ [])
begins_first {A = A} {B = B} {spell = spell} {Valid = Valid} spell2 Valid2 exact text line lacks begins =
    let a : A = begins.value.0 in
    let b : B = begins.value.1 in
    elim (append_cases text (line ∷ begins.more) (spell a) (spell2 a b) (sym (append_assoc text (line ∷ []) begins.more) ∙ sym begins.spelled)) [
      | inl p ↦ in_first p.0 p.1 p.2
      | inr p ↦ absurd (no_shorter exact lacks.value a p.0 (p.1 ++ lacks.next ∷ lacks.more) lacks.valid begins.valid.0
          (lacks.spelled ∙ ap (λ (x : Text). x ++ lacks.next ∷ lacks.more) p.2 ∙ append_assoc (spell a) (p.0 ∷ p.1) (lacks.next ∷ lacks.more)))
    ]
  where
    in_first : (m : Text) → spell begins.value.0 ≡ text ++ m → line ∷ begins.more ≡ m ++ spell2 begins.value.0 begins.value.1 → Begins spell Valid (text ++ line ∷ [])
    in_first [] is rest = absurd (no_shorter exact lacks.value begins.value.0 lacks.next lacks.more lacks.valid begins.valid.0
        (lacks.spelled ∙ ap (λ (x : Text). x ++ lacks.next ∷ lacks.more) (sym (is ∙ append-nil text))))
    in_first (w ∷ m) is rest =
        let same : w ≡ line = cc in
        record {
          value = begins.value.0;
          valid = begins.valid.0;
          more = m;
          spelled = is ∙ ap (λ (x : List Word). text ++ x ∷ m) same ∙ sym (append_assoc text (line ∷ []) m);
        }

-- Where a section is refused so is another, if what is wanted of the first is wanted of the other, and a line that breaks the first breaks the other.
refused_as : {A B : Type 0} (spell : A → Text) (Valid : A → Type 0) (spell2 : B → Text) (Valid2 : B → Type 0) → ((text : Text) → Lacks spell Valid text → Lacks spell2 Valid2 text)
    → ((text : Text) (line : List Word) → Lacks spell Valid text → Begins spell2 Valid2 (text ++ line ∷ []) → Begins spell Valid (text ++ line ∷ []))
    → (feed : Feed) (refused : ℕ) → Refuses spell Valid feed refused → Refuses spell2 Valid2 feed refused
refused_as spell Valid spell2 Valid2 wants breaks feed refused (inl b) = inl (record {
  front = b.front;
  line = b.line;
  rest = b.rest;
  lines = b.lines;
  number = b.number;
  wanted = wants (text_of b.front) b.wanted;
  broken = λ begins. b.broken (breaks (text_of b.front) b.line.words b.wanted begins);
})
refused_as spell Valid spell2 Valid2 wants breaks feed refused (inr n) = inr (record { number = n.number; wanted = wants (text_of feed.lines) n.wanted })

-- ---- both

pub Exact-both : {A B : Type 0} (spell : A → Text) (Valid : A → Type 0) (first : Reader A) (spell2 : A → B → Text) (Valid2 : A → B → Type 0) (second : A → Reader B)
    → Exact spell Valid first → ((a : A) → Valid a → Exact (spell2 a) (Valid2 a) (second a))
    → Exact (both_text spell spell2) (AreBoth Valid Valid2) (both first second)
Exact-both {A = A} {B = B} spell Valid first spell2 Valid2 second exact1 exact2 = record {
  some = (exact1.some, (exact2 exact1.some exact1.some_valid).some);
  some_valid = (exact1.some_valid, (exact2 exact1.some exact1.some_valid).some_valid);
  takes = both_takes;
  again = both_again;
  stops = both_stops;
}
  where
    goes_on : (a : A) → Valid a → (b : B) × Valid2 a b
    goes_on a valid = ((exact2 a valid).some, (exact2 a valid).some_valid)

    paired : (a : A) → B × Feed → Result ((A × B) × Feed) ℕ
    paired a b = Ok ((a, b.0), b.1)

    both_takes : (before left : Feed) (value : A × B) → both first second before ≡ Ok (value, left) → AreBoth Valid Valid2 value × Starts (both_text spell spell2) before value left
    both_takes before left value e =
        let a = bind_ok (first before) (λ (a : A × Feed). second a.0 a.1 >>= paired a.0) (value, left) e in
        let b = bind_ok (second a.0.0 a.0.1) (paired a.0.0) (value, left) a.2 in
        let t1 = exact1.takes before a.0.1 a.0.0 a.1 in
        let t2 = (exact2 a.0.0 t1.0).takes a.0.1 b.0.1 b.0.0 b.1 in
        subst (λ (p : (A × B) × Feed). AreBoth Valid Valid2 p.0 × Starts (both_text spell spell2) before p.0 p.1) (ok_is ((a.0.0, b.0.0), b.0.1) (value, left) b.2)
        ((t1.0, t2.0), starts_then spell spell2 before a.0.1 b.0.1 a.0.0 b.0.0 t1.1 t2.1)

    both_again : (before left : Feed) (value : A × B) → AreBoth Valid Valid2 value → Starts (both_text spell spell2) before value left → both first second before ≡ Ok (value, left)
    both_again before left value valid s =
        let p = starts_apart spell spell2 before left value.0 value.1 s in
        let one = exact1.again before p.between value.0 valid.0 p.first in
        let two = (exact2 value.0 valid.0).again p.between left value.1 valid.1 p.second in
        ap (λ (r : Result (A × Feed) ℕ). r >>= λ a. second a.0 a.1 >>= paired a.0) one ∙ ap (λ (r : Result (B × Feed) ℕ). r >>= paired value.0) two

    stops_first : (feed : Feed) (refused : ℕ) → Refuses spell Valid feed refused → Refuses (both_text spell spell2) (AreBoth Valid Valid2) feed refused
    stops_first =
        refused_as spell Valid (both_text spell spell2) (AreBoth Valid Valid2) (λ text wanted. lacks_first spell Valid spell2 Valid2 text goes_on wanted)
        (λ text line wanted begins. begins_first spell2 Valid2 exact1 text line wanted begins)

    begins_second : (a : A) (front text : Text) → Valid a → front ≡ spell a → Begins (both_text spell spell2) (AreBoth Valid Valid2) (front ++ text) → Begins (spell2 a) (Valid2 a) text
    begins_second a front text valid is begins =
        let b = begins.value in
        let same = spelling_unique exact1 a b.0 (text ++ begins.more) (spell2 b.0 b.1) valid begins.valid.0
        (ap (λ (x : Text). x ++ (text ++ begins.more)) (sym is) ∙ sym (append_assoc front text begins.more) ∙ sym begins.spelled) in
        subst (λ (c : A). Begins (spell2 c) (Valid2 c) text) (sym same.value)
        (record { value = b.1; valid = begins.valid.1; more = begins.more; spelled = sym same.rest })

    stops_second : (feed between : Feed) (a : A) (refused : ℕ) → Valid a → Starts spell feed a between → Refuses (spell2 a) (Valid2 a) between refused → Refuses (both_text spell spell2) (AreBoth Valid Valid2) feed refused
    stops_second feed between a refused valid s (inl b) =
        let text : text_of (s.front ++ b.front) ≡ text_of s.front ++ text_of b.front = text_of-append s.front b.front in
        inl (record {
          front = s.front ++ b.front;
          line = b.line;
          rest = b.rest;
          lines = s.lines ∙ ap (λ (ls : List WordLine). s.front ++ ls) b.lines ∙ sym (append_assoc s.front b.front (b.line ∷ b.rest));
          number = b.number;
          wanted = subst (λ (t : Text). Lacks (both_text spell spell2) (AreBoth Valid Valid2) t) (sym text) (lacks_second spell Valid spell2 Valid2 a (text_of s.front) (text_of b.front) valid s.spelled b.wanted);
          broken = λ begins. b.broken (begins_second a (text_of s.front) (text_of b.front ++ b.line.words ∷ []) valid s.spelled
              (subst (λ (t : Text). Begins (both_text spell spell2) (AreBoth Valid Valid2) t)
              (ap (λ (t : Text). t ++ b.line.words ∷ []) text ∙ append_assoc (text_of s.front) (text_of b.front) (b.line.words ∷ [])) begins));
        })
    stops_second feed between a refused valid s (inr n) =
        let text : text_of feed.lines ≡ text_of s.front ++ text_of between.lines = ap text_of s.lines ∙ text_of-append s.front between.lines in
        inr (record {
          number = n.number ∙ ap (λ (p : Past). p.line) s.past;
          wanted = subst (λ (t : Text). Lacks (both_text spell spell2) (AreBoth Valid Valid2) t) (sym text) (lacks_second spell Valid spell2 Valid2 a (text_of s.front) (text_of between.lines) valid s.spelled n.wanted);
        })

    stopped : (feed : Feed) (refused : ℕ) → ((first feed ≡ Err refused) ⊎ ((a : A × Feed) × (first feed ≡ Ok a) × ((second a.0 a.1 >>= paired a.0) ≡ Err refused)))
        → Refuses (both_text spell spell2) (AreBoth Valid Valid2) feed refused
    stopped feed refused (inl e) = stops_first feed refused (exact1.stops feed refused e)
    stopped feed refused (inr p) =
        let t = exact1.takes feed p.0.1 p.0.0 p.1 in
        elim (bind_err (second p.0.0 p.0.1) (paired p.0.0) refused p.2) [
          | inl e ↦ stops_second feed p.0.1 p.0.0 refused t.0 t.1 ((exact2 p.0.0 t.0).stops p.0.1 refused e)
          | inr q ↦ absurd (ok_err (paired p.0.0 q.0) ((p.0.0, q.0.0), q.0.1) refused refl q.2)
        ]

    both_stops : (feed : Feed) (refused : ℕ) → both first second feed ≡ Err refused → Refuses (both_text spell spell2) (AreBoth Valid Valid2) feed refused
    both_stops feed refused e = stopped feed refused (bind_err (first feed) (λ (a : A × Feed). second a.0 a.1 >>= paired a.0) refused e)

-- ---- a value that is seen otherwise

begins_seen : {A B : Type 0} (spell : A → Text) (Valid : A → Type 0) (spell2 : B → Text) (Valid2 : B → Type 0) (see : A → B) (back : B → A) → Seen spell Valid spell2 Valid2 see back
    → (text : Text) → Begins spell2 Valid2 text → Begins spell Valid text
begins_seen spell Valid spell2 Valid2 see back seen text b =
    record { value = back b.value; valid = seen.meant b.value b.valid; more = b.more; spelled = sym (seen.spelled b.value b.valid) ∙ b.spelled }

-- a view has the spelling of what is seen
spelled_seen : {A B : Type 0} (spell : A → Text) (Valid : A → Type 0) (spell2 : B → Text) (Valid2 : B → Type 0) (see : A → B) (back : B → A) → Seen spell Valid spell2 Valid2 see back
    → (a : A) → Valid a → spell2 (see a) ≡ spell a
spelled_seen spell Valid spell2 Valid2 see back seen a valid = seen.spelled (see a) (seen.seen a valid) ∙ ap spell (seen.back_of a valid)

lacks_seen : {A B : Type 0} (spell : A → Text) (Valid : A → Type 0) (spell2 : B → Text) (Valid2 : B → Type 0) (see : A → B) (back : B → A) → Seen spell Valid spell2 Valid2 see back
    → (text : Text) → Lacks spell Valid text → Lacks spell2 Valid2 text
lacks_seen spell Valid spell2 Valid2 see back seen text l =
    record { value = see l.value; valid = seen.seen l.value l.valid; next = l.next; more = l.more; spelled = spelled_seen spell Valid spell2 Valid2 see back seen l.value l.valid ∙ l.spelled }

pub Exact-mapped : {A B : Type 0} (spell : A → Text) (Valid : A → Type 0) (read : Reader A) (spell2 : B → Text) (Valid2 : B → Type 0) (see : A → B) (back : B → A)
    → Exact spell Valid read → Seen spell Valid spell2 Valid2 see back → Exact spell2 Valid2 (mapped see read)
Exact-mapped {A = A} {B = B} spell Valid read spell2 Valid2 see back exact seen = record {
  some = see exact.some;
  some_valid = seen.seen exact.some exact.some_valid;
  takes = mapped_takes;
  again = mapped_again;
  stops = λ feed refused e. mapped_stops feed refused (bind_err (read feed) put refused e);
}
  where
    as_ok : B → Feed → Result (B × Feed) ℕ
    as_ok b left = Ok (b, left)

    put : A × Feed → Result (B × Feed) ℕ
    put a = Ok (see a.0, a.1)

    mapped_takes : (before left : Feed) (value : B) → mapped see read before ≡ Ok (value, left) → Valid2 value × Starts spell2 before value left
    mapped_takes before left value e =
        let a = bind_ok (read before) put (value, left) e in
        let t = exact.takes before a.0.1 a.0.0 a.1 in
        subst (λ (p : B × Feed). Valid2 p.0 × Starts spell2 before p.0 p.1) (ok_is (see a.0.0, a.0.1) (value, left) a.2) (
          seen.seen a.0.0 t.0,
          record { front = t.1.front; lines = t.1.lines; spelled = t.1.spelled ∙ sym (spelled_seen spell Valid spell2 Valid2 see back seen a.0.0 t.0); past = t.1.past; last = t.1.last },
        )

    mapped_again : (before left : Feed) (value : B) → Valid2 value → Starts spell2 before value left → mapped see read before ≡ Ok (value, left)
    mapped_again before left value valid s =
        let one = exact.again before left (back value) (seen.meant value valid)
        (record { front = s.front; lines = s.lines; spelled = s.spelled ∙ seen.spelled value valid; past = s.past; last = s.last }) in
        ap (λ (r : Result (A × Feed) ℕ). r >>= put) one ∙ ap (λ (b : B). as_ok b left) (seen.see_of value valid)

    refuses_seen : (feed : Feed) (refused : ℕ) → Refuses spell Valid feed refused → Refuses spell2 Valid2 feed refused
    refuses_seen =
        refused_as spell Valid spell2 Valid2 (λ text wanted. lacks_seen spell Valid spell2 Valid2 see back seen text wanted)
        (λ text line wanted begins. begins_seen spell Valid spell2 Valid2 see back seen (text ++ line ∷ []) begins)

    mapped_stops : (feed : Feed) (refused : ℕ) → ((read feed ≡ Err refused) ⊎ ((a : A × Feed) × (read feed ≡ Ok a) × (put a ≡ Err refused))) → Refuses spell2 Valid2 feed refused
    mapped_stops feed refused (inl e) = refuses_seen feed refused (exact.stops feed refused e)
    mapped_stops feed refused (inr p) = absurd (ok_err (put p.0) (see p.0.0, p.0.1) refused refl p.2)
