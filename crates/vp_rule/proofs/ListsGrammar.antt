-- Lists and pools are read from their spellings, and from no other lines.
use Rattle.std.proofs.Common.{◌≡◌, ℕ, zero, suc, ◌+◌, ◌<◌, ◌≤◌, true, cond, ◌==◌, List, [], ◌∷◌, ◌++◌, length, refl, sym, ap, subst, ◌∙◌, arith, Some, None, Option, inl, inr, length-append}
use Rattle.std.specs.Prelude.{codes, bytes_eq}
use Rattle.std.specs.List.{AllByRecursion}
use Rattle.std.proofs.lemmas.Bool.{lt-ltb, ltb-true, le-leb, leb-true}
use Rattle.std.proofs.lemmas.List.Elements.{All-from_recursion}
use Rattle.std.proofs.lemmas.Slice.Eq.{bytes_eq-Decides}
use Rattle.vp_card.specs.Rising.{IsBelow, IsRising}
use Rattle.vp_sets.specs.Index.{set_index}
use Rattle.vp_text.specs.Lines.{Word}
use Rattle.vp_text.specs.Reading.{both}
use Rattle.vp_text.specs.Pieces.{ended}
use Rattle.vp_text.specs.Sections.{Text, both_text, AreBoth}
use Rattle.vp_text.specs.ExactReaders.{Exact, ExactText, Keeps, Closes, closed_text, AreClosed}
use Rattle.vp_text.specs.Streams.{always, has_room, MayFollow}
use Rattle.vp_text.proofs.Pieces.{at_end, both_true, bound, chosen, no_value, so, took, Exact-key_word}
use Rattle.vp_text.proofs.Sections.{Exact-line}
use Rattle.vp_text.proofs.Joined.{Exact-both, Exact-mapped}
use Rattle.vp_text.proofs.Rows.{Exact-closed}
use Rattle.vp_pay.proofs.Tables.{of_all}
use Rattle.vp_pay.specs.Table.{IsTable}
use Rattle.vp_pay.specs.declared.table.PayTable.{PayTable}
use Rattle.vp_rule.specs.Lists.{Exception, RuleList, RulePool}
use Rattle.vp_rule.specs.Reading.{Front, Item, exceptions_of, front_of, is_above, items_at, list_at, list_from, next_rule_of, nothing_yet, pool_at, pool_from, rules_at, rules_of, some_rules, version_behind, version_line, version_of}
use Rattle.vp_rule.specs.Spelling.{rule_words, version_words, list_text, pool_text}
use Rattle.vp_rule.specs.Valid.{IsVersion, IsTest, IsRule, IsException, IsList, IsPool}
use Rattle.vp_rule.specs.declared.rule.Rule.{Rule}
use Rattle.vp_rule.specs.declared.rule.Test.TheVariants.{Suited}
use Rattle.vp_rule.proofs.Items.{Exact-items, Exact-next_rule, MayCome, excepted, exceptions_back, indexes, item_words, items_are, items_of, items_spelled, one_more, rules_back, ruled}
use Rattle.vp_rule.proofs.Kept.{behind_one}

-- ---- the first line

second : ℕ → List Word
second version = cond (version == 2) (codes "2" ∷ []) []

behind_taken : (words : List Word) (v : ℕ) → version_behind words ≡ Some v → IsVersion v × (second v ≡ words)
unfolding second
behind_taken [] v read = so (λ v. IsVersion v × (cond (v == 2) (codes "2" ∷ []) [] ≡ [])) 1 v read ((omega arith, omega arith), refl)
behind_taken (word ∷ words) v read =
    let P : ℕ → Type 0 = λ v. IsVersion v × (cond (v == 2) (codes "2" ∷ []) [] ≡ word ∷ words) in
    chosen P (bytes_eq word (codes "2")) (ended 2 words) None v read
    (λ is e.
    let end = at_end _ _ _ e in
    subst P end.1 ((omega arith, omega arith), ap (λ (w : Word). w ∷ []) (sym ((bytes_eq-Decides word (codes "2")).0 is)) ∙ ap (λ (ws : List Word). word ∷ ws) (sym end.0)))
    (λ none. absurd (no_value v none))

version_taken : (key : Word) (words : List Word) (v : ℕ) → version_of key words ≡ Some v → IsVersion v × (version_words key v ≡ words)
unfolding version_of second
version_taken key words v read =
    let first = bound _ _ _ read in
    let k = took (Exact-key_word key) words first.value first.first in
    let t = behind_taken first.value.1 v first.then in
    (t.0, ap (λ (ws : List Word). key ∷ ws) t.1 ∙ sym k.front)

behind_again : (v : ℕ) → IsVersion v → version_behind (second v) ≡ Some v
unfolding second
behind_again zero is = absurd (omega (arith, is.0))
behind_again (suc zero) is = refl
behind_again (suc (suc zero)) is = refl
behind_again (suc (suc (suc v))) is = absurd (omega (arith, is.1))

version_again : (key : Word) (v : ℕ) → IsVersion v → version_of key (version_words key v) ≡ Some v
unfolding version_of second
version_again key v is = rw ((Exact-key_word key).again (cond (v == 2) (codes "2" ∷ []) []) tt tt refl) (behind_again v is)

pub Exact-version : (key : Word) → ExactText (version_words key) IsVersion (version_of key)
Exact-version key = record { takes = λ words v read. version_taken key words v read; again = λ v is. version_again key v is }

abbrev first_text : Word → ℕ → Text
first_text key version = version_words key version ∷ []

Exact-first : (key : Word) → Exact (first_text key) IsVersion (version_line key)
Exact-first key = Exact-line (version_words key) IsVersion (version_of key) (Exact-version key) 1 (omega arith, omega arith)

module _ (table : PayTable) (is_table : IsTable table) where
  -- ---- the items of a list

  abbrev IsAboveAll : Option ℕ → List ℕ → Type 0
  IsAboveAll None more = Unit {0}
  IsAboveAll (Some last) more = IsBelow last more

  above_first : (last : Option ℕ) (index : ℕ) (more : List ℕ) → IsAboveAll last (index ∷ more) → is_above last index ≡ true
  above_first None index more is = refl
  above_first (Some last) index more is = lt-ltb last index is.0

  below_more : (low high : ℕ) (more : List ℕ) → low < high → IsBelow high more → IsBelow low more
  below_more low high [] less is = tt
  below_more low high (index ∷ more) less is = (omega (arith, is.0), below_more low high more less is.1)

  above_all : (last : Option ℕ) (index : ℕ) (more : List ℕ) → is_above last index ≡ true → IsBelow index more → IsAboveAll last (index ∷ more)
  above_all None index more above is = tt
  above_all (Some last) index more above is =
      let less : last < index = ltb-true last index above in
      (less, below_more last index more less is)

  last_then : (front : List Item) (e : Exception) → (front_of (front ++ inl e ∷ [])).last ≡ Some (set_index e.0)
  last_then front e = ap (λ (f : Front). f.last) (behind_one nothing_yet front (inl e))

  rules_same : (front : List Item) (e : Exception) → (front_of (front ++ inl e ∷ [])).rules ≡ (front_of front).rules
  rules_same front e = ap (λ (f : Front). f.rules) (behind_one nothing_yet front (inl e))

  -- rules may stand where there is room for them
  rules_keep : (version : ℕ) (front : List Item) (rs : List Rule) → AllByRecursion (IsRule version table) rs → length (front_of front).rules + length rs ≤ 128
      → Keeps (MayCome version table is_table) front (items_of [] rs)
  unfolding MayCome items_of ruled
  rules_keep version front [] all room = tt
  rules_keep version front (r ∷ rs) all room = (
    record { valid = all.0; follows = lt-ltb (length (front_of front).rules) 128 (omega (arith, room)) },
    rules_keep version (front ++ inr r ∷ []) rs all.1 (let e = one_more version table is_table front r in omega (arith, room)),
  )

  -- exceptions may stand in front of them where they rise
  items_keep : (version : ℕ) (front : List Item) (es : List Exception) (rs : List Rule) → AllByRecursion (IsException table.deck) es → AllByRecursion (IsRule version table) rs → length rs ≤ 128
      → (front_of front).rules ≡ [] → IsAboveAll (front_of front).last (indexes es) → IsRising (indexes es) → Keeps (MayCome version table is_table) front (items_of es rs)
  unfolding MayCome items_of excepted
  items_keep version front [] rs are all few none above rising = rules_keep version front rs all (let e = ap (λ (x : List Rule). length x) none in omega (arith, few))
  items_keep version front (e ∷ es) rs are all few none above rising = (
    record { valid = are.0; follows = rw none (above_first (front_of front).last (set_index e.0) (indexes es) above) },
    items_keep version (front ++ inl e ∷ []) es rs are.1 all few (rules_same front e ∙ none) (subst (λ (last : Option ℕ). IsAboveAll last (indexes es)) (sym (last_then front e)) rising.0) rising.1,
  )

  -- items that may stand, one behind the other, make a list
  record Made (version : ℕ) (front more : List Item) : Type 0 where
    exceptions : AllByRecursion (IsException table.deck) (exceptions_of more)
    above : IsAboveAll (front_of front).last (indexes (exceptions_of more))
    rising : IsRising (indexes (exceptions_of more))
    rules : AllByRecursion (IsRule version table) (rules_of more)
    room : length (front_of front).rules + length (rules_of more) ≤ 128

  no_exception_above : (last : Option ℕ) → IsAboveAll last []
  no_exception_above None = tt
  no_exception_above (Some last) = tt

  items_make : (version : ℕ) (front more : List Item) → Keeps (MayCome version table is_table) front more → length (front_of front).rules ≤ 128 → Made version front more
  unfolding MayCome
  items_make version front [] keeps room = record { exceptions = tt; above = no_exception_above (front_of front).last; rising = tt; rules = tt; room = omega (arith, room) }
  items_make version front (inl e ∷ more) keeps room =
      let same : length (front_of (front ++ inl e ∷ [])).rules ≡ length (front_of front).rules = ap (λ (rs : List Rule). length rs) (rules_same front e) in
      let rest = items_make version (front ++ inl e ∷ []) more keeps.1 (omega (arith, room)) in
      let next : IsBelow (set_index e.0) (indexes (exceptions_of more)) = subst (λ (last : Option ℕ). IsAboveAll last (indexes (exceptions_of more))) (last_then front e) rest.above in
      let follows = both_true (length (front_of front).rules == 0) (is_above (front_of front).last (set_index e.0)) keeps.0.follows in
      record {
        exceptions = (keeps.0.valid, rest.exceptions);
        above = above_all (front_of front).last (set_index e.0) (indexes (exceptions_of more)) follows.1 next;
        rising = (next, rest.rising);
        rules = rest.rules;
        room = let r = rest.room in omega arith;
      }
  items_make version front (inr r ∷ more) keeps room =
      let one = one_more version table is_table front r in
      let less : length (front_of front).rules < 128 = ltb-true (length (front_of front).rules) 128 keeps.0.follows in
      let rest = items_make version (front ++ inr r ∷ []) more keeps.1 (omega arith) in
      record {
        exceptions = tt;
        above = no_exception_above (front_of front).last;
        rising = tt;
        rules = (keeps.0.valid, rest.rules);
        room = let r = rest.room in omega arith;
      }

  -- ---- lists

  abbrev lines_text : ℕ → List Item → Text
  lines_text version = closed_text (codes "end") (item_words version table is_table)

  abbrev AreItems : ℕ → List Item → Type 0
  AreItems version = AreClosed always (MayCome version table is_table)

  Exact-parts : Exact (both_text (first_text (codes "list")) lines_text) (AreBoth IsVersion AreItems) (both (version_line (codes "list")) (λ version. items_at version table))
  Exact-parts = Exact-both (first_text (codes "list")) IsVersion (version_line (codes "list")) lines_text AreItems (λ version. items_at version table) (Exact-first (codes "list")) (λ version is. Exact-items version table is_table)

  parts_of : RuleList → ℕ × List Item
  parts_of list = (list.version, items_of list.exceptions list.rules)

  parts_list : (p : ℕ × List Item) → AreBoth IsVersion AreItems p → IsList table (list_from p)
  parts_list p is =
      let made = items_make p.0 [] p.1 is.1.0 (omega arith) in
      record {
        version = is.0;
        exceptions = All-from_recursion (IsException table.deck) (exceptions_of p.1) made.exceptions;
        rising = made.rising;
        rules = All-from_recursion (IsRule p.0 table) (rules_of p.1) made.rules;
        most = let r = made.room in omega arith;
      }

  list_parts : (list : RuleList) → IsList table list → AreBoth IsVersion AreItems (parts_of list)
  unfolding parts_of
  list_parts list is = (
    is.version,
    (
      items_keep list.version [] list.exceptions list.rules (of_all (IsException table.deck) list.exceptions is.exceptions) (of_all (IsRule list.version table) list.rules is.rules) is.most refl tt is.rising,
      refl,
    ),
  )

  list_spelled : (list : RuleList) → list_text table list ≡ both_text (first_text (codes "list")) lines_text (parts_of list)
  unfolding list_text parts_of
  list_spelled list =
      ap (λ (text : Text). version_words (codes "list") list.version ∷ text)
      (ap (λ (text : Text). text ++ (codes "end" ∷ []) ∷ []) (sym (items_spelled list.version table is_table list.exceptions list.rules)))

  list_of : ℕ → List Exception → List Rule → RuleList
  list_of version exceptions rules = record { version = version; exceptions = exceptions; rules = rules }

  see_list : (list : RuleList) → list_from (parts_of list) ≡ list
  unfolding parts_of list_of
  see_list list =
      ap (λ (es : List Exception). list_of list.version es (rules_of (items_of list.exceptions list.rules))) (exceptions_back list.exceptions list.rules)
      ∙ ap (λ (rs : List Rule). list_of list.version list.exceptions rs) (rules_back list.exceptions list.rules)

  see_parts : (p : ℕ × List Item) → AreBoth IsVersion AreItems p → parts_of (list_from p) ≡ p
  unfolding parts_of
  see_parts p is = ap (λ (items : List Item). pair p.0 items) (items_are p.0 table is_table [] p.1 is.1.0)
    where
      pair : ℕ → List Item → ℕ × List Item
      pair version items = (version, items)

  pub Exact-list : Exact (list_text table) (IsList table) (list_at table)
  unfolding list_at
  Exact-list =
      Exact-mapped (both_text (first_text (codes "list")) lines_text) (AreBoth IsVersion AreItems) (both (version_line (codes "list")) (λ version. items_at version table)) (list_text table) (IsList table)
      list_from parts_of Exact-parts (record {
        seen = parts_list;
        meant = list_parts;
        spelled = λ list is. list_spelled list;
        back_of = see_parts;
        see_of = λ list is. see_list list;
      })

  -- ---- pools

  abbrev MayJoin : ℕ → List Rule → Rule → Type 0
  MayJoin version front rule = MayFollow (IsRule version table) (has_room 64) front rule

  abbrev rules_text : List Rule → Text
  rules_text = closed_text (codes "end") (rule_words table)

  abbrev AreRules : ℕ → List Rule → Type 0
  AreRules version = AreClosed some_rules (MayJoin version)

  rule_not_end : (rule : Rule) → rule_words table rule ≡ codes "end" ∷ [] → ⊥
  unfolding rule_words
  rule_not_end rule same = cc

  one_rule : Rule
  one_rule = record { tests = record { items = Suited ∷ [] } }

  is_one_rule : (version : ℕ) → IsRule version table one_rule
  unfolding one_rule
  is_one_rule version = record { tests = All-from_recursion (IsTest version table) (Suited ∷ []) (tt, tt); some = omega arith; most = omega arith }

  closes : (version : ℕ) (front : List Rule) → Closes some_rules (MayJoin version) front
  closes version [] = record { more = one_rule ∷ []; keeps = (record { valid = is_one_rule version; follows = refl }, tt); closes = refl }
  closes version (rule ∷ front) = record { more = []; keeps = tt; closes = le-leb 1 (length ((rule ∷ front) ++ [])) (omega arith) }

  Exact-rules : (version : ℕ) → Exact rules_text (AreRules version) (rules_at version table)
  Exact-rules version =
      Exact-closed (codes "end") some_rules (rule_words table) (MayJoin version) (next_rule_of 64 version table) (λ front. Exact-next_rule version table is_table 64 front)
      (λ front rule is. rule_not_end rule) (λ front keeps. closes version front)

  -- rules may stand where there is room for them
  join_keep : (version : ℕ) (front rs : List Rule) → AllByRecursion (IsRule version table) rs → length front + length rs ≤ 64 → Keeps (MayJoin version) front rs
  join_keep version front [] all room = tt
  join_keep version front (r ∷ rs) all room =
      (record { valid = all.0; follows = lt-ltb (length front) 64 (omega (arith, room)) }, join_keep version (front ++ r ∷ []) rs all.1 (let e = length-append front (r ∷ []) in omega (arith, room)))

  join_make : (version : ℕ) (front rs : List Rule) → Keeps (MayJoin version) front rs → length front ≤ 64 → AllByRecursion (IsRule version table) rs × (length front + length rs ≤ 64)
  join_make version front [] keeps room = (tt, omega (arith, room))
  join_make version front (r ∷ rs) keeps room =
      let one = length-append front (r ∷ []) in
      let less : length front < 64 = ltb-true (length front) 64 keeps.0.follows in
      let rest = join_make version (front ++ r ∷ []) rs keeps.1 (omega arith) in
      ((keeps.0.valid, rest.0), let r = rest.1 in omega arith)

  Exact-pool_parts : Exact (both_text (first_text (codes "pool")) (λ version. rules_text)) (AreBoth IsVersion AreRules) (both (version_line (codes "pool")) (λ version. rules_at version table))
  Exact-pool_parts =
      Exact-both (first_text (codes "pool")) IsVersion (version_line (codes "pool")) (λ version. rules_text) AreRules (λ version. rules_at version table) (Exact-first (codes "pool")) (λ version is. Exact-rules version)

  pool_parts_of : RulePool → ℕ × List Rule
  pool_parts_of pool = (pool.version, pool.rules)

  parts_pool : (p : ℕ × List Rule) → AreBoth IsVersion AreRules p → IsPool table (pool_from p)
  parts_pool p is =
      let made = join_make p.0 [] p.1 is.1.0 (omega arith) in
      record {
        version = is.0;
        rules = All-from_recursion (IsRule p.0 table) p.1 made.0;
        some = leb-true 1 (length p.1) is.1.1;
        most = let r = made.1 in omega arith;
      }

  pool_parts : (pool : RulePool) → IsPool table pool → AreBoth IsVersion AreRules (pool_parts_of pool)
  unfolding pool_parts_of
  pool_parts pool is = (is.version, (join_keep pool.version [] pool.rules (of_all (IsRule pool.version table) pool.rules is.rules) (omega (arith, is.most)), le-leb 1 (length pool.rules) is.some))

  pub Exact-pool : Exact (pool_text table) (IsPool table) (pool_at table)
  unfolding pool_at pool_text pool_parts_of
  Exact-pool =
      Exact-mapped (both_text (first_text (codes "pool")) (λ version. rules_text)) (AreBoth IsVersion AreRules) (both (version_line (codes "pool")) (λ version. rules_at version table)) (pool_text table) (IsPool table)
      pool_from pool_parts_of Exact-pool_parts (record {
        seen = parts_pool;
        meant = pool_parts;
        spelled = λ pool is. refl;
        back_of = λ p is. refl;
        see_of = λ pool is. refl;
      })
