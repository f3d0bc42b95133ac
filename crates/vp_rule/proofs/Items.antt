-- Exceptions and rules of a list, one behind the other: each is read where it may follow, and they may stand exactly where they make a list.
use Rattle.std.proofs.Common.{◌≡◌, ℕ, ◌+◌, ◌<◌, Bool, true, false, cond, List, [], ◌∷◌, ◌++◌, map, length, refl, ap, ◌∙◌, arith, Some, None, Option, inl, inr, length-append, ◌==◌, eqb-true}
use Rattle.std.specs.Prelude.{option_map, codes}
use Rattle.vp_sets.specs.Index.{set_index}
use Rattle.vp_text.specs.Lines.{Word}
use Rattle.vp_text.specs.Reading.{next_is}
use Rattle.vp_text.specs.ExactReaders.{Exact, ExactText, Keeps, closed_text, AreClosed}
use Rattle.vp_text.specs.Streams.{always, has_room, MayFollow}
use Rattle.vp_text.proofs.Pieces.{both_true, no_value, so}
use Rattle.vp_text.proofs.Rows.{Exact-closed}
use Rattle.vp_text.proofs.Streams.{Exact-following}
use Rattle.vp_pay.specs.Table.{IsTable}
use Rattle.vp_pay.specs.declared.table.PayTable.{PayTable}
use Rattle.vp_rule.specs.Lists.{Exception}
use Rattle.vp_rule.specs.Reading.{Front, Item, exception_of, exceptions_of, front_of, is_above, item_behind, items_at, may_stand, next_exception_of, next_rule_of, nothing_yet, rule_of, rules_of}
use Rattle.vp_rule.specs.Spelling.{except_words, rule_words}
use Rattle.vp_rule.specs.Valid.{IsException, IsRule}
use Rattle.vp_rule.specs.declared.rule.Rule.{Rule}
use Rattle.vp_rule.proofs.Kept.{behind_one}
use Rattle.vp_rule.proofs.RulesGrammar.{Exact-exception, Exact-rule}

abbrev pub index_of : Exception → ℕ
index_of exception = set_index exception.0

abbrev pub indexes : List Exception → List ℕ
indexes exceptions = map (λ exception. set_index exception.0) exceptions

unfoldable pub excepted : Exception → Item
excepted exception = inl exception

unfoldable pub ruled : Rule → Item
ruled rule = inr rule

-- exceptions, and then rules
unfoldable pub items_of : List Exception → List Rule → List Item
items_of [] rules = map ruled rules
items_of (exception ∷ exceptions) rules = excepted exception ∷ items_of exceptions rules

pub exceptions_back : (es : List Exception) (rs : List Rule) → exceptions_of (items_of es rs) ≡ es
unfolding excepted ruled items_of
exceptions_back [] [] = refl
exceptions_back [] (r ∷ rs) = refl
exceptions_back (e ∷ es) rs = ap (λ (x : List Exception). e ∷ x) (exceptions_back es rs)

pub rules_back : (es : List Exception) (rs : List Rule) → rules_of (items_of es rs) ≡ rs
unfolding excepted ruled items_of
rules_back [] [] = refl
rules_back [] (r ∷ rs) = ap (λ (x : List Rule). r ∷ x) (rules_back [] rs)
rules_back (e ∷ es) rs = rules_back es rs

module _ (version : ℕ) (table : PayTable) (is_table : IsTable table) where
  unfoldable pub item_words : Item → List Word
  item_words (inl exception) = except_words exception
  item_words (inr rule) = rule_words table rule

  -- the rule of an item behind others
  unfoldable pub MayCome : List Item → Item → Type 0
  MayCome front (inl exception) = MayFollow (IsException table.deck) may_stand (front_of front) exception
  MayCome front (inr rule) = MayFollow (IsRule version table) (has_room 128) (front_of front).rules rule

  -- ---- one item

  Exact-next_exception : (front : Front) → ExactText except_words (MayFollow (IsException table.deck) may_stand front) (next_exception_of table.deck front)
  unfolding next_exception_of
  Exact-next_exception front = Exact-following except_words (IsException table.deck) may_stand (exception_of table.deck) (Exact-exception table.deck is_table.known_deck) front

  pub Exact-next_rule : (most : ℕ) (rules : List Rule) → ExactText (rule_words table) (MayFollow (IsRule version table) (has_room most) rules) (next_rule_of most version table rules)
  unfolding next_rule_of
  Exact-next_rule most rules = Exact-following (rule_words table) (IsRule version table) (has_room most) (rule_of version table) (Exact-rule version table is_table) rules

  item_taken : (front : List Item) (words : List Word) (item : Item) → item_behind version table (front_of front) words ≡ Some item → MayCome front item × (item_words item ≡ words)
  unfolding item_behind excepted ruled MayCome item_words
  item_taken front words item read = by_key (next_is (codes "except") words) read
    where
      P : Item → Type 0
      P item = MayCome front item × (item_words item ≡ words)

      by_exception : (o : Option Exception) → next_exception_of table.deck (front_of front) words ≡ o → option_map excepted o ≡ Some item → P item
      by_exception None is e = absurd (no_value item e)
      by_exception (Some exception) is e = so P (inl exception) item e ((Exact-next_exception (front_of front)).takes words exception is)

      by_rule : (o : Option Rule) → next_rule_of 128 version table (front_of front).rules words ≡ o → option_map ruled o ≡ Some item → P item
      by_rule None is e = absurd (no_value item e)
      by_rule (Some rule) is e = so P (inr rule) item e ((Exact-next_rule 128 (front_of front).rules).takes words rule is)

      by_key : (b : Bool) → cond b (option_map excepted (next_exception_of table.deck (front_of front) words)) (option_map ruled (next_rule_of 128 version table (front_of front).rules words)) ≡ Some item → P item
      by_key true e = by_exception (next_exception_of table.deck (front_of front) words) refl e
      by_key false e = by_rule (next_rule_of 128 version table (front_of front).rules words) refl e

  item_again : (front : List Item) (item : Item) → MayCome front item → item_behind version table (front_of front) (item_words item) ≡ Some item
  unfolding item_behind excepted ruled MayCome item_words except_words rule_words
  item_again front (inl exception) is = ap (option_map excepted) ((Exact-next_exception (front_of front)).again exception is)
  item_again front (inr rule) is = ap (option_map ruled) ((Exact-next_rule 128 (front_of front).rules).again rule is)

  not_end : (item : Item) → item_words item ≡ codes "end" ∷ [] → ⊥
  unfolding item_words except_words rule_words
  not_end (inl exception) same = cc
  not_end (inr rule) same = cc

  pub Exact-items : Exact (closed_text (codes "end") item_words) (AreClosed always MayCome) (items_at version table)
  Exact-items =
      Exact-closed (codes "end") always item_words MayCome (λ items. item_behind version table (front_of items))
      (λ front. record { takes = λ words item read. item_taken front words item read; again = λ item is. item_again front item is })
      (λ front item is. not_end item)
      (λ front keeps. record { more = []; keeps = tt; closes = refl })

  pub items_spelled : (es : List Exception) (rs : List Rule) → map item_words (items_of es rs) ≡ map except_words es ++ map (rule_words table) rs
  unfolding excepted ruled items_of item_words
  items_spelled [] [] = refl
  items_spelled [] (r ∷ rs) = ap (λ (ws : List (List Word)). rule_words table r ∷ ws) (items_spelled [] rs)
  items_spelled (e ∷ es) rs = ap (λ (ws : List (List Word)). except_words e ∷ ws) (items_spelled es rs)

  -- ---- items that may stand are exceptions, and then rules

  pub rules_then : (front : List Item) (rule : Rule) → (front_of (front ++ inr rule ∷ [])).rules ≡ (front_of front).rules ++ rule ∷ []
  rules_then front rule = ap (λ (f : Front). f.rules) (behind_one nothing_yet front (inr rule))

  pub one_more : (front : List Item) (rule : Rule) → length (front_of (front ++ inr rule ∷ [])).rules ≡ length (front_of front).rules + 1
  one_more front rule = ap (λ (rs : List Rule). length rs) (rules_then front rule) ∙ length-append (front_of front).rules (rule ∷ [])

  -- behind a rule there are only rules
  only_rules : (front more : List Item) → Keeps MayCome front more → 0 < length (front_of front).rules → map ruled (rules_of more) ≡ more
  unfolding ruled MayCome
  only_rules front [] keeps some = refl
  only_rules front (inl e ∷ more) keeps some =
      let none : length (front_of front).rules ≡ 0 = eqb-true (length (front_of front).rules) 0 (both_true (length (front_of front).rules == 0) (is_above (front_of front).last (set_index e.0)) keeps.0.follows).0 in
      absurd (omega arith)
  only_rules front (inr r ∷ more) keeps some =
      ap (λ (items : List Item). inr r ∷ items) (only_rules (front ++ inr r ∷ []) more keeps.1 (let e = one_more front r in omega arith))

  pub items_are : (front more : List Item) → Keeps MayCome front more → items_of (exceptions_of more) (rules_of more) ≡ more
  unfolding excepted ruled items_of MayCome
  items_are front [] keeps = refl
  items_are front (inl e ∷ more) keeps = ap (λ (items : List Item). inl e ∷ items) (items_are (front ++ inl e ∷ []) more keeps.1)
  items_are front (inr r ∷ more) keeps = ap (λ (items : List Item). inr r ∷ items) (only_rules (front ++ inr r ∷ []) more keeps.1 (let e = one_more front r in omega arith))
