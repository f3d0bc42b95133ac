-- A list of which no exception is kept is the list that is read.
use Rattle.std.proofs.Common.{◌≡◌, ℕ, Bool, true, false, cond, List, [], ◌∷◌, ◌++◌, refl, sym, ap, subst, ◌∙◌, Some, None, Option, Result, Ok, Err, inl, inr, ◌⊎◌, append_assoc}
use Rattle.std.specs.Prelude.{option_map, codes}
use Rattle.std.proofs.lemmas.List.{append-nil}
use Rattle.std.proofs.lemmas.Slice.Eq.{bytes_eq-Decides}
use Rattle.vp_text.specs.Lines.{Word, Feed}
use Rattle.vp_text.specs.Reading.{◌>>=◌, Gives, next_is, only_is, rows_at}
use Rattle.vp_text.specs.Streams.{StandsFor, ReadAgain, always, front_items, kind_in_front, passing, row_step, stated}
use Rattle.vp_text.specs.declared.refused.Refused.{Refused}
use Rattle.vp_text.proofs.Pieces.{chosen, no_value, so}
use Rattle.vp_text.proofs.Streams.{folded_is, kinds_again}
use Rattle.vp_pay.specs.declared.table.PayTable.{PayTable}
use Rattle.vp_rule.specs.Kept.{kept_at, kept_list_at, kept_rules, step_behind, stepped}
use Rattle.vp_rule.specs.Lists.{Exception, RuleList}
use Rattle.vp_rule.specs.Reading.{Front, Item, exception_of, exceptions_of, front_behind, front_of, front_with, item_behind, items_at, list_at, list_from, may_stand, next_exception_of, next_rule_of, nothing_yet, rules_of, version_line}
use Rattle.vp_rule.specs.declared.rule.Rule.{Rule}
use Rattle.vp_rule.proofs.Rows.{list_row}

-- ---- what is kept behind one more item

pub behind_one : (front : Front) (items : List Item) (item : Item) → front_behind front (items ++ item ∷ []) ≡ front_with (front_behind front items) item
behind_one front [] item = refl
behind_one front (other ∷ items) item = behind_one (front_with front other) items item

stands_for : (version : ℕ) (table : PayTable) → StandsFor (list_row version table) (step_behind version table) front_of
unfolding step_behind
stands_for version table = record { step = λ items words. at items (only_is (codes "end") words) (item_behind version table (front_of items) words) }
  where
    as_step : Front → Option (Front ⊎ Unit {0})
    as_step front = Some (inl front)

    at_item : (items : List Item) (o : Option Item) → stepped (front_of items) o ≡ row_step front_of items (option_map inl o)
    at_item items None = refl
    at_item items (Some item) = ap as_step (sym (behind_one nothing_yet items item))

    at : (items : List Item) (b : Bool) (o : Option Item)
        → cond b (Some (inr tt)) (stepped (front_of items) o) ≡ row_step front_of items (cond b (cond (always items) (Some (inr tt)) None) (option_map inl o))
    at items true o = refl
    at items false o = at_item items o

-- ---- exceptions are read again

as_exception : Item → Option Exception
as_exception (inl exception) = Some exception
as_exception (inr rule) = None

no_exception : (n : ℕ) (words : List Word) → next_is (codes "except") words ≡ false → exception_of n words ≡ None
unfolding exception_of
no_exception n [] is = refl
no_exception n (word ∷ words) is = rw is

end_is_other : (words : List Word) → only_is (codes "end") words ≡ true → next_is (codes "except") words ≡ false
end_is_other [] is = absurd cc
end_is_other (word ∷ []) is = let same : word ≡ codes "end" = (bytes_eq-Decides word (codes "end")).0 is in rw same
end_is_other (word ∷ next ∷ words) is = absurd cc

exception_taken : (n : ℕ) (front : Front) (words : List Word) (exception : Exception) → next_exception_of n front words ≡ Some exception → exception_of n words ≡ Some exception
unfolding next_exception_of
exception_taken n front words exception read = by_item (exception_of n words) refl read
  where
    by_item : (o : Option Exception) → exception_of n words ≡ o → passing (may_stand front) o ≡ Some exception → exception_of n words ≡ Some exception
    by_item None is e = absurd (no_value exception e)
    by_item (Some first) is e =
        chosen (λ x. exception_of n words ≡ Some x) (may_stand front first) (Some first) None exception e (λ may made. so (λ x. exception_of n words ≡ Some x) first exception made is) (λ none. absurd (no_value exception none))

as_row : Item → Item ⊎ Unit {0}
as_row item = inl item

excepted : Exception → Item
excepted exception = inl exception

ruled : Rule → Item
ruled rule = inr rule

item_again : (version : ℕ) (table : PayTable) (front : Front) (words : List Word) (item : Item) → item_behind version table front words ≡ Some item → exception_of table.deck words ≡ as_exception item
unfolding item_behind as_exception excepted ruled
item_again version table front words item read = by_key (next_is (codes "except") words) refl read
  where
    P : Item → Type 0
    P item = exception_of table.deck words ≡ as_exception item

    by_exception : (o : Option Exception) → next_exception_of table.deck front words ≡ o → option_map excepted o ≡ Some item → P item
    by_exception None is e = absurd (no_value item e)
    by_exception (Some exception) is e = so P (inl exception) item e (exception_taken table.deck front words exception is)

    by_rule : (o : Option Rule) → next_is (codes "except") words ≡ false → option_map ruled o ≡ Some item → P item
    by_rule None other e = absurd (no_value item e)
    by_rule (Some rule) other e = so P (inr rule) item e (no_exception table.deck words other)

    by_key : (b : Bool) → next_is (codes "except") words ≡ b → cond b (option_map excepted (next_exception_of table.deck front words)) (option_map ruled (next_rule_of 128 version table front.rules words)) ≡ Some item → P item
    by_key true this e = by_exception (next_exception_of table.deck front words) refl e
    by_key false other e = by_rule (next_rule_of 128 version table front.rules words) other e

row_again : (version : ℕ) (table : PayTable) → ReadAgain (list_row version table) as_exception (exception_of table.deck)
unfolding as_row
row_again version table = record { item = λ items words i read. item items words i (only_is (codes "end") words) read; close = λ items words z read. close items words z (only_is (codes "end") words) refl read }
  where
    end_row : Option (Item ⊎ Unit {0})
    end_row = Some (inr tt)

    mapped_item : (items : List Item) (words : List Word) (i : Item) (o : Option Item) → item_behind version table (front_of items) words ≡ o → option_map as_row o ≡ Some (inl i) → exception_of table.deck words ≡ as_exception i
    mapped_item items words i None is e = absurd cc
    mapped_item items words i (Some j) is e =
        let same : j ≡ i = cc in
        item_again version table (front_of items) words i (is ∙ ap (λ (x : Item). found x) same)
      where
        found : Item → Option Item
        found x = Some x

    item : (items : List Item) (words : List Word) (i : Item) (b : Bool) → cond b end_row (option_map as_row (item_behind version table (front_of items) words)) ≡ Some (inl i) → exception_of table.deck words ≡ as_exception i
    item items words i true e = absurd cc
    item items words i false e = mapped_item items words i (item_behind version table (front_of items) words) refl e

    mapped_close : (o : Option Item) (z : Unit {0}) → option_map as_row o ≡ Some (inr z) → ⊥
    mapped_close None z e = cc
    mapped_close (Some j) z e = cc

    close : (items : List Item) (words : List Word) (z : Unit {0}) (b : Bool) → only_is (codes "end") words ≡ b → cond b end_row (option_map as_row (item_behind version table (front_of items) words)) ≡ Some (inr z) → exception_of table.deck words ≡ None
    close items words z true is e = no_exception table.deck words (end_is_other words is)
    close items words z false is e = absurd (mapped_close (item_behind version table (front_of items) words) z e)

-- ---- the rules that are kept are the rules

rules_are : (front : Front) (items : List Item) → (front_behind front items).rules ≡ front.rules ++ rules_of items
rules_are front [] = sym (append-nil front.rules)
rules_are front (inl exception ∷ items) = rules_are (front_with front (inl exception)) items
rules_are front (inr rule ∷ items) = rules_are (front_with front (inr rule)) items ∙ append_assoc front.rules (rule ∷ []) (rules_of items)

-- ---- the readers

abbrev kept_only : (Front × Unit {0}) × Feed → Result (List Rule × Feed) ℕ
kept_only s = Ok (s.0.0.rules, s.1)

abbrev with_exceptions : ℕ → PayTable → Feed → List Rule × Feed → Result (RuleList × Feed) ℕ
with_exceptions version table feed r = Ok (record { version = version; exceptions = front_items (exception_of table.deck) feed.lines; rules = r.0 }, r.1)

abbrev items_only : (List Item × Unit {0}) × Feed → Result (List Item × Feed) ℕ
items_only a = Ok (a.0.0, a.1)

abbrev items_list : ℕ → List Item × Feed → Result (RuleList × Feed) ℕ
items_list version items = Ok (list_from (version, items.0), items.1)

abbrev kept_from : ℕ → PayTable → Feed → Result ((Front × Unit {0}) × Feed) ℕ → Result (RuleList × Feed) ℕ
kept_from version table feed r = (r >>= kept_only) >>= with_exceptions version table feed

abbrev list_made : ℕ → Result ((List Item × Unit {0}) × Feed) ℕ → Result (RuleList × Feed) ℕ
list_made version r = (r >>= items_only) >>= items_list version

front_are : (items : List Item) → kind_in_front as_exception items ≡ exceptions_of items
unfolding as_exception
front_are [] = refl
front_are (inl exception ∷ items) = ap (λ (es : List Exception). exception ∷ es) (front_are items)
front_are (inr rule ∷ items) = refl

abbrev as_list : RuleList → Feed → Result (RuleList × Feed) ℕ
as_list list left = Ok (list, left)

kept_is : (version : ℕ) (table : PayTable) (feed : Feed) → kept_at version table feed ≡ list_made version (rows_at (list_row version table) feed.lines feed.past [])
unfolding kept_rules
kept_is version table feed =
    ap (kept_from version table feed) (folded_is (list_row version table) (step_behind version table) front_of (stands_for version table) feed.lines feed.past [])
    ∙ by_rows (rows_at (list_row version table) feed.lines feed.past []) refl
  where
    by_rows : (r : Result ((List Item × Unit {0}) × Feed) ℕ) → rows_at (list_row version table) feed.lines feed.past [] ≡ r → kept_from version table feed (stated front_of r) ≡ list_made version r
    by_rows (Err n) is = refl
    by_rows (Ok r) is =
        let again = kinds_again (list_row version table) as_exception (exception_of table.deck) (row_again version table) feed.lines feed.past r.0.0 r.0.1 r.1 is in
        let exceptions : front_items (exception_of table.deck) feed.lines ≡ exceptions_of r.0.0 = again ∙ front_are r.0.0 in
        let rules : (front_of r.0.0).rules ≡ rules_of r.0.0 = rules_are nothing_yet r.0.0 in
        ap (λ (es : List Exception). as_list (record { version = version; exceptions = es; rules = (front_of r.0.0).rules }) r.1) exceptions
        ∙ ap (λ (rs : List Rule). as_list (record { version = version; exceptions = exceptions_of r.0.0; rules = rs }) r.1) rules

abbrev pair_list : ℕ → RuleList × Feed → Result ((ℕ × RuleList) × Feed) ℕ
pair_list version b = Ok ((version, b.0), b.1)

abbrev second_list : (ℕ × RuleList) × Feed → Result (RuleList × Feed) ℕ
second_list p = Ok (p.0.1, p.1)

abbrev pair_items : ℕ → List Item × Feed → Result ((ℕ × List Item) × Feed) ℕ
pair_items version b = Ok ((version, b.0), b.1)

abbrev from_items : (ℕ × List Item) × Feed → Result (RuleList × Feed) ℕ
from_items p = Ok (list_from p.0, p.1)

abbrev then_kept : PayTable → ℕ × Feed → Result ((ℕ × RuleList) × Feed) ℕ
then_kept table a = kept_at a.0 table a.1 >>= pair_list a.0

abbrev then_items : PayTable → ℕ × Feed → Result ((ℕ × List Item) × Feed) ℕ
then_items table a = items_at a.0 table a.1 >>= pair_items a.0

pub kept_list_is : (table : PayTable) (feed : Feed) → kept_list_at table feed ≡ list_at table feed
unfolding kept_list_at list_at
kept_list_is table feed = by_head (version_line (codes "list") feed)
  where
    inner : (version : ℕ) (left : Feed) (r : Result ((List Item × Unit {0}) × Feed) ℕ) → kept_at version table left ≡ list_made version r
        → ((kept_at version table left >>= pair_list version) >>= second_list) ≡ (((r >>= items_only) >>= pair_items version) >>= from_items)
    inner version left (Err n) is = rw is
    inner version left (Ok r) is = rw is

    by_head : (h : Result (ℕ × Feed) ℕ) → ((h >>= then_kept table) >>= second_list) ≡ ((h >>= then_items table) >>= from_items)
    by_head (Err n) = refl
    by_head (Ok a) = inner a.0 a.1 (rows_at (list_row a.0 table) a.1.lines a.1.past []) (kept_is a.0 table a.1)

-- what was read and not kept is what is read
pub as_read : (table : PayTable) (before : Feed) (result : Result RuleList Refused) (left : Feed) → Gives (λ (l : RuleList). l) result left (kept_list_at table before) → Gives (λ (l : RuleList). l) result left (list_at table before)
as_read table before result left gives = subst (λ (r : Result (RuleList × Feed) ℕ). Gives (λ (l : RuleList). l) result left r) (kept_list_is table before) gives
