-- How long the text of a pay table may be.
use Rattle.std.proofs.Common.{◌≡◌, ℕ, zero, suc, true, ◌+◌, ◌*◌, ◌^◌, ◌<◌, ◌≤◌, Option, Some, None, List, [], ◌∷◌, ◌++◌, map, take, length, arith}
use Rattle.std.specs.Prelude.{codes, ◌%◌, ◌/◌, ◌==◌, cond, nat_le, ◌&&◌, false}
use Rattle.std.specs.Fmt.{decimal}
use Rattle.std.specs.List.{AllByRecursion, list_all}
use Rattle.std.proofs.lemmas.Bool.{eqb-true, leb-true}
use Rattle.std.proofs.lemmas.List.{length-map}
use Rattle.std.proofs.lemmas.List.Elements.{recursion_from_All}
use Rattle.vp_card.specs.Cards.{held, is_rank_set}
use Rattle.vp_card.specs.Texts.{any_text, rank_letters, rank_set_text}
use Rattle.vp_card.proofs.RankSets.{letters_are}
use Rattle.vp_text.specs.Lines.{Word}
use Rattle.vp_text.specs.Sections.{Text}
use Rattle.vp_text.specs.Written.{written}
use Rattle.vp_text.proofs.Pieces.{both_true}
use Rattle.vp_text.proofs.Room.{digits_of_64, one_word, room, room-append, room-cons, room-nil, room_lines, two_words, written-append}
use Rattle.vp_pay.specs.Names.{is_letter, is_name, is_name_byte}
use Rattle.vp_pay.specs.Spelling.{head_text, kicker_words, pattern_words, pay_line_words, qualifier_word, table_text, wild_word}
use Rattle.vp_pay.specs.Table.{IsPayLine, IsTable, is_pattern}
use Rattle.vp_pay.specs.declared.pattern.Pattern.{Pattern}
use Rattle.vp_pay.specs.declared.pattern.Pattern.TheVariants.{Royal, StraightFlush, FiveKind, Wilds, Quads, FullHouse, Flush, Straight, Trips, TwoPair, Pair}
use Rattle.vp_pay.specs.declared.pattern.Qualifier.{Qualifier}
use Rattle.vp_pay.specs.declared.pattern.Qualifier.TheVariants.{Either, Natural, Wild}
use Rattle.vp_pay.specs.declared.table.PayLine.{PayLine}
use Rattle.vp_pay.specs.declared.table.PayTable.{PayTable}

pub room_name : (name : List ℕ) → is_name name ≡ true → length name ≤ 24
room_name [] is = omega arith
room_name (byte ∷ bytes) is =
    let parts = both_true (is_letter byte && list_all is_name_byte bytes) (nat_le (length bytes) 23) is in
    omega (arith, leb-true (length bytes) 23 parts.1)

held_few : (mask : ℕ) (cards : List ℕ) → length (held mask cards) ≤ length cards
held_few mask [] = omega arith
held_few mask (card ∷ cards) =
    elim (mask % 2 == 1) as (λ b. length (cond b (card ∷ held (mask / 2) cards) (held (mask / 2) cards)) ≤ suc (length cards)) [
      | true ↦ omega (arith, held_few (mask / 2) cards)
      | false ↦ omega (arith, held_few (mask / 2) cards)
    ]

pub room_ranks : (set : ℕ) → length (rank_set_text set) ≤ 13
unfolding rank_set_text any_text
room_ranks set =
    elim (set == 8191) as (λ b. length (cond b (codes "any") (held set rank_letters)) ≤ 13) [
      | true ↦ omega arith
      | false ↦ omega (arith, held_few set rank_letters, letters_are)
    ]

room_kicker : (kicker : Option ℕ) → room (kicker_words kicker) ≤ 21
room_kicker None = omega (arith, room-nil)
room_kicker (Some set) = omega (arith, room-cons (codes "kicker") (rank_set_text set ∷ []), room-cons (rank_set_text set) [], room-nil, room_ranks set)

with_ranks : (word : Word) (set : ℕ) (more : List Word) → room (word ∷ rank_set_text set ∷ more) ≤ length word + 15 + room more
with_ranks word set more = omega (arith, room-cons word (rank_set_text set ∷ more), room-cons (rank_set_text set) more, room_ranks set)

room_wilds : (count : ℕ) (kicker : Option ℕ) → is_pattern (Wilds count kicker) ≡ true → count < 2 ^ 64
room_wilds count None is = omega (arith, leb-true count 5 (both_true (nat_le 1 count) (nat_le count 5) is).1)
room_wilds count (Some set) is = omega (arith, eqb-true count 4 (both_true (count == 4) (is_rank_set set) is).0)

room_pattern : (pattern : Pattern) → is_pattern pattern ≡ true → room (pattern_words pattern) ≤ 60
room_pattern Royal is = omega (arith, one_word (codes "royal"))
room_pattern StraightFlush is = omega (arith, one_word (codes "straight-flush"))
room_pattern (FiveKind set) is = omega (arith, with_ranks (codes "five-kind") set [], room-nil)
room_pattern (Wilds count kicker) is =
    omega (arith, room-cons (codes "wilds") (decimal count ∷ kicker_words kicker), room-cons (decimal count) (kicker_words kicker), digits_of_64 count (room_wilds count kicker is), room_kicker kicker)
room_pattern (Quads set kicker) is = omega (arith, with_ranks (codes "quads") set (kicker_words kicker), room_kicker kicker)
room_pattern FullHouse is = omega (arith, one_word (codes "full-house"))
room_pattern Flush is = omega (arith, one_word (codes "flush"))
room_pattern Straight is = omega (arith, one_word (codes "straight"))
room_pattern Trips is = omega (arith, one_word (codes "trips"))
room_pattern TwoPair is = omega (arith, one_word (codes "two-pair"))
room_pattern (Pair set) is = omega (arith, with_ranks (codes "pair") set [], room-nil)

room_qualifier : (qualifier : Qualifier) → length (qualifier_word qualifier) ≤ 7
room_qualifier Either = omega arith
room_qualifier Natural = omega arith
room_qualifier Wild = omega arith

room_pays : (coins : ℕ) (pays : List ℕ) → list_all (λ pay. nat_le pay 500000) pays ≡ true → room (map decimal (take coins pays)) ≤ 21 * length pays
room_pays zero pays within = omega (arith, room-nil)
room_pays (suc coins) [] within = omega (arith, room-nil)
room_pays (suc coins) (pay ∷ pays) within =
    let parts = both_true (nat_le pay 500000) (list_all (λ pay. nat_le pay 500000) pays) within in
    let small = leb-true pay 500000 parts.0 in
    omega (arith, room-cons (decimal pay) (map decimal (take coins pays)), digits_of_64 pay (omega (arith, small)), room_pays coins pays parts.1)

room_pay_line : (coins : ℕ) (line : PayLine) → IsPayLine coins line → room (pay_line_words coins line) < 300
unfolding pay_line_words
room_pay_line coins line is =
    let pays = map decimal (take coins line.pays) in
    let behind = qualifier_word line.qualifier ∷ pays in
    omega (
      arith,
      room-cons (codes "line") (line.name ∷ pattern_words line.pattern ++ behind),
      room-cons line.name (pattern_words line.pattern ++ behind),
      room-append (pattern_words line.pattern) behind,
      room-cons (qualifier_word line.qualifier) pays,
      room_name line.name is.name,
      room_pattern line.pattern is.pattern,
      room_qualifier line.qualifier,
      room_pays coins line.pays is.pays.within,
      is.pays.columns,
    )

room_pay_lines : (coins : ℕ) (lines : List PayLine) → AllByRecursion (IsPayLine coins) lines → AllByRecursion (λ words. room words < 300) (map (pay_line_words coins) lines)
room_pay_lines coins [] all = tt
room_pay_lines coins (line ∷ lines) all = (room_pay_line coins line all.0, room_pay_lines coins lines all.1)

room_wild : (wild : Option ℕ) → length (wild_word wild) ≤ 4
room_wild None = omega arith
room_wild (Some rank) = omega arith

room_head : (t : PayTable) → IsTable t → AllByRecursion (λ words. room words < 300) (head_text t)
room_head t is =
    let name = room_name t.name is.name in
    let deck = digits_of_64 t.deck (omega (arith, is.known_deck.1)) in
    let coins = digits_of_64 t.coins (omega (arith, is.most_coins)) in (
      omega (arith, two_words (codes "table") t.name),
      (omega (arith, two_words (codes "deck") (decimal t.deck)), (omega (arith, two_words (codes "wild") (wild_word t.wild), room_wild t.wild), (omega (arith, two_words (codes "coins") (decimal t.coins)), tt))),
    )

-- a table has at most 37 lines
pub short_table : (t : PayTable) → IsTable t → length (written (table_text t)) ≤ 11100
unfolding table_text
short_table t is =
    let lines = map (pay_line_words t.coins) t.lines.items in
    let end : Text = (codes "end" ∷ []) ∷ [] in
    let last : length (written end) ≤ 300 * 1 = room_lines 300 end (omega (arith, one_word (codes "end")), tt) in
    omega (
      arith,
      written-append (head_text t) (lines ++ end),
      written-append lines end,
      room_lines 300 (head_text t) (room_head t is),
      room_lines 300 lines (room_pay_lines t.coins t.lines.items (recursion_from_All (IsPayLine t.coins) t.lines.items is.lines)),
      length-map t.lines.items (pay_line_words t.coins),
      is.most_lines,
      last,
    )
