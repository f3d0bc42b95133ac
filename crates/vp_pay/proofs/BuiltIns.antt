-- The built-in tables are what their texts are read as.
use Rattle.std.proofs.Common.{◌≡◌, refl}
use Rattle.std.specs.Prelude.{Some}
use Rattle.std.specs.Fmt.{digits}
use Rattle.vp_card.specs.Texts.{rank_letters, any_text}
use Rattle.vp_card.specs.Reading.{rank_of, rank_set_of}
use Rattle.vp_text.specs.Lines.{feed_of}
use Rattle.vp_text.specs.Numbers.{number_of, number_within}
use Rattle.vp_pay.specs.declared.built_in.TheConstants.{JACKS, BONUS, DEUCES, KINGS}
use Rattle.vp_pay.specs.Reading.{name_of, deck_of, wild_of, qualifier_of, plain_of, kicker_piece, wilds_piece, quads_piece, pattern_behind, pattern_piece, columns_piece, pay_line_of, next_line_of}
use Rattle.vp_pay.specs.Sections.{table_at, value_of}
use Rattle.vp_pay.specs.BuiltIn.{jacks, bonus, deuces, kings}

pub jacks_read : value_of (table_at (feed_of JACKS.now)) ≡ Some jacks
unfolding digits rank_letters any_text rank_of rank_set_of name_of deck_of number_of number_within wild_of qualifier_of plain_of kicker_piece wilds_piece quads_piece pattern_behind pattern_piece columns_piece pay_line_of next_line_of table_at jacks
jacks_read = refl

pub bonus_read : value_of (table_at (feed_of BONUS.now)) ≡ Some bonus
unfolding digits rank_letters any_text rank_of rank_set_of name_of deck_of number_of number_within wild_of qualifier_of plain_of kicker_piece wilds_piece quads_piece pattern_behind pattern_piece columns_piece pay_line_of next_line_of table_at bonus
bonus_read = refl

pub deuces_read : value_of (table_at (feed_of DEUCES.now)) ≡ Some deuces
unfolding digits rank_letters any_text rank_of rank_set_of name_of deck_of number_of number_within wild_of qualifier_of plain_of kicker_piece wilds_piece quads_piece pattern_behind pattern_piece columns_piece pay_line_of next_line_of table_at deuces
deuces_read = refl

pub kings_read : value_of (table_at (feed_of KINGS.now)) ≡ Some kings
unfolding digits rank_letters any_text rank_of rank_set_of name_of deck_of number_of number_within wild_of qualifier_of plain_of kicker_piece wilds_piece quads_piece pattern_behind pattern_piece columns_piece pay_line_of next_line_of table_at kings
kings_read = refl
