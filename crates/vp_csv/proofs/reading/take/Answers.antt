use Rattle.std.proofs.Common.{◌≡◌, sym, ◌∙◌, Some, None}
use Rattle.std.specs.List.{position}
use Rattle.csv.specs.Records.{fields_of}
use Rattle.vp_csv.specs.Fields.{row_of}
use Rattle.vp_csv.specs.Kept.{has_name, names_kept}
use Rattle.vp_csv.specs.Rules.{game_in}
use Rattle.vp_csv.specs.Kept.{game_line}
use Rattle.vp_csv.proofs.Places.{found, not_found}
use Rattle.vp_csv.proofs.RowRules.{game_kept, name_read, opening_kept, rule_known, rule_new, rule_none}
use Rattle.vp_csv.proofs.reading.take.Goals as goal

pub returns-in_default-clause-may : goal.returns-in_default-clause-may
returns-in_default-clause-may c =
    sym (rule_none c.args.deck c.args.count (names_kept c.args.sessions.now.items) (fields_of c.args.fields.now) (sym c.row_of.ensures ∙ c.in_default.is))

pub returns-in-Some-place_of-clause-may : goal.returns-in-Some-place_of-clause-may
returns-in-Some-place_of-clause-may c =
    let ks = c.args.sessions.now.items in
    let name = c.in-Some-read.name in
    let is : row_of (fields_of c.args.fields.now) ≡ Some c.in-Some.row = sym c.row_of.ensures ∙ c.in-Some.is in
    let same : name ≡ c.in-Some.row.session = name_read _ _ _ c.read.ensures c.in-Some-read.is ∙ c.session.ensures in
    let at : position (has_name name) ks ≡ Some c.in-Some-place_of.place = rw (c.text.ensures.value, c.deref.ensures.value) at (sym c.place_of.ensures ∙ c.in-Some-place_of.is) in
    rw (rule_known c.args.deck c.args.count ks (fields_of c.args.fields.now) c.in-Some.row name is same c.if-count-ge400000.false c.text.ensures.name (found name ks c.in-Some-place_of.place at).kept)
    c.take_game.ensures.game

pub returns-in-Some-place_of-clause-keeps : goal.returns-in-Some-place_of-clause-keeps
returns-in-Some-place_of-clause-keeps c =
    let ks = c.args.sessions.now.items in
    let name = c.in-Some-read.name in
    let is : row_of (fields_of c.args.fields.now) ≡ Some c.in-Some.row = sym c.row_of.ensures ∙ c.in-Some.is in
    let same : name ≡ c.in-Some.row.session = name_read _ _ _ c.read.ensures c.in-Some-read.is ∙ c.session.ensures in
    let at : position (has_name name) ks ≡ Some c.in-Some-place_of.place = rw (c.text.ensures.value, c.deref.ensures.value) at (sym c.place_of.ensures ∙ c.in-Some-place_of.is) in
    let here = found name ks c.in-Some-place_of.place at in
    rw (game_kept c.args.deck ks (fields_of c.args.fields.now) c.in-Some.row name is same here.kept ∙ here.text (game_line (game_in c.args.deck c.in-Some.row))) c.take_game.ensures.keeps

pub returns-in-None-clause-may : goal.returns-in-None-clause-may
returns-in-None-clause-may c =
    let ks = c.args.sessions.now.items in
    let name = c.in-Some-read.name in
    let is : row_of (fields_of c.args.fields.now) ≡ Some c.in-Some.row = sym c.row_of.ensures ∙ c.in-Some.is in
    let same : name ≡ c.in-Some.row.session = name_read _ _ _ c.read.ensures c.in-Some-read.is ∙ c.session.ensures in
    let none : position (has_name name) ks ≡ None = rw (c.text.ensures.value, c.deref.ensures.value) at (sym c.place_of.ensures ∙ c.in-None.is) in
    rw (rule_new c.args.deck c.args.count ks (fields_of c.args.fields.now) c.in-Some.row name is same c.if-count-ge400000.false c.text.ensures.name (not_found name ks none))
    c.take_opening.ensures.opens

pub returns-in-None-clause-keeps : goal.returns-in-None-clause-keeps
returns-in-None-clause-keeps c =
    let ks = c.args.sessions.now.items in
    let name = c.in-Some-read.name in
    let is : row_of (fields_of c.args.fields.now) ≡ Some c.in-Some.row = sym c.row_of.ensures ∙ c.in-Some.is in
    let same : name ≡ c.in-Some.row.session = name_read _ _ _ c.read.ensures c.in-Some-read.is ∙ c.session.ensures in
    let none : position (has_name name) ks ≡ None = rw (c.text.ensures.value, c.deref.ensures.value) at (sym c.place_of.ensures ∙ c.in-None.is) in
    rw (opening_kept c.args.deck ks (fields_of c.args.fields.now) c.in-Some.row name is same (not_found name ks none)) c.take_opening.ensures.keeps
