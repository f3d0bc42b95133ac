-- The lines of rules that are left to put.
use Rattle.std.proofs.Common.{append-nil, codes, ◌≡◌, ℕ, ◌+◌, ◌<◌, ◌≤◌, List, [], ◌∷◌, ◌++◌, length, drop, get_or, ap, ◌∙◌}
use Rattle.std.proofs.lemmas.Grind.{flat_map-append}
use Rattle.std.proofs.lemmas.List.{drop_all, drop_more}
use Rattle.vp_text.specs.Written.{line_of, written}
use Rattle.vp_audit.specs.declared.audited.Audited.{Audited}
use Rattle.vp_audit.specs.declared.audited.Tally.{Tally}
use Rattle.vp_audit.specs.Audit.{audited_lines, rule_lines, rule_words, sum_lines, tally_words}

-- the next rule's line, and those behind it
pub rules_left : (tallies : List Tally) (place : ℕ) (other : Tally) → place < length tallies
    → written (rule_lines (place + 1) (drop place tallies)) ≡ line_of (rule_words (place + 1) (get_or tallies place other)) ++ written (rule_lines (place + 1 + 1) (drop (place + 1) tallies))
rules_left tallies place other low = ap (λ (ts : List Tally). written (rule_lines (place + 1) ts)) (drop_more tallies place other low)

pub no_rules_left : (tallies : List Tally) (place : ℕ) → length tallies ≤ place → written (rule_lines (place + 1) (drop place tallies)) ≡ []
no_rules_left tallies place high = ap (λ (ts : List Tally). written (rule_lines (place + 1) ts)) (drop_all place tallies high)

-- the text in its three parts
pub audited_text : (a : Audited) (under : ℕ) → written (audited_lines a under) ≡ written (sum_lines a under) ++ (written (rule_lines 1 a.rules.items) ++ line_of (tally_words (codes "none") a.none))
audited_text a under =
    let none = tally_words (codes "none") a.none in
    flat_map-append line_of (sum_lines a under) (rule_lines 1 a.rules.items ++ none ∷ [])
    ∙ ap (λ (text : List ℕ). written (sum_lines a under) ++ text)
    (flat_map-append line_of (rule_lines 1 a.rules.items) (none ∷ []) ∙ ap (λ (text : List ℕ). written (rule_lines 1 a.rules.items) ++ text) (append-nil (line_of none)))
