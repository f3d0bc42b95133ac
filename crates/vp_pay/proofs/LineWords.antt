-- The words of a pay line, and the lines of a table.
use Rattle.std.proofs.Common.{◌≡◌, ℕ, List, [], ◌∷◌, ◌++◌, map, take, codes, ap, sym, ◌∙◌, append_assoc, refl}
use Rattle.std.proofs.lemmas.List.{append-nil}
use Rattle.std.proofs.lemmas.Grind.{flat_map-append}
use Rattle.std.specs.Fmt.{decimal}
use Rattle.vp_text.specs.Lines.{Word}
use Rattle.vp_text.specs.Written.{line_of, written}
use Rattle.vp_lines.specs.Words.{words_of}
use Rattle.vp_pay.specs.PatternWords.{four_words}
use Rattle.vp_pay.specs.Spelling.{head_text, pattern_words, qualifier_word, pay_line_words, table_text}
use Rattle.vp_pay.specs.declared.table.PayTable.{PayTable}
use Rattle.vp_pay.specs.declared.table.PayLine.{PayLine}
use Rattle.vp_pay.specs.declared.writing.PatternWords.{PatternWords}

-- the words of a pay line, with those of its pattern in the middle
pub line_words_are : (coins : ℕ) (line : PayLine) (name : Word) (p : PatternWords) (qualifier : Word)
    → name ≡ line.name → four_words p ≡ pattern_words line.pattern → qualifier ≡ qualifier_word line.qualifier
    → codes "line" ∷ name ∷ words_of p.key ++ (words_of p.first ++ (words_of p.kicker ++ (words_of p.second ++ qualifier ∷ map decimal (take coins line.pays)))) ≡ pay_line_words coins line
unfolding pay_line_words
line_words_are coins line name p qualifier is_name is_pattern is_qualifier =
    let back = qualifier ∷ map decimal (take coins line.pays) in
    let four : words_of p.key ++ (words_of p.first ++ (words_of p.kicker ++ (words_of p.second ++ back))) ≡ four_words p ++ back = simp append_assoc in
    ap (λ (ws : List Word). codes "line" ∷ name ∷ ws) (four ∙ ap (λ (ws : List Word). ws ++ back) is_pattern) ∙ rw (is_name, is_qualifier) refl

-- the head of a table, its pay lines and `end`, one behind another
pub table_bytes : (t : PayTable) (lines : List PayLine) → lines ≡ t.lines.items → written (head_text t) ++ (written (map (pay_line_words t.coins) lines) ++ line_of (codes "end" ∷ [])) ≡ written (table_text t)
unfolding table_text
table_bytes t lines is =
    let spelled = map (pay_line_words t.coins) lines in
    let last : written spelled ++ line_of (codes "end" ∷ []) ≡ written (spelled ++ (codes "end" ∷ []) ∷ []) =
    ap (λ (bytes : List ℕ). written spelled ++ bytes) (sym (append-nil (line_of (codes "end" ∷ [])))) ∙ sym (flat_map-append line_of spelled ((codes "end" ∷ []) ∷ [])) in
    ap (λ (bytes : List ℕ). written (head_text t) ++ bytes) last ∙ (sym (flat_map-append line_of (head_text t) (spelled ++ (codes "end" ∷ []) ∷ []))
    ∙ ap (λ (ls : List PayLine). written (head_text t ++ map (pay_line_words t.coins) ls ++ (codes "end" ∷ []) ∷ [])) is)
