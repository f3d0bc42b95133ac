-- The number that a place of a certificate has is that of the line which says what stands there.
use Rattle.std.proofs.Common.{◌≡◌, ℕ, ◌+◌, List, [], ◌∷◌, ◌++◌, map, length, sym, ap, ◌∙◌, arith, length-append, append_assoc}
use Rattle.std.specs.Prelude.{Ok, codes}
use Rattle.std.specs.Fmt.{decimal}
use Rattle.std.proofs.lemmas.List.{map-append, length-map}
use Rattle.vp_text.specs.Lines.{Word, WordLine, Feed, feed_of}
use Rattle.vp_text.specs.Sections.{Text, text_of}
use Rattle.vp_text.proofs.Spelled.{Parts, parts, head_is}
use Rattle.vp_pay.specs.Spelling.{table_text}
use Rattle.vp_check.specs.Certificates.{Certificate}
use Rattle.vp_check.specs.Checking.{Stands, certificate_of, line_number}
use Rattle.vp_check.specs.Spelling.{class_words, return_words, cert_text, certificate_text}
use Rattle.vp_check.specs.declared.class_line.ClassLine.{ClassLine}
use Rattle.vp_check.proofs.Certificates_grammar.{certificate_found}
use Rattle.vp_check.proofs.Read_grammar.{number_at}

-- the line behind so many lines of the spelling
stands_behind : (c : Certificate) (feed : Feed) (place : ℕ) (front : Text) (words : List Word) (back : Text)
    → text_of feed.lines ≡ front ++ words ∷ back → length front ≡ length (table_text c.table) + place → Stands feed (line_number c feed place) words
stands_behind c feed place front words back text many = by_back (parts feed.lines front (words ∷ back) text)
  where
    at_line : (before : List WordLine) (line : WordLine) (rest : List WordLine) → feed.lines ≡ before ++ line ∷ rest → text_of before ≡ front → line.words ≡ words → Stands feed (line_number c feed place) words
    at_line before line rest split spelled is =
        let as_many : length before ≡ length (table_text c.table) + place = sym (length-map before (λ (line : WordLine). line.words)) ∙ (ap length spelled ∙ many) in
        let number : line.line ≡ line_number c feed place = number_at c feed before line rest place split as_many in
        let same : line ≡ record { line = line_number c feed place; words = words } =
        ap (λ (n : ℕ). record { line = n; words = line.words }) number ∙ ap (λ (ws : List Word). record { line = line_number c feed place; words = ws }) is in
        record { front = before; back = rest; split = split ∙ ap (λ (l : WordLine). before ++ l ∷ rest) same }

    split_back : (before back_lines : List WordLine) → feed.lines ≡ before ++ back_lines → text_of before ≡ front → text_of back_lines ≡ words ∷ back → Stands feed (line_number c feed place) words
    split_back before [] split spelled is = absurd cc
    split_back before (line ∷ rest) split spelled is = at_line before line rest split spelled (head_is line.words words (text_of rest) back is)

    by_back : Parts feed.lines front (words ∷ back) → Stands feed (line_number c feed place) words
    by_back p = split_back p.front p.back p.both p.first p.second

-- what stands behind the table and the bet
abbrev bet_in_front : Certificate → Text
bet_in_front c = table_text c.table ++ (codes "cert" ∷ decimal c.coin ∷ []) ∷ []

abbrev last_lines : Certificate → Text
last_lines c = return_words c.sum c.denominator ∷ (codes "end" ∷ []) ∷ []

behind_bet : (c : Certificate) → certificate_text c ≡ bet_in_front c ++ (map class_words c.classes ++ last_lines c)
unfolding certificate_text cert_text
behind_bet c = sym (append_assoc (table_text c.table) ((codes "cert" ∷ decimal c.coin ∷ []) ∷ []) (map class_words c.classes ++ last_lines c))

-- so many class lines stand behind the bet
class_place : (c : Certificate) (front : List ClassLine) → length (bet_in_front c ++ map class_words front) ≡ length (table_text c.table) + (length front + 1)
class_place c front =
    let bet = length-append (table_text c.table) ((codes "cert" ∷ decimal c.coin ∷ []) ∷ []) in
    let all = length-append (bet_in_front c) (map class_words front) in
    omega (arith, bet, all, length-map front class_words)

pub class_stands : (bytes : List ℕ) (c : Certificate) (front back : List ClassLine) (line : ClassLine) → certificate_of bytes ≡ Ok c → c.classes ≡ front ++ line ∷ back
    → Stands (feed_of bytes) (line_number c (feed_of bytes) (length front + 1)) (class_words line)
class_stands bytes c front back line says classes =
    let whole : text_of (feed_of bytes).lines ≡ certificate_text c = (certificate_found bytes c says).whole in
    let rest : Text = map class_words back ++ last_lines c in
    let lines : map class_words c.classes ≡ map class_words front ++ class_words line ∷ map class_words back = ap (map class_words) classes ∙ map-append class_words front (line ∷ back) in
    let text : text_of (feed_of bytes).lines ≡ (bet_in_front c ++ map class_words front) ++ class_words line ∷ rest =
    whole
    ∙ (behind_bet c
    ∙ (ap (λ (t : Text). bet_in_front c ++ (t ++ last_lines c)) lines
    ∙ (ap (λ (t : Text). bet_in_front c ++ t) (append_assoc (map class_words front) (class_words line ∷ map class_words back) (last_lines c))
    ∙ sym (append_assoc (bet_in_front c) (map class_words front) (class_words line ∷ rest))))) in
    stands_behind c (feed_of bytes) (length front + 1) (bet_in_front c ++ map class_words front) (class_words line) rest text (class_place c front)

pub return_stands : (bytes : List ℕ) (c : Certificate) → certificate_of bytes ≡ Ok c
    → Stands (feed_of bytes) (line_number c (feed_of bytes) (length c.classes + 1)) (return_words c.sum c.denominator)
return_stands bytes c says =
    let whole : text_of (feed_of bytes).lines ≡ certificate_text c = (certificate_found bytes c says).whole in
    let text : text_of (feed_of bytes).lines ≡ (bet_in_front c ++ map class_words c.classes) ++ last_lines c =
    whole ∙ (behind_bet c ∙ sym (append_assoc (bet_in_front c) (map class_words c.classes) (last_lines c))) in
    stands_behind c (feed_of bytes) (length c.classes + 1) (bet_in_front c ++ map class_words c.classes) (return_words c.sum c.denominator) ((codes "end" ∷ []) ∷ []) text (class_place c c.classes)
