-- How long the text of a certificate may be.
use Rattle.std.proofs.Common.{ℕ, ◌*◌, ◌^◌, ◌<◌, ◌≤◌, List, [], ◌∷◌, ◌++◌, map, length, arith}
use Rattle.std.specs.Prelude.{codes}
use Rattle.std.specs.Fmt.{decimal}
use Rattle.std.specs.List.{AllByRecursion}
use Rattle.std.proofs.lemmas.Fmt.{length-decimal-le}
use Rattle.std.proofs.lemmas.List.{length-map}
use Rattle.std.proofs.lemmas.List.Elements.{recursion_from_All}
use Rattle.vp_card.specs.Texts.{card_text}
use Rattle.vp_card.proofs.Texts.{card_text_length}
use Rattle.vp_text.specs.Sections.{Text}
use Rattle.vp_text.specs.Written.{written}
use Rattle.vp_text.proofs.Room.{digits_of_64, one_word, room, room-append, room-cons, room-nil, room_lines, room_map, two_words, written-append}
use Rattle.vp_pay.specs.Spelling.{table_text}
use Rattle.vp_pay.proofs.ShortTables.{short_table}
use Rattle.vp_check.specs.Certificates.{Certificate, IsCertificate, IsClassLine}
use Rattle.vp_check.specs.Spelling.{cert_text, certificate_text, class_words, return_words}
use Rattle.vp_check.specs.declared.class_line.ClassLine.{ClassLine}
use Rattle.vp_suit.proofs.FewClasses.{few_classes}

-- ---- class lines

room_class : (n : ℕ) (line : ClassLine) → IsClassLine n line → room (class_words line) < 49
unfolding class_words
room_class n line is =
    let weight = length-decimal-le 2 line.weight (omega arith) (omega (arith, is.most_weight)) (omega (arith, is.most_weight)) in
    let mask = length-decimal-le 2 line.mask (omega arith) (omega (arith, is.mask)) (omega (arith, is.mask)) in
    let value = digits_of_64 line.value is.value in
    let numbers = decimal line.weight ∷ decimal line.mask ∷ decimal line.value ∷ [] in
    omega (
      arith,
      weight,
      mask,
      value,
      is.deal.five,
      room_map card_text 2 card_text_length line.hand,
      room-cons (codes "class") (map card_text line.hand ++ numbers),
      room-append (map card_text line.hand) numbers,
      room-cons (decimal line.weight) (decimal line.mask ∷ decimal line.value ∷ []),
      room-cons (decimal line.mask) (decimal line.value ∷ []),
      room-cons (decimal line.value) [],
      room-nil,
    )

room_classes : (n : ℕ) (lines : List ClassLine) → AllByRecursion (IsClassLine n) lines → AllByRecursion (λ words. room words < 49) (map class_words lines)
room_classes n [] all = tt
room_classes n (line ∷ lines) all = (room_class n line all.0, room_classes n lines all.1)

-- ---- certificates

room_return : (sum denominator : ℕ) → sum < 2 ^ 64 → denominator < 2 ^ 64 → room (return_words sum denominator) < 300
unfolding return_words
room_return sum denominator a b =
    omega (
      arith,
      room-cons (codes "return") (decimal sum ∷ codes "/" ∷ decimal denominator ∷ []),
      room-cons (decimal sum) (codes "/" ∷ decimal denominator ∷ []),
      two_words (codes "/") (decimal denominator),
      digits_of_64 sum a,
      digits_of_64 denominator b,
    )

pub short_certificate : (c : Certificate) → IsCertificate c → length (written (certificate_text c)) ≤ 67108864
unfolding certificate_text cert_text
short_certificate c is =
    let classes = map class_words c.classes in
    let bet : Text = (codes "cert" ∷ decimal c.coin ∷ []) ∷ [] in
    let last : Text = return_words c.sum c.denominator ∷ (codes "end" ∷ []) ∷ [] in
    let coin = digits_of_64 c.coin (omega (arith, is.bet.within, is.bet.rules.most_coins)) in
    let first : length (written bet) ≤ 300 * 1 = room_lines 300 bet (omega (arith, two_words (codes "cert") (decimal c.coin)), tt) in
    let ending : length (written last) ≤ 300 * 2 =
    room_lines 300 last (room_return c.sum c.denominator is.sum is.denominator, (omega (arith, one_word (codes "end")), tt)) in
    omega (
      arith,
      written-append (table_text c.table) (bet ++ (classes ++ last)),
      written-append bet (classes ++ last),
      written-append classes last,
      short_table c.table is.bet.rules,
      first,
      room_lines 49 classes (room_classes c.table.deck c.classes (recursion_from_All (IsClassLine c.table.deck) c.classes is.classes)),
      length-map c.classes class_words,
      is.most_classes,
      few_classes c.table.deck is.bet.rules.known_deck,
      ending,
    )
