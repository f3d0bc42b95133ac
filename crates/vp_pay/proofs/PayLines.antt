-- Pay lines: each is read from its words, and from no others.
use Rattle.std.proofs.Common.{◌≡◌, ℕ, zero, suc, ◌-◌, ◌≤◌, true, nat_le, List, [], ◌∷◌, ◌++◌, map, length, take, drop, replicate, refl, ap, sym, ◌∙◌, arith, Some, length-append}
use Rattle.std.specs.Prelude.{codes}
use Rattle.std.specs.Fmt.{decimal}
use Rattle.std.specs.List.{list_all, AllByRecursion}
use Rattle.std.proofs.lemmas.Bool.{leb-true, le-leb}
use Rattle.std.proofs.lemmas.List.{length-replicate, length-take-le, take-append-drop}
use Rattle.std.proofs.lemmas.List.Folds.{list_all-append}
use Rattle.std.proofs.Math.Seq.{take-append_seam, drop-append_seam}
use Rattle.vp_text.specs.ExactReaders.{ExactText}
use Rattle.vp_text.specs.Lines.{Word}
use Rattle.vp_pay.specs.declared.pattern.Qualifier.{Qualifier}
use Rattle.vp_pay.specs.declared.pattern.Qualifier.TheVariants.{Either, Natural, Wild}
use Rattle.vp_pay.specs.declared.table.PayLine.{PayLine}
use Rattle.vp_text.specs.Pieces.{ExactPiece, AreMany}
use Rattle.vp_pay.specs.Spelling.{qualifier_word, pay_line_words}
use Rattle.vp_pay.specs.Reading.{LineParts, line_from, columns_piece, pay_line_of}
use Rattle.vp_pay.specs.Table.{ArePays, IsPayLine}
use Rattle.vp_text.proofs.Pieces.{both_true, bound, so, took, Exact-one_word, Exact-so_many}
use Rattle.vp_text.proofs.Sequences.{Exact-before, Exact-then, Exact-after, Exact-all_of, Exact-made, Exact-also}
use Rattle.vp_pay.proofs.Values.{Exact-name, Exact-payment, Exact-qualifier}
use Rattle.vp_pay.proofs.Patterns.{Exact-pattern, no_kicker}

-- so many payments, each at most 500000
abbrev pub ArePayments : ℕ → List ℕ → Type 0
ArePayments = AreMany (λ pay. pay ≤ 500000)

within_all : (pays : List ℕ) → AllByRecursion (λ pay. pay ≤ 500000) pays → list_all (λ pay. nat_le pay 500000) pays ≡ true
within_all [] all = refl
within_all (pay ∷ pays) all = rw (le-leb pay 500000 all.0) (within_all pays all.1)

all_within : (pays : List ℕ) → list_all (λ pay. nat_le pay 500000) pays ≡ true → AllByRecursion (λ pay. pay ≤ 500000) pays
all_within [] is = tt
all_within (pay ∷ pays) is =
    let parts = both_true (nat_le pay 500000) (list_all (λ p. nat_le p 500000) pays) is
    in (leb-true pay 500000 parts.0, all_within pays parts.1)

zeros_within : (n : ℕ) → list_all (λ pay. nat_le pay 500000) (replicate n 0) ≡ true
zeros_within zero = refl
zeros_within (suc n) = zeros_within n

-- payments for the first columns, and 0 for the columns above
pub padded : (coins : ℕ) (pays : List ℕ) → coins ≤ 5 → ArePayments coins pays → ArePays coins (pays ++ replicate (5 - coins) 0) × (take coins (pays ++ replicate (5 - coins) 0) ≡ pays)
padded coins pays few is =
    let zeros : List ℕ = replicate (5 - coins) 0
    in let all : length (pays ++ zeros) ≡ 5 = length-append pays zeros ∙ (let l : length zeros ≡ 5 - coins = length-replicate (5 - coins) 0 in omega (arith, is.count))
    in let front : take coins (pays ++ zeros) ≡ pays = ap (λ n. take n (pays ++ zeros)) (sym is.count) ∙ take-append_seam pays zeros
    in let back : drop coins (pays ++ zeros) ≡ zeros = ap (λ n. drop n (pays ++ zeros)) (sym is.count) ∙ drop-append_seam pays zeros
    in (record { columns = all; within = list_all-append (λ pay. nat_le pay 500000) pays zeros ∙ (rw (within_all pays is.all, zeros_within (5 - coins))); above = back }, front)

-- the payments in the first columns
pub unpadded : (coins : ℕ) (pays : List ℕ) → coins ≤ 5 → ArePays coins pays → ArePayments coins (take coins pays) × (take coins pays ++ replicate (5 - coins) 0 ≡ pays)
unpadded coins pays few is =
    let both = take-append-drop coins pays
    in let parts = both_true (list_all (λ pay. nat_le pay 500000) (take coins pays)) (list_all (λ pay. nat_le pay 500000) (drop coins pays))
    (sym (list_all-append (λ pay. nat_le pay 500000) (take coins pays) (drop coins pays)) ∙ (ap (list_all (λ pay. nat_le pay 500000)) both ∙ is.within))
    in let count : length (take coins pays) ≡ coins = length-take-le coins pays (omega (arith, is.columns))
    in (record { count = count; all = all_within (take coins pays) parts.0 }, ap (λ zeros. take coins pays ++ zeros) (sym is.above) ∙ both)

columns_taken : (coins : ℕ) (words rest : List Word) (pays : List ℕ) → coins ≤ 5 → columns_piece coins words ≡ Some (pays, rest) → ArePays coins pays × (words ≡ map decimal (take coins pays) ++ rest)
unfolding columns_piece
columns_taken coins words rest pays few read =
    let front = bound _ _ _ read
    in let p = took (Exact-so_many Exact-payment coins) words front.value front.first
    in let all = padded coins front.value.0 few p.valid
    in so (λ (t : List ℕ × List Word). ArePays coins t.0 × (words ≡ map decimal (take coins t.0) ++ t.1)) (front.value.0 ++ replicate (5 - coins) 0, front.value.1) (pays, rest) front.then
    (all.0, p.front ∙ ap (λ ps. map decimal ps ++ front.value.1) (sym all.1))

columns_again : (coins : ℕ) (rest : List Word) (pays : List ℕ) → coins ≤ 5 → ArePays coins pays → columns_piece coins (map decimal (take coins pays) ++ rest) ≡ Some (pays, rest)
unfolding columns_piece
columns_again coins rest pays few is =
    let front = unpadded coins pays few is
    in rw ((Exact-so_many Exact-payment coins).again rest (take coins pays) front.0 refl, front.1)

pub Exact-columns : (coins : ℕ) → coins ≤ 5 → ExactPiece (λ pays. map decimal (take coins pays)) (ArePays coins) (λ rest. true) (columns_piece coins)
Exact-columns coins few = record {
  takes = λ words rest pays read. columns_taken coins words rest pays few read;
  again = λ rest pays is may. columns_again coins rest pays few is;
}

-- ---- a pay line

qualifier_no_kicker : (q : Qualifier) (rest : List Word) → no_kicker (qualifier_word q ∷ rest) ≡ true
qualifier_no_kicker Either rest = refl
qualifier_no_kicker Natural rest = refl
qualifier_no_kicker Wild rest = refl

abbrev parts_of : PayLine → LineParts
parts_of line = (line.name, (line.pattern, (line.qualifier, line.pays)))

pub Exact-pay_line : (coins : ℕ) → coins ≤ 5 → ExactText (pay_line_words coins) (IsPayLine coins) (pay_line_of coins)
unfolding pay_line_of pay_line_words
Exact-pay_line coins few =
    let behind = Exact-then (Exact-one_word Exact-qualifier) (Exact-columns coins few) in
    let from_pattern = Exact-before Exact-pattern behind (λ b rest valid may. qualifier_no_kicker b.0 (map decimal (take coins b.1) ++ rest)) in
    let parts = Exact-after (codes "line") (Exact-then (Exact-one_word Exact-name) from_pattern) in
    Exact-also (Exact-made (Exact-all_of parts refl) line_from parts_of (λ p. refl) (λ line. refl))
    (pay_line_words coins) (λ line. refl)
    (λ line is. record { name = is.0; pattern = is.1.0; pays = is.1.1.1 })
    (λ line is. (is.name, (is.pattern, (tt, is.pays))))
