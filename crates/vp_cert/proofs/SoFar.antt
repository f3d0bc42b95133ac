-- The class lines so far: what was put, what was added up, and how often a best hold was asked for; and what is left of them.
use Rattle.std.proofs.Common.{◌≡◌, ℕ, true, ◌+◌, ◌*◌, ◌^◌, ◌<◌, ◌≤◌, List, [], ◌∷◌, ◌++◌, length, map, refl, ap, sym, ◌∙◌, arith, subst}
use Rattle.std.specs.Prelude.{Result, Ok, Err, IsErr}
use Rattle.std.proofs.lemmas.Bool.Decides.{nat_tests}
use Rattle.vp_text.specs.Written.{line_of, written}
use Rattle.vp_pay.specs.declared.table.PayTable.{PayTable}
use Rattle.vp_pay.specs.Table.{IsTable}
use Rattle.vp_suit.specs.Classes.{representatives, weight}
use Rattle.vp_suit.proofs.Weighed.{Added, added_all, added_fits, added_more, added_none, next_hand as next_class_hand}
use Rattle.vp_card.specs.Cards.{in_deck}
use Rattle.vp_draws.specs.Draws.{best, sum_of_best}
use Rattle.vp_draws.proofs.TurnedValues.{best_kept, best_sum_is}
use Rattle.vp_draws.proofs.Bounds.{best_sum_fits}
use Rattle.vp_check.specs.declared.class_line.ClassLine.{ClassLine}
use Rattle.vp_check.specs.Spelling.{class_words}
use Rattle.vp_check.specs.Truth.{due_line}
use Rattle.vp_io.specs.Causes.{one_more}
use Rattle.vp_io.specs.Puts.{Puts}
use Rattle.vp_io.specs.Streams.{Told}
use Rattle.vp_io.specs.declared.fault.WriteFault.{WriteFault}
use Rattle.vp_io.proofs.PutSoFar.{PutSoFar, put_all, put_halted, put_more, put_start}

-- the text of the lines of some classes
abbrev pub lines : PayTable → ℕ → List (List ℕ) → List ℕ
lines table coin classes = written (map class_words (map (due_line table coin) classes))

-- all classes but those that are left
pub record SoFar (table : PayTable) (coin : ℕ) (left : List (List ℕ)) (total : ℕ) (old new : Told) (first asked : ℕ) : Type 0 where
  pub sum : Added table.deck (best table coin) left total
  pub put : PutSoFar old new (lines table coin (representatives table.deck)) (lines table coin left)
  pub asks : asked + length left ≤ first + length (representatives table.deck)

-- nothing was put yet
pub start : (table : PayTable) (coin : ℕ) (left : List (List ℕ)) (old : Told) (first : ℕ) → IsTable table → left ≡ representatives table.deck → SoFar table coin left 0 old old first first
start table coin left old first rules is = record {
  sum = added_none table.deck (best table coin) left rules.known_deck (best_kept coin table rules.known_deck.0) is;
  put = subst (λ (l : List (List ℕ)). PutSoFar old old (lines table coin (representatives table.deck)) (lines table coin l)) (sym is) (put_start old (lines table coin (representatives table.deck)));
  asks = let many : length left ≡ length (representatives table.deck) = ap length is in omega (arith, many);
}

module _ (table : PayTable) (coin : ℕ) (cards : List ℕ) (left rest : List (List ℕ)) (is : left ≡ cards ∷ rest) where
  -- the next class is one of a hand of the table's deck
  pub next_hand : (told : PayTable) (total : ℕ) (old new : Told) (first asked : ℕ) → told ≡ table → SoFar table coin left total old new first asked → in_deck told.deck cards ≡ true
  next_hand told total old new first asked same so = ap (λ (t : PayTable). in_deck t.deck cards) same ∙ next_class_hand table.deck (best table coin) cards left rest is total so.sum

  -- what is added up and the next class together are a part of the whole sum, which fits
  pub next_fits : (total : ℕ) (old new : Told) (first asked : ℕ) → IsTable table → SoFar table coin left total old new first asked → total + weight cards * best table coin cards < 2 ^ 64
  next_fits total old new first asked rules so = omega (arith, added_fits table.deck (best table coin) cards left rest is total so.sum, best_sum_fits table coin rules)

  -- the line of the class, and the lines of the rest
  lines_left : (line : ClassLine) → line ≡ due_line table coin cards → lines table coin left ≡ line_of (class_words line) ++ lines table coin rest
  lines_left line due = ap (lines table coin) is ∙ ap (λ (l : ClassLine). line_of (class_words l) ++ lines table coin rest) (sym due)

  -- one more class was put, and added up
  pub next : (total next_total value : ℕ) (line : ClassLine) (old mid new : Told) (first asked next_asked : ℕ) (one : Result (Unit {0}) WriteFault) (done : Unit {0})
      → line ≡ due_line table coin cards → one ≡ Ok done → Puts mid new one (line_of (class_words line)) → next_asked ≡ one_more asked → next_total ≡ total + value → value ≡ line.weight * line.value
      → SoFar table coin left total old mid first asked → SoFar table coin rest next_total old new first next_asked
  unfolding due_line
  next total next_total value line old mid new first asked next_asked one done due ok put counted added valued so =
      let worth_next : value ≡ weight cards * best table coin cards = rw due at valued in
      let many : length left ≡ length (cards ∷ rest) = ap length is in
      record {
        sum = added_more table.deck (best table coin) cards left rest is total next_total (omega (arith, added, worth_next)) so.sum;
        put = put_more (lines_left line due) ok put so.put;
        asks = omega (arith, asked_le asked next_asked counted, many, so.asks);
      }
    where
      asked_le : (asked now : ℕ) → now ≡ one_more asked → now ≤ asked + 1
      asked_le asked now is = grind (arith, nat_tests)

  -- where a line was not put whole, all of them were not
  pub stopped : {V F : Type 0} (total : ℕ) (line : ClassLine) (old mid new : Told) (first asked : ℕ) (one : Result (Unit {0}) WriteFault) (e : WriteFault) (result : Result V F)
      → line ≡ due_line table coin cards → one ≡ Err e → IsErr result → Puts mid new one (line_of (class_words line))
      → SoFar table coin left total old mid first asked → Puts old new result (lines table coin (representatives table.deck))
  stopped total line old mid new first asked one e result due err stop put so = put_halted (lines table coin rest) (lines_left line due) err stop put so.put

  -- how often a best hold was asked for, with the next class
  pub next_asked : (total : ℕ) (old new : Told) (first asked now_asked : ℕ) → now_asked ≡ one_more asked → SoFar table coin left total old new first asked → now_asked ≤ first + length (representatives table.deck)
  next_asked total old new first asked now_asked counted so =
      let many : length left ≡ length (cards ∷ rest) = ap length is in
      let one : now_asked ≤ asked + 1 = grind (arith, nat_tests) in
      omega (arith, many, one, so.asks)

-- the line of a class, where the table and the bet are still the same
pub due_same : (table now : PayTable) (coin now_coin : ℕ) (cards : List ℕ) (line : ClassLine) → now ≡ table → now_coin ≡ coin → line ≡ due_line now now_coin cards → line ≡ due_line table coin cards
due_same table now coin now_coin cards line same_table same_coin is = is ∙ rw (same_table, same_coin) refl

-- what a class line adds is weight times best value
pub added_as : (table : PayTable) (coin : ℕ) (cards : List ℕ) (line : ClassLine) (w v : ℕ) → line ≡ due_line table coin cards → w ≡ line.weight → v ≡ line.value → w * v ≡ weight cards * best table coin cards
unfolding due_line
added_as table coin cards line w v is is_w is_v = rw (is_w, is_v, is) refl

-- all classes were put
pub end_put : (table : PayTable) (coin : ℕ) (left : List (List ℕ)) (total done : ℕ) (old new : Told) (first asked : ℕ)
    → left ≡ [] → SoFar table coin left total old new first asked → Puts {E = WriteFault} old new (Ok done) (lines table coin (representatives table.deck))
end_put table coin left total done old new first asked none so = put_all (ap (lines table coin) none) so.put

-- and by weight they are all deals
pub end_sum : (table : PayTable) (coin : ℕ) (left : List (List ℕ)) (total : ℕ) (old new : Told) (first asked : ℕ)
    → IsTable table → left ≡ [] → SoFar table coin left total old new first asked → total ≡ sum_of_best table coin
end_sum table coin left total old new first asked rules none so = best_sum_is table coin total (added_all table.deck (best table coin) left total none so.sum)
