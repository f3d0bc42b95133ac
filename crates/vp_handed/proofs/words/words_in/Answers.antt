-- Up to where the bytes were split, the words are those that were seen, and the first six of them are kept.
use Rattle.std.proofs.Common.{◌≡◌, ℕ, ◌<◌, ◌≤◌, List, [], ◌∷◌, ◌++◌, map, length, ◌∙◌, ap, arith, rules, Bor}
use Rattle.std.proofs.lemmas.List.{length-map, map-append}
use Rattle.std.proofs.lemmas.Bool.Decides.{nat_tests}
use Rattle.vp_text.specs.Lines.{Word}
use Rattle.vp_handed.proofs.Splits.{split_first, split_full, split_more, split_stuck, split_whole}
use Rattle.vp_handed.proofs.words.words_in.Goals as goal

abbrev words_of : List (Bor (List ℕ)) → List Word
words_of items = map (λ w. w.now) items

pub returns-in_err-word-clause-none : goal.returns-in_err-word-clause-none
returns-in_err-word-clause-none c =
    rw c.from_residual.ensures (split_stuck c.args.bytes.now c.loop-left.left.now (words_of c.loop-left.words.items) c.loop-left.invariant (search rules) c.in_err-word.ensures.none)

pub loop-left-preserved-then-not-is_full : goal.loop-left-preserved-then-not-is_full
loop-left-preserved-then-not-is_full c =
    let few : length c.loop-left.words.items < 6 = grind (arith, nat_tests) in
    let room : length (words_of c.loop-left.words.items) < 6 = rw length-map few in
    let more : words_of c.push.new.self.items ≡ words_of c.loop-left.words.items ++ (c.in_ok-word.word.now ∷ []) = ap words_of c.push.ensures.items ∙ map-append (λ (w : Bor (List ℕ)). w.now) c.loop-left.words.items (c.in_ok-word.word ∷ []) in
    rw more (split_more c.args.bytes.now c.loop-left.left.now c.in_ok-word.rest.now (words_of c.loop-left.words.items) c.in_ok-word.word.now c.loop-left.invariant c.in_ok-word.ensures.some room)

pub loop-left-preserved : goal.loop-left-preserved
loop-left-preserved c =
    let six : 6 ≤ length c.loop-left.words.items = grind (arith, nat_tests) in
    let full : 6 ≤ length (words_of c.loop-left.words.items) = rw length-map six in
    split_full c.args.bytes.now c.loop-left.left.now c.in_ok-word.rest.now (words_of c.loop-left.words.items) c.in_ok-word.word.now c.loop-left.invariant c.in_ok-word.ensures.some full

pub returns-clause-some : goal.returns-clause-some
returns-clause-some c =
    split_whole c.args.bytes.now c.loop-left.left.now (words_of c.loop-left.words.items) c.loop-left.invariant (grind (arith, nat_tests))

pub returns-clause-first : goal.returns-clause-first
returns-clause-first c =
    split_first c.args.bytes.now c.loop-left.left.now (words_of c.loop-left.words.items) c.loop-left.invariant (grind (arith, nat_tests))
