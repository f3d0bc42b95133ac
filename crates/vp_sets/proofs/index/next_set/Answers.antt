use Rattle.std.proofs.Common.{◌≡◌, ◌+◌, ◌<◌, ◌≤◌, ℕ, List, length, get_or, drop, set, refl, ap, ◌∙◌, subst, arith, add-one, get_or-set_same}
use Rattle.std.proofs.Math.ListN.{length-set}
use Rattle.std.proofs.lemmas.List.{drop-set-lt}
use Rattle.std.proofs.lemmas.Bool.{false≢true}
use Rattle.vp_sets.specs.Sets.{choose}
use Rattle.vp_sets.specs.Index.{HasIndex, set_index}
use Rattle.vp_sets.proofs.Walk.{Free, Raised, raised_has_index, has_index_lt, last_index}
use Rattle.vp_sets.proofs.index.next_set.Goals as goal

free_at : (n : ℕ) (s : List ℕ) (p : ℕ) → p < length s →
    ((k : ℕ) → k < p → k + 1 < length s → get_or s k 0 + 1 ≡ get_or s (k + 1) 0) →
    (p + 1 < length s → get_or s p 0 + 1 < get_or s (p + 1) 0) →
    (length s ≡ p + 1 → get_or s p 0 + 1 < n) → Free n s p
free_at n s p l run free end = record {
  within = l;
  run = λ k m. run k m (omega arith);
  free = λ m. let a : get_or s p 0 + 1 < get_or s (p + 1) 0 = free (omega arith) in subst (λ i. get_or s p 0 + 1 < get_or s i 0) (add-one p) a;
  end = λ m. end (omega arith);
}

raised_at : (s u t : List ℕ) (p i : ℕ) → p < length s → p ≤ i → u ≡ set s p (get_or s p 0 + 1) → length t ≡ length u →
    ((k : ℕ) → k < i → get_or t k 0 ≡ k) → get_or t p 0 ≡ get_or u p 0 → drop (p + 1) t ≡ drop (p + 1) u → Raised s p t
raised_at s u t p i l m e long low at rest =
    let v : List ℕ = set s p (get_or s p 0 + 1) in
    record {
      same = long ∙ ap length e ∙ length-set s p (get_or s p 0 + 1);
      low = λ k h. low k (omega arith);
      at = at ∙ ap (λ z. get_or z p 0) e ∙ get_or-set_same s p (get_or s p 0 + 1) 0 l;
      rest = subst (λ j. drop j t ≡ drop j s) (add-one p) (rest ∙ ap (λ z. drop (p + 1) z) e ∙ drop-set-lt (p + 1) s p (get_or s p 0 + 1) (omega arith));
    }

found : (c : goal.After-loop-i) → HasIndex c.args.n (length c.args.set.now) (set_index c.args.set.now + 1) c.loop-i.set
found c =
    let s : List ℕ = c.args.set.now in
    let p : ℕ = c.first_free-place.result in
    let l : p < length s = omega (arith, c.first_free-place.ensures.within) in
    raised_has_index c.args.n s p c.loop-i.set c.requires.set
    (free_at c.args.n s p l c.first_free-place.ensures.run c.first_free-place.ensures.free c.first_free-place.ensures.end)
    (raised_at s (set s p (get_or s p 0 + 1)) c.loop-i.set p c.loop-i.i l c.loop-i-test.false refl c.loop-i.auto.set c.loop-i.invariant.low c.loop-i.invariant.at c.loop-i.invariant.rest)

pub returns-then-place-set-clause-more : goal.returns-then-place-set-clause-more
returns-then-place-set-clause-more c =
    let e : set_index c.args.set.now + 1 ≡ choose c.args.n (length c.args.set.now) = last_index c.args.n c.args.set.now (λ k l. c.first_free-place.ensures.run k (omega arith) l) (λ k l. c.first_free-place.ensures.full k (omega arith) l) in
    ((λ f. absurd (false≢true f)), (λ l. absurd (omega arith)))

pub returns-clause-more : goal.returns-clause-more
returns-clause-more c = ((λ t. has_index_lt c.args.n (length c.args.set.now) (set_index c.args.set.now + 1) c.loop-i.set (found c)), (λ l. refl))

pub returns-clause-next : goal.returns-clause-next
returns-clause-next c = λ t. found c
