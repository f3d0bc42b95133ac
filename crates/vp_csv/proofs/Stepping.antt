-- what one read does to the records that are left
use Rattle.std.proofs.Common.{Bor, ◌≡◌, ℕ, suc, ◌+◌, List, [], ◌∷◌, length, Option, Some, None, refl, sym, ap, arith, ◌∙◌, true, false, inl, inr, Bool}
use Rattle.std.specs.Prelude.{not, ◌&&◌, ◌==◌, ◌++◌, drop, take, if◌then◌else◌}
use Rattle.std.proofs.lemmas.Bool.{cases_Bool}
use Rattle.csv.specs.Machine.{Read, next_record}
use Rattle.csv.specs.Reading.{records_from, source_of, unread_of, default_config, ReadRecord, ReadsOn, Ready, Reached, strip_bom, has_failed, is_flexible, reader_trim, took_first}
use Rattle.csv.specs.declared.reader.Reader.{Reader}
use Rattle.csv.specs.declared.parser.State.{State}
use Rattle.csv.specs.declared.reader.Trim.TheVariants as trim
use Rattle.csv.proofs.ReadFacts.{rows-end, rows-more}
use Rattle.vp_csv.specs.Left.{left_from, left_of, Steps, IsSet, Keeps}
use Rattle.vp_csv.specs.Records.{Record}
use Rattle.vp_csv.proofs.Fuel.{enough, shorter, Shorter, at_end}

abbrev pub rem : Bor (List ℕ) → Option (List ℕ)
rem b = Some b.now

rest_same : (q : Read) (xs : List ℕ) → Shorter xs (Some q) → records_from default_config (length xs) q.1 q.2 ≡ records_from default_config (length q.2 + 1) q.1 q.2
rest_same q xs h = elim h [
  | inl less ↦ enough default_config (length xs) (length q.2 + 1) q.1 q.2 less (omega arith)
  | inr end ↦ rw (end.0, end.1) (at_end default_config (length xs) ∙ sym (at_end default_config 1))
]

-- a record that is found stands in front
pub found_first : (s : State) (xs : List ℕ) (q : Read) → next_record default_config s [] [] xs ≡ Some q → records_from default_config (suc (length xs)) s xs ≡ q.0 ∷ records_from default_config (length q.2 + 1) q.1 q.2
unfolding records_from
found_first s xs q is = rw is (ap (λ rs. q.0 ∷ rs) (rest_same q xs (rw is at (shorter default_config s [] [] xs))))

pub none_left : (s : State) (xs : List ℕ) → next_record default_config s [] [] xs ≡ None → records_from default_config (suc (length xs)) s xs ≡ []
unfolding records_from
none_left s xs is = rw is refl

one_more : (xs : List ℕ) → length xs + 1 ≡ suc (length xs)
one_more xs = omega arith

pub found_left : (s t : State) (xs ys : List ℕ) (f : Record) → Reached default_config s xs (f ∷ []) t ys → left_from s (Some xs) ≡ f ∷ left_from t (Some ys)
unfolding Reached
found_left s t xs ys f r =
    let (q, is, row, ends) = r in
    rw (one_more xs, row, ← ends.0, ← ends.1) (found_first s xs q is)

pub step_true : (a b : Reader (Bor (List ℕ))) (f : Record) (xs : List ℕ) → IsSet a → source_of rem a ≡ Some xs → ReadRecord rem a b true f → left_of a ≡ f ∷ left_of b
unfolding left_of Reached
step_true a b f xs set from r =
    let (ys, at, reached) = rows-more rem a b f default_config a.state xs xs [] set.config from (refl, refl) r in
    rw (from, at) (found_left a.state b.state xs ys f reached)

pub step_false : (a b : Reader (Bor (List ℕ))) (f : Record) (xs : List ℕ) → IsSet a → source_of rem a ≡ Some xs → ReadRecord rem a b false f → left_of a ≡ []
unfolding left_of
step_false a b f xs set from r =
    let none = rows-end rem a b f default_config xs set.config from r in
    rw (from, one_more xs) (none_left a.state xs none)

unread_some : (a : Reader (Bor (List ℕ))) → (xs : List ℕ) × (unread_of rem a ≡ Some xs)
unread_some a = elim (cases_Bool (not a.bom_checked && (a.at == 0) && (a.filled == 0))) [
  | inl fresh ↦ (strip_bom a.rdr.now, rw fresh refl)
  | inr later ↦ (drop a.at (take a.filled a.buffer) ++ a.rdr.now, rw later refl)
]

good_source : (bad : Bool) (o : Option (List ℕ)) (xs : List ℕ) → bad ≡ false → o ≡ Some xs → (if bad then None else o) ≡ Some xs
good_source true o xs e is = absurd cc
good_source false o xs e is = is

pub known : (a : Reader (Bor (List ℕ))) → has_failed a ≡ false → (xs : List ℕ) × (source_of rem a ≡ Some xs)
known a ok = let (xs, is) = unread_some a in (xs, good_source (has_failed a) (unread_of rem a) xs ok is)

pub failed_left : (a : Reader (Bor (List ℕ))) → has_failed a ≡ true → left_of a ≡ []
unfolding left_of
failed_left a bad = rw bad refl

pub steps : (a b : Reader (Bor (List ℕ))) (found : Bool) (f : Record) → Keeps a → (has_failed a ≡ true → found ≡ false)
    → (reader_trim a ≡ trim.None → Ready a → ReadRecord rem a b found f) → Steps (left_of a) found f (left_of b)
unfolding Keeps
steps a b true f keeps bad reads = elim (cases_Bool (has_failed a)) [
  | inl failed ↦ absurd (let e = bad failed in cc)
  | inr good ↦ let k = known a good in let set = keeps good in step_true a b f k.0 set k.1 (reads set.plain set.ready)
]
steps a b false f keeps bad reads = elim (cases_Bool (has_failed a)) [
  | inl failed ↦ failed_left a failed
  | inr good ↦ let k = known a good in let set = keeps good in step_false a b f k.0 set k.1 (reads set.plain set.ready)
]

pub keeps_ok : (a b : Reader (Bor (List ℕ))) (found : Bool) (f : Record) → Keeps a → has_failed b ≡ has_failed a → is_flexible b ≡ is_flexible a
    → (reader_trim a ≡ trim.None → took_first b ≡ true) → (reader_trim a ≡ trim.None → Ready a → ReadRecord rem a b found f) → Keeps b
unfolding Keeps
keeps_ok a b found f keeps same lengths first reads good =
    let set = keeps (sym same ∙ good) in
    let r = reads set.plain set.ready in
    record { plain = r.3 ∙ set.plain; ready = inl (first set.plain); config = r.2 ∙ set.config; flexible = lengths ∙ set.flexible }

pub keeps_err : (a b : Reader (Bor (List ℕ))) (stops : Bool) → Keeps a → (has_failed a ≡ true → ⊥) → has_failed b ≡ stops → (stops ≡ false → ReadsOn a b) → Keeps b
unfolding Keeps
keeps_err a b stops keeps none fails on good = elim (cases_Bool (has_failed a)) [
  | inl bad ↦ absurd (none bad)
  | inr fine ↦
      let set = keeps fine in
      let r = on (sym fails ∙ good) in
      record { plain = r.1 ∙ set.plain; ready = (r.4 set.ready).0; config = r.0 ∙ set.config; flexible = r.2 ∙ set.flexible }
]
