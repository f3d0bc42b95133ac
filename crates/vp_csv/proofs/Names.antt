-- The names of records: a name is one of them exactly where a record has it.
use Rattle.std.proofs.Common.{◌≡◌, ◌⊎◌, inl, inr, Bool, true, false, cond, not, ◌||◌, ◌&&◌, List, [], ◌∷◌, ◌++◌, refl, sym, ◌∙◌, subst}
use Rattle.std.specs.Prelude.{bytes_eq}
use Rattle.std.specs.List.{AllByRecursion, list_any}
use Rattle.std.proofs.lemmas.Bool.{cases_Bool}
use Rattle.std.proofs.lemmas.List.Elements.{filter-append}
use Rattle.std.proofs.lemmas.List.Folds.{list_any-append}
use Rattle.std.proofs.lemmas.Slice.Eq.{bytes_eq-Decides}
use Rattle.vp_text.specs.Lines.{Word}
use Rattle.vp_text.proofs.Pieces.{same_bytes}
use Rattle.vp_csv.specs.Records.{Record}
use Rattle.vp_csv.specs.Rules.{knows, name_of, names_behind, names_of, with_name}
use Rattle.vp_csv.specs.Sessions.{own}
use Rattle.vp_csv.specs.Naming.{AllDiffer, AreNames, earlier}

-- ---- one more record

pub names_more : (names : List Word) (rs : List Record) (r : Record) → names_behind names (rs ++ r ∷ []) ≡ with_name (names_behind names rs) (name_of r)
unfolding names_behind
names_more names [] r = refl
names_more names (q ∷ rs) r = names_more (with_name names (name_of q)) rs r

pub names_none : (names : List Word) → names_behind names [] ≡ names
unfolding names_behind
names_none names = refl

pub own_more : (name : Word) (rs : List Record) (r : Record) → own name (rs ++ r ∷ []) ≡ own name rs ++ cond (bytes_eq name (name_of r)) (r ∷ []) []
own_more name rs r = filter-append (λ r. bytes_eq name (name_of r)) rs (r ∷ [])

-- ---- a name that is known

-- the records of a name, of which there are some
pub record IsOpened (name : Word) (rs : List Record) : Type 0 where
  pub opening : Record
  pub games : List Record
  pub is : own name rs ≡ opening ∷ games

without : (b c : Bool) → (b || c) ≡ true → c ≡ false → b ≡ true
without true c e no_c = refl
without false c e no_c = absurd (let d : c ≡ true = e in cc)

still : (name : Word) (names : List Word) (other : Word) → bytes_eq other name ≡ false → knows name (with_name names other) ≡ true → knows name names ≡ true
still name names other differ = elim (knows other names) as (λ b. knows name (cond b names (names ++ other ∷ [])) ≡ true → knows name names ≡ true) [
  | true ↦ λ e. e
  | false ↦ λ e. without (knows name names) (bytes_eq other name || false) (sym (list_any-append (λ n. bytes_eq n name) names (other ∷ [])) ∙ e) (rw differ refl)
]

eq_sym : (a b : Word) → bytes_eq a b ≡ true → bytes_eq b a ≡ true
eq_sym a b e = (bytes_eq-Decides b a).1 (sym ((bytes_eq-Decides a b).0 e))

differ_sym : (a b : Word) → bytes_eq a b ≡ false → bytes_eq b a ≡ false
differ_sym a b e = elim (cases_Bool (bytes_eq b a)) [
  | inl same ↦ absurd (let s = eq_sym b a same in cc)
  | inr other ↦ other
]

pub known : (name : Word) (names : List Word) (rs : List Record) → knows name (names_behind names rs) ≡ true → (knows name names ≡ true) ⊎ IsOpened name rs
unfolding names_behind
known name names [] h = inl h
known name names (r ∷ rs) h = elim (cases_Bool (bytes_eq name (name_of r))) [
  | inl is ↦ inr (record { opening = r; games = own name rs; is = rw is refl })
  | inr other ↦ elim (known name (with_name names (name_of r)) rs h) [
    | inl before ↦ inl (still name names (name_of r) (differ_sym name (name_of r) other) before)
    | inr opened ↦ inr (record { opening = opened.opening; games = opened.games; is = rw other opened.is })
  ]
]

-- ---- a name that is not known

stays : (p : Word → Bool) (names : List Word) (name : Word) → list_any p names ≡ true → list_any p (with_name names name) ≡ true
stays p names name h = elim (knows name names) as (λ b. list_any p (cond b names (names ++ name ∷ [])) ≡ true) [
  | true ↦ h
  | false ↦ list_any-append p names (name ∷ []) ∙ rw h refl
]

stays_all : (p : Word → Bool) (names : List Word) (rs : List Record) → list_any p names ≡ true → list_any p (names_behind names rs) ≡ true
unfolding names_behind
stays_all p names [] h = h
stays_all p names (r ∷ rs) h = stays_all p (with_name names (name_of r)) rs (stays p names (name_of r) h)

or_true : (b : Bool) → (b || (true || false)) ≡ true
or_true true = refl
or_true false = refl

comes : (names : List Word) (name : Word) → knows name (with_name names name) ≡ true
comes names name = elim (cases_Bool (knows name names)) [
  | inl old ↦ rw old old
  | inr new ↦ rw new (list_any-append (λ n. bytes_eq n name) names (name ∷ []) ∙ rw (same_bytes name) (or_true (knows name names)))
]

pub unknown : (name : Word) (names : List Word) (rs : List Record) → knows name (names_behind names rs) ≡ false → own name rs ≡ []
unfolding names_behind
unknown name names [] h = refl
unknown name names (r ∷ rs) h = elim (cases_Bool (bytes_eq name (name_of r))) [
  | inl is ↦
      let e : name ≡ name_of r = (bytes_eq-Decides name (name_of r)).0 is in
      let there : knows name (with_name names (name_of r)) ≡ true = subst (λ (n : Word). knows name (with_name names n) ≡ true) e (comes names name) in
      let all = stays_all (λ n. bytes_eq n name) (with_name names (name_of r)) rs there in
      absurd cc
  | inr other ↦ rw other (unknown name (with_name names (name_of r)) rs h)
]

-- ---- no name stands twice

neither : (a b : Bool) → (a || b) ≡ false → (a ≡ false) × (b ≡ false)
neither true b e = absurd cc
neither false b e = (refl, e)

last_differs : (names : List Word) (name : Word) → AllDiffer names → knows name names ≡ false → AllDiffer (names ++ name ∷ [])
last_differs [] name differ none = (refl, tt)
last_differs (first ∷ names) name differ none =
    let parts = neither (bytes_eq first name) (knows name names) none in
    (list_any-append (λ n. bytes_eq n first) names (name ∷ []) ∙ rw (differ.0, differ_sym first name parts.0) refl, last_differs names name differ.1 parts.1)

with_name_differs : (names : List Word) (name : Word) → AllDiffer names → AllDiffer (with_name names name)
with_name_differs names name differ = elim (cases_Bool (knows name names)) [
  | inl old ↦ rw old differ
  | inr new ↦ rw new (last_differs names name differ new)
]

all_differ : (names : List Word) (rs : List Record) → AllDiffer names → AllDiffer (names_behind names rs)
unfolding names_behind
all_differ names [] differ = differ
all_differ names (r ∷ rs) differ = all_differ (with_name names (name_of r)) rs (with_name_differs names (name_of r) differ)

pub names_differ : (rs : List Record) → AllDiffer (names_of rs)
names_differ rs = all_differ [] rs tt

-- ---- the names of records

all_known : (names : List Word) (rs : List Record) → AllByRecursion (λ r. knows (name_of r) (names_behind names rs) ≡ true) rs
unfolding names_behind
all_known names [] = tt
all_known names (r ∷ rs) = (stays_all (λ n. bytes_eq n (name_of r)) (with_name names (name_of r)) rs (comes names (name_of r)), all_known (with_name names (name_of r)) rs)

both : (a b : Bool) → (not a && b) ≡ true → (a ≡ false) × (b ≡ true)
both true b e = absurd cc
both false b e = (refl, e)

-- the first stands among items of which none is the second
alone : (first second : Word → Bool) (names : List Word) → list_any first names ≡ true → list_any second names ≡ false → earlier first second names ≡ true
alone first second [] some none = absurd cc
alone first second (name ∷ names) some none =
    let no = neither (second name) (list_any second names) none in
    elim (cases_Bool (first name)) [
      | inl is ↦ rw (no.0, is) refl
      | inr other ↦ let rest : list_any first names ≡ true = rw other at some in rw (no.0, other) (alone first second names rest no.1)
    ]

-- it stays so when more names follow
earlier_more : (first second : Word → Bool) (names : List Word) (name : Word) → earlier first second names ≡ true → earlier first second (names ++ name ∷ []) ≡ true
earlier_more first second [] name e = absurd cc
earlier_more first second (n ∷ names) name e =
    let parts = both (second n) (first n || earlier first second names) e in
    elim (cases_Bool (first n)) [
      | inl is ↦ rw (parts.0, is) refl
      | inr other ↦ let rest : earlier first second names ≡ true = rw other at parts.1 in rw (parts.0, other) (earlier_more first second names name rest)
    ]

earlier_with : (first second : Word → Bool) (names : List Word) (name : Word) → earlier first second names ≡ true → earlier first second (with_name names name) ≡ true
earlier_with first second names name e = elim (knows name names) as (λ b. earlier first second (cond b names (names ++ name ∷ [])) ≡ true) [
  | true ↦ e
  | false ↦ earlier_more first second names name e
]

earlier_behind : (first second : Word → Bool) (names : List Word) (rs : List Record) → earlier first second names ≡ true → earlier first second (names_behind names rs) ≡ true
unfolding names_behind
earlier_behind first second names [] e = e
earlier_behind first second names (r ∷ rs) e = earlier_behind first second (with_name names (name_of r)) rs (earlier_with first second names (name_of r) e)

none_with : (second : Word → Bool) (names : List Word) (name : Word) → second name ≡ false → list_any second names ≡ false → list_any second (with_name names name) ≡ false
none_with second names name differs none = elim (knows name names) as (λ b. list_any second (cond b names (names ++ name ∷ [])) ≡ false) [
  | true ↦ none
  | false ↦ list_any-append second names (name ∷ []) ∙ rw (none, differs) refl
]

in_order : (a b : Word) (names : List Word) (rs : List Record) → knows b names ≡ false → earlier (λ (r : Record). bytes_eq (name_of r) a) (λ (r : Record). bytes_eq (name_of r) b) rs ≡ true
    → earlier (λ (name : Word). bytes_eq name a) (λ (name : Word). bytes_eq name b) (names_behind names rs) ≡ true
unfolding names_behind
in_order a b names [] none e = absurd cc
in_order a b names (r ∷ rs) none e =
    let parts = both (bytes_eq (name_of r) b) (bytes_eq (name_of r) a || earlier (λ (r : Record). bytes_eq (name_of r) a) (λ (r : Record). bytes_eq (name_of r) b) rs) e in
    let late = none_with (λ (name : Word). bytes_eq name b) names (name_of r) parts.0 none in
    elim (cases_Bool (bytes_eq (name_of r) a)) [
      | inl is ↦
          let same : name_of r ≡ a = (bytes_eq-Decides (name_of r) a).0 is in
          let there : knows a (with_name names (name_of r)) ≡ true = subst (λ (n : Word). knows n (with_name names (name_of r)) ≡ true) same (comes names (name_of r)) in
          earlier_behind (λ (name : Word). bytes_eq name a) (λ (name : Word). bytes_eq name b) (with_name names (name_of r)) rs (alone (λ (name : Word). bytes_eq name a) (λ (name : Word). bytes_eq name b) (with_name names (name_of r)) there late)
      | inr other ↦ in_order a b (with_name names (name_of r)) rs late (rw other at parts.1)
    ]

-- each stands once, each record's is among them, and they stand in the order of their first records
pub names_are_of : (rs : List Record) → AreNames rs (names_of rs)
names_are_of rs = record { once = names_differ rs; all = all_known [] rs; order = λ a b e. in_order a b [] rs refl e }
