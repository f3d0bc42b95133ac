-- The faces of a hand are its natural cards and a freely chosen list, one natural card for each wild card.
use Rattle.std.proofs.Common.{◌≡◌, ℕ, ◌+◌, ◌<◌, Bool, true, false, ltb, List, [], ◌∷◌, length, refl, sym, ap, ◌∙◌, subst, inl, inr, arith, suc, Option}
use Rattle.std.specs.Bool.{MatchBool, Decides}
use Rattle.std.specs.List.{count_by}
use Rattle.std.proofs.lemmas.Bool.{cases_Bool, ltb-true, lt-ltb, and_parts, and_from}
use Rattle.vp_rank.specs.Wilds.{is_wild, wilds, naturals}
use Rattle.vp_rank.proofs.BoundedTests.{same_tests, Below, some_below-to, some_below-from}
use Rattle.vp_rank.proofs.CountLemmas.{tally, count_by-cons, count_yes, count_no, naturals_yes, naturals_no, all_natural}
use Rattle.vp_wild.specs.Faces.{MayStandFor, AreFaces, some_face, some_faces}

-- the faces f of a hand are its natural cards and the chosen cards g
pub record Chosen (w : Option ℕ) (hand f g : List ℕ) : Type 0 where
  pub size : length g ≡ wilds w hand
  pub natural : all_natural g ≡ true
  pub counts : (p : ℕ → Bool) → count_by p f ≡ count_by p (naturals w hand) + count_by p g
  pub long : length f ≡ length (naturals w hand) + length g

chosen_wild : (w : Option ℕ) (c x : ℕ) (hand f g : List ℕ) → is_wild w c ≡ true → x < 52 → Chosen w hand f g → Chosen w (c ∷ hand) (x ∷ f) (x ∷ g)
chosen_wild w c x hand f g wild low chosen =
    let more : wilds w (c ∷ hand) ≡ 1 + wilds w hand = count_yes (is_wild w) c hand wild in
    let same : naturals w (c ∷ hand) ≡ naturals w hand = naturals_yes w c hand wild in
    let short : length (naturals w (c ∷ hand)) ≡ length (naturals w hand) = ap length same in
    record {
      size = let s : length g ≡ wilds w hand = chosen.size in omega arith;
      natural = and_from (ltb x 52) (all_natural g) (lt-ltb x 52 low) chosen.natural;
      counts = λ p.
          let s : count_by p f ≡ count_by p (naturals w hand) + count_by p g = chosen.counts p in
          let a : count_by p (x ∷ f) ≡ tally (p x) + count_by p f = count_by-cons p x f in
          let b : count_by p (x ∷ g) ≡ tally (p x) + count_by p g = count_by-cons p x g in
          let n : count_by p (naturals w (c ∷ hand)) ≡ count_by p (naturals w hand) = ap (count_by p) same in
          omega arith;
      long = let l : length f ≡ length (naturals w hand) + length g = chosen.long in omega arith;
    }

chosen_plain : (w : Option ℕ) (c x : ℕ) (hand f g : List ℕ) → is_wild w c ≡ false → x ≡ c → Chosen w hand f g → Chosen w (c ∷ hand) (x ∷ f) g
chosen_plain w c x hand f g plain e chosen =
    let more : wilds w (c ∷ hand) ≡ wilds w hand = count_no (is_wild w) c hand plain in
    let same : naturals w (c ∷ hand) ≡ c ∷ naturals w hand = naturals_no w c hand plain in
    let longer : length (naturals w (c ∷ hand)) ≡ suc (length (naturals w hand)) = ap length same in
    record {
      size = chosen.size ∙ sym more;
      natural = chosen.natural;
      counts = λ p.
          let s : count_by p f ≡ count_by p (naturals w hand) + count_by p g = chosen.counts p in
          let a : count_by p (x ∷ f) ≡ tally (p x) + count_by p f = count_by-cons p x f in
          let t : tally (p x) ≡ tally (p c) = ap (λ (y : ℕ). tally (p y)) e in
          let n : count_by p (naturals w (c ∷ hand)) ≡ tally (p c) + count_by p (naturals w hand) =
          ap (count_by p) same ∙ count_by-cons p c (naturals w hand) in
          omega arith;
      long = let l : length f ≡ length (naturals w hand) + length g = chosen.long in omega arith;
    }

-- some chosen cards, for faces that a hand has
pub record Parts (w : Option ℕ) (hand f : List ℕ) : Type 0 where
  pub chosen : List ℕ
  pub are : Chosen w hand f chosen

parts_more : (w : Option ℕ) (c x : ℕ) (hand f : List ℕ) (b : Bool) → is_wild w c ≡ b → MatchBool b (x < 52) (x ≡ c) → Parts w hand f → Parts w (c ∷ hand) (x ∷ f)
parts_more w c x hand f true e low parts = record { chosen = x ∷ parts.chosen; are = chosen_wild w c x hand f parts.chosen e low parts.are }
parts_more w c x hand f false e same parts = record { chosen = parts.chosen; are = chosen_plain w c x hand f parts.chosen e same parts.are }

pub parts_of : (w : Option ℕ) (hand f : List ℕ) → AreFaces w hand f → Parts w hand f
parts_of w [] [] h = record { chosen = []; are = record { size = refl; natural = refl; counts = λ p. refl; long = refl } }
parts_of w [] (x ∷ f) h = absurd h
parts_of w (c ∷ hand) [] h = absurd h
parts_of w (c ∷ hand) (x ∷ f) h = parts_more w c x hand f (is_wild w c) refl h.0 (parts_of w hand f h.1)

-- faces of a hand with these chosen cards
pub record Placed (w : Option ℕ) (hand g : List ℕ) : Type 0 where
  pub faces : List ℕ
  pub are : AreFaces w hand faces
  pub chosen : Chosen w hand faces g

may_wild : (w : Option ℕ) (c x : ℕ) → is_wild w c ≡ true → x < 52 → MayStandFor w c x
may_wild w c x e low = subst (λ (b : Bool). MatchBool b (x < 52) (x ≡ c)) (sym e) low

may_plain : (w : Option ℕ) (c : ℕ) → is_wild w c ≡ false → MayStandFor w c c
may_plain w c e = subst (λ (b : Bool). MatchBool b (c < 52) (c ≡ c)) (sym e) refl

pub place : (w : Option ℕ) (hand g : List ℕ) → length g ≡ wilds w hand → all_natural g ≡ true → Placed w hand g
place w [] [] size low = record { faces = []; are = tt; chosen = record { size = refl; natural = refl; counts = λ p. refl; long = refl } }
place w [] (x ∷ g) size low = absurd (let s : suc (length g) ≡ 0 = size in omega arith)
place w (c ∷ hand) g size low = place_more w c hand g size low (λ h s n. place w hand h s n)
  where
    place_wild : (w : Option ℕ) (c : ℕ) (hand g : List ℕ) → is_wild w c ≡ true → length g ≡ wilds w (c ∷ hand) → all_natural g ≡ true
        → ((h : List ℕ) → length h ≡ wilds w hand → all_natural h ≡ true → Placed w hand h) → Placed w (c ∷ hand) g
    place_wild w c hand [] wild size low rec =
        absurd (let more : wilds w (c ∷ hand) ≡ 1 + wilds w hand = count_yes (is_wild w) c hand wild in let s : 0 ≡ wilds w (c ∷ hand) = size in omega arith)
    place_wild w c hand (x ∷ g) wild size low rec =
        let more : wilds w (c ∷ hand) ≡ 1 + wilds w hand = count_yes (is_wild w) c hand wild in
        let parts = and_parts (ltb x 52) (all_natural g) low in
        let s : suc (length g) ≡ wilds w (c ∷ hand) = size in
        let rest : Placed w hand g = rec g (omega arith) parts.1 in
        let below : x < 52 = ltb-true x 52 parts.0 in
        record {
          faces = x ∷ rest.faces;
          are = (may_wild w c x wild below, rest.are);
          chosen = chosen_wild w c x hand rest.faces g wild below rest.chosen;
        }

    place_plain : (w : Option ℕ) (c : ℕ) (hand g : List ℕ) → is_wild w c ≡ false → length g ≡ wilds w (c ∷ hand) → all_natural g ≡ true
        → ((h : List ℕ) → length h ≡ wilds w hand → all_natural h ≡ true → Placed w hand h) → Placed w (c ∷ hand) g
    place_plain w c hand g plain size low rec =
        let same : wilds w (c ∷ hand) ≡ wilds w hand = count_no (is_wild w) c hand plain in
        let rest : Placed w hand g = rec g (size ∙ same) low in
        record {
          faces = c ∷ rest.faces;
          are = (may_plain w c plain, rest.are);
          chosen = chosen_plain w c c hand rest.faces g plain refl rest.chosen;
        }

    place_more : (w : Option ℕ) (c : ℕ) (hand g : List ℕ) → length g ≡ wilds w (c ∷ hand) → all_natural g ≡ true
        → ((h : List ℕ) → length h ≡ wilds w hand → all_natural h ≡ true → Placed w hand h) → Placed w (c ∷ hand) g
    place_more w c hand g size low rec =
        elim (cases_Bool (is_wild w c)) [
          | inl wild ↦ place_wild w c hand g wild size low rec
          | inr plain ↦ place_plain w c hand g plain size low rec
        ]

-- the test that tries all faces decides whether some faces pass

pub record Passed (w : Option ℕ) (hand : List ℕ) (test : List ℕ → Bool) : Type 0 where
  pub faces : List ℕ
  pub are : AreFaces w hand faces
  pub passes : test faces ≡ true

some_face-from : (c x : ℕ) (test : ℕ → Bool) (b : Bool) → MatchBool b (x < 52) (x ≡ c) → test x ≡ true → some_face b c test ≡ true
unfolding some_face
some_face-from c x test true low h = some_below-from 52 test x low h
some_face-from c x test false same h = subst (λ (y : ℕ). test y ≡ true) same h

record Face (b : Bool) (c : ℕ) (test : ℕ → Bool) : Type 0 where
  face : ℕ
  may : MatchBool b (face < 52) (face ≡ c)
  passes : test face ≡ true

some_face-to : (c : ℕ) (test : ℕ → Bool) (b : Bool) → some_face b c test ≡ true → Face b c test
unfolding some_face
some_face-to c test true h =
    let found : Below 52 test = some_below-to 52 test h in
    record { face = found.at; may = found.below; passes = found.holds }
some_face-to c test false h = record { face = c; may = refl; passes = h }

pub some_faces-from : (w : Option ℕ) (hand : List ℕ) (test : List ℕ → Bool) (f : List ℕ) → AreFaces w hand f → test f ≡ true → some_faces w hand test ≡ true
unfolding some_faces
some_faces-from w [] test [] are h = h
some_faces-from w [] test (x ∷ f) are h = absurd are
some_faces-from w (c ∷ hand) test [] are h = absurd are
some_faces-from w (c ∷ hand) test (x ∷ f) are h =
    some_face-from c x (λ face. some_faces w hand (λ faces. test (face ∷ faces))) (is_wild w c) are.0
    (some_faces-from w hand (λ faces. test (x ∷ faces)) f are.1 h)

pub some_faces-to : (w : Option ℕ) (hand : List ℕ) (test : List ℕ → Bool) → some_faces w hand test ≡ true → Passed w hand test
unfolding some_faces
some_faces-to w [] test h = record { faces = []; are = tt; passes = h }
some_faces-to w (c ∷ hand) test h =
    let first : Face (is_wild w c) c (λ face. some_faces w hand (λ faces. test (face ∷ faces))) =
    some_face-to c (λ face. some_faces w hand (λ faces. test (face ∷ faces))) (is_wild w c) h in
    let rest : Passed w hand (λ faces. test (first.face ∷ faces)) =
    some_faces-to w hand (λ faces. test (first.face ∷ faces)) first.passes in
    record { faces = first.face ∷ rest.faces; are = (first.may, rest.are); passes = rest.passes }

-- the test that tries all faces decides whether some faces pass
pub some_faces-Decides : (w : Option ℕ) (hand : List ℕ) (test : List ℕ → Bool) → Decides (some_faces w hand test) ((f : List ℕ) × AreFaces w hand f × (test f ≡ true))
some_faces-Decides w hand test = (
  (λ h. let p : Passed w hand test = some_faces-to w hand test h in (p.faces, p.are, p.passes)),
  (λ p. some_faces-from w hand test p.0 p.1 p.2),
)

-- cards to choose for the wild cards so that the faces pass
pub record Choice (w : Option ℕ) (hand : List ℕ) (test : List ℕ → Bool) : Type 0 where
  pub cards : List ℕ
  pub size : length cards ≡ wilds w hand
  pub natural : all_natural cards ≡ true
  pub passes : (f : List ℕ) → Chosen w hand f cards → test f ≡ true

-- what some faces pass, told by the natural cards and the chosen ones alone
pub some_faces-is : (w : Option ℕ) (hand : List ℕ) (test : List ℕ → Bool) (b : Bool)
    → ((f g : List ℕ) → Chosen w hand f g → test f ≡ true → b ≡ true)
    → (b ≡ true → Choice w hand test)
    → some_faces w hand test ≡ b
some_faces-is w hand test b only enough =
    same_tests (some_faces w hand test) b
    (λ h.
    let p : Passed w hand test = some_faces-to w hand test h in
    let parts : Parts w hand p.faces = parts_of w hand p.faces p.are in
    only p.faces parts.chosen parts.are p.passes)
    (λ h.
    let choice : Choice w hand test = enough h in
    let placed : Placed w hand choice.cards = place w hand choice.cards choice.size choice.natural in
    some_faces-from w hand test placed.faces placed.are (choice.passes placed.faces placed.chosen))
