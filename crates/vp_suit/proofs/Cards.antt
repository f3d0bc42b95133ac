-- Cards and deals that are turned.
use Rattle.std.proofs.Common.{◌≡◌, inl, inr, ℕ, ◌+◌, ◌*◌, ◌/◌, ◌%◌, ◌<◌, ◌≤◌, ◌==◌, List, [], ◌∷◌, length, map, refl, ap, sym, ◌∙◌, arith, append-nil}
use Rattle.std.proofs.lemmas.List.{length-map}
use Rattle.std.proofs.lemmas.Bool.{cases_eq, cases_lt, eq-eqb, ne_eqb, lt-ltb, le-ltb}
use Rattle.vp_card.specs.Cards.{joined}
use Rattle.vp_card.specs.Rising.{times, IsRising}
use Rattle.vp_card.proofs.Rising.{times-joined, rising-joined, rising_same, times-rising, joined-rising, length-joined}
use Rattle.vp_suit.specs.Turns.{turned_suit, turned, turn}
use Rattle.vp_suit.proofs.Group.{suit_small, product, product_inside, suit_joined, inverse, inverse_inside, suit_back, suit_forth, suit_first}

-- a natural card keeps its rank
pub turned-natural : (t c : ℕ) → c < 52 → turned t c ≡ 4 * (c / 4) + turned_suit t (c % 4)
unfolding turned
turned-natural t c l = rw (lt-ltb c 52 l) refl

-- a joker stays
pub turned-joker : (t c : ℕ) → 52 ≤ c → turned t c ≡ c
unfolding turned
turned-joker t c l = rw (le-ltb c 52 l) refl

parts_of : (q r : ℕ) → r < 4 → ((4 * q + r) / 4 ≡ q) × ((4 * q + r) % 4 ≡ r)
parts_of q r l = (omega arith, omega arith)

-- a turned card is of the deck
pub turned_below : (n t c : ℕ) → 52 ≤ n → t < 24 → c < n → turned t c < n
turned_below n t c big l inside = elim (cases_lt c 52) [
  | inl natural ↦ let s : turned_suit t (c % 4) < 4 = suit_small t (c % 4) l (omega arith) in rw (turned-natural t c natural) (omega arith)
  | inr joker ↦ rw (turned-joker t c joker) inside
]

-- two turns after one another
twice : (s t c : ℕ) → s < 24 → t < 24 → c < 52 → turned s (turned t c) ≡ 4 * (c / 4) + turned_suit s (turned_suit t (c % 4))
twice s t c ls lt natural =
    let small : turned_suit t (c % 4) < 4 = suit_small t (c % 4) lt (omega arith) in
    let e : turned t c ≡ 4 * (c / 4) + turned_suit t (c % 4) = turned-natural t c natural in
    let p = parts_of (c / 4) (turned_suit t (c % 4)) small in
    let low : 4 * (c / 4) + turned_suit t (c % 4) < 52 = omega arith in
    rw (e, turned-natural s (4 * (c / 4) + turned_suit t (c % 4)) low, p.0, p.1) refl

pub turned_joined : (s t c : ℕ) → s < 24 → t < 24 → turned s (turned t c) ≡ turned (product s t) c
turned_joined s t c ls lt = elim (cases_lt c 52) [
  | inl natural ↦ twice s t c ls lt natural ∙ ap (λ x. 4 * (c / 4) + x) (suit_joined s t (c % 4) ls lt (omega arith)) ∙ sym (turned-natural (product s t) c natural)
  | inr joker ↦ rw (turned-joker t c joker, turned-joker s c joker, turned-joker (product s t) c joker) refl
]

same_suit : (c x : ℕ) → x ≡ c % 4 → 4 * (c / 4) + x ≡ c
same_suit c x e = omega arith

pub turned_back : (t c : ℕ) → t < 24 → turned (inverse t) (turned t c) ≡ c
turned_back t c l = elim (cases_lt c 52) [
  | inl natural ↦ twice (inverse t) t c (inverse_inside t l) l natural ∙ same_suit c _ (suit_back t (c % 4) l (omega arith))
  | inr joker ↦ rw (turned-joker t c joker, turned-joker (inverse t) c joker) refl
]

pub turned_forth : (t c : ℕ) → t < 24 → turned t (turned (inverse t) c) ≡ c
turned_forth t c l = elim (cases_lt c 52) [
  | inl natural ↦ twice t (inverse t) c l (inverse_inside t l) natural ∙ same_suit c _ (suit_forth t (c % 4) l (omega arith))
  | inr joker ↦ rw (turned-joker (inverse t) c joker, turned-joker t c joker) refl
]

pub turned_first : (c : ℕ) → turned 0 c ≡ c
turned_first c = elim (cases_lt c 52) [
  | inl natural ↦ turned-natural 0 c natural ∙ same_suit c _ (suit_first (c % 4) (omega arith))
  | inr joker ↦ turned-joker 0 c joker
]

-- ---- lists of cards

-- how often a card stands among turned cards
pub times-mapped : (t : ℕ) (cards : List ℕ) (x : ℕ) → t < 24 → times x (map (λ card. turned t card) cards) ≡ times (turned (inverse t) x) cards
times-mapped t [] x l = refl
times-mapped t (c ∷ cards) x l =
    let rest : times x (map (λ card. turned t card) cards) ≡ times (turned (inverse t) x) cards = times-mapped t cards x l in
    let test : (turned t c == x) ≡ (c == turned (inverse t) x) = elim (cases_eq (turned t c) x) [
      | inl s ↦ eq-eqb _ _ s ∙ sym (eq-eqb _ _ (sym (turned_back t c l) ∙ ap (λ y. turned (inverse t) y) s))
      | inr d ↦ ne_eqb _ _ d ∙ sym (ne_eqb _ _ (λ e. d (ap (λ y. turned t y) e ∙ turned_forth t x l)))
    ] in
    rw (test, rest) refl

-- a turned deal rises
pub turn-rising : (t : ℕ) (cards : List ℕ) → t < 24 → IsRising cards → IsRising (turn t cards)
unfolding turn
turn-rising t cards l rising = rising-joined (map (λ card. turned t card) cards) [] tt (λ x.
    let e : times x (map (λ card. turned t card) cards) ≡ times (turned (inverse t) x) cards = times-mapped t cards x l in
    let few : times (turned (inverse t) x) cards ≤ 1 = times-rising (turned (inverse t) x) cards rising in
    rw append-nil (omega arith))

-- how often a card stands in a turned deal
pub times-turn : (t : ℕ) (cards : List ℕ) (x : ℕ) → t < 24 → times x (turn t cards) ≡ times (turned (inverse t) x) cards
unfolding turn
times-turn t cards x l = omega (arith, times-joined x (map (λ card. turned t card) cards) [], times-mapped t cards x l)

times_product : (s t : ℕ) (cards : List ℕ) (x : ℕ) → s < 24 → t < 24 → times x (map (λ card. turned s card) (map (λ card. turned t card) cards)) ≡ times x (map (λ card. turned (product s t) card) cards)
times_product s t [] x ls lt = refl
times_product s t (c ∷ cards) x ls lt =
    let rest : times x (map (λ card. turned s card) (map (λ card. turned t card) cards)) ≡ times x (map (λ card. turned (product s t) card) cards) = times_product s t cards x ls lt in
    rw (turned_joined s t c ls lt, rest) refl

-- two turns of a deal are one
pub turn_joined : (s t : ℕ) (cards : List ℕ) → s < 24 → t < 24 → IsRising cards → turn s (turn t cards) ≡ turn (product s t) cards
turn_joined s t cards ls lt rising =
    rising_same (turn s (turn t cards)) (turn (product s t) cards) (turn-rising s (turn t cards) ls (turn-rising t cards lt rising)) (turn-rising (product s t) cards (product_inside s t ls lt) rising) (λ x.
    let a : times x (turn s (turn t cards)) ≡ times (turned (inverse s) x) (turn t cards) = times-turn s (turn t cards) x ls in
    let b : times (turned (inverse s) x) (turn t cards) ≡ times (turned (inverse s) x) (map (λ card. turned t card) cards) = times-turn t cards (turned (inverse s) x) lt ∙ sym (times-mapped t cards (turned (inverse s) x) lt) in
    let c : times x (map (λ card. turned s card) (map (λ card. turned t card) cards)) ≡ times (turned (inverse s) x) (map (λ card. turned t card) cards) = times-mapped s (map (λ card. turned t card) cards) x ls in
    let d : times x (map (λ card. turned s card) (map (λ card. turned t card) cards)) ≡ times x (map (λ card. turned (product s t) card) cards) = times_product s t cards x ls lt in
    let e : times x (turn (product s t) cards) ≡ times x (map (λ card. turned (product s t) card) cards) = times-turn (product s t) cards x (product_inside s t ls lt) ∙ sym (times-mapped (product s t) cards x (product_inside s t ls lt)) in
    omega arith)

-- a turned deal is turned back
pub turn_back : (t : ℕ) (cards : List ℕ) → t < 24 → IsRising cards → turn (inverse t) (turn t cards) ≡ cards
turn_back t cards l rising =
    rising_same (turn (inverse t) (turn t cards)) cards (turn-rising (inverse t) (turn t cards) (inverse_inside t l) (turn-rising t cards l rising)) rising (λ x.
    let a : times x (turn (inverse t) (turn t cards)) ≡ times (turned (inverse (inverse t)) x) (turn t cards) = times-turn (inverse t) (turn t cards) x (inverse_inside t l) in
    let e : turned (inverse (inverse t)) x ≡ turned t x = ap (λ y. turned (inverse (inverse t)) y) (sym (turned_back t x l)) ∙ turned_back (inverse t) (turned t x) (inverse_inside t l) in
    let b : times (turned t x) (turn t cards) ≡ times (turned (inverse t) (turned t x)) cards = times-turn t cards (turned t x) l in
    let c : times (turned (inverse t) (turned t x)) cards ≡ times x cards = ap (λ y. times y cards) (turned_back t x l) in
    a ∙ ap (λ y. times y (turn t cards)) e ∙ b ∙ c)

mapped_first : (cards : List ℕ) → map (λ card. turned 0 card) cards ≡ cards
mapped_first [] = refl
mapped_first (c ∷ cards) = rw (turned_first c, mapped_first cards) refl

-- the first turn changes nothing
pub turn_first : (cards : List ℕ) → IsRising cards → turn 0 cards ≡ cards
unfolding turn
turn_first cards rising = ap (λ (x : List ℕ). joined x []) (mapped_first cards) ∙ joined-rising cards rising

-- a turned deal has as many cards
pub turn-length : (t : ℕ) (cards : List ℕ) → length (turn t cards) ≡ length cards
unfolding turn
turn-length t cards = omega (arith, length-joined (map (λ card. turned t card) cards) [], length-map cards (λ card. turned t card))
