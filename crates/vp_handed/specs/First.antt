-- The first six of the words that are handed over: no command has more.
use Rattle.std.specs.Prelude.{◌≡◌, ℕ, List, take}
use Rattle.vp_text.specs.Lines.{Word}
use Rattle.vp_handed.specs.Words.{AreWords}

-- these are the first six of the words that the bytes are
abbrev pub AreFirst : List Word → List ℕ → Type 0
AreFirst first bytes = (given : List Word) → AreWords given bytes → first ≡ take 6 given
