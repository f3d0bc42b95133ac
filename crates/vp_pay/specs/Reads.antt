-- What a reader of a whole input returned.
use Rattle.std.specs.Prelude.{◌≡◌, ℕ, Result, Ok, Err}
use Rattle.vp_text.specs.declared.refused.Refused.{Refused}

-- the input says this value, seen so, or is refused at this line
abbrev pub Reads : {A B : Type 0} → (A → B) → Result A Refused → Result B ℕ → Type 0
Reads see (Ok read) input = input ≡ Ok (see read)
Reads see (Err refused) input = input ≡ Err refused.line
