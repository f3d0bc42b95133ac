-- Whether an answer may want memory.
use Rattle.std.specs.Prelude.{◌≡◌, ◌<◌, ◌⊎◌, ℕ, Bool, true, false, Result, Ok, Err}
use Rattle.vp_answer.specs.declared.stop.Stop.{Stop}

-- what was read needs no memory beside its words; nor does an input that is stopped at
abbrev pub alone_read : {W : Type 0} → (W → Bool) → Result W Stop → Bool
alone_read alone (Ok work) = alone work
alone_read alone (Err stop) = true

-- it needs words of memory, or memory beside them
abbrev pub TakesMemory : ℕ → Bool → Type 0
TakesMemory words alone = (0 < words) ⊎ (alone ≡ false)
