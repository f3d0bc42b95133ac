-- The bytes that wait in a block, when more come and some are put.
use Rattle.std.proofs.Common.{◌≡◌, ℕ, ◌+◌, ◌-◌, ◌≤◌, List, ◌++◌, length, take, drop, sym, ap, ◌∙◌, arith, length-take, length-drop}
use Rattle.std.proofs.lemmas.List.{drop-take, drop-drop, drop-append-le}
use Rattle.vp_io.specs.Blocks.{waiting_in}

-- how many bytes wait
pub waiting_length : (first used : ℕ) (block : List ℕ) → used ≤ length block → length (waiting_in first used block) ≡ used - first
unfolding waiting_in
waiting_length first used block within = omega (arith, length-drop first (take used block), length-take used block)

-- the bytes from the first to the last wait
pub waiting_part : (first used : ℕ) (block : List ℕ) → first ≤ used → take (used - first) (drop first block) ≡ waiting_in first used block
unfolding waiting_in
waiting_part first used block le =
    let whole : first + (used - first) ≡ used = omega arith in
    sym (drop-take first (used - first) block) ∙ ap (λ (n : ℕ). drop first (take n block)) whole

-- the first bytes no longer wait
pub waiting_behind : (first used count : ℕ) (block : List ℕ) → waiting_in (first + count) used block ≡ drop count (waiting_in first used block)
unfolding waiting_in
waiting_behind first used count block = sym (drop-drop count first (take used block))

-- more bytes wait, behind the others
pub waiting_grown : (first used more : ℕ) (block after piece : List ℕ) → first ≤ used → used ≤ length block → take more after ≡ take used block ++ piece → waiting_in first more after ≡ waiting_in first used block ++ piece
unfolding waiting_in
waiting_grown first used more block after piece le within is =
    ap (drop first) is ∙ drop-append-le first (take used block) piece (omega (arith, length-take used block))
