-- `holds`: what it prints. Input and text are this program's own (docs/FORMATS.md, `vpoker holds`); the input is that of `deal`.
use Rattle.std.specs.Prelude.{◌≡◌, ◌<◌, ℕ, ◌-◌, List, refl, [], ◌∷◌, ◌++◌, length, codes, map, slice_index}
use Rattle.std.specs.Fmt.{decimal}
use Rattle.vp_card.specs.Cards.{held}
use Rattle.vp_card.specs.Texts.{card_text}
use Rattle.vp_text.specs.Lines.{Word}
use Rattle.vp_text.specs.Sections.{Text}
use Rattle.vp_text.specs.Written.{fraction, written}
use Rattle.vp_pay.specs.declared.table.PayTable.{PayTable}
use Rattle.vp_sets.specs.Sets.{deck}
use Rattle.vp_sets.specs.Draws.{common}
use Rattle.vp_draws.specs.Draws.{value}
use Rattle.vp_draws.specs.ByLine.{count_at, line_draws}
use Rattle.vp_answer.specs.Jobs.{Due}
use Rattle.vp_answer.proofs.SomeAnswers.{some_lines}
use Rattle.vp_deal.specs.Deal.{Dealt}
use Rattle.vp_holds.specs.Ranking.{ranked}

-- what the lines of a table pay for a bet, by their places
unfoldable pub line_pays : PayTable → ℕ → List ℕ
line_pays table coin = map (λ line. slice_index line.pays (coin - 1)) table.lines.items

-- a row for each hold, by its mask, with the numbers of its draws that end on each line, and at 32 on none
abbrev pub AreLineDraws : PayTable → List ℕ → List (List ℕ) → Type 0
AreLineDraws table hand counts = (mask place : ℕ) → mask < 32 → place < 33 → count_at counts mask place ≡ line_draws table place hand mask

-- how many draws of a hold end on each line of the table
unfoldable pub line_counts : Dealt → ℕ → List ℕ
line_counts d mask = map (λ place. line_draws d.table place d.hand mask) (deck (length d.table.lines.items))

-- how many end on none
abbrev pub none_count : Dealt → ℕ → ℕ
none_count d mask = line_draws d.table 32 d.hand mask

-- the line of a hold: its mask, the cards that it holds, its value over what all values stand over, how many of its draws end on each
-- pay line, and on none
abbrev pub hold_words : ℕ → List ℕ → ℕ → ℕ → List ℕ → ℕ → List Word
hold_words mask kept worth under lines none =
    codes "hold" ∷ decimal mask ∷ map card_text kept ++ (fraction worth under ++ (codes "draws" ∷ map decimal lines ++ decimal none ∷ []))

abbrev pub hold_line : Dealt → ℕ → List Word
hold_line d mask =
    hold_words mask (held mask d.hand) (value d.table d.coin d.hand mask) (common d.table.deck) (line_counts d mask) (none_count d mask)

-- the masks of the 32 holds by falling value, equal values by rising mask
abbrev pub masks_by_value : Dealt → List ℕ
masks_by_value d = ranked (value d.table d.coin d.hand) 32

-- what `holds` prints: the deal line of `deal`, and the 32 holds
abbrev pub holds_lines : Dealt → Text
holds_lines d = (codes "deal" ∷ map card_text d.hand) ∷ map (hold_line d) (masks_by_value d)

-- no words of memory, and the lines
abbrev pub holds_due : Dealt → Due
holds_due d = record { words = 0; text = written (holds_lines d) }

-- it has a line
abbrev pub holds_some : (d : Dealt) → 0 < length (holds_due d).text
holds_some d = some_lines (holds_lines d) refl
