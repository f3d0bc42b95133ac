-- The next line of a log.
use Rattle.std.proofs.Common.{◌≡◌, ℕ, true, false, [], ◌∷◌, refl, ap, sym, ◌∙◌, arith, Some, None}
use Rattle.std.specs.Prelude.{Option, Ok, Err, codes}
use Rattle.vp_text.specs.Lines.{Feed, WordLine}
use Rattle.vp_text.specs.Reading.{behind, only_is}
use Rattle.vp_text.proofs.Rows.{only_word}
use Rattle.vp_loggram.specs.Reading.{event_of}
use Rattle.vp_loggram.specs.Sections.{GivesGame, HasEnd, HasGame, events_in_front, games_skipped}
use Rattle.vp_loggram.specs.declared.event.Event.{Event}
use Rattle.vp_loggram.proofs.Games_grammar.{end_no_event}

module _ (n : ℕ) (old new : Feed) (line : WordLine) (split : old.lines ≡ line ∷ new.lines) (past : new.past ≡ old.past) (last : new.last ≡ line.line) where
  same : behind line new.lines old.past ≡ new
  same = rw (← past, ← last) refl

  -- a game
  pub has_game : (e : Event) → only_is (codes "end") line.words ≡ false → event_of n line.words ≡ Some e → HasGame n old new e
  unfolding events_in_front games_skipped
  has_game e no_end read = record {
    front = rw (split, read) refl;
    skipped = rw (split, no_end, read, past) refl;
    fewer = rw split (omega arith);
  }

  -- the end
  pub has_end : only_is (codes "end") line.words ≡ true → HasEnd n old new
  unfolding events_in_front games_skipped
  has_end end =
      let none : event_of n line.words ≡ None = ap (event_of n) (sym (only_word (codes "end") line.words end)) ∙ end_no_event n in
      record {
        front = rw (split, none) refl;
        skipped = rw (split, end) (ap (λ (f : Feed). Ok (tt, f)) same);
      }

  -- a line that is neither
  pub has_neither : only_is (codes "end") line.words ≡ false → event_of n line.words ≡ None → games_skipped n old ≡ Err line.line
  unfolding games_skipped
  has_neither no_end none = rw (split, no_end, none) refl

-- no line is left
pub has_nothing : (n : ℕ) (old : Feed) → old.lines ≡ [] → games_skipped n old ≡ Err old.past.line
unfolding games_skipped
has_nothing n old none = rw none refl

-- ---- what was read

-- a game was
pub game_read : (n : ℕ) (old new : Feed) (given : Option Event) (e : Event) → given ≡ Some e → GivesGame n old new (Ok given) → HasGame n old new e
game_read n old new given e is read = rw is at read

-- the end was
pub end_read : (n : ℕ) (old new : Feed) (given : Option Event) → given ≡ None → GivesGame n old new (Ok given) → HasEnd n old new
end_read n old new given is read = rw is at read
