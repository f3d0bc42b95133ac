-- An answer that was held back ends over the sink below as over the blocks.
use Rattle.std.proofs.Common.{◌≡◌, ◌⊎◌, inl, inr, ℕ, ◌+◌, ◌<◌, ◌≤◌, List, [], ◌∷◌, ◌++◌, length, take, refl, sym, ap, ◌∙◌, subst, arith, append-nil, length-append, Option, Some, None}
use Rattle.std.proofs.lemmas.List.{take-append-le, take-take, take_all, length-take}
use Rattle.std.specs.Io.KnownBytes.{Appends, Keeps, append_known}
use Rattle.std.proofs.Math.Seq.{take-append-add}
use Rattle.vp_io.specs.Blocks.{HoldsBack, told_by}
use Rattle.vp_io.specs.Causes.{Rose}
use Rattle.vp_io.specs.Streams.{Told, TookPart}
use Rattle.vp_answer.specs.Answers.{Answer}
use Rattle.vp_answer.specs.Closing.{Closed, ClosedOff, ClosedShort, ClosedWell, TookNothing}
use Rattle.vp_answer.specs.Outcome.{Answered, CutOff, Silent, Outcome, Unread}
use Rattle.vp_answer.specs.declared.status.Status.{Status}
use Rattle.vp_answer.specs.declared.status.Status.TheVariants.{Done, Finding, Usage, Refused, ReadFault, WriteFault, NoMemory, TooLong}

-- what a sink tells over which nothing is held back yet
abbrev pub at_first : Told → Told
at_first before = record { bytes = append_known before.bytes []; faults = before.faults }

-- ---- the bytes of the sink below: b before, c when the answer was held back, and a at the end

whole_text : (b c a : Option (List ℕ)) (waiting text : List ℕ) → Appends (append_known b []) (append_known c waiting) text → Appends c a waiting → Appends b a text
whole_text None c a waiting text p k = tt
whole_text (Some x) None a waiting text p k = absurd p
whole_text (Some x) (Some y) None waiting text p k = absurd k
whole_text (Some x) (Some y) (Some z) waiting text p k = k ∙ (p ∙ ap (λ (l : List ℕ). l ++ text) (append-nil x))

front_none : (y waiting : List ℕ) → y ++ waiting ≡ [] → y ≡ []
front_none [] waiting none = refl
front_none (c ∷ y) waiting none = absurd (cc)

nothing_new : (b c : Option (List ℕ)) (waiting : List ℕ) → TookNothing b → Keeps (append_known b []) (append_known c waiting) → Keeps b c
nothing_new None c waiting fresh p = tt
nothing_new (Some x) None waiting fresh p = absurd p
nothing_new (Some x) (Some y) waiting fresh p = front_none y waiting (p ∙ (append-nil x ∙ fresh)) ∙ sym fresh

-- a part of what was held back was put
part_text : (b c a : Option (List ℕ)) (waiting text : List ℕ) → TookNothing b → 0 < length text → Appends (append_known b []) (append_known c waiting) text → TookPart c a waiting → TookPart b a text
part_text None c a waiting text fresh some p k = (0, some, tt)
part_text (Some x) None a waiting text fresh some p k = absurd p
part_text (Some x) (Some y) None waiting text fresh some p (n, less, k) = absurd k
part_text (Some x) (Some y) (Some z) waiting text fresh some p (n, less, k) =
    let whole : y ++ waiting ≡ text = p ∙ ap (λ (l : List ℕ). l ++ text) (append-nil x ∙ fresh) in
    let front : z ≡ take (length y + n) text = k ∙ (sym (take-append-add y waiting n) ∙ ap (take (length y + n)) whole) in
    (length y + n, omega (arith, ap length whole, length-append y waiting), rw fresh front)

-- a part of a text was held back, and what waits of it was not put
part_part : (b c : Option (List ℕ)) (waiting text : List ℕ) → TookNothing b → TookPart (append_known b []) (append_known c waiting) text → TookPart b c text
part_part None c waiting text fresh (n, less, p) = (n, less, tt)
part_part (Some x) None waiting text fresh (n, less, p) = absurd p
part_part (Some x) (Some y) waiting text fresh (n, less, p) =
    let whole : y ++ waiting ≡ take n text = p ∙ ap (λ (l : List ℕ). l ++ take n text) (append-nil x ∙ fresh) in
    let short : length y ≤ n = omega (arith, ap length whole, length-append y waiting, length-take n text) in
    let front : y ≡ take (length y) text = sym (sym (take-take (length y) n text short) ∙ (ap (take (length y)) (sym whole) ∙ (take-append-le (length y) y waiting (omega arith) ∙ take_all (length y) y (omega arith)))) in
    (length y, omega arith, rw fresh front)

-- ---- the ends

answered_well : (due : Answer) (before : Told) (held : HoldsBack) (after : Told) (status ended : Status) → Answered due (at_first before) (told_by held) status
    → ClosedWell status held after ended → Answered due before after ended
answered_well due before held after status ended answered closed = record {
  is = closed.is ∙ answered.is;
  text = whole_text before.bytes held.below.bytes after.bytes held.held.bytes due.text answered.text closed.put;
  no_fault = closed.no_fault ∙ answered.no_fault;
}

answered_short : (due : Answer) (before : Told) (held : HoldsBack) (after : Told) (status ended : Status) → TookNothing before.bytes → 0 < length due.text
    → Answered due (at_first before) (told_by held) status → ClosedShort held after ended → CutOff due before after
answered_short due before held after status ended fresh some answered closed = record {
  part = part_text before.bytes held.below.bytes after.bytes held.held.bytes due.text fresh some answered.text closed.part;
  rose = subst (λ (n : ℕ). Rose n after.faults) answered.no_fault closed.rose;
  later = omega (arith, answered.no_fault, closed.later);
}

cut_off : (due : Answer) (before : Told) (held : HoldsBack) (after : Told) (status ended : Status) → TookNothing before.bytes
    → CutOff due (at_first before) (told_by held) → ClosedOff status held after ended → CutOff due before after
cut_off due before held after status ended fresh cut closed =
    subst (λ (t : Told). CutOff due before t) (sym closed.same) (record {
      part = part_part before.bytes held.below.bytes held.held.bytes due.text fresh cut.part;
      rose = cut.rose;
      later = cut.later;
    })

silent_off : (before : Told) (held : HoldsBack) (after : Told) (status ended : Status) → TookNothing before.bytes
    → Silent (at_first before) (told_by held) → ClosedOff status held after ended → Silent before after
silent_off before held after status ended fresh silent closed =
    subst (λ (t : Told). Silent before t) (sym closed.same) (record {
      same = nothing_new before.bytes held.below.bytes held.held.bytes fresh silent.same;
      no_fault = silent.no_fault;
    })

-- words that need no input
unread_well : (due : Answer) (before : Told) (held : HoldsBack) (after : Told) (status ended : Status) → (Answered due before after status → Unread due before after status)
    → (CutOff due before after → Unread due before after WriteFault) → TookNothing before.bytes → 0 < length due.text
    → Answered due (at_first before) (told_by held) status → ClosedWell status held after ended ⊎ ClosedShort held after ended → Unread due before after ended
unread_well due before held after status ended well short fresh some answered (inl closed) =
    subst (λ (s : Status). Unread due before after s) (sym closed.is) (well (subst (λ (s : Status). Answered due before after s) closed.is (answered_well due before held after status ended answered closed)))
unread_well due before held after status ended well short fresh some answered (inr closed) =
    subst (λ (s : Status). Unread due before after s) (sym closed.is) (short (answered_short due before held after status ended fresh some answered closed))

pub unread_closed : (due : Answer) (before : Told) (held : HoldsBack) (after : Told) (status ended : Status) → TookNothing before.bytes → 0 < length due.text
    → Unread due (at_first before) (told_by held) status → Closed status held after ended → Unread due before after ended
unread_closed due before held after ReadFault ended fresh some unread closed = absurd unread
unread_closed due before held after TooLong ended fresh some unread closed = absurd unread
unread_closed due before held after NoMemory ended fresh some unread closed = absurd unread
unread_closed due before held after WriteFault ended fresh some unread closed =
    subst (λ (s : Status). Unread due before after s) (sym closed.is) (cut_off due before held after WriteFault ended fresh unread closed)
unread_closed due before held after Done ended fresh some unread closed = unread_well due before held after Done ended (λ a. a) (λ a. a) fresh some unread closed
unread_closed due before held after Finding ended fresh some unread closed = unread_well due before held after Finding ended (λ a. a) (λ a. a) fresh some unread closed
unread_closed due before held after Usage ended fresh some unread closed = unread_well due before held after Usage ended (λ a. a) (λ a. a) fresh some unread closed
unread_closed due before held after Refused ended fresh some unread closed = unread_well due before held after Refused ended (λ a. a) (λ a. a) fresh some unread closed

-- a command
outcome_well : (due : List ℕ → Answer) (source left before : Told) (held : HoldsBack) (after : Told) (bytes : List ℕ) (status ended : Status)
    → (Answered (due bytes) before after status → Outcome due source left before after status) → (CutOff (due bytes) before after → Outcome due source left before after WriteFault)
    → TookNothing before.bytes → 0 < length (due bytes).text
    → Answered (due bytes) (at_first before) (told_by held) status → ClosedWell status held after ended ⊎ ClosedShort held after ended → Outcome due source left before after ended
outcome_well due source left before held after bytes status ended well short fresh some answered (inl closed) =
    subst (λ (s : Status). Outcome due source left before after s) (sym closed.is) (well (subst (λ (s : Status). Answered (due bytes) before after s) closed.is (answered_well (due bytes) before held after status ended answered closed)))
outcome_well due source left before held after bytes status ended well short fresh some answered (inr closed) =
    subst (λ (s : Status). Outcome due source left before after s) (sym closed.is) (short (answered_short (due bytes) before held after status ended fresh some answered closed))

pub outcome_closed : (due : List ℕ → Answer) (source left before : Told) (held : HoldsBack) (after : Told) (status ended : Status) → TookNothing before.bytes → ((bytes : List ℕ) → 0 < length (due bytes).text)
    → Outcome due source left (at_first before) (told_by held) status → Closed status held after ended → Outcome due source left before after ended
outcome_closed due source left before held after ReadFault ended fresh some (read, silent) closed =
    subst (λ (s : Status). Outcome due source left before after s) (sym closed.is) (read, silent_off before held after ReadFault ended fresh silent closed)
outcome_closed due source left before held after TooLong ended fresh some (read, silent) closed =
    subst (λ (s : Status). Outcome due source left before after s) (sym closed.is) (read, silent_off before held after TooLong ended fresh silent closed)
outcome_closed due source left before held after NoMemory ended fresh some (read, silent) closed =
    subst (λ (s : Status). Outcome due source left before after s) (sym closed.is) (read, silent_off before held after NoMemory ended fresh silent closed)
outcome_closed due source left before held after WriteFault ended fresh some (bytes, read, cut) closed =
    subst (λ (s : Status). Outcome due source left before after s) (sym closed.is) (bytes, read, cut_off (due bytes) before held after WriteFault ended fresh cut closed)
outcome_closed due source left before held after Done ended fresh some (bytes, read, answered) closed =
    outcome_well due source left before held after bytes Done ended (λ a. (bytes, read, a)) (λ a. (bytes, read, a)) fresh (some bytes) answered closed
outcome_closed due source left before held after Finding ended fresh some (bytes, read, answered) closed =
    outcome_well due source left before held after bytes Finding ended (λ a. (bytes, read, a)) (λ a. (bytes, read, a)) fresh (some bytes) answered closed
outcome_closed due source left before held after Usage ended fresh some unread closed = absurd unread
outcome_closed due source left before held after Refused ended fresh some (bytes, read, answered) closed =
    outcome_well due source left before held after bytes Refused ended (λ a. (bytes, read, a)) (λ a. (bytes, read, a)) fresh (some bytes) answered closed
