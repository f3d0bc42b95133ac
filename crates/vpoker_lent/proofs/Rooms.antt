-- What a sink over lent room tells of a call says what the room then has.
use Rattle.std.proofs.Common.{◌≡◌, ℕ, ◌<◌, ◌≤◌, ◌-◌, Bool, true, false, List, [], ◌∷◌, ◌++◌, length, take, refl, ap, sym, ◌∙◌, subst, arith, inl, inr, length-take-le}
use Rattle.std.specs.Prelude.{◌⊎◌, ◌↔◌, replicate, if◌then◌else◌}
use Rattle.vp_io.specs.Causes.{Rose, last_count}
use Rattle.vp_io.specs.Streams.{Told}
use Rattle.vp_answer.specs.Answers.{Answer}
use Rattle.vp_answer.specs.Outcome.{Answered, CutOff, Silent}
use Rattle.vp_answer.specs.StatusCode.{code_of}
use Rattle.vp_answer.specs.declared.status.Status.{Status}
use Rattle.vp_answer.specs.declared.status.Status.TheVariants.{Done, Finding, Usage, Refused, ReadFault, WriteFault, NoMemory, TooLong}
use Rattle.vp_text.specs.Lines.{Word}
use Rattle.vp_run.specs.Answer.{answer, needs_input}
use Rattle.vp_answer.specs.Lent.{EndsLent}
use Rattle.vp_run.specs.Memory.{IsEnough, IsShort, IsTooLong, WantsMore, in_region, region_words}
use Rattle.vp_run.proofs.GivenWords.{alone-take, answer-take, needs-take, region-take}
use Rattle.vpoker_lent.specs.Ends.{Ends, Holds, IsAnswered, IsCut, IsMeasured, IsNever, IsMeasuredBy, IsWhole}
use Rattle.vpoker_lent.specs.Keeping.{Kept, kept_by, told_by, told_of}
use Rattle.vpoker_lent.specs.declared.room_sink.RoomSink.{RoomSink}

-- a sink over this room that has taken nothing
abbrev begun : ℕ → ℕ → Told
begun name limit = told_of (record { name = name; limit = limit; text = []; is_cut = false })

pub begins : (s : RoomSink) (limit : ℕ) → length s.room.now ≡ limit → s.used ≡ 0 → s.is_cut ≡ false → told_by s ≡ begun s.room.ghost_name limit
begins s limit size none whole = rw (size, none, whole) refl

-- what was kept of a text that is due, by the status
abbrev KeepsPart : Answer → Kept → Status → Type 0
KeepsPart due kept ReadFault = ⊥
KeepsPart due kept WriteFault = (kept.is_cut ≡ true) × ((n : ℕ) × (n < length due.text) × (kept.text ≡ take n due.text))
KeepsPart due kept NoMemory = kept.text ≡ []
KeepsPart due kept TooLong = kept.text ≡ []
KeepsPart due kept status = (status ≡ due.status) × (kept.text ≡ due.text)

-- it is over the same room as before, and so much of the text was kept
pub record KeepsText (due : Answer) (name limit : ℕ) (kept : Kept) (status : Status) : Type 0 where
  pub name_is : kept.name ≡ name
  pub limit_is : kept.limit ≡ limit
  pub part : KeepsPart due kept status

-- a write failed where a fault is counted
cut_when : (is_cut : Bool) → Rose 0 (if is_cut then last_count else 0) → is_cut ≡ true
cut_when true rose = refl
cut_when false rose = absurd (omega (arith, rose.0))

cut_text : (due : Answer) (name limit : ℕ) (kept : Kept) → CutOff due (begun name limit) (told_of kept) → KeepsText due name limit kept WriteFault
cut_text due name limit kept cut =
    let (n, less, appends) = cut.part in
    record { name_is = cc appends; limit_is = cc appends; part = (cut_when kept.is_cut cut.rose, (n, less, cc appends)) }

silent_text : (due : Answer) (name limit : ℕ) (kept : Kept) → Silent (begun name limit) (told_of kept) → (kept.name ≡ name) × ((kept.limit ≡ limit) × (kept.text ≡ []))
silent_text due name limit kept silent = (cc silent.same, (cc silent.same, cc silent.same))

whole_text : (due : Answer) (name limit : ℕ) (kept : Kept) (status : Status) → Answered due (begun name limit) (told_of kept) status
    → (kept.name ≡ name) × ((kept.limit ≡ limit) × ((status ≡ due.status) × (kept.text ≡ due.text)))
whole_text due name limit kept status answered = (cc answered.text, (cc answered.text, (answered.is, cc answered.text)))

lent_text : (due : Answer) (name limit : ℕ) (kept : Kept) (status : Status) → EndsLent due (begun name limit) (told_of kept) status → KeepsText due name limit kept status
lent_text due name limit kept ReadFault ended = absurd ended
lent_text due name limit kept WriteFault cut = cut_text due name limit kept cut
lent_text due name limit kept NoMemory silent = let is = silent_text due name limit kept silent in record { name_is = is.0; limit_is = is.1.0; part = is.1.1 }
lent_text due name limit kept TooLong silent = let is = silent_text due name limit kept silent in record { name_is = is.0; limit_is = is.1.0; part = is.1.1 }
lent_text due name limit kept Done answered = let is = whole_text due name limit kept Done answered in record { name_is = is.0; limit_is = is.1.0; part = is.1.1 }
lent_text due name limit kept Finding answered = let is = whole_text due name limit kept Finding answered in record { name_is = is.0; limit_is = is.1.0; part = is.1.1 }
lent_text due name limit kept Usage answered = let is = whole_text due name limit kept Usage answered in record { name_is = is.0; limit_is = is.1.0; part = is.1.1 }
lent_text due name limit kept Refused answered = let is = whole_text due name limit kept Refused answered in record { name_is = is.0; limit_is = is.1.0; part = is.1.1 }

-- the sink is over the room that it was made over
pub same_room : (due : Answer) (name limit : ℕ) (s : RoomSink) (status : Status) → EndsLent due (begun name limit) (told_by s) status → s.room.ghost_name ≡ name
same_room due name limit s status ended = (lent_text due name limit (kept_by s) status ended).name_is

-- ---- the room

-- what was kept stands at the front of the room, and zeros behind it
pub record IsPlaced (before after : List ℕ) (kept : Kept) (taken : ℕ) : Type 0 where
  pub within : length kept.text ≤ kept.limit
  pub cut : kept.is_cut ≡ true → length kept.text ≡ kept.limit
  pub count : taken ≡ length kept.text
  pub bytes : after ≡ kept.text ++ replicate (kept.limit - length kept.text) 0

pub placed : (s : RoomSink) (before after : List ℕ) (taken : ℕ) → taken ≡ s.used → s.used ≤ length s.room.now → (s.is_cut ≡ true → s.used ≡ length s.room.now)
    → after ≡ take s.used s.room.now ++ replicate (length s.room.now - s.used) 0 → IsPlaced before after (kept_by s) taken
placed s before after taken count within cut rest =
    let size : length (take s.used s.room.now) ≡ s.used = length-take-le s.used s.room.now within in
    record {
      within = omega (arith, size);
      cut = λ is. size ∙ cut is;
      count = count ∙ sym size;
      bytes = rest ∙ ap (λ (n : ℕ). take s.used s.room.now ++ replicate (length s.room.now - n) 0) (sym size);
    }

-- of which text it is the front
holds : (text before after : List ℕ) (kept : Kept) (taken : ℕ) → IsPlaced before after kept taken → kept.limit ≡ length before → kept.text ≡ text → Holds text before after taken
holds text before after kept taken placed limit_is is = record {
  count = placed.count ∙ ap length is;
  bytes = rw (← limit_is, ← is) placed.bytes;
}

whole_room : (due : Answer) (before after : List ℕ) (kept : Kept) (taken : ℕ) (status : Status) → IsPlaced before after kept taken → kept.limit ≡ length before
    → (status ≡ due.status) × (kept.text ≡ due.text) → IsWhole due before after taken status
whole_room due before after kept taken status placed limit_is (is, text_is) = record {
  is = is;
  fits = omega (arith, ap length text_is, placed.within);
  held = holds due.text before after kept taken placed limit_is text_is;
}

cut_room : (due : Answer) (before after : List ℕ) (kept : Kept) (taken : ℕ) → IsPlaced before after kept taken → kept.limit ≡ length before
    → KeepsPart due kept WriteFault → IsCut due before after taken
cut_room due before after kept taken placed limit_is (cut, (n, less, text_is)) =
    let count : length kept.text ≡ n = ap length text_is ∙ length-take-le n due.text (omega (arith, less)) in
    let full : n ≡ length before = sym count ∙ placed.cut cut ∙ limit_is in
    record {
      short = omega arith;
      held = holds (take (length before) due.text) before after kept taken placed limit_is (text_is ∙ ap (λ (m : ℕ). take m due.text) full);
    }

room_ends : (due : Answer) (name : ℕ) (before after : List ℕ) (kept : Kept) (taken : ℕ) (status : Status) → IsPlaced before after kept taken
    → KeepsText due name (length before) kept status → Ends due before after taken status
room_ends due name before after kept taken ReadFault placed keeps = keeps.part
room_ends due name before after kept taken WriteFault placed keeps = cut_room due before after kept taken placed keeps.limit_is keeps.part
room_ends due name before after kept taken NoMemory placed keeps = holds [] before after kept taken placed keeps.limit_is keeps.part
room_ends due name before after kept taken TooLong placed keeps = holds [] before after kept taken placed keeps.limit_is keeps.part
room_ends due name before after kept taken Done placed keeps = whole_room due before after kept taken Done placed keeps.limit_is keeps.part
room_ends due name before after kept taken Finding placed keeps = whole_room due before after kept taken Finding placed keeps.limit_is keeps.part
room_ends due name before after kept taken Usage placed keeps = whole_room due before after kept taken Usage placed keeps.limit_is keeps.part
room_ends due name before after kept taken Refused placed keeps = whole_room due before after kept taken Refused placed keeps.limit_is keeps.part

-- ---- a call

-- what is said of the first six words is said of all
first_long : (status : Status) (words : List Word) (input : List ℕ) → (status ≡ TooLong ↔ IsTooLong (take 6 words) input) → (status ≡ TooLong ↔ IsTooLong words input)
first_long status words input long = subst (λ (n : Bool). status ≡ TooLong ↔ ((n ≡ true) × (67108864 < length input))) (needs-take words) long

first_wants : (words : List Word) (input : List ℕ) (lent : ℕ) → WantsMore (take 6 words) input lent ≡ WantsMore words input lent
first_wants words input lent = rw (region-take words, alone-take words) refl

first_memory : (status : Status) (words : List Word) (input : List ℕ) (lent : ℕ)
    → (¬ IsTooLong (take 6 words) input → (status ≡ NoMemory ↔ WantsMore (take 6 words) input lent))
    → (¬ IsTooLong words input → (status ≡ NoMemory ↔ WantsMore words input lent))
first_memory status words input lent memory = rw (← needs-take words, ← region-take words, ← alone-take words) memory

pub answered : (words first : List Word) (input : List ℕ) (lent name : ℕ) (before after : List ℕ) (s : RoomSink) (taken : ℕ) (status : Status) (code : ℕ)
    → first ≡ take 6 words → code ≡ code_of status → IsPlaced before after (kept_by s) taken
    → EndsLent (answer first input) (begun name (length before)) (told_by s) status
    → (status ≡ TooLong ↔ IsTooLong first input)
    → (¬ IsTooLong first input → (status ≡ NoMemory ↔ WantsMore first input lent))
    → IsAnswered words input lent before after taken code
answered words first input lent name before after s taken status code is code_is placed ended long memory = record {
  status = status;
  code_is = code_is;
  ends = room_ends (answer words input) name before after (kept_by s) taken status placed
      (lent_text (answer words input) name (length before) (kept_by s) status
      (subst (λ (f : List ℕ → Answer). EndsLent (f input) (begun name (length before)) (told_by s) status) (ap answer is ∙ answer-take words) ended));
  long = first_long status words input (subst (λ (w : List Word). status ≡ TooLong ↔ IsTooLong w input) is long);
  memory = first_memory status words input lent (subst (λ (w : List Word). ¬ IsTooLong w input → (status ≡ NoMemory ↔ WantsMore w input lent)) is memory);
}

-- how many words of memory the answer takes
pub measured_ok : (words first : List Word) (input : List ℕ) (n : ℕ) → first ≡ take 6 words → IsEnough first input n → IsMeasured words input n 0
measured_ok words first input n is e =
    let f : IsEnough (take 6 words) input n = subst (λ (w : List Word). IsEnough w input n) is e in
    inl (record {
      code_is = refl;
      count = f.count ∙ ap (λ (g : List ℕ → ℕ). g input) (region-take words);
      alone = ap (λ (g : List ℕ → Bool). g input) (sym (alone-take words)) ∙ f.alone;
      within = subst (λ (n : Bool). ¬ ((n ≡ true) × (67108864 < length input))) (needs-take words) f.within;
    })

short_as : (words : List Word) (input : List ℕ) (status : Status) → IsShort (take 6 words) input status → IsShort words input status
short_as words input status short = rw (← needs-take words, ← alone-take words) short

short_code : (words : List Word) (input : List ℕ) (status : Status) (code : ℕ) → code ≡ code_of status → IsShort words input status → IsNever words input 0 code
short_code words input status code code_is (inl (is, long)) = record { none = refl; because = inl (code_is ∙ ap code_of is, long) }
short_code words input status code code_is (inr (is, more, within)) = record { none = refl; because = inr (code_is ∙ ap code_of is, (λ lent. inr more), within) }

pub measured_err : (words first : List Word) (input : List ℕ) (status : Status) (code : ℕ) → first ≡ take 6 words → code ≡ code_of status → IsShort first input status → IsMeasured words input 0 code
measured_err words first input status code is code_is short =
    inr (short_code words input status code code_is (short_as words input status (subst (λ (w : List Word). IsShort w input status) is short)))
