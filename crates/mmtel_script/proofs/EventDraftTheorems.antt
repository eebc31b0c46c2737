-- The events that are built line by line are the events of the lines.
use Rattle.std.proofs.Common.{◌≡◌, Bool, false, cond, ℕ, ◌+◌, List, [], ◌∷◌, ◌++◌, Option, Some, None, Result, Ok, Err, refl, ap, sym, subst, ◌∙◌, append_assoc}
use Rattle.std.proofs.lemmas.List.{append-nil}
use Rattle.mmtel_base.specs.Chain.{◌>>=◌}
use Rattle.mmtel_trust.specs.declared.known_peers.KnownPeer.{KnownPeer}
use Rattle.mmtel_environment.specs.declared.events.Event.{Event}
use Rattle.mmtel_environment.specs.declared.events.Event.TheVariants.{Datagram, Web, Quiet}
use Rattle.mmtel_script.specs.declared.script_lines.ScriptLine.{ScriptLine}
use Rattle.mmtel_script.specs.declared.script_lines.ScriptLine.TheVariants.{Comment, Begins, Data}
use Rattle.mmtel_script.specs.declared.scripts.ScriptFault.{ScriptFault}
use Rattle.mmtel_script.specs.declared.scripts.ScriptFault.TheVariants as fault
use Rattle.mmtel_script.specs.declared.event_drafts.EventDraft.{EventDraft}
use Rattle.mmtel_directory.specs.Lines.{lines_of, and_then, lines_by}
use Rattle.mmtel_script.specs.Script.{line_of, holds_bytes, accepts_bytes, may_follow, next_script_line, data_of, with_bytes, events_in, events_from, events_of}
use Rattle.mmtel_script.specs.EventDrafts.{Gathers, Reads, empty_draft, with_last_event, drafted_events, with_line, events_of_lines}

-- ---- the events so far, and lines that follow

abbrev with_last : Option Event → List ScriptLine → List Event
with_last None more = events_in more
with_last (Some event) more = with_bytes event (data_of more) ∷ events_in more

-- the events so far, when these lines follow
abbrev with_more : EventDraft → List ScriptLine → List Event
with_more told more = told.events ++ with_last told.last more

abbrev is_open : Option Event → Bool
is_open None = false
is_open (Some event) = holds_bytes event

-- the events so far are those of these lines
record IsDraftOf (told : EventDraft) (said : List ScriptLine) : Type 0 where
  open_event : is_open told.last ≡ accepts_bytes false said
  same : (more : List ScriptLine) → with_more told more ≡ events_in (said ++ more)

-- ---- events and their bytes

with_nothing : (event : Event) → with_bytes event [] ≡ event
with_nothing (Datagram from at bytes) = ap (λ (b : List ℕ). Datagram from at b) (append-nil bytes)
with_nothing (Web at bytes) = ap (λ (b : List ℕ). Web at b) (append-nil bytes)
with_nothing (Quiet at) = refl

with_twice : (event : Event) (a b : List ℕ) → with_bytes (with_bytes event a) b ≡ with_bytes event (a ++ b)
with_twice (Datagram from at bytes) a b = ap (λ (t : List ℕ). Datagram from at t) (append_assoc bytes a b)
with_twice (Web at bytes) a b = ap (λ (t : List ℕ). Web at t) (append_assoc bytes a b)
with_twice (Quiet at) a b = refl

holds_still : (event : Event) (bytes : List ℕ) → holds_bytes (with_bytes event bytes) ≡ holds_bytes event
holds_still (Datagram from at told) bytes = refl
holds_still (Web at told) bytes = refl
holds_still (Quiet at) bytes = refl

ends : (events : List Event) (last : Option Event) → events ++ with_last last [] ≡ with_last_event events last
ends events None = append-nil events
ends events (Some event) = ap (λ (e : Event). events ++ e ∷ []) (with_nothing event)

starts : (events : List Event) (last : Option Event) (event : Event) (lines : List ScriptLine) →
    with_last_event events last ++ events_in (Begins event ∷ lines) ≡ events ++ with_last last (Begins event ∷ lines)
starts events None event lines = refl
starts events (Some before) event lines =
    append_assoc events (before ∷ []) (events_in (Begins event ∷ lines)) ∙ ap (λ (e : Event). events ++ e ∷ events_in (Begins event ∷ lines)) (sym (with_nothing before))

-- ---- one line more

lines_append : (said : List ScriptLine) (l : ScriptLine) (more : List ScriptLine) → (said ++ l ∷ []) ++ more ≡ said ++ l ∷ more
lines_append said l more = append_assoc said (l ∷ []) more

accepts_more : (above : Bool) (said more : List ScriptLine) → accepts_bytes above (said ++ more) ≡ accepts_bytes (accepts_bytes above said) more
accepts_more above [] more = refl
accepts_more above (Comment ∷ said) more = accepts_more above said more
accepts_more above (Begins event ∷ said) more = accepts_more (holds_bytes event) said more
accepts_more above (Data bytes ∷ said) more = accepts_more above said more

unmoved : (last : Option Event) (more : List ScriptLine) → with_last last more ≡ with_last last (Comment ∷ more)
unmoved None more = refl
unmoved (Some event) more = refl

comment : (told : EventDraft) (said : List ScriptLine) → IsDraftOf told said → IsDraftOf told (said ++ Comment ∷ [])
comment told said is = record {
  open_event = is.open_event ∙ sym (accepts_more false said (Comment ∷ []));
  same = λ more. ap (λ (l : List Event). told.events ++ l) (unmoved told.last more) ∙ is.same (Comment ∷ more) ∙ ap events_in (sym (lines_append said Comment more));
}

event_started : (told : EventDraft) (said : List ScriptLine) (event : Event) → IsDraftOf told said → IsDraftOf (record { events = drafted_events told; last = Some event }) (said ++ Begins event ∷ [])
event_started told said event is = record {
  open_event = sym (accepts_more false said (Begins event ∷ []));
  same = λ more. starts told.events told.last event more ∙ is.same (Begins event ∷ more) ∙ ap events_in (sym (lines_append said (Begins event) more));
}

data_added : (events : List Event) (event : Event) (said : List ScriptLine) (bytes : List ℕ) → IsDraftOf (record { events = events; last = Some event }) said →
    IsDraftOf (record { events = events; last = Some (with_bytes event bytes) }) (said ++ Data bytes ∷ [])
data_added events event said bytes is = record {
  open_event = holds_still event bytes ∙ is.open_event ∙ sym (accepts_more false said (Data bytes ∷ []));
  same = λ more. ap (λ (e : Event). events ++ e ∷ events_in more) (with_twice event bytes (data_of more)) ∙ is.same (Data bytes ∷ more) ∙
      ap events_in (sym (lines_append said (Data bytes) more));
}

-- ---- all lines

abbrev Goes : List KnownPeer → ℕ → List (List ℕ) → Type 0
Goes known number texts = (told : EventDraft) (said : List ScriptLine) → IsDraftOf told said → events_of_lines known number told texts ≡ events_from (lines_by (next_script_line known) number said texts)

-- the result of a line that was read, on both sides
abbrev Same : List KnownPeer → ℕ → List (List ℕ) → EventDraft → List ScriptLine → ScriptLine → Type 0
Same known number texts told said l =
    and_then number (with_line told l) (λ next. events_of_lines known (number + 1) next texts) ≡
    events_from (and_then number (cond (may_follow said l) (Some l) None) (λ next. lines_by (next_script_line known) (number + 1) (said ++ next ∷ []) texts))

over_data : (known : List KnownPeer) (number : ℕ) (texts : List (List ℕ)) (events : List Event) (last : Option Event) (said : List ScriptLine) (bytes : List ℕ) →
    IsDraftOf (record { events = events; last = last }) said → Goes known (number + 1) texts → Same known number texts (record { events = events; last = last }) said (Data bytes)
over_data known number texts events None said bytes is goes = rw (sym is.open_event) refl
over_data known number texts events (Some (Datagram from at before)) said bytes is goes =
    rw (sym is.open_event) (goes _ (said ++ Data bytes ∷ []) (data_added events (Datagram from at before) said bytes is))
over_data known number texts events (Some (Web at before)) said bytes is goes = rw (sym is.open_event) (goes _ (said ++ Data bytes ∷ []) (data_added events (Web at before) said bytes is))
over_data known number texts events (Some (Quiet at)) said bytes is goes = rw (sym is.open_event) refl

over_line : (known : List KnownPeer) (number : ℕ) (texts : List (List ℕ)) (told : EventDraft) (said : List ScriptLine) (l : ScriptLine) → IsDraftOf told said →
    Goes known (number + 1) texts → Same known number texts told said l
over_line known number texts told said Comment is goes = goes told (said ++ Comment ∷ []) (comment told said is)
over_line known number texts told said (Begins event) is goes = goes _ (said ++ Begins event ∷ []) (event_started told said event is)
over_line known number texts told said (Data bytes) is goes = over_data known number texts told.events told.last said bytes is goes

over_form : (known : List KnownPeer) (number : ℕ) (texts : List (List ℕ)) (told : EventDraft) (said : List ScriptLine) (read : Option ScriptLine) → IsDraftOf told said →
    Goes known (number + 1) texts →
    and_then number (read >>= λ l. with_line told l) (λ next. events_of_lines known (number + 1) next texts) ≡
    events_from (and_then number (read >>= λ l. cond (may_follow said l) (Some l) None) (λ next. lines_by (next_script_line known) (number + 1) (said ++ next ∷ []) texts))
over_form known number texts told said None is goes = refl
over_form known number texts told said (Some l) is goes = over_line known number texts told said l is goes

goes : (known : List KnownPeer) (number : ℕ) (texts : List (List ℕ)) → Goes known number texts
goes known number [] told said is =
    ap (λ (events : List Event). Ok events) (sym (ends told.events told.last) ∙ is.same [] ∙ ap events_in (append-nil said))
goes known number (text ∷ texts) told said is = over_form known number texts told said (line_of known text) is (λ t s i. goes known (number + 1) texts t s i)

is_empty_draft : IsDraftOf empty_draft []
is_empty_draft = record { open_event = refl; same = λ more. refl }

-- what is built from no line on
pub lines_give_events : (known : List KnownPeer) (text : List ℕ) → events_of_lines known 1 empty_draft (lines_of text) ≡ events_of known text
unfolding events_of
lines_give_events known text = goes known 1 (lines_of text) empty_draft [] is_empty_draft

-- the result for a text whose lines were read
pub fault_is_result : (known : List KnownPeer) (text : List ℕ) (e : ScriptFault) (after : EventDraft) → Reads known (Err e) empty_draft (lines_of text) after → Gathers (Err e) (events_of known text)
fault_is_result known text (fault.BadLine n) after is = sym (lines_give_events known text) ∙ is
fault_is_result known text fault.NoMemory after is = tt

pub draft_is_result : (known : List KnownPeer) (text : List ℕ) (after : EventDraft) (r : Result (List Event) ScriptFault) →
    events_of_lines known 1 empty_draft (lines_of text) ≡ Ok (drafted_events after) → Gathers r (Ok (drafted_events after)) → Gathers r (events_of known text)
draft_is_result known text after r is answer = subst (λ (due : Result (List Event) ℕ). Gathers r due) (sym is ∙ lines_give_events known text) answer
