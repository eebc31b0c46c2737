-- How the events of a script are built line by line. The contracts of public functions use Script instead.
use Rattle.std.specs.Prelude.{ℕ, ◌+◌, List, [], ◌∷◌, ◌++◌, Option, Some, None, Result, Ok, Err, ◌≡◌}
use Rattle.mmtel_base.specs.Chain.{◌>>=◌}
use Rattle.mmtel_trust.specs.declared.known_peers.KnownPeer.{KnownPeer}
use Rattle.mmtel_environment.specs.declared.events.Event.{Event}
use Rattle.mmtel_environment.specs.declared.events.Event.TheVariants.{Datagram, Web, Quiet}
use Rattle.mmtel_script.specs.declared.script_lines.ScriptLine.{ScriptLine}
use Rattle.mmtel_script.specs.declared.script_lines.ScriptLine.TheVariants.{Comment, Begins, Data}
use Rattle.mmtel_script.specs.declared.scripts.ScriptFault.{ScriptFault}
use Rattle.mmtel_script.specs.declared.scripts.ScriptFault.TheVariants.{BadLine, NoMemory}
use Rattle.mmtel_script.specs.declared.event_drafts.EventDraft.{EventDraft}
use Rattle.mmtel_script.specs.Script.{line_of}
use Rattle.mmtel_directory.specs.Lines.{and_then}

abbrev pub empty_draft : EventDraft
empty_draft = record { events = []; last = None }

-- the events, the last one with them
abbrev pub with_last_event : List Event → Option Event → List Event
with_last_event events None = events
with_last_event events (Some last) = events ++ last ∷ []

abbrev pub drafted_events : EventDraft → List Event
drafted_events told = with_last_event told.events told.last

-- more bytes of the last event, where there is one that has bytes
abbrev pub with_data : List Event → Option Event → List ℕ → Option EventDraft
with_data events None bytes = None
with_data events (Some (Datagram from at before)) bytes = Some (record { events = events; last = Some (Datagram from at (before ++ bytes)) })
with_data events (Some (Web at before)) bytes = Some (record { events = events; last = Some (Web at (before ++ bytes)) })
with_data events (Some (Quiet at)) bytes = None

-- the events so far with the line, where it is accepted
abbrev pub with_line : EventDraft → ScriptLine → Option EventDraft
with_line told Comment = Some told
with_line told (Begins event) = Some (record { events = drafted_events told; last = Some event })
with_line told (Data bytes) = with_data told.events told.last bytes

abbrev pub step : List KnownPeer → EventDraft → List ℕ → Option EventDraft
step known told text = do
  line ← line_of known text
  with_line told line

-- the events so far and those of the remaining lines
abbrev pub events_of_lines : List KnownPeer → ℕ → EventDraft → List (List ℕ) → Result (List Event) ℕ
events_of_lines known number told [] = Ok (drafted_events told)
events_of_lines known number told (text ∷ texts) = and_then number (step known told text) (λ next. events_of_lines known (number + 1) next texts)

-- these events or this fault, unless memory ran out
abbrev pub Gathers : Result (List Event) ScriptFault → Result (List Event) ℕ → Type 0
Gathers (Ok events) due = due ≡ Ok events
Gathers (Err (BadLine number)) due = due ≡ Err number
Gathers (Err NoMemory) due = Unit {0}

-- the result of a line: these events so far, or the line's number where there is none
abbrev pub Steps : Result (Unit {0}) ScriptFault → ℕ → Option EventDraft → EventDraft → Type 0
Steps (Ok done) number due after = due ≡ Some after
Steps (Err (BadLine n)) number due after = (due ≡ None) × (n ≡ number)
Steps (Err NoMemory) number due after = Unit {0}

-- the result of lines: the events of what was before and of them; or the number of the first line that is not accepted
abbrev pub Reads : List KnownPeer → Result (Unit {0}) ScriptFault → EventDraft → List (List ℕ) → EventDraft → Type 0
Reads known (Ok done) before texts after = events_of_lines known 1 before texts ≡ Ok (drafted_events after)
Reads known (Err (BadLine n)) before texts after = events_of_lines known 1 before texts ≡ Err n
Reads known (Err NoMemory) before texts after = Unit {0}
