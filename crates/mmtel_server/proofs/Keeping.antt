-- How the keeper was called, event after event, and what it holds then.
use Rattle.std.proofs.Common.{◌≡◌, ◌≤◌, ℕ, suc, Bool, true, false, List, [], ◌∷◌, ◌++◌, length, refl, sym, ap, ◌∙◌, subst, append-nil, append_assoc, Option, Some, None, Result, Ok, Err, OnErr, arith, inl}
use Rattle.std.proofs.lemmas.Bool.{false≢true}
use Rattle.std.specs.Option.{option_map, option_to_list}
use Rattle.mmtel_charging.specs.declared.rows.Row.{Row}
use Rattle.mmtel_directory.specs.declared.directories.Directory.{Directory}
use Rattle.mmtel_directory.specs.declared.directories.WebDirectory.{WebDirectory}
use Rattle.mmtel_http.specs.Requests.{request_of}
use Rattle.mmtel_records_in_force.specs.Texts.{Texts, put_each}
use Rattle.mmtel_keeper.specs.Contents.{KeeperCalls, KeeperContents, with_rows, with_sheet}
use Rattle.mmtel_environment.specs.declared.events.Event.{Event}
use Rattle.mmtel_environment.specs.declared.events.Event.TheVariants as event
use Rattle.mmtel_run_definitions.specs.Events.{EventRecord, events_in, timed_events}
use Rattle.mmtel_run_definitions.specs.InForce.{upload_at, uploads_of}
use Rattle.mmtel_run_definitions.specs.Run.{after_events}
use Rattle.mmtel_run_definitions.specs.ShortRuns.{IsShortRun}
use Rattle.mmtel_run_definitions.specs.Transitions.{RunState, initial_state}
use Rattle.mmtel_web_service.specs.KeeperCalls.{IsKeeperResult, KeeperCall, CountsFaults, MayBeCalled, HasKeeperResult, keeper_call_by, none, stores, loads}
use Rattle.mmtel_types.specs.declared.numbers.Account.{Account}
use Rattle.mmtel_web.specs.Handling.{KeeperOutcomeView, made, failed, no_memory, web_of}
use Rattle.mmtel_web.specs.Uploads.{stored_upload, upload_by}
use Rattle.mmtel_web.specs.declared.handling.Web.{Web}
use Rattle.mmtel_web.specs.declared.handling.Web.TheVariants as web
use Rattle.mmtel_server.specs.DriveEffects.{CountsEachFault, CountsFaultsButLast, CountsLastFault, EachKeeperResult, EachKeeperResultButLast, HoldsUploads, KeeperResultOfEvent, LastKeeperResult, with_uploads_and_rows}
use Rattle.mmtel_server.specs.States.{KeeperState}
use Rattle.mmtel_server_timers.specs.Handover.{HandoverFaults, HandsOver, accepted_rows}
use Rattle.mmtel_server.specs.Representation.{RepresentsRun}
use Rattle.mmtel_server.specs.StepEffects.{call_of, event_record}
use Rattle.mmtel_server.specs.declared.servers.Server.{Server}
use Rattle.mmtel_server.proofs.Charging.{untaken}
use Rattle.mmtel_server.proofs.Runs.{after_last}

-- ---- one more event

-- the same from a keeper with the same contents and calls
one_from : (names : WebDirectory) (one : EventRecord) (old mid new : KeeperState) → mid.contents ≡ old.contents → mid.calls ≡ old.calls → KeeperResultOfEvent names one mid new → KeeperResultOfEvent names one old new
one_from names one old mid new held calls answered = record {
  between = answered.between;
  result = subst (λ (h : Option KeeperContents). IsKeeperResult (call_of names one.event) one.outcome one.rows h answered.between.contents old.calls answered.between.calls) held
      (subst (λ (c : Option KeeperCalls). IsKeeperResult (call_of names one.event) one.outcome one.rows mid.contents answered.between.contents c answered.between.calls) calls answered.result);
  waiting = answered.waiting;
  hands_over = answered.hands_over;
}

results_from : (names : WebDirectory) (ys : List EventRecord) (old mid new : KeeperState) → mid.contents ≡ old.contents → mid.calls ≡ old.calls → EachKeeperResult names ys mid new → EachKeeperResult names ys old new
results_from names [] old mid new held calls each = (each.0 ∙ held, each.1 ∙ calls)
results_from names (y ∷ ys) old mid new held calls each = (each.0, one_from names y old mid each.0 held calls each.1, each.2)

pub results_then : (names : WebDirectory) (xs ys : List EventRecord) (old mid new : KeeperState)
    → EachKeeperResult names xs old mid → EachKeeperResult names ys mid new → EachKeeperResult names (xs ++ ys) old new
results_then names [] ys old mid new first second = results_from names ys old mid new first.0 first.1 second
results_then names (x ∷ xs) ys old mid new first second = (first.0, first.1, results_then names xs ys first.0 mid new first.2 second)

pub results_one : (names : WebDirectory) (one : EventRecord) (waiting : List Row) (old asked new : KeeperState)
    → IsKeeperResult (call_of names one.event) one.outcome one.rows old.contents asked.contents old.calls asked.calls → HandsOver one.accepted waiting asked.contents new.contents asked.calls new.calls
    → EachKeeperResult names (one ∷ []) old new
results_one names one waiting old asked new answers handed =
    (new, record { between = asked; result = answers; waiting = waiting; hands_over = handed }, (refl, refl))

pub counted_then : (xs ys : List EventRecord) (old between new : ℕ) → CountsEachFault xs old between → CountsEachFault ys between new → CountsEachFault (xs ++ ys) old new
counted_then [] ys old between new first second = subst (λ (n : ℕ). CountsEachFault ys n new) first second
counted_then (x ∷ xs) ys old between new first second = (first.0, first.1, counted_then xs ys first.0 between new first.2 second)

pub counted_one : (one : EventRecord) (old asked new : ℕ) → CountsFaults one.outcome old asked → HandoverFaults one.accepted asked new → CountsEachFault (one ∷ []) old new
counted_one one old asked new counted handed = (new, record { between = asked; counted = counted; handover_faults = handed }, refl)

-- ---- one that was not processed to its end

pub results_last : (names : WebDirectory) (xs : List EventRecord) (one : EventRecord) (old mid new : KeeperState) (asked : Option KeeperCalls)
    → one.accepted ≡ false → EachKeeperResult names xs old mid → IsKeeperResult (call_of names one.event) one.outcome one.rows mid.contents new.contents mid.calls asked → MayBeCalled asked new.calls
    → EachKeeperResultButLast names (xs ++ one ∷ []) old new
results_last names xs one old mid new asked took first answers may =
    record { done = xs; last = one ∷ []; parts = refl; between = mid; each = first; rest = (asked, took, (answers, may)) }

pub counted_last : (xs : List EventRecord) (one : EventRecord) (old between new : ℕ) → CountsEachFault xs old between → CountsFaults one.outcome between new → CountsFaultsButLast (xs ++ one ∷ []) old new
counted_last xs one old between new first counted =
    record { done = xs; last = one ∷ []; parts = refl; between = between; each = first; rest = counted }

-- ---- events that were lost as they were read

-- the keeper was not called
lost_results : (call : KeeperCall) (held : Option KeeperContents) (calls : Option KeeperCalls) → IsKeeperResult call no_memory [] held held calls calls
lost_results none held calls = (λ same. cc, (refl, refl))
lost_results (stores account text) held calls = (refl, inl refl)
lost_results loads held calls = (refl, inl refl)

-- and where memory runs out before any call
pub same_if_not_called : {T E : Type 0} (r : Result T E) (call : KeeperCall) (held : Option KeeperContents) (calls : Option KeeperCalls) (faults : ℕ) → OnErr r (HasKeeperResult call held held calls calls faults faults)
same_if_not_called (Ok x) call held calls faults = tt
same_if_not_called (Err e) call held calls faults = record { outcome = no_memory; rows = []; keeper_result = lost_results call held calls; counted = refl }

-- and no CDR was accepted
abbrev pub lost_event : Event → EventRecord
lost_event e = event_record e no_memory [] false

abbrev pub lost_events : List Event → List EventRecord
lost_events [] = []
lost_events (e ∷ es) = lost_event e ∷ lost_events es

pub events_lost : (es : List Event) → events_in (lost_events es) ≡ es
events_lost [] = refl
events_lost (e ∷ es) = ap (λ (l : List Event). e ∷ l) (events_lost es)

pub length_lost : (es : List Event) → length (lost_events es) ≡ length es
length_lost [] = refl
length_lost (e ∷ es) = ap suc (length_lost es)

last_lost : (names : WebDirectory) (es : List Event) (keeper : KeeperState) → length es ≤ 1 → LastKeeperResult names (lost_events es) keeper keeper
last_lost names [] keeper one = (refl, refl)
last_lost names (e ∷ []) keeper one = (keeper.calls, refl, (lost_results (call_of names e) keeper.contents keeper.calls, inl refl))
last_lost names (e ∷ f ∷ es) keeper one = absurd (omega (arith, one))

pub results_lost : (names : WebDirectory) (xs : List EventRecord) (es : List Event) (old new : KeeperState) → length es ≤ 1
    → EachKeeperResult names xs old new → EachKeeperResultButLast names (xs ++ lost_events es) old new
results_lost names xs es old new one first =
    record { done = xs; last = lost_events es; parts = refl; between = new; each = first; rest = last_lost names es new one }

last_counted : (es : List Event) (faults : ℕ) → length es ≤ 1 → CountsLastFault (lost_events es) faults faults
last_counted [] faults one = refl
last_counted (e ∷ []) faults one = refl
last_counted (e ∷ f ∷ es) faults one = absurd (omega (arith, one))

pub counted_lost : (xs : List EventRecord) (es : List Event) (faults count : ℕ) → length es ≤ 1 → CountsEachFault xs faults count → CountsFaultsButLast (xs ++ lost_events es) faults count
counted_lost xs es faults count one first =
    record { done = xs; last = lost_events es; parts = refl; between = count; each = first; rest = last_counted es count one }

-- ---- its contents

-- these sheets and these CDRs
abbrev holding : Texts → List Row → Option KeeperContents
holding sheets rows = let h : KeeperContents = record { sheets = sheets; rows = rows } in Some h

-- nothing was put over them
pub unchanged : (held : Option KeeperContents) → held ≡ option_map (with_uploads_and_rows [] []) held
unchanged None = refl
unchanged (Some h) = ap (λ (rows : List Row). holding h.sheets rows) (sym (append-nil h.rows))

puts_one : (account : Account) (text : List ℕ) (held : Option KeeperContents) → option_map (with_sheet account text) held ≡ option_map (with_uploads_and_rows ((account, text) ∷ []) []) held
puts_one account text None = refl
puts_one account text (Some h) = ap (λ (rows : List Row). holding (put_each ((account, text) ∷ []) h.sheets) rows) (sym (append-nil h.rows))

adds_rows : (rows : List Row) (held : Option KeeperContents) → option_map (with_rows rows) held ≡ option_map (with_uploads_and_rows [] rows) held
adds_rows rows None = refl
adds_rows rows (Some h) = refl

puts_then : (xs ys : Texts) (texts : Texts) → put_each (xs ++ ys) texts ≡ put_each ys (put_each xs texts)
puts_then [] ys texts = refl
puts_then (x ∷ xs) ys texts = puts_then xs ys _

-- and then more
pub all_then : (xs ys : Texts) (rows more : List Row) (held : Option KeeperContents) →
    option_map (with_uploads_and_rows ys more) (option_map (with_uploads_and_rows xs rows) held) ≡ option_map (with_uploads_and_rows (xs ++ ys) (rows ++ more)) held
all_then xs ys rows more None = refl
all_then xs ys rows more (Some h) =
    ap (λ (sheets : Texts). holding sheets ((h.rows ++ rows) ++ more)) (sym (puts_then xs ys h.sheets))
    ∙ ap (λ (l : List Row). holding (put_each (xs ++ ys) h.sheets) l) (append_assoc h.rows rows more)

-- by what is done for a web request
by_web : (w : Web) (kept : KeeperOutcomeView) (rows : List Row) (held left : Option KeeperContents) (calls after : Option KeeperCalls) → IsKeeperResult (keeper_call_by w) kept rows held left calls after
    → left ≡ option_map (with_uploads_and_rows (option_to_list (stored_upload kept (upload_by w))) []) held
by_web (web.Read text) made rows held left calls after a = a.1.0 ∙ unchanged held
by_web (web.Read text) failed rows held left calls after a = a.1.0 ∙ unchanged held
by_web (web.Read text) no_memory rows held left calls after a = a.1.0 ∙ unchanged held
by_web (web.Store account sheet text reply) made rows held left calls after a = a.0 ∙ puts_one account text held
by_web (web.Store account sheet text reply) failed rows held left calls after a = a.0 ∙ unchanged held
by_web (web.Store account sheet text reply) no_memory rows held left calls after a = a.0 ∙ unchanged held
by_web (web.Mailbox account body) made rows held left calls after a = a.1.0 ∙ unchanged held
by_web (web.Mailbox account body) failed rows held left calls after a = a.1.0 ∙ unchanged held
by_web (web.Mailbox account body) no_memory rows held left calls after a = a.1.0 ∙ unchanged held
by_web web.Charges made rows held left calls after a = a.0 ∙ unchanged held
by_web web.Charges failed rows held left calls after a = a.0 ∙ unchanged held
by_web web.Charges no_memory rows held left calls after a = a.0 ∙ unchanged held

-- by how it was called in an event
holds_stored : (names : WebDirectory) (e : Event) (kept : KeeperOutcomeView) (rows : List Row) (held left : Option KeeperContents) (calls after : Option KeeperCalls) →
    IsKeeperResult (call_of names e) kept rows held left calls after
    → left ≡ option_map (with_uploads_and_rows (option_to_list (upload_at names e kept)) []) held
holds_stored names (event.Datagram from at bytes) kept rows held left calls after a = a.1.0 ∙ unchanged held
holds_stored names (event.Web at bytes) kept rows held left calls after a = by_web (web_of names [] (request_of bytes)) kept rows held left calls after a
holds_stored names (event.Quiet at) kept rows held left calls after a = a.1.0 ∙ unchanged held

-- of the CDRs that were handed to it, it holds those that it accepted
holds_handed_over : (took : Bool) (waiting : List Row) (held left : Option KeeperContents) (calls after : Option KeeperCalls) → HandsOver took waiting held left calls after
    → left ≡ option_map (with_uploads_and_rows [] (accepted_rows took waiting)) held
holds_handed_over true [] held left calls after handed = handed.1.0 ∙ unchanged held
holds_handed_over false [] held left calls after handed = absurd (false≢true handed.0)
holds_handed_over true (row ∷ rows) held left calls after handed = handed.0 ∙ adds_rows (row ∷ rows) held
holds_handed_over false (row ∷ rows) held left calls after handed = handed.0 ∙ unchanged held

-- in one event
pub holds_one : (names : WebDirectory) (one : EventRecord) (waiting : List Row) (held asked left : Option KeeperContents) (calls midst after : Option KeeperCalls)
    → IsKeeperResult (call_of names one.event) one.outcome one.rows held asked calls midst → HandsOver one.accepted waiting asked left midst after
    → left ≡ option_map (with_uploads_and_rows (uploads_of names (one ∷ [])) (accepted_rows one.accepted waiting)) held
holds_one names one waiting held asked left calls midst after answers handed =
    let put = option_to_list (upload_at names one.event one.outcome) in
    holds_handed_over one.accepted waiting asked left midst after handed
    ∙ (ap (λ (h : Option KeeperContents). option_map (with_uploads_and_rows [] (accepted_rows one.accepted waiting)) h) (holds_stored names one.event one.outcome one.rows held asked calls midst answers)
    ∙ all_then put [] [] (accepted_rows one.accepted waiting) held)

-- in one event in which it accepted no CDRs
holds_no_more : (names : WebDirectory) (one : EventRecord) (held left : Option KeeperContents) (calls midst : Option KeeperCalls) → IsKeeperResult (call_of names one.event) one.outcome one.rows held left calls midst
    → left ≡ option_map (with_uploads_and_rows (uploads_of names (one ∷ [])) []) held
holds_no_more names one held left calls midst answers =
    let put = option_to_list (upload_at names one.event one.outcome) in
    holds_stored names one.event one.outcome one.rows held left calls midst answers ∙ ap (λ (uploads : Texts). option_map (with_uploads_and_rows uploads []) held) (sym (append-nil put))

pub uploads_both : (names : WebDirectory) (xs ys : List EventRecord) → uploads_of names (xs ++ ys) ≡ uploads_of names xs ++ uploads_of names ys
uploads_both names [] ys = refl
uploads_both names (x ∷ xs) ys =
    ap (λ (l : Texts). option_to_list (upload_at names x.event x.outcome) ++ l) (uploads_both names xs ys)
    ∙ sym (append_assoc (option_to_list (upload_at names x.event x.outcome)) (uploads_of names xs) (uploads_of names ys))

-- ---- in a run

pub holds_nothing : (s : Server) (held : Option KeeperContents) → HoldsUploads [] s held held
holds_nothing s held d token loaded es fuel enough serves short = (
  [],
  ap (λ (l : List EventRecord). (after_events d token fuel (timed_events d l) (initial_state loaded)).filed) (append-nil es)
      ∙ sym (append-nil (after_events d token fuel (timed_events d es) (initial_state loaded)).filed),
  unchanged held,
)

pub holds_unaccepted : (one : EventRecord) (s : Server) (held left : Option KeeperContents) (calls midst : Option KeeperCalls) → one.accepted ≡ false
    → ((d : Directory) (token : List ℕ) (loaded : Texts) (es : List EventRecord) → RepresentsRun d token loaded es s → IsShortRun d token loaded (es ++ one ∷ [])
    → IsKeeperResult (call_of d.names one.event) one.outcome one.rows held left calls midst)
    → HoldsUploads (one ∷ []) s held left
holds_unaccepted one s held left calls midst took answers d token loaded es fuel enough serves short =
    let w : RunState = after_events d token fuel (timed_events d es) (initial_state loaded) in (
      [],
      ap (λ (u : RunState). u.filed) (after_last d token fuel es one (initial_state loaded)) ∙ (untaken d token fuel one w took ∙ sym (append-nil w.filed)),
      holds_no_more d.names one held left calls midst (answers d token loaded es serves short),
    )

pub holds_lost : (es : List Event) (s : Server) (held : Option KeeperContents) (calls : Option KeeperCalls) → length es ≤ 1 → HoldsUploads (lost_events es) s held held
holds_lost [] s held calls one = holds_nothing s held
holds_lost (e ∷ []) s held calls one =
    holds_unaccepted (lost_event e) s held held calls calls refl (λ d token loaded es serves short. lost_results (call_of d.names e) held calls)
holds_lost (e ∷ f ∷ es) s held calls one = absurd (omega (arith, one))
