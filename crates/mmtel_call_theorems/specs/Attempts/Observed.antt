-- What is observed of a call from outside, while it is offered: the INVITEs to its targets and the deadlines that are armed, each with its moment, and what is received. These
-- alone determine which attempt is current, since when and when it rang, which reliable responses to it wait for their PRACK, and how attempts ended (RFC 3261 §9, §13.2.1, §15,
-- §17.1.1, §17.1.3 and §21, RFC 3262 §3 and §4, TS 24.604 §4.5.2.6).
use Rattle.std.specs.Prelude.{ℕ, ◌==◌, ◌&&◌, not, nat_lt, Bool, true, false, if◌then◌else◌, Option, Some, None, List, [], ◌∷◌, ◌++◌, codes, is_ok, is_some, length, option_to_list}
use Rattle.std.specs.List.{list_any}
use Rattle.std.specs.Option.{option_map, unwrap_or}
use Rattle.std.specs.Str.{bytes_eq}
use Rattle.mmtel_compose.specs.ReceivedMessages.{MessageView, status_of, to_tag_of}
use Rattle.mmtel_leg.specs.Dialogues.{last_after, number_in, request_uri, unless_busy, unless_old}
use Rattle.mmtel_leg.specs.Remotes.{field, tag_in}
use Rattle.mmtel_leg.specs.declared.dialogues.InFlight.TheVariants as in_flight
use Rattle.mmtel_message.specs.Addresses.{via_text}
use Rattle.mmtel_message.specs.Faults.{is_method}
use Rattle.mmtel_message.specs.Message.{Line, Message}
use Rattle.mmtel_message.specs.declared.messages.Start.{Start as StartLine}
use Rattle.mmtel_precedence.specs.Attempts.{end_by, end_by_response, rings}
use Rattle.mmtel_precedence.specs.Calls.{AttemptEndView, EndedAttempt}
use Rattle.mmtel_precedence.specs.Attempts as events
use Rattle.mmtel_reliable.specs.Acks.{AcksView, after_ack, after_relay, has_own, next_attempt, no_responses, own_number}
use Rattle.mmtel_reliable.specs.declared.racks.Rack.{Rack}
use Rattle.mmtel_base.specs.Scanning.{after_text}
use Rattle.mmtel_transaction.specs.declared.words.DueWord.{DueWord}
use Rattle.mmtel_transaction.specs.declared.words.DueWord.TheVariants as due
use Rattle.mmtel_transaction.specs.declared.words.Emit.{Emit}
use Rattle.mmtel_transaction.specs.declared.words.Emit.TheVariants as emit
use Rattle.mmtel_transaction.specs.declared.words.TKey.{TKey}
use Rattle.mmtel_types.specs.declared.addrs.Addr.{Addr}
use Rattle.mmtel_types.specs.declared.numbers.CallNo.{CallNo}
use Rattle.mmtel_types.specs.declared.numbers.Peer.{Peer}
use Rattle.mmtel_types.specs.declared.sides.Side.{Side}
use Rattle.mmtel_types.specs.declared.sides.Side.TheVariants.{Caller, Callee}
use Rattle.mmtel_call_services.specs.Decisions.{redirect_of}
use Rattle.mmtel_output.specs.ResponseMatching.{awaited_request_branch, timed_out_branch}
use Rattle.mmtel_call_services.specs.Reliable.{reliable_number}
use Rattle.mmtel_call_services.specs.Requests.{number_of}
use Rattle.mmtel_call_services.specs.CallConfig.{CallConfigView}
use Rattle.mmtel_call_services.specs.declared.openings.Opening.{Opening}
use Rattle.mmtel_call.specs.Reliable.{rack_in}
use Rattle.mmtel_call.specs.Requests.{is_bye, is_invite, is_prack}
use Rattle.mmtel_call.specs.declared.signals.Signal.{Signal}
use Rattle.mmtel_call.specs.declared.signals.Signal.TheVariants as signal
use Rattle.mmtel_call_theorems.specs.Endings.{ending_at}
use Rattle.mmtel_call_theorems.specs.CallTrace.{TraceStart, TraceStep, call_after, first_step, items_added, next_step, opening_in}

-- ---- what is observed in what is sent

-- an INVITE, to this peer, with this Request-URI and this branch; and a deadline of an attempt, due at this moment
pub data AttemptEvent : Type 0 where
  Invited : (peer : Peer) → (uri branch : List ℕ) → AttemptEvent
  Armed : (what : DueWord) → (at : ℕ) → AttemptEvent

-- the branch of a request of the server, without its cookie: the part after everything else in the server's Via (RFC 3261 §8.1.1.7)
abbrev pub branch_of : Addr → Message StartLine → List ℕ
branch_of sip m = unwrap_or (after_text (via_text sip []) (field (codes "Via") m.lines)) []

-- the no-reply time and the longest time are those of an attempt
abbrev pub event_of_deadline : DueWord → (at : ℕ) → List AttemptEvent
event_of_deadline (due.NoReply number) at = Armed (due.NoReply number) at ∷ []
event_of_deadline (due.NoPrack number) at = []
event_of_deadline (due.Cap number) at = Armed (due.Cap number) at ∷ []
event_of_deadline (due.NoAck number) at = []
event_of_deadline (due.Expired number) at = []

-- where the call has this number
abbrev pub event_of : Addr → CallNo → Emit → List AttemptEvent
event_of sip own (emit.Ask peer m) = if is_method (codes "INVITE") m.start then Invited peer (request_uri m.start) (branch_of sip m) ∷ [] else []
event_of sip own (emit.Reply asked m) = []
event_of sip own (emit.Plain peer text) = []
event_of sip own (emit.Ack asked m) = []
event_of sip own (emit.Settled asked settled) = []
event_of sip own (emit.Arm call what at) = if call.0 == own.0 then event_of_deadline what at else []
event_of sip own (emit.ArmSeat room seat what at) = []

abbrev pub events_of : Addr → CallNo → List Emit → List AttemptEvent
events_of sip own [] = []
events_of sip own (e ∷ later) = event_of sip own e ++ events_of sip own later

-- ---- the current attempt

-- a deadline, and the moment at which it is due
pub record Deadline : Type 0 where
  pub what : DueWord
  pub at : ℕ

pub record AttemptInProgress : Type 0 where
  -- of its INVITE: the peer to which it was sent, its Request-URI and its branch
  pub peer : Peer
  pub uri : List ℕ
  pub branch : List ℕ
  -- the moment of the step in which it was sent
  pub since : ℕ
  -- the deadlines that were armed since, in order
  pub armed : List Deadline
  -- the moment at which a response was first received since that means that the target rings and that is relayed, if one was
  pub rang_at : Option ℕ
  -- the tag of the first response with one that was received since and is relayed, if one was: that of the early dialog (RFC 3261 §12.1.2)
  pub early : Option (List ℕ)

abbrev pub rang : AttemptInProgress → Bool
rang g = is_some g.rang_at

pub record ObservedAttempts : Type 0 where
  -- the deadlines of the attempts before
  pub earlier : List Deadline
  -- the current one, if there is one
  pub in_progress : Option AttemptInProgress
  -- the reliable responses that are relayed to the caller, and which of them are acknowledged (RFC 3262 §3)
  pub acks : AcksView

abbrev pub armed_in : Option AttemptInProgress → List Deadline
armed_in None = []
armed_in (Some g) = g.armed

abbrev pub with_armed : Deadline → AttemptInProgress → AttemptInProgress
with_armed deadline g = record g { armed = g.armed ++ deadline ∷ [] }

-- in a step at this moment; an INVITE that is sent begins one
abbrev pub after_event : (now : ℕ) → ObservedAttempts → AttemptEvent → ObservedAttempts
after_event now w (Invited peer uri branch) = record {
  earlier = w.earlier ++ armed_in w.in_progress;
  in_progress = Some (record { peer = peer; uri = uri; branch = branch; since = now; armed = []; rang_at = None; early = None });
  acks = next_attempt w.acks;
}
after_event now w (Armed what at) = record w { in_progress = option_map (with_armed (record { what = what; at = at })) w.in_progress }

abbrev pub after_events : (now : ℕ) → ObservedAttempts → List AttemptEvent → ObservedAttempts
after_events now w [] = w
after_events now w (mark ∷ later) = after_events now (after_event now w mark) later

-- ---- what is received for it

-- whether it is of the early dialog, if there is one: each dialog has RSeq numbers of its own (RFC 3262 §4)
abbrev pub is_in_early : Option (List ℕ) → MessageView → Bool
is_in_early None m = true
is_in_early (Some tag) m = bytes_eq tag (to_tag_of m)

-- the number under which a reliable response of this number is relayed, if it is; any other response is relayed without one
abbrev pub number_for : ℕ → (early : Option (List ℕ)) → AcksView → MessageView → Option ℕ
number_for rseq early acks m = if is_in_early early m then own_number rseq acks else None

abbrev pub is_relayed_by : Option ℕ → (early : Option (List ℕ)) → AcksView → MessageView → Bool
is_relayed_by None early acks m = true
is_relayed_by (Some rseq) early acks m = is_some (number_for rseq early acks m)

-- whether it is a response to its INVITE that is relayed, other than a final one
abbrev pub is_relayed : CallConfigView → Opening → (early : Option (List ℕ)) → AcksView → (code : ℕ) → MessageView → Bool
is_relayed config o early acks code m = if nat_lt code 101 then false else if nat_lt code 200 then is_relayed_by (reliable_number config o m) early acks m else false

-- a response to its INVITE
abbrev pub is_response_to : AttemptInProgress → Option (List ℕ) → Bool
is_response_to g None = false
is_response_to g (Some branch) = bytes_eq g.branch branch

abbrev pub relayed_response : CallConfigView → Opening → AttemptInProgress → AcksView → Signal → Option MessageView
relayed_response config o g acks (signal.Request side key request) = None
relayed_response config o g acks (signal.Ack side ack) = None
relayed_response config o g acks (signal.Cancel key cancel invite) = None
relayed_response config o g acks (signal.Answer key response) =
    if is_response_to g (awaited_request_branch response) && is_relayed config o g.early acks (status_of response.parsed.start) response then Some response else None
relayed_response config o g acks (signal.Silent branch method) = None
relayed_response config o g acks (signal.Due what) = None
relayed_response config o g acks (signal.Ended key) = None

-- one that means that the target rings
abbrev pub rings_by : Option MessageView → Bool
rings_by None = false
rings_by (Some m) = rings (status_of m.parsed.start)

-- the first moment at which one did
abbrev pub first_ringing : (now : ℕ) → (before : Option ℕ) → (rings : Bool) → Option ℕ
first_ringing now (Some first) rings = Some first
first_ringing now None rings = if rings then Some now else None

-- the first one that has a tag establishes the early dialog: the tag of its To
abbrev pub early_in : Option (List ℕ) → (empty : Bool) → List Line → Option (List ℕ)
early_in (Some tag) empty lines = Some tag
early_in None empty lines = if empty then None else Some (tag_in (codes "To") lines)

abbrev pub early_by : Option (List ℕ) → Option MessageView → Option (List ℕ)
early_by early None = early
early_by early (Some m) = early_in early (length (to_tag_of m) == 0) m.parsed.lines

-- a reliable one gets the next number, under which it waits for its PRACK
abbrev pub acks_relayed : Option ℕ → AcksView → AcksView
acks_relayed None acks = acks
acks_relayed (Some rseq) acks = after_relay rseq acks

abbrev pub acks_after_response : CallConfigView → Opening → AcksView → Option MessageView → AcksView
acks_after_response config o acks None = acks
acks_after_response config o acks (Some m) = acks_relayed (reliable_number config o m) acks

-- ---- the requests of the caller that are in order: its last number, and what it is after one more (RFC 3261 §12.2.2)

abbrev pub in_order : Option ℕ → MessageView → Bool
in_order last m = is_ok (unless_old (number_of m) last (unless_busy (is_invite m) in_flight.Theirs))

abbrev pub last_by_request : Option ℕ → Side → MessageView → Option ℕ
last_by_request last Caller m = if in_order last m then last_after (number_of m) last else last
last_by_request last Callee m = last

abbrev pub last_by : Option ℕ → Signal → Option ℕ
last_by last (signal.Request side key request) = last_by_request last side request
last_by last (signal.Ack side ack) = last
last_by last (signal.Cancel key cancel invite) = last
last_by last (signal.Answer key response) = last
last_by last (signal.Silent branch method) = last
last_by last (signal.Due what) = last
last_by last (signal.Ended key) = last

-- that of the INVITE that opened the call
abbrev pub first_last : TraceStart → Option ℕ
first_last s = number_in s.arrival.invite.parsed.lines

unfoldable pub last_after_all : TraceStart → List TraceStep → Option ℕ
last_after_all s [] = first_last s
last_after_all s (x ∷ earlier) = last_by (last_after_all s earlier) x.signal

-- ---- a PRACK of the caller that is in order, where there is an early dialog, acknowledges what waits (RFC 3262 §3)

abbrev pub acks_after_ack : (early : Option (List ℕ)) → Option Rack → AcksView → AcksView
acks_after_ack None rack acks = acks
acks_after_ack (Some tag) None acks = acks
acks_after_ack (Some tag) (Some rack) acks = after_ack rack acks

abbrev pub acks_after_request : (last : Option ℕ) → AttemptInProgress → AcksView → Side → MessageView → AcksView
acks_after_request last g acks Caller m = if in_order last m && is_prack m then acks_after_ack g.early (rack_in m) acks else acks
acks_after_request last g acks Callee m = acks

abbrev pub acks_after : CallConfigView → Opening → (last : Option ℕ) → AttemptInProgress → AcksView → Signal → AcksView
acks_after config o last g acks (signal.Request side key request) = acks_after_request last g acks side request
acks_after config o last g acks (signal.Ack side ack) = acks
acks_after config o last g acks (signal.Cancel key cancel invite) = acks
acks_after config o last g acks (signal.Answer key response) = acks_after_response config o acks (relayed_response config o g acks (signal.Answer key response))
acks_after config o last g acks (signal.Silent branch method) = acks
acks_after config o last g acks (signal.Due what) = acks
acks_after config o last g acks (signal.Ended key) = acks

-- ---- what ends it, if anything

-- a response to its INVITE, by its status
abbrev pub observed_end_on_response : AttemptInProgress → MessageView → Option (List ℕ) → Option AttemptEndView
observed_end_on_response g m None = None
observed_end_on_response g m (Some branch) = if bytes_eq g.branch branch then end_by_response (status_of m.parsed.start) (redirect_of m) (rang g) else None

-- no response at all to it; an attempt that rang had a response
abbrev pub observed_end_on_timeout : AttemptInProgress → Option (List ℕ) → Option AttemptEndView
observed_end_on_timeout g None = None
observed_end_on_timeout g (Some branch) = if bytes_eq g.branch branch && not (rang g) then end_by events.TransactionTimeout (rang g) else None

-- whether a deadline has the number of one that was armed for it
abbrev pub is_attempt_deadline : ℕ → DueWord → Bool
is_attempt_deadline number (due.NoReply other) = number == other
is_attempt_deadline number (due.NoPrack other) = false
is_attempt_deadline number (due.Cap other) = number == other
is_attempt_deadline number (due.NoAck other) = false
is_attempt_deadline number (due.Expired other) = false

abbrev pub is_armed : ℕ → List Deadline → Bool
is_armed number armed = list_any (λ deadline. is_attempt_deadline number deadline.what) armed

-- or that of a reliable response that waits for its PRACK
abbrev pub observed_end_on_deadline : AttemptInProgress → AcksView → DueWord → Option AttemptEndView
observed_end_on_deadline g acks (due.NoReply number) = if is_armed number g.armed then end_by events.NoReplyTime (rang g) else None
observed_end_on_deadline g acks (due.NoPrack own) = if has_own own acks.waiting then end_by events.PrackTime (rang g) else None
observed_end_on_deadline g acks (due.Cap number) = if is_armed number g.armed then end_by events.LongestTime (rang g) else None
observed_end_on_deadline g acks (due.NoAck number) = None
observed_end_on_deadline g acks (due.Expired number) = None

-- the BYE of the caller, if it is in order
abbrev pub observed_end_on_request : (last : Option ℕ) → AttemptInProgress → Side → MessageView → Option AttemptEndView
observed_end_on_request last g Caller m = if in_order last m && is_bye m then end_by events.CallerGaveUp (rang g) else None
observed_end_on_request last g Callee m = None

-- where the INVITE that opened the call has this server transaction, this was the last CSeq number of its caller, and these reliable responses wait
abbrev pub observed_end : (key : TKey) → (last : Option ℕ) → AttemptInProgress → AcksView → Signal → Option AttemptEndView
observed_end key last g acks (signal.Request side asked request) = observed_end_on_request last g side request
observed_end key last g acks (signal.Ack side ack) = None
observed_end key last g acks (signal.Cancel asked cancel invite) = if invite.0 == key.0 then end_by events.CallerGaveUp (rang g) else None
observed_end key last g acks (signal.Answer asked response) = observed_end_on_response g response (awaited_request_branch response)
observed_end key last g acks (signal.Silent branch method) = observed_end_on_timeout g (timed_out_branch branch method)
observed_end key last g acks (signal.Due what) = observed_end_on_deadline g acks what
observed_end key last g acks (signal.Ended asked) = None

-- while none is current, none ends
abbrev pub observed_end_in : (key : TKey) → (last : Option ℕ) → Option AttemptInProgress → AcksView → Signal → Option AttemptEndView
observed_end_in key last None acks received = None
observed_end_in key last (Some g) acks received = observed_end key last g acks received

abbrev pub end_observed : (key : TKey) → (last : Option ℕ) → ObservedAttempts → Signal → Option AttemptEndView
end_observed key last w received = observed_end_in key last w.in_progress w.acks received

-- ---- in a trace: what was received, and then what was sent in that step

-- the attempt continues: when it rang, its early dialog, and what waits for a PRACK, by the response that is relayed, if there is one
abbrev pub attempt_after_response : (now : ℕ) → AttemptInProgress → Option MessageView → AttemptInProgress
attempt_after_response now g passed = record g { rang_at = first_ringing now g.rang_at (rings_by passed); early = early_by g.early passed }

abbrev pub observed_after_signal : CallConfigView → Opening → (now : ℕ) → ObservedAttempts → (last : Option ℕ) → AttemptInProgress →
    Signal → Option AttemptEndView → ObservedAttempts
observed_after_signal config o now w last g received None =
    record w { in_progress = Some (attempt_after_response now g (relayed_response config o g w.acks received)); acks = acks_after config o last g w.acks received }
observed_after_signal config o now w last g received (Some how) = record w { earlier = w.earlier ++ g.armed; in_progress = None }

-- once none is current, none follows
abbrev pub observed_step_from : CallConfigView → Opening → (now : ℕ) → ObservedAttempts → Option AttemptInProgress → (last : Option ℕ) →
    Signal → List AttemptEvent → ObservedAttempts
observed_step_from config o now w None last received marks = w
observed_step_from config o now w (Some g) last received marks =
    after_events now (observed_after_signal config o now w last g received (observed_end o.key last g w.acks received)) marks

-- of the call that was opened in this way
abbrev pub observed_step : CallConfigView → Opening → (now : ℕ) → ObservedAttempts → (last : Option ℕ) → Signal → List AttemptEvent → ObservedAttempts
observed_step config o now w last received marks = observed_step_from config o now w w.in_progress last received marks

-- where the INVITE that opened the call has this CSeq number, if it has one
abbrev pub nothing_observed : Option ℕ → ObservedAttempts
nothing_observed cseq = record { earlier = []; in_progress = None; acks = no_responses (unwrap_or cseq 0) }

-- what was sent as it opened, and in one more step
abbrev pub events_at_start : TraceStart → List AttemptEvent
events_at_start s = events_of s.config.sip s.arrival.number (items_added s.output.out (first_step s).output.out)

abbrev pub events_of_step : TraceStart → TraceStep → List TraceStep → List AttemptEvent
events_of_step s x earlier = events_of s.config.sip s.arrival.number (items_added x.output.out (next_step s x (call_after s earlier)).output.out)

unfoldable pub observed_after : TraceStart → List TraceStep → ObservedAttempts
observed_after s [] = after_events s.now.at (nothing_observed (number_of s.arrival.invite)) (events_at_start s)
observed_after s (x ∷ earlier) = observed_step s.config (opening_in s) x.now.at (observed_after s earlier) (last_after_all s earlier) x.signal (events_of_step s x earlier)

-- ---- how attempts ended, in order

abbrev pub end_at_step : TraceStart → TraceStep → List TraceStep → Option AttemptEndView
end_at_step s x earlier = end_observed s.arrival.key (last_after_all s earlier) (observed_after s earlier) x.signal

unfoldable pub endings_observed : TraceStart → List TraceStep → List EndedAttempt
endings_observed s [] = []
endings_observed s (x ∷ earlier) = endings_observed s earlier ++ option_to_list (option_map (ending_at x.now.at) (end_at_step s x earlier))
