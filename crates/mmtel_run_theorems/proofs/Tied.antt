-- Each response of a run comes from the peer to which its INVITE, PRACK or UPDATE was sent, and each INVITE whose 2xx is acknowledged was sent to the peer of the other leg.
use Rattle.std.proofs.Common.{◌≡◌, ℕ, suc, Bool, true, false, List, [], ◌∷◌, Option, Some, None, Ok, Err, refl, sym, ap, ◌∙◌, subst, inl, inr, arith, codes}
use Rattle.std.specs.Prelude.{position, slice_get}
use Rattle.std.specs.Option.{option_map}
use Rattle.std.specs.Str.{bytes_eq}
use Rattle.std.proofs.lemmas.List.Quantifiers.{position-Some}
use Rattle.std.proofs.lemmas.Option.{get_or_from_slice_get}
use Rattle.mmtel_compose.specs.ReceivedMessages.{MessageView}
use Rattle.mmtel_b2bua.specs.Detaching.{entry_at, place_of}
use Rattle.mmtel_b2bua.specs.declared.entries.Entry.{Entry}
use Rattle.mmtel_call_services.specs.Requests.{is_same_number, is_same_side, number_of}
use Rattle.mmtel_call.specs.Answered.{leg_of}
use Rattle.mmtel_call.specs.RelayedTransactions.{is_in_flight}
use Rattle.mmtel_call.specs.OtherRequests.{is_answered_invite}
use Rattle.mmtel_call.specs.Table.{current_invite, current_invite_at, is_branch}
use Rattle.mmtel_call.specs.declared.calls.Call.{Call}
use Rattle.mmtel_call.specs.declared.calls.RelayedTransaction.{RelayedTransaction}
use Rattle.mmtel_call.specs.declared.calls.RelayedKind.{RelayedKind}
use Rattle.mmtel_call.specs.declared.calls.RelayedKind.TheVariants.{Prack, Update}
use Rattle.mmtel_call.specs.declared.calls.EstablishedLegs.{EstablishedLegs}
use Rattle.mmtel_call.specs.declared.calls.Phase.{Phase}
use Rattle.mmtel_call.specs.declared.calls.Phase.TheVariants.{Detached, Established, Offered, Over}
use Rattle.mmtel_call.specs.declared.calls.Stage.{Stage}
use Rattle.mmtel_call.specs.declared.calls.Stage.TheVariants.{Answered, Departing, Reinviting, Stable}
use Rattle.mmtel_call_theorems.specs.Branches.SentRequests.{AbandonedWasSent, AnsweredWasSent, CallWasSent, Each, PhaseWasSent, RelayedWasSent}
use Rattle.mmtel_call_theorems.specs.Branches.SentRequests.{RequestWasSent, SentInviteWasSent, SomeInviteWasSent, StageWasSent, method_of}
use Rattle.mmtel_call_theorems.specs.Noninterference.Observations.{trust_of}
use Rattle.mmtel_call_theorems.specs.Noninterference.StepTable.{SentIn}
use Rattle.mmtel_output.specs.ResponseMatching.{is_awaited_method}
use Rattle.mmtel_output.specs.AbandonedInvites.{is_of_branch}
use Rattle.mmtel_output.specs.declared.sent_invites.SentInvite.{SentInvite}
use Rattle.mmtel_directory.specs.declared.directories.Directory.{Directory}
use Rattle.mmtel_http.specs.Requests.{request_of}
use Rattle.mmtel_message.specs.Faults.{is_request}
use Rattle.mmtel_message.specs.Fields.{cseq_at, five_at, via_at}
use Rattle.mmtel_message.specs.Message.{Line, Message, first_value}
use Rattle.mmtel_message.specs.Guarantees.{IsOnly}
use Rattle.mmtel_message.specs.Reads.{Read, read_result}
use Rattle.mmtel_message.specs.declared.fields.Five.{Five}
use Rattle.mmtel_message.specs.declared.messages.Start.{Start}
use Rattle.mmtel_message.specs.declared.reading.ReadFault.TheVariants as fault
use Rattle.mmtel_environment.specs.declared.events.Event.{Event}
use Rattle.mmtel_environment.specs.declared.events.Event.TheVariants as event
use Rattle.mmtel_base.proofs.Runs.{and_true}
use Rattle.mmtel_participants.specs.declared.participants.Invite.{Invite}
use Rattle.mmtel_participants.specs.declared.participants.Invite.TheVariants.{Accepted, Outstanding}
use Rattle.mmtel_focus.specs.Participants.{dialogue_of}
use Rattle.mmtel_focus.specs.Table.{Table, invite_has_branch, participant_has_branch}
use Rattle.mmtel_transaction.specs.Results.{class_of, peer_of}
use Rattle.mmtel_transaction.specs.Matching.{OwnersAreLive}
use Rattle.mmtel_transaction.specs.Operations.{live}
use Rattle.mmtel_transaction.specs.Heads.{head_of}
use Rattle.mmtel_transaction.specs.Theorems.{TokensDiffer}
use Rattle.mmtel_transaction.specs.declared.message_class.MessageClass.TheVariants as part
use Rattle.mmtel_trust.specs.Members.{IsIn}
use Rattle.mmtel_trust.specs.Peers.{is_trusted, peer_at}
use Rattle.mmtel_types.specs.Sides.{other_side}
use Rattle.mmtel_types.specs.declared.addrs.Addr.{Addr}
use Rattle.mmtel_types.specs.declared.numbers.Peer.{Peer}
use Rattle.mmtel_types.specs.declared.sides.Side.{Side}
use Rattle.mmtel_types.specs.declared.sides.Side.TheVariants.{Caller, Callee}
use Rattle.mmtel_run_definitions.specs.Equivalence.{trusts}
use Rattle.mmtel_run_definitions.specs.Calls.{call_config}
use Rattle.mmtel_run_definitions.specs.Events as Events
use Rattle.mmtel_run_definitions.specs.Events.{EventRecord, ParsedEvent, TimedEvent, message_in, parsed_datagram, parsed_from, parsed_refusal, parsed_result, timed_events}
use Rattle.mmtel_run_definitions.specs.Run.{after_event_in_order}
use Rattle.mmtel_run_definitions.specs.Transitions.{RunState, calls_in, conferences_in, initial_state}
use Rattle.mmtel_run_theorems.specs.EquivalentStates.{AckIsTied, AllTied, ConferenceResponseIsTied, EventIsTied, HasSameTrust, InviteIsTied, IsEarly, ResponseIsTied}
use Rattle.mmtel_run_theorems.specs.Noninterference.{BranchesAreRead, RunsAreTied}
use Rattle.mmtel_run_theorems.specs.SentInvites.{ConferenceWasSent, ParticipantInviteWasSent, ParticipantWasSent}
use Rattle.mmtel_run_theorems.specs.Mask.{state_at_event}
use Rattle.mmtel_run_theorems.proofs.ClientTransactions.{AwaitedWasSent, answer_sent, asked_awaited, asks_of, invite_awaited, sent_once}
use Rattle.mmtel_run_theorems.proofs.Branches.{WasRead, answers, text_same}
use Rattle.mmtel_run_theorems.proofs.DispositionKinds.{answer_response, head_request}
use Rattle.mmtel_run_theorems.proofs.RoleBounds.{true_false}
use Rattle.mmtel_run_theorems.proofs.SentOnce.{EntryWasSent, Holds, Once, begins, coming_goes, each_at, one_goes}

-- ---- positions in a list

passes : {A : Type 0} (p : A → Bool) (xs : List A) (at : ℕ) (x : A) → position p xs ≡ Some at → slice_get xs at ≡ Some x → p x ≡ true
passes p xs at x found got = sym (ap p (get_or_from_slice_get xs at x x got)) ∙ (position-Some p xs at x found).1

member : {A : Type 0} (P : A → Type 0) (xs : List A) (x : A) → IsIn x xs → Each P xs → P x
member P [] x is e = absurd is
member P (y ∷ ys) x (inl same) e = subst P same e.0
member P (y ∷ ys) x (inr there) e = member P ys x there e.1

entry_in : (P : Entry → Type 0) (o : Option ℕ) (es : List Entry) (e : Entry) → Each P es → entry_at o es ≡ Some e → P e
entry_in P None es e had is = let none : None ≡ Some e = is in absurd cc
entry_in P (Some place) es e had is = each_at P es place e had is

-- ---- the INVITE whose response a call awaits

some_same : (i j : SentInvite) → Some i ≡ Some j → i ≡ j
some_same i j e = cc

module _ (sent : List ℕ → Peer → Type 0) where
  is_current_sent : (i j : SentInvite) → SentInviteWasSent sent i → Some i ≡ Some j → SentInviteWasSent sent j
  is_current_sent i j is same = subst (SentInviteWasSent sent) (some_same i j same) is

  stage_sent : (x : EstablishedLegs) (stage : Stage) (i : SentInvite) → StageWasSent sent x stage → current_invite_at stage ≡ Some i → SentInviteWasSent sent i
  stage_sent x (Answered waiting success) i is e = let none : None ≡ Some i = e in absurd cc
  stage_sent x (Departing waiting success) i is e = let none : None ≡ Some i = e in absurd cc
  stage_sent x Stable i is e = let none : None ≡ Some i = e in absurd cc
  stage_sent x (Reinviting asking q) i is e = is_current_sent q.invite i is.0 e

  current_invite_sent : (p : Phase) (i : SentInvite) → PhaseWasSent sent p → current_invite p ≡ Some i → SentInviteWasSent sent i
  current_invite_sent (Offered x) i is e = is_current_sent x.attempt.invite i is.0 e
  current_invite_sent (Established x stage) i is e = stage_sent x stage i is e
  current_invite_sent (Detached detached) i is e = let none : None ≡ Some i = e in absurd cc
  current_invite_sent (Over cause) i is e = let none : None ≡ Some i = e in absurd cc

  -- of this branch
  with_branch : (one other : List ℕ) (peer : Peer) → bytes_eq one other ≡ true → sent one peer → sent other peer
  with_branch one other peer same is = subst (λ (b : List ℕ). sent b peer) (text_same one other same) is

-- the response to what is in flight is awaited
waits : (kind : RelayedKind) → is_awaited_method (method_of kind) ≡ true
waits Prack = refl
waits Update = refl

side_is : (waiting side : Side) → is_same_side waiting side ≡ true → waiting ≡ side
side_is Caller Caller e = refl
side_is Caller Callee e = absurd (true_false (sym e))
side_is Callee Caller e = absurd (true_false (sym e))
side_is Callee Callee e = refl

-- ---- a state

module _ (differ : TokensDiffer) (owners : OwnersAreLive)
    (fives : (b : List ℕ) (m : Message Start) → read_result b ≡ Ok m → (five : Five) × (five_at m.lines ≡ Some five))
    (vias : (b : List ℕ) (m : Message Start) (five : Five) → read_result b ≡ Ok m → five_at m.lines ≡ Some five → (v : List ℕ) × (first_value (codes "Via") m.lines ≡ Some v) × (via_at v ≡ Some five.via))
    (cseqs : (ls : List Line) (five : Five) → five_at ls ≡ Some five → (v : List ℕ) × IsOnly (codes "CSeq") ls v × (cseq_at v ≡ Some five.cseq))
    (d : Directory) (token : List ℕ) (read : BranchesAreRead d token) where
  module _ (w : RunState) (had : Holds d token w) (early : IsEarly w) where
    abbrev Was : List ℕ → Peer → Type 0
    Was = SomeInviteWasSent d.sip (asks_of w.actions)

    -- a request of this branch whose response is awaited was sent to this peer
    abbrev Went : List ℕ → Peer → Type 0
    Went = AwaitedWasSent d.sip token (asks_of w.actions)

    went : (branch : List ℕ) (peer : Peer) → Was branch peer → Went branch peer
    went branch peer was = invite_awaited d.sip token (asks_of w.actions) branch peer was

    flight_went : (flight : RelayedTransaction) (branch : List ℕ) (peer : Peer) → RequestWasSent d.sip (asks_of w.actions) (method_of flight.kind) branch peer → Went branch peer
    flight_went flight branch peer was = asked_awaited d.sip token (method_of flight.kind) (waits flight.kind) (asks_of w.actions) branch peer was

    one_peer : (branch : List ℕ) (one other : Peer) → Went branch one → Went branch other → one ≡ other
    one_peer branch one other is too = sent_once d.sip token differ (suc w.drawn) (asks_of w.actions) branch one other (omega (arith, early)) (had.numbered early) is too

    entry_sent : (at : ℕ) (e : Entry) → slice_get (calls_in d w).entries at ≡ Some e → CallWasSent (RequestWasSent d.sip (asks_of w.actions)) e.call
    entry_sent at e got = each_at (EntryWasSent d.sip (asks_of w.actions)) (calls_in d w).entries at e had.calls_sent got

    -- a response
    module _ (m : MessageView) (is : WasRead m) where
      same_message : message_in m.parsed ≡ is.message
      same_message = ap message_in is.is

      response_tied : ResponseIsTied d w m
      response_tied key branch at e part_is answered found got =
          let n : Message Start = is.message in
          let of_n : class_of (head_of n) (live w.actions) ≡ part.Answer key = subst (λ (x : Message Start). class_of (head_of x) (live w.actions) ≡ part.Answer key) same_message part_is in
          let response : is_request n.start ≡ false = answer_response n (live w.actions) key of_n in
          let says = answers fives vias cseqs m branch is answered response in
          let was = answer_sent d.sip token read.source read.port read.text owners (suc w.drawn) w.actions n branch key (omega (arith, early)) (had.numbered early) of_n (head_request n ∙ response) says.0 says.1 in
          let c : Call = e.call in
          let sent : CallWasSent (RequestWasSent d.sip (asks_of w.actions)) c = entry_sent at e got in
          let tied : (peer : Peer) → Went branch peer → HasSameTrust d w (record { 0 = key }) peer = λ peer too. tie key was.0 was.1 branch was.2 peer too in
          let invited : (peer : Peer) → Was branch peer → HasSameTrust d w (record { 0 = key }) peer = λ peer too. tied peer (went branch peer too) in
          record {
            awaited = λ i now cur. invited i.dialogue.peer
                (with_branch Was i.branch branch i.dialogue.peer (sym (ap (is_branch branch) cur) ∙ now) (current_invite_sent Was c.phase i sent.phase_in cur));
            abandoned = λ place l there at_it. invited l.invite.dialogue.peer
                (with_branch Was l.invite.branch branch l.invite.dialogue.peer (passes (is_of_branch branch) c.abandoned place l there at_it)
                (each_at (AbandonedWasSent Was) c.abandoned place l sent.others_in.abandoned_in at_it));
            answered = λ place t there at_it. invited t.invite.dialogue.peer
                (with_branch Was t.invite.branch branch t.invite.dialogue.peer (passes (is_answered_invite branch) c.answered_invites place t there at_it)
                (each_at (AnsweredWasSent Was) c.answered_invites place t sent.others_in.answered_in at_it));
            relayed = λ place flight there at_it.
                let asked : List ℕ → Peer → Type 0 = RequestWasSent d.sip (asks_of w.actions) (method_of flight.kind) in
                let i : SentInvite = flight.exchange.invite in
                tied i.dialogue.peer (flight_went flight branch i.dialogue.peer
                (with_branch asked i.branch branch i.dialogue.peer (passes (is_in_flight branch) c.relayed place flight there at_it)
                (each_at (RelayedWasSent (RequestWasSent d.sip (asks_of w.actions))) c.relayed place flight sent.others_in.in_flight_in at_it)));
          }
        where
          tie : (key : ℕ) (q : Peer) → peer_of key (live w.actions) ≡ Some q → (branch : List ℕ) → Went branch q → (peer : Peer) → Went branch peer → HasSameTrust d w (record { 0 = key }) peer
          tie key q of_q branch was peer too = ap (option_map (trusts d)) of_q ∙ ap (λ (p : Peer). Some (trusts d p)) (one_peer branch q peer was too)

    -- a response for a participant
    module _ (m : MessageView) (is : WasRead m) where
      seat_tied : ConferenceResponseIsTied d w m
      seat_tied key branch part_is answered =
          let n : Message Start = is.message in
          let of_n : class_of (head_of n) (live w.actions) ≡ part.Answer key = subst (λ (x : Message Start). class_of (head_of x) (live w.actions) ≡ part.Answer key) (same_message m is) part_is in
          let response : is_request n.start ≡ false = answer_response n (live w.actions) key of_n in
          let says = answers fives vias cseqs m branch is answered response in
          let was = answer_sent d.sip token read.source read.port read.text owners (suc w.drawn) w.actions n branch key (omega (arith, early)) (had.numbered early) of_n (head_request n ∙ response) says.0 says.1 in
          let table : Table = conferences_in d w in
          let tied : (peer : Peer) → Was branch peer → HasSameTrust d w (record { 0 = key }) peer = λ peer too. tie key was.0 was.1 branch was.2 peer (went branch peer too) in
          record {
            abandoned = λ place l there at_it. tied l.invite.dialogue.peer
                (with_branch Was l.invite.branch branch l.invite.dialogue.peer (passes (is_of_branch branch) table.abandoned place l there at_it)
                (each_at (AbandonedWasSent Was) table.abandoned place l had.conferences_sent.abandoned_in at_it));
            participant = λ at place room seat there at_it its of_it.
                let sent : ParticipantWasSent Was seat = each_at (ParticipantWasSent Was) room.participants place seat (each_at (ConferenceWasSent Was) table.live at room had.conferences_sent.live_in at_it) of_it in
                let both = tied_by key branch (dialogue_of seat).peer seat.invite tied (passes (participant_has_branch branch) room.participants place seat its of_it) sent in
                record { invite = both.0; leg = both.1 };
          }
        where
          tie : (key : ℕ) (q : Peer) → peer_of key (live w.actions) ≡ Some q → (branch : List ℕ) → Went branch q → (peer : Peer) → Went branch peer → HasSameTrust d w (record { 0 = key }) peer
          tie key q of_q branch was peer too = ap (option_map (trusts d)) of_q ∙ ap (λ (p : Peer). Some (trusts d p)) (one_peer branch q peer was too)

          tied_by : (key : ℕ) (branch : List ℕ) (peer : Peer) (o : Option Invite) → ((q : Peer) → Was branch q → HasSameTrust d w (record { 0 = key }) q) → invite_has_branch branch o ≡ true →
              ParticipantInviteWasSent Was peer o →
              InviteIsTied d w (record { 0 = key }) o × HasSameTrust d w (record { 0 = key }) peer
          tied_by key branch peer None tied asks sent = absurd (true_false (sym asks))
          tied_by key branch peer (Some (Outstanding number i)) tied asks sent =
              (tied i.dialogue.peer (with_branch Was i.branch branch i.dialogue.peer asks sent.0), tied peer (with_branch Was i.branch branch peer asks sent.1))
          tied_by key branch peer (Some (Accepted other tag ack)) tied asks sent = (tt, tied peer (with_branch Was other branch peer asks sent))

    -- an ACK
    ack_in : (p : Phase) (c : Call) (side : Side) (m : MessageView) → PhaseWasSent Was p → Each (AnsweredWasSent Was) c.answered_invites → SentIn p (trust_of (call_config d) (λ key. false)) c side m
    ack_in (Offered x) c side m is e = tt
    ack_in (Established x (Answered waiting success)) c side m is e = λ acks taken among of.
        let same : waiting ≡ side = side_is waiting side (and_true (is_same_side waiting side) (is_same_number (number_of m) success.cseq) acks).0 in
        let across : Was success.branch (leg_of (other_side side) x).dialogue.peer = subst (λ (s : Side). Was success.branch (leg_of (other_side s) x).dialogue.peer) same is in
        let its : Was success.branch taken.invite.dialogue.peer =
        with_branch Was taken.invite.branch success.branch taken.invite.dialogue.peer of (member (AnsweredWasSent Was) c.answered_invites taken among e) in
        ap (trusts d) (one_peer success.branch taken.invite.dialogue.peer (leg_of (other_side side) x).dialogue.peer (went success.branch taken.invite.dialogue.peer its)
        (went success.branch (leg_of (other_side side) x).dialogue.peer across))
    ack_in (Established x (Departing waiting success)) c side m is e = tt
    ack_in (Established x Stable) c side m is e = tt
    ack_in (Established x (Reinviting asking q)) c side m is e = tt
    ack_in (Detached detached) c side m is e = tt
    ack_in (Over cause) c side m is e = tt

    ack_tied : (m : MessageView) → AckIsTied d w m
    ack_tied m call side e named found =
        let sent : CallWasSent (RequestWasSent d.sip (asks_of w.actions)) e.call = entry_in (EntryWasSent d.sip (asks_of w.actions)) (place_of call (calls_in d w).entries) (calls_in d w).entries e had.calls_sent found in
        ack_in e.call.phase e.call side m sent.phase_in sent.others_in.answered_in

    -- what was read of an event
    parsed_event_tied : (x : ParsedEvent) → ((m : MessageView) → x ≡ Events.Received m → WasRead m) → EventIsTied d w x
    parsed_event_tied Events.Nothing was = tt
    parsed_event_tied (Events.Refused peer source reply) was = tt
    parsed_event_tied (Events.Received m) was = record { response = response_tied m (was m refl); conference = seat_tied m (was m refl); ack = ack_tied m }
    parsed_event_tied (Events.WebRequested request kept rows) was = tt

  -- ---- a run

  abbrev ReadIn : ParsedEvent → Type 0
  ReadIn x = (m : MessageView) → x ≡ Events.Received m → WasRead m

  abbrev AllRead : List TimedEvent → Type 0
  AllRead [] = Unit {0}
  AllRead (x ∷ xs) = ReadIn x.parsed × AllRead xs

  all_tied : (once : Once) (fuel : ℕ) (xs : List TimedEvent) (w : RunState) → Holds d token w → AllRead xs → AllTied d token fuel xs w
  all_tied once fuel [] w had all = tt
  all_tied once fuel (x ∷ xs) w had all = (
    λ early. parsed_event_tied (state_at_event d token fuel x w) ((coming_goes d token once fuel x w).holds had) early x.parsed all.0,
    all_tied once fuel xs (after_event_in_order d token fuel x w) ((one_goes d token once fuel x w).holds had) all.1,
  )

-- ---- whatever is received was read

abbrev WasReadOf : ParsedEvent → Type 0
WasReadOf x = (m : MessageView) → x ≡ Events.Received m → WasRead m

abbrev received_of : MessageView → ParsedEvent → MessageView
received_of other Events.Nothing = other
received_of other (Events.Refused peer source reply) = other
received_of other (Events.Received said) = said
received_of other (Events.WebRequested request kept rows) = other

nothing_read : WasReadOf Events.Nothing
nothing_read m e = let apart : Events.Nothing ≡ Events.Received m = e in absurd cc

refused_read : (peer : Peer) (source : Addr) (o : Option (Message Start)) → WasReadOf (parsed_refusal peer source o)
refused_read peer source None m e = nothing_read m e
refused_read peer source (Some reply) m e = let apart : Events.Refused peer source reply ≡ Events.Received m = e in absurd cc

read_read : (d : Directory) (peer : Peer) (source : Addr) (bytes : List ℕ) (r : Read) → read_result bytes ≡ r → WasReadOf (parsed_result d.peers peer source r)
read_read d peer source bytes (Ok message) is m e = subst WasRead (ap (received_of m) e) (record { bytes = bytes; trusted = is_trusted peer d.peers.known; message = message; read = is; is = refl })
read_read d peer source bytes (Err (fault.TooLarge reply)) is m e = refused_read peer source reply m e
read_read d peer source bytes (Err fault.NotSip) is m e = nothing_read m e
read_read d peer source bytes (Err (fault.TooMany reply)) is m e = refused_read peer source reply m e
read_read d peer source bytes (Err (fault.Bad at reply)) is m e = refused_read peer source reply m e
read_read d peer source bytes (Err fault.NoMemory) is m e = nothing_read m e

from_read : (d : Directory) (source : Addr) (bytes : List ℕ) (o : Option Peer) → WasReadOf (parsed_from d.peers source bytes o)
from_read d source bytes None m e = nothing_read m e
from_read d source bytes (Some peer) m e = read_read d peer source bytes (read_result bytes) refl m e

event_read : (d : Directory) (x : EventRecord) (e : Event) → WasReadOf (Events.parsed_event d e x.outcome x.rows)
unfolding parsed_datagram
event_read d x (event.Datagram from at bytes) m e = from_read d from bytes (peer_at from d.peers.known) m e
event_read d x (event.Web at bytes) m e = let apart : Events.WebRequested (request_of bytes) x.outcome x.rows ≡ Events.Received m = e in absurd cc
event_read d x (event.Quiet at) m e = nothing_read m e

module _ (differ : TokensDiffer) (owners : OwnersAreLive)
    (fives : (b : List ℕ) (m : Message Start) → read_result b ≡ Ok m → (five : Five) × (five_at m.lines ≡ Some five))
    (vias : (b : List ℕ) (m : Message Start) (five : Five) → read_result b ≡ Ok m → five_at m.lines ≡ Some five → (v : List ℕ) × (first_value (codes "Via") m.lines ≡ Some v) × (via_at v ≡ Some five.via))
    (cseqs : (ls : List Line) (five : Five) → five_at ls ≡ Some five → (v : List ℕ) × IsOnly (codes "CSeq") ls v × (cseq_at v ≡ Some five.cseq))
    (once : Once) where
  pub runs_are_tied : RunsAreTied
  runs_are_tied d token loaded fuel recorded read = all_tied differ owners fives vias cseqs d token read once fuel (timed_events d recorded) (initial_state loaded) (begins d token loaded) (all_read recorded)
    where
      all_read : (xs : List EventRecord) → AllRead differ owners fives vias cseqs d token read (timed_events d xs)
      all_read [] = tt
      all_read (x ∷ xs) = (event_read d x x.event, all_read xs)
