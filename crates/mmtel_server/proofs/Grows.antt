-- Nothing that was done is undone: each operation only adds. So what was few enough in the end was few enough before, and the outputs before are a prefix of the outputs in the end.
use Rattle.std.proofs.Common.{◌≡◌, ℕ, ◌≤◌, ◌<◌, ◌^◌, List, [], ◌∷◌, ◌++◌, length, refl, sym, ap, ◌∙◌, arith, append-nil, append_assoc, subst, Option, Some, None}
use Rattle.std.specs.Prelude.{Bool, true, false, OnErr, Result, Ok, Err}
use Rattle.mmtel_compose.specs.ReceivedMessages.{MessageView}
use Rattle.mmtel_b2bua.specs.Operations.{Finishes, Receives, TableOp}
use Rattle.mmtel_b2bua.specs.declared.signals.Signal.{Signal}
use Rattle.mmtel_b2bua.specs.declared.signals.Signal.TheVariants as signal
use Rattle.mmtel_output.specs.ResponseMatching.{awaited_request_branch, branch_in}
use Rattle.mmtel_charging.specs.declared.rows.Row.{Row}
use Rattle.mmtel_output.specs.declared.outputs.StepOutput.{StepOutput}
use Rattle.mmtel_directory.specs.declared.directories.Directory.{Directory}
use Rattle.mmtel_focus.specs.Operations as rooms
use Rattle.mmtel_focus.specs.declared.signals.RoomSignal.{RoomSignal}
use Rattle.mmtel_focus.specs.declared.signals.RoomSignal.TheVariants as of_room
use Rattle.mmtel_http.specs.Requests.{ParsedRequestView}
use Rattle.mmtel_message.specs.Message.{Message}
use Rattle.mmtel_message.specs.Texts.{message_text}
use Rattle.mmtel_message.specs.declared.messages.Start.{Start}
use Rattle.mmtel_environment.specs.declared.events.Offer.{Offer}
use Rattle.mmtel_run_definitions.specs.OwnResponses.{StatusResponse, completed_reply, plain_response, response_to, tag_for, tags_due, to_tag_in}
use Rattle.mmtel_run_definitions.specs.Calls.{are_full, arrival_signal, call_config, call_of_invite}
use Rattle.mmtel_run_definitions.specs.Events.{ParsedEvent, Nothing, Refused, Received, WebRequested, message_in}
use Rattle.mmtel_run_definitions.specs.Records.{until_of}
use Rattle.mmtel_run_definitions.specs.Refusals.{Disposition, Respond, Enter, EnterConference, OpenCall, OpenConference, JoinConference, Register, Subscribe, EnterSubscription, disposition}
use Rattle.mmtel_run_definitions.specs.Ownership.{DialogOwner, InSubscription, InCall, InConference, OfSubscriptions, OfCalls, OfConferences, Owner, owner_of_branch, conference_config}
use Rattle.mmtel_run_definitions.specs.ShortRuns.{IsShort, tokens_of_op}
use Rattle.mmtel_run_definitions.proofs.MailboxTransitions as boxes
use Rattle.mmtel_run_definitions.specs.Transitions.{RunState, with_timer, subscriptions_in, after_web_request, after_ack, after_ack_by, after_classified_message, with_next_step, with_call_output}
use Rattle.mmtel_run_definitions.specs.Transitions.{calls_in, after_event, after_cancel, after_cancel_of, output_of_conference_op, with_draws, with_emit, with_emits, after_event_end}
use Rattle.mmtel_run_definitions.specs.Transitions.{after_participant_request, after_call_end, after_handover, received_now, with_received_action, dialog_owner_in, after_conference_op}
use Rattle.mmtel_run_definitions.specs.Transitions.{after_conference_invite, with_call_op, with_conference_output, after_parsed_event, after_refer_notify, with_offers, after_factory_invite}
use Rattle.mmtel_run_definitions.specs.Transitions.{with_refusal_of_bytes, with_registration, with_retransmission, with_response, with_stateless_response, after_response, after_response_to}
use Rattle.mmtel_run_definitions.specs.Transitions.{after_conference_signal, after_web_reply, after_call_signal, after_disposition, after_new_request, tokens_now, after_message, after_message_as}
use Rattle.mmtel_transaction.specs.Results.{hear_result, is_merged}
use Rattle.mmtel_transaction.specs.Operations.{TransactionOp, live}
use Rattle.mmtel_transaction.specs.declared.words.Emit.{Emit}
use Rattle.mmtel_transaction.specs.declared.words.Emit.TheVariants as emit
use Rattle.mmtel_transaction.specs.declared.words.Heard as transaction
use Rattle.mmtel_transaction.specs.declared.words.Heard.TheVariants as heard
use Rattle.mmtel_transaction.specs.declared.words.TKey.{TKey}
use Rattle.mmtel_types.specs.declared.addrs.Addr.{Addr}
use Rattle.mmtel_types.specs.declared.numbers.CallNo.{CallNo}
use Rattle.mmtel_types.specs.declared.numbers.Peer.{Peer}
use Rattle.mmtel_types.specs.declared.numbers.RoomNo.{RoomNo}
use Rattle.mmtel_types.specs.declared.sides.Side.{Side}
use Rattle.mmtel_web.specs.Handling.{KeeperOutcomeView}
use Rattle.mmtel_web.specs.Uploads.{counts_put_in}
use Rattle.mmtel_run_definitions.specs.Deadlines.{PendingTimer}
use Rattle.mmtel_run_definitions.specs.Subscriptions.{with_mailbox_op}
use Rattle.mmtel_mwi.specs.Operations as box
use Rattle.mmtel_compose.specs.ReceivedMessages.{status_of}
use Rattle.mmtel_server.proofs.ConferenceTimers as words
use Rattle.mmtel_server.specs.Follows.{AddsOfferPrefix, Follows, NumbersNeverFall, after_call_operation, after_conference_operation, output_at_end, output_of_signal}
use Rattle.mmtel_server.specs.Representation.{IsPrefixBetween, IsPrefixOf}
use Rattle.mmtel_server.specs.declared.servers.Server.{Server}

-- the second state has all that the first has
pub record Grows (v w : RunState) : Type 0 where
  pub acts : length v.actions ≤ length w.actions
  pub steps : v.steps ≤ w.steps
  -- where not too many were drawn, since the calls count no further than the range of numbers
  pub drawn : w.drawn < 2 ^ 60 → v.drawn ≤ w.drawn
  pub front : IsPrefixOf v.offers w.offers

pub same : (w : RunState) → Grows w w
same w = record { acts = omega arith; steps = omega arith; drawn = λ less. omega arith; front = ([], append-nil w.offers) }

pub grows_on : (u v w : RunState) → Grows u v → Grows v w → Grows u w
grows_on u v w a b = record {
  acts = omega (arith, a.acts, b.acts);
  steps = omega (arith, a.steps, b.steps);
  drawn = λ less.
      let later : v.drawn ≤ w.drawn = b.drawn less in
      let small : v.drawn < 2 ^ 60 = omega (arith, later, less) in
      let first : u.drawn ≤ v.drawn = a.drawn small in
      omega (arith, first, later);
  front = (a.front.0 ++ b.front.0, sym (append_assoc u.offers a.front.0 b.front.0) ∙ (ap (λ (os : List Offer). os ++ b.front.0) a.front.1 ∙ b.front.1));
}

-- ---- elementary operations

pub adds : (os : List Offer) (w : RunState) → Grows w (with_offers os w)
adds os w = record { acts = omega arith; steps = omega arith; drawn = λ less. omega arith; front = (os, refl) }

pub acts_more : (xs : List TransactionOp) (w : RunState) → length w.actions ≤ length xs → Grows w (record w { actions = xs })
acts_more xs w l = record { acts = l; steps = omega arith; drawn = λ less. omega arith; front = ([], append-nil w.offers) }

pub draws : (n : ℕ) (w : RunState) → Grows w (with_draws n w)
draws n w = record { acts = omega arith; steps = omega arith; drawn = λ less. omega arith; front = ([], append-nil w.offers) }

pub begins : (w : RunState) → Grows w (with_next_step w)
begins w = record { acts = omega arith; steps = omega arith; drawn = λ less. omega arith; front = ([], append-nil w.offers) }

pub grows_with_emit : (at : ℕ) (e : Emit) (w : RunState) → Grows w (with_emit at e w)
grows_with_emit at (emit.Ask peer m) w = record { acts = omega arith; steps = omega arith; drawn = λ less. omega arith; front = (_, refl) }
grows_with_emit at (emit.Reply key m) w = record { acts = omega arith; steps = omega arith; drawn = λ less. omega arith; front = (_, refl) }
grows_with_emit at (emit.Plain peer text) w = record { acts = omega arith; steps = omega arith; drawn = λ less. omega arith; front = (_, refl) }
grows_with_emit at (emit.Ack key m) w = record { acts = omega arith; steps = omega arith; drawn = λ less. omega arith; front = (_, refl) }
grows_with_emit at (emit.Settled key own) w = record { acts = omega arith; steps = omega arith; drawn = λ less. omega arith; front = ([], append-nil w.offers) }
grows_with_emit at (emit.Arm call what when) w = record { acts = omega arith; steps = omega arith; drawn = λ less. omega arith; front = ([], append-nil w.offers) }
grows_with_emit at (emit.ArmSeat room seat what when) w = record { acts = omega arith; steps = omega arith; drawn = λ less. omega arith; front = ([], append-nil w.offers) }

pub grows_with_emits : (at : ℕ) (es : List Emit) (w : RunState) → Grows w (with_emits at es w)
grows_with_emits at [] w = same w
grows_with_emits at (e ∷ es) w = grows_on w (with_emit at e w) (with_emits at es (with_emit at e w)) (grows_with_emit at e w) (grows_with_emits at es (with_emit at e w))

-- numbers are drawn, and then something is done
pub draws_emits : (n at : ℕ) (es : List Emit) (w : RunState) → Grows w (with_emits at es (with_draws n w))
draws_emits n at es w = grows_on w (with_draws n w) (with_emits at es (with_draws n w)) (draws n w) (grows_with_emits at es (with_draws n w))

-- ---- operations on the calls

grows_with_call_output : (at : ℕ) (op : TableOp) (output : StepOutput) (w : RunState) → (output.tokens.drawn < 2 ^ 60 → w.drawn ≤ output.tokens.drawn) → Grows w (with_call_output at op output w)
grows_with_call_output at op output w on =
    let v : RunState = after_call_operation op output w in
    let first : Grows w v = record { acts = omega arith; steps = omega arith; drawn = on; front = ([], append-nil w.offers) } in
    grows_on w v (with_call_output at op output w) first (grows_with_emits at output.out v)

pub grows_on_signal : NumbersNeverFall → (d : Directory) (token : List ℕ) (at : ℕ) (x : Signal) (w : RunState) → Grows w (after_call_signal d token at x w)
grows_on_signal law d token at x w = grows_with_call_output at (Receives (received_now token at x w)) (output_of_signal d token at x w) w (law.calls (call_config d) w.call_ops (received_now token at x w)).on

pub grows_on_call_end : NumbersNeverFall → (d : Directory) (token : List ℕ) (at : ℕ) (call : CallNo) (w : RunState) → Grows w (after_call_end d token at call w)
grows_on_call_end law d token at call w = grows_with_call_output at (Finishes call.0 at (tokens_now token w)) (output_at_end d token at call w) w (law.ends (call_config d) w.call_ops call.0 at (tokens_now token w)).on

pub grows_with_call_op : (op : TableOp) (w : RunState) → Grows w (with_call_op op w)
grows_with_call_op op w = record { acts = omega arith; steps = omega arith; drawn = λ less. omega arith; front = ([], append-nil w.offers) }

-- ---- operations on the mailboxes

pub grows_with_mailbox_op : (op : box.TableOp) (w : RunState) → Grows w (with_mailbox_op op w)
grows_with_mailbox_op op w = record { acts = omega arith; steps = omega arith; drawn = λ less. omega arith; front = ([], append-nil w.offers) }

pub grows_with_timer : (armed : PendingTimer) (w : RunState) → Grows w (with_timer armed w)
grows_with_timer armed w = record { acts = omega arith; steps = omega arith; drawn = λ less. omega arith; front = ([], append-nil w.offers) }

-- ---- operations on the conferences

pub grows_with_conference_output : (at : ℕ) (op : rooms.TableOp) (output : StepOutput) (w : RunState) → Grows w (with_conference_output at op output w)
grows_with_conference_output at op output w =
    let v : RunState = after_conference_operation op output w in
    let first : Grows w v = record { acts = omega arith; steps = omega arith; drawn = λ less. omega arith; front = ([], append-nil w.offers) } in
    grows_on w v (with_conference_output at op output w) first (grows_with_emits at output.out v)

pub grows_with_conference_op : NumbersNeverFall → (d : Directory) (at : ℕ) (op : rooms.TableOp) (w : RunState) → (tokens_of_op op).drawn ≡ w.drawn → Grows w (after_conference_op d at op w)
grows_with_conference_op law d at op w same_drawn =
    let output = output_of_conference_op d op w in
    let v : RunState = record w { drawn = output.tokens.drawn } in
    let on = (law.conferences (conference_config d) w.conference_ops op).on in
    let first : Grows w v = record {
      acts = omega arith;
      steps = omega arith;
      drawn = λ less. let more : (tokens_of_op op).drawn ≤ output.tokens.drawn = on less in omega (arith, more, same_drawn);
      front = ([], append-nil w.offers);
    } in
    grows_on w v (after_conference_op d at op w) first (grows_with_conference_output at op output v)

module _ (law : NumbersNeverFall) (d : Directory) (token : List ℕ) (at : ℕ) where
  pub seats : (x : RoomSignal) (w : RunState) → Grows w (after_conference_signal d token at x w)
  seats = words.seats Grows grows_on d token at same (draws 1) (grows_with_emits at) (grows_with_conference_output at) (grows_with_conference_op law d at) grows_with_call_op (grows_on_call_end law d token at)

  pub notices : (room : RoomNo) (seat code : ℕ) (w : RunState) → Grows w (after_refer_notify d token at room seat code w)
  notices = words.notices Grows grows_on d token at same (draws 1) (grows_with_emits at) (grows_with_conference_output at) (grows_with_conference_op law d at) grows_with_call_op (grows_on_call_end law d token at)

  pub opens_room : (key : TKey) (s : MessageView) (w : RunState) → Grows w (after_factory_invite d token at key s w)
  opens_room = words.opens_room Grows grows_on d token at same (draws 1) (grows_with_emits at) (grows_with_conference_output at) (grows_with_conference_op law d at) grows_with_call_op (grows_on_call_end law d token at)

  pub joins_room : (key : TKey) (s : MessageView) (room : RoomNo) (w : RunState) → Grows w (after_conference_invite d token at key s room w)
  joins_room = words.joins_room Grows grows_on d token at same (draws 1) (grows_with_emits at) (grows_with_conference_output at) (grows_with_conference_op law d at) grows_with_call_op (grows_on_call_end law d token at)

  pub enters_room : (key : TKey) (s : MessageView) (room : RoomNo) (seat : ℕ) (w : RunState) → Grows w (after_participant_request d token at key s room seat w)
  enters_room = words.enters_room Grows grows_on d token at same (draws 1) (grows_with_emits at) (grows_with_conference_output at) (grows_with_conference_op law d at) grows_with_call_op (grows_on_call_end law d token at)

-- ---- messages

pub grows_with_response : (d : Directory) (token : List ℕ) (at : ℕ) (key : TKey) (s : MessageView) (a : StatusResponse) (w : RunState) → Grows w (with_response d token at key s a w)
grows_with_response d token at key s a w = draws_emits (tags_due s.parsed.to_tag) at (emit.Reply key (response_to d.sip (tag_for token w.drawn s.parsed.to_tag) s a) ∷ []) w

pub grows_with_stateless_response : (d : Directory) (token : List ℕ) (at : ℕ) (s : MessageView) (a : StatusResponse) (w : RunState) → Grows w (with_stateless_response d token at s a w)
grows_with_stateless_response d token at s a w = draws_emits (tags_due s.parsed.to_tag) at (emit.Plain s.peer (message_text (response_to d.sip (tag_for token w.drawn s.parsed.to_tag) s a)) ∷ []) w

pub grows_with_refusal : (token : List ℕ) (at : ℕ) (peer : Peer) (source : Addr) (m : Message Start) (w : RunState) → Grows w (with_refusal_of_bytes token at peer source m w)
grows_with_refusal token at peer source m w = draws_emits (tags_due (to_tag_in m.lines)) at (emit.Plain peer (message_text (completed_reply (tag_for token w.drawn (to_tag_in m.lines)) source m)) ∷ []) w

module _ (law : NumbersNeverFall) (d : Directory) (token : List ℕ) (at : ℕ) where
  pub takes : (key : TKey) (s : MessageView) (c : Disposition) (w : RunState) → Grows w (after_disposition d token at key s c w)
  takes key s (Respond a) w = grows_with_response d token at key s a w
  takes key s (Enter call side) w = grows_on_signal law d token at (signal.Request call side key s) w
  takes key s (EnterConference room seat) w = enters_room law d token at key s room seat w
  takes key s OpenCall w = grows_on_signal law d token at (arrival_signal d.names.accounts key s) w
  takes key s OpenConference w = opens_room law d token at key s w
  takes key s (JoinConference room) w = joins_room law d token at key s room w
  takes key s (Register account seconds) w =
      let v = with_registration account (until_of at seconds) w in
      let g = grows_with_response d token at key s (plain_response 200) v in
      record { acts = g.acts; steps = g.steps; drawn = g.drawn; front = g.front }
  takes key s Subscribe w = boxes.subscribes Grows grows_on same grows_with_mailbox_op d token at (draws 1) (grows_with_emits at) grows_with_timer (grows_with_response d token at) key s w
  takes key s (EnterSubscription sub) w = boxes.enters Grows grows_on same grows_with_mailbox_op d token at (draws 1) (grows_with_emits at) grows_with_timer (grows_with_response d token at) key s sub w

  pub takes_fresh : (key : TKey) (s : MessageView) (w : RunState) → Grows w (after_new_request d token at key s w)
  takes_fresh key s w = takes key s (disposition d (is_merged key.0 (live w.actions)) (are_full (calls_in d w).entries) (dialog_owner_in d s.parsed w) s.parsed) w

  pub repeats : (o : Option (Peer × List ℕ)) (w : RunState) → Grows w (with_retransmission at o w)
  repeats None w = same w
  repeats (Some sent) w = grows_with_emits at (emit.Plain sent.0 sent.1 ∷ []) w

  pub cancels_call : (key : TKey) (s : MessageView) (invite : TKey) (o : Option (CallNo × Side)) (w : RunState) → Grows w (after_cancel_of d token at key s invite o w)
  cancels_call key s invite None w = grows_with_response d token at key s (plain_response 200) w
  cancels_call key s invite (Some asked) w = grows_on_signal law d token at (signal.Cancel asked.0 key s invite) w

  pub cancels : (key : TKey) (s : MessageView) (invite : Option TKey) (w : RunState) → Grows w (after_cancel d token at key s invite w)
  cancels key s None w = grows_with_response d token at key s (plain_response 481) w
  cancels key s (Some invite) w = cancels_call key s invite (call_of_invite invite (calls_in d w).entries) w

  pub acknowledges_by : (s : MessageView) (o : Option DialogOwner) (w : RunState) → Grows w (after_ack_by d token at s o w)
  acknowledges_by s None w = same w
  acknowledges_by s (Some (InCall call side)) w = grows_on_signal law d token at (signal.Ack call side s) w
  acknowledges_by s (Some (InConference room seat)) w = seats law d token at (of_room.Ack room seat s) w
  acknowledges_by s (Some (InSubscription sub)) w = same w

  pub acknowledges : (s : MessageView) (w : RunState) → Grows w (after_ack d token at s w)
  acknowledges s w = acknowledges_by s (dialog_owner_in d s.parsed w) w

  pub responds_to : (key : TKey) (s : MessageView) (whose : Owner) (w : RunState) → Grows w (after_response_to d token at key s whose w)
  responds_to key s OfCalls w = grows_on_signal law d token at (signal.Answer key s) w
  responds_to key s OfSubscriptions w = boxes.answered Grows grows_on same grows_with_mailbox_op (branch_in s.parsed.vias) (status_of s.parsed.start) w
  responds_to key s OfConferences w = seats law d token at (of_room.Answer key s) w

  pub responds : (key : TKey) (s : MessageView) (w : RunState) → Grows w (after_response d token at key s w)
  responds key s w = responds_to key s (owner_of_branch (awaited_request_branch s) (branch_in s.parsed.vias) (calls_in d w).entries (subscriptions_in w)) w

  pub answers : (s : MessageView) (o : Option transaction.Heard) (w : RunState) → Grows w (after_classified_message d token at s o w)
  answers s None w = grows_with_stateless_response d token at s (plain_response 503) w
  answers s (Some (heard.Fresh key x)) w = takes_fresh key s w
  answers s (Some (heard.Answer key x)) w = responds key s w
  answers s (Some (heard.Repeat sent)) w = repeats sent w
  answers s (Some (heard.Acked key)) w = same w
  answers s (Some (heard.Cancel key invite x)) w = cancels key s invite w
  answers s (Some (heard.AckOf2xx x)) w = acknowledges s w
  answers s (Some heard.Stray) w = same w

  pub receives_one : (s : MessageView) (o : Option transaction.Heard) (w : RunState) → Grows w (with_received_action at s o w)
  receives_one s None w = same w
  receives_one s (Some taken) w = acts_more _ w (omega arith)

  pub message_grows : (s : MessageView) (w : RunState) → Grows w (after_message d token at s w)
  message_grows s w =
      let taken = hear_result w.actions s.peer (message_in s.parsed) in
      grows_on w (with_received_action at s taken w) (after_message_as d token at s taken w) (receives_one s taken w) (answers s taken (with_received_action at s taken w))

  -- ---- web requests

  pub serves : (request : ParsedRequestView) (kept : KeeperOutcomeView) (rows : List Row) (w : RunState) → Grows w (after_web_reply d at request kept rows w)
  serves request kept rows w = record { acts = omega arith; steps = omega arith; drawn = λ less. omega arith; front = (_, refl) }

  pub serves_whole : (request : ParsedRequestView) (kept : KeeperOutcomeView) (rows : List Row) (w : RunState) → Grows w (after_web_request d token at request kept rows w)
  serves_whole request kept rows w =
      let replied : RunState = after_web_reply d at request kept rows w in
      grows_on w replied (after_web_request d token at request kept rows w) (serves request kept rows w)
      (boxes.puts Grows grows_on same grows_with_mailbox_op d token at (draws 1) (grows_with_emits at) grows_with_timer (grows_with_response d token at) (counts_put_in d.names request kept) replied)

  -- ---- events

  pub met_grows : (x : ParsedEvent) (w : RunState) → Grows w (after_parsed_event d token at x w)
  met_grows Nothing w = same w
  met_grows (Refused peer source reply) w = grows_with_refusal token at peer source reply w
  met_grows (Received s) w = message_grows s w
  met_grows (WebRequested request kept rows) w = serves_whole request kept rows w

  clocked : (w : RunState) → Grows w (record (with_next_step w) { clock = at })
  clocked w = let g = begins w in record { acts = g.acts; steps = g.steps; drawn = g.drawn; front = g.front }

  hands : (took : Bool) (rows : List Row) (w : RunState) → Grows w (after_handover took rows w)
  hands took [] w = same w
  hands true (row ∷ rows) w = record { acts = omega arith; steps = omega arith; drawn = λ less. omega arith; front = ([], append-nil w.offers) }
  hands false (row ∷ rows) w = same w

  pub ends : (took : Bool) (w : RunState) → Grows w (after_event_end took w)
  ends took w = hands took w.waiting w

  pub came_grows : (x : ParsedEvent) (took : Bool) (w : RunState) → Grows w (after_event d token at x took w)
  came_grows x took w =
      let there : RunState = record (with_next_step w) { clock = at } in
      let done : RunState = after_parsed_event d token at x there in
      grows_on w there (after_event d token at x took w) (clocked w) (grows_on there done (after_event_end took done) (met_grows x there) (ends took done))

-- ---- what follows for the code

pub short_of : (v w : RunState) → Grows v w → IsShort w → IsShort v
short_of v w g s = record { actions = omega (arith, g.acts, s.actions); steps = omega (arith, g.steps, s.steps); drawn = let less : v.drawn ≤ w.drawn = g.drawn s.drawn in omega (arith, less, s.drawn) }

pub prefix_of : (before out : List Offer) (v w : RunState) → Grows v w → out ≡ before ++ v.offers → IsPrefixOf out (before ++ w.offers)
prefix_of before out v w g e = (g.front.0, ap (λ (os : List Offer). os ++ g.front.0) e ∙ (append_assoc before v.offers g.front.0 ∙ ap (λ (os : List Offer). before ++ os) g.front.1))

-- what was in the list before is a prefix of what is in it later
pub kept_of : (before out now : List Offer) (v w : RunState) → Grows v w → out ≡ before ++ v.offers → now ≡ before ++ w.offers → IsPrefixOf out now
kept_of before out now v w g e f = subst (IsPrefixOf out) (sym f) (prefix_of before out v w g e)

-- an operation ended half way
pub cut_of : (before out now : List Offer) (u v w : RunState) → Grows u v → Grows v w → out ≡ before ++ u.offers → now ≡ before ++ v.offers → IsPrefixBetween out now (before ++ w.offers)
cut_of before out now u v w g h e f = (kept_of before out now u v g e f, prefix_of before now v w h f)

-- a prefix of a prefix
pub prefix_on : (xs ys zs : List Offer) → IsPrefixOf xs ys → IsPrefixOf ys zs → IsPrefixOf xs zs
prefix_on xs ys zs a b = (a.0 ++ b.0, sym (append_assoc xs a.0 b.0) ∙ (ap (λ (os : List Offer). os ++ b.0) a.1 ∙ b.1))

-- nothing was added
pub stops : (f : Directory → List ℕ → RunState → RunState) (old : Server) (out now : List Offer) → ((d : Directory) (token : List ℕ) (w : RunState) → Grows w (f d token w)) → now ≡ out
    → AddsOfferPrefix old out now f
stops f old out now grows e d token before w did short = cut_of before out now w w (f d token w) (same w) (grows d token w) did.offers (e ∙ did.offers)

-- one operation after another
pub followed : (f g : Directory → List ℕ → RunState → RunState) (old mid new : Server) (out between now : List Offer)
    → ((d : Directory) (token : List ℕ) (w : RunState) → Grows w (g d token w)) → Follows old out mid between f → Follows mid between new now g
    → Follows old out new now (λ d token w. g d token (f d token w))
followed f g old mid new out between now grows a b d token before w did short =
    b d token before (f d token w) (a d token before w did (short_of (f d token w) (g d token (f d token w)) (grows d token (f d token w)) short)) short

pub offer_prefix_added : (f g : Directory → List ℕ → RunState → RunState) (old mid : Server) (out between now : List Offer) → ((d : Directory) (token : List ℕ) (w : RunState) → Grows w (f d token w))
    → ((d : Directory) (token : List ℕ) (w : RunState) → Grows w (g d token w)) → Follows old out mid between f → AddsOfferPrefix mid between now g
    → AddsOfferPrefix old out now (λ d token w. g d token (f d token w))
offer_prefix_added f g old mid out between now first grows a b d token before w did short =
    let there = a d token before w did (short_of (f d token w) (g d token (f d token w)) (grows d token (f d token w)) short) in
    let cut = b d token before (f d token w) there short in
    (prefix_on out between now (kept_of before out between w (f d token w) (first d token w) did.offers there.offers) cut.0, cut.1)

pub on_err : {A E : Type 0} (r : Result A E) (P : Type 0) → P → OnErr r P
on_err (Ok x) P p = tt
on_err (Err e) P p = p

-- the same for a call that outputs all or nothing
pub stops_on : {A E : Type 0} (r : Result A E) (f : Directory → List ℕ → RunState → RunState) (old : Server) (out now : List Offer)
    → ((d : Directory) (token : List ℕ) (w : RunState) → Grows w (f d token w)) → OnErr r (now ≡ out) → OnErr r (AddsOfferPrefix old out now f)
stops_on (Ok x) f old out now grows e = tt
stops_on (Err x) f old out now grows e = stops f old out now grows e
