-- CDRs are filed at the end of an event alone.
use Rattle.std.proofs.Common.{◌≡◌, ℕ, zero, suc, List, [], ◌∷◌, ◌++◌, Bool, true, false, refl, sym, ◌∙◌, append-nil, subst, Option, Some, None}
use Rattle.mmtel_compose.specs.ReceivedMessages.{MessageView}
use Rattle.mmtel_b2bua.specs.Operations.{Finishes, Receives}
use Rattle.mmtel_b2bua.specs.declared.signals.Signal.{Signal}
use Rattle.mmtel_b2bua.specs.declared.signals.Signal.TheVariants as signal
use Rattle.mmtel_output.specs.ResponseMatching.{awaited_request_branch, behind_cookie, branch_in, timed_out_branch}
use Rattle.mmtel_charging.specs.declared.rows.Row.{Row}
use Rattle.mmtel_output.specs.declared.outputs.StepOutput.{StepOutput}
use Rattle.mmtel_directory.specs.declared.directories.Directory.{Directory}
use Rattle.mmtel_focus.specs.Operations as rooms
use Rattle.mmtel_focus.specs.declared.signals.RoomSignal.{RoomSignal}
use Rattle.mmtel_focus.specs.declared.signals.RoomSignal.TheVariants as of_room
use Rattle.mmtel_run_definitions.specs.Calls.{are_full, arrival_signal, call_of_invite}
use Rattle.mmtel_run_definitions.specs.Deadlines.{Deadline, OfCall, OfParticipant, OfServiceTimer, OfSubscription, OfTransaction, ServiceTimer}
use Rattle.mmtel_run_definitions.specs.Events.{ParsedEvent, Nothing, Refused, Received, WebRequested, message_in}
use Rattle.mmtel_run_definitions.specs.Refusals.{Disposition, Respond, Enter, EnterConference, OpenCall, OpenConference, JoinConference, Register, Subscribe, EnterSubscription, disposition}
use Rattle.mmtel_run_definitions.specs.Ownership.{DialogOwner, InSubscription, InCall, InConference, OfSubscriptions, OfCalls, OfConferences, Owner, owner_of_key, owner_of_branch}
use Rattle.mmtel_run_definitions.specs.Run.{after_deadline_if, after_due_deadlines, after_one_deadline, first_due_deadline}
use Rattle.mmtel_run_definitions.specs.ShortRuns.{tokens_of_op}
use Rattle.mmtel_run_definitions.proofs.MailboxTransitions as boxes
use Rattle.mmtel_run_definitions.specs.Transitions.{RunState, subscriptions_in, after_web_reply, after_ack_by, after_service_timer, after_classified_message, with_next_step, calls_in, after_cancel}
use Rattle.mmtel_run_definitions.specs.Transitions.{after_cancel_of, output_of_conference_op, with_emit, with_emits, after_event_end, after_transaction_end, after_call_end, after_deadline, after_handover}
use Rattle.mmtel_run_definitions.specs.Transitions.{conference_signal_op, received_now, with_received_action, dialog_owner_in, after_conference_op, with_conference_output, after_parsed_event}
use Rattle.mmtel_run_definitions.specs.Transitions.{with_retransmission, after_response_to, after_due, after_conference_signal, after_call_signal, after_request_timeout, after_disposition, tokens_now}
use Rattle.mmtel_transaction.specs.Results.{after_firing, due_result, hear_result, is_merged, next_due}
use Rattle.mmtel_transaction.specs.Operations.{live}
use Rattle.mmtel_transaction.specs.declared.words.Due.{Due}
use Rattle.mmtel_transaction.specs.declared.words.Due.TheVariants as due
use Rattle.mmtel_transaction.specs.declared.words.Emit.{Emit}
use Rattle.mmtel_transaction.specs.declared.words.Emit.TheVariants as emit
use Rattle.mmtel_transaction.specs.declared.words.Heard as transaction
use Rattle.mmtel_transaction.specs.declared.words.Heard.TheVariants as heard
use Rattle.mmtel_transaction.specs.declared.words.TKey.{TKey}
use Rattle.mmtel_types.specs.declared.numbers.CallNo.{CallNo}
use Rattle.mmtel_types.specs.declared.numbers.Peer.{Peer}
use Rattle.mmtel_types.specs.declared.sides.Side.{Side}
use Rattle.mmtel_web.specs.Uploads.{counts_put_in}
use Rattle.mmtel_compose.specs.ReceivedMessages.{status_of}
use Rattle.mmtel_server.proofs.ConferenceTimers as words
use Rattle.mmtel_server.specs.Follows.{after_call_operation, after_conference_draw, after_conference_operation, output_at_end, output_of_signal}
use Rattle.mmtel_server_timers.specs.Handover.{accepted_rows, remaining_rows}

-- the second state has filed no more than the first
abbrev pub FilesNone : RunState → RunState → Type 0
FilesNone v w = w.filed ≡ v.filed

emits_none : (at : ℕ) (e : Emit) (w : RunState) → FilesNone w (with_emit at e w)
emits_none at (emit.Ask peer m) w = refl
emits_none at (emit.Reply key m) w = refl
emits_none at (emit.Plain peer text) w = refl
emits_none at (emit.Ack key m) w = refl
emits_none at (emit.Settled key own) w = refl
emits_none at (emit.Arm call what when) w = refl
emits_none at (emit.ArmSeat room seat what when) w = refl

emitted_none : (at : ℕ) (es : List Emit) (w : RunState) → FilesNone w (with_emits at es w)
emitted_none at [] w = refl
emitted_none at (e ∷ es) w = emitted_none at es (with_emit at e w) ∙ emits_none at e w

then_none : (u v w : RunState) → FilesNone u v → FilesNone v w → FilesNone u w
then_none u v w a b = b ∙ a

conference_output_files_none : (at : ℕ) (op : rooms.TableOp) (output : StepOutput) (w : RunState) → FilesNone w (with_conference_output at op output w)
conference_output_files_none at op output w = emitted_none at output.out (after_conference_operation op output w)

module _ (d : Directory) (token : List ℕ) where
  signal_none : (at : ℕ) (x : Signal) (w : RunState) → FilesNone w (after_call_signal d token at x w)
  signal_none at x w = emitted_none at (output_of_signal d token at x w).out (after_call_operation (Receives (received_now token at x w)) (output_of_signal d token at x w) w)

  finishes_none : (at : ℕ) (call : CallNo) (w : RunState) → FilesNone w (after_call_end d token at call w)
  finishes_none at call w = emitted_none at (output_at_end d token at call w).out (after_call_operation (Finishes call.0 at (tokens_now token w)) (output_at_end d token at call w) w)

  houses_none : (at : ℕ) (op : rooms.TableOp) (w : RunState) → (tokens_of_op op).drawn ≡ w.drawn → FilesNone w (after_conference_op d at op w)
  houses_none at op w e = emitted_none at (output_of_conference_op d op w).out (after_conference_draw op (output_of_conference_op d op w) w)

  seats_none : (at : ℕ) (x : RoomSignal) (w : RunState) → FilesNone w (after_conference_signal d token at x w)
  seats_none at x w = houses_none at (conference_signal_op token at x w) w refl

  takes_none : (at : ℕ) (key : TKey) (s : MessageView) (c : Disposition) (w : RunState) → FilesNone w (after_disposition d token at key s c w)
  takes_none at key s (Respond a) w = refl
  takes_none at key s (Enter call side) w = signal_none at (signal.Request call side key s) w
  takes_none at key s (EnterConference room seat) w =
      words.enters_room FilesNone then_none d token at (λ v. refl) (λ v. refl) (emitted_none at) (conference_output_files_none at) (houses_none at) (λ op v. refl) (finishes_none at) key s room seat w
  takes_none at key s OpenCall w = signal_none at (arrival_signal d.names.accounts key s) w
  takes_none at key s OpenConference w =
      words.opens_room FilesNone then_none d token at (λ v. refl) (λ v. refl) (emitted_none at) (conference_output_files_none at) (houses_none at) (λ op v. refl) (finishes_none at) key s w
  takes_none at key s (JoinConference room) w =
      words.joins_room FilesNone then_none d token at (λ v. refl) (λ v. refl) (emitted_none at) (conference_output_files_none at) (houses_none at) (λ op v. refl) (finishes_none at) key s room w
  takes_none at key s (Register account seconds) w = refl
  takes_none at key s Subscribe w =
      boxes.subscribes FilesNone then_none (λ v. refl) (λ op v. refl) d token at (λ v. refl) (emitted_none at) (λ armed v. refl) (λ k m answer v. refl) key s w
  takes_none at key s (EnterSubscription sub) w =
      boxes.enters FilesNone then_none (λ v. refl) (λ op v. refl) d token at (λ v. refl) (emitted_none at) (λ armed v. refl) (λ k m answer v. refl) key s sub w

  repeats_none : (at : ℕ) (o : Option (Peer × List ℕ)) (w : RunState) → FilesNone w (with_retransmission at o w)
  repeats_none at None w = refl
  repeats_none at (Some sent) w = refl

  cancels_call_none : (at : ℕ) (key : TKey) (s : MessageView) (invite : TKey) (o : Option (CallNo × Side)) (w : RunState) → FilesNone w (after_cancel_of d token at key s invite o w)
  cancels_call_none at key s invite None w = refl
  cancels_call_none at key s invite (Some asked) w = signal_none at (signal.Cancel asked.0 key s invite) w

  cancels_none : (at : ℕ) (key : TKey) (s : MessageView) (invite : Option TKey) (w : RunState) → FilesNone w (after_cancel d token at key s invite w)
  cancels_none at key s None w = refl
  cancels_none at key s (Some invite) w = cancels_call_none at key s invite (call_of_invite invite (calls_in d w).entries) w

  acknowledges_none : (at : ℕ) (s : MessageView) (o : Option DialogOwner) (w : RunState) → FilesNone w (after_ack_by d token at s o w)
  acknowledges_none at s None w = refl
  acknowledges_none at s (Some (InCall call side)) w = signal_none at (signal.Ack call side s) w
  acknowledges_none at s (Some (InConference room seat)) w = seats_none at (of_room.Ack room seat s) w
  acknowledges_none at s (Some (InSubscription sub)) w = refl

  responds_none : (at : ℕ) (key : TKey) (s : MessageView) (whose : Owner) (w : RunState) → FilesNone w (after_response_to d token at key s whose w)
  responds_none at key s OfCalls w = signal_none at (signal.Answer key s) w
  responds_none at key s OfSubscriptions w = boxes.answered FilesNone then_none (λ v. refl) (λ op v. refl) (branch_in s.parsed.vias) (status_of s.parsed.start) w
  responds_none at key s OfConferences w = seats_none at (of_room.Answer key s) w

  answers_none : (at : ℕ) (s : MessageView) (o : Option transaction.Heard) (w : RunState) → FilesNone w (after_classified_message d token at s o w)
  answers_none at s None w = refl
  answers_none at s (Some (heard.Fresh key x)) w =
      takes_none at key s (disposition d (is_merged key.0 (live w.actions)) (are_full (calls_in d w).entries) (dialog_owner_in d s.parsed w) s.parsed) w
  answers_none at s (Some (heard.Answer key x)) w = responds_none at key s (owner_of_branch (awaited_request_branch s) (branch_in s.parsed.vias) (calls_in d w).entries (subscriptions_in w)) w
  answers_none at s (Some (heard.Repeat sent)) w = repeats_none at sent w
  answers_none at s (Some (heard.Acked key)) w = refl
  answers_none at s (Some (heard.Cancel key invite x)) w = cancels_none at key s invite w
  answers_none at s (Some (heard.AckOf2xx x)) w = acknowledges_none at s (dialog_owner_in d s.parsed w) w
  answers_none at s (Some heard.Stray) w = refl

  receiving_files_none : (at : ℕ) (s : MessageView) (o : Option transaction.Heard) (w : RunState) → FilesNone w (with_received_action at s o w)
  receiving_files_none at s None w = refl
  receiving_files_none at s (Some taken) w = refl

  pub met_none : (at : ℕ) (x : ParsedEvent) (w : RunState) → FilesNone w (after_parsed_event d token at x w)
  met_none at Nothing w = refl
  met_none at (Refused peer source reply) w = refl
  met_none at (Received s) w = let taken = hear_result w.actions s.peer (message_in s.parsed) in answers_none at s taken (with_received_action at s taken w) ∙ receiving_files_none at s taken w
  met_none at (WebRequested request kept rows) w =
      boxes.puts FilesNone then_none (λ v. refl) (λ op v. refl) d token at (λ v. refl) (emitted_none at) (λ armed v. refl) (λ k m answer v. refl)
      (counts_put_in d.names request kept) (after_web_reply d at request kept rows w)

  silenced_none : (at : ℕ) (branch method : List ℕ) (whose : Owner) (w : RunState) → FilesNone w (after_request_timeout d token at branch method whose w)
  silenced_none at branch method OfCalls w = signal_none at (signal.Silent branch method) w
  silenced_none at branch method OfSubscriptions w = boxes.answered FilesNone then_none (λ v. refl) (λ op v. refl) (behind_cookie branch) 408 w
  silenced_none at branch method OfConferences w = seats_none at (of_room.Silent branch method) w

  ended_of_none : (at : ℕ) (key : TKey) (whose : Owner) (w : RunState) → FilesNone w (after_transaction_end d token at key whose w)
  ended_of_none at key OfCalls w = signal_none at (signal.Over key) w
  ended_of_none at key OfSubscriptions w = refl
  ended_of_none at key OfConferences w = seats_none at (of_room.Over key) w

  rung_none : (x : Due) (w : RunState) → FilesNone w (after_due d token x w)
  rung_none (due.Again peer at text) w = refl
  rung_none (due.Silent key branch method at) w = silenced_none at branch method (owner_of_branch (timed_out_branch branch method) (behind_cookie branch) (calls_in d w).entries (subscriptions_in w)) w
  rung_none (due.Over key at) w = ended_of_none at key (owner_of_key key (calls_in d w).entries) w
  rung_none due.Nothing w = refl

  alarmed_none : (at : ℕ) (x : ServiceTimer) (w : RunState) → FilesNone w (after_service_timer d token at x w)
  alarmed_none at (OfCall call what) w = signal_none at (signal.Due call what) w
  alarmed_none at (OfParticipant room seat what) w = seats_none at (of_room.Due room seat what) w
  alarmed_none at (OfSubscription sub set) w =
      boxes.ends FilesNone then_none (λ v. refl) (λ op v. refl) d token at (λ v. refl) (emitted_none at) (λ armed v. refl) (λ k m answer v. refl) sub set w

  fired_none : (now : ℕ) (x : Deadline) (w : RunState) → FilesNone w (after_deadline d token now x w)
  fired_none now OfTransaction w = let next = next_due now (live (with_next_step w).actions) in rung_none (due_result next) (record (with_next_step w) { actions = after_firing (with_next_step w).actions next })
  fired_none now (OfServiceTimer armed others) w = alarmed_none armed.at armed.timer (record (with_next_step w) { pending_timers = others })

  fired_if_none : (now : ℕ) (o : Option Deadline) (w : RunState) → FilesNone w (after_deadline_if d token now o w)
  fired_if_none now None w = refl
  fired_if_none now (Some x) w = fired_none now x w

  pub settled_none : (n now : ℕ) (w : RunState) → FilesNone w (after_due_deadlines d token n now w)
  settled_none zero now w = refl
  settled_none (suc n) now w = settled_none n now (after_one_deadline d token now w) ∙ fired_if_none now (first_due_deadline now w) w

-- what is handed over is filed, or still waits
handover_is : (took : Bool) (rows : List Row) (w : RunState) → rows ≡ w.waiting
    → ((after_handover took rows w).filed ≡ w.filed ++ accepted_rows took rows) × ((after_handover took rows w).waiting ≡ remaining_rows took rows)
handover_is true [] w e = (sym (append-nil w.filed), sym e)
handover_is false [] w e = (sym (append-nil w.filed), sym e)
handover_is true (row ∷ rows) w e = (refl, refl)
handover_is false (row ∷ rows) w e = (sym (append-nil w.filed), sym e)

pub ended_is : (took : Bool) (rows : List Row) (w : RunState) → rows ≡ w.waiting
    → ((after_event_end took w).filed ≡ w.filed ++ accepted_rows took rows) × ((after_event_end took w).waiting ≡ remaining_rows took rows)
ended_is took rows w e =
    subst (λ (r : List Row). ((after_handover took r w).filed ≡ w.filed ++ accepted_rows took rows) × ((after_handover took r w).waiting ≡ remaining_rows took rows)) e (handover_is took rows w e)
