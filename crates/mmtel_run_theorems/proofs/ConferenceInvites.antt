-- Whatever is done on conferences, each INVITE of a participant was sent to its peer, and each that is sent has a number of its own.
use Rattle.std.proofs.Common.{◌≡◌, ◌<◌, ◌≤◌, ◌^◌, ◌+◌, ◌&&◌, Bool, true, false, not, ℕ, zero, suc, List, [], ◌∷◌, ◌++◌, take, drop, Option, Some, None, refl, subst, sym, inl, inr, arith, nat_lt, Result, Ok, Err, codes}
use Rattle.std.specs.Prelude.{if◌then◌else◌, option_to_list, position, remove, slice_get, slice_set}
use Rattle.std.specs.Str.{bytes_eq}
use Rattle.mmtel_compose.specs.Responses.{allow_lines, retry_after_lines}
use Rattle.mmtel_compose.specs.Requests.{bare_parts, cancel_of, own_parts}
use Rattle.mmtel_compose.specs.ReceivedMessages.{MessageView, phrase_in, status_of}
use Rattle.mmtel_call_theorems.specs.Branches.SentRequests.{AbandonedWasSent, AreNumbered, Each, IsInvite, IsNotAwaited, IsNumbered, SomeInviteWasSent, requests_in}
use Rattle.mmtel_charging.specs.Meters.{MeterView}
use Rattle.mmtel_output.specs.Outputs.{after_draw, empty_output, token, with_emit}
use Rattle.mmtel_output.specs.SentInvites.{is_cancellable, sent_invite, with_key}
use Rattle.mmtel_output.specs.AbandonedInvites as left_ones
use Rattle.mmtel_output.specs.AbandonedInvites.{AfterResponse, after_provisional, dialogue_of_success, ended_dialog, on_success_in, with_invite}
use Rattle.mmtel_output.specs.Sending.{ack_text, with_ack, with_bye, with_cancel, with_due_cancel, with_own_request}
use Rattle.mmtel_output.specs.declared.outputs.StepOutput.{StepOutput}
use Rattle.mmtel_output.specs.declared.sent_invites.SentInvite.{SentInvite}
use Rattle.mmtel_output.specs.declared.sent_invites.AbandonedInvite.{AbandonedInvite}
use Rattle.mmtel_output.specs.ResponseMatching.{awaited_request_branch, timed_out_branch}
use Rattle.mmtel_focus.specs.Responses as answers
use Rattle.mmtel_focus.specs.Operations as histories
use Rattle.mmtel_focus.specs.Operations.{Adopts, Closes, Drops, Joins, Leaves, Notifies, Opens, Receives, TableOp, effects_after, table_after}
use Rattle.mmtel_focus.specs.Joining as joining
use Rattle.mmtel_focus.specs.Referrals.{referral_in}
use Rattle.mmtel_focus.specs.Requests as requests
use Rattle.mmtel_focus.specs.Conferences.{Conference, StepResult, no_effects, with_output}
use Rattle.mmtel_focus.specs.ParticipantSignals as of_seat
use Rattle.mmtel_focus.specs.ParticipantSignals.{ParticipantSignal}
use Rattle.mmtel_participants.specs.declared.effects.Effects.{Effects}
use Rattle.mmtel_participants.specs.declared.participants.Invite.{Invite}
use Rattle.mmtel_participants.specs.declared.participants.Invite.TheVariants.{Accepted, Outstanding}
use Rattle.mmtel_participants.specs.declared.participants.Party.{Party}
use Rattle.mmtel_participants.specs.declared.participants.Party.TheVariants.{DialedIn, DialedOut, Invited}
use Rattle.mmtel_participants.specs.declared.participants.ParticipantState.{ParticipantState}
use Rattle.mmtel_focus.specs.Participants as seats
use Rattle.mmtel_focus.specs.Participants.{at_participant, at_place, by_participant, dialogue_of, is_connected, is_creator, is_full, leg_of, with_participant}
use Rattle.mmtel_focus.specs.ConferenceConfig.{ConferenceConfigView}
use Rattle.mmtel_focus.specs.Table as tables
use Rattle.mmtel_focus.specs.Table.{ConferenceStep, Table, TableStep}
use Rattle.mmtel_focus.specs.Texts.{contact_and_sdp_lines, notify_lines, own_status, sipfrag, status_line}
use Rattle.mmtel_focus.specs.declared.faults.RoomFault.{RoomFault}
use Rattle.mmtel_focus.specs.declared.referrals.Referral.{Referral}
use Rattle.mmtel_focus.specs.declared.referrals.Referral.TheVariants as referral
use Rattle.mmtel_focus.specs.declared.signals.RoomSignal.{RoomSignal}
use Rattle.mmtel_focus.specs.declared.signals.RoomSignal.TheVariants as signal
use Rattle.mmtel_leg.specs.Releases.{released_leg}
use Rattle.mmtel_leg.specs.Remotes.{remote_of}
use Rattle.mmtel_leg.specs.Requests.{RequestPartsView, request_numbered, request_of}
use Rattle.mmtel_leg.specs.declared.dialogues.Dialogue.{Dialogue}
use Rattle.mmtel_leg.specs.declared.dialogues.DialogueFault.{DialogueFault}
use Rattle.mmtel_leg.specs.declared.dialogues.DialogueFault.TheVariants.{OldCSeq, Pending, Unfinished}
use Rattle.mmtel_leg.specs.declared.legs.Released.{Released}
use Rattle.mmtel_leg.specs.declared.legs.Released.TheVariants as released
use Rattle.mmtel_leg.specs.declared.remotes.Remote.{Remote}
use Rattle.mmtel_lex.specs.declared.values.Uri.{Uri}
use Rattle.mmtel_message.specs.Faults.{is_method}
use Rattle.mmtel_message.specs.Message.{Line, Message}
use Rattle.mmtel_message.specs.declared.messages.Start.{Start}
use Rattle.mmtel_sdp.specs.Mixer.{offer_text}
use Rattle.mmtel_sdp.specs.Offers.{offers_audio}
use Rattle.mmtel_base.specs.Numbers.{next_number, token_text}
use Rattle.mmtel_transaction.specs.Tokens.{TokensView}
use Rattle.mmtel_transaction.specs.declared.words.Emit.{Emit}
use Rattle.mmtel_transaction.specs.declared.words.Emit.TheVariants as emit
use Rattle.mmtel_transaction.specs.declared.words.RoomWord.{RoomWord}
use Rattle.mmtel_transaction.specs.declared.words.RoomWord.TheVariants as due
use Rattle.mmtel_transaction.specs.declared.words.TKey.{TKey}
use Rattle.mmtel_trust.specs.ParsedMessage.{ParsedMessage}
use Rattle.mmtel_trust.specs.Peers.{route_of}
use Rattle.mmtel_types.specs.declared.addrs.Addr.{Addr}
use Rattle.mmtel_types.specs.declared.numbers.Account.{Account}
use Rattle.mmtel_types.specs.declared.numbers.Peer.{Peer}
use Rattle.mmtel_types.specs.declared.numbers.RoomNo.{RoomNo}
use Rattle.mmtel_types.specs.declared.sides.Side.TheVariants.{Callee}
use Rattle.mmtel_run_definitions.specs.ShortRuns.{tokens_of_op}
use Rattle.mmtel_run_theorems.specs.SentInvites.{ConferenceWasSent, ConferencesSendOnce, ParticipantInviteWasSent, ParticipantWasSent, TableWasSent}

abbrev SentRequests : Type 0
SentRequests = List (Peer × Message Start)

-- ---- each of a list

each_append : {A : Type 0} (P : A → Type 0) (xs ys : List A) → Each P xs → Each P ys → Each P (xs ++ ys)
each_append P [] ys e f = f
each_append P (x ∷ xs) ys e f = (e.0, each_append P xs ys e.1 f)

each_first : {A : Type 0} (P : A → Type 0) (xs ys : List A) → Each P (xs ++ ys) → Each P xs
each_first P [] ys e = tt
each_first P (x ∷ xs) ys e = (e.0, each_first P xs ys e.1)

each_last : {A : Type 0} (P : A → Type 0) (xs : List A) (y : A) → Each P (xs ++ y ∷ []) → P y
each_last P [] y e = e.0
each_last P (x ∷ xs) y e = each_last P xs y e.1

each_take : {A : Type 0} (P : A → Type 0) (n : ℕ) (xs : List A) → Each P xs → Each P (take n xs)
each_take P zero xs e = tt
each_take P (suc n) [] e = tt
each_take P (suc n) (x ∷ xs) e = (e.0, each_take P n xs e.1)

each_drop : {A : Type 0} (P : A → Type 0) (n : ℕ) (xs : List A) → Each P xs → Each P (drop n xs)
each_drop P zero xs e = e
each_drop P (suc n) [] e = tt
each_drop P (suc n) (x ∷ xs) e = each_drop P n xs e.1

each_removed : {A : Type 0} (P : A → Type 0) (xs : List A) (at : ℕ) → Each P xs → Each P (remove xs at)
each_removed P xs at e = each_append P (take at xs) (drop (suc at) xs) (each_take P at xs e) (each_drop P (suc at) xs e)

each_set : {A : Type 0} (P : A → Type 0) (xs : List A) (at : ℕ) (y : A) → P y → Each P xs → Each P (slice_set xs at y)
each_set P [] at y is e = tt
each_set P (x ∷ xs) zero y is e = (is, e.1)
each_set P (x ∷ xs) (suc at) y is e = (e.0, each_set P xs at y is e.1)

each_at : {A : Type 0} (P : A → Type 0) (xs : List A) (at : ℕ) (y : A) → Each P xs → slice_get xs at ≡ Some y → P y
each_at P [] at y e is = let none : None ≡ Some y = is in absurd cc
each_at P (x ∷ xs) zero y e is = let some : Some x ≡ Some y = is in let same : x ≡ y = cc in subst P same e.0
each_at P (x ∷ xs) (suc at) y e is = each_at P xs at y e.1 is

each_without_at : {A : Type 0} (P : A → Type 0) (at : ℕ) (items : List A) → Each P items → Each P (tables.without_at at items)
each_without_at P at items e = each_append P (take at items) (drop (at + 1) items) (each_take P at items e) (each_drop P (at + 1) items e)

each_without : {A : Type 0} (P : A → Type 0) (o : Option ℕ) (items : List A) → Each P items → Each P (tables.without o items)
each_without P None items e = e
each_without P (Some at) items e = each_without_at P at items e

module _ (was : List ℕ → Peer → Type 0) (config : ConferenceConfigView) (text : List ℕ) (low : ℕ) where
  -- ---- the output

  -- the request is among those that were sent, if it is an INVITE
  abbrev pub AskWasSent : Emit → Type 0
  AskWasSent (emit.Ask peer m) = (branch : List ℕ) → IsInvite config.sip branch m → was branch peer
  AskWasSent (emit.Reply key m) = Unit {0}
  AskWasSent (emit.Plain peer sample) = Unit {0}
  AskWasSent (emit.Ack key m) = Unit {0}
  AskWasSent (emit.Settled key own) = Unit {0}
  AskWasSent (emit.Arm call what at) = Unit {0}
  AskWasSent (emit.ArmSeat room seat what at) = Unit {0}

  abbrev pub AllWereSent : List Emit → Type 0
  AllWereSent out = Each AskWasSent out

  pub record Counted (output : StepOutput) : Type 0 where
    pub same : output.tokens.token ≡ text
    pub out_in : output.tokens.drawn < 2 ^ 60 → AreNumbered config.sip text low output.tokens.drawn output.out

  -- from an output to a later one
  pub record Goes (output later : StepOutput) : Type 0 where
    pub sent : AllWereSent later.out → AllWereSent output.out
    pub counted : Counted output → Counted later

  stays : (output : StepOutput) → Goes output output
  stays output = record { sent = λ all. all; counted = λ had. had }

  then_goes : (one two three : StepOutput) → Goes one two → Goes two three → Goes one three
  then_goes one two three a b = record { sent = λ all. a.sent (b.sent all); counted = λ had. b.counted (a.counted had) }

  -- it draws nothing
  abbrev IsQuiet : Emit → Type 0
  IsQuiet e = (n : ℕ) → IsNumbered config.sip text n n e

  raised : (from high higher : ℕ) (out : List Emit) → high ≤ higher → AreNumbered config.sip text from high out → AreNumbered config.sip text from higher out
  raised from high higher [] le are = omega (arith, le, are)
  raised from high higher (e ∷ out) le are = (are.0, are.1, raised are.0 high higher out le are.2)

  quiet_last : (from high : ℕ) (e : Emit) (out : List Emit) → IsQuiet e → AreNumbered config.sip text from high out → AreNumbered config.sip text from high (out ++ e ∷ [])
  quiet_last from high e [] quiet are = (from, quiet from, are)
  quiet_last from high e (x ∷ out) quiet are = (are.0, are.1, quiet_last are.0 high e out quiet are.2)

  invite_last : (from high next : ℕ) (peer : Peer) (m : Message Start) (out : List Emit) → high < next → IsInvite config.sip (token_text text next) m →
      AreNumbered config.sip text from high out →
      AreNumbered config.sip text from next (out ++ emit.Ask peer m ∷ [])
  invite_last from high next peer m [] lt is are = (next, inr (omega (arith, lt, are), record { method = codes "INVITE"; awaited = refl; request = is }), omega arith)
  invite_last from high next peer m (x ∷ out) lt is are = (are.0, are.1, invite_last are.0 high next peer m out lt is are.2)

  emit_goes : (e : Emit) (output : StepOutput) → IsQuiet e → Goes output (with_emit e output)
  emit_goes e output quiet = record {
    sent = λ all. each_first AskWasSent output.out (e ∷ []) all;
    counted = λ had. record { same = had.same; out_in = λ less. quiet_last low output.tokens.drawn e output.out quiet (had.out_in less) };
  }

  next_above : (n : ℕ) → next_number n < 2 ^ 60 → n < next_number n
  next_above n less = omega (arith, less)

  after_draw_goes : (output : StepOutput) → Goes output (after_draw output)
  after_draw_goes output = record {
    sent = λ all. all;
    counted = λ had. record {
      same = had.same;
      out_in = λ less.
          let lt : output.tokens.drawn < next_number output.tokens.drawn = next_above output.tokens.drawn less in
          raised low output.tokens.drawn (next_number output.tokens.drawn) output.out (omega (arith, lt)) (had.out_in (omega (arith, lt, less)));
    };
  }

  invite_goes : (peer : Peer) (m : Message Start) (output : StepOutput) → IsInvite config.sip (token output) m → Goes output (with_emit (emit.Ask peer m) (after_draw output))
  invite_goes peer m output is = record {
    sent = λ all. each_first AskWasSent output.out (emit.Ask peer m ∷ []) all;
    counted = λ had. record {
      same = had.same;
      out_in = λ less.
          let lt : output.tokens.drawn < next_number output.tokens.drawn = next_above output.tokens.drawn less in
          invite_last low output.tokens.drawn (next_number output.tokens.drawn) peer m output.out lt
          (subst (λ (t : List ℕ). IsInvite config.sip (token_text t (next_number output.tokens.drawn)) m) had.same is) (had.out_in (omega (arith, lt, less)));
    };
  }

  if_goes : (b : Bool) (output one two : StepOutput) → Goes output one → Goes output two → Goes output (if b then one else two)
  if_goes true output one two e f = e
  if_goes false output one two e f = f

  -- ---- requests whose response is not awaited

  no_bye : (d : Dialogue) (number : ℕ) (given : RequestPartsView) → IsNotAwaited (request_numbered d number (codes "BYE") given)
  no_bye d number given None = refl
  no_bye d number given (Some five) = refl

  no_notify : (d : Dialogue) (number : ℕ) (given : RequestPartsView) → IsNotAwaited (request_numbered d number (codes "NOTIFY") given)
  no_notify d number given None = refl
  no_notify d number given (Some five) = refl

  no_cancel : (d : Dialogue) (number : ℕ) (given : RequestPartsView) → IsNotAwaited (request_numbered d number (codes "CANCEL") given)
  no_cancel d number given None = refl
  no_cancel d number given (Some five) = refl

  with_bye_goes : (d : Dialogue) (output : StepOutput) → Goes output (with_bye config.sip d output)
  with_bye_goes d output =
      let given : RequestPartsView = own_parts config.sip (token output) [] [] in
      let m : Message Start = request_of d (codes "BYE") given in
      then_goes output (after_draw output) (with_emit (emit.Ask d.peer m) (after_draw output)) (after_draw_goes output)
      (emit_goes (emit.Ask d.peer m) (after_draw output) (λ n. inl (refl, no_bye d (next_number d.local_cseq) given)))

  notify_goes : (d : Dialogue) (named : List Line) (body : List ℕ) (output : StepOutput) → Goes output (with_own_request config.sip (codes "NOTIFY") d named body output)
  notify_goes d named body output =
      let given : RequestPartsView = own_parts config.sip (token output) named body in
      let m : Message Start = request_of d (codes "NOTIFY") given in
      then_goes output (after_draw output) (with_emit (emit.Ask d.peer m) (after_draw output)) (after_draw_goes output)
      (emit_goes (emit.Ask d.peer m) (after_draw output) (λ n. inl (refl, no_notify d (next_number d.local_cseq) given)))

  with_ack_goes : (d : Dialogue) (output : StepOutput) → Goes output (with_ack config.sip d output)
  with_ack_goes d output = then_goes output (after_draw output) (with_ack config.sip d output) (after_draw_goes output) (emit_goes _ (after_draw output) (λ n. refl))

  with_cancel_goes : (i : SentInvite) (output : StepOutput) → Goes output (with_cancel config.sip i output)
  with_cancel_goes i output = emit_goes (emit.Ask i.dialogue.peer (cancel_of i.dialogue i.number config.sip i.branch)) output (λ n. inl (refl, no_cancel i.dialogue i.number (bare_parts config.sip i.branch)))

  with_due_cancel_goes : (i : SentInvite) (output : StepOutput) → Goes output (with_due_cancel config.sip i output)
  with_due_cancel_goes i output = if_goes (is_cancellable i) output (with_cancel config.sip i output) output (with_cancel_goes i output) (stays output)

  -- the INVITE in a dialog, which was sent
  is_invite : (d : Dialogue) (named : List Line) (body : List ℕ) (output : StepOutput) →
      IsInvite config.sip (token output) (request_of d (codes "INVITE") (own_parts config.sip (token output) named body))
  is_invite d named body output = record { dialogue = d; number = next_number d.local_cseq; parts = own_parts config.sip (token output) named body; is = refl; from_there = refl; has_it = refl }

  -- ---- steps

  abbrev AllAbandonedSent : List AbandonedInvite → Type 0
  AllAbandonedSent ls = Each (AbandonedWasSent was) ls

  abbrev SeatIs : ParticipantState → Type 0
  SeatIs seat = ParticipantWasSent was seat

  abbrev RoomIs : Conference → Type 0
  RoomIs room = ConferenceWasSent was room

  -- a step leaves INVITEs that were sent, where this holds before
  pub record Moves (P : Type 0) (s later : StepResult) : Type 0 where
    pub output_in : Goes s.effects.output later.effects.output
    pub room_in : AllWereSent later.effects.output.out → P → RoomIs s.conference → RoomIs later.conference
    pub abandoned_in : AllWereSent later.effects.output.out → P → RoomIs s.conference → AllAbandonedSent s.effects.abandoned → AllAbandonedSent later.effects.abandoned

  same : (P : Type 0) (s : StepResult) → Moves P s s
  same P s = record { output_in = stays s.effects.output; room_in = λ all p room. room; abandoned_in = λ all p room abandoned. abandoned }

  then_moves : (P Q : Type 0) (s t u : StepResult) → Moves P s t → (P → Q) → Moves Q t u → Moves P s u
  then_moves P Q s t u a on b = record {
    output_in = then_goes s.effects.output t.effects.output u.effects.output a.output_in b.output_in;
    room_in = λ all p room. b.room_in all (on p) (a.room_in (b.output_in.sent all) p room);
    abandoned_in = λ all p room abandoned. b.abandoned_in all (on p) (a.room_in (b.output_in.sent all) p room) (a.abandoned_in (b.output_in.sent all) p room abandoned);
  }

  if_moves : (P : Type 0) (b : Bool) (s one two : StepResult) → Moves P s one → Moves P s two → Moves P s (if b then one else two)
  if_moves P true s one two e f = e
  if_moves P false s one two e f = f

  output_moves : (P : Type 0) (output : StepOutput) (s : StepResult) → Goes s.effects.output output → Moves P s (with_output output s)
  output_moves P output s goes = record { output_in = goes; room_in = λ all p room. room; abandoned_in = λ all p room abandoned. abandoned }

  emit_moves : (P : Type 0) (e : Emit) (s : StepResult) → IsQuiet e → Moves P s (with_output (with_emit e s.effects.output) s)
  emit_moves P e s quiet = output_moves P (with_emit e s.effects.output) s (emit_goes e s.effects.output quiet)

  with_participant_moves : (seat new : ParticipantState) (place : ℕ) (s : StepResult) → (SeatIs seat → SeatIs new) → Moves (SeatIs seat) s (with_participant place new s)
  with_participant_moves seat new place s on =
      record { output_in = stays s.effects.output; room_in = λ all p room. each_set SeatIs s.conference.participants place new (on p) room; abandoned_in = λ all p room abandoned. abandoned }

  abbrev SeatRow : Type 0
  SeatRow = (place : ℕ) → ParticipantState → StepResult → StepResult

  abbrev RowMoves : SeatRow → Type 0
  RowMoves row = (place : ℕ) (seat : ParticipantState) (s : StepResult) → Moves (SeatIs seat) s (row place seat s)

  by_moves : (P : Type 0) (row : SeatRow) → RowMoves row → (place : ℕ) (s : StepResult) (o : Option ParticipantState) → slice_get s.conference.participants place ≡ o → Moves P s (by_participant (row place) o s)
  by_moves P row good place s None is = same P s
  by_moves P row good place s (Some seat) is =
      let m = good place seat s in
      record {
        output_in = m.output_in;
        room_in = λ all p room. m.room_in all (each_at SeatIs s.conference.participants place seat room is) room;
        abandoned_in = λ all p room abandoned. m.abandoned_in all (each_at SeatIs s.conference.participants place seat room is) room abandoned;
      }

  at_participant_moves : (P : Type 0) (row : SeatRow) → RowMoves row → (place : ℕ) (s : StepResult) → Moves P s (at_participant row place s)
  at_participant_moves P row good place s = by_moves P row good place s (slice_get s.conference.participants place) refl

  at_place_moves : (P : Type 0) (row : SeatRow) → RowMoves row → (place : Option ℕ) (s : StepResult) → Moves P s (at_place row place s)
  at_place_moves P row good None s = same P s
  at_place_moves P row good (Some place) s = at_participant_moves P row good place s

  -- ---- NOTIFY

  notified_sent : (party : Party) (invite : Option Invite) → ParticipantInviteWasSent was (leg_of party).dialogue.peer invite → ParticipantInviteWasSent was (leg_of (seats.party_after_notify party)).dialogue.peer invite
  notified_sent (Invited leg) invite is = is
  notified_sent (DialedIn leg) invite is = is
  notified_sent (DialedOut leg) invite is = is

  notified_goes : (room : RoomNo) (goes_on : Bool) (line : List ℕ) (party : Party) (output : StepOutput) → Goes output (seats.with_notify_to_party config room goes_on line party output)
  notified_goes room goes_on line (Invited leg) output = stays output
  notified_goes room goes_on line (DialedIn leg) output = notify_goes leg.dialogue (notify_lines config.sip room goes_on) (sipfrag line) output
  notified_goes room goes_on line (DialedOut leg) output = notify_goes leg.dialogue (notify_lines config.sip room goes_on) (sipfrag line) output

  notified_moves : (goes_on : Bool) (line : List ℕ) → RowMoves (seats.after_notify config goes_on line)
  notified_moves goes_on line place seat s =
      then_moves (SeatIs seat) (Unit {0}) s (with_participant place (seats.participant_after_notify seat) s) _
      (with_participant_moves seat (seats.participant_after_notify seat) place s (notified_sent seat.party seat.invite)) (λ p. tt)
      (output_moves (Unit {0}) (seats.with_notify_to_party config s.conference.number goes_on line seat.party s.effects.output) (with_participant place (seats.participant_after_notify seat) s)
      (notified_goes s.conference.number goes_on line seat.party s.effects.output))

  notified_to_moves : (P : Type 0) (goes_on : Bool) (line : List ℕ) (number : ℕ) (s : StepResult) → Moves P s (seats.after_notify_to config goes_on line number s)
  notified_to_moves P goes_on line number s = at_place_moves P (seats.after_notify config goes_on line) (notified_moves goes_on line) (seats.place_of number s.conference.participants) s

  notified_by_moves : (P : Type 0) (goes_on : Bool) (line : List ℕ) (by : Option ℕ) (s : StepResult) → Moves P s (seats.after_notify_referrer config goes_on line by s)
  notified_by_moves P goes_on line None s = same P s
  notified_by_moves P goes_on line (Some number) s = notified_to_moves P goes_on line number s

  -- ---- a participant leaves

  filed_goes : (now : ℕ) (meter : Option MeterView) (output : StepOutput) → Goes output (seats.with_row_of_meter now meter output)
  filed_goes now None output = stays output
  filed_goes now (Some meter) output = record { sent = λ all. all; counted = λ had. record { same = had.same; out_in = had.out_in } }

  abandoned_sent : (had_bye : Bool) (party : Party) (invite : Option Invite) → ParticipantInviteWasSent was (leg_of party).dialogue.peer invite → AllAbandonedSent (seats.abandoned_of_invite had_bye party invite)
  abandoned_sent had_bye party None is = tt
  abandoned_sent had_bye (Invited leg) (Some (Outstanding number i)) is = (is.0, tt)
  abandoned_sent had_bye (DialedIn leg) (Some (Outstanding number i)) is = (is.1, tt)
  abandoned_sent had_bye (DialedOut leg) (Some (Outstanding number i)) is = (is.1, tt)
  abandoned_sent had_bye party (Some (Accepted branch tag ack)) is = tt

  left_moves : (now : ℕ) (had_bye : Bool) → RowMoves (seats.after_leave now had_bye)
  left_moves now had_bye place seat s = record {
    output_in = filed_goes now (leg_of seat.party).meter s.effects.output;
    room_in = λ all p room. each_removed SeatIs s.conference.participants place room;
    abandoned_in = λ all p room abandoned. each_append (AbandonedWasSent was) s.effects.abandoned (seats.abandoned_of_invite had_bye seat.party seat.invite) abandoned (abandoned_sent had_bye seat.party seat.invite p);
  }

  with_bye_sent : (party : Party) (d : Dialogue) (invite : Option Invite) → d.peer ≡ (leg_of party).dialogue.peer → ParticipantInviteWasSent was (leg_of party).dialogue.peer invite →
      ParticipantInviteWasSent was (leg_of (seats.with_leg (record (leg_of party) { dialogue = d }) party)).dialogue.peer invite
  with_bye_sent (Invited leg) d invite same_peer is = subst (λ (p : Peer). ParticipantInviteWasSent was p invite) (sym same_peer) is
  with_bye_sent (DialedIn leg) d invite same_peer is = subst (λ (p : Peer). ParticipantInviteWasSent was p invite) (sym same_peer) is
  with_bye_sent (DialedOut leg) d invite same_peer is = subst (λ (p : Peer). ParticipantInviteWasSent was p invite) (sym same_peer) is

  -- the output for one that gets its BYE, or none
  record Departs (seat : ParticipantState) (e later : Effects) : Type 0 where
    pub output_in : Goes e.output later.output
    pub abandoned_in : SeatIs seat → AllAbandonedSent e.abandoned → AllAbandonedSent later.abandoned

  dismissed_by : (now : ℕ) (b : Bool) (seat : ParticipantState) (e : Effects) → Departs seat e
      (if b then seats.effects_of_leave now true (seats.participant_after_bye seat) (record e { output = with_bye config.sip (dialogue_of seat) e.output }) else seats.effects_of_leave now false seat e)
  dismissed_by now true seat e = record {
    output_in = then_goes e.output (with_bye config.sip (dialogue_of seat) e.output) _ (with_bye_goes (dialogue_of seat) e.output)
        (filed_goes now (leg_of (seats.participant_after_bye seat).party).meter (with_bye config.sip (dialogue_of seat) e.output));
    abandoned_in = λ p abandoned. each_append (AbandonedWasSent was) e.abandoned (seats.abandoned_of_invite true (seats.participant_after_bye seat).party seat.invite) abandoned
        (abandoned_sent true (seats.participant_after_bye seat).party seat.invite (with_bye_sent seat.party _ seat.invite refl p));
  }
  dismissed_by now false seat e = record {
    output_in = filed_goes now (leg_of seat.party).meter e.output;
    abandoned_in = λ p abandoned. each_append (AbandonedWasSent was) e.abandoned (seats.abandoned_of_invite false seat.party seat.invite) abandoned (abandoned_sent false seat.party seat.invite p);
  }

  dismissed_moves : (now : ℕ) → RowMoves (seats.after_dismissal config now)
  dismissed_moves now place seat s =
      let m = dismissed_by now (is_connected seat) seat s.effects in
      record { output_in = m.output_in; room_in = λ all p room. each_removed SeatIs s.conference.participants place room; abandoned_in = λ all p room abandoned. m.abandoned_in p abandoned }

  closed_moves : (now : ℕ) (all : List ParticipantState) (s : StepResult) → Moves (Each SeatIs all) s (seats.after_close config now all s)
  unfolding seats.after_close
  closed_moves now [] s = record { output_in = stays s.effects.output; room_in = λ all p room. room; abandoned_in = λ all p room abandoned. abandoned }
  closed_moves now (seat ∷ others) s =
      let m = dismissed_moves now 0 seat s in
      then_moves (Each SeatIs (seat ∷ others)) (Each SeatIs others) s (seats.after_dismissal config now 0 seat s) (seats.after_close config now others (seats.after_dismissal config now 0 seat s))
      (record { output_in = m.output_in; room_in = λ all p room. m.room_in all p.0 room; abandoned_in = λ all p room abandoned. m.abandoned_in all p.0 room abandoned }) (λ p. p.1)
      (closed_moves now others (seats.after_dismissal config now 0 seat s))

  closed_with_moves : (P : Type 0) (now number : ℕ) (s : StepResult) → Moves P s (seats.after_close_with config now number s)
  closed_with_moves P now number s =
      let m = closed_moves now s.conference.participants s in
      if_moves P (is_creator number) s (seats.after_close config now s.conference.participants s) s
      (record { output_in = m.output_in; room_in = λ all p room. m.room_in all room room; abandoned_in = λ all p room abandoned. m.abandoned_in all room room abandoned }) (same P s)

  -- ---- who joins, and who is invited

  with_new_in : (P : Type 0) (new : ParticipantState) (s later : StepResult) → later.conference ≡ joining.with_new_participant new s.conference → later.effects.abandoned ≡ s.effects.abandoned →
      Goes s.effects.output later.effects.output → (AllWereSent later.effects.output.out → SeatIs new) → Moves P s later
  with_new_in P new s later room_is abandoned_is goes is = record {
    output_in = goes;
    room_in = λ all p room. subst RoomIs (sym room_is) (each_append SeatIs s.conference.participants (new ∷ []) room (is all, tt));
    abandoned_in = λ all p room abandoned. subst AllAbandonedSent (sym abandoned_is) abandoned;
  }

  agreed_goes : (now : ℕ) (room : RoomNo) (seat number : ℕ) (key : TKey) (m : MessageView) (tag : List ℕ) (output : StepOutput) → Goes output (joining.with_accepted_invite config now room seat number key m tag output)
  agreed_goes now room seat number key m tag output = then_goes output _ _ (emit_goes _ output (λ n. refl)) (emit_goes _ _ (λ n. refl))

  pub come_moves : (P : Type 0) (now : ℕ) (leg : Released) (account : Option Account) (key : TKey) (m : MessageView) (s : StepResult) → Moves P s (joining.after_join config now leg account key m s)
  unfolding joining.after_join
  come_moves P now leg account key m s =
      with_new_in P (joining.new_participant now s.conference leg account) s _ refl refl
      (agreed_goes now s.conference.number (next_number s.conference.last_seat) (next_number s.conference.last_number) key m (released_leg leg).dialogue.local_tag s.effects.output) (λ all. tt)

  invited_in_moves : (P : Type 0) (now by : ℕ) (account : Option Account) (d : Dialogue) (s : StepResult) → Moves P s (joining.after_invite_in config now by account d s)
  invited_in_moves P now by account d s =
      let third : StepOutput = after_draw (after_draw s.effects.output) in
      let m : Message Start = request_of d (codes "INVITE") (own_parts config.sip (token third) (contact_and_sdp_lines config.sip s.conference.number) (offer_text config.mixer)) in
      let is = is_invite d (contact_and_sdp_lines config.sip s.conference.number) (offer_text config.mixer) third in
      let asked : StepOutput = with_emit (emit.Ask d.peer m) (after_draw third) in
      let arm : Emit = emit.ArmSeat s.conference.number (next_number s.conference.last_seat) (due.Cap (next_number s.conference.last_number)) (now + joining.ringing_limit) in
      with_new_in P (joining.invited_participant s.conference by account d (token third)) s _ refl refl
      (then_goes s.effects.output (after_draw s.effects.output) _ (after_draw_goes s.effects.output)
      (then_goes (after_draw s.effects.output) third _ (after_draw_goes (after_draw s.effects.output))
      (then_goes third asked _ (invite_goes d.peer m third is) (emit_goes arm asked (λ n. refl)))))
      (λ all.
      let sent_one : was (token third) d.peer = each_last AskWasSent s.effects.output.out (emit.Ask d.peer m) (each_first AskWasSent asked.out (arm ∷ []) all) (token third) is in
      (sent_one, sent_one))

  notified_failure_moves : (P : Type 0) (by code : ℕ) (s : StepResult) → Moves P s (joining.after_failure_notify config by code s)
  notified_failure_moves P by code s = notified_to_moves P false (own_status code) by s

  invited_at_moves : (P : Type 0) (now by : ℕ) (o : Option Peer) (u : Uri) (s : StepResult) → Moves P s (joining.after_invite_if_peer config now by o u s)
  invited_at_moves P now by None u s = notified_failure_moves P by 404 s
  invited_at_moves P now by (Some peer) u s =
      if_moves P (is_full s.conference) s (joining.after_failure_notify config by 503 s) (joining.after_invite config now by peer u s) (notified_failure_moves P by 503 s) (invited_in_moves P now by _ _ s)

  bidden_moves : (P : Type 0) (now by : ℕ) (o : Option Uri) (s : StepResult) → Moves P s (joining.after_refer config now by o s)
  unfolding joining.after_refer
  bidden_moves P now by None s = notified_failure_moves P by 404 s
  bidden_moves P now by (Some u) s = invited_at_moves P now by (route_of u config.peers.routes) u s

  adopted_sent : (meter : Option MeterView) (leg : Released) (branch : List ℕ) (number : ℕ) → was branch (released_leg leg).dialogue.peer →
      ParticipantInviteWasSent was (leg_of (joining.party_of meter (joining.released_after_reinvite leg))).dialogue.peer
      (Some (Outstanding number (sent_invite (joining.leg_after_invite (released_leg leg)).dialogue (next_number (released_leg leg).dialogue.local_cseq) branch)))
  adopted_sent meter (released.Caller leg) branch number is = (is, is)
  adopted_sent meter (released.Callee leg) branch number is = (is, is)

  pub adopted_moves : (P : Type 0) (now : ℕ) (leg : Released) (account : Option Account) (by : ℕ) (s : StepResult) → Moves P s (joining.after_adoption config now leg account by s)
  unfolding joining.after_adoption
  adopted_moves P now leg account by s =
      let d : Dialogue = (released_leg leg).dialogue in
      let output : StepOutput = s.effects.output in
      let m : Message Start = request_of d (codes "INVITE") (own_parts config.sip (token output) (contact_and_sdp_lines config.sip s.conference.number) (offer_text config.mixer)) in
      let is = is_invite d (contact_and_sdp_lines config.sip s.conference.number) (offer_text config.mixer) output in
      with_new_in P (joining.adopted_participant now s.conference leg account by (token output)) s _ refl refl (invite_goes d.peer m output is)
      (λ all. adopted_sent (seats.meter_of s.conference.number now account) leg (token output) (next_number s.conference.last_number) (each_last AskWasSent output.out (emit.Ask d.peer m) all (token output) is))

  -- ---- requests

  refused_moves : (key : TKey) (m : MessageView) (code : ℕ) → RowMoves (requests.after_refusal config key m code)
  refused_moves key m code place seat s = emit_moves (SeatIs seat) _ s (λ n. refl)

  answered_moves : (key : TKey) (m : MessageView) (code : ℕ) (named : List Line) → RowMoves (requests.after_response config key m code named)
  answered_moves key m code named place seat s = emit_moves (SeatIs seat) _ s (λ n. refl)

  agreed_again_moves : (now : ℕ) (key : TKey) (m : MessageView) → RowMoves (requests.after_reinvite config now key m)
  agreed_again_moves now key m place seat s =
      let new : ParticipantState = requests.with_pending_ack (next_number s.conference.last_number) seat in
      record {
        output_in = agreed_goes now s.conference.number seat.number (next_number s.conference.last_number) key m (seats.tag_of seat) s.effects.output;
        room_in = λ all p room. each_set SeatIs s.conference.participants place new p room;
        abandoned_in = λ all p room abandoned. abandoned;
      }

  on_invite_moves : (now : ℕ) (key : TKey) (m : MessageView) → RowMoves (requests.on_invite config now key m)
  on_invite_moves now key m place seat s =
      if_moves (SeatIs seat) (offers_audio m.parsed.body) s (requests.after_reinvite config now key m place seat s) (requests.after_refusal config key m 488 place seat s)
      (agreed_again_moves now key m place seat s) (refused_moves key m 488 place seat s)

  on_bye_moves : (now : ℕ) (key : TKey) (m : MessageView) → RowMoves (requests.on_bye config now key m)
  on_bye_moves now key m place seat s =
      let one : StepResult = requests.after_refusal config key m 200 place seat s in
      let two : StepResult = seats.after_leave now false place seat one in
      then_moves (SeatIs seat) (SeatIs seat) s one (requests.on_bye config now key m place seat s) (refused_moves key m 200 place seat s) (λ p. p)
      (then_moves (SeatIs seat) (SeatIs seat) one two (requests.on_bye config now key m place seat s) (left_moves now false place seat one) (λ p. p) (closed_with_moves (SeatIs seat) now seat.number two))

  accepted_moves : (key : TKey) (m : MessageView) → RowMoves (requests.after_accepted_refer config key m)
  accepted_moves key m place seat s = emit_moves (SeatIs seat) _ s (λ n. refl)

  on_referral_moves : (now : ℕ) (key : TKey) (m : MessageView) (r : Referral) → RowMoves (requests.on_referral config now key m r)
  on_referral_moves now key m referral.Missing place seat s = refused_moves key m 400 place seat s
  on_referral_moves now key m referral.OtherMethod place seat s = refused_moves key m 403 place seat s
  on_referral_moves now key m (referral.Invite u) place seat s =
      let one : StepResult = requests.after_accepted_refer config key m place seat s in
      let two : StepResult = requests.after_trying config seat.number one in
      then_moves (SeatIs seat) (SeatIs seat) s one (joining.after_refer config now seat.number u two) (accepted_moves key m place seat s) (λ p. p)
      (then_moves (SeatIs seat) (SeatIs seat) one two (joining.after_refer config now seat.number u two) (notified_to_moves (SeatIs seat) true (own_status 100) seat.number one) (λ p. p)
      (bidden_moves (SeatIs seat) now seat.number u two))
  on_referral_moves now key m (referral.Replace r) place seat s = accepted_moves key m place seat s

  on_received_moves : (now : ℕ) (key : TKey) (m : MessageView) → RowMoves (requests.on_request_in_order config now key m)
  on_received_moves now key m place seat s =
      if_moves (SeatIs seat) (is_method (codes "INVITE") m.parsed.start) s _ _ (on_invite_moves now key m place seat s)
      (if_moves (SeatIs seat) (is_method (codes "BYE") m.parsed.start) s _ _ (on_bye_moves now key m place seat s)
      (if_moves (SeatIs seat) (is_method (codes "REFER") m.parsed.start) s _ _ (on_referral_moves now key m (referral_in m.parsed.refer_to) place seat s)
      (if_moves (SeatIs seat) (is_method (codes "OPTIONS") m.parsed.start) s _ _ (answered_moves key m 200 (allow_lines config.methods) place seat s) (refused_moves key m 481 place seat s))))

  refused_request_moves : (key : TKey) (m : MessageView) (fault : DialogueFault) → RowMoves (requests.after_out_of_order config key m fault)
  refused_request_moves key m (OldCSeq last) place seat s = refused_moves key m 500 place seat s
  refused_request_moves key m Pending place seat s = refused_moves key m 491 place seat s
  refused_request_moves key m Unfinished place seat s = answered_moves key m 500 retry_after_lines place seat s

  received_sent : (party : Party) (m : MessageView) (invite : Option Invite) → ParticipantInviteWasSent was (leg_of party).dialogue.peer invite →
      ParticipantInviteWasSent was (leg_of (seats.with_leg (requests.leg_after_request m (leg_of party)) party)).dialogue.peer invite
  received_sent (Invited leg) m invite is = is
  received_sent (DialedIn leg) m invite is = is
  received_sent (DialedOut leg) m invite is = is

  on_receiving_moves : (now : ℕ) (key : TKey) (m : MessageView) (r : Result (Unit {0}) DialogueFault) → RowMoves (requests.on_checked_request config now key m r)
  on_receiving_moves now key m (Err fault) place seat s = refused_request_moves key m fault place seat s
  on_receiving_moves now key m (Ok received) place seat s =
      let one : StepResult = with_participant place (requests.participant_after_request m seat) s in
      then_moves (SeatIs seat) (Unit {0}) s one (at_participant (requests.on_request_in_order config now key m) place one)
      (with_participant_moves seat (requests.participant_after_request m seat) place s (received_sent seat.party m seat.invite)) (λ p. tt)
      (at_participant_moves (Unit {0}) (requests.on_request_in_order config now key m) (on_received_moves now key m) place one)

  on_request_moves : (now : ℕ) (key : TKey) (m : MessageView) → RowMoves (requests.on_request config now key m)
  unfolding requests.on_request
  on_request_moves now key m place seat s =
      if_moves (SeatIs seat) (is_connected seat) s _ _ (on_receiving_moves now key m (requests.request_check (leg_of seat.party) m (requests.invite_in_flight seat)) place seat s) (refused_moves key m 481 place seat s)

  on_ack_moves : (m : MessageView) → RowMoves (requests.on_ack m)
  unfolding requests.on_ack
  on_ack_moves m place seat s =
      if_moves (SeatIs seat) (requests.acknowledges m seat.pending_ack) s _ s (with_participant_moves seat (record seat { pending_ack = None }) place s (λ p. p)) (same (SeatIs seat) s)

  -- ---- the outcomes of an INVITE

  noted_sent : (key : TKey) (peer : Peer) (invite : Option Invite) → ParticipantInviteWasSent was peer invite → ParticipantInviteWasSent was peer (answers.invite_with_provisional key invite)
  noted_sent key peer None is = tt
  noted_sent key peer (Some (Outstanding number i)) is = is
  noted_sent key peer (Some (Accepted branch tag ack)) is = is

  provisional_moves : (key : TKey) → RowMoves (answers.on_provisional key)
  provisional_moves key place seat s = with_participant_moves seat (record seat { invite = answers.invite_with_provisional key seat.invite }) place s (noted_sent key (dialogue_of seat).peer seat.invite)

  stood_sent : (room : RoomNo) (now : ℕ) (account : Option Account) (remote : Remote) (party : Party) (invite : Option Invite) → ParticipantInviteWasSent was (leg_of party).dialogue.peer invite →
      ParticipantInviteWasSent was (leg_of (answers.connected_party room now account remote party)).dialogue.peer invite
  stood_sent room now account remote (Invited leg) invite is = is
  stood_sent room now account remote (DialedIn leg) invite is = is
  stood_sent room now account remote (DialedOut leg) invite is = is

  standing_moves : (now : ℕ) (remote : Remote) → RowMoves (answers.after_connect now remote)
  standing_moves now remote place seat s = record {
    output_in = stays s.effects.output;
    room_in = λ all p room. each_set SeatIs s.conference.participants place (answers.connected_participant s.conference.number now remote seat)
        (stood_sent s.conference.number now seat.account remote seat.party seat.invite p) room;
    abandoned_in = λ all p room abandoned. abandoned;
  }

  agreed_sent : (tag ack : List ℕ) (peer : Peer) (invite : Option Invite) → ParticipantInviteWasSent was peer invite → ParticipantInviteWasSent was peer (answers.accepted_invite tag ack invite)
  agreed_sent tag ack peer None is = tt
  agreed_sent tag ack peer (Some (Outstanding number i)) is = is.1
  agreed_sent tag ack peer (Some (Accepted branch before after)) is = is

  acknowledged_moves : (tag : List ℕ) → RowMoves (answers.after_own_ack config tag)
  acknowledged_moves tag place seat s =
      let new : ParticipantState = record seat { invite = answers.accepted_invite tag (ack_text config.sip (dialogue_of seat) (token s.effects.output)) seat.invite } in
      then_moves (SeatIs seat) (Unit {0}) s (with_participant place new s) _
      (with_participant_moves seat new place s (agreed_sent tag (ack_text config.sip (dialogue_of seat) (token s.effects.output)) (dialogue_of seat).peer seat.invite)) (λ p. tt)
      (output_moves (Unit {0}) (with_ack config.sip (dialogue_of seat) s.effects.output) (with_participant place new s) (with_ack_goes (dialogue_of seat) s.effects.output))

  success_moves : (now : ℕ) (m : MessageView) → RowMoves (answers.on_success config now m)
  success_moves now m place seat s =
      let one : StepResult = answers.after_connect now (remote_of Callee m.parsed.lines) place seat s in
      let two : StepResult = at_participant (answers.after_own_ack config (answers.to_tag_of m)) place one in
      then_moves (SeatIs seat) (Unit {0}) s one (answers.on_success config now m place seat s) (standing_moves now (remote_of Callee m.parsed.lines) place seat s) (λ p. tt)
      (then_moves (Unit {0}) (Unit {0}) one two (answers.on_success config now m place seat s)
      (at_participant_moves (Unit {0}) (answers.after_own_ack config (answers.to_tag_of m)) (acknowledged_moves (answers.to_tag_of m)) place one) (λ p. p)
      (notified_by_moves (Unit {0}) false (own_status 200) seat.by two))

  ended_without_moves : (now : ℕ) (line : List ℕ) → RowMoves (answers.after_end config now line)
  ended_without_moves now line place seat s =
      then_moves (SeatIs seat) (SeatIs seat) s (seats.after_dismissal config now place seat s) (answers.after_end config now line place seat s) (dismissed_moves now place seat s) (λ p. p)
      (notified_by_moves (SeatIs seat) false line seat.by (seats.after_dismissal config now place seat s))

  ended_unasked_moves : (now : ℕ) (line : List ℕ) → RowMoves (answers.after_invite_end config now line)
  ended_unasked_moves now line place seat s =
      let new : ParticipantState = record seat { invite = None } in
      then_moves (SeatIs seat) (Unit {0}) s (with_participant place new s) (answers.after_invite_end config now line place seat s) (with_participant_moves seat new place s (λ p. tt)) (λ p. tt)
      (at_participant_moves (Unit {0}) (answers.after_end config now line) (ended_without_moves now line) place (with_participant place new s))

  failure_goes : (key : TKey) (m : MessageView) (invite : Option Invite) (output : StepOutput) → Goes output (answers.with_failure_ack config.sip key m invite output)
  failure_goes key m None output = stays output
  failure_goes key m (Some (Outstanding number i)) output = emit_goes _ output (λ n. refl)
  failure_goes key m (Some (Accepted branch tag ack)) output = stays output

  failure_moves : (now : ℕ) (key : TKey) (m : MessageView) → RowMoves (answers.on_failure config now key m)
  failure_moves now key m place seat s =
      let one : StepResult = with_output (answers.with_failure_ack config.sip key m seat.invite s.effects.output) s in
      then_moves (SeatIs seat) (SeatIs seat) s one (answers.on_failure config now key m place seat s)
      (output_moves (SeatIs seat) (answers.with_failure_ack config.sip key m seat.invite s.effects.output) s (failure_goes key m seat.invite s.effects.output)) (λ p. p)
      (ended_unasked_moves now (status_line (status_of m.parsed.start) (phrase_in m.parsed.start)) place seat one)

  repeat_moves : (m : MessageView) (tag ack : List ℕ) → RowMoves (answers.on_retransmission m tag ack)
  repeat_moves m tag ack place seat s =
      if_moves (SeatIs seat) (answers.is_success (status_of m.parsed.start) && bytes_eq (answers.to_tag_of m) tag) s _ s
      (emit_moves (SeatIs seat) (emit.Plain (dialogue_of seat).peer ack) s (λ n. refl)) (same (SeatIs seat) s)

  response_moves : (now : ℕ) (key : TKey) (m : MessageView) → RowMoves (answers.on_outstanding_response config now key m)
  response_moves now key m place seat s =
      if_moves (SeatIs seat) (nat_lt (status_of m.parsed.start) 200) s _ _ (provisional_moves key place seat s)
      (if_moves (SeatIs seat) (nat_lt (status_of m.parsed.start) 300) s _ _ (success_moves now m place seat s) (failure_moves now key m place seat s))

  answer_to_moves : (invite : Option Invite) (now : ℕ) (key : TKey) (m : MessageView) → RowMoves (answers.on_response_to invite config now key m)
  answer_to_moves None now key m place seat s = same (SeatIs seat) s
  answer_to_moves (Some (Outstanding number i)) now key m place seat s = response_moves now key m place seat s
  answer_to_moves (Some (Accepted branch tag ack)) now key m place seat s = repeat_moves m tag ack place seat s

  on_answer_moves : (now : ℕ) (key : TKey) (m : MessageView) → RowMoves (answers.on_any_response config now key m)
  unfolding answers.on_any_response
  on_answer_moves now key m place seat s = answer_to_moves seat.invite now key m place seat s

  on_silence_moves : (now : ℕ) → RowMoves (answers.on_timeout config now)
  unfolding answers.on_timeout
  on_silence_moves now place seat s = if_moves (SeatIs seat) (requests.is_invite_outstanding seat.invite) s _ s (ended_unasked_moves now (own_status 408) place seat s) (same (SeatIs seat) s)

  -- ---- timers

  with_due_cancel_in_goes : (invite : Option Invite) (output : StepOutput) → Goes output (answers.with_invite_cancel config.sip invite output)
  with_due_cancel_in_goes None output = stays output
  with_due_cancel_in_goes (Some (Outstanding number i)) output = with_due_cancel_goes i output
  with_due_cancel_in_goes (Some (Accepted branch tag ack)) output = stays output

  once_sent : (number : ℕ) (peer : Peer) (i : SentInvite) (b : Bool) → ParticipantInviteWasSent was peer (Some (Outstanding number i)) →
      ParticipantInviteWasSent was peer (Some (Outstanding number (if b then record i { cancelled = true } else i)))
  once_sent number peer i true is = is
  once_sent number peer i false is = is

  once_cancelled_sent : (peer : Peer) (invite : Option Invite) → ParticipantInviteWasSent was peer invite → ParticipantInviteWasSent was peer (answers.invite_after_due_cancel invite)
  once_cancelled_sent peer None is = tt
  once_cancelled_sent peer (Some (Outstanding number i)) is = once_sent number peer i (is_cancellable i) is
  once_cancelled_sent peer (Some (Accepted branch tag ack)) is = is

  too_long_moves : (now : ℕ) → RowMoves (answers.after_ringing_limit config now)
  too_long_moves now place seat s =
      let one : StepResult = with_output (answers.with_invite_cancel config.sip seat.invite s.effects.output) s in
      let new : ParticipantState = record seat { invite = answers.invite_after_due_cancel seat.invite } in
      then_moves (SeatIs seat) (SeatIs seat) s one (answers.after_ringing_limit config now place seat s)
      (output_moves (SeatIs seat) (answers.with_invite_cancel config.sip seat.invite s.effects.output) s (with_due_cancel_in_goes seat.invite s.effects.output)) (λ p. p)
      (then_moves (SeatIs seat) (Unit {0}) one (with_participant place new one) (answers.after_ringing_limit config now place seat s)
      (with_participant_moves seat new place one (once_cancelled_sent (dialogue_of seat).peer seat.invite)) (λ p. tt)
      (at_participant_moves (Unit {0}) (answers.after_end config now (own_status 408)) (ended_without_moves now (own_status 408)) place (with_participant place new one)))

  unacknowledged_moves : (now : ℕ) → RowMoves (answers.after_missing_ack config now)
  unacknowledged_moves now place seat s =
      then_moves (SeatIs seat) (SeatIs seat) s (seats.after_dismissal config now place seat s) (answers.after_missing_ack config now place seat s) (dismissed_moves now place seat s) (λ p. p)
      (closed_with_moves (SeatIs seat) now seat.number (seats.after_dismissal config now place seat s))

  on_due_moves : (now : ℕ) (what : RoomWord) → RowMoves (answers.on_due config now what)
  unfolding answers.on_due
  on_due_moves now (due.Cap number) place seat s = if_moves (SeatIs seat) (not (is_connected seat) && answers.has_outstanding_number number seat.invite) s _ s (too_long_moves now place seat s) (same (SeatIs seat) s)
  on_due_moves now (due.NoAck number) place seat s = if_moves (SeatIs seat) (answers.is_ack_pending number seat.pending_ack) s _ s (unacknowledged_moves now place seat s) (same (SeatIs seat) s)

  -- ---- the participants of a table

  receives_moves : (now : ℕ) (received : ParticipantSignal) → RowMoves (tables.step_of_participant config now received)
  unfolding tables.step_of_participant
  receives_moves now (of_seat.Request key request) place seat s = on_request_moves now key request place seat s
  receives_moves now (of_seat.Ack ack) place seat s = on_ack_moves ack place seat s
  receives_moves now (of_seat.Answer key response) place seat s = on_answer_moves now key response place seat s
  receives_moves now of_seat.Silent place seat s = on_silence_moves now place seat s
  receives_moves now (of_seat.Due what) place seat s = on_due_moves now what place seat s

  received_moves : (now : ℕ) (whose : ParticipantState → Bool) (received : ParticipantSignal) (s : StepResult) → Moves (Unit {0}) s (tables.step_of_first config now whose received s)
  received_moves now whose received s = at_place_moves (Unit {0}) (tables.step_of_participant config now received) (receives_moves now received) (position whose s.conference.participants) s

  -- ---- a table

  abbrev LiveIs : List Conference → Type 0
  LiveIs live = Each RoomIs live

  -- conferences that change, where nothing was abandoned before
  pub record Steps (live : List Conference) (e : Effects) (later : List Conference) (f : Effects) : Type 0 where
    pub output_in : Goes e.output f.output
    pub live_in : AllWereSent f.output.out → LiveIs live → LiveIs later
    pub abandoned_in : AllWereSent f.output.out → LiveIs live → AllAbandonedSent e.abandoned → AllAbandonedSent f.abandoned

  unmoved : (live : List Conference) (e : Effects) → Steps live e live e
  unmoved live e = record { output_in = stays e.output; live_in = λ all is. is; abandoned_in = λ all is abandoned. abandoned }

  abbrev StepMoves : (StepResult → StepResult) → Type 0
  StepMoves row = (s : StepResult) → Moves (Unit {0}) s (row s)

  with_participant_at_sent : (b : Bool) (place : ℕ) (room : Conference) (live : List Conference) → RoomIs room → LiveIs live →
      LiveIs (if b then remove (slice_set live place room) place else slice_set live place room)
  with_participant_at_sent true place room live is all = each_removed RoomIs (slice_set live place room) place (each_set RoomIs live place room is all)
  with_participant_at_sent false place room live is all = each_set RoomIs live place room is all

  stepped_at : (row : StepResult → StepResult) → StepMoves row → (place : ℕ) (o : Option Conference) (live : List Conference) (e : Effects) → slice_get live place ≡ o →
      Steps live e (tables.step_result_at row place o live e).live (tables.step_result_at row place o live e).effects
  stepped_at row good place None live e is = unmoved live e
  stepped_at row good place (Some room) live e is =
      let s : StepResult = row (record { conference = room; effects = e }) in
      let m = good (record { conference = room; effects = e }) in
      record {
        output_in = m.output_in;
        live_in = λ all each. with_participant_at_sent s.effects.closes place s.conference live (m.room_in all tt (each_at RoomIs live place room each is)) each;
        abandoned_in = λ all each abandoned. m.abandoned_in all tt (each_at RoomIs live place room each is) abandoned;
      }

  stepped_in : (row : StepResult → StepResult) → StepMoves row → (place : Option ℕ) (live : List Conference) (e : Effects) →
      Steps live e (tables.step_result_in row place live e).live (tables.step_result_in row place live e).effects
  stepped_in row good None live e = unmoved live e
  stepped_in row good (Some place) live e = stepped_at row good place (slice_get live place) live e refl

  stays_at : (row : StepResult → StepResult) → StepMoves row → (place : ℕ) (o : Option Conference) (live : List Conference) (e : Effects) → slice_get live place ≡ o →
      Steps live e (tables.open_result_at row place o live e).live (tables.open_result_at row place o live e).effects
  stays_at row good place None live e is = unmoved live e
  stays_at row good place (Some room) live e is =
      let s : StepResult = row (record { conference = room; effects = e }) in
      let m = good (record { conference = room; effects = e }) in
      record {
        output_in = m.output_in;
        live_in = λ all each. each_set RoomIs live place s.conference (m.room_in all tt (each_at RoomIs live place room each is)) each;
        abandoned_in = λ all each abandoned. m.abandoned_in all tt (each_at RoomIs live place room each is) abandoned;
      }

  stays_in : (row : StepResult → StepResult) → StepMoves row → (place : Option ℕ) (live : List Conference) (e : Effects) →
      Steps live e (tables.open_result_in row place live e).live (tables.open_result_in row place live e).effects
  stays_in row good None live e = unmoved live e
  stays_in row good (Some place) live e = stays_at row good place (slice_get live place) live e refl

  through_in : (row : StepResult → StepResult) → StepMoves row → (r : Result ℕ RoomFault) (live : List Conference) (e : Effects) →
      Steps live e (tables.step_if_access row r live e).live (tables.step_if_access row r live e).effects
  through_in row good (Ok place) live e = stays_at row good place (slice_get live place) live e refl
  through_in row good (Err fault) live e = unmoved live e

  -- ---- INVITEs that were abandoned

  pub record MovesTable (live : List Conference) (abandoned : List AbandonedInvite) (e : Effects) (later : TableStep) : Type 0 where
    pub output_in : Goes e.output later.effects.output
    pub live_in : AllWereSent later.effects.output.out → LiveIs live → LiveIs later.live
    pub abandoned_in : AllAbandonedSent abandoned → AllAbandonedSent later.abandoned
    pub new_in : AllWereSent later.effects.output.out → LiveIs live → AllAbandonedSent e.abandoned → AllAbandonedSent later.effects.abandoned

  beside : (live : List Conference) (abandoned : List AbandonedInvite) (e : Effects) (s : ConferenceStep) → Steps live e s.live s.effects → MovesTable live abandoned e (tables.with_abandoned abandoned s)
  beside live abandoned e s m = record { output_in = m.output_in; live_in = m.live_in; abandoned_in = λ is. is; new_in = m.abandoned_in }

  -- what remains of one
  record Rests (l : AbandonedInvite) (output : StepOutput) (rest : AfterResponse) : Type 0 where
    pub output_in : Goes output rest.output
    pub remaining_in : AbandonedWasSent was l → AllAbandonedSent (option_to_list rest.remaining)

  rest_late : (b : Bool) (l : AbandonedInvite) (output : StepOutput) → Rests l output
      (if b then record { remaining = Some l; output = output } else record { remaining = Some (with_invite l (record l.invite { cancelled = true })); output = with_cancel config.sip l.invite output })
  rest_late true l output = record { output_in = stays output; remaining_in = λ is. (is, tt) }
  rest_late false l output = record { output_in = with_cancel_goes l.invite output; remaining_in = λ is. (is, tt) }

  rest_success : (l : AbandonedInvite) (remote : Remote) (o : Option Dialogue) (output : StepOutput) → Rests l output (on_success_in config.sip l remote o output)
  rest_success l remote (Some d) output = record { output_in = with_ack_goes d output; remaining_in = λ is. (is, tt) }
  rest_success l remote None output =
      let d : Dialogue = dialogue_of_success l.in_dialog l.invite.early l.invite.early_cseq l.invite.dialogue remote in
      record {
        output_in = then_goes output (with_ack config.sip d output) (with_bye config.sip d (with_ack config.sip d output)) (with_ack_goes d output) (with_bye_goes d (with_ack config.sip d output));
        remaining_in = λ is. (is, tt);
      }

  if_rest : (b : Bool) (l : AbandonedInvite) (output : StepOutput) (one two : AfterResponse) → Rests l output one → Rests l output two → Rests l output (if b then one else two)
  if_rest true l output one two e f = e
  if_rest false l output one two e f = f

  rest_of : (key : TKey) (m : ParsedMessage) (l : AbandonedInvite) (output : StepOutput) → Rests l output (left_ones.on_response config.sip key m l output)
  rest_of key m l output =
      let late = rest_late (after_provisional key m l).invite.cancelled (after_provisional key m l) output in
      let success = rest_success (with_invite l (with_key key l.invite)) (remote_of Callee m.lines) (ended_dialog (with_invite l (with_key key l.invite)) (remote_of Callee m.lines).tag) output in
      if_rest (nat_lt (status_of m.start) 200) l output _ _ (record { output_in = late.output_in; remaining_in = late.remaining_in })
      (if_rest (nat_lt (status_of m.start) 300) l output _ _ (record { output_in = success.output_in; remaining_in = success.remaining_in })
      (record { output_in = emit_goes _ output (λ n. refl); remaining_in = λ is. tt }))

  answered_abandoned : (key : TKey) (m : MessageView) (place : ℕ) (o : Option AbandonedInvite) (live : List Conference) (abandoned : List AbandonedInvite) (e : Effects) → slice_get abandoned place ≡ o →
      MovesTable live abandoned e (tables.step_of_abandoned_response config.sip key m place o live abandoned e)
  answered_abandoned key m place None live abandoned e is = beside live abandoned e (tables.unchanged_step live e) (unmoved live e)
  answered_abandoned key m place (Some l) live abandoned e is =
      let rest : AfterResponse = left_ones.on_response config.sip key m.parsed l e.output in
      let r = rest_of key m.parsed l e.output in
      record {
        output_in = r.output_in;
        live_in = λ all each. each;
        abandoned_in = λ each. each_append (AbandonedWasSent was) (tables.without_at place abandoned) (option_to_list rest.remaining) (each_without_at (AbandonedWasSent was) place abandoned each)
            (r.remaining_in (each_at (AbandonedWasSent was) abandoned place l each is));
        new_in = λ all each new. new;
      }

  received_of : (now : ℕ) (branch : List ℕ) (received : ParticipantSignal) (live : List Conference) (abandoned : List AbandonedInvite) (e : Effects) →
      MovesTable live abandoned e (tables.with_abandoned abandoned (tables.step_by_branch config now branch received live e))
  received_of now branch received live abandoned e =
      beside live abandoned e _ (stepped_in (tables.step_of_first config now (tables.participant_has_branch branch) received)
      (λ s. received_moves now (tables.participant_has_branch branch) received s) (position (tables.conference_has_branch branch) live) live e)

  received_in : (now room seat : ℕ) (received : ParticipantSignal) (live : List Conference) (abandoned : List AbandonedInvite) (e : Effects) →
      MovesTable live abandoned e (tables.with_abandoned abandoned (tables.step_by_number config now room seat received live e))
  received_in now room seat received live abandoned e =
      beside live abandoned e _ (stepped_in (tables.step_of_first config now (seats.has_seat_number seat) received) (λ s. received_moves now (seats.has_seat_number seat) received s) (tables.place_of room live) live e)

  answered_at : (now : ℕ) (key : TKey) (m : MessageView) (branch : List ℕ) (o : Option ℕ) (live : List Conference) (abandoned : List AbandonedInvite) (e : Effects) →
      MovesTable live abandoned e (tables.step_of_response_at config now key m branch o live abandoned e)
  answered_at now key m branch None live abandoned e = received_of now branch (of_seat.Answer key m) live abandoned e
  answered_at now key m branch (Some place) live abandoned e = answered_abandoned key m place (slice_get abandoned place) live abandoned e refl

  answered_by : (now : ℕ) (key : TKey) (m : MessageView) (o : Option (List ℕ)) (live : List Conference) (abandoned : List AbandonedInvite) (e : Effects) →
      MovesTable live abandoned e (tables.step_of_response config now key m o live abandoned e)
  answered_by now key m None live abandoned e = beside live abandoned e (tables.unchanged_step live e) (unmoved live e)
  answered_by now key m (Some branch) live abandoned e = answered_at now key m branch (position (left_ones.is_of_branch branch) abandoned) live abandoned e

  silenced_at : (now : ℕ) (branch : List ℕ) (o : Option ℕ) (live : List Conference) (abandoned : List AbandonedInvite) (e : Effects) →
      MovesTable live abandoned e (tables.step_of_timeout_at config now branch o live abandoned e)
  silenced_at now branch None live abandoned e = received_of now branch of_seat.Silent live abandoned e
  silenced_at now branch (Some place) live abandoned e =
      record { output_in = stays e.output; live_in = λ all each. each; abandoned_in = λ each. each_without_at (AbandonedWasSent was) place abandoned each; new_in = λ all each new. new }

  silenced_by : (now : ℕ) (o : Option (List ℕ)) (live : List Conference) (abandoned : List AbandonedInvite) (e : Effects) → MovesTable live abandoned e (tables.step_of_timeout config now o live abandoned e)
  silenced_by now None live abandoned e = beside live abandoned e (tables.unchanged_step live e) (unmoved live e)
  silenced_by now (Some branch) live abandoned e = silenced_at now branch (position (left_ones.is_of_branch branch) abandoned) live abandoned e

  taken_moves : (now : ℕ) (x : RoomSignal) (live : List Conference) (abandoned : List AbandonedInvite) (e : Effects) → MovesTable live abandoned e (tables.step_of_signal config now x live abandoned e)
  unfolding tables.step_of_signal
  taken_moves now (signal.Request room seat key request) live abandoned e = received_in now room.0 seat (of_seat.Request key request) live abandoned e
  taken_moves now (signal.Ack room seat ack) live abandoned e = received_in now room.0 seat (of_seat.Ack ack) live abandoned e
  taken_moves now (signal.Answer key response) live abandoned e = answered_by now key response (awaited_request_branch response) live abandoned e
  taken_moves now (signal.Silent branch method) live abandoned e = silenced_by now (timed_out_branch branch method) live abandoned e
  taken_moves now (signal.Due room seat what) live abandoned e = received_in now room.0 seat (of_seat.Due what) live abandoned e
  taken_moves now (signal.Over key) live abandoned e = record {
    output_in = stays e.output;
    live_in = λ all each. each;
    abandoned_in = λ each. each_without (AbandonedWasSent was) (position (tables.is_abandoned_key key) abandoned) abandoned each;
    new_in = λ all each new. new;
  }

  -- ---- without a signal

  left_at_sent : (place : ℕ) (o : Option ParticipantState) (room : Conference) → RoomIs room → RoomIs (tables.conference_without_at place o room)
  left_at_sent place None room is = is
  left_at_sent place (Some seat) room is = by (is_connected seat)
    where
      by : (b : Bool) → RoomIs (if b then tables.without_participant place room else room)
      by true = each_removed SeatIs room.participants place is
      by false = is

  left_in_sent : (place : Option ℕ) (room : Conference) → RoomIs room → RoomIs (tables.conference_without_in place room)
  left_in_sent None room is = is
  left_in_sent (Some place) room is = left_at_sent place (slice_get room.participants place) room is

  room_left_sent : (seat place : ℕ) (o : Option Conference) (live : List Conference) → slice_get live place ≡ o → LiveIs live → LiveIs (tables.conferences_without_seat seat place o live)
  room_left_sent seat place None live is each = each
  room_left_sent seat place (Some room) live is each = each_set RoomIs live place _ (left_in_sent (seats.place_of seat room.participants) room (each_at RoomIs live place room each is)) each

  room_left_at_sent : (seat : ℕ) (place : Option ℕ) (live : List Conference) → LiveIs live → LiveIs (tables.conferences_without_seat_at seat place live)
  room_left_at_sent seat None live each = each
  room_left_at_sent seat (Some place) live each = room_left_sent seat place (slice_get live place) live refl each

  left_sent : (room seat : ℕ) (live : List Conference) → LiveIs live → LiveIs (tables.conferences_after_leave room seat live)
  unfolding tables.conferences_after_leave
  left_sent room seat live each = room_left_at_sent seat (tables.place_of room live) live each

  closed_at_sent : (place : Option ℕ) (live : List Conference) → LiveIs live → LiveIs (tables.conferences_without place live)
  closed_at_sent None live each = each
  closed_at_sent (Some place) live each = each_removed RoomIs live place each

  closed_sent : (room : ℕ) (live : List Conference) → LiveIs live → LiveIs (tables.conferences_after_close room live)
  unfolding tables.conferences_after_close
  closed_sent room live each = closed_at_sent (tables.place_of room live) live each

  -- ---- operations

  pub record Does (op : TableOp) (table : Table) : Type 0 where
    pub output_in : Counted (empty_output (tokens_of_op op)) → Counted (histories.effects_of config op table).output
    pub table_in : AllWereSent (histories.effects_of config op table).output.out → TableWasSent was table → TableWasSent was (histories.table_after_op config op table)

  moved_does : (op : TableOp) (table : Table) (moved : TableStep) → MovesTable table.live table.abandoned (no_effects (tokens_of_op op)) moved →
      histories.effects_of config op table ≡ moved.effects →
      histories.table_after_op config op table ≡ histories.with_step moved table → Does op table
  moved_does op table moved m effects_is did_is = record {
    output_in = λ had. subst (λ (e : Effects). Counted e.output) (sym effects_is) (m.output_in.counted had);
    table_in = λ all had.
        let each : AllWereSent moved.effects.output.out = subst (λ (e : Effects). AllWereSent e.output.out) effects_is all in
        subst (TableWasSent was) (sym did_is)
        (record { live_in = m.live_in each had.live_in; abandoned_in = each_append (AbandonedWasSent was) moved.abandoned moved.effects.abandoned (m.abandoned_in had.abandoned_in) (m.new_in each had.live_in tt) });
  }

  stepped_does : (op : TableOp) (table : Table) (s : ConferenceStep) → Steps table.live (no_effects (tokens_of_op op)) s.live s.effects → histories.effects_of config op table ≡ s.effects →
      histories.table_after_op config op table ≡ histories.with_conference_step s table → Does op table
  stepped_does op table s m effects_is did_is = moved_does op table (tables.with_abandoned table.abandoned s) (beside table.live table.abandoned (no_effects (tokens_of_op op)) s m) effects_is did_is

  joined_in : (now room : ℕ) (leg : Released) (account : Option Account) (key : TKey) (m : MessageView) (live : List Conference) (e : Effects) →
      Steps live e (tables.step_of_join config now room leg account key m live e).live (tables.step_of_join config now room leg account key m live e).effects
  unfolding tables.step_of_join
  joined_in now room leg account key m live e = through_in (joining.after_join config now leg account key m) (λ s. come_moves (Unit {0}) now leg account key m s) (tables.access room live) live e

  referred_in : (now room : ℕ) (leg : Released) (account : Option Account) (by : ℕ) (live : List Conference) (e : Effects) →
      Steps live e (tables.step_of_adoption config now room leg account by live e).live (tables.step_of_adoption config now room leg account by live e).effects
  unfolding tables.step_of_adoption
  referred_in now room leg account by live e = through_in (joining.after_adoption config now leg account by) (λ s. adopted_moves (Unit {0}) now leg account by s) (tables.access room live) live e

  notified_in : (room seat code : ℕ) (live : List Conference) (e : Effects) →
      Steps live e (tables.step_of_notify config room seat code live e).live (tables.step_of_notify config room seat code live e).effects
  unfolding tables.step_of_notify
  notified_in room seat code live e =
      stays_in (seats.after_notify_to config (tables.is_provisional code) (own_status code) seat) (λ s. notified_to_moves (Unit {0}) (tables.is_provisional code) (own_status code) seat s)
      (tables.place_of room live) live e

  quiet_does : (op : TableOp) (table : Table) → histories.effects_of config op table ≡ no_effects (tokens_of_op op) →
      (TableWasSent was table → TableWasSent was (histories.table_after_op config op table)) → Does op table
  quiet_does op table effects_is on = record { output_in = λ had. subst (λ (e : Effects). Counted e.output) (sym effects_is) had; table_in = λ all had. on had }

  pub does : (op : TableOp) (table : Table) → Does op table
  does (Opens c) table =
      let s : StepResult = record { conference = joining.new_conference (tables.next_room_number table); effects = no_effects c.tokens } in
      let m = come_moves (Unit {0}) c.at c.leg c.account c.key c.invite s in
      record {
        output_in = m.output_in.counted;
        table_in = λ all had. record { live_in = each_append RoomIs table.live _ had.live_in (m.room_in all tt tt, tt); abandoned_in = had.abandoned_in };
      }
  does (Joins room c) table = stepped_does (Joins room c) table _ (joined_in c.at room c.leg c.account c.key c.invite table.live (no_effects c.tokens)) refl refl
  does (Adopts room a) table = stepped_does (Adopts room a) table _ (referred_in a.at room a.leg a.account a.by table.live (no_effects a.tokens)) refl refl
  does (Notifies room seat code tokens) table = stepped_does (Notifies room seat code tokens) table _ (notified_in room seat code table.live (no_effects tokens)) refl refl
  does (Receives received) table = moved_does (Receives received) table _ (taken_moves received.at received.signal table.live table.abandoned (no_effects received.tokens)) refl refl
  does (Leaves room seat) table = quiet_does (Leaves room seat) table refl (λ had. record { live_in = left_sent room seat table.live had.live_in; abandoned_in = had.abandoned_in })
  does (Closes room) table = quiet_does (Closes room) table refl (λ had. record { live_in = closed_sent room table.live had.live_in; abandoned_in = had.abandoned_in })
  does (Drops count) table = quiet_does (Drops count) table refl (λ had. record { live_in = had.live_in; abandoned_in = had.abandoned_in })

-- ---- where more was sent

module _ (one two : List ℕ → Peer → Type 0) (more : (branch : List ℕ) (peer : Peer) → one branch peer → two branch peer) where
  invite_more : (peer : Peer) (invite : Option Invite) → ParticipantInviteWasSent one peer invite → ParticipantInviteWasSent two peer invite
  invite_more peer None is = tt
  invite_more peer (Some (Outstanding number i)) is = (more i.branch i.dialogue.peer is.0, more i.branch peer is.1)
  invite_more peer (Some (Accepted branch tag ack)) is = more branch peer is

  seats_more : (all : List ParticipantState) → Each (ParticipantWasSent one) all → Each (ParticipantWasSent two) all
  seats_more [] e = tt
  seats_more (seat ∷ all) e = (invite_more (dialogue_of seat).peer seat.invite e.0, seats_more all e.1)

  live_more : (live : List Conference) → Each (ConferenceWasSent one) live → Each (ConferenceWasSent two) live
  live_more [] e = tt
  live_more (room ∷ live) e = (seats_more room.participants e.0, live_more live e.1)

  abandoned_more : (ls : List AbandonedInvite) → Each (AbandonedWasSent one) ls → Each (AbandonedWasSent two) ls
  abandoned_more [] e = tt
  abandoned_more (l ∷ ls) e = (more l.invite.branch l.invite.dialogue.peer e.0, abandoned_more ls e.1)

  pub table_more : (table : Table) → TableWasSent one table → TableWasSent two table
  table_more table is = record { live_in = live_more table.live is.live_in; abandoned_in = abandoned_more table.abandoned is.abandoned_in }

-- ---- the theorem

sent_invite_before : (sip : Addr) (asks others : SentRequests) (branch : List ℕ) (peer : Peer) → SomeInviteWasSent sip asks branch peer → SomeInviteWasSent sip (asks ++ others) branch peer
sent_invite_before sip [] others branch peer is = absurd is
sent_invite_before sip (ask ∷ asks) others branch peer (inl here) = inl here
sent_invite_before sip (ask ∷ asks) others branch peer (inr there) = inr (sent_invite_before sip asks others branch peer there)

sent_invite_behind : (sip : Addr) (asks others : SentRequests) (branch : List ℕ) (peer : Peer) → SomeInviteWasSent sip others branch peer → SomeInviteWasSent sip (asks ++ others) branch peer
sent_invite_behind sip [] others branch peer is = is
sent_invite_behind sip (ask ∷ asks) others branch peer is = inr (sent_invite_behind sip asks others branch peer is)

each_asked : (was : List ℕ → Peer → Type 0) (config : ConferenceConfigView) (out : List Emit) → ((branch : List ℕ) (peer : Peer) → SomeInviteWasSent config.sip (requests_in out) branch peer → was branch peer) →
    Each (AskWasSent was config [] 0) out
each_asked was config [] sub = tt
each_asked was config (emit.Ask peer m ∷ out) sub = (λ branch is. sub branch peer (inl (refl, is)), each_asked was config out (λ branch q is. sub branch q (inr is)))
each_asked was config (emit.Reply key m ∷ out) sub = (tt, each_asked was config out sub)
each_asked was config (emit.Plain peer text ∷ out) sub = (tt, each_asked was config out sub)
each_asked was config (emit.Ack key m ∷ out) sub = (tt, each_asked was config out sub)
each_asked was config (emit.Settled key own ∷ out) sub = (tt, each_asked was config out sub)
each_asked was config (emit.Arm call what at ∷ out) sub = (tt, each_asked was config out sub)
each_asked was config (emit.ArmSeat room seat what at ∷ out) sub = (tt, each_asked was config out sub)

pub conferences_send_once : ConferencesSendOnce
conferences_send_once config ops op before had =
    let table : Table = table_after config ops in
    let output : StepOutput = (effects_after config ops op).output in
    let tokens : TokensView = tokens_of_op op in
    let now : List ℕ → Peer → Type 0 = SomeInviteWasSent config.sip (before ++ requests_in output.out) in
    let d = does now config tokens.token tokens.drawn op table in
    let counted = d.output_in (record { same = refl; out_in = λ less. omega arith }) in
    record {
      conferences_in = d.table_in (each_asked now config output.out (λ branch peer is. sent_invite_behind config.sip before (requests_in output.out) branch peer is))
          (table_more (SomeInviteWasSent config.sip before) now (λ branch peer is. sent_invite_before config.sip before (requests_in output.out) branch peer is) table had);
      out_in = counted.out_in;
      text_in = counted.same;
    }
