-- Operations on the conferences, part after part: what each part preserves, the whole preserves.
use Rattle.std.proofs.Common.{◌≡◌, ℕ, List, [], ◌∷◌, refl, Option, Some, None, Bool, true, false, Result, Ok, Err}
use Rattle.mmtel_compose.specs.ReceivedMessages.{MessageView}
use Rattle.mmtel_b2bua.specs.Operations.{Releases, Restores, TableOp}
use Rattle.mmtel_b2bua.specs.Detaching.{released_leg_of}
use Rattle.mmtel_b2bua.specs.Queries.{party}
use Rattle.mmtel_output.specs.declared.outputs.StepOutput.{StepOutput}
use Rattle.mmtel_directory.specs.declared.directories.Directory.{Directory}
use Rattle.mmtel_focus.specs.Operations as rooms
use Rattle.mmtel_focus.specs.Table.{access, is_table_full}
use Rattle.mmtel_focus.specs.declared.faults.RoomFault.{RoomFault}
use Rattle.mmtel_focus.specs.declared.referrals.Replaces.{Replaces}
use Rattle.mmtel_focus.specs.declared.signals.RoomSignal.{RoomSignal}
use Rattle.mmtel_focus.specs.declared.signals.RoomSignal.TheVariants as of_room
use Rattle.mmtel_leg.specs.declared.legs.Released.{Released}
use Rattle.mmtel_run_definitions.specs.OwnResponses.{plain_response, response_to}
use Rattle.mmtel_run_definitions.specs.Ownership.{account_of_side, is_of_peer, replaced_side, replacement_in, status_of_fault}
use Rattle.mmtel_run_definitions.specs.ShortRuns.{tokens_of_op}
use Rattle.mmtel_run_definitions.specs.Transitions.{RunState, adoption_op, after_adoption_if, after_call_end, after_conference_invite, after_conference_op, after_conference_signal}
use Rattle.mmtel_run_definitions.specs.Transitions.{after_detach, after_factory_invite, after_join_if, after_newcomer_refusal, after_opening_if, after_participant_request, after_refer_notify}
use Rattle.mmtel_run_definitions.specs.Transitions.{after_replaces, after_replacing, after_replacing_named, after_replacing_side, calls_in, conference_signal_op, conferences_in, join_op}
use Rattle.mmtel_run_definitions.specs.Transitions.{next_tag, opening_op, output_of_conference_op, tokens_now, with_call_op, with_conference_output, with_draws, with_emits}
use Rattle.mmtel_transaction.specs.declared.words.Emit.{Emit}
use Rattle.mmtel_transaction.specs.declared.words.Emit.TheVariants as emit
use Rattle.mmtel_transaction.specs.declared.words.TKey.{TKey}
use Rattle.mmtel_types.specs.Sides.{other_side}
use Rattle.mmtel_types.specs.declared.numbers.Account.{Account}
use Rattle.mmtel_types.specs.declared.numbers.CallNo.{CallNo}
use Rattle.mmtel_types.specs.declared.numbers.Peer.{Peer}
use Rattle.mmtel_types.specs.declared.numbers.RoomNo.{RoomNo}
use Rattle.mmtel_types.specs.declared.sides.Side.{Side}

module _ (R : RunState → RunState → Type 0) (on : (u v w : RunState) → R u v → R v w → R u w) (d : Directory) (token : List ℕ) (at : ℕ)
    (same : (w : RunState) → R w w)
    (draws : (w : RunState) → R w (with_draws 1 w))
    (emits : (es : List Emit) (w : RunState) → R w (with_emits at es w))
    (lodges : (op : rooms.TableOp) (output : StepOutput) (w : RunState) → R w (with_conference_output at op output w))
    (houses : (op : rooms.TableOp) (w : RunState) → (tokens_of_op op).drawn ≡ w.drawn → R w (after_conference_op d at op w))
    (lends : (op : TableOp) (w : RunState) → R w (with_call_op op w))
    (finishes : (call : CallNo) (w : RunState) → R w (after_call_end d token at call w)) where
  pub seats : (x : RoomSignal) (w : RunState) → R w (after_conference_signal d token at x w)
  seats x w = houses (conference_signal_op token at x w) w refl

  pub notices : (room : RoomNo) (seat code : ℕ) (w : RunState) → R w (after_refer_notify d token at room seat code w)
  notices room seat code w = houses (rooms.Notifies room.0 seat code (tokens_now token w)) w refl

  -- ---- who joins

  pub turns_away : (key : TKey) (s : MessageView) (tag : List ℕ) (code : ℕ) (w : RunState) → R w (after_newcomer_refusal d at key s tag code w)
  turns_away key s tag code w = emits (emit.Reply key (response_to d.sip tag s (plain_response code)) ∷ []) w

  pub room_opens : (key : TKey) (s : MessageView) (tag : List ℕ) (full : Bool) (w : RunState) → R w (after_opening_if d at key s tag full w)
  room_opens key s tag true w = turns_away key s tag 503 w
  room_opens key s tag false w = lodges (opening_op d at key s tag) (output_of_conference_op d (opening_op d at key s tag) w) w

  pub opens_room : (key : TKey) (s : MessageView) (w : RunState) → R w (after_factory_invite d token at key s w)
  opens_room key s w =
      let tag : List ℕ = next_tag token w in
      let full : Bool = is_table_full (conferences_in d w).live in
      on w (with_draws 1 w) (after_opening_if d at key s tag full (with_draws 1 w)) (draws w) (room_opens key s tag full (with_draws 1 w))

  pub room_joins : (key : TKey) (s : MessageView) (room : RoomNo) (tag : List ℕ) (found : Result ℕ RoomFault) (w : RunState) → R w (after_join_if d token at key s room tag found w)
  room_joins key s room tag (Err fault) w = turns_away key s tag (status_of_fault fault) w
  room_joins key s room tag (Ok place) w = houses (join_op d at key s room tag (tokens_now token w)) w refl

  pub joins_room : (key : TKey) (s : MessageView) (room : RoomNo) (w : RunState) → R w (after_conference_invite d token at key s room w)
  joins_room key s room w =
      let tag : List ℕ = next_tag token w in
      let found : Result ℕ RoomFault = access room.0 (conferences_in d w).live in
      on w (with_draws 1 w) (after_join_if d token at key s room tag found (with_draws 1 w)) (draws w) (room_joins key s room tag found (with_draws 1 w))

  -- ---- a REFER with Replaces

  pub adopts : (room : RoomNo) (seat : ℕ) (call : CallNo) (leg : Released) (account : Option Account) (found : Result ℕ RoomFault) (w : RunState)
      → R w (after_adoption_if d token at room seat call leg account found w)
  adopts room seat call leg account (Ok place) w =
      let op : rooms.TableOp = adoption_op token at room seat leg account w in
      on w (after_conference_op d at op w) (after_call_end d token at call (after_conference_op d at op w)) (houses op w refl) (finishes call (after_conference_op d at op w))
  adopts room seat call leg account (Err fault) w =
      let v : RunState = with_call_op (Restores call.0 leg) w in
      on w v (after_refer_notify d token at room seat 503 v) (lends (Restores call.0 leg) w) (notices room seat 503 v)

  pub takes_out : (room : RoomNo) (seat : ℕ) (call : CallNo) (side : Side) (account : Option Account) (leg : Option Released) (w : RunState)
      → R w (after_detach d token at room seat call side account leg w)
  takes_out room seat call side account None w = notices room seat 491 w
  takes_out room seat call side account (Some leg) w =
      let v : RunState = with_call_op (Releases call.0 side) w in
      let found : Result ℕ RoomFault = access room.0 (conferences_in d w).live in
      on w v (after_adoption_if d token at room seat call leg account found v) (lends (Releases call.0 side) w) (adopts room seat call leg account found v)

  pub replaces_with : (room : RoomNo) (seat : ℕ) (call : CallNo) (side : Side) (is_its : Bool) (w : RunState) → R w (after_replacing_side d token at room seat call side is_its w)
  replaces_with room seat call side false w = notices room seat 481 w
  replaces_with room seat call side true w =
      takes_out room seat call (other_side side) (account_of_side call (other_side side) (calls_in d w).entries) (released_leg_of call.0 (other_side side) (calls_in d w).entries) w

  pub replaces_by : (peer : Peer) (room : RoomNo) (seat : ℕ) (named : Option (CallNo × Side)) (w : RunState) → R w (after_replacing_named d token at peer room seat named w)
  replaces_by peer room seat None w = notices room seat 481 w
  replaces_by peer room seat (Some named) w =
      replaces_with room seat named.0 named.1 (is_of_peer peer (party named.0.0 named.1 (calls_in d w).entries)) w

  pub replaces : (peer : Peer) (room : RoomNo) (seat : ℕ) (x : Replaces) (w : RunState) → R w (after_replacing d token at peer room seat x w)
  replaces peer room seat x w = replaces_by peer room seat (replaced_side x (calls_in d w).entries) w

  pub requested_replaces : (peer : Peer) (room : RoomNo) (seat : ℕ) (x : Option Replaces) (w : RunState) → R w (after_replaces d token at peer room seat x w)
  requested_replaces peer room seat None w = same w
  requested_replaces peer room seat (Some x) w =
      let v : RunState = after_refer_notify d token at room seat 100 w in
      on w v (after_replacing d token at peer room seat x v) (notices room seat 100 w) (replaces peer room seat x v)

  pub enters_room : (key : TKey) (s : MessageView) (room : RoomNo) (seat : ℕ) (w : RunState) → R w (after_participant_request d token at key s room seat w)
  enters_room key s room seat w =
      let x : RoomSignal = of_room.Request room seat key s in
      let v : RunState = after_conference_signal d token at x w in
      let asked : Option Replaces = replacement_in s.parsed (output_of_conference_op d (conference_signal_op token at x w) w).out in
      on w v (after_replaces d token at s.peer room seat asked v) (seats x w) (requested_replaces s.peer room seat asked v)
