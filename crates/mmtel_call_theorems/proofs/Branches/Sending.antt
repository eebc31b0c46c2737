-- The theorems, where what was sent is determined by the requests that were sent to peers.
use Rattle.std.proofs.Common.{ℕ, List, [], ◌∷◌, ◌++◌, refl, inl, inr, arith, codes}
use Rattle.mmtel_call_services.specs.CallConfig.{CallConfigView}
use Rattle.mmtel_call.specs.Closing.{StepResult}
use Rattle.mmtel_call.specs.Detaching.{call_finish, detached_at, detached_in, with_leg_restored}
use Rattle.mmtel_call.specs.declared.calls.Call.{Call}
use Rattle.mmtel_call.specs.declared.calls.RelayedTransaction.{RelayedTransaction}
use Rattle.mmtel_call.specs.declared.calls.EstablishedLegs.{EstablishedLegs}
use Rattle.mmtel_call.specs.declared.calls.Phase.{Phase}
use Rattle.mmtel_call.specs.declared.calls.Phase.TheVariants.{Detached, Established, Offered, Over}
use Rattle.mmtel_call.specs.declared.calls.Stage.{Stage}
use Rattle.mmtel_call.specs.declared.calls.Stage.TheVariants.{Answered, Departing, Reinviting, Stable}
use Rattle.mmtel_call.specs.declared.calls.AnsweredInvite.{AnsweredInvite}
use Rattle.mmtel_output.specs.Outputs.{empty_output}
use Rattle.mmtel_output.specs.declared.sent_invites.AbandonedInvite.{AbandonedInvite}
use Rattle.mmtel_leg.specs.declared.legs.Released.{Released}
use Rattle.mmtel_message.specs.Message.{Message}
use Rattle.mmtel_message.specs.declared.messages.Start.{Start}
use Rattle.mmtel_transaction.specs.Tokens.{TokensView}
use Rattle.mmtel_transaction.specs.declared.words.Emit.{Emit}
use Rattle.mmtel_transaction.specs.declared.words.Emit.TheVariants as emit
use Rattle.mmtel_types.specs.declared.addrs.Addr.{Addr}
use Rattle.mmtel_types.specs.declared.numbers.Peer.{Peer}
use Rattle.mmtel_types.specs.declared.sides.Side.{Side}
use Rattle.mmtel_call_theorems.specs.Branches.Theorems.{DetachedCallsWereSent, EndsSendOnce, OpeningsSendOnce, RestoredCallsWereSent, SendsOnce, StepsSendOnce}
use Rattle.mmtel_call_theorems.specs.Branches.SentRequests.{AbandonedWasSent, AnsweredWasSent, CallWasSent, Each, OthersWereSent, PhaseWasSent, RelayedWasSent, RequestWasSent, StageWasSent, method_of, requests_in}
use Rattle.mmtel_call_theorems.proofs.Branches.Transitions as rows

abbrev Asks : Type 0
Asks = List (Peer × Message Start)

-- ---- where more was sent

module _ (one two : List ℕ → Peer → Type 0) (more : (branch : List ℕ) (peer : Peer) → one branch peer → two branch peer) where
  abandoned_more : (ls : List AbandonedInvite) → Each (AbandonedWasSent one) ls → Each (AbandonedWasSent two) ls
  abandoned_more [] e = tt
  abandoned_more (l ∷ ls) e = (more l.invite.branch l.invite.dialogue.peer e.0, abandoned_more ls e.1)

  answered_more : (ts : List AnsweredInvite) → Each (AnsweredWasSent one) ts → Each (AnsweredWasSent two) ts
  answered_more [] e = tt
  answered_more (t ∷ ts) e = (more t.invite.branch t.invite.dialogue.peer e.0, answered_more ts e.1)

  stage_more : (x : EstablishedLegs) (stage : Stage) → StageWasSent one x stage → StageWasSent two x stage
  stage_more x (Answered waiting success) e = more _ _ e
  stage_more x (Departing waiting success) e = tt
  stage_more x Stable e = tt
  stage_more x (Reinviting asking q) e = (more _ _ e.0, more _ _ e.1)

  phase_more : (p : Phase) → PhaseWasSent one p → PhaseWasSent two p
  phase_more (Offered x) e = (more _ _ e.0, more _ _ e.1)
  phase_more (Established x stage) e = stage_more x stage e
  phase_more (Detached detached) e = tt
  phase_more (Over cause) e = tt

module _ (one two : (method branch : List ℕ) → Peer → Type 0) (more : (method branch : List ℕ) (peer : Peer) → one method branch peer → two method branch peer) where
  in_flight_more : (flights : List RelayedTransaction) → Each (RelayedWasSent one) flights → Each (RelayedWasSent two) flights
  in_flight_more [] e = tt
  in_flight_more (flight ∷ flights) e = (more (method_of flight.kind) flight.exchange.invite.branch flight.exchange.invite.dialogue.peer e.0, in_flight_more flights e.1)

  pub call_more : (c : Call) → CallWasSent one c → CallWasSent two c
  call_more c is =
      let invite : List ℕ = codes "INVITE" in
      record {
        phase_in = phase_more (one invite) (two invite) (more invite) c.phase is.phase_in;
        others_in = record {
          abandoned_in = abandoned_more (one invite) (two invite) (more invite) c.abandoned is.others_in.abandoned_in;
          answered_in = answered_more (one invite) (two invite) (more invite) c.answered_invites is.others_in.answered_in;
          in_flight_in = in_flight_more c.relayed is.others_in.in_flight_in;
        };
      }

module _ (sip : Addr) where
  pub sent_before : (asks others : Asks) (method branch : List ℕ) (peer : Peer) → RequestWasSent sip asks method branch peer → RequestWasSent sip (asks ++ others) method branch peer
  sent_before [] others method branch peer is = absurd is
  sent_before (ask ∷ asks) others method branch peer (inl here) = inl here
  sent_before (ask ∷ asks) others method branch peer (inr there) = inr (sent_before asks others method branch peer there)

  sent_behind : (asks others : Asks) (method branch : List ℕ) (peer : Peer) → RequestWasSent sip others method branch peer → RequestWasSent sip (asks ++ others) method branch peer
  sent_behind [] others method branch peer is = is
  sent_behind (ask ∷ asks) others method branch peer is = inr (sent_behind asks others method branch peer is)

-- each request that is sent is among those to peers
module _ (config : CallConfigView) (asked : (method branch : List ℕ) → Peer → Type 0) where
  each_asked : (out : List Emit) → ((method branch : List ℕ) (peer : Peer) → RequestWasSent config.sip (requests_in out) method branch peer → asked method branch peer) → Each (rows.AskWasSent asked config [] 0) out
  each_asked [] sub = tt
  each_asked (emit.Ask peer m ∷ out) sub = (λ method branch is. sub method branch peer (inl (refl, is)), each_asked out (λ method branch q is. sub method branch q (inr is)))
  each_asked (emit.Reply key m ∷ out) sub = (tt, each_asked out sub)
  each_asked (emit.Plain peer text ∷ out) sub = (tt, each_asked out sub)
  each_asked (emit.Ack key m ∷ out) sub = (tt, each_asked out sub)
  each_asked (emit.Settled key own ∷ out) sub = (tt, each_asked out sub)
  each_asked (emit.Arm call what at ∷ out) sub = (tt, each_asked out sub)
  each_asked (emit.ArmSeat room seat what at ∷ out) sub = (tt, each_asked out sub)

module _ (config : CallConfigView) (before : Asks) (tokens : TokensView) (s : StepResult) where
  abbrev Now : (method branch : List ℕ) → Peer → Type 0
  Now = RequestWasSent config.sip (before ++ requests_in s.output.out)

  once_good : rows.Good Now config tokens.token tokens.drawn s → SendsOnce config.sip before tokens s
  once_good is = record {
    call_in = is.call_in (each_asked config Now s.output.out (λ method branch peer e. sent_behind config.sip before (requests_in s.output.out) method branch peer e));
    out_in = is.output_in.out_in;
    text_in = is.output_in.same;
  }

  now_sent : (c : Call) → CallWasSent (RequestWasSent config.sip before) c → CallWasSent Now c
  now_sent c is = call_more (RequestWasSent config.sip before) Now (λ method branch peer e. sent_before config.sip before (requests_in s.output.out) method branch peer e) c is

fresh_in : (asked : (method branch : List ℕ) → Peer → Type 0) (config : CallConfigView) (tokens : TokensView) → rows.Counted asked config tokens.token tokens.drawn (empty_output tokens)
fresh_in asked config tokens = record { same = refl; out_in = λ less. omega arith }

pub steps_send_once : StepsSendOnce
steps_send_once config now received c before tokens is =
    let s = Rattle.mmtel_call.specs.Table.step config now received c (empty_output tokens) in
    let sent = Now config before tokens s in
    let had = now_sent config before tokens s c is in
    once_good config before tokens s (rows.step_good sent config tokens.token tokens.drawn now received c (empty_output tokens) had.phase_in had.others_in (fresh_in sent config tokens))

pub openings_send_once : OpeningsSendOnce
openings_send_once config now arrival before tokens =
    let s = Rattle.mmtel_call.specs.Opening.call_after_opening config now arrival (empty_output tokens) in
    let sent = Now config before tokens s in
    once_good config before tokens s (rows.opened_good sent config tokens.token tokens.drawn now arrival (empty_output tokens) (fresh_in sent config tokens))

pub ends_send_once : EndsSendOnce
ends_send_once config at c before tokens is =
    let s = call_finish config at c (empty_output tokens) in
    let sent = Now config before tokens s in
    let had = now_sent config before tokens s c is in
    once_good config before tokens s (rows.finished_good sent config tokens.token tokens.drawn at c (empty_output tokens) had.phase_in had.others_in (fresh_in sent config tokens))

-- ---- a leg is detached, or put back

module _ (asked : (method branch : List ℕ) → Peer → Type 0) where
  abbrev sent : List ℕ → Peer → Type 0
  sent = asked (codes "INVITE")

  detached_at_sent : (stage : Stage) (side : Side) (x : EstablishedLegs) (c : Call) → StageWasSent sent x stage → OthersWereSent asked c.abandoned c.answered_invites c.relayed →
      CallWasSent asked (detached_at stage side x (record c { phase = Established x stage }))
  detached_at_sent (Answered waiting success) side x c p k = record { phase_in = p; others_in = k }
  detached_at_sent (Departing waiting success) side x c p k = record { phase_in = p; others_in = k }
  detached_at_sent Stable side x c p k = record { phase_in = tt; others_in = k }
  detached_at_sent (Reinviting asking q) side x c p k = record { phase_in = p; others_in = k }

  detached_sent : (p : Phase) (side : Side) (c : Call) → PhaseWasSent sent p → OthersWereSent asked c.abandoned c.answered_invites c.relayed → CallWasSent asked (detached_in p side (record c { phase = p }))
  detached_sent (Offered x) side c p k = record { phase_in = p; others_in = k }
  detached_sent (Established x stage) side c p k = detached_at_sent stage side x c p k
  detached_sent (Detached detached) side c p k = record { phase_in = p; others_in = k }
  detached_sent (Over cause) side c p k = record { phase_in = p; others_in = k }

  back_sent : (p : Phase) (away : Released) (c : Call) → PhaseWasSent sent p → OthersWereSent asked c.abandoned c.answered_invites c.relayed → CallWasSent asked (with_leg_restored p away (record c { phase = p }))
  back_sent (Offered x) away c p k = record { phase_in = p; others_in = k }
  back_sent (Established x stage) away c p k = record { phase_in = p; others_in = k }
  back_sent (Detached detached) away c p k = record { phase_in = tt; others_in = k }
  back_sent (Over cause) away c p k = record { phase_in = p; others_in = k }

pub detached_were_sent : DetachedCallsWereSent
detached_were_sent sip side c before is = detached_sent (RequestWasSent sip before) c.phase side c is.phase_in is.others_in

pub restored_were_sent : RestoredCallsWereSent
restored_were_sent sip away c before is = back_sent (RequestWasSent sip before) c.phase away c is.phase_in is.others_in
