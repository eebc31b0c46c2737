-- The role of a message hides no more than the call that receives it determines.
use Rattle.std.proofs.Common.{◌≡◌, ℕ, Bool, true, false, ◌&&◌, List, refl, ap, sym, ◌∙◌, Option, Some, None, subst, inl, inr, arith}
use Rattle.std.specs.Prelude.{if◌then◌else◌, position, slice_get}
use Rattle.std.proofs.lemmas.Bool.{cases_Bool}
use Rattle.std.proofs.lemmas.Bool.Decides.{nat_tests}
use Rattle.mmtel_compose.specs.ReceivedMessages.{MessageView}
use Rattle.mmtel_b2bua.specs.Entries.{is_numbered}
use Rattle.mmtel_b2bua.specs.Detaching.{entry_at, entry_of}
use Rattle.mmtel_b2bua.specs.declared.entries.Entry.{Entry}
use Rattle.mmtel_call_services.specs.CopiedHeaders.{facing}
use Rattle.mmtel_call_services.specs.CallConfig.{CallConfigView, trusts}
use Rattle.mmtel_call.specs.RelayedTransactions.{is_in_flight, service_in}
use Rattle.mmtel_call.specs.OtherRequests.{is_answered_invite}
use Rattle.mmtel_call.specs.Table.{current_invite, is_current}
use Rattle.mmtel_call.specs.declared.calls.Call.{Call}
use Rattle.mmtel_call.specs.declared.calls.RelayedTransaction.{RelayedTransaction}
use Rattle.mmtel_call.specs.declared.calls.Phase.{Phase}
use Rattle.mmtel_call.specs.declared.calls.Phase.TheVariants.{Detached, Established, Offered, Over}
use Rattle.mmtel_call.specs.declared.calls.Stage.TheVariants.{Answered, Departing, Reinviting, Stable}
use Rattle.mmtel_call.specs.declared.calls.AnsweredInvite.{AnsweredInvite}
use Rattle.mmtel_call_theorems.specs.Noninterference.PublicParts.{MessagesHaveNothingPrivate}
use Rattle.mmtel_call_theorems.specs.Noninterference.Premises.{HasNothingPrivate, IsResponseOf, MayReceiveOther, goes_across}
use Rattle.mmtel_call_theorems.specs.Noninterference.Roles.{Opens, Plain, Role, Sends, hides, private_fields}
use Rattle.mmtel_call_theorems.specs.Noninterference.Observations.{Trust, trust_of}
use Rattle.mmtel_call_theorems.specs.Noninterference.StepTable.{FitsIn, RespondsIn, RespondsToOne}
use Rattle.mmtel_output.specs.AbandonedInvites.{is_of_branch}
use Rattle.mmtel_output.specs.declared.sent_invites.SentInvite.{SentInvite}
use Rattle.mmtel_output.specs.declared.sent_invites.AbandonedInvite.{AbandonedInvite}
use Rattle.mmtel_message.specs.Faults.{is_request}
use Rattle.mmtel_transaction.specs.declared.words.TKey.{TKey}
use Rattle.mmtel_trust.specs.Peers.{is_trusted}
use Rattle.mmtel_types.specs.Sides.{other_side}
use Rattle.mmtel_types.specs.declared.numbers.Peer.{Peer}
use Rattle.mmtel_types.specs.declared.sides.Side.{Side}
use Rattle.mmtel_types.specs.declared.sides.Side.TheVariants.{Callee, Caller}
use Rattle.mmtel_run_theorems.specs.Roles.{abandoned_invite_at, answered_invite_at, awaited_role, comes_from, is_of_abandoned, is_of_answered, other_role, relayed_at}
use Rattle.mmtel_run_theorems.specs.Roles.{request_role_in, request_role_of, response_role_of, role_of_sender, side_role, unshown_request, unshown_response}

-- ---- a side that is restricted, and its own peer

pub true_false : true ≡ false → ⊥
true_false e = cc

said_restricted : (restricted : Bool) (own : Peer) (side : Side) (m : MessageView) → hides (role_of_sender restricted own side m) ≡ true → restricted ≡ true
said_restricted true own side m e = refl
said_restricted false own side m e = absurd (true_false (sym e))

said_own : (restricted : Bool) (own : Peer) (side : Side) (m : MessageView) → hides (role_of_sender restricted own side m) ≡ true → comes_from own m ≡ true
said_own false own side m e = absurd (true_false (sym e))
said_own true own side m e = elim (cases_Bool (comes_from own m)) [
  | inl y ↦ y
  | inr n ↦ absurd (true_false (sym e ∙ ap (λ (b : Bool). hides (if b then Sends side else Plain)) n))
]

-- ---- requests

-- one that goes to the other side while the call is offered: where reliable responses and UPDATE are switched off, there is none
across_fits : (reliable across restricted : Bool) (own : Peer) (side : Side) (m : MessageView) → (reliable ≡ false → across ≡ false) → across ≡ true
    → hides (if reliable && across then role_of_sender restricted own side m else unshown_request) ≡ true → restricted ≡ true
across_fits true true restricted own side m off is e = said_restricted restricted own side m e
across_fits false true restricted own side m off is e = absurd (true_false (off refl))
across_fits reliable false restricted own side m off is e = absurd (true_false (sym is))

pub fits_in : (reliable : Bool) (p : Phase) (c : Call) (side : Side) (m : MessageView) → (reliable ≡ false → goes_across side m ≡ false) → FitsIn p c side m (request_role_in reliable p c.opening side m)
fits_in reliable (Offered x) c Caller m off =
    λ is e. across_fits reliable (goes_across Caller m) (facing c.opening x.attempt.service Caller m).restricted x.caller.dialogue.peer Caller m off is e
fits_in reliable (Offered x) c Callee m off =
    λ is e. across_fits reliable (goes_across Callee m) (facing c.opening x.attempt.service Callee m).restricted x.callee.leg.dialogue.peer Callee m off is e
fits_in reliable (Established x stage) c Caller m off = λ e. said_restricted (facing c.opening x.service Caller m).restricted x.caller.dialogue.peer Caller m e
fits_in reliable (Established x stage) c Callee m off = λ e. said_restricted (facing c.opening x.service Callee m).restricted x.callee.dialogue.peer Callee m e
fits_in reliable (Detached detached) c side m off = tt
fits_in reliable (Over cause) c side m off = tt

pub entry_found : (number place : ℕ) (e : Entry) (es : List Entry) → position (is_numbered number) es ≡ Some place → slice_get es place ≡ Some e → entry_of number es ≡ Some e
entry_found number place e es p g = ap (λ (o : Option ℕ). entry_at o es) p ∙ g

pub request_fits : (reliable : Bool) (number place : ℕ) (side : Side) (m : MessageView) (e : Entry) (es : List Entry) → (reliable ≡ false → goes_across side m ≡ false)
    → position (is_numbered number) es ≡ Some place → slice_get es place ≡ Some e → FitsIn e.call.phase e.call side m (request_role_of reliable side m (entry_of number es))
request_fits reliable number place side m e es off p g =
    subst (λ (o : Option Entry). FitsIn e.call.phase e.call side m (request_role_of reliable side m o)) (sym (entry_found number place e es p g))
    (fits_in reliable e.call.phase e.call side m off)

-- ---- responses

module _ (wholes : MessagesHaveNothingPrivate) (config : CallConfigView) (keys : TKey → Bool) where
  abbrev T : Trust
  T = trust_of config keys

  module _ (m : MessageView) (told : m.parsed.trusted ≡ trusts config m.peer) (response : is_request m.parsed.start ≡ false) where
    from_own : (own : Peer) → comes_from own m ≡ true → trusts config own ≡ false → m.parsed.trusted ≡ false
    from_own own is strange =
        let same : m.peer.0 ≡ own.0 = grind (arith, nat_tests, is) in
        told ∙ (ap (λ (n : ℕ). is_trusted (record { 0 = n }) config.peers.known) same ∙ strange)

    pub whole_from : (role : Role) (own : Peer) → (hides role ≡ true → comes_from own m ≡ true) → trusts config own ≡ false → HasNothingPrivate role m
    whole_from Plain own is strange = wholes.responses m response
    whole_from Opens own is strange = wholes.untrusted Opens m (from_own own (is refl) strange)
    whole_from (Sends side) own is strange = wholes.untrusted (Sends side) m (from_own own (is refl) strange)

    pub is_answer : (key : TKey) (role : Role) (asked : Peer) → (hides role ≡ true → comes_from asked m ≡ true) → keys key ≡ trusts config asked → IsResponseOf T key asked role m
    is_answer key role asked is tie = record { nothing_private = whole_from role asked is; known = tie }

    -- where a target redirects to is public
    redirect_shown : (restricted leg own : Bool) → (private_fields (if leg then (if restricted && own then Sends Callee else Plain) else Plain) m.parsed).redirect ≡ false
    redirect_shown restricted false own = refl
    redirect_shown false true own = refl
    redirect_shown true true false = refl
    redirect_shown true true true = rw response refl

    on_leg : (leg : Bool) (role : Role) → hides (if leg then role else Plain) ≡ true → (leg ≡ true) × (hides role ≡ true)
    on_leg true role e = (refl, e)
    on_leg false role e = absurd (true_false (sym e))

    awaited : (p : Phase) (key : TKey) (c : Call) → ((i : SentInvite) → current_invite p ≡ Some i → keys key ≡ trusts config i.dialogue.peer) → RespondsIn p T key (awaited_role p c.opening m) m c
    awaited (Offered x) key c tie =
        let role : Role = side_role c.opening x.attempt.service x.attempt.invite.dialogue.peer Callee m in
        let restricted : Bool = (facing c.opening x.attempt.service Callee m).restricted in
        let leg : Bool = comes_from x.callee.leg.dialogue.peer m in
        record {
          response = is_answer key (if leg then role else Plain) x.attempt.invite.dialogue.peer (λ e. said_own restricted x.attempt.invite.dialogue.peer Callee m (on_leg leg role e).1) (tie x.attempt.invite refl);
          leg = whole_from (if leg then role else Plain) x.callee.leg.dialogue.peer (λ e. (on_leg leg role e).0);
          fits = λ e. said_restricted restricted x.attempt.invite.dialogue.peer Callee m (on_leg leg role e).1;
          redirect = redirect_shown restricted leg (comes_from x.attempt.invite.dialogue.peer m);
        }
    awaited (Established x (Answered side success)) key c tie = tt
    awaited (Established x (Departing side success)) key c tie = tt
    awaited (Established x Stable) key c tie = tt
    awaited (Established x (Reinviting side q)) key c tie =
        let restricted : Bool = (facing c.opening x.service (other_side side) m).restricted in (
          is_answer key (side_role c.opening x.service q.invite.dialogue.peer (other_side side) m) q.invite.dialogue.peer (λ e. said_own restricted q.invite.dialogue.peer (other_side side) m e) (tie q.invite refl),
          λ e. said_restricted restricted q.invite.dialogue.peer (other_side side) m e,
        )
    awaited (Detached detached) key c tie = tt
    awaited (Over cause) key c tie = tt

    -- it comes from the peers of both, where it hides anything
    pub both_own : (one other : Bool) → hides (if one && other then unshown_response else Plain) ≡ true → (one ≡ true) × (other ≡ true)
    both_own true true e = (refl, refl)
    both_own true false e = absurd (true_false (sym e))
    both_own false other e = absurd (true_false (sym e))

    some_abandoned : (y z : AbandonedInvite) → Some z ≡ Some y → z ≡ y
    some_abandoned y z e = cc

    some_taken : (y z : AnsweredInvite) → Some z ≡ Some y → z ≡ y
    some_taken y z e = cc

    some_flight : (y z : RelayedTransaction) → Some z ≡ Some y → z ≡ y
    some_flight y z e = cc

    abandoned_own : (c : Call) (l : Option AbandonedInvite) (x : Option AnsweredInvite) (f : Option RelayedTransaction) (y : AbandonedInvite) → l ≡ Some y → hides (other_role c m l x f) ≡ true →
        comes_from y.invite.dialogue.peer m ≡ true
    abandoned_own c None x f y is e = absurd (let n : None ≡ Some y = is in cc)
    abandoned_own c (Some z) x f y is e =
        subst (λ (w : AbandonedInvite). comes_from w.invite.dialogue.peer m ≡ true) (some_abandoned y z is) (both_own (is_of_abandoned m (Some z)) (is_of_answered m x) e).0

    taken_own : (c : Call) (l : Option AbandonedInvite) (x : Option AnsweredInvite) (f : Option RelayedTransaction) (y : AnsweredInvite) → x ≡ Some y → hides (other_role c m l x f) ≡ true →
        comes_from y.invite.dialogue.peer m ≡ true
    taken_own c l None f y is e = absurd (let n : None ≡ Some y = is in cc)
    taken_own c None (Some z) f y is e = subst (λ (w : AnsweredInvite). comes_from w.invite.dialogue.peer m ≡ true) (some_taken y z is) (both_own true (is_of_answered m (Some z)) e).1
    taken_own c (Some l) (Some z) f y is e =
        subst (λ (w : AnsweredInvite). comes_from w.invite.dialogue.peer m ≡ true) (some_taken y z is) (both_own (is_of_abandoned m (Some l)) (is_of_answered m (Some z)) e).1

    -- what is in flight: its other side is restricted, where that hides anything
    flight_own : (c : Call) (l : Option AbandonedInvite) (x : Option AnsweredInvite) (f : Option RelayedTransaction) (y : RelayedTransaction) → l ≡ None → x ≡ None → f ≡ Some y → hides (other_role c m l x f) ≡ true
        → (facing c.opening (service_in c.phase) (other_side y.side) m).restricted ≡ true
    flight_own c None None None y none gone is e = absurd (let n : None ≡ Some y = is in cc)
    flight_own c None None (Some z) y none gone is e =
        subst (λ (w : RelayedTransaction). (facing c.opening (service_in c.phase) (other_side w.side) m).restricted ≡ true) (some_flight y z is)
        (said_restricted (facing c.opening (service_in c.phase) (other_side z.side) m).restricted z.exchange.invite.dialogue.peer (other_side z.side) m e)
    flight_own c None (Some x) f y none gone is e = absurd (let n : None ≡ Some x = sym gone in cc)
    flight_own c (Some l) x f y none gone is e = absurd (let n : None ≡ Some l = sym none in cc)

    abbrev left_at : (branch : List ℕ) → Call → Option AbandonedInvite
    left_at branch c = abandoned_invite_at (position (is_of_branch branch) c.abandoned) c.abandoned

    abbrev had_at : (branch : List ℕ) → Call → Option AnsweredInvite
    had_at branch c = answered_invite_at (position (is_answered_invite branch) c.answered_invites) c.answered_invites

    abbrev flying_at : (branch : List ℕ) → Call → Option RelayedTransaction
    flying_at branch c = relayed_at (position (is_in_flight branch) c.relayed) c.relayed

    abbrev role_of_other : (branch : List ℕ) → Call → Role
    role_of_other branch c = other_role c m (left_at branch c) (had_at branch c) (flying_at branch c)

    others : (key : TKey) (branch : List ℕ) (c : Call)
        → ((at : ℕ) (l : AbandonedInvite) → position (is_of_branch branch) c.abandoned ≡ Some at → slice_get c.abandoned at ≡ Some l → keys key ≡ trusts config l.invite.dialogue.peer)
        → ((at : ℕ) (x : AnsweredInvite) → position (is_answered_invite branch) c.answered_invites ≡ Some at → slice_get c.answered_invites at ≡ Some x → keys key ≡ trusts config x.invite.dialogue.peer)
        → MayReceiveOther T key branch (role_of_other branch c) m c
    others key branch c abandoned_one taken =
        let l : Option AbandonedInvite = left_at branch c in
        let x : Option AnsweredInvite = had_at branch c in
        let f : Option RelayedTransaction = flying_at branch c in
        record {
          abandoned = λ at y p g. is_answer key (other_role c m l x f) y.invite.dialogue.peer (abandoned_own c l x f y (ap (λ (o : Option ℕ). abandoned_invite_at o c.abandoned) p ∙ g)) (abandoned_one at y p g);
          answered = λ at y p g. is_answer key (other_role c m l x f) y.invite.dialogue.peer (taken_own c l x f y (ap (λ (o : Option ℕ). answered_invite_at o c.answered_invites) p ∙ g)) (taken at y p g);
          in_flight = λ none gone at y p g. flight_own c l x f y (ap (λ (o : Option ℕ). abandoned_invite_at o c.abandoned) none) (ap (λ (o : Option ℕ). answered_invite_at o c.answered_invites) gone)
              (ap (λ (o : Option ℕ). relayed_at o c.relayed) p ∙ g);
        }

    -- the client transaction is of such a peer, where it is known whether the server trusts its peer
    pub record KeyIsTied (key : TKey) (branch : List ℕ) (c : Call) : Type 0 where
      pub awaited : (i : SentInvite) → is_current branch c ≡ true → current_invite c.phase ≡ Some i → keys key ≡ trusts config i.dialogue.peer
      pub abandoned : (at : ℕ) (l : AbandonedInvite) → position (is_of_branch branch) c.abandoned ≡ Some at → slice_get c.abandoned at ≡ Some l → keys key ≡ trusts config l.invite.dialogue.peer
      pub answered : (at : ℕ) (x : AnsweredInvite) → position (is_answered_invite branch) c.answered_invites ≡ Some at → slice_get c.answered_invites at ≡ Some x → keys key ≡ trusts config x.invite.dialogue.peer

    one_fits : (key : TKey) (branch : List ℕ) (c : Call) → KeyIsTied key branch c → RespondsToOne (Some branch) T key (response_role_of branch m c) m c
    one_fits key branch c tie = (
      λ is. subst (λ (b : Bool). RespondsIn c.phase T key
          (if b then awaited_role c.phase c.opening m else role_of_other branch c) m c) (sym is)
          (awaited c.phase key c (λ i e. tie.awaited i is e)),
      λ is. subst (λ (b : Bool). MayReceiveOther T key branch
          (if b then awaited_role c.phase c.opening m else role_of_other branch c) m c) (sym is)
          (others key branch c tie.abandoned tie.answered),
    )

    -- by the INVITE to which it belongs
    pub answer_by : (o : Option (List ℕ)) (key : TKey) (role : Role) (e : Entry) → ((branch : List ℕ) → o ≡ Some branch → role ≡ response_role_of branch m e.call) →
        ((branch : List ℕ) → o ≡ Some branch → KeyIsTied key branch e.call)
        → RespondsToOne o T key role m e.call
    answer_by None key role e is tie = tt
    answer_by (Some branch) key role e is tie = subst (λ (r : Role). RespondsToOne (Some branch) T key r m e.call) (sym (is branch refl)) (one_fits key branch e.call (tie branch refl))
