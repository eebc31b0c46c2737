-- A request in flight gets its final response by public parts alone: by the one that is relayed back, by a timeout, and where an attempt ends without a 2xx or the call ends.
use Rattle.std.proofs.Common.{◌≡◌, ℕ, zero, suc, Bool, not, List, [], ◌∷◌, refl, ap, sym, ◌∙◌, map, subst, Option, Some, None}
use Rattle.std.specs.List.{filter}
use Rattle.std.specs.Option.{option_map}
use Rattle.std.specs.Prelude.{nat_lt, slice_get}
use Rattle.mmtel_compose.specs.ReceivedMessages.{MessageView, status_of}
use Rattle.mmtel_output.specs.Sending.{with_relayed_response}
use Rattle.mmtel_output.specs.declared.outputs.StepOutput.{StepOutput}
use Rattle.mmtel_rules.specs.declared.values.Identities2.{Identities2}
use Rattle.mmtel_transaction.specs.declared.words.TKey.{TKey}
use Rattle.mmtel_types.specs.Sides.{other_side}
use Rattle.mmtel_types.specs.declared.numbers.Peer.{Peer}
use Rattle.mmtel_types.specs.declared.sides.Side.{Side}
use Rattle.mmtel_call_services.specs.CopiedHeaders.{copied_lines, masks_all}
use Rattle.mmtel_call_services.specs.CallConfig.{CallConfigView, trusts}
use Rattle.mmtel_call_services.specs.declared.openings.Opening.{Opening}
use Rattle.mmtel_call_services.specs.declared.openings.Service.{Service}
use Rattle.mmtel_call.specs.Awaiting.{with_expiry_timer}
use Rattle.mmtel_call.specs.Closing.{step_result}
use Rattle.mmtel_call.specs.RelayedTransactions.{dismissal_of, is_updating, on_accepted_in_flight, on_final_relayed, on_response_in_flight, on_response_relayed}
use Rattle.mmtel_call.specs.RelayedTransactions.{output_after_dismissal, with_all_dismissals, with_dismissal, with_dismissals, with_response_back}
use Rattle.mmtel_call.specs.RelayedTransactions.{call_after_update, on_timeout_in_flight, on_timeout_relayed, service_in, with_settled_in, without_transaction}
use Rattle.mmtel_call.specs.OtherRequests.{is_success}
use Rattle.mmtel_call.specs.Sending.{with_status_to}
use Rattle.mmtel_call.specs.declared.calls.Call.{Call}
use Rattle.mmtel_call.specs.declared.calls.RelayedTransaction.{RelayedTransaction}
use Rattle.mmtel_call.specs.declared.calls.RelayedKind.{RelayedKind}
use Rattle.mmtel_call.specs.declared.calls.RelayedKind.TheVariants.{Prack, Update}
use Rattle.mmtel_call.specs.declared.calls.Phase.{Phase}
use Rattle.mmtel_call.specs.declared.calls.Phase.TheVariants.{Detached, Established, Offered, Over}
use Rattle.mmtel_call_theorems.specs.Noninterference.PublicCall.{all_fields, public_call, public_diverted, public_opening, public_phase, public_relayed, public_request}
use Rattle.mmtel_call_theorems.specs.Noninterference.Premises.{Fits, IsFromOwnPeer, in_flight_is_from_own_peers}
use Rattle.mmtel_call_theorems.specs.Noninterference.Roles.{Role, without_private}
use Rattle.mmtel_call_theorems.specs.Noninterference.Transitions.{Dismissals}
use Rattle.mmtel_call_theorems.specs.Noninterference.Observations.{EquivalentOutputs, EquivalentSteps, Trust, trust_of}
use Rattle.mmtel_call_theorems.proofs.Each.{each_filter}
use Rattle.mmtel_call_theorems.proofs.Noninterference.Across.{expiry-equivalent}
use Rattle.mmtel_call_theorems.proofs.Noninterference.RelayedRequests.{settled-equivalent}
use Rattle.mmtel_call_theorems.proofs.Noninterference.Places.{got, kept, rest_of}
use Rattle.mmtel_call_theorems.proofs.Noninterference.Transitions.{on-equivalent, on-equivalent-by, own-reply, step-if}
use Rattle.mmtel_call_theorems.proofs.Noninterference.Sent.{Heads, relayed-equivalent}
use Rattle.mmtel_call_theorems.proofs.Noninterference.CopiedLines.{copied-foreign, copied-number, copied-same}

-- ---- the premises on each

module _ (t : Trust) where
  pub asked_at : (fs : List RelayedTransaction) (place : ℕ) (flight : RelayedTransaction) → in_flight_is_from_own_peers t fs → slice_get fs place ≡ Some flight →
      IsFromOwnPeer t flight.exchange.key flight.exchange.request
  asked_at [] place flight asked e = absurd cc
  asked_at (f ∷ fs) zero flight asked e = subst (λ (x : RelayedTransaction). IsFromOwnPeer t x.exchange.key x.exchange.request) (same f flight e) asked.0
    where
      same : (a b : RelayedTransaction) → Some a ≡ Some b → a ≡ b
      same a b e = cc
  asked_at (f ∷ fs) (suc place) flight asked e = asked_at fs place flight asked.1 e

module _ (heads : Heads) (config : CallConfigView) (keys : TKey → Bool) where
  abbrev T : Trust
  T = trust_of config keys

  abbrev known : Peer → Bool
  known = λ peer. trusts config peer

  -- ---- it has its final response

  service_same : (p : Phase) → service_in (public_phase known p) ≡ service_in p
  service_same (Offered x) = refl
  service_same (Established x stage) = refl
  service_same (Detached detached) = refl
  service_same (Over cause) = refl

  lands-equivalent : (who : Identities2) (flight : RelayedTransaction) (role : Role) (m : MessageView) (c : Call) (one other : StepOutput) → IsFromOwnPeer T flight.exchange.key flight.exchange.request →
      Fits c.opening (service_in c.phase) (other_side flight.side) m role → EquivalentOutputs T one other →
      EquivalentOutputs T (with_response_back config (public_relayed known flight) (without_private role m) (public_call known who c) one) (with_response_back config flight m c other)
  lands-equivalent who flight role m c one other asked fits a =
      let q : MessageView = flight.exchange.request in
      let key : TKey = flight.exchange.key in
      let service : Option Service = service_in c.phase in
      let side : Side = other_side flight.side in
      let o : Opening = public_opening who c.opening in
      let v = public_diverted (masks_all c.opening) c.diversions in
      let n : MessageView = without_private role m in
      subst (λ (s : Option Service). EquivalentOutputs T (with_relayed_response config.sip key (public_request q) c.opening.tag (copied_lines config o v s side q.peer n) n one)
      (with_response_back config flight m c other)) (sym (service_same c.phase))
      (relayed-equivalent heads T config.sip key q.parsed.trusted all_fields q c.opening.tag (copied_lines config o v service side q.peer n) (copied_lines config c.opening c.diversions service side q.peer m) m one other
      asked.request (asked.trusted ∙ sym asked.known)
      (copied-foreign config o v service side q.peer n) (copied-foreign config c.opening c.diversions service side q.peer m)
      (copied-number config o c.opening v c.diversions service side q.peer n m)
      (λ strange. copied-same config who c.opening c.diversions service side q.peer role m fits (sym asked.known ∙ strange)) a)

  agrees-equivalent : (kind : RelayedKind) (who : Identities2) (at : ℕ) (side : Side) (q : MessageView) (role : Role) (m : MessageView) (c : Call) (one other : StepOutput) → EquivalentOutputs T one other →
      EquivalentSteps T (on_accepted_in_flight kind config at side (public_request q) (without_private role m) (public_call known who c) one) (on_accepted_in_flight kind config at side q m c other)
  agrees-equivalent Prack who at side q role m c one other a = on-equivalent heads config keys who c one other a
  agrees-equivalent Update who at side q role m c one other a =
      on-equivalent heads config keys who (call_after_update side q c) (with_expiry_timer config at (without_private role m) (public_call known who c) one) (with_expiry_timer config at m c other)
      (expiry-equivalent heads config keys who at m c one other a)

  finals-equivalent : (who : Identities2) (at : ℕ) (flight : RelayedTransaction) (role : Role) (m : MessageView) (code : ℕ) (c : Call) (one other : StepOutput) →
      IsFromOwnPeer T flight.exchange.key flight.exchange.request →
      Fits c.opening (service_in c.phase) (other_side flight.side) m role → EquivalentOutputs T one other →
      EquivalentSteps T (on_final_relayed config at (public_relayed known flight) (without_private role m) code (public_call known who c) one) (on_final_relayed config at flight m code c other)
  finals-equivalent who at flight role m code c one other asked fits a =
      let d : Call = public_call known who c in
      let n : MessageView = without_private role m in
      let f : RelayedTransaction = public_relayed known flight in
      let back : StepOutput = with_response_back config f n d one in
      let whole : StepOutput = with_response_back config flight m c other in
      let b : EquivalentOutputs T back whole = lands-equivalent who flight role m c one other asked fits a in
      step-if T (is_success code) (on_accepted_in_flight flight.kind config at flight.side f.exchange.request n d back) (step_result d back)
      (on_accepted_in_flight flight.kind config at flight.side flight.exchange.request m c whole) (step_result c whole)
      (agrees-equivalent flight.kind who at flight.side flight.exchange.request role m c back whole b)
      (on-equivalent heads config keys who c back whole b)

  without_same : (who : Identities2) (place : ℕ) (c : Call) → without_transaction place (public_call known who c) ≡ public_call known who (without_transaction place c)
  without_same who place c = ap (λ (fs : List RelayedTransaction). record (public_call known who c) { relayed = fs }) (rest_of (public_relayed known) place c.relayed)

  in-flight-equivalent : (o : Option RelayedTransaction) (who : Identities2) (at : ℕ) (role : Role) (m : MessageView) (code : ℕ) (place : ℕ) (c : Call) (one other : StepOutput) →
      ((flight : RelayedTransaction) → o ≡ Some flight → IsFromOwnPeer T flight.exchange.key flight.exchange.request) →
      ((flight : RelayedTransaction) → o ≡ Some flight → Fits c.opening (service_in c.phase) (other_side flight.side) m role) → EquivalentOutputs T one other →
      EquivalentSteps T (on_response_relayed config at (without_private role m) code place (option_map (public_relayed known) o) (public_call known who c) one) (on_response_relayed config at m code place o c other)
  in-flight-equivalent None who at role m code place c one other asked fits a = on-equivalent heads config keys who c one other a
  in-flight-equivalent (Some flight) who at role m code place c one other asked fits a =
      let d : Call = public_call known who c in
      let n : MessageView = without_private role m in
      let f : RelayedTransaction = public_relayed known flight in
      step-if T (nat_lt code 200) (step_result d one) (on_final_relayed config at f n code (without_transaction place d) one) (step_result c other)
      (on_final_relayed config at flight m code (without_transaction place c) other)
      (on-equivalent heads config keys who c one other a)
      (subst (λ (z : Call). EquivalentSteps T (on_final_relayed config at f n code z one) (on_final_relayed config at flight m code (without_transaction place c) other)) (sym (without_same who place c))
      (finals-equivalent who at flight role m code (without_transaction place c) one other (asked flight refl) (fits flight refl) a))

  pub landed-equivalent : (o : Option ℕ) (who : Identities2) (at : ℕ) (role : Role) (m : MessageView) (c : Call) (one other : StepOutput) → in_flight_is_from_own_peers T c.relayed →
      ((place : ℕ) (flight : RelayedTransaction) → o ≡ Some place → slice_get c.relayed place ≡ Some flight → Fits c.opening (service_in c.phase) (other_side flight.side) m role) → EquivalentOutputs T one other →
      EquivalentSteps T (on_response_in_flight config at (without_private role m) o (public_call known who c) one) (on_response_in_flight config at m o c other)
  landed-equivalent None who at role m c one other asked fits a = on-equivalent heads config keys who c one other a
  landed-equivalent (Some place) who at role m c one other asked fits a =
      subst (λ (o : Option RelayedTransaction). EquivalentSteps T (on_response_relayed config at (without_private role m) (status_of m.parsed.start) place o (public_call known who c) one)
      (on_response_relayed config at m (status_of m.parsed.start) place (slice_get c.relayed place) c other))
      (sym (got (public_relayed known) c.relayed place))
      (in-flight-equivalent (slice_get c.relayed place) who at role m (status_of m.parsed.start) place c one other (λ flight e. asked_at T c.relayed place flight asked e) (λ flight e. fits place flight refl e) a)

  -- ---- it has none

  quiet-equivalent : (o : Option RelayedTransaction) (who : Identities2) (place : ℕ) (c : Call) (one other : StepOutput) →
      ((flight : RelayedTransaction) → o ≡ Some flight → IsFromOwnPeer T flight.exchange.key flight.exchange.request) → EquivalentOutputs T one other →
      EquivalentSteps T (on_timeout_relayed config place (option_map (public_relayed known) o) (public_call known who c) one) (on_timeout_relayed config place o c other)
  quiet-equivalent None who place c one other asked a = on-equivalent heads config keys who c one other a
  quiet-equivalent (Some flight) who place c one other asked a =
      on-equivalent-by heads config keys who (without_transaction place (public_call known who c)) (without_transaction place c)
      (with_status_to config (public_call known who c) flight.exchange.key (public_request flight.exchange.request) 408 one)
      (with_status_to config c flight.exchange.key flight.exchange.request 408 other) (without_same who place c)
      (own-reply heads config keys c flight.exchange.key all_fields flight.exchange.request 408 one other (asked flight refl) a)

  pub timed-out-equivalent : (o : Option ℕ) (who : Identities2) (c : Call) (one other : StepOutput) → in_flight_is_from_own_peers T c.relayed → EquivalentOutputs T one other →
      EquivalentSteps T (on_timeout_in_flight config o (public_call known who c) one) (on_timeout_in_flight config o c other)
  timed-out-equivalent None who c one other asked a = on-equivalent heads config keys who c one other a
  timed-out-equivalent (Some place) who c one other asked a =
      subst (λ (o : Option RelayedTransaction). EquivalentSteps T (on_timeout_relayed config place o (public_call known who c) one) (on_timeout_relayed config place (slice_get c.relayed place) c other))
      (sym (got (public_relayed known) c.relayed place))
      (quiet-equivalent (slice_get c.relayed place) who place c one other (λ flight e. asked_at T c.relayed place flight asked e) a)

  -- ---- its attempt ends without a 2xx, or the call ends

  each-equivalent : (fs : List RelayedTransaction) (who : Identities2) (c : Call) (one other : StepOutput) → in_flight_is_from_own_peers T fs → EquivalentOutputs T one other →
      EquivalentOutputs T (with_dismissals config (public_call known who c) (map (public_relayed known) fs) one) (with_dismissals config c fs other)
  each-equivalent [] who c one other asked a = a
  each-equivalent (f ∷ fs) who c one other asked a =
      each-equivalent fs who c (with_dismissal config (public_call known who c) (public_relayed known f) one) (with_dismissal config c f other) asked.1
      (own-reply heads config keys c f.exchange.key all_fields f.exchange.request (dismissal_of f.kind) one other asked.0 a)

  -- those of one kind
  some-equivalent : (p : RelayedTransaction → Bool) → ((flight : RelayedTransaction) → p (public_relayed known flight) ≡ p flight) → (who : Identities2) (c : Call) (one other : StepOutput) →
      in_flight_is_from_own_peers T c.relayed → EquivalentOutputs T one other →
      EquivalentOutputs T (with_dismissals config (public_call known who c) (filter p (public_call known who c).relayed) one) (with_dismissals config c (filter p c.relayed) other)
  some-equivalent p same who c one other asked a =
      subst (λ (fs : List RelayedTransaction). EquivalentOutputs T (with_dismissals config (public_call known who c) fs one) (with_dismissals config c (filter p c.relayed) other))
      (sym (kept (public_relayed known) p same c.relayed))
      (each-equivalent (filter p c.relayed) who c one other (each_filter (λ (flight : RelayedTransaction). IsFromOwnPeer T flight.exchange.key flight.exchange.request) p c.relayed asked) a)

  all-equivalent : (who : Identities2) (c : Call) (one other : StepOutput) → in_flight_is_from_own_peers T c.relayed → EquivalentOutputs T one other →
      EquivalentOutputs T (with_all_dismissals config (public_call known who c) one) (with_all_dismissals config c other)
  all-equivalent who c one other asked a =
      some-equivalent is_updating (λ flight. refl) who c _ _ asked (some-equivalent (λ (flight : RelayedTransaction). not (is_updating flight)) (λ flight. refl) who c one other asked a)

  settles-equivalent : (p : Phase) (who : Identities2) (c : Call) (one other : StepOutput) → EquivalentOutputs T one other →
      EquivalentOutputs T (with_settled_in (public_phase known p) config (public_call known who c) one) (with_settled_in p config c other)
  settles-equivalent (Offered x) who c one other a = settled-equivalent heads config keys who None c one other a
  settles-equivalent (Established x stage) who c one other a = a
  settles-equivalent (Detached detached) who c one other a = a
  settles-equivalent (Over cause) who c one other a = a

  pub dismisses-equivalent : (who : Identities2) (c : Call) (one other : StepOutput) → in_flight_is_from_own_peers T c.relayed → EquivalentOutputs T one other →
      EquivalentOutputs T (output_after_dismissal config (public_call known who c) one) (output_after_dismissal config c other)
  dismisses-equivalent who c one other asked a = settles-equivalent c.phase who c (with_all_dismissals config (public_call known who c) one) (with_all_dismissals config c other) (all-equivalent who c one other asked a)

pub dismissals : Heads → Dismissals
dismissals heads config keys who c one other asked a = dismisses-equivalent heads config keys who c one other asked a
