-- What is sent has the same observable part, message by message: responses to a message without its private places, requests of a public dialog, and ACKs.
use Rattle.std.proofs.Common.{◌≡◌, ℕ, Bool, true, false, List, [], ◌∷◌, ◌++◌, refl, ap, sym, ◌∙◌, cond, codes, subst}
use Rattle.std.proofs.lemmas.Grind.{flat_map-append}
use Rattle.std.proofs.lemmas.List.{map-append}
use Rattle.mmtel_compose.specs.Responses.{own_response, relayed_response, relayed_reply, own_reply}
use Rattle.mmtel_compose.specs.Requests.{bare_parts, cancel_of, final_ack_of, relayed_parts, own_parts as giving}
use Rattle.mmtel_compose.specs.ReceivedMessages.{MessageView}
use Rattle.mmtel_output.specs.Outputs.{after_draw, token, with_emit}
use Rattle.mmtel_output.specs.Sending.{ack_text, relayed_ack_text, with_ack, with_cancel, with_final_ack, with_own_request}
use Rattle.mmtel_output.specs.Sending.{with_relayed_ack, with_relayed_request, with_relayed_response, with_response, with_status_response}
use Rattle.mmtel_output.specs.declared.outputs.StepOutput.{StepOutput}
use Rattle.mmtel_output.specs.declared.sent_invites.SentInvite.{SentInvite}
use Rattle.mmtel_leg.specs.Remotes.{field}
use Rattle.mmtel_leg.specs.Requests.{RequestPartsView, content_lines, cseq_text, dialog_lines, request_lines, request_numbered, request_of, routing_lines, to_text}
use Rattle.mmtel_leg.specs.declared.dialogues.Dialogue.{Dialogue}
use Rattle.mmtel_masked_messages.proofs.HeadTheorems.{lines_keep}
use Rattle.mmtel_masked_messages.proofs.RequestTheorems.{shown_head}
use Rattle.mmtel_masked_messages.proofs.ResponseTheorems as responses
use Rattle.mmtel_masked_messages.specs.Heads.{message_of, message_of_lines}
use Rattle.mmtel_masked_messages.specs.Requests.{with_lines}
use Rattle.mmtel_masked_messages.specs.Responses.{AreNoOwnFields, with_passed_lines}
use Rattle.mmtel_message.specs.Addresses.{contact_text}
use Rattle.mmtel_message.specs.Faults.{is_request}
use Rattle.mmtel_message.specs.Message.{Line, Message, line}
use Rattle.mmtel_message.specs.Responses.{Reply, response}
use Rattle.mmtel_message.specs.Texts.{message_text}
use Rattle.mmtel_message.specs.declared.messages.Start.{Start}
use Rattle.mmtel_message.specs.declared.messages.Start.TheVariants.{Request}
use Rattle.mmtel_transaction.specs.Equivalence.{blank_if}
use Rattle.mmtel_transaction.specs.Heads.{head_of}
use Rattle.mmtel_transaction.specs.HeadsRead.{HeadsRestOnFields, HeadsRestOnFiveNames}
use Rattle.mmtel_transaction.specs.declared.words.Emit.{Emit}
use Rattle.mmtel_transaction.specs.declared.words.Emit.TheVariants as emit
use Rattle.mmtel_transaction.specs.declared.words.TKey.{TKey}
use Rattle.mmtel_base.specs.Numbers.{next_number}
use Rattle.mmtel_trust.proofs.Masked.{hidden_once, lines_again}
use Rattle.mmtel_trust.specs.ParsedMessage.{ParsedMessage}
use Rattle.mmtel_trust.specs.Kinds.{kind_of}
use Rattle.mmtel_trust.specs.PrivateFields.{NoEntries, PrivateFields, hidden_value, masked_line, masked_lines, masked_message, only_entries, private_fields_in}
use Rattle.mmtel_types.specs.declared.addrs.Addr.{Addr}
use Rattle.mmtel_types.specs.declared.sides.Side.{Side}
use Rattle.mmtel_types.specs.declared.sides.Side.TheVariants.{Caller, Callee}
use Rattle.mmtel_call_theorems.specs.Noninterference.PublicCall.{public_dialog_by, public_remote}
use Rattle.mmtel_call_theorems.specs.Noninterference.Roles.{hidden_by}
use Rattle.mmtel_call_theorems.specs.Noninterference.Observations.{AckSent, EquivalentOutputs, Observation, TextSent, Trust, observation, observations, with_out}
use Rattle.mmtel_call_theorems.proofs.Noninterference.Numbers.{number_same, numbers_in}

-- what heads depend on
pub record Heads : Type 0 where
  pub fields : HeadsRestOnFields
  pub five : HeadsRestOnFiveNames

-- ---- one output and the other

pub same_output : (t : Trust) (x : StepOutput) → EquivalentOutputs t x x
same_output t x = record { tokens = refl; rows = refl; out = refl }

pub as_with : (t : Trust) (x y : StepOutput) → EquivalentOutputs t x y → x ≡ with_out x.out y
as_with t x y a = rw (sym a.tokens, sym a.rows) refl

-- an operation with the same observable output for outputs that differ in what was sent has it for any indistinguishable outputs
pub brings : (t : Trust) (f g : StepOutput → StepOutput) → ((out : List Emit) (y : StepOutput) → observations t out ≡ observations t y.out → EquivalentOutputs t (f (with_out out y)) (g y)) →
    (x y : StepOutput) → EquivalentOutputs t x y → EquivalentOutputs t (f x) (g y)
brings t f g alike x y a = subst (λ (d : StepOutput). EquivalentOutputs t (f d) (g y)) (sym (as_with t x y a)) (alike x.out y a.out)

pub one_more : (t : Trust) (e f : Emit) (xs ys : List Emit) → observation t e ≡ observation t f → observations t xs ≡ observations t ys → observations t (xs ++ e ∷ []) ≡ observations t (ys ++ f ∷ [])
one_more t e f xs ys s a =
    map-append (observation t) xs (e ∷ [])
    ∙ (ap (λ (l : List Observation). l ++ observation t e ∷ []) a
    ∙ (ap (λ (x : Observation). observations t ys ++ x ∷ []) s
    ∙ sym (map-append (observation t) ys (f ∷ []))))

pub emitted-equivalent : (t : Trust) (e f : Emit) (x y : StepOutput) → observation t e ≡ observation t f → EquivalentOutputs t x y → EquivalentOutputs t (with_emit e x) (with_emit f y)
emitted-equivalent t e f x y s a = record { tokens = a.tokens; rows = a.rows; out = one_more t e f x.out y.out s a.out }

pub drew-equivalent : (t : Trust) (x y : StepOutput) → EquivalentOutputs t x y → EquivalentOutputs t (after_draw x) (after_draw y)
drew-equivalent t x y a = brings t after_draw after_draw (λ out d s. record { tokens = refl; rows = refl; out = s }) x y a

pub if-equivalent : (t : Trust) (b : Bool) (one two three four : StepOutput) → EquivalentOutputs t one three → EquivalentOutputs t two four → EquivalentOutputs t (cond b one two) (cond b three four)
if-equivalent t true one two three four p q = p
if-equivalent t false one two three four p q = q

-- ---- texts

pub text_if : (b : Bool) (m n : Message Start) → (b ≡ false → m ≡ n) → blank_if b (message_text m) ≡ blank_if b (message_text n)
text_if true m n e = refl
text_if false m n e = ap message_text (e refl)

pub bytes_if : (b : Bool) (u v : List ℕ) → (b ≡ false → u ≡ v) → blank_if b u ≡ blank_if b v
bytes_if true u v e = refl
bytes_if false u v e = e refl

-- what is not hidden is whole
pub whole : (b : Bool) (p : PrivateFields) (h : ParsedMessage) → b ≡ false → hidden_by b p h ≡ h
whole b p h e = ap (λ (x : Bool). hidden_by x p h) e

-- ---- responses

lines_twice : (b : Bool) (p : PrivateFields) (ls : List Line) → masked_lines p (cond b (masked_lines p ls) ls) ≡ masked_lines p ls
lines_twice true p ls = lines_again p ls
lines_twice false p ls = refl

masked_twice : (b : Bool) (p : PrivateFields) (h : ParsedMessage) → masked_message p (message_of (hidden_by b p h)) ≡ masked_message p (message_of h)
masked_twice b p h = ap (λ (ls : List Line). message_of_lines h.start ls h.body) (lines_twice b (private_fields_in h.start p) h.lines)

module _ (heads : Heads) where
  response_head : (b : Bool) (p : PrivateFields) (h : ParsedMessage) (r : Reply) (ls ks : List Line) → is_request h.start ≡ true → AreNoOwnFields ls → AreNoOwnFields ks →
      head_of (response h.start (hidden_by b p h).lines (with_passed_lines ls r)) ≡ head_of (response h.start h.lines (with_passed_lines ks r))
  response_head b p h r ls ks asked f g = responses.relayed (lines_keep heads.fields) heads.five p p (message_of (hidden_by b p h)) (message_of h) r ls ks asked (masked_twice b p h) f g

  -- a response to a request without its private places, with header fields that are the same towards an untrusted peer
  pub reply-observed : (t : Trust) (key : TKey) (b : Bool) (p : PrivateFields) (h : ParsedMessage) (r : Reply) (ls ks : List Line) → is_request h.start ≡ true → b ≡ t.key key → AreNoOwnFields ls → AreNoOwnFields ks →
      numbers_in ls ≡ numbers_in ks → (t.key key ≡ false → ls ≡ ks) →
      observation t (emit.Reply key (response h.start (hidden_by b p h).lines (with_passed_lines ls r))) ≡ observation t (emit.Reply key (response h.start h.lines (with_passed_lines ks r)))
  reply-observed t key b p h r ls ks asked is f g number same =
      rw (
        response_head b p h r ls ks asked f g,
        number_same h.start (hidden_by b p h).lines h.lines r ls ks number,
        text_if (t.key key) (response h.start (hidden_by b p h).lines (with_passed_lines ls r)) (response h.start h.lines (with_passed_lines ks r))
            (λ e. ap (λ (x : ParsedMessage). response h.start x.lines (with_passed_lines ls r)) (whole b p h (is ∙ e)) ∙ ap (λ (l : List Line). response h.start h.lines (with_passed_lines l r)) (same e)),
      )
      refl

-- ---- requests of a dialog

abbrev naming_to : PrivateFields
naming_to = record (only_entries NoEntries) { to = true }

to_line_masked : (v : List ℕ) → masked_lines naming_to (line (codes "To") v) ≡ line (codes "To") (hidden_value v)
unfolding masked_line kind_of line
to_line_masked v = refl

remote_equivalent : (b : Bool) (side : Side) (v tag : List ℕ) → hidden_value (to_text side (public_remote b side v) tag) ≡ hidden_value (to_text side v tag)
remote_equivalent true Caller v tag = hidden_once v
remote_equivalent false Caller v tag = refl
remote_equivalent b Callee v tag = refl

among : (p : PrivateFields) (xs ls ms ys : List Line) → masked_lines p ls ≡ masked_lines p ms → masked_lines p (xs ++ (ls ++ ys)) ≡ masked_lines p (xs ++ (ms ++ ys))
among p xs ls ms ys e = rw (flat_map-append (masked_line p) xs (ls ++ ys), flat_map-append (masked_line p) xs (ms ++ ys), flat_map-append (masked_line p) ls ys, flat_map-append (masked_line p) ms ys, e) refl

dialog_masked : (b : Bool) (d : Dialogue) (n : ℕ) (method : List ℕ) → masked_lines naming_to (dialog_lines (public_dialog_by b d) n method) ≡ masked_lines naming_to (dialog_lines d n method)
dialog_masked b d n method =
    among naming_to (line (codes "From") d.local) (line (codes "To") (to_text d.side (public_remote b d.side d.remote) d.remote_tag)) (line (codes "To") (to_text d.side d.remote d.remote_tag))
    (line (codes "Call-ID") d.call_id ++ line (codes "CSeq") (cseq_text n method))
    (to_line_masked (to_text d.side (public_remote b d.side d.remote) d.remote_tag)
    ∙ (ap (line (codes "To")) (remote_equivalent b d.side d.remote d.remote_tag)
    ∙ sym (to_line_masked (to_text d.side d.remote d.remote_tag))))

stays : (s : Side) (v : List ℕ) → public_remote false s v ≡ v
stays Caller v = refl
stays Callee v = refl

pub untouched : (b : Bool) (d : Dialogue) → b ≡ false → public_dialog_by b d ≡ d
untouched b d e = ap (λ (x : Bool). public_dialog_by x d) e ∙ ap (λ (v : List ℕ). record d { remote = v }) (stays d.side d.remote)

module _ (heads : Heads) (t : Trust) where
  target_apart : (method u v : List ℕ) (ls : List Line) (body : List ℕ) → head_of (message_of_lines (Request method u) ls body) ≡ head_of (message_of_lines (Request method v) ls body)
  target_apart method u v ls body =
      (heads.five (message_of_lines (Request method u) ls body) (message_of_lines (Request method v) ls body) (record { start = refl; via = refl; from = refl; to = refl; call_id = refl; cseq = refl })).1

  numbered_head : (b : Bool) (d : Dialogue) (n : ℕ) (method : List ℕ) (g : RequestPartsView) → head_of (request_numbered (public_dialog_by b d) n method g) ≡ head_of (request_numbered d n method g)
  numbered_head b d n method g =
      let ls : List Line = request_lines (public_dialog_by b d) n method g in
      let ms : List Line = request_lines d n method g in
      target_apart method (public_dialog_by b d).target d.target ls g.body
      ∙ (sym (lines_keep heads.fields naming_to (Request method d.target) ls g.body g.body)
      ∙ (ap (λ (l : List Line). head_of (message_of_lines (Request method d.target) l g.body))
      (among naming_to (routing_lines d.routes g.sip g.hops g.branch) (dialog_lines (public_dialog_by b d) n method) (dialog_lines d n method) (content_lines method g.sip g.shown g.body) (dialog_masked b d n method))
      ∙ lines_keep heads.fields naming_to (Request method d.target) ms g.body g.body))

  -- with header fields that are the same towards an untrusted peer
  pub ask-observed : (d : Dialogue) (n : ℕ) (method : List ℕ) (g : RequestPartsView) (ls ks : List Line) → AreNoOwnFields ls → AreNoOwnFields ks → (t.peer d.peer ≡ false → ls ≡ ks) →
      observation t (emit.Ask d.peer (request_numbered (public_dialog_by (t.peer d.peer) d) n method (with_lines ls g))) ≡ observation t (emit.Ask d.peer (request_numbered d n method (with_lines ks g)))
  ask-observed d n method g ls ks f h same =
      rw (
        numbered_head (t.peer d.peer) d n method (with_lines ls g),
        shown_head heads.five d n method g ls ks f h,
        text_if (t.peer d.peer) (request_numbered (public_dialog_by (t.peer d.peer) d) n method (with_lines ls g)) (request_numbered d n method (with_lines ks g))
            (λ e. ap (λ (x : Dialogue). request_numbered x n method (with_lines ls g)) (untouched (t.peer d.peer) d e) ∙ ap (λ (l : List Line). request_numbered d n method (with_lines l g)) (same e)),
      )
      refl

  -- one that copies no header field of another message
  pub ask-own-observed : (d : Dialogue) (n : ℕ) (method : List ℕ) (g : RequestPartsView) →
      observation t (emit.Ask d.peer (request_numbered (public_dialog_by (t.peer d.peer) d) n method g)) ≡ observation t (emit.Ask d.peer (request_numbered d n method g))
  ask-own-observed d n method g =
      rw (
        numbered_head (t.peer d.peer) d n method g,
        text_if (t.peer d.peer) (request_numbered (public_dialog_by (t.peer d.peer) d) n method g) (request_numbered d n method g)
            (λ e. ap (λ (x : Dialogue). request_numbered x n method g) (untouched (t.peer d.peer) d e)),
      )
      refl

  -- ---- what is in an output

  pub asked-equivalent : (sip : Addr) (method : List ℕ) (d : Dialogue) (named : List Line) (body : List ℕ) (x y : StepOutput) → EquivalentOutputs t x y →
      EquivalentOutputs t (with_own_request sip method (public_dialog_by (t.peer d.peer) d) named body x) (with_own_request sip method d named body y)
  asked-equivalent sip method d named body x y a =
      brings t (λ (z : StepOutput). with_own_request sip method (public_dialog_by (t.peer d.peer) d) named body z) (λ (z : StepOutput). with_own_request sip method d named body z)
      (λ out z s. record {
        tokens = refl;
        rows = refl;
        out = one_more t (emit.Ask d.peer (request_of (public_dialog_by (t.peer d.peer) d) method (giving sip (token z) named body)))
            (emit.Ask d.peer (request_of d method (giving sip (token z) named body))) out z.out (ask-own-observed d (next_number d.local_cseq) method (giving sip (token z) named body)) s;
      }) x y a

  -- the message that is relayed has the same observable part, with other header fields
  pub asked_for-equivalent : (sip : Addr) (method : List ℕ) (d : Dialogue) (ls ks : List Line) (h : ParsedMessage) (x y : StepOutput) → AreNoOwnFields ls → AreNoOwnFields ks →
      (t.peer d.peer ≡ false → ls ≡ ks) → EquivalentOutputs t x y →
      EquivalentOutputs t (with_relayed_request sip method (public_dialog_by (t.peer d.peer) d) ls h x) (with_relayed_request sip method d ks h y)
  asked_for-equivalent sip method d ls ks h x y f g same a =
      brings t (λ (z : StepOutput). with_relayed_request sip method (public_dialog_by (t.peer d.peer) d) ls h z) (λ (z : StepOutput). with_relayed_request sip method d ks h z)
      (λ out z s. record {
        tokens = refl;
        rows = refl;
        out = one_more t (emit.Ask d.peer (request_of (public_dialog_by (t.peer d.peer) d) method (relayed_parts sip (token z) ls h))) (emit.Ask d.peer (request_of d method (relayed_parts sip (token z) ks h))) out z.out
            (ask-observed d (next_number d.local_cseq) method (relayed_parts sip (token z) ls h) ls ks f g same) s;
      }) x y a

  pub cancel-equivalent : (sip : Addr) (i : SentInvite) (x y : StepOutput) → EquivalentOutputs t x y →
      EquivalentOutputs t (with_emit (emit.Ask i.dialogue.peer (cancel_of (public_dialog_by (t.peer i.dialogue.peer) i.dialogue) i.number sip i.branch)) x) (with_cancel sip i y)
  cancel-equivalent sip i x y a =
      emitted-equivalent t (emit.Ask i.dialogue.peer (cancel_of (public_dialog_by (t.peer i.dialogue.peer) i.dialogue) i.number sip i.branch)) (emit.Ask i.dialogue.peer (cancel_of i.dialogue i.number sip i.branch)) x y
      (ask-own-observed i.dialogue i.number (codes "CANCEL") (bare_parts sip i.branch)) a

  ack_bytes : (sip : Addr) (b : Bool) (d : Dialogue) (branch : List ℕ) → b ≡ false → ack_text sip (public_dialog_by b d) branch ≡ ack_text sip d branch
  ack_bytes sip b d branch e = ap (λ (x : Dialogue). ack_text sip x branch) (untouched b d e)

  pub acked-equivalent : (sip : Addr) (d : Dialogue) (x y : StepOutput) → EquivalentOutputs t x y → EquivalentOutputs t (with_ack sip (public_dialog_by (t.peer d.peer) d) x) (with_ack sip d y)
  acked-equivalent sip d x y a =
      brings t (λ (z : StepOutput). with_ack sip (public_dialog_by (t.peer d.peer) d) z) (λ (z : StepOutput). with_ack sip d z)
      (λ out z s. record {
        tokens = refl;
        rows = refl;
        out = one_more t (emit.Plain d.peer (ack_text sip (public_dialog_by (t.peer d.peer) d) (token z))) (emit.Plain d.peer (ack_text sip d (token z))) out z.out
            (ap (λ (v : List ℕ). TextSent d.peer v) (bytes_if (t.peer d.peer) (ack_text sip (public_dialog_by (t.peer d.peer) d) (token z)) (ack_text sip d (token z)) (ack_bytes sip (t.peer d.peer) d (token z)))) s;
      }) x y a

  -- an ACK that is kept
  pub relayed_bytes : (sip : Addr) (d : Dialogue) (ls ks : List Line) (h : ParsedMessage) (branch : List ℕ) → (t.peer d.peer ≡ false → ls ≡ ks) →
      blank_if (t.peer d.peer) (relayed_ack_text sip (public_dialog_by (t.peer d.peer) d) branch ls h) ≡ blank_if (t.peer d.peer) (relayed_ack_text sip d branch ks h)
  relayed_bytes sip d ls ks h branch same =
      bytes_if (t.peer d.peer) (relayed_ack_text sip (public_dialog_by (t.peer d.peer) d) branch ls h) (relayed_ack_text sip d branch ks h)
      (λ e. ap (λ (x : Dialogue). relayed_ack_text sip x branch ls h) (untouched (t.peer d.peer) d e) ∙ ap (λ (l : List Line). relayed_ack_text sip d branch l h) (same e))

  pub acked_for-equivalent : (sip : Addr) (d : Dialogue) (ls ks : List Line) (h : ParsedMessage) (x y : StepOutput) → (t.peer d.peer ≡ false → ls ≡ ks) → EquivalentOutputs t x y →
      EquivalentOutputs t (with_relayed_ack sip (public_dialog_by (t.peer d.peer) d) ls h x) (with_relayed_ack sip d ks h y)
  acked_for-equivalent sip d ls ks h x y same a =
      brings t (λ (z : StepOutput). with_relayed_ack sip (public_dialog_by (t.peer d.peer) d) ls h z) (λ (z : StepOutput). with_relayed_ack sip d ks h z)
      (λ out z s. record {
        tokens = refl;
        rows = refl;
        out = one_more t (emit.Plain d.peer (relayed_ack_text sip (public_dialog_by (t.peer d.peer) d) (token z) ls h)) (emit.Plain d.peer (relayed_ack_text sip d (token z) ks h)) out z.out
            (ap (λ (v : List ℕ). TextSent d.peer v) (relayed_bytes sip d ls ks h (token z) same)) s;
      }) x y a

  -- ---- responses in an output: to a message of which this is hidden

  abbrev without : Bool → PrivateFields → MessageView → MessageView
  without b p m = record m { parsed = hidden_by b p m.parsed }

  pub answered-equivalent : (sip : Addr) (key : TKey) (b : Bool) (p : PrivateFields) (m : MessageView) (tag : List ℕ) (code : ℕ) (ls ks named : List Line) (body : List ℕ) (x y : StepOutput) →
      is_request m.parsed.start ≡ true →
      b ≡ t.key key → AreNoOwnFields ls → AreNoOwnFields ks → numbers_in ls ≡ numbers_in ks → (t.key key ≡ false → ls ≡ ks) → EquivalentOutputs t x y →
      EquivalentOutputs t (with_response sip key (without b p m) tag code ls named body x) (with_response sip key m tag code ks named body y)
  answered-equivalent sip key b p m tag code ls ks named body x y asked is f g number same a =
      emitted-equivalent t (emit.Reply key (own_response (contact_text sip) (without b p m) tag code ls named body)) (emit.Reply key (own_response (contact_text sip) m tag code ks named body)) x y
      (reply-observed heads t key b p m.parsed (own_reply (contact_text sip) m.source tag code ls named body) ls ks asked is f g number same) a

  pub replied-equivalent : (sip : Addr) (key : TKey) (b : Bool) (p : PrivateFields) (m : MessageView) (tag : List ℕ) (code : ℕ) (x y : StepOutput) → is_request m.parsed.start ≡ true → b ≡ t.key key →
      EquivalentOutputs t x y →
      EquivalentOutputs t (with_status_response sip key (without b p m) tag code x) (with_status_response sip key m tag code y)
  replied-equivalent sip key b p m tag code x y asked is a = answered-equivalent sip key b p m tag code [] [] [] [] x y asked is (λ name own. refl) (λ name own. refl) refl (λ e. refl) a

  -- the response has the same observable part, with other header fields
  pub relayed-equivalent : (sip : Addr) (key : TKey) (b : Bool) (p : PrivateFields) (m : MessageView) (tag : List ℕ) (ls ks : List Line) (r : MessageView) (x y : StepOutput) →
      is_request m.parsed.start ≡ true → b ≡ t.key key → AreNoOwnFields ls →
      AreNoOwnFields ks → numbers_in ls ≡ numbers_in ks → (t.key key ≡ false → ls ≡ ks) → EquivalentOutputs t x y →
      EquivalentOutputs t (with_relayed_response sip key (without b p m) tag ls r x) (with_relayed_response sip key m tag ks r y)
  relayed-equivalent sip key b p m tag ls ks r x y asked is f g number same a =
      emitted-equivalent t (emit.Reply key (relayed_response (contact_text sip) (without b p m) tag ls r)) (emit.Reply key (relayed_response (contact_text sip) m tag ks r)) x y
      (reply-observed heads t key b p m.parsed (relayed_reply (contact_text sip) m.source tag ls r.parsed) ls ks asked is f g number same) a

  -- the ACK of a final response from 300, by its client transaction
  pub final_acked-equivalent : (sip : Addr) (key : TKey) (i : SentInvite) (h k : ParsedMessage) (d : Dialogue) (x y : StepOutput) →
      (t.key key ≡ false → (d ≡ i.dialogue) × (field (codes "To") h.lines ≡ field (codes "To") k.lines)) → EquivalentOutputs t x y →
      EquivalentOutputs t (with_emit (emit.Ack key (final_ack_of d i.number sip i.branch (field (codes "To") h.lines))) x) (with_final_ack sip key i k y)
  final_acked-equivalent sip key i h k d x y same a =
      emitted-equivalent t (emit.Ack key (final_ack_of d i.number sip i.branch (field (codes "To") h.lines))) (emit.Ack key (final_ack_of i.dialogue i.number sip i.branch (field (codes "To") k.lines))) x y
      (ap (λ (v : List ℕ). AckSent key v) (text_if (t.key key) (final_ack_of d i.number sip i.branch (field (codes "To") h.lines)) (final_ack_of i.dialogue i.number sip i.branch (field (codes "To") k.lines))
      (λ e. ap (λ (z : Dialogue). final_ack_of z i.number sip i.branch (field (codes "To") h.lines)) (same e).0 ∙ ap (λ (v : List ℕ). final_ack_of i.dialogue i.number sip i.branch v) (same e).1))) a
