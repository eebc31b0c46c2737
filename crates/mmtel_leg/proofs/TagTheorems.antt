-- A tag that is put after a From or To value is the one that is read of it (RFC 3261 §19.3), and the identifiers of a dialog stay.
use Rattle.std.proofs.Common.{◌∙◌, ◌≡◌, ◌⊎◌, inl, inr, Bool, true, false, ℕ, List, [], ◌∷◌, ◌++◌, Option, Some, None, Result, Ok, Err, IfSome, ap, arith, codes, cond, length, refl, subst}
use Rattle.std.proofs.lemmas.List.{length-append}
use Rattle.std.specs.Option.{unwrap_or}
use Rattle.mmtel_base.specs.Chain.{◌>>=◌}
use Rattle.mmtel_lex.specs.Grammar.{AreParams, IsNameAddr, IsValue, params_text}
use Rattle.mmtel_lex.specs.Params.{param_value}
use Rattle.mmtel_lex.specs.Reading.{name_addr_of}
use Rattle.mmtel_lex.specs.declared.values.NameAddr.{NameAddr}
use Rattle.mmtel_lex.specs.declared.values.Param.{Param}
use Rattle.mmtel_lex.proofs.NameAddrTheorems.{name_addr_takes}
use Rattle.mmtel_charging.specs.Meters.{MeterView}
use Rattle.mmtel_types.specs.declared.numbers.Peer.{Peer}
use Rattle.mmtel_types.specs.declared.sides.Side.{Side}
use Rattle.mmtel_types.specs.declared.sides.Side.TheVariants.{Callee}
use Rattle.mmtel_message.specs.Message.{Line, Message, first_value}
use Rattle.mmtel_message.specs.Responses.{IsUntagged, is_tag, tagged_value}
use Rattle.mmtel_message.specs.declared.messages.Start.{Start}
use Rattle.mmtel_message.proofs.TagTheorems.{found_behind, none_found, tagged_reads}
use Rattle.mmtel_trust.specs.ParsedMessage.{tag_of}
use Rattle.mmtel_leg.specs.Operations.{LegOperation, after_operation, after_operations, after_result}
use Rattle.mmtel_leg.specs.Operations.LegOperation.{LearnsRemote, SendsRequest, ReceivesRequest, SwapsMeter}
use Rattle.mmtel_leg.specs.Dialogues.{after_receiving, after_request, callee_dialogue, caller_dialogue, receive_result, with_remote}
use Rattle.mmtel_leg.specs.Legs.{Leg}
use Rattle.mmtel_leg.specs.Remotes.{field, tag_in}
use Rattle.mmtel_leg.specs.Requests.{RequestPartsView, request_numbered, to_text}
use Rattle.mmtel_leg.specs.declared.dialogues.Dialogue.{Dialogue}
use Rattle.mmtel_leg.specs.declared.dialogues.DialogueFault.{DialogueFault}
use Rattle.mmtel_leg.specs.declared.remotes.Remote.{Remote}
use Rattle.mmtel_leg.proofs.LineTheorems as lines

-- ---- a tag that is put after a value

tag_again : (s tag : List ℕ) (n : NameAddr) → name_addr_of s ≡ Some n → IsUntagged n → IsValue tag → tag_of (Some (tagged_value s tag)) ≡ Some tag
tag_again s tag n e untagged value =
    ap (λ (o : Option NameAddr). o >>= λ m. param_value (codes "tag") m.params) (tagged_reads s n tag e value) ∙ found_behind n.params tag untagged

-- ---- tags that are read

value_step : (b : Bool) (value rest o : Option (List ℕ)) → IfSome value IsValue → IfSome rest IsValue → cond b value rest ≡ o → IfSome o IsValue
value_step true value rest o here behind e = subst (λ (x : Option (List ℕ)). IfSome x IsValue) e here
value_step false value rest o here behind e = subst (λ (x : Option (List ℕ)). IfSome x IsValue) e behind

value_in : (ps : List Param) → AreParams ps → IfSome (param_value (codes "tag") ps) IsValue
value_in [] are = tt
value_in (p ∷ ps) are = value_step (is_tag p) p.value (param_value (codes "tag") ps) (param_value (codes "tag") (p ∷ ps)) are.0.value (value_in ps are.1) refl

params_in : (s : List ℕ) (n : NameAddr) → IsNameAddr s n → AreParams n.params
params_in s n (inl is) = is.params_in
params_in s n (inr is) = is.params_in

value_of : (o : Option (List ℕ)) → IfSome o IsValue → (unwrap_or o [] ≡ []) ⊎ IsValue (unwrap_or o [])
value_of None is = inl refl
value_of (Some tag) is = inr is

named_by : (s : List ℕ) (o : Option NameAddr) → name_addr_of s ≡ o → IfSome (o >>= λ n. param_value (codes "tag") n.params) IsValue
named_by s None e = tt
named_by s (Some n) e = value_in n.params (params_in s n (name_addr_takes s n e))

tag_is : (o : Option (List ℕ)) → IfSome (tag_of o) IsValue
tag_is None = tt
tag_is (Some s) = named_by s (name_addr_of s) refl

pub values : (name : List ℕ) (m : Message Start) → (tag_in name m.lines ≡ []) ⊎ IsValue (tag_in name m.lines)
unfolding tag_in
values name m = value_of (tag_of (first_value name m.lines)) (tag_is (first_value name m.lines))

-- ---- what stays of a dialog

received_keeps : {A : Type 0} (f : Dialogue → A) → ((d : Dialogue) (m : Message Start) → f (after_receiving d m) ≡ f d) →
    (answer : Result (Unit {0}) DialogueFault) (d : Dialogue) (m : Message Start) → f (after_result answer d m) ≡ f d
received_keeps f hearing (Ok done) d m = hearing d m
received_keeps f hearing (Err fault) d m = refl

stays : {A : Type 0} (f : Dialogue → A) → ((d : Dialogue) (r : Remote) → f (with_remote d r) ≡ f d) → ((d : Dialogue) (method : List ℕ) → f (after_request d method) ≡ f d) →
    ((d : Dialogue) (m : Message Start) → f (after_receiving d m) ≡ f d) → (leg : Leg) (ops : List LegOperation) → f (after_operations leg ops).dialogue ≡ f leg.dialogue
stays f meets asks hearing leg [] = refl
stays f meets asks hearing leg (LearnsRemote remote ∷ ops) = stays f meets asks hearing (after_operation leg (LearnsRemote remote)) ops ∙ meets leg.dialogue remote
stays f meets asks hearing leg (SendsRequest method given ∷ ops) = stays f meets asks hearing (after_operation leg (SendsRequest method given)) ops ∙ asks leg.dialogue method
stays f meets asks hearing leg (ReceivesRequest request busy ∷ ops) =
    stays f meets asks hearing (after_operation leg (ReceivesRequest request busy)) ops ∙ received_keeps f hearing (receive_result leg.dialogue request busy) leg.dialogue request
stays f meets asks hearing leg (SwapsMeter meter ∷ ops) = stays f meets asks hearing (after_operation leg (SwapsMeter meter)) ops

local_stays : (leg : Leg) (ops : List LegOperation) → (after_operations leg ops).dialogue.local ≡ leg.dialogue.local
local_stays leg ops = stays (λ (d : Dialogue). d.local) (λ d r. refl) (λ d method. refl) (λ d m. refl) leg ops

remote_stays : (leg : Leg) (ops : List LegOperation) → (after_operations leg ops).dialogue.remote ≡ leg.dialogue.remote
remote_stays leg ops = stays (λ (d : Dialogue). d.remote) (λ d r. refl) (λ d method. refl) (λ d m. refl) leg ops

pub side_stays : (leg : Leg) (ops : List LegOperation) → (after_operations leg ops).dialogue.side ≡ leg.dialogue.side
side_stays leg ops = stays (λ (d : Dialogue). d.side) (λ d r. refl) (λ d method. refl) (λ d m. refl) leg ops

-- ---- the tags in what is built

-- an empty value is no name-addr, so a field that is absent has no tag
no_name : (n : NameAddr) → IsNameAddr [] n → ⊥
no_name n (inl is) =
    absurd (omega (arith, ap (λ (l : List ℕ). length l) is.whole, length-append n.display (is.gap ++ (60 ∷ (n.uri ++ 62 ∷ params_text n.params))), length-append is.gap (60 ∷ (n.uri ++ 62 ∷ params_text n.params))))
no_name n (inr is) = absurd (omega (arith, is.uri_in.filled, ap (λ (l : List ℕ). length l) is.whole, length-append n.uri (params_text n.params)))

unnamed : (o : Option NameAddr) → name_addr_of [] ≡ o → unwrap_or (o >>= λ n. param_value (codes "tag") n.params) [] ≡ []
unnamed None e = refl
unnamed (Some n) e = absurd (no_name n (name_addr_takes [] n e))

kept_tag : (o : Option (List ℕ)) → unwrap_or (tag_of (Some (unwrap_or o []))) [] ≡ unwrap_or (tag_of o) []
kept_tag (Some value) = refl
kept_tag None = unnamed (name_addr_of []) refl

-- what is read of the line of this name, where that is known
reads : (name : List ℕ) (ls : List Line) (value : List ℕ) → first_value name ls ≡ Some value → tag_in name ls ≡ unwrap_or (tag_of (Some value)) []
unfolding tag_in
reads name ls value e = ap (λ (o : Option (List ℕ)). unwrap_or (tag_of o) []) e

kept_field : (name : List ℕ) (ls : List Line) → unwrap_or (tag_of (Some (field name ls))) [] ≡ tag_in name ls
unfolding tag_in field
kept_field name ls = kept_tag (first_value name ls)

from_reads : (d : Dialogue) (number : ℕ) (method : List ℕ) (given : RequestPartsView) (value : List ℕ) → d.local ≡ value →
    tag_in (codes "From") (request_numbered d number method given).lines ≡ unwrap_or (tag_of (Some value)) []
from_reads d number method given value e = reads (codes "From") (request_numbered d number method given).lines value (lines.from d number method given ∙ ap (λ (l : List ℕ). Some l) e)

to_reads : (d : Dialogue) (number : ℕ) (method : List ℕ) (given : RequestPartsView) (value : List ℕ) → to_text d.side d.remote d.remote_tag ≡ value →
    tag_in (codes "To") (request_numbered d number method given).lines ≡ unwrap_or (tag_of (Some value)) []
to_reads d number method given value e = reads (codes "To") (request_numbered d number method given).lines value (lines.to d number method given ∙ ap (λ (l : List ℕ). Some l) e)

pub caller_from : (peer : Peer) (invite : Message Start) (tag : List ℕ) (meter : Option MeterView) (ops : List LegOperation) (number : ℕ) (method : List ℕ) (given : RequestPartsView) (n : NameAddr) →
    name_addr_of (field (codes "To") invite.lines) ≡ Some n → IsUntagged n → IsValue tag →
    tag_in (codes "From") (request_numbered (after_operations (record { dialogue = caller_dialogue peer invite.lines tag; meter = meter }) ops).dialogue number method given).lines ≡ tag
caller_from peer invite tag meter ops number method given n e untagged value =
    let leg : Leg = record { dialogue = caller_dialogue peer invite.lines tag; meter = meter } in
    from_reads (after_operations leg ops).dialogue number method given (tagged_value (field (codes "To") invite.lines) tag) (local_stays leg ops)
    ∙ ap (λ (o : Option (List ℕ)). unwrap_or o []) (tag_again (field (codes "To") invite.lines) tag n e untagged value)

pub caller_to : (peer : Peer) (invite : Message Start) (tag : List ℕ) (meter : Option MeterView) (ops : List LegOperation) (number : ℕ) (method : List ℕ) (given : RequestPartsView) →
    tag_in (codes "To") (request_numbered (after_operations (record { dialogue = caller_dialogue peer invite.lines tag; meter = meter }) ops).dialogue number method given).lines
    ≡ tag_in (codes "From") invite.lines
caller_to peer invite tag meter ops number method given =
    let leg : Leg = record { dialogue = caller_dialogue peer invite.lines tag; meter = meter } in
    let d : Dialogue = (after_operations leg ops).dialogue in
    let to : to_text d.side d.remote d.remote_tag ≡ field (codes "From") invite.lines = ap (λ (side : Side). to_text side d.remote d.remote_tag) (side_stays leg ops) ∙ remote_stays leg ops in
    to_reads d number method given (field (codes "From") invite.lines) to ∙ kept_field (codes "From") invite.lines

pub callee_from : (peer : Peer) (invite : Message Start) (meter : Option MeterView) (ops : List LegOperation) (number : ℕ) (method : List ℕ) (given : RequestPartsView) →
    tag_in (codes "From") (request_numbered (after_operations (record { dialogue = callee_dialogue peer invite; meter = meter }) ops).dialogue number method given).lines ≡ tag_in (codes "From") invite.lines
callee_from peer invite meter ops number method given =
    let leg : Leg = record { dialogue = callee_dialogue peer invite; meter = meter } in
    from_reads (after_operations leg ops).dialogue number method given (field (codes "From") invite.lines) (local_stays leg ops) ∙ kept_field (codes "From") invite.lines

-- after a callee's To comes its tag, where it gave one
no_tag : (s : List ℕ) (n : NameAddr) → name_addr_of s ≡ Some n → IsUntagged n → tag_of (Some s) ≡ None
no_tag s n e untagged = ap (λ (o : Option NameAddr). o >>= λ m. param_value (codes "tag") m.params) e ∙ none_found n.params untagged

read_tag : (value tag : List ℕ) (n : NameAddr) → name_addr_of value ≡ Some n → IsUntagged n → (tag ≡ []) ⊎ IsValue tag → unwrap_or (tag_of (Some (to_text Callee value tag))) [] ≡ tag
read_tag value [] n e untagged is = ap (λ (o : Option (List ℕ)). unwrap_or o []) (no_tag value n e untagged)
read_tag value (b ∷ tag) n e untagged (inl none) = absurd cc
read_tag value (b ∷ tag) n e untagged (inr is) = ap (λ (o : Option (List ℕ)). unwrap_or o []) (tag_again value (b ∷ tag) n e untagged is)

pub callee_to : (peer : Peer) (invite : Message Start) (meter : Option MeterView) (ops : List LegOperation) (number : ℕ) (method : List ℕ) (given : RequestPartsView) (n : NameAddr) →
    name_addr_of (field (codes "To") invite.lines) ≡ Some n → IsUntagged n → ((after_operations (record { dialogue = callee_dialogue peer invite; meter = meter }) ops).dialogue.remote_tag ≡ [])
    ⊎ IsValue (after_operations (record { dialogue = callee_dialogue peer invite; meter = meter }) ops).dialogue.remote_tag →
    tag_in (codes "To") (request_numbered (after_operations (record { dialogue = callee_dialogue peer invite; meter = meter }) ops).dialogue number method given).lines
    ≡ (after_operations (record { dialogue = callee_dialogue peer invite; meter = meter }) ops).dialogue.remote_tag
callee_to peer invite meter ops number method given n e untagged is =
    let leg : Leg = record { dialogue = callee_dialogue peer invite; meter = meter } in
    let d : Dialogue = (after_operations leg ops).dialogue in
    let value : List ℕ = field (codes "To") invite.lines in
    let to : to_text d.side d.remote d.remote_tag ≡ to_text Callee value d.remote_tag =
    ap (λ (side : Side). to_text side d.remote d.remote_tag) (side_stays leg ops) ∙ ap (λ (l : List ℕ). to_text Callee l d.remote_tag) (remote_stays leg ops) in
    to_reads d number method given (to_text Callee value d.remote_tag) to ∙ read_tag value d.remote_tag n e untagged is
