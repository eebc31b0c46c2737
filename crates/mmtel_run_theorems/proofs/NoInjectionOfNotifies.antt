-- What subscribers to mailboxes are sent has no injected header fields: each NOTIFY has the header fields of its dialog, which are those of the SUBSCRIBE, and the server's own (RFC 6665 §4.2.2).
use Rattle.std.proofs.Common.{◌≡◌, ◌==◌, Bool, true, false, ℕ, List, [], ◌∷◌, Option, Some, None, IfSome, codes, refl, subst}
use Rattle.std.specs.Prelude.{decimal, find, if◌then◌else◌}
use Rattle.std.specs.Option.{option_map}
use Rattle.std.proofs.lemmas.Option.{none-some, same_Some}
use Rattle.mmtel_call_theorems.specs.NoInjection.Messages.{HasNoInjection, LinesHaveNoInjection, MessageHasNoInjection, line_has_no_injection}
use Rattle.mmtel_call_theorems.specs.NoInjection.Emits.{Each}
use Rattle.mmtel_call_theorems.specs.NoInjection.CallState.{DialogueHasNoInjection}
use Rattle.mmtel_call_theorems.proofs.NoInjection.Building.{request_no_injection}
use Rattle.mmtel_call_theorems.proofs.NoInjection.Bytes.{all_cons, decimal_no_injection, joined, line_no_injection}
use Rattle.mmtel_call_theorems.proofs.NoInjection.CallState.{allowed_no_injection}
use Rattle.mmtel_call_theorems.proofs.NoInjection.Sending.{each_append}
use Rattle.mmtel_compose.specs.Requests.{own_parts}
use Rattle.mmtel_directory.specs.declared.directories.Directory.{Directory}
use Rattle.mmtel_leg.specs.declared.dialogues.Dialogue.{Dialogue}
use Rattle.mmtel_message.specs.Faults.{is_method}
use Rattle.mmtel_message.specs.Message.{Line, Message}
use Rattle.mmtel_message.specs.declared.messages.Start.{Start}
use Rattle.mmtel_mwi.specs.Boxes.{Table, changed, counts_in, is_final, is_numbered, next_sub, notify_request, notify_request_of, renewed_subscription, subscription}
use Rattle.mmtel_mwi.specs.Boxes.{subscription_after_notify, subscription_after_request, subscription_numbered, subscription_refused_by, table_after_end_if, without, without_pending}
use Rattle.mmtel_mwi.specs.Operations.{TableOp, Responds, Ends, Receives, Puts, Refreshes, Subscribes, Notifies, table_after_op, table_after}
use Rattle.mmtel_mwi.specs.Notifies.{notify_lines, notify_request_in, remaining_seconds, subscription_state}
use Rattle.mmtel_mwi.specs.Summaries.{summary}
use Rattle.mmtel_mwi.specs.declared.counts.Counts.{Counts}
use Rattle.mmtel_mwi.specs.declared.subscriptions.Subscription.{Subscription}
use Rattle.mmtel_base.specs.Numbers.{next_number}
use Rattle.mmtel_trust.specs.ParsedMessage.{ParsedMessage}
use Rattle.mmtel_types.specs.declared.addrs.Addr.{Addr}
use Rattle.mmtel_types.specs.declared.numbers.SubNo.{SubNo}
use Rattle.mmtel_run_definitions.specs.OwnResponses.{StatusResponse, further_methods, plain_response, response_with_allow}
use Rattle.mmtel_run_definitions.specs.Subscriptions.{allow_events, grant_response, other_response, refusal_response}
use Rattle.mmtel_run_definitions.proofs.MailboxSteps.{MakesNone}
use Rattle.mmtel_run_theorems.proofs.Dispositions.{ResponseHasNoInjection}

-- ---- the dialogs of subscriptions

-- whoever subscribes does so in a dialog without injected fields
abbrev pub OpHasNoInjection : TableOp → Type 0
OpHasNoInjection (Puts account counts) = Unit {0}
OpHasNoInjection (Subscribes account leg until) = DialogueHasNoInjection leg.dialogue
OpHasNoInjection (Refreshes sub until) = Unit {0}
OpHasNoInjection (Receives sub request) = Unit {0}
OpHasNoInjection (Notifies sub branch) = Unit {0}
OpHasNoInjection (Ends sub) = Unit {0}
OpHasNoInjection (Responds branch code) = Unit {0}

pub none_no_injection : (op : TableOp) → MakesNone op → OpHasNoInjection op
none_no_injection (Puts account counts) none = tt
none_no_injection (Subscribes account leg until) none = absurd none
none_no_injection (Refreshes sub until) none = tt
none_no_injection (Receives sub request) none = tt
none_no_injection (Notifies sub branch) none = tt
none_no_injection (Ends sub) none = tt
none_no_injection (Responds branch code) none = tt

abbrev SubscriptionHasNoInjection : Subscription → Type 0
SubscriptionHasNoInjection s = DialogueHasNoInjection s.leg.dialogue

abbrev MailboxesHaveNoInjection : Table → Type 0
MailboxesHaveNoInjection table = Each SubscriptionHasNoInjection table.live

module _ {A : Type 0} (P : A → Type 0) (is : A → Bool) where
  changed_one : (b : Bool) (change : A → A) (x : A) (xs : List A) → P x → P (change x) → Each P xs → Each P (changed is change xs) → Each P (if b then change x ∷ xs else x ∷ changed is change xs)
  changed_one true change x xs old new rest later = (new, rest)
  changed_one false change x xs old new rest later = (old, later)

  each_changed : (change : A → A) → ((x : A) → P x → P (change x)) → (xs : List A) → Each P xs → Each P (changed is change xs)
  each_changed change keeps [] e = tt
  each_changed change keeps (x ∷ xs) e = changed_one (is x) change x xs e.0 (keeps x e.0) e.1 (each_changed change keeps xs e.1)

  without_one : (b : Bool) (x : A) (xs : List A) → P x → Each P xs → Each P (without is xs) → Each P (if b then xs else x ∷ without is xs)
  without_one true x xs first rest later = rest
  without_one false x xs first rest later = (first, later)

  each_without : (xs : List A) → Each P xs → Each P (without is xs)
  each_without [] e = tt
  each_without (x ∷ xs) e = without_one (is x) x xs e.0 e.1 (each_without xs e.1)

  found_one : (b : Bool) (x : A) (xs : List A) → P x → IfSome (find is xs) P → IfSome (if b then Some x else find is xs) P
  found_one true x xs first later = first
  found_one false x xs first later = later

  each_found : (xs : List A) → Each P xs → IfSome (find is xs) P
  each_found [] e = tt
  each_found (x ∷ xs) e = found_one (is x) x xs e.0 (each_found xs e.1)

ended_no_injection : (o : Option SubNo) (table : Table) → MailboxesHaveNoInjection table → MailboxesHaveNoInjection (table_after_end_if o table)
ended_no_injection None table e = e
ended_no_injection (Some sub) table e = each_without SubscriptionHasNoInjection (is_numbered sub) table.live e

answered_no_injection : (final : Bool) (branch : List ℕ) (code : ℕ) (table : Table) → MailboxesHaveNoInjection table →
    MailboxesHaveNoInjection (if final then without_pending branch (table_after_end_if (subscription_refused_by branch code table) table) else table)
answered_no_injection true branch code table e = ended_no_injection (subscription_refused_by branch code table) table e
answered_no_injection false branch code table e = e

table_after_op_no_injection : (op : TableOp) (table : Table) → OpHasNoInjection op → MailboxesHaveNoInjection table → MailboxesHaveNoInjection (table_after_op op table)
table_after_op_no_injection (Puts account counts) table c e = e
table_after_op_no_injection (Subscribes account leg until) table c e = each_append SubscriptionHasNoInjection table.live (subscription (next_sub table) account leg until ∷ []) e (c, tt)
table_after_op_no_injection (Refreshes sub until) table c e = each_changed SubscriptionHasNoInjection (is_numbered sub) (renewed_subscription until) (λ s is. is) table.live e
table_after_op_no_injection (Receives sub request) table c e = each_changed SubscriptionHasNoInjection (is_numbered sub) (subscription_after_request request) (λ s is. is) table.live e
table_after_op_no_injection (Notifies sub branch) table c e = each_changed SubscriptionHasNoInjection (is_numbered sub) subscription_after_notify (λ s is. is) table.live e
table_after_op_no_injection (Ends sub) table c e = each_without SubscriptionHasNoInjection (is_numbered sub) table.live e
table_after_op_no_injection (Responds branch code) table c e = answered_no_injection (is_final code) branch code table e

boxes_no_injection : (ops : List TableOp) → Each OpHasNoInjection ops → MailboxesHaveNoInjection (table_after ops)
boxes_no_injection [] c = tt
boxes_no_injection (op ∷ older) c = table_after_op_no_injection op (table_after older) c.0 (boxes_no_injection older c.1)

-- ---- a NOTIFY

state_no_injection : (last : Bool) (seconds : ℕ) → HasNoInjection (subscription_state last seconds)
state_no_injection false seconds = joined (codes "active;expires=") (decimal seconds) refl (decimal_no_injection seconds)
state_no_injection true seconds = refl

lines_no_injection : (last : Bool) (seconds : ℕ) → LinesHaveNoInjection (notify_lines last seconds)
unfolding notify_lines
lines_no_injection last seconds =
    let type_line : Line = (codes "Content-Type", codes "application/simple-message-summary") in
    let state_line : Line = (codes "Subscription-State", subscription_state last seconds) in
    let event_line : Line = (codes "Event", codes "message-summary") in
    all_cons line_has_no_injection event_line (state_line ∷ type_line ∷ []) refl
    (all_cons line_has_no_injection state_line (type_line ∷ []) (line_no_injection (codes "Subscription-State") (subscription_state last seconds) refl (state_no_injection last seconds)) refl)

notify_request_in_no_injection : (sip : Addr) (d : Dialogue) (branch : List ℕ) (last : Bool) (seconds : ℕ) (counts : Counts) → DialogueHasNoInjection d → HasNoInjection branch →
    MessageHasNoInjection (notify_request_in sip d branch last seconds counts)
notify_request_in_no_injection sip d branch last seconds counts is e =
    request_no_injection d (next_number d.local_cseq) (codes "NOTIFY") (own_parts sip branch (notify_lines last seconds) (summary counts)) is refl
    (record { branch_in = e; shown_in = lines_no_injection last seconds })

-- each that is sent, after these operations
pub notify_request_no_injection : (sip : Addr) (sub : SubNo) (last : Bool) (branch : List ℕ) (now : ℕ) (ops : List TableOp) (m : Message Start) → Each OpHasNoInjection ops → HasNoInjection branch →
    notify_request sip sub last branch now (table_after ops) ≡ Some m → MessageHasNoInjection m
notify_request_no_injection sip sub last branch now ops m c e is =
    by (subscription_numbered sub (table_after ops)) (each_found SubscriptionHasNoInjection (is_numbered sub) (table_after ops).live (boxes_no_injection ops c)) is
  where
    by : (o : Option Subscription) → IfSome o SubscriptionHasNoInjection → option_map (notify_request_of sip last branch now (table_after ops)) o ≡ Some m → MessageHasNoInjection m
    by None h is = absurd (none-some m is)
    by (Some s) h is =
        subst MessageHasNoInjection (same_Some (notify_request_of sip last branch now (table_after ops) s) m is)
        (notify_request_in_no_injection sip s.leg.dialogue branch last (remaining_seconds s.until now) (counts_in s.account (table_after ops)) h e)

-- ---- the responses to a request for a mailbox

pub grant_response_no_injection : (seconds : ℕ) → ResponseHasNoInjection (grant_response seconds)
grant_response_no_injection seconds = all_cons line_has_no_injection (codes "Expires", decimal seconds) [] (line_no_injection (codes "Expires") (decimal seconds) refl (decimal_no_injection seconds)) refl

either : (b : Bool) (x y : StatusResponse) → ResponseHasNoInjection x → ResponseHasNoInjection y → ResponseHasNoInjection (if b then x else y)
either true x y h g = h
either false x y h g = g

pub refusing_no_injection : (code : ℕ) → ResponseHasNoInjection (refusal_response code)
refusing_no_injection code = either (code == 489) (record { code = 489; lines = allow_events ∷ [] }) (plain_response code) refl refl

pub other_no_injection : (d : Directory) (m : ParsedMessage) → ResponseHasNoInjection (other_response d m)
other_no_injection d m =
    either (is_method (codes "OPTIONS") m.start) (response_with_allow d 200) (if is_method (codes "REFER") m.start then plain_response 403 else plain_response 481) (allowed_no_injection (further_methods d))
    (either (is_method (codes "REFER") m.start) (plain_response 403) (plain_response 481) refl refl)
