-- What masking leaves of the worked messages computes, once the role of each is determined from its state.
use Rattle.std.proofs.Common.{◌≡◌, ℕ, Bool, true, false, List, [], ◌∷◌, ◌++◌, length, refl, ap, sym, ◌∙◌, ◌+◌, Option, Some, None, codes, map, arith, inl, inr}
use Rattle.std.proofs.lemmas.Bool.{cases_Bool}
use Rattle.std.proofs.lemmas.Slice.Eq.{bytes_eq-Decides}
use Rattle.std.specs.Prelude.{◌&&◌, if◌then◌else◌, position, slice_get}
use Rattle.std.specs.List.{find, list_any}
use Rattle.std.specs.Option.{option_map, unwrap_or}
use Rattle.std.specs.Str.{bytes_eq, str_eq_ignore_ascii_case}
use Rattle.mmtel_base.specs.Classes as Classes
use Rattle.mmtel_base.specs.Numbers as Numbers
use Rattle.mmtel_base.specs.Scanning as Scanning
use Rattle.mmtel_history.specs.EntryUri as EntryUri
use Rattle.mmtel_history.specs.HistoryInfo as HistoryInfo
use Rattle.mmtel_lex.specs.Reading as Reading
use Rattle.mmtel_lex.specs.UriParts as UriPlaces
use Rattle.mmtel_lex.specs.declared.values.NameAddr.{NameAddr}
use Rattle.mmtel_compose.specs.ReceivedMessages.{MessageView}
use Rattle.mmtel_b2bua.specs.Entries.{has_sent_branch}
use Rattle.mmtel_b2bua.specs.Detaching.{entry_at, entry_of}
use Rattle.mmtel_b2bua.specs.Tables.{snapshot_at}
use Rattle.mmtel_b2bua.specs.declared.entries.Entry.{Entry}
use Rattle.mmtel_call.specs.Answered.{leg_of}
use Rattle.mmtel_call.specs.RelayedTransactions.{is_in_flight}
use Rattle.mmtel_call.specs.OtherRequests.{is_answered_invite}
use Rattle.mmtel_call.specs.Table.{is_current}
use Rattle.mmtel_call.specs.declared.calls.EstablishedLegs.{EstablishedLegs}
use Rattle.mmtel_call.specs.declared.calls.Phase.{Phase}
use Rattle.mmtel_call.specs.declared.calls.Phase.TheVariants.{Established}
use Rattle.mmtel_call.specs.declared.calls.Stage.{Stage}
use Rattle.mmtel_call.specs.declared.calls.OfferedAttempt.{OfferedAttempt}
use Rattle.mmtel_call_services.specs.Decisions.{service_sheet}
use Rattle.mmtel_call_services.specs.Opening.{origin_sheet}
use Rattle.mmtel_call_services.specs.CopiedHeaders.{facing}
use Rattle.mmtel_call_theorems.specs.Noninterference.Roles.{Opens, Plain, Role, Sends, hides, opening_role, without_private}
use Rattle.mmtel_output.specs.ResponseMatching.{awaited_request_branch}
use Rattle.mmtel_output.specs.AbandonedInvites.{is_of_branch}
use Rattle.mmtel_directory.specs.declared.directories.Directory.{Directory}
use Rattle.mmtel_history.specs.MaskedValues.{is_marked_value, masked_value_text}
use Rattle.mmtel_identity.specs.Restriction.{is_callee_restricted, is_caller_restricted}
use Rattle.mmtel_records_in_force.specs.Texts.{Texts}
use Rattle.mmtel_message.specs.Entries.{is_dotted}
use Rattle.mmtel_message.specs.Fields.{call_in, cseq_at, first_in, first_part, five_at, parties_in, via_at, via_in}
use Rattle.mmtel_message.specs.Headers.{trim}
use Rattle.mmtel_message.specs.Message.{Line, Message, first_value}
use Rattle.mmtel_message.specs.Texts.{message_text}
use Rattle.mmtel_message.specs.Values.{is_separator, mode_after, next_separator, parts}
use Rattle.mmtel_message.specs.declared.fields.CSeq.{CSeq}
use Rattle.mmtel_message.specs.declared.fields.Five.{Five}
use Rattle.mmtel_message.specs.declared.fields.Via.{Via}
use Rattle.mmtel_message.specs.declared.messages.Start.{Start}
use Rattle.mmtel_message.specs.declared.messages.Start.TheVariants.{Request, Status}
use Rattle.mmtel_message.specs.declared.values.Mode.{Mode}
use Rattle.mmtel_message.specs.declared.values.Mode.TheVariants.{Plain as Outside, Words}
use Rattle.mmtel_call_parties.specs.Parties.{parties_of, served_accounts}
use Rattle.mmtel_sheet_values.specs.declared.values.Sheet.{Sheet}
use Rattle.mmtel_sheet_values.specs.declared.values.Who.{Who}
use Rattle.mmtel_transaction.specs.Results.{ack_class, class_of, is_client_of, is_full, is_server_of, request_class, response_class}
use Rattle.mmtel_transaction.specs.Changes.{new_client_entry, new_server_entry}
use Rattle.mmtel_transaction.specs.Operations.{DidAsk, DidHear, live}
use Rattle.mmtel_transaction.specs.Heads.{head_of, head_with, is_ack, is_cancel}
use Rattle.mmtel_transaction.specs.declared.entries.Entry.{Entry as Transaction}
use Rattle.mmtel_transaction.specs.declared.heads.Head.{Head}
use Rattle.mmtel_transaction.specs.declared.message_class.MessageClass.{MessageClass}
use Rattle.mmtel_transaction.specs.declared.message_class.MessageClass.TheVariants as part
use Rattle.mmtel_trust.specs.Kinds.{kind_of}
use Rattle.mmtel_trust.specs.PrivateFields.{hidden_name_addr, hidden_value, masked_line, served_value}
use Rattle.mmtel_trust.specs.Privacy.{wants, words}
use Rattle.mmtel_types.specs.declared.privacy.PrivacySet.{PrivacySet}
use Rattle.mmtel_types.specs.declared.numbers.Peer.{Peer}
use Rattle.mmtel_types.specs.declared.sides.Side.{Side}
use Rattle.mmtel_types.specs.declared.sides.Side.TheVariants.{Callee, Caller}
use Rattle.mmtel_run_definitions.specs.Events.{message_in}
use Rattle.mmtel_run_definitions.specs.Calls.{named_by}
use Rattle.mmtel_run_definitions.specs.Records.{in_force}
use Rattle.mmtel_run_definitions.specs.Transitions.{RunState, calls_in, conferences_in, initial_state}
use Rattle.mmtel_run_theorems.specs.Roles.{abandoned_invite_at, answered_invite_at, awaited_role, comes_from, dialog_role, hides_caller, is_opening, is_subscribing, named_role, other_role, relayed_at}
use Rattle.mmtel_run_theorems.specs.Roles.{request_role_in, request_role_of, response_role_by, role_as, role_in_conference_response, role_in_entry, role_of, role_of_sender, side_role, unshown_request}
use Rattle.mmtel_run_theorems.proofs.DispositionKinds.{subscribes_elsewhere}
use Rattle.mmtel_run_theorems.specs.Mask.{MaskedEvent, Received, Tests, tests_beside, tests_of}
use Rattle.mmtel_run_theorems.proofs.NoninterferenceTheorems.{left_of as left_in}
use Rattle.mmtel_run_theorems.specs.Examples.{Erin, Frank, IsAwaited, IsClassified, IsOfEstablished, IsTargets, MasksDifferently, Person, PersonMessage, PublicMaskDifferently, RestrictedMaskEqually}
use Rattle.mmtel_run_theorems.specs.Examples.{TheyOccur, UnshownMaskEqually, ack, bye, cancel, invite_with_marked_entry, invite_with_unmarked_entry, name_of, ok_named, ok_of_target, ok_to_bye}
use Rattle.mmtel_run_theorems.specs.Examples.{ok_to_cancel, ok_to_invite, ok_to_notify, phone, plain_in_dialog, plain_opening, private_in_dialog, private_opening, redirect_response, server_bye, user_of}

-- ---- what masking leaves, by a role

opens_left : without_private Opens (private_opening Erin) ≡ without_private Opens (private_opening Frank)
unfolding Scanning.closing_quote_from masked_line kind_of hidden_name_addr hidden_value served_value is_marked_value masked_value_text Reading.name_addr_of Reading.words_of Reading.quoted_of
    Reading.angle_of Reading.bare_of Reading.all_params_at Reading.params_at Reading.param_at Reading.token_at Reading.value_at Reading.text_at Classes.in_class Scanning.leading_run Scanning.after_run
    Scanning.without_trailing Scanning.split_once_at
opens_left = refl

repeated_left : without_private Opens (plain_opening Erin) ≡ without_private Opens (plain_opening Frank)
unfolding Scanning.closing_quote_from masked_line kind_of hidden_name_addr hidden_value served_value is_marked_value masked_value_text Reading.name_addr_of Reading.words_of Reading.quoted_of
    Reading.angle_of Reading.bare_of Reading.all_params_at Reading.params_at Reading.param_at Reading.token_at Reading.value_at Reading.text_at Classes.in_class Scanning.leading_run Scanning.after_run
    Scanning.without_trailing Scanning.split_once_at
repeated_left = refl

asked_left : without_private (Sends Caller) (plain_in_dialog Erin) ≡ without_private (Sends Caller) (plain_in_dialog Frank)
unfolding Scanning.closing_quote_from masked_line kind_of hidden_name_addr hidden_value served_value is_marked_value masked_value_text Reading.name_addr_of Reading.words_of Reading.quoted_of
    Reading.angle_of Reading.bare_of Reading.all_params_at Reading.params_at Reading.param_at Reading.token_at Reading.value_at Reading.text_at Classes.in_class Scanning.leading_run Scanning.after_run
    Scanning.without_trailing Scanning.split_once_at
asked_left = refl

answer_left : without_private (Sends Caller) (ok_to_invite Erin) ≡ without_private (Sends Caller) (ok_to_invite Frank)
unfolding Scanning.closing_quote_from masked_line kind_of hidden_name_addr hidden_value served_value is_marked_value masked_value_text Reading.name_addr_of Reading.words_of Reading.quoted_of
    Reading.angle_of Reading.bare_of Reading.all_params_at Reading.params_at Reading.param_at Reading.token_at Reading.value_at Reading.text_at Classes.in_class Scanning.leading_run Scanning.after_run
    Scanning.without_trailing Scanning.split_once_at
answer_left = refl

callee_left : without_private (Sends Callee) (private_in_dialog Erin) ≡ without_private (Sends Callee) (private_in_dialog Frank)
unfolding Scanning.closing_quote_from masked_line kind_of hidden_name_addr hidden_value served_value is_marked_value masked_value_text Reading.name_addr_of Reading.words_of Reading.quoted_of
    Reading.angle_of Reading.bare_of Reading.all_params_at Reading.params_at Reading.param_at Reading.token_at Reading.value_at Reading.text_at Classes.in_class Scanning.leading_run Scanning.after_run
    Scanning.without_trailing Scanning.split_once_at
callee_left = refl

target_left : without_private (Sends Callee) (ok_of_target Erin) ≡ without_private (Sends Callee) (ok_of_target Frank)
unfolding Scanning.closing_quote_from masked_line kind_of hidden_name_addr hidden_value served_value is_marked_value masked_value_text Reading.name_addr_of Reading.words_of Reading.quoted_of
    Reading.angle_of Reading.bare_of Reading.all_params_at Reading.params_at Reading.param_at Reading.token_at Reading.value_at Reading.text_at Classes.in_class Scanning.leading_run Scanning.after_run
    Scanning.without_trailing Scanning.split_once_at
target_left = refl

bye_left : without_private (Sends Caller) (ok_to_bye Erin) ≡ without_private (Sends Caller) (ok_to_bye Frank)
unfolding Scanning.closing_quote_from masked_line kind_of hidden_name_addr hidden_value served_value is_marked_value masked_value_text Reading.name_addr_of Reading.words_of Reading.quoted_of
    Reading.angle_of Reading.bare_of Reading.all_params_at Reading.params_at Reading.param_at Reading.token_at Reading.value_at Reading.text_at Classes.in_class Scanning.leading_run Scanning.after_run
    Scanning.without_trailing Scanning.split_once_at
bye_left = refl

stopped_left : without_private (Sends Caller) (ok_to_cancel Erin) ≡ without_private (Sends Caller) (ok_to_cancel Frank)
unfolding Scanning.closing_quote_from masked_line kind_of hidden_name_addr hidden_value served_value is_marked_value masked_value_text Reading.name_addr_of Reading.words_of Reading.quoted_of
    Reading.angle_of Reading.bare_of Reading.all_params_at Reading.params_at Reading.param_at Reading.token_at Reading.value_at Reading.text_at Classes.in_class Scanning.leading_run Scanning.after_run
    Scanning.without_trailing Scanning.split_once_at
stopped_left = refl

notified_left : without_private (Sends Caller) (ok_to_notify Erin) ≡ without_private (Sends Caller) (ok_to_notify Frank)
unfolding Scanning.closing_quote_from masked_line kind_of hidden_name_addr hidden_value served_value is_marked_value masked_value_text Reading.name_addr_of Reading.words_of Reading.quoted_of
    Reading.angle_of Reading.bare_of Reading.all_params_at Reading.params_at Reading.param_at Reading.token_at Reading.value_at Reading.text_at Classes.in_class Scanning.leading_run Scanning.after_run
    Scanning.without_trailing Scanning.split_once_at
notified_left = refl

cancel_left : without_private Opens (cancel Erin) ≡ without_private Opens (cancel Frank)
unfolding Scanning.closing_quote_from masked_line kind_of hidden_name_addr hidden_value served_value is_marked_value masked_value_text Reading.name_addr_of Reading.words_of Reading.quoted_of
    Reading.angle_of Reading.bare_of Reading.all_params_at Reading.params_at Reading.param_at Reading.token_at Reading.value_at Reading.text_at Classes.in_class Scanning.leading_run Scanning.after_run
    Scanning.without_trailing Scanning.split_once_at
cancel_left = refl

ack_left : without_private Opens (ack Erin) ≡ without_private Opens (ack Frank)
unfolding Scanning.closing_quote_from masked_line kind_of hidden_name_addr hidden_value served_value is_marked_value masked_value_text Reading.name_addr_of Reading.words_of Reading.quoted_of
    Reading.angle_of Reading.bare_of Reading.all_params_at Reading.params_at Reading.param_at Reading.token_at Reading.value_at Reading.text_at Classes.in_class Scanning.leading_run Scanning.after_run
    Scanning.without_trailing Scanning.split_once_at
ack_left = refl

unnamed_left : without_private Opens (bye Erin) ≡ without_private Opens (bye Frank)
unfolding Scanning.closing_quote_from masked_line kind_of hidden_name_addr hidden_value served_value is_marked_value masked_value_text Reading.name_addr_of Reading.words_of Reading.quoted_of
    Reading.angle_of Reading.bare_of Reading.all_params_at Reading.params_at Reading.param_at Reading.token_at Reading.value_at Reading.text_at Classes.in_class Scanning.leading_run Scanning.after_run
    Scanning.without_trailing Scanning.split_once_at
unnamed_left = refl

history_left : without_private Plain (invite_with_marked_entry Erin) ≡ without_private Plain (invite_with_marked_entry Frank)
unfolding EntryUri.cause_number EntryUri.cause_of EntryUri.hides EntryUri.is_marked EntryUri.marked_uri HistoryInfo.entry_of HistoryInfo.written_uri HistoryInfo.entry_text UriPlaces.user_part
    UriPlaces.host_part is_dotted Numbers.number_of Numbers.value_up_to Scanning.closing_quote_from masked_line kind_of hidden_name_addr hidden_value served_value is_marked_value masked_value_text
    Reading.name_addr_of Reading.words_of Reading.quoted_of Reading.angle_of Reading.bare_of Reading.all_params_at Reading.params_at Reading.param_at Reading.token_at Reading.value_at Reading.text_at
    Classes.in_class Scanning.leading_run Scanning.after_run Scanning.without_trailing Scanning.split_once_at
history_left = refl

-- what differs in them where they are public
abbrev long : (name : List ℕ) → MessageView → ℕ
long name m = length (unwrap_or (first_value name m.parsed.lines) [])

from_differs : without_private Plain (plain_opening Erin) ≡ without_private Plain (plain_opening Frank) → ⊥
unfolding Scanning.closing_quote_from masked_line kind_of hidden_name_addr hidden_value served_value is_marked_value masked_value_text Reading.name_addr_of Reading.words_of Reading.quoted_of
    Reading.angle_of Reading.bare_of Reading.all_params_at Reading.params_at Reading.param_at Reading.token_at Reading.value_at Reading.text_at Classes.in_class Scanning.leading_run Scanning.after_run
    Scanning.without_trailing Scanning.split_once_at
from_differs same = let e : 37 ≡ 39 = ap (long (codes "From")) same in absurd (omega (arith, e))

asked_differs : without_private Plain (plain_in_dialog Erin) ≡ without_private Plain (plain_in_dialog Frank) → ⊥
unfolding Scanning.closing_quote_from masked_line kind_of hidden_name_addr hidden_value served_value is_marked_value masked_value_text Reading.name_addr_of Reading.words_of Reading.quoted_of
    Reading.angle_of Reading.bare_of Reading.all_params_at Reading.params_at Reading.param_at Reading.token_at Reading.value_at Reading.text_at Classes.in_class Scanning.leading_run Scanning.after_run
    Scanning.without_trailing Scanning.split_once_at
asked_differs same = let e : 37 ≡ 39 = ap (long (codes "From")) same in absurd (omega (arith, e))

named_differs : without_private (Sends Callee) (ok_named Erin) ≡ without_private (Sends Callee) (ok_named Frank) → ⊥
unfolding Scanning.closing_quote_from masked_line kind_of hidden_name_addr hidden_value served_value is_marked_value masked_value_text Reading.name_addr_of Reading.words_of Reading.quoted_of
    Reading.angle_of Reading.bare_of Reading.all_params_at Reading.params_at Reading.param_at Reading.token_at Reading.value_at Reading.text_at Classes.in_class Scanning.leading_run Scanning.after_run
    Scanning.without_trailing Scanning.split_once_at
named_differs same = let e : 37 ≡ 39 = ap (long (codes "To")) same in absurd (omega (arith, e))

target_differs : without_private (Sends Callee) (redirect_response Erin) ≡ without_private (Sends Callee) (redirect_response Frank) → ⊥
unfolding Scanning.closing_quote_from masked_line kind_of hidden_name_addr hidden_value served_value is_marked_value masked_value_text Reading.name_addr_of Reading.words_of Reading.quoted_of
    Reading.angle_of Reading.bare_of Reading.all_params_at Reading.params_at Reading.param_at Reading.token_at Reading.value_at Reading.text_at Classes.in_class Scanning.leading_run Scanning.after_run
    Scanning.without_trailing Scanning.split_once_at
target_differs same = let e : 25 ≡ 26 = ap (long (codes "Contact")) same in absurd (omega (arith, e))

entry_differs : without_private Plain (invite_with_unmarked_entry Erin) ≡ without_private Plain (invite_with_unmarked_entry Frank) → ⊥
unfolding EntryUri.cause_number EntryUri.cause_of EntryUri.hides EntryUri.is_marked EntryUri.marked_uri HistoryInfo.entry_of HistoryInfo.written_uri HistoryInfo.entry_text UriPlaces.user_part
    UriPlaces.host_part is_dotted Numbers.number_of Numbers.value_up_to Scanning.closing_quote_from masked_line kind_of hidden_name_addr hidden_value served_value is_marked_value masked_value_text
    Reading.name_addr_of Reading.words_of Reading.quoted_of Reading.angle_of Reading.bare_of Reading.all_params_at Reading.params_at Reading.param_at Reading.token_at Reading.value_at Reading.text_at
    Classes.in_class Scanning.leading_run Scanning.after_run Scanning.without_trailing Scanning.split_once_at
entry_differs same = let e : 31 ≡ 32 = ap (long (codes "History-Info")) same in absurd (omega (arith, e))

-- ---- what is read of them

words_of_id : parts Words (codes "id") ≡ codes "id" ∷ []
unfolding parts
words_of_id = refl

-- so a party that sends Privacy is restricted
asks_id : (ls : List Line) → words ls ≡ map trim (parts Words (codes "id")) ++ [] → (wants ls).id ≡ true
unfolding Scanning.without_trailing Classes.in_class Scanning.leading_run Scanning.after_run
asks_id ls is = ap (λ (vs : List (List ℕ)). list_any (λ v. str_eq_ignore_ascii_case v (codes "id")) vs) (is ∙ ap (λ (vs : List (List ℕ)). map trim vs ++ []) words_of_id)

caller_restricted : (w : PrivacySet) (o : Option Sheet) → w.id ≡ true → is_caller_restricted w o ≡ true
caller_restricted w None e = rw e refl
caller_restricted w (Some sheet) e = rw e refl

callee_restricted : (w : PrivacySet) (o : Option Sheet) → w.id ≡ true → is_callee_restricted w o ≡ true
callee_restricted w None e = rw e refl
callee_restricted w (Some sheet) e = rw e refl

opens_a_call : (p : Person) → is_opening (plain_opening p).parsed ≡ true
unfolding Reading.name_addr_of Reading.words_of Reading.quoted_of Reading.angle_of Reading.bare_of Reading.all_params_at Reading.params_at Reading.param_at Reading.token_at Reading.value_at
    Reading.text_at Classes.in_class Scanning.leading_run Scanning.after_run Scanning.without_trailing Scanning.split_once_at Scanning.closing_quote_from
opens_a_call p = refl

opens_restricted : (p : Person) → is_opening (private_opening p).parsed ≡ true
unfolding Reading.name_addr_of Reading.words_of Reading.quoted_of Reading.angle_of Reading.bare_of Reading.all_params_at Reading.params_at Reading.param_at Reading.token_at Reading.value_at
    Reading.text_at Classes.in_class Scanning.leading_run Scanning.after_run Scanning.without_trailing Scanning.split_once_at Scanning.closing_quote_from
opens_restricted p = refl

opens_marked : (p : Person) → is_opening (invite_with_marked_entry p).parsed ≡ true
unfolding Reading.name_addr_of Reading.words_of Reading.quoted_of Reading.angle_of Reading.bare_of Reading.all_params_at Reading.params_at Reading.param_at Reading.token_at Reading.value_at
    Reading.text_at Classes.in_class Scanning.leading_run Scanning.after_run Scanning.without_trailing Scanning.split_once_at Scanning.closing_quote_from
opens_marked p = refl

opens_unmarked : (p : Person) → is_opening (invite_with_unmarked_entry p).parsed ≡ true
unfolding Reading.name_addr_of Reading.words_of Reading.quoted_of Reading.angle_of Reading.bare_of Reading.all_params_at Reading.params_at Reading.param_at Reading.token_at Reading.value_at
    Reading.text_at Classes.in_class Scanning.leading_run Scanning.after_run Scanning.without_trailing Scanning.split_once_at Scanning.closing_quote_from
opens_unmarked p = refl

is_later : (p : Person) → is_opening (plain_in_dialog p).parsed ≡ false
unfolding Reading.name_addr_of Reading.words_of Reading.quoted_of Reading.angle_of Reading.bare_of Reading.all_params_at Reading.params_at Reading.param_at Reading.token_at Reading.value_at
    Reading.text_at Classes.in_class Scanning.leading_run Scanning.after_run Scanning.without_trailing Scanning.split_once_at Scanning.closing_quote_from
is_later p = refl

is_later_too : (p : Person) → is_opening (private_in_dialog p).parsed ≡ false
unfolding Reading.name_addr_of Reading.words_of Reading.quoted_of Reading.angle_of Reading.bare_of Reading.all_params_at Reading.params_at Reading.param_at Reading.token_at Reading.value_at
    Reading.text_at Classes.in_class Scanning.leading_run Scanning.after_run Scanning.without_trailing Scanning.split_once_at Scanning.closing_quote_from
is_later_too p = refl

answers_no_invite : (p : Person) →
    (awaited_request_branch (ok_to_bye p) ≡ None) × (awaited_request_branch (ok_to_cancel p) ≡ None) × (awaited_request_branch (ok_to_notify p) ≡ None)
unfolding awaited_request_branch cseq_at Scanning.leading_run Scanning.after_run Classes.in_class Numbers.number_of Numbers.value_up_to Reading.token_at
answers_no_invite p = (refl, refl, refl)

asked_method : (method uri : List ℕ) (o : Option Five) → (head_with (Request method uri) o).method ≡ method
asked_method method uri None = refl
asked_method method uri (Some five) = refl

stops : (m : MessageView) (method uri : List ℕ) → m.parsed.start ≡ Request method uri → is_cancel (head_of (message_in m.parsed)) ≡ bytes_eq method (codes "CANCEL")
unfolding head_of
stops m method uri is =
    ap (λ (s : Start). bytes_eq (head_with s (five_at m.parsed.lines)).method (codes "CANCEL")) is
    ∙ ap (λ (s : List ℕ). bytes_eq s (codes "CANCEL")) (asked_method method uri (five_at m.parsed.lines))

-- ---- the role of a message, in its state

role_is : (d : Directory) (w : RunState) (m : MessageView) (t : MessageClass) → class_of (head_of (message_in m.parsed)) (live w.actions) ≡ t → role_of d w m ≡ role_as d w m t
unfolding role_of
role_is d w m t p = ap (role_as d w m) p

abbrev fresh_by : Directory → RunState → MessageView → (opens cancels subscribes : Bool) → Role
fresh_by d w m opens cancels subscribes =
    if opens then opening_role (hides_caller d w m.parsed) else if cancels then unshown_request else if subscribes then Plain else dialog_role d w m

fresh_is : (d : Directory) (w : RunState) (m : MessageView) (opens stops asks : Bool) → class_of (head_of (message_in m.parsed)) (live w.actions) ≡ part.Fresh → is_opening m.parsed ≡ opens →
    is_cancel (head_of (message_in m.parsed)) ≡ stops → is_subscribing d w m.parsed ≡ asks → role_of d w m ≡ fresh_by d w m opens stops asks
fresh_is d w m opens stops asks p o c s =
    role_is d w m part.Fresh p
    ∙ (ap (λ (b : Bool). fresh_by d w m b (is_cancel (head_of (message_in m.parsed))) (is_subscribing d w m.parsed)) o
    ∙ (ap (λ (b : Bool). fresh_by d w m opens b (is_subscribing d w m.parsed)) c ∙ ap (fresh_by d w m opens stops) s))

-- it opens a call
opens_as : (d : Directory) (w : RunState) (m : MessageView) (restricted : Bool) → class_of (head_of (message_in m.parsed)) (live w.actions) ≡ part.Fresh → is_opening m.parsed ≡ true →
    hides_caller d w m.parsed ≡ restricted → role_of d w m ≡ opening_role restricted
opens_as d w m restricted p o hides = fresh_is d w m true (is_cancel (head_of (message_in m.parsed))) (is_subscribing d w m.parsed) p o refl refl ∙ ap opening_role hides

-- it hides, where it comes from the phone and that is its own peer
says_own : (restricted : Bool) (own : Peer) (side : Side) (m : MessageView) → restricted ≡ true → own ≡ phone → comes_from phone m ≡ true → role_of_sender restricted own side m ≡ Sends side
says_own restricted own side m is its mine =
    ap (λ (b : Bool). role_of_sender b own side m) is
    ∙ (ap (λ (q : Peer). role_of_sender true q side m) its ∙ ap (λ (b : Bool). if b then Sends side else Plain) mine)

module _ (d : Directory) (w : RunState) where
  abbrev entries : List Entry
  entries = (calls_in d w).entries

  -- a request of a side of an established call
  stands_as : (m : MessageView) (side : Side) (e : Entry) (x : EstablishedLegs) (stage : Stage) (call : ℕ) →
      class_of (head_of (message_in m.parsed)) (live w.actions) ≡ part.Fresh → is_opening m.parsed ≡ false → is_cancel (head_of (message_in m.parsed)) ≡ false →
      named_by m.parsed entries ≡ Some (record { 0 = call }, side) → entry_of call entries ≡ Some e → e.call.phase ≡ Established x stage →
      role_of d w m ≡ side_role e.call.opening x.service (leg_of side x).dialogue.peer side m
  stands_as m side e x stage call p o c named entry stood =
      fresh_is d w m false false false p o c (subscribes_elsewhere d w m.parsed (record { 0 = call }, side) named)
      ∙ (ap (named_role d.reliable m entries) named
      ∙ (ap (request_role_of d.reliable side m) entry
      ∙ ap (λ (phase : Phase). request_role_in d.reliable phase e.call.opening side m) stood))

  -- a response to the INVITE whose response a call awaits
  awaited_as : (m : MessageView) (e : Entry) (branch : List ℕ) (key place : ℕ) → class_of (head_of (message_in m.parsed)) (live w.actions) ≡ part.Answer key → awaited_request_branch m ≡ Some branch →
      position (has_sent_branch (Some branch)) entries ≡ Some place → slice_get entries place ≡ Some e → is_current branch e.call ≡ true →
      role_of d w m ≡ awaited_role e.call.phase e.call.opening m
  awaited_as m e branch key place p answers sent entry current =
      role_is d w m (part.Answer key) p
      ∙ (ap (response_role_by d w m) answers
      ∙ (ap (λ (o : Option Entry). unwrap_or (role_in_entry branch m o) (role_in_conference_response branch m (conferences_in d w))) (ap (λ (o : Option ℕ). entry_at o entries) sent ∙ entry)
      ∙ ap (by_current m e branch) current))
    where
      by_current : MessageView → Entry → List ℕ → Bool → Role
      by_current m e branch b =
          if b then awaited_role e.call.phase e.call.opening m
          else other_role e.call m (abandoned_invite_at (position (is_of_branch branch) e.call.abandoned) e.call.abandoned)
          (answered_invite_at (position (is_answered_invite branch) e.call.answered_invites) e.call.answered_invites)
          (relayed_at (position (is_in_flight branch) e.call.relayed) e.call.relayed)

-- ---- what masking leaves of two

module _ (d : Directory) (asked : List Who) (w : RunState) where
  abbrev beside : Role → MessageView → Option Tests
  beside r m = tests_beside d.names.accounts asked r m.parsed

  -- what is compared of it, in a role
  abbrev left_as : MessageView → Role → MaskedEvent
  left_as m r = Received (without_private r m) (beside r m)

  -- by a role that both have
  looks : (m : PersonMessage) (r : Role) → ((p : Person) → role_of d w (m p) ≡ r) → without_private r (m Erin) ≡ without_private r (m Frank) → beside r (m Erin) ≡ beside r (m Frank) →
      left_as (m Erin) (role_of d w (m Erin)) ≡ left_as (m Frank) (role_of d w (m Frank))
  looks m r roles same tests =
      ap (left_as (m Erin)) (roles Erin)
      ∙ (ap (λ (x : MessageView). Received x (beside r (m Erin))) same
      ∙ (ap (Received (without_private r (m Frank))) tests ∙ sym (ap (left_as (m Frank)) (roles Frank))))

  -- the tests of an opening that hides its caller, which no other message has
  tested : (m : PersonMessage) → ((p : Person) → is_opening (m p).parsed ≡ true) → tests_of d.names.accounts asked (m Erin).parsed ≡ tests_of d.names.accounts asked (m Frank).parsed →
      beside Opens (m Erin) ≡ beside Opens (m Frank)
  tested m opens tests = beside_it Erin ∙ (ap (λ (t : Tests). Some t) tests ∙ sym (beside_it Frank))
    where
      beside_it : (p : Person) → beside Opens (m p) ≡ Some (tests_of d.names.accounts asked (m p).parsed)
      beside_it p = ap (λ (b : Bool). if b && hides Opens then Some (tests_of d.names.accounts asked (m p).parsed) else None) (opens p)

  untested : (m : PersonMessage) (r : Role) (opens : Bool) → opens && hides r ≡ false → ((p : Person) → is_opening (m p).parsed ≡ opens) → beside r (m Erin) ≡ beside r (m Frank)
  untested m r opens none is = beside_it Erin ∙ sym (beside_it Frank)
    where
      beside_it : (p : Person) → beside r (m p) ≡ None
      beside_it p =
          ap (λ (b : Bool). if b && hides r then Some (tests_of d.names.accounts asked (m p).parsed) else None) (is p)
          ∙ ap (λ (b : Bool). if b then Some (tests_of d.names.accounts asked (m p).parsed) else None) none

  -- a response to a request that is no INVITE
  answers_other : (m : MessageView) (key : ℕ) → class_of (head_of (message_in m.parsed)) (live w.actions) ≡ part.Answer key → awaited_request_branch m ≡ None → role_of d w m ≡ Sends Caller
  answers_other m key taken none = role_is d w m (part.Answer key) taken ∙ ap (response_role_by d w m) none

  pub unshown : UnshownMaskEqually d asked w
  unshown = record {
    responds_to_bye = λ key taken. looks ok_to_bye (Sends Caller) (λ p. answers_other (ok_to_bye p) key (taken p) (answers_no_invite p).0) bye_left refl;
    responds_to_cancel = λ key taken. looks ok_to_cancel (Sends Caller) (λ p. answers_other (ok_to_cancel p) key (taken p) (answers_no_invite p).1) stopped_left refl;
    responds_to_notify = λ key taken. looks ok_to_notify (Sends Caller) (λ p. answers_other (ok_to_notify p) key (taken p) (answers_no_invite p).2) notified_left refl;
    stray = λ taken. looks ok_to_invite (Sends Caller) (λ p. role_is d w (ok_to_invite p) part.Stray (taken p)) answer_left refl;
    received_again = λ key taken. looks ok_to_invite (Sends Caller) (λ p. role_is d w (ok_to_invite p) (part.RepeatedFinal key) (taken p)) answer_left refl;
    repeated = λ key taken tests.
        looks plain_opening Opens (λ p. role_is d w (plain_opening p) (part.Repeat key) (taken p)) repeated_left (tested plain_opening opens_a_call tests);
    cancels = λ taken.
        looks cancel Opens (λ p. fresh_is d w (cancel p) false true false (taken p) refl (stops (cancel p) (codes "CANCEL") (codes "sip:bob@far.example") refl) refl) cancel_left refl;
    acknowledges = λ key taken. looks ack Opens (λ p. role_is d w (ack p) (part.Acked key) (taken p)) ack_left refl;
    late = λ taken named. looks ack Opens (λ p. role_is d w (ack p) part.AckOf2xx (taken p) ∙ ap (named_role d.reliable (ack p) (calls_in d w).entries) (named p)) ack_left refl;
    no_place = λ taken. looks bye Opens (λ p. role_is d w (bye p) part.Full (taken p)) unnamed_left refl;
    unnamed = λ taken named.
        looks bye Opens
        (λ p. fresh_is d w (bye p) false false false (taken p) refl (stops (bye p) (codes "BYE") (codes "sip:bob@far.example") refl) refl
        ∙ ap (named_role d.reliable (bye p) (calls_in d w).entries) (named p))
        unnamed_left refl;
  }

  asks_of : (side : Side) (m : PersonMessage) (e : Entry) (x : EstablishedLegs) (stage : Stage) (call : ℕ) → IsOfEstablished d w m side e x stage call → (p : Person) →
      (m p).parsed.start ≡ Request (codes "INVITE") (codes "sip:bob@far.example") → is_opening (m p).parsed ≡ false →
      role_of d w (m p) ≡ side_role e.call.opening x.service (leg_of side x).dialogue.peer side (m p)
  asks_of side m e x stage call of p start opens =
      stands_as d w (m p) side e x stage call (of.fresh p) opens (stops (m p) (codes "INVITE") (codes "sip:bob@far.example") start) (of.named p) of.entry of.established

  answers_as : (m : PersonMessage) (e : Entry) (branch : List ℕ) (key place : ℕ) → IsAwaited d w m e branch key place → (p : Person) →
      role_of d w (m p) ≡ awaited_role e.call.phase e.call.opening (m p)
  answers_as m e branch key place of p = awaited_as d w (m p) e branch key place (of.classified p) (of.responds p) of.sent of.entry of.current

  -- from the target of an attempt, with Privacy
  target_as : (m : PersonMessage) (e : Entry) (x : OfferedAttempt) (branch : List ℕ) (key place : ℕ) → IsTargets d w m e x branch key place → (p : Person) →
      comes_from phone (m p) ≡ true → (m p).parsed.wants.id ≡ true → role_of d w (m p) ≡ Sends Callee
  target_as m e x branch key place of p mine private =
      answers_as m e branch key place of.awaited p
      ∙ (ap (λ (phase : Phase). awaited_role phase e.call.opening (m p)) of.offered
      ∙ (ap (λ (q : Peer). if comes_from q (m p) then side_role e.call.opening x.attempt.service x.attempt.invite.dialogue.peer Callee (m p) else Plain) of.leg
      ∙ (ap (λ (b : Bool). if b then side_role e.call.opening x.attempt.service x.attempt.invite.dialogue.peer Callee (m p) else Plain) mine
      ∙ says_own (facing e.call.opening x.attempt.service Callee (m p)).restricted x.attempt.invite.dialogue.peer Callee (m p)
      (callee_restricted (m p).parsed.wants (service_sheet x.attempt.service) private) of.peer mine)))

  pub restricted : RestrictedMaskEqually d asked w
  restricted = record {
    opens = λ taken tests.
        looks private_opening Opens
        (λ p. opens_as d w (private_opening p) true (taken p) (opens_restricted p)
        (caller_restricted (private_opening p).parsed.wants (origin_of (private_opening p)) (asks_id (private_opening p).parsed.lines refl)))
        opens_left (tested private_opening opens_restricted tests);
    caller_requests = λ e x stage call of known.
        looks plain_in_dialog (Sends Caller)
        (λ p. asks_of Caller plain_in_dialog e x stage call of p refl (is_later p) ∙ says_own e.call.opening.restricted x.caller.dialogue.peer Caller (plain_in_dialog p) known of.own refl)
        asked_left (untested plain_in_dialog (Sends Caller) false refl is_later);
    caller_responds = λ e x q branch key place of stands own known.
        looks ok_to_invite (Sends Caller)
        (λ p. answers_as ok_to_invite e branch key place of p
        ∙ (ap (λ (phase : Phase). awaited_role phase e.call.opening (ok_to_invite p)) stands
        ∙ says_own e.call.opening.restricted q.invite.dialogue.peer Caller (ok_to_invite p) known own refl))
        answer_left refl;
    callee_requests = λ e x stage call of.
        looks private_in_dialog (Sends Callee)
        (λ p. asks_of Callee private_in_dialog e x stage call of p refl (is_later_too p)
        ∙ says_own (facing e.call.opening x.service Callee (private_in_dialog p)).restricted x.callee.dialogue.peer Callee (private_in_dialog p)
        (callee_restricted (private_in_dialog p).parsed.wants (service_sheet x.service) (asks_id (private_in_dialog p).parsed.lines refl)) of.own refl)
        callee_left (untested private_in_dialog (Sends Callee) false refl is_later_too);
    callee_responds = λ e x branch key place of.
        looks ok_of_target (Sends Callee) (λ p. target_as ok_of_target e x branch key place of p refl (asks_id (ok_of_target p).parsed.lines refl)) target_left refl;
    history = λ taken shown.
        looks invite_with_marked_entry Plain (λ p. opens_as d w (invite_with_marked_entry p) false (taken p) (opens_marked p) (shown p))
        history_left (untested invite_with_marked_entry Plain true refl opens_marked);
  }
    where
      -- the record of the account that is served as the caller
      origin_of : MessageView → Option Sheet
      origin_of m = origin_sheet (snapshot_at w.clock (in_force w.texts w.registrations) []) (served_accounts (parties_of d.names.accounts m.parsed))

  -- what is public
  apart : (m : PersonMessage) (r : Role) → ((p : Person) → role_of d w (m p) ≡ r) → (without_private r (m Erin) ≡ without_private r (m Frank) → ⊥) → MasksDifferently d asked w m
  apart m r roles differ same =
      differ (sym (ap (λ (x : Role). without_private x (m Erin)) (roles Erin)) ∙ (ap (left_in (m Erin)) same ∙ ap (λ (x : Role). without_private x (m Frank)) (roles Frank)))

  pub everybodys : PublicMaskDifferently d asked w
  everybodys = record {
    opens = λ taken shown. apart plain_opening Plain (λ p. opens_as d w (plain_opening p) false (taken p) (opens_a_call p) (shown p)) from_differs;
    asks = λ e x stage call of known.
        apart plain_in_dialog Plain
        (λ p. asks_of Caller plain_in_dialog e x stage call of p refl (is_later p) ∙ ap (λ (b : Bool). role_of_sender b x.caller.dialogue.peer Caller (plain_in_dialog p)) known)
        asked_differs;
    named = λ e x branch key place of. apart ok_named (Sends Callee) (λ p. target_as ok_named e x branch key place of p refl (asks_id (ok_named p).parsed.lines refl)) named_differs;
    moves = λ e x branch key place of. apart redirect_response (Sends Callee) (λ p. target_as redirect_response e x branch key place of p refl (asks_id (redirect_response p).parsed.lines refl)) target_differs;
    history = λ taken shown. apart invite_with_unmarked_entry Plain (λ p. opens_as d w (invite_with_unmarked_entry p) false (taken p) (opens_unmarked p) (shown p)) entry_differs;
  }

-- ---- states in which they have such roles

is_asked : (method uri : List ℕ) (o : Option Five) → (head_with (Request method uri) o).is_request ≡ true
is_asked method uri None = refl
is_asked method uri (Some five) = refl

is_answered : (status : ℕ) (phrase : List ℕ) (o : Option Five) → (head_with (Status status phrase) o).is_request ≡ false
is_answered status phrase None = refl
is_answered status phrase (Some five) = refl

acks : (m : MessageView) (method uri : List ℕ) → m.parsed.start ≡ Request method uri → is_ack (head_of (message_in m.parsed)) ≡ bytes_eq method (codes "ACK")
unfolding head_of
acks m method uri is =
    ap (λ (s : Start). bytes_eq (head_with s (five_at m.parsed.lines)).method (codes "ACK")) is
    ∙ ap (λ (s : List ℕ). bytes_eq s (codes "ACK")) (asked_method method uri (five_at m.parsed.lines))

-- a request that is no ACK, among these
abbrev request_part : List Transaction → Head → Bool → Bool → MessageClass
request_part es h request ack =
    if request then (if ack then ack_class (find (is_server_of h) es) else request_class (is_full es) (find (is_server_of h) es))
    else response_class h (find (is_client_of h) es)

asked_part : (es : List Transaction) (m : MessageView) (method uri : List ℕ) → m.parsed.start ≡ Request method uri → bytes_eq method (codes "ACK") ≡ false →
    class_of (head_of (message_in m.parsed)) es ≡ request_class (is_full es) (find (is_server_of (head_of (message_in m.parsed))) es)
unfolding head_of
asked_part es m method uri is other =
    let h : Head = head_of (message_in m.parsed) in
    ap (λ (b : Bool). request_part es h b (is_ack h)) (ap (λ (s : Start). (head_with s (five_at m.parsed.lines)).is_request) is ∙ is_asked method uri (five_at m.parsed.lines))
    ∙ ap (λ (b : Bool). request_part es h true b) (acks m method uri is ∙ other)

first_comes : (loaded : Texts) → IsClassified (initial_state loaded) private_opening part.Fresh
first_comes loaded p = asked_part [] (private_opening p) (codes "INVITE") (codes "sip:bob@far.example") refl refl

stray_comes : (loaded : Texts) → IsClassified (initial_state loaded) ok_to_invite part.Stray
unfolding head_of
stray_comes loaded p =
    let h : Head = head_of (message_in (ok_to_invite p).parsed) in
    ap (λ (b : Bool). request_part [] h b (is_ack h)) (is_answered 200 (codes "OK") (five_at (ok_to_invite p).parsed.lines))

bytes_same : (s : List ℕ) → bytes_eq s s ≡ true
bytes_same s = (bytes_eq-Decides s s).1 refl

-- its own transaction
finds_itself : (h : Head) → is_ack h ≡ false → is_server_of h (new_server_entry 0 0 phone h 0) ≡ true
finds_itself h other = rw (bytes_same h.branch, bytes_same h.sent_by, other, bytes_same h.method) refl

again_comes : (p : Person) → class_of (head_of (message_in (plain_opening p).parsed)) (live (DidHear phone (message_in (plain_opening p).parsed) 0 part.Fresh ∷ [])) ≡ part.Repeat 0
again_comes p =
    let m : MessageView = plain_opening p in
    let h : Head = head_of (message_in m.parsed) in
    let es : List Transaction = new_server_entry 0 0 phone h 0 ∷ [] in
    asked_part es m (codes "INVITE") (codes "sip:bob@far.example") refl refl
    ∙ ap (λ (b : Bool). request_class (is_full es) (if b then Some (new_server_entry 0 0 phone h 0) else None))
    (finds_itself h (acks m (codes "INVITE") (codes "sip:bob@far.example") refl))

-- ---- the head of a response to a BYE

no_place : (o : Option ℕ) → option_map (λ n. n + 1) o ≡ None → o ≡ None
no_place None e = refl
no_place (Some n) e = absurd cc

-- a value that nothing splits is one element
alone : (m : Mode) (s : List ℕ) → next_separator m s ≡ None → parts m s ≡ s ∷ []
unfolding parts next_separator
alone m [] e = refl
alone m (b ∷ s) e =
    elim (cases_Bool (is_separator m b)) [
      | inl y ↦ let f = rw y at e in absurd cc
      | inr n ↦ rw (n, alone (mode_after m b) s (no_place (next_separator (mode_after m b) s) (rw n at e))) refl
    ]

abbrev via_text : List ℕ
via_text = codes "SIP/2.0/UDP 127.0.0.1:5060;branch=z9hG4bK0123456789abcdef-6"

abbrev via : Via
via = record {
  transport = codes "UDP";
  sent_by = codes "127.0.0.1:5060";
  host = codes "127.0.0.1";
  port = Some 5060;
  params = record { name = codes "branch"; value = Some (codes "z9hG4bK0123456789abcdef-6") } ∷ [];
}

-- the Via value is one element
via_is : via_at (first_part via_text) ≡ Some via
unfolding Classes.in_class Numbers.value_up_to Numbers.number_of Scanning.leading_run Scanning.after_run Scanning.split_once_at Scanning.closing_quote_from Scanning.without_trailing Reading.token_at
    Reading.text_at Reading.value_at Reading.param_at Reading.params_at Reading.all_params_at Reading.angle_of Reading.bare_of Reading.words_of Reading.quoted_of Reading.name_addr_of Reading.host_at
    Reading.port_number Reading.port_at via_at next_separator
via_is = ap (λ (vs : List (List ℕ)). via_at (trim (first_in vs))) (alone Outside via_text refl)

abbrev bob_read : NameAddr
bob_read = record { display = []; uri = codes "sip:bob@far.example"; params = record { name = codes "tag"; value = Some (codes "0123456789abcdef-1") } ∷ [] }

abbrev party_read : Person → NameAddr
party_read p = record {
  display = codes "\"" ++ name_of p ++ codes "\"";
  uri = codes "sip:" ++ user_of p ++ codes "@other.example";
  params = record { name = codes "tag"; value = Some (codes "a") } ∷ [];
}

parties_of_bye : parties_in server_bye.lines ≡ Some (bob_read, party_read Erin)
unfolding Classes.in_class Numbers.value_up_to Numbers.number_of Scanning.leading_run Scanning.after_run Scanning.split_once_at Scanning.closing_quote_from Scanning.without_trailing Reading.token_at
    Reading.text_at Reading.value_at Reading.param_at Reading.params_at Reading.all_params_at Reading.angle_of Reading.bare_of Reading.words_of Reading.quoted_of Reading.name_addr_of Reading.host_at
    Reading.port_number Reading.port_at parties_in
parties_of_bye = refl

parties_of_ok : (p : Person) → parties_in (ok_to_bye p).parsed.lines ≡ Some (bob_read, party_read p)
unfolding Classes.in_class Numbers.value_up_to Numbers.number_of Scanning.leading_run Scanning.after_run Scanning.split_once_at Scanning.closing_quote_from Scanning.without_trailing Reading.token_at
    Reading.text_at Reading.value_at Reading.param_at Reading.params_at Reading.all_params_at Reading.angle_of Reading.bare_of Reading.words_of Reading.quoted_of Reading.name_addr_of Reading.host_at
    Reading.port_number Reading.port_at parties_in
parties_of_ok Erin = refl
parties_of_ok Frank = refl

abbrev first_bye : CSeq
first_bye = record { number = 1; method = codes "BYE" }

call_of_bye : call_in server_bye.lines ≡ Some (codes "c1", first_bye)
unfolding Classes.in_class Numbers.value_up_to Numbers.number_of Scanning.leading_run Scanning.after_run Scanning.split_once_at Scanning.closing_quote_from Scanning.without_trailing Reading.token_at
    Reading.text_at Reading.value_at Reading.param_at Reading.params_at Reading.all_params_at Reading.angle_of Reading.bare_of Reading.words_of Reading.quoted_of Reading.name_addr_of Reading.host_at
    Reading.port_number Reading.port_at call_in cseq_at
call_of_bye = refl

call_of_ok : (p : Person) → call_in (ok_to_bye p).parsed.lines ≡ Some (codes "c1", first_bye)
unfolding Classes.in_class Numbers.value_up_to Numbers.number_of Scanning.leading_run Scanning.after_run Scanning.split_once_at Scanning.closing_quote_from Scanning.without_trailing Reading.token_at
    Reading.text_at Reading.value_at Reading.param_at Reading.params_at Reading.all_params_at Reading.angle_of Reading.bare_of Reading.words_of Reading.quoted_of Reading.name_addr_of Reading.host_at
    Reading.port_number Reading.port_at call_in cseq_at
call_of_ok p = refl

abbrev head_by : Start → Person → Head
head_by start p = head_with start (Some (record { via = via; from = bob_read; to = party_read p; call_id = codes "c1"; cseq = first_bye }))

head_is : (m : Message Start) (p : Person) → via_in m.lines ≡ Some via → parties_in m.lines ≡ Some (bob_read, party_read p) → call_in m.lines ≡ Some (codes "c1", first_bye) →
    head_of m ≡ head_by m.start p
unfolding head_of five_at
head_is m p one two three = rw (one, two, three) refl

answers_come : (p : Person) → class_of (head_of (message_in (ok_to_bye p).parsed)) (live (DidAsk phone server_bye 0 ∷ [])) ≡ part.Answer 0
answers_come p =
    ap (λ (h : Head). class_of h (live (DidAsk phone server_bye 0 ∷ []))) (head_is (message_in (ok_to_bye p).parsed) p via_is (parties_of_ok p) (call_of_ok p))
    ∙ ap (λ (h : Head). class_of (head_by (Status 200 (codes "OK")) p) (new_client_entry 0 0 0 phone h (message_text server_bye) 0 ∷ []))
    (head_is server_bye Erin via_is parties_of_bye call_of_bye)

pub they_come : (loaded : Texts) → TheyOccur loaded
they_come loaded = record { first = first_comes loaded; again = again_comes; answers = answers_come; stray = stray_comes loaded }
