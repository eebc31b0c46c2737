-- The disposition of a request determines its kind: in a dialog it enters that one, and what opens a call is an INVITE without To tag. And how the transactions classify a message determines whether it is a request.
use Rattle.std.proofs.Common.{◌≡◌, ℕ, Bool, true, false, not, ◌&&◌, ◌||◌, List, [], ◌∷◌, ◌++◌, refl, ap, sym, ◌∙◌, subst, Option, Some, None, Result, Ok, Err, codes, inl, inr}
use Rattle.std.specs.Prelude.{if◌then◌else◌, is_none, is_some}
use Rattle.std.specs.List.{find, list_any}
use Rattle.std.specs.Str.{bytes_eq}
use Rattle.std.proofs.lemmas.Bool.{cases_Bool}
use Rattle.std.proofs.lemmas.Slice.Eq.{bytes_eq-Decides}
use Rattle.mmtel_compose.specs.ReceivedMessages.{MessageView}
use Rattle.mmtel_b2bua.specs.declared.entries.Entry.{Entry}
use Rattle.mmtel_call_theorems.specs.Noninterference.Premises.{goes_across}
use Rattle.mmtel_directory.specs.declared.directories.Directory.{Directory}
use Rattle.mmtel_leg.specs.Dialogues.{request_uri}
use Rattle.mmtel_lex.specs.Reading.{Refusal, uri_of}
use Rattle.mmtel_lex.specs.declared.values.Uri.{Uri}
use Rattle.mmtel_message.specs.Fields.{five_at}
use Rattle.mmtel_message.specs.Faults as faults
use Rattle.mmtel_message.specs.Faults.{is_method}
use Rattle.mmtel_message.specs.Message.{Message}
use Rattle.mmtel_message.specs.declared.fields.Five.{Five}
use Rattle.mmtel_message.specs.declared.messages.Start.{Start}
use Rattle.mmtel_message.specs.declared.messages.Start.TheVariants.{Request, Status}
use Rattle.mmtel_sdp.specs.Offers.{offers_audio}
use Rattle.mmtel_transaction.specs.Results.{ack_class, class_of, is_client_of, is_full, is_server_of, request_class, response_class}
use Rattle.mmtel_transaction.specs.Heads.{head_of, head_with, is_ack, is_invite, is_refusal}
use Rattle.mmtel_transaction.specs.declared.entries.Entry as transactions
use Rattle.mmtel_transaction.specs.declared.heads.Head.{Head}
use Rattle.mmtel_transaction.specs.declared.message_class.MessageClass.{MessageClass}
use Rattle.mmtel_transaction.specs.declared.message_class.MessageClass.TheVariants as part
use Rattle.mmtel_trust.specs.ParsedMessage.{ParsedMessage}
use Rattle.mmtel_trust.specs.MaskedMessages.{public_part}
use Rattle.mmtel_types.specs.declared.numbers.Account.{Account}
use Rattle.mmtel_types.specs.declared.numbers.CallNo.{CallNo}
use Rattle.mmtel_types.specs.declared.numbers.RoomNo.{RoomNo}
use Rattle.mmtel_types.specs.declared.numbers.SubNo.{SubNo}
use Rattle.mmtel_types.specs.declared.sides.Side.{Side}
use Rattle.mmtel_types.specs.declared.sides.Side.TheVariants.{Caller, Callee}
use Rattle.mmtel_run_definitions.specs.OwnResponses.{StatusResponse, plain_response}
use Rattle.mmtel_run_definitions.specs.Calls.{find_dialog, name_by, named_by}
use Rattle.mmtel_run_definitions.specs.Refusals.{Disposition, Enter, EnterConference, EnterSubscription, JoinConference, OpenCall, OpenConference, Register, Respond, Subscribe, always_known}
use Rattle.mmtel_run_definitions.specs.Refusals.{disposition, disposition_by, disposition_by_method, entry_into, first_that_applies, in_dialog_disposition, invite_disposition, invite_disposition_at}
use Rattle.mmtel_run_definitions.specs.Refusals.{is_conference, is_factory, is_known_method, is_of_no_subscription, is_register, is_subscribe, known_if_reliable}
use Rattle.mmtel_run_definitions.specs.Refusals.{known_if_waiting, refusals, registration_disposition, registration_disposition_of, to_account}
use Rattle.mmtel_run_definitions.specs.Events.{message_in}
use Rattle.mmtel_run_definitions.specs.Ownership.{DialogOwner, InCall, InConference, InSubscription, in_call_or, in_conference_or, in_subscription}
use Rattle.mmtel_run_definitions.specs.Transitions.{RunState, calls_in}
use Rattle.mmtel_run_theorems.specs.Roles.{is_opening, is_subscribing, may_subscribe}
use Rattle.mmtel_run_theorems.proofs.RoleBounds.{true_false}

-- ---- kinds of dispositions

abbrev enters : Disposition → Bool
enters (Respond answer) = false
enters (Enter call side) = true
enters (EnterConference room seat) = true
enters OpenCall = false
enters OpenConference = false
enters (JoinConference room) = false
enters (Register account seconds) = false
enters Subscribe = false
enters (EnterSubscription sub) = true

-- it opens a call or a conference, or asks to join one
abbrev pub opens : Disposition → Bool
opens (Respond answer) = false
opens (Enter call side) = false
opens (EnterConference room seat) = false
opens OpenCall = true
opens OpenConference = true
opens (JoinConference room) = true
opens (Register account seconds) = false
opens Subscribe = false
opens (EnterSubscription sub) = false

-- the dialog that it enters
abbrev entered : DialogOwner → Disposition → DialogOwner
entered other (Respond answer) = other
entered other (Enter call side) = InCall call side
entered other (EnterConference room seat) = InConference room seat
entered other OpenCall = other
entered other OpenConference = other
entered other (JoinConference room) = other
entered other (Register account seconds) = other
entered other Subscribe = other
entered other (EnterSubscription sub) = InSubscription sub

enters_there : (x : DialogOwner) → enters (entry_into x) ≡ true
enters_there (InCall call side) = refl
enters_there (InConference room seat) = refl
enters_there (InSubscription sub) = refl

no_opening : (x : DialogOwner) → opens (entry_into x) ≡ false
no_opening (InCall call side) = refl
no_opening (InConference room seat) = refl
no_opening (InSubscription sub) = refl

entered_there : (other x : DialogOwner) → entered other (entry_into x) ≡ x
entered_there other (InCall call side) = refl
entered_there other (InConference room seat) = refl
entered_there other (InSubscription sub) = refl

if_no : (k : Disposition → Bool) (b : Bool) (x y : Disposition) → k x ≡ false → k y ≡ false → k (if b then x else y) ≡ false
if_no k true x y e f = e
if_no k false x y e f = f

-- ---- what enters a dialog names it

registers : (k : Disposition → Bool) (o : Option Account) (m : ParsedMessage) → ((answer : StatusResponse) → k (Respond answer) ≡ false) →
    ((account : Account) (seconds : ℕ) → k (Register account seconds) ≡ false) → k (registration_disposition_of o m) ≡ false
registers k None m e f = e (plain_response 404)
registers k (Some account) m e f = f account _

invite_disposition_enters : (d : Directory) (full : Bool) (m : ParsedMessage) (r : Result Uri Refusal) → enters (invite_disposition_at d full m r) ≡ false
invite_disposition_enters d full m (Ok target) =
    if_no enters (is_factory d.factory target) _ _ (if_no enters (offers_audio m.body) _ _ refl refl)
    (if_no enters (is_conference d.sip target) _ _ (if_no enters (offers_audio m.body) _ _ refl refl) (if_no enters full _ _ refl refl))
invite_disposition_enters d full m (Err refusal) = if_no enters full _ _ refl refl

method_enters : (d : Directory) (full : Bool) (m : ParsedMessage) → enters (disposition_by_method d full m) ≡ false
method_enters d full m =
    if_no enters (is_method (codes "OPTIONS") m.start) _ _ refl
    (if_no enters (is_method (codes "REFER") m.start) _ _ refl
    (if_no enters (is_method (codes "INVITE") m.start) _ _ (invite_disposition_enters d full m (uri_of (request_uri m.start)))
    (if_no enters (is_register m) _ _
    (if_no enters m.trusted _ _ (registers enters (to_account d.names.accounts m) m (λ answer. refl) (λ account seconds. refl)) refl)
    (if_no enters (is_subscribe m) Subscribe (Respond (plain_response 481)) refl refl))))

-- what enters the dialog of its owner enters that one
in_dialog_disposition_named : (m : ParsedMessage) (y x : DialogOwner) → in_dialog_disposition y m ≡ entry_into x → y ≡ x
in_dialog_disposition_named m y x e = go (is_subscribe m && is_of_no_subscription y) e
  where
    go : (c : Bool) → (if c then Respond (plain_response 481) else entry_into y) ≡ entry_into x → y ≡ x
    go true f = absurd (true_false (sym (ap enters f ∙ enters_there x)))
    go false f = sym (entered_there x y) ∙ (ap (entered x) f ∙ entered_there x x)

opens_entering : (m : ParsedMessage) (x : DialogOwner) → opens (in_dialog_disposition x m) ≡ false
opens_entering m x = if_no opens (is_subscribe m && is_of_no_subscription x) (Respond (plain_response 481)) (entry_into x) refl (no_opening x)

enters_by : (d : Directory) (full : Bool) (named : Option DialogOwner) (m : ParsedMessage) (o : Option StatusResponse) (x : DialogOwner) → disposition_by d full named m o ≡ entry_into x → named ≡ Some x
enters_by d full None m None x e = absurd (true_false (sym (ap enters e ∙ enters_there x) ∙ method_enters d full m))
enters_by d full (Some y) m None x e = ap (λ (h : DialogOwner). Some h) (in_dialog_disposition_named m y x e)
enters_by d full named m (Some answer) x e = absurd (true_false (sym (ap enters e ∙ enters_there x)))

pub enters_named : (d : Directory) (merged full : Bool) (named : Option DialogOwner) (m : ParsedMessage) (x : DialogOwner) → disposition d merged full named m ≡ entry_into x → named ≡ Some x
unfolding disposition
enters_named d merged full named m x e = enters_by d full named (public_part m) (first_that_applies (refusals d merged (is_some named) (public_part m))) x e

-- the owner where a call has the dialog
none_some : (A : Type 0) (x : A) → None ≡ Some x → ⊥
none_some A x e = cc

abbrev call_in : CallNo × Side → DialogOwner → CallNo × Side
call_in other (InCall call side) = (call, side)
call_in other (InConference room seat) = other
call_in other (InSubscription sub) = other

abbrev is_call : DialogOwner → Bool
is_call (InCall call side) = true
is_call (InConference room seat) = false
is_call (InSubscription sub) = false

abbrev owner_or : DialogOwner → Option DialogOwner → DialogOwner
owner_or other None = other
owner_or other (Some x) = x

of_room : (b : Option SubNo) (o : Option (RoomNo × ℕ)) (x : CallNo × Side) → in_conference_or (in_subscription b) o ≡ Some (InCall x.0 x.1) → ⊥
of_room None None x e = none_some DialogOwner (InCall x.0 x.1) e
of_room (Some sub) None x e = true_false (sym (ap (λ (o : Option DialogOwner). is_call (owner_or (InCall x.0 x.1) o)) e))
of_room b (Some y) x e = true_false (sym (ap (λ (o : Option DialogOwner). is_call (owner_or (InCall x.0 x.1) o)) e))

-- it is no call's where it has no owner, or is a subscription's
pub of_nobody : (b : Option SubNo) (r : Option (RoomNo × ℕ)) (o : Option (CallNo × Side)) → in_call_or (in_conference_or (in_subscription b) r) o ≡ None → o ≡ None
of_nobody b r None e = refl
of_nobody b r (Some y) e = let n : None ≡ Some (InCall y.0 y.1) = sym e in absurd (none_some DialogOwner (InCall y.0 y.1) n)

pub of_box : (b : Option SubNo) (r : Option (RoomNo × ℕ)) (o : Option (CallNo × Side)) (sub : SubNo) → in_call_or (in_conference_or (in_subscription b) r) o ≡ Some (InSubscription sub) → o ≡ None
of_box b r None sub e = refl
of_box b r (Some y) sub e = absurd (true_false (ap (λ (o : Option DialogOwner). is_call (owner_or (InSubscription sub) o)) e))

pub of_call : (b : Option SubNo) (r : Option (RoomNo × ℕ)) (o : Option (CallNo × Side)) (x : CallNo × Side) → in_call_or (in_conference_or (in_subscription b) r) o ≡ Some (InCall x.0 x.1) → o ≡ Some x
of_call b r None x e = absurd (of_room b r x e)
of_call b r (Some y) x e = ap (λ (o : Option DialogOwner). Some (call_in x (owner_or (InCall x.0 x.1) o))) e

-- it has a tag of the server
tagged_by : (c t f : Option (List ℕ)) (es : List Entry) (x : CallNo × Side) → find_dialog (name_by c t f) es ≡ Some x → is_none t ≡ false
tagged_by None t f es x e = let n : None ≡ Some x = e in absurd cc
tagged_by (Some c) None f es x e = let n : None ≡ Some x = e in absurd cc
tagged_by (Some c) (Some t) f es x e = refl

pub named_tagged : (m : ParsedMessage) (es : List Entry) (x : CallNo × Side) → named_by m es ≡ Some x → is_opening m ≡ false
named_tagged m es x e = elim (cases_Bool (is_method (codes "INVITE") m.start)) [
  | inl y ↦ ap (λ (b : Bool). b && is_none m.to_tag) y ∙ tagged_by m.call_id m.to_tag m.from_tag es x e
  | inr n ↦ ap (λ (b : Bool). b && is_none m.to_tag) n
]

-- ---- what opens a call or a conference, or asks to join one, is an INVITE without To tag

method_opens : (d : Directory) (full : Bool) (m : ParsedMessage) → is_method (codes "INVITE") m.start ≡ false → opens (disposition_by_method d full m) ≡ false
method_opens d full m none =
    if_no opens (is_method (codes "OPTIONS") m.start) _ _ refl
    (if_no opens (is_method (codes "REFER") m.start) _ _ refl
    (ap (λ (b : Bool). opens (if b then invite_disposition d full m else if is_register m then registration_disposition d.names.accounts m else if is_subscribe m then Subscribe else Respond (plain_response 481))) none
    ∙ if_no opens (is_register m) _ _
    (if_no opens m.trusted _ _ (registers opens (to_account d.names.accounts m) m (λ answer. refl) (λ account seconds. refl)) refl)
    (if_no opens (is_subscribe m) Subscribe (Respond (plain_response 481)) refl refl)))

-- of a list of refusals none applies
abbrev first_holds : List (Bool × StatusResponse) → Bool
first_holds [] = false
first_holds (x ∷ xs) = x.0

abbrev later : List (Bool × StatusResponse) → List (Bool × StatusResponse)
later [] = []
later (x ∷ xs) = xs

passes : (xs : List (Bool × StatusResponse)) → first_that_applies xs ≡ None → (first_holds xs ≡ false) × (first_that_applies (later xs) ≡ None)
passes [] e = (refl, refl)
passes (x ∷ xs) e = elim (cases_Bool x.0) [
  | inl y ↦ let some : Some x.1 ≡ None = sym (ap (λ (b : Bool). if b then Some x.1 else first_that_applies xs) y) ∙ e in absurd cc
  | inr n ↦ (n, sym (ap (λ (b : Bool). if b then Some x.1 else first_that_applies xs) n) ∙ e)
]

some_none : (t : Option (List ℕ)) → (is_some t && true) ≡ false → is_none t ≡ true
some_none None e = refl
some_none (Some t) e = absurd (true_false e)

untagged : (d : Directory) (merged : Bool) (m : ParsedMessage) → first_that_applies (refusals d merged false m) ≡ None → is_none m.to_tag ≡ true
untagged d merged m e =
    let xs : List (Bool × StatusResponse) = refusals d merged false m in
    let one = passes xs e in
    let two = passes (later xs) one.1 in
    let three = passes (later (later xs)) two.1 in
    some_none m.to_tag (passes (later (later (later xs))) three.1).0

opens_by : (d : Directory) (merged full : Bool) (named : Option DialogOwner) (m : ParsedMessage) (o : Option StatusResponse) → first_that_applies (refusals d merged (is_some named) m) ≡ o →
    opens (disposition_by d full named m o) ≡ true → is_opening m ≡ true
opens_by d merged full None m None none e = elim (cases_Bool (is_method (codes "INVITE") m.start)) [
  | inl y ↦ ap (λ (b : Bool). b && is_none m.to_tag) y ∙ untagged d merged m none
  | inr n ↦ absurd (true_false (sym e ∙ method_opens d full m n))
]
opens_by d merged full (Some x) m None none e = absurd (true_false (sym e ∙ opens_entering m x))
opens_by d merged full named m (Some answer) none e = absurd (true_false (sym e))

pub opens_opening : (d : Directory) (merged full : Bool) (named : Option DialogOwner) (m : ParsedMessage) → opens (disposition d merged full named m) ≡ true → is_opening m ≡ true
unfolding disposition
opens_opening d merged full named m e = opens_by d merged full named (public_part m) (first_that_applies (refusals d merged (is_some named) (public_part m))) refl e

-- ---- what enters a dialog has a known method: it is no PRACK and no UPDATE where these are switched off

not_false : (b : Bool) → not b ≡ false → b ≡ true
not_false true e = refl
not_false false e = absurd (true_false e)

abbrev pub refuses : Disposition → Bool
refuses (Respond answer) = true
refuses (Enter call side) = false
refuses (EnterConference room seat) = false
refuses OpenCall = false
refuses OpenConference = false
refuses (JoinConference room) = false
refuses (Register account seconds) = false
refuses Subscribe = false
refuses (EnterSubscription sub) = false

taken_there : (x : DialogOwner) → refuses (entry_into x) ≡ false
taken_there (InCall call side) = refl
taken_there (InConference room seat) = refl
taken_there (InSubscription sub) = refl

-- so has whatever is not refused
known_by : (d : Directory) (merged full : Bool) (named : Option DialogOwner) (m : ParsedMessage) (o : Option StatusResponse) → first_that_applies (refusals d merged (is_some named) m) ≡ o
    → refuses (disposition_by d full named m o) ≡ false → is_known_method d m.start ≡ true
known_by d merged full named m None none e = not_false (is_known_method d m.start) (passes (refusals d merged (is_some named) m) none).0
known_by d merged full named m (Some answer) none e = absurd (true_false e)

abbrev methods : (reliable waiting : Bool) → List (List ℕ)
methods reliable waiting = always_known ++ (known_if_reliable reliable ++ known_if_waiting waiting)

unlisted : (names : List (List ℕ)) (start : Start) (name : List ℕ) → list_any (λ (n : List ℕ). bytes_eq name n) names ≡ false → list_any (λ (n : List ℕ). is_method n start) names ≡ true → is_method name start ≡ false
unlisted names (Request method uri) name none known = elim (cases_Bool (bytes_eq method name)) [
  | inl y ↦
      let same : method ≡ name = (bytes_eq-Decides method name).0 y in
      absurd (true_false (sym known ∙ subst (λ (b : List ℕ). list_any (λ (n : List ℕ). bytes_eq b n) names ≡ false) (sym same) none))
  | inr n ↦ n
]
unlisted names (Status code phrase) name none known = refl

no_prack : (r w : Bool) → r ≡ false → list_any (λ (n : List ℕ). bytes_eq (codes "PRACK") n) (methods r w) ≡ false
no_prack true w off = absurd (true_false off)
no_prack false true off = refl
no_prack false false off = refl

no_update : (r w : Bool) → r ≡ false → list_any (λ (n : List ℕ). bytes_eq (codes "UPDATE") n) (methods r w) ≡ false
no_update true w off = absurd (true_false off)
no_update false true off = refl
no_update false false off = refl

no_subscribe : (r w : Bool) → w ≡ false → list_any (λ (n : List ℕ). bytes_eq (codes "SUBSCRIBE") n) (methods r w) ≡ false
no_subscribe r true off = absurd (true_false off)
no_subscribe true false off = refl
no_subscribe false false off = refl

neither : (b c : Bool) → b ≡ false → c ≡ false → (b || c) ≡ false
neither false false e f = refl
neither false true e f = absurd (true_false f)
neither true c e f = absurd (true_false e)

across_by : (side : Side) (m : MessageView) → is_method (codes "PRACK") m.parsed.start ≡ false → is_method (codes "UPDATE") m.parsed.start ≡ false → goes_across side m ≡ false
across_by Caller m e f = neither (is_method (codes "PRACK") m.parsed.start) (is_method (codes "UPDATE") m.parsed.start) e f
across_by Callee m e f = f

pub known_across : (d : Directory) (merged full : Bool) (named : Option DialogOwner) (side : Side) (m : MessageView) (x : DialogOwner) → disposition d merged full named m.parsed ≡ entry_into x → d.reliable ≡ false →
    goes_across side m ≡ false
unfolding disposition
known_across d merged full named side m x e off =
    let names : List (List ℕ) = methods d.reliable d.names.mwi in
    let known = known_by d merged full named (public_part m.parsed) (first_that_applies (refusals d merged (is_some named) (public_part m.parsed))) refl (ap refuses e ∙ taken_there x) in
    across_by side m (unlisted names m.parsed.start (codes "PRACK") (no_prack d.reliable d.names.mwi off) known) (unlisted names m.parsed.start (codes "UPDATE") (no_update d.reliable d.names.mwi off) known)

-- ---- a SUBSCRIBE that is not refused comes where message waiting is switched on, and opens nothing

pub subscribe_waits : (d : Directory) (merged full : Bool) (named : Option DialogOwner) (m : ParsedMessage) → refuses (disposition d merged full named m) ≡ false → is_subscribe m ≡ true → may_subscribe d m ≡ true
unfolding disposition
subscribe_waits d merged full named m taken is =
    let known = known_by d merged full named (public_part m) (first_that_applies (refusals d merged (is_some named) (public_part m))) refl taken in
    elim (cases_Bool d.names.mwi) [
      | inl y ↦ ap (λ (b : Bool). b && d.names.mwi) is ∙ y
      | inr n ↦ absurd (true_false (sym is ∙ unlisted (methods d.reliable d.names.mwi) m.start (codes "SUBSCRIBE") (no_subscribe d.reliable d.names.mwi n) known))
    ]

-- what names a dialog of a call subscribes to nothing
never : (b : Bool) → (b && false) ≡ false
never true = refl
never false = refl

pub subscribes_elsewhere : (d : Directory) (w : RunState) (m : ParsedMessage) (x : CallNo × Side) → named_by m (calls_in d w).entries ≡ Some x → is_subscribing d w m ≡ false
subscribes_elsewhere d w m x named = ap (λ (o : Option (CallNo × Side)). may_subscribe d m && is_none o) named ∙ never (may_subscribe d m)

other_method : (start : Start) (one other : List ℕ) → bytes_eq one other ≡ false → is_method one start ≡ true → is_method other start ≡ false
other_method (Request method uri) one other differ e = subst (λ (b : List ℕ). bytes_eq b other ≡ false) (sym ((bytes_eq-Decides method one).0 e)) differ
other_method (Status code phrase) one other differ e = refl

pub subscribe_opens_nothing : (m : ParsedMessage) → is_subscribe m ≡ true → is_opening m ≡ false
subscribe_opens_nothing m is = ap (λ (b : Bool). b && is_none m.to_tag) (other_method m.start (codes "SUBSCRIBE") (codes "INVITE") refl is)

-- ---- what subscribes is a SUBSCRIBE outside a dialog

abbrev subscribes : Disposition → Bool
subscribes (Respond answer) = false
subscribes (Enter call side) = false
subscribes (EnterConference room seat) = false
subscribes OpenCall = false
subscribes OpenConference = false
subscribes (JoinConference room) = false
subscribes (Register account seconds) = false
subscribes Subscribe = true
subscribes (EnterSubscription sub) = false

none_there : (x : DialogOwner) → subscribes (entry_into x) ≡ false
none_there (InCall call side) = refl
none_there (InConference room seat) = refl
none_there (InSubscription sub) = refl

invite_disposition_subscribes : (d : Directory) (full : Bool) (m : ParsedMessage) (r : Result Uri Refusal) → subscribes (invite_disposition_at d full m r) ≡ false
invite_disposition_subscribes d full m (Ok target) =
    if_no subscribes (is_factory d.factory target) _ _ (if_no subscribes (offers_audio m.body) _ _ refl refl)
    (if_no subscribes (is_conference d.sip target) _ _ (if_no subscribes (offers_audio m.body) _ _ refl refl) (if_no subscribes full _ _ refl refl))
invite_disposition_subscribes d full m (Err refusal) = if_no subscribes full _ _ refl refl

method_subscribes : (d : Directory) (full : Bool) (m : ParsedMessage) → is_subscribe m ≡ false → subscribes (disposition_by_method d full m) ≡ false
method_subscribes d full m none =
    if_no subscribes (is_method (codes "OPTIONS") m.start) _ _ refl
    (if_no subscribes (is_method (codes "REFER") m.start) _ _ refl
    (if_no subscribes (is_method (codes "INVITE") m.start) _ _ (invite_disposition_subscribes d full m (uri_of (request_uri m.start)))
    (if_no subscribes (is_register m) _ _
    (if_no subscribes m.trusted _ _ (registers subscribes (to_account d.names.accounts m) m (λ answer. refl) (λ account seconds. refl)) refl)
    (ap (λ (b : Bool). subscribes (if b then Subscribe else Respond (plain_response 481))) none))))

subscribes_by : (d : Directory) (full : Bool) (named : Option DialogOwner) (m : ParsedMessage) (o : Option StatusResponse) → subscribes (disposition_by d full named m o) ≡ true → (named ≡ None) × (is_subscribe m ≡ true)
subscribes_by d full None m None e = elim (cases_Bool (is_subscribe m)) [
  | inl y ↦ (refl, y)
  | inr n ↦ absurd (true_false (sym e ∙ method_subscribes d full m n))
]
subscribes_by d full (Some x) m None e = absurd (true_false (sym e ∙ if_no subscribes (is_subscribe m && is_of_no_subscription x) (Respond (plain_response 481)) (entry_into x) refl (none_there x)))
subscribes_by d full named m (Some answer) e = absurd (true_false (sym e))

pub subscribes_alone : (d : Directory) (merged full : Bool) (named : Option DialogOwner) (m : ParsedMessage) → disposition d merged full named m ≡ Subscribe → (named ≡ None) × (is_subscribe m ≡ true)
unfolding disposition
subscribes_alone d merged full named m e = subscribes_by d full named (public_part m) (first_that_applies (refusals d merged (is_some named) (public_part m))) (ap subscribes e)

-- ---- requests and responses

request_by : (start : Start) (o : Option Five) → (head_with start o).is_request ≡ faults.is_request start
request_by (Request method uri) None = refl
request_by (Request method uri) (Some five) = refl
request_by (Status code phrase) None = refl
request_by (Status code phrase) (Some five) = refl

pub head_request : (m : Message Start) → (head_of m).is_request ≡ faults.is_request m.start
unfolding head_of
head_request m = request_by m.start (five_at m.lines)

-- a classification of a request, and one of a response
abbrev of_request : MessageClass → Bool
of_request part.Fresh = true
of_request part.Full = true
of_request (part.Repeat key) = true
of_request (part.RepeatedFinal key) = false
of_request (part.Answer key) = false
of_request (part.Acked key) = true
of_request part.AckOf2xx = true
of_request part.Stray = false

ack_part : (o : Option transactions.Entry) → of_request (ack_class o) ≡ true
ack_part None = refl
ack_part (Some e) = elim (cases_Bool e.is_refused) [
  | inl y ↦ ap (λ (b : Bool). of_request (if b then part.Acked e.key else part.AckOf2xx)) y
  | inr n ↦ ap (λ (b : Bool). of_request (if b then part.Acked e.key else part.AckOf2xx)) n
]

request_part : (full : Bool) (o : Option transactions.Entry) → of_request (request_class full o) ≡ true
request_part full (Some e) = refl
request_part true None = refl
request_part false None = refl

response_part : (m : Head) (o : Option transactions.Entry) → of_request (response_class m o) ≡ false
response_part m None = refl
response_part m (Some e) = elim (cases_Bool (is_invite e.head && e.is_refused && is_refusal m.status)) [
  | inl y ↦ ap (λ (b : Bool). of_request (if b then part.RepeatedFinal e.key else part.Answer e.key)) y
  | inr n ↦ ap (λ (b : Bool). of_request (if b then part.RepeatedFinal e.key else part.Answer e.key)) n
]

part_tells : (b c : Bool) (m : Head) (es : List transactions.Entry)
    → of_request (if b then (if c then ack_class (find (is_server_of m) es) else request_class (is_full es) (find (is_server_of m) es)) else response_class m (find (is_client_of m) es)) ≡ b
part_tells true true m es = ack_part (find (is_server_of m) es)
part_tells true false m es = request_part (is_full es) (find (is_server_of m) es)
part_tells false c m es = response_part m (find (is_client_of m) es)

tells : (m : Message Start) (es : List transactions.Entry) → of_request (class_of (head_of m) es) ≡ faults.is_request m.start
tells m es = part_tells (head_of m).is_request (is_ack (head_of m)) (head_of m) es ∙ head_request m

pub fresh_request : (m : Message Start) (es : List transactions.Entry) → class_of (head_of m) es ≡ part.Fresh → faults.is_request m.start ≡ true
fresh_request m es e = sym (tells m es) ∙ ap of_request e

pub full_request : (m : Message Start) (es : List transactions.Entry) → class_of (head_of m) es ≡ part.Full → faults.is_request m.start ≡ true
full_request m es e = sym (tells m es) ∙ ap of_request e

pub answer_response : (m : Message Start) (es : List transactions.Entry) (key : ℕ) → class_of (head_of m) es ≡ part.Answer key → faults.is_request m.start ≡ false
answer_response m es key e = sym (tells m es) ∙ ap of_request e

-- ---- an ACK of a 2xx

abbrev of_ack : MessageClass → Bool
of_ack part.Fresh = false
of_ack part.Full = false
of_ack (part.Repeat key) = false
of_ack (part.RepeatedFinal key) = false
of_ack (part.Answer key) = false
of_ack (part.Acked key) = false
of_ack part.AckOf2xx = true
of_ack part.Stray = false

request_ack : (full : Bool) (o : Option transactions.Entry) → of_ack (request_class full o) ≡ false
request_ack full (Some e) = refl
request_ack true None = refl
request_ack false None = refl

response_ack : (m : Head) (o : Option transactions.Entry) → of_ack (response_class m o) ≡ false
response_ack m None = refl
response_ack m (Some e) = elim (cases_Bool (is_invite e.head && e.is_refused && is_refusal m.status)) [
  | inl y ↦ ap (λ (b : Bool). of_ack (if b then part.RepeatedFinal e.key else part.Answer e.key)) y
  | inr n ↦ ap (λ (b : Bool). of_ack (if b then part.RepeatedFinal e.key else part.Answer e.key)) n
]

ack_by : (b c : Bool) (m : Head) (es : List transactions.Entry)
    → of_ack (if b then (if c then ack_class (find (is_server_of m) es) else request_class (is_full es) (find (is_server_of m) es)) else response_class m (find (is_client_of m) es)) ≡ true → c ≡ true
ack_by true true m es e = refl
ack_by true false m es e = absurd (true_false (sym e ∙ request_ack (is_full es) (find (is_server_of m) es)))
ack_by false c m es e = absurd (true_false (sym e ∙ response_ack m (find (is_client_of m) es)))

pub ack_taken : (m : Message Start) (es : List transactions.Entry) → class_of (head_of m) es ≡ part.AckOf2xx → is_ack (head_of m) ≡ true
ack_taken m es e = ack_by (head_of m).is_request (is_ack (head_of m)) (head_of m) es (ap of_ack e)

-- is neither PRACK nor UPDATE
apart : (start : Start) (o : Option Five) (name : List ℕ) → bytes_eq (codes "ACK") name ≡ false → bytes_eq (head_with start o).method (codes "ACK") ≡ true → is_method name start ≡ false
apart (Request method uri) None name other e = subst (λ (b : List ℕ). bytes_eq b name ≡ false) (sym ((bytes_eq-Decides method (codes "ACK")).0 e)) other
apart (Request method uri) (Some five) name other e = subst (λ (b : List ℕ). bytes_eq b name ≡ false) (sym ((bytes_eq-Decides method (codes "ACK")).0 e)) other
apart (Status code phrase) o name other e = refl

pub no_ack_across : (side : Side) (m : MessageView) → is_ack (head_of (message_in m.parsed)) ≡ true → goes_across side m ≡ false
unfolding head_of
no_ack_across side m e =
    let five : Option Five = five_at (message_in m.parsed).lines in
    across_by side m (apart m.parsed.start five (codes "PRACK") refl e) (apart m.parsed.start five (codes "UPDATE") refl e)
