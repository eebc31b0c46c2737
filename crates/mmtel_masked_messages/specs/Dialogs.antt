-- What a leg reads of a message without its private places (RFC 3261 §12.1.1, §12.1.2, §12.2.1.1): the tags, the route set and the numbers are never private, and the target is
-- private where Contact is.
use Rattle.std.specs.Prelude.{◌≡◌, true, false, ℕ, List, Some, codes}
use Rattle.mmtel_lex.specs.Reading.{name_addr_of}
use Rattle.mmtel_lex.specs.declared.values.NameAddr.{NameAddr}
use Rattle.mmtel_history.specs.HistoryInfo.{anonymous}
use Rattle.mmtel_leg.specs.Dialogues.{caller_dialogue, number_in}
use Rattle.mmtel_leg.specs.Remotes.{contact_uri, field, field_of, remote_of, route_set, tag_in}
use Rattle.mmtel_leg.specs.declared.remotes.Remote.{Remote}
use Rattle.mmtel_leg.specs.declared.dialogues.Dialogue.{Dialogue}
use Rattle.mmtel_message.specs.Faults.{is_request}
use Rattle.mmtel_message.specs.Message.{Line, Message, first_value}
use Rattle.mmtel_message.specs.Guarantees.{IsOnePerLine}
use Rattle.mmtel_message.specs.declared.messages.Start.{Start}
use Rattle.mmtel_trust.specs.PrivateFields.{PrivateFields, hide_if, masked_lines, masked_message, private_fields_in}
use Rattle.mmtel_types.specs.declared.numbers.Peer.{Peer}
use Rattle.mmtel_types.specs.declared.sides.Side.{Side}

-- ---- of masked lines

abbrev pub TagsStay : Type 0
TagsStay = (p : PrivateFields) (side : Side) (ls : List Line) → tag_in (field_of side) (masked_lines p ls) ≡ tag_in (field_of side) ls

abbrev pub RoutesStay : Type 0
RoutesStay = (p : PrivateFields) (side : Side) (ls : List Line) → route_set side (masked_lines p ls) ≡ route_set side ls

abbrev pub NumbersStay : Type 0
NumbersStay = (p : PrivateFields) (ls : List Line) → number_in (masked_lines p ls) ≡ number_in ls

-- the sender, with another target
abbrev pub with_remote_target : List ℕ → Remote → Remote
with_remote_target target r = record r { target = target }

-- of the sender the target alone may differ
abbrev pub RemotesDifferInTarget : Type 0
RemotesDifferInTarget = (p : PrivateFields) (side : Side) (ls : List Line) →
    remote_of side (masked_lines p ls) ≡ with_remote_target (contact_uri (masked_lines p ls)) (remote_of side ls)

-- it stays where Contact is not private
abbrev pub ContactDecides : Type 0
ContactDecides = (p : PrivateFields) (ls : List Line) → p.contact ≡ false → contact_uri (masked_lines p ls) ≡ contact_uri ls

-- and is anonymous where it is, the first Contact parses, and each masked line has one value
abbrev pub TargetsAreAnonymous : Type 0
TargetsAreAnonymous = (p : PrivateFields) (ls : List Line) (v : List ℕ) (n : NameAddr) → p.contact ≡ true → IsOnePerLine (codes "Contact") (masked_lines p ls) →
    first_value (codes "Contact") ls ≡ Some v → name_addr_of v ≡ Some n → contact_uri (masked_lines p ls) ≡ anonymous

-- ---- a caller's dialog

-- the dialog with this as the value of the other side
abbrev pub with_remote_value : List ℕ → Dialogue → Dialogue
with_remote_value remote d = record d { remote = remote }

-- the dialog of an INVITE differs in the caller's value alone, which is hidden where From is private
abbrev pub DialogsDifferInRemote : Type 0
DialogsDifferInRemote = (p : PrivateFields) (peer : Peer) (ls : List Line) (tag : List ℕ) → p.to ≡ false →
    caller_dialogue peer (masked_lines p ls) tag ≡ with_remote_value (hide_if p.from (field (codes "From") ls)) (caller_dialogue peer ls tag)

-- ---- of two messages that are equal when masked, each by its own places

-- Contact is private in neither, where their start line is this one
abbrev pub ContactIsPublic : PrivateFields → PrivateFields → Start → Type 0
ContactIsPublic p q start = ((private_fields_in start p).contact ≡ false) × ((private_fields_in start q).contact ≡ false)

-- the same is read of the sender, except for the target; that too where Contact is private in neither
pub record HaveSameDialogFields (p q : PrivateFields) (side : Side) (m n : Message Start) : Type 0 where
  pub tag : tag_in (field_of side) m.lines ≡ tag_in (field_of side) n.lines
  pub routes : route_set side m.lines ≡ route_set side n.lines
  pub number : number_in m.lines ≡ number_in n.lines
  pub remote : ContactIsPublic p q m.start → remote_of side m.lines ≡ remote_of side n.lines

abbrev pub EquivalentSendersHaveOneName : Type 0
EquivalentSendersHaveOneName = (p q : PrivateFields) (side : Side) (m n : Message Start) → masked_message p m ≡ masked_message q n → HaveSameDialogFields p q side m n

-- the dialogs of two such INVITEs differ in the caller's value alone
abbrev pub EquivalentDialogsDifferInRemote : Type 0
EquivalentDialogsDifferInRemote = (p q : PrivateFields) (m n : Message Start) (peer : Peer) (tag : List ℕ) → is_request m.start ≡ true → masked_message p m ≡ masked_message q n →
    with_remote_value (field (codes "From") n.lines) (caller_dialogue peer m.lines tag) ≡ caller_dialogue peer n.lines tag
