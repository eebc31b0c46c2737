-- The requests that the server makes of a message without its private places: the INVITE of an attempt, and what is relayed in a dialog (RFC 3261 §12.2.1.1, §16.6). What is
-- private of a restricted sender, and of any sender's History-Info, is seen by no untrusted peer (RFC 3323 §4.1, RFC 3325 §7, RFC 7044 §10.1).
use Rattle.std.specs.Prelude.{◌≡◌, Bool, true, false, ℕ, List}
use Rattle.mmtel_history.specs.HistoryInfo.{masked_list}
use Rattle.mmtel_history.specs.declared.entries.Entry.{Entry}
use Rattle.mmtel_leg.specs.Requests.{RequestPartsView, request_numbered}
use Rattle.mmtel_leg.specs.declared.dialogues.Dialogue.{Dialogue}
use Rattle.mmtel_message.specs.Message.{Line, Message}
use Rattle.mmtel_message.specs.declared.messages.Start.{Start}
use Rattle.mmtel_transaction.specs.Heads.{head_of}
use Rattle.mmtel_trust.specs.PrivateFields.{Entries, PrivateFields, masked_message, only_entries}
use Rattle.mmtel_trust.specs.HeaderTable.{attempt_from, shown_lines}
use Rattle.mmtel_trust.specs.declared.header_table.Facing.{Facing}
use Rattle.mmtel_masked_messages.specs.Responses.{AreNoOwnFields}

-- ---- what is sent

-- the parts of a request, with these shown lines
abbrev pub with_lines : List Line → RequestPartsView → RequestPartsView
with_lines ls given = record given { shown = ls }

-- the parts of a request with those of a message: the lines that the header table passes, with this History-Info of the call
abbrev pub with_shown_lines : Facing → Bool → List Entry → Message Start → RequestPartsView → RequestPartsView
with_shown_lines f to_trusted h m given = with_lines (shown_lines f to_trusted h m.start m.lines) given

-- what is relayed of a message in a dialog
abbrev pub relayed_request : Facing → Bool → List Entry → Message Start → Dialogue → ℕ → List ℕ → RequestPartsView → Message Start
relayed_request f to_trusted h m d number method given = request_numbered d number method (with_shown_lines f to_trusted h m given)

-- the dialog of an attempt: From is as the message has it, or anonymous (RFC 3323 §4.1.1.3)
abbrev pub with_attempt_from : Facing → List ℕ → Message Start → Dialogue → Dialogue
with_attempt_from f tag m d = record d { local = attempt_from f.restricted tag m.lines }

-- an attempt that is made of a message
abbrev pub attempt_request : Facing → Bool → List Entry → List ℕ → Message Start → Dialogue → ℕ → List ℕ → RequestPartsView → Message Start
attempt_request f to_trusted h tag m d number method given = relayed_request f to_trusted h m (with_attempt_from f tag m d) number method given

-- ---- a restricted sender

-- from messages that are equal when masked an untrusted peer gets the same attempt, where the calls' lists are the same as far as it may see them
abbrev pub AttemptsAreHidden : Type 0
AttemptsAreHidden = (p q : PrivateFields) (f : Facing) (h k : List Entry) (tag : List ℕ) (m n : Message Start) (d : Dialogue) (number : ℕ)
    (method : List ℕ) (given : RequestPartsView) →
    f.restricted ≡ true → masked_message p m ≡ masked_message q n → masked_list f.mask_all h ≡ masked_list f.mask_all k →
    attempt_request f false h tag m d number method given ≡ attempt_request f false k tag n d number method given

-- and the same relayed request
abbrev pub RelayedAreHidden : Type 0
RelayedAreHidden = (p q : PrivateFields) (f : Facing) (h k : List Entry) (m n : Message Start) (d : Dialogue) (number : ℕ) (method : List ℕ) (given : RequestPartsView) →
    f.restricted ≡ true → masked_message p m ≡ masked_message q n → masked_list f.mask_all h ≡ masked_list f.mask_all k →
    relayed_request f false h m d number method given ≡ relayed_request f false k n d number method given

-- any peer gets attempts with the same head, whatever the messages and the lists are
abbrev pub AttemptsHaveOneHead : Type 0
AttemptsHaveOneHead = (f : Facing) (b c : Bool) (h k : List Entry) (tag : List ℕ) (m n : Message Start) (d : Dialogue) (number : ℕ) (method : List ℕ) (given : RequestPartsView) →
    f.restricted ≡ true → head_of (attempt_request f b h tag m d number method given) ≡ head_of (attempt_request f c k tag n d number method given)

-- ---- any sender

-- lines none of which is written by the server itself are no part of a head
abbrev pub NoOwnFieldsAreNoHead : Type 0
NoOwnFieldsAreNoHead = (d : Dialogue) (number : ℕ) (method : List ℕ) (given : RequestPartsView) (ls ks : List Line) → AreNoOwnFields ls → AreNoOwnFields ks →
    head_of (request_numbered d number method (with_lines ls given)) ≡ head_of (request_numbered d number method (with_lines ks given))

-- and so what the header table passes is no part of it
abbrev pub ShownLinesHaveNoHead : Type 0
ShownLinesHaveNoHead = (f g : Facing) (b c : Bool) (h k : List Entry) (m n : Message Start) (d : Dialogue) (number : ℕ) (method : List ℕ) (given : RequestPartsView) →
    head_of (relayed_request f b h m d number method given) ≡ head_of (relayed_request g c k n d number method given)

-- where only entries of History-Info are private an untrusted peer gets the same attempt
abbrev pub EntriesAreHidden : Type 0
EntriesAreHidden = (es other : Entries) (f : Facing) (h k : List Entry) (tag : List ℕ) (m n : Message Start) (d : Dialogue) (number : ℕ)
    (method : List ℕ) (given : RequestPartsView) →
    masked_message (only_entries es) m ≡ masked_message (only_entries other) n → masked_list f.mask_all h ≡ masked_list f.mask_all k →
    attempt_request f false h tag m d number method given ≡ attempt_request f false k tag n d number method given

-- and any peer attempts with the same head
abbrev pub EntriesHaveNoHead : Type 0
EntriesHaveNoHead = (es other : Entries) (f : Facing) (b c : Bool) (h k : List Entry) (tag : List ℕ) (m n : Message Start) (d : Dialogue) (number : ℕ) (method : List ℕ)
    (given : RequestPartsView) →
    masked_message (only_entries es) m ≡ masked_message (only_entries other) n →
    head_of (attempt_request f b h tag m d number method given) ≡ head_of (attempt_request f c k tag n d number method given)
