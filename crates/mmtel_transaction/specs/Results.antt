-- What each operation returns, by the live transactions: how a message is classified (RFC 3261 §17.1.3, §17.2.3, §9.2, §8.2.2.2), what is retransmitted for one that is received
-- again (§17.2.1, §17.2.2; RFC 6026 §7.1), and which deadline comes next.
use Rattle.std.specs.Prelude.{ℕ, Bool, false, not, ◌&&◌, ◌||◌, nat_lt, nat_le, ◌==◌, if◌then◌else◌, List, [], ◌∷◌, length, Option, Some, None, option_map, count_by, is_some}
use Rattle.std.specs.List.{find, list_any}
use Rattle.std.specs.Option.{unwrap_or}
use Rattle.std.specs.Str.{bytes_eq}
use Rattle.mmtel_sip_rules.specs.Requests.{is_response_retransmitted}
use Rattle.mmtel_types.specs.declared.numbers.Peer.{Peer}
use Rattle.mmtel_message.specs.Message.{Message}
use Rattle.mmtel_message.specs.declared.messages.Start.{Start}
use Rattle.mmtel_transaction.specs.Heads.{head_of, invite, is_invite, is_ack, is_cancel, is_success, is_refusal, is_same_call}
use Rattle.mmtel_transaction.specs.Deadlines.{response_due, retransmission_at, deadline, is_ending, order_due, step_due}
use Rattle.mmtel_transaction.specs.Operations.{TransactionOp, DidHear, DidFire, openings, live}
use Rattle.mmtel_transaction.specs.declared.heads.Head.{Head}
use Rattle.mmtel_transaction.specs.declared.entries.Entry.{Entry}
use Rattle.mmtel_transaction.specs.declared.entries.ReliableResponse.{ReliableResponse}
use Rattle.mmtel_transaction.specs.declared.message_class.MessageClass.{MessageClass}
use Rattle.mmtel_transaction.specs.declared.message_class.MessageClass.TheVariants as part
use Rattle.mmtel_transaction.specs.declared.words.TKey.{TKey}
use Rattle.mmtel_transaction.specs.declared.words.Heard.{Heard}
use Rattle.mmtel_transaction.specs.declared.words.Heard.TheVariants as heard
use Rattle.mmtel_transaction.specs.declared.words.Due.{Due}
use Rattle.mmtel_transaction.specs.declared.words.Due.TheVariants as due

-- the method by which a request is matched: that of its INVITE for an ACK
abbrev pub key_method : Head → List ℕ
key_method m = if is_ack m then invite else m.method

-- the server transaction of a request: first Via branch, sent-by and method
abbrev pub is_server_of : Head → Entry → Bool
is_server_of m e = e.is_server && bytes_eq e.head.branch m.branch && bytes_eq e.head.sent_by m.sent_by && bytes_eq e.head.method (key_method m)

-- the server transaction of this branch, sent-by and method
abbrev pub is_server_with : List ℕ → List ℕ → List ℕ → Entry → Bool
is_server_with branch sent_by method e = e.is_server && bytes_eq e.head.branch branch && bytes_eq e.head.sent_by sent_by && bytes_eq e.head.method method

-- a client transaction of this branch and method
abbrev pub is_client_with : List ℕ → List ℕ → Entry → Bool
is_client_with branch method e = not e.is_server && bytes_eq e.head.branch branch && bytes_eq e.head.method method

-- the client transaction of a response: branch and CSeq method
abbrev pub is_client_of : Head → Entry → Bool
is_client_of m e = not e.is_server && bytes_eq e.head.branch m.branch && bytes_eq e.head.method m.method

-- the INVITE that a CANCEL cancels
abbrev pub is_invite_of : Head → Entry → Bool
is_invite_of m e = e.is_server && bytes_eq e.head.branch m.branch && bytes_eq e.head.sent_by m.sent_by && is_invite e.head

-- the greatest number of server transactions that are live at the same time
abbrev pub max_servers : ℕ
max_servers = 16384

abbrev pub servers : List Entry → ℕ
servers es = count_by (λ e. e.is_server) es

abbrev pub clients : List Entry → ℕ
clients es = count_by (λ e. not e.is_server) es

abbrev pub is_full : List Entry → Bool
is_full es = nat_le max_servers (servers es)

-- a request is a retransmission for the live server transaction that it matches, and new where there is none
abbrev pub request_class : Bool → Option Entry → MessageClass
request_class full (Some e) = part.Repeat e.key
request_class full None = if full then part.Full else part.Fresh

-- an ACK acknowledges the non-2xx final that the transaction which it matches has sent, and otherwise a 2xx
abbrev pub ack_class : Option Entry → MessageClass
ack_class None = part.AckOf2xx
ack_class (Some e) = if e.is_refused then part.Acked e.key else part.AckOf2xx

-- a response answers the first live client transaction of its branch and method; a non-2xx final of an INVITE after another one is a repeated final
abbrev pub response_class : Head → Option Entry → MessageClass
response_class m None = part.Stray
response_class m (Some e) = if is_invite e.head && e.is_refused && is_refusal m.status then part.RepeatedFinal e.key else part.Answer e.key

-- the class of a message
abbrev pub class_of : Head → List Entry → MessageClass
class_of m es =
    if m.is_request then (if is_ack m then ack_class (find (is_server_of m) es) else request_class (is_full es) (find (is_server_of m) es))
    else response_class m (find (is_client_of m) es)

-- the last response or the kept ACK, and to whom it went
abbrev pub last_sent : Entry → Option (Peer × List ℕ)
last_sent e = option_map (λ t. (e.peer, t)) e.last

-- what is retransmitted for a request received again: the last response, if the request comes from the peer that opened the transaction; nothing after the ACK, nor after the 2xx
-- of an INVITE
abbrev pub retransmission_for : Peer → Entry → Option (Peer × List ℕ)
retransmission_for p e = if is_response_retransmitted e.peer p e.is_acked (is_invite e.head && is_success e.final_status) then last_sent e else None

abbrev pub is_of : ℕ → Entry → Bool
is_of key e = e.key == key

abbrev pub by_key : ℕ → List Entry → Option Entry
by_key key es = find (is_of key) es

abbrev pub bind_entry : (Entry → Option (Peer × List ℕ)) → Option Entry → Option (Peer × List ℕ)
bind_entry f None = None
bind_entry f (Some e) = f e

abbrev pub tkey : ℕ → TKey
tkey key = record { 0 = key }

abbrev pub key_of : Entry → TKey
key_of e = tkey e.key

abbrev pub opening_result : Bool → ℕ → Option TKey → Message Start → Heard
opening_result is_cancel next invited m = if is_cancel then heard.Cancel (tkey next) invited m else heard.Fresh (tkey next) m

-- the result for a new request: for a CANCEL with the INVITE that it cancels
abbrev pub fresh_result : ℕ → Option TKey → Message Start → Heard
fresh_result next invited m = opening_result (is_cancel (head_of m)) next invited m

-- what `hear` returns for a message of this class, by the key that is opened next and the live transactions; None where it refuses
abbrev pub class_result : ℕ → List Entry → Peer → Message Start → MessageClass → Option Heard
class_result next es p m part.Fresh = Some (fresh_result next (option_map key_of (find (is_invite_of (head_of m)) es)) m)
class_result next es p m part.Full = None
class_result next es p m (part.Repeat key) = Some (heard.Repeat (bind_entry (retransmission_for p) (by_key key es)))
class_result next es p m (part.RepeatedFinal key) = Some (heard.Repeat (bind_entry last_sent (by_key key es)))
class_result next es p m (part.Answer key) = Some (heard.Answer (tkey key) m)
class_result next es p m (part.Acked key) = Some (heard.Acked (tkey key))
class_result next es p m part.AckOf2xx = Some (heard.AckOf2xx m)
class_result next es p m part.Stray = Some heard.Stray

-- the order of deadlines: the moment, then the step that armed it, then the order in which its message was sent
abbrev pub is_before : ℕ → Entry → ℕ → Entry → Bool
is_before a x b y = nat_lt a b || ((a == b) && (nat_lt (step_due x) (step_due y) || ((step_due x == step_due y) && nat_lt (order_due x) (order_due y))))

-- a deadline and its transaction
pub record DueEntryView : Type 0 where
  pub at : ℕ
  pub entry : Entry

abbrev pub due_one : ℕ → Entry → Option ℕ → Option DueEntryView
due_one now e None = None
due_one now e (Some at) = if nat_le at now then Some (record { at = at; entry = e }) else None

-- of two deadlines the first
abbrev pub sooner : Option DueEntryView → Option DueEntryView → Option DueEntryView
sooner None y = y
sooner (Some x) None = Some x
sooner (Some x) (Some y) = Some (if is_before y.at y.entry x.at x.entry then y else x)

-- the first of the deadlines that are not later than now
abbrev pub next_due : ℕ → List Entry → Option DueEntryView
next_due now [] = None
next_due now (e ∷ es) = sooner (due_one now e (deadline e)) (next_due now es)

-- what is retransmitted by its state: the request of a client transaction, the last response of a server transaction
abbrev pub state_text : Entry → List ℕ
state_text e = if e.is_server then unwrap_or e.last [] else e.request

abbrev pub text_by : Option ReliableResponse → Entry → List ℕ
text_by None e = state_text e
text_by (Some answer) e = answer.text

-- what is retransmitted
abbrev pub retransmitted_text : Entry → List ℕ
retransmitted_text e = text_by (response_due e) e

-- what `due` returns
abbrev pub due_result : Option DueEntryView → Due
due_result None = due.Nothing
due_result (Some n) =
    if is_some (retransmission_at n.entry) then due.Again n.entry.peer n.at (retransmitted_text n.entry)
    else if is_ending n.entry.state then due.Over (tkey n.entry.key) n.at
    else due.Silent (tkey n.entry.key) n.entry.head.branch n.entry.head.method n.at

-- the operations once this message is received too
abbrev pub after_hear : List TransactionOp → Peer → Message Start → ℕ → List TransactionOp
after_hear h p m now = DidHear p m now (class_of (head_of m) (live h)) ∷ h

-- what `hear` returns after these operations
abbrev pub hear_result : List TransactionOp → Peer → Message Start → Option Heard
hear_result h p m = class_result (length (openings h)) (live h) p m (class_of (head_of m) (live h))

-- the operations once this deadline has fired too
abbrev pub after_firing : List TransactionOp → Option DueEntryView → List TransactionOp
after_firing h None = h
after_firing h (Some n) = DidFire n.entry.key ∷ h

-- the moment and the step of a deadline
abbrev pub upcoming_of : Option DueEntryView → Option (ℕ × ℕ)
upcoming_of o = option_map (λ n. (n.at, step_due n.entry)) o

abbrev pub peer_of : ℕ → List Entry → Option Peer
peer_of key es = option_map (λ e. e.peer) (by_key key es)

-- another live server transaction of the same From tag, Call-ID and CSeq
abbrev pub is_merged_entry : Entry → Entry → Bool
is_merged_entry e x = x.is_server && not (x.key == e.key) && is_same_call x.head e.head && bytes_eq x.head.method e.head.method

abbrev pub merged_with : Option Entry → List Entry → Bool
merged_with None es = false
merged_with (Some e) es = list_any (is_merged_entry e) es

abbrev pub is_merged : ℕ → List Entry → Bool
is_merged key es = merged_with (by_key key es) es
