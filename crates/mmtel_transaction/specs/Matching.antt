-- To which live transaction a message belongs (RFC 3261 §9.2, §17.1.1.3, §17.1.3, §17.2.3), and what `hear` returns by that.
use Rattle.std.specs.Prelude.{◌≡◌, ◌↔◌, Bool, false, true, not, ◌&&◌, if◌then◌else◌, List, length, Option, Some, None, option_map}
use Rattle.std.specs.List.{find}
use Rattle.mmtel_types.specs.declared.numbers.Peer.{Peer}
use Rattle.mmtel_message.specs.Message.{Message}
use Rattle.mmtel_message.specs.declared.messages.Start.{Start}
use Rattle.mmtel_transaction.specs.Heads.{head_of, is_ack, is_cancel, is_invite, is_refusal}
use Rattle.mmtel_transaction.specs.Operations.{TransactionOp, live, openings}
use Rattle.mmtel_transaction.specs.Results.{bind_entry, by_key, hear_result, is_client_of, is_full, is_invite_of, is_server_of, key_of, last_sent, retransmission_for, tkey}
use Rattle.mmtel_transaction.specs.Runs.{IsRun}
use Rattle.mmtel_transaction.specs.declared.heads.Head.{Head}
use Rattle.mmtel_transaction.specs.declared.entries.Entry.{Entry}
use Rattle.mmtel_transaction.specs.declared.words.TKey.{TKey}
use Rattle.mmtel_transaction.specs.declared.words.Heard.{Heard}
use Rattle.mmtel_transaction.specs.declared.words.Heard.TheVariants as heard

-- a server transaction, where it has sent a final from 300
abbrev pub if_refused : Option Entry → Option Entry
if_refused None = None
if_refused (Some e) = if e.is_refused then Some e else None

-- a response belongs to the client transaction that it answers; an ACK to the INVITE whose final from 300 it acknowledges, and to none where there is no such final;
-- a CANCEL to the INVITE that it cancels; any other request to the server transaction that it matches
abbrev pub matching_entry : Head → List Entry → Option Entry
matching_entry m es =
    if not m.is_request then find (is_client_of m) es
    else if is_ack m then if_refused (find (is_server_of m) es)
    else if is_cancel m then find (is_invite_of m) es
    else find (is_server_of m) es

-- the live transaction to which a message belongs
abbrev pub matching_key : List TransactionOp → Message Start → Option TKey
matching_key h m = option_map key_of (matching_entry (head_of m) (live h))

-- the live transaction that a request opened when it was received before
abbrev pub opened_key : List TransactionOp → Message Start → Option TKey
opened_key h m = option_map key_of (find (is_server_of (head_of m)) (live h))

-- whether a response is a final from 300 of an INVITE that has received such a final before
abbrev pub is_repeated_final : Head → Option Entry → Bool
is_repeated_final m None = false
is_repeated_final m (Some e) = is_invite e.head && e.is_refused && is_refusal m.status

-- the result for a response that belongs to this transaction: a response, or a final that is received again, for which the kept ACK is sent again; it is unmatched where there is
-- none
abbrev pub response_result : List Entry → Message Start → Option TKey → Heard
response_result es m None = heard.Stray
response_result es m (Some key) = if is_repeated_final (head_of m) (by_key key.0 es) then heard.Repeat (bind_entry last_sent (by_key key.0 es)) else heard.Answer key m

-- for an ACK: it is of a 2xx where it belongs to none
abbrev pub ack_result : Message Start → Option TKey → Heard
ack_result m None = heard.AckOf2xx m
ack_result m (Some key) = heard.Acked key

-- for a request that opened this transaction when it was received before; where there is none, the request is refused, or opens one with this result
abbrev pub request_result : List Entry → Peer → Option TKey → Heard → Option Heard
request_result es p (Some key) fresh = Some (heard.Repeat (bind_entry (retransmission_for p) (by_key key.0 es)))
request_result es p None fresh = if is_full es then None else Some fresh

-- for a message that belongs to this transaction
abbrev pub matched_result : List TransactionOp → Peer → Message Start → Option TKey → Option Heard
matched_result h p m to =
    if not (head_of m).is_request then Some (response_result (live h) m to)
    else if is_ack (head_of m) then Some (ack_result m to)
    else if is_cancel (head_of m) then request_result (live h) p (opened_key h m) (heard.Cancel (tkey (length (openings h))) to m)
    else request_result (live h) p to (heard.Fresh (tkey (length (openings h))) m)

-- the result of `hear` is determined by the transaction to which the message belongs
abbrev pub HearsByMatching : Type 0
HearsByMatching = (h : List TransactionOp) (p : Peer) (m : Message Start) → hear_result h p m ≡ matched_result h p m (matching_key h m)

-- and that transaction is live
abbrev pub OwnersAreLive : Type 0
OwnersAreLive = (h : List TransactionOp) (m : Message Start) (e : Entry) → matching_entry (head_of m) (live h) ≡ Some e → by_key e.key (live h) ≡ Some e

-- a live server transaction of an INVITE of this branch and sent-by has sent a final from 300
pub record IsRefusedInvite (m : Head) (e : Entry) (h : List TransactionOp) : Type 0 where
  pub live : by_key e.key (live h) ≡ Some e
  pub server : e.is_server ≡ true
  pub invite : is_invite e.head ≡ true
  pub branch : e.head.branch ≡ m.branch
  pub sent_by : e.head.sent_by ≡ m.sent_by
  pub final : is_refusal e.final_status ≡ true

-- in a run an ACK belongs exactly to that one
abbrev pub AcksBelong : Type 0
AcksBelong =
    (h : List TransactionOp) (m : Message Start) (e : Entry)
    → IsRun h
    → (head_of m).is_request ≡ true
    → is_ack (head_of m) ≡ true
    → (matching_entry (head_of m) (live h) ≡ Some e) ↔ IsRefusedInvite (head_of m) e h
