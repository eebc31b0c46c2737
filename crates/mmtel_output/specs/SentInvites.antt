-- An INVITE that the server sent, from its sending on (RFC 3261 §13.2).
use Rattle.std.specs.Prelude.{ℕ, ◌+◌, ◌==◌, ◌||◌, nat_lt, Bool, true, false, if◌then◌else◌, Option, Some, None, List, [], ◌++◌, drop, length, take}
use Rattle.std.specs.Option.{option_or}
use Rattle.mmtel_leg.specs.declared.dialogues.Dialogue.{Dialogue}
use Rattle.mmtel_leg.specs.declared.remotes.Remote.{Remote}
use Rattle.mmtel_base.specs.Numbers.{next_number}
use Rattle.mmtel_sip_rules.specs.Invites.{is_cancel_due}
use Rattle.mmtel_transaction.specs.declared.words.TKey.{TKey}
use Rattle.mmtel_output.specs.declared.sent_invites.SentInvite.{SentInvite}
use Rattle.mmtel_output.specs.declared.sent_invites.AbandonedInvite.{AbandonedInvite}

-- as it was sent in this dialog with this number and this branch
abbrev pub sent_invite : Dialogue → (number : ℕ) → (branch : List ℕ) → SentInvite
sent_invite d number branch = record {
  dialogue = d;
  number = number;
  branch = branch;
  key = None;
  provisional = false;
  cancelled = false;
  ack = None;
  forks = [];
  early = None;
  early_cseq = number;
}

-- a response was received, by this client transaction
abbrev pub with_key : TKey → SentInvite → SentInvite
with_key key i = record i { key = Some key }

-- a provisional one
abbrev pub with_provisional : TKey → SentInvite → SentInvite
with_provisional key i = record i { key = Some key; provisional = true }

-- a provisional response other than 100 with a tag makes an early dialog (§12.1.2): the callee's tag, target and route set in it
abbrev pub early_remote : (code : ℕ) → Remote → Option Remote
early_remote code remote = if nat_lt code 101 || length remote.tag == 0 then None else Some remote

-- the first early dialog is kept
abbrev pub with_early : Option Remote → SentInvite → SentInvite
with_early said i = record i { early = option_or i.early said }

-- one more request was made in it (§12.2.1.1)
abbrev pub after_early_request : SentInvite → SentInvite
after_early_request i = record i { early_cseq = next_number i.early_cseq }

-- a CANCEL is due where a provisional response was received and none was sent (§9.1)
abbrev pub is_cancellable : SentInvite → Bool
is_cancellable i = is_cancel_due i.provisional i.cancelled

-- once it was cancelled, where that was due
abbrev pub invite_after_cancel : SentInvite → SentInvite
invite_after_cancel i = if is_cancellable i then record i { cancelled = true } else i

-- ---- by its client transaction, once that is known from a response

abbrev pub is_key : TKey → Option TKey → Bool
is_key key None = false
is_key key (Some other) = other.0 == key.0

abbrev pub is_abandoned_key : TKey → AbandonedInvite → Bool
is_abandoned_key key l = is_key key l.invite.key

-- ---- in a list: what remains without the one at a position, if there is one

abbrev pub without_at : {A : Type 0} → (at : ℕ) → List A → List A
without_at at items = take at items ++ drop (at + 1) items

abbrev pub without : {A : Type 0} → (at : Option ℕ) → List A → List A
without None items = items
without (Some at) items = without_at at items
