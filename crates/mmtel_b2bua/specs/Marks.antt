-- The keys by which a call is found without examining each one: numbers computed from the branches of its requests to which a response may still be received and from the server's
-- tags of its dialogs, and the transactions of its INVITEs.
use Rattle.std.specs.Prelude.{Bool, if◌then◌else◌, Option, Some, None, List, [], ◌∷◌, ◌++◌, flat_map}
use Rattle.mmtel_call.specs.declared.calls.RelayedTransaction.{RelayedTransaction}
use Rattle.mmtel_call.specs.declared.calls.Phase.TheVariants.{Detached, Established, Offered, Over}
use Rattle.mmtel_call.specs.declared.calls.Phase.{Phase}
use Rattle.mmtel_call.specs.declared.calls.AnsweredInvite.{AnsweredInvite}
use Rattle.mmtel_call.specs.Table.{current_invite}
use Rattle.mmtel_transaction.specs.Hashes.{hash_of}
use Rattle.mmtel_output.specs.declared.sent_invites.SentInvite.{SentInvite}
use Rattle.mmtel_output.specs.declared.sent_invites.AbandonedInvite.{AbandonedInvite}
use Rattle.mmtel_output.specs.declared.marks.Mark.{Mark}
use Rattle.mmtel_output.specs.declared.marks.Mark.TheVariants.{Branch, ClientTransaction, LocalTag, ServerTransaction}
use Rattle.mmtel_leg.specs.declared.dialogues.Dialogue.{Dialogue}
use Rattle.mmtel_leg.specs.Releases.{released_leg}
use Rattle.mmtel_transaction.specs.declared.words.TKey.{TKey}
use Rattle.mmtel_b2bua.specs.Entries.{is_live}
use Rattle.mmtel_b2bua.specs.declared.entries.Entry.{Entry}
use Rattle.mmtel_b2bua.specs.declared.entries.InviteKey.{InviteKey}

abbrev pub client_key_marks : Option TKey → List Mark
client_key_marks None = []
client_key_marks (Some key) = ClientTransaction key.0 ∷ []

-- of an INVITE that was abandoned, or had a 2xx
abbrev pub sent_invite_marks : SentInvite → List Mark
sent_invite_marks i = Branch (hash_of i.branch) ∷ client_key_marks i.key

abbrev pub abandoned_marks : AbandonedInvite → List Mark
abandoned_marks l = sent_invite_marks l.invite

abbrev pub answered_marks : AnsweredInvite → List Mark
answered_marks t = sent_invite_marks t.invite

-- of a request in flight
abbrev pub relayed_marks : RelayedTransaction → List Mark
relayed_marks f = Branch (hash_of f.exchange.invite.branch) ∷ []

-- of the INVITE for which the call waits
abbrev pub waiting_marks : Option SentInvite → List Mark
waiting_marks None = []
waiting_marks (Some i) = Branch (hash_of i.branch) ∷ []

-- of the INVITEs that its sides sent
abbrev pub invite_marks : InviteKey → List Mark
invite_marks invite = ServerTransaction invite.key.0 ∷ []

abbrev pub live_invite_marks : (lives : Bool) → List InviteKey → List Mark
live_invite_marks lives invites = if lives then flat_map invite_marks invites else []

-- of its dialogs
abbrev pub dialog_mark : Dialogue → Mark
dialog_mark d = LocalTag (hash_of d.local_tag)

abbrev pub dialog_marks : Phase → List Mark
dialog_marks (Offered x) = dialog_mark x.caller.dialogue ∷ dialog_mark x.callee.leg.dialogue ∷ []
dialog_marks (Established x stage) = dialog_mark x.caller.dialogue ∷ dialog_mark x.callee.dialogue ∷ []
dialog_marks (Detached detached) = dialog_mark (released_leg detached.remaining).dialogue ∷ []
dialog_marks (Over cause) = []

unfoldable pub marks_of : Entry → List Mark
marks_of e =
    waiting_marks (current_invite e.call.phase)
    ++ (flat_map abandoned_marks e.call.abandoned
    ++ (flat_map answered_marks e.call.answered_invites ++ (flat_map relayed_marks e.call.relayed ++ (live_invite_marks (is_live e) e.invites ++ dialog_marks e.call.phase))))
