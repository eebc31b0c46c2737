-- INVITEs that were abandoned before they had a final response, of calls and of conferences: what is still done about a response to one (RFC 3261 §9.1, §13.2.2.4, §17.1.1.3). A
-- late 2xx makes a dialog that ends at once; after a late provisional response the CANCEL is sent; a late refusal gets its ACK, and a timeout causes nothing.
use Rattle.std.specs.Prelude.{ℕ, nat_lt, Bool, true, if◌then◌else◌, Option, Some, None, List, [], ◌∷◌, ◌++◌, codes, position, slice_get}
use Rattle.std.specs.Str.{bytes_eq}
use Rattle.mmtel_compose.specs.Attempts.{as_callee}
use Rattle.mmtel_compose.specs.ReceivedMessages.{status_of}
use Rattle.mmtel_leg.specs.Dialogues.{after_request, with_remote}
use Rattle.mmtel_leg.specs.Remotes.{remote_of}
use Rattle.mmtel_leg.specs.declared.dialogues.Dialogue.{Dialogue}
use Rattle.mmtel_leg.specs.declared.remotes.Remote.{Remote}
use Rattle.mmtel_sip_rules.specs.Invites.{is_of_dialog}
use Rattle.mmtel_transaction.specs.declared.words.TKey.{TKey}
use Rattle.mmtel_trust.specs.ParsedMessage.{ParsedMessage}
use Rattle.mmtel_types.specs.declared.addrs.Addr.{Addr}
use Rattle.mmtel_types.specs.declared.sides.Side.TheVariants.{Callee}
use Rattle.mmtel_output.specs.SentInvites.{early_remote, with_early, with_key, with_provisional}
use Rattle.mmtel_output.specs.Sending.{with_ack, with_bye, with_cancel, with_final_ack}
use Rattle.mmtel_output.specs.declared.outputs.StepOutput.{StepOutput}
use Rattle.mmtel_output.specs.declared.sent_invites.SentInvite.{SentInvite}
use Rattle.mmtel_output.specs.declared.sent_invites.AbandonedInvite.{AbandonedInvite}

-- it is the INVITE of this branch
abbrev pub is_of_branch : (branch : List ℕ) → AbandonedInvite → Bool
is_of_branch branch l = bytes_eq l.invite.branch branch

-- what remains of one after a response, and the output
pub record AfterResponse : Type 0 where
  pub remaining : Option AbandonedInvite
  pub output : StepOutput

abbrev pub with_invite : AbandonedInvite → SentInvite → AbandonedInvite
with_invite l i = record l { invite = i }

-- ---- a 2xx

-- the dialog of this tag before a 2xx: the early one, with the callee's tag, target and route set in it and the number of the last request that was made in it (§12.2.1.1), and
-- otherwise the one that the INVITE began
abbrev pub dialogue_before : (early : Option Remote) → (asked : ℕ) → (tag : List ℕ) → Dialogue → Dialogue
dialogue_before None asked tag d = d
dialogue_before (Some said) asked tag d = if bytes_eq said.tag tag then with_remote (record d { local_cseq = asked }) said else d

-- the dialog that a 2xx makes or confirms (§13.2.2.4); for an INVITE in a confirmed dialog that dialog itself
abbrev pub dialogue_of_success : (within : Bool) → (early : Option Remote) → (asked : ℕ) → Dialogue → Remote → Dialogue
dialogue_of_success within early asked d remote = if within then d else with_remote (dialogue_before early asked remote.tag (as_callee d)) remote

-- the dialog of this 2xx, if it got its BYE before; in a confirmed dialog there is only one
abbrev pub is_dialog_of_tag : (within : Bool) → (tag : List ℕ) → Dialogue → Bool
is_dialog_of_tag within tag d = is_of_dialog within d.remote_tag tag

abbrev pub fork_at : List Dialogue → Option ℕ → Option Dialogue
fork_at forks None = None
fork_at forks (Some at) = slice_get forks at

abbrev pub ended_dialog : AbandonedInvite → (tag : List ℕ) → Option Dialogue
ended_dialog l tag = fork_at l.invite.forks (position (is_dialog_of_tag l.in_dialog tag) l.invite.forks)

-- a 2xx gets its ACK each time, and its dialog the BYE once
abbrev pub after_ack : Addr → AbandonedInvite → Dialogue → StepOutput → AfterResponse
after_ack sip l d output = record { remaining = Some l; output = with_ack sip d output }

abbrev pub with_fork : SentInvite → Dialogue → SentInvite
with_fork i d = record i { forks = i.forks ++ after_request d (codes "BYE") ∷ [] }

abbrev pub after_ack_and_bye : Addr → AbandonedInvite → Dialogue → StepOutput → AfterResponse
after_ack_and_bye sip l d output = record { remaining = Some (with_invite l (with_fork l.invite d)); output = with_bye sip d (with_ack sip d output) }

abbrev pub on_success_in : Addr → AbandonedInvite → Remote → Option Dialogue → StepOutput → AfterResponse
on_success_in sip l remote (Some d) output = after_ack sip l d output
on_success_in sip l remote None output = after_ack_and_bye sip l (dialogue_of_success l.in_dialog l.invite.early l.invite.early_cseq l.invite.dialogue remote) output

-- where this is the callee's tag, target and route set
abbrev pub on_success : Addr → AbandonedInvite → Remote → StepOutput → AfterResponse
on_success sip l remote output = on_success_in sip l remote (ended_dialog l remote.tag) output

-- ---- a provisional response

-- the tag, target and route set in it are kept, where it makes an early dialog
abbrev pub after_provisional : TKey → ParsedMessage → AbandonedInvite → AbandonedInvite
after_provisional key m l = with_invite l (with_early (early_remote (status_of m.start) (remote_of Callee m.lines)) (with_provisional key l.invite))

abbrev pub after_due_cancel : Addr → AbandonedInvite → StepOutput → AfterResponse
after_due_cancel sip l output =
    if l.invite.cancelled then record { remaining = Some l; output = output }
    else record {
      remaining = Some (with_invite l (record l.invite { cancelled = true }));
      output = with_cancel sip l.invite output;
    }

-- ---- any response, by its client transaction

abbrev pub on_response : Addr → TKey → ParsedMessage → AbandonedInvite → StepOutput → AfterResponse
on_response sip key m l output =
    if nat_lt (status_of m.start) 200 then after_due_cancel sip (after_provisional key m l) output
    else if nat_lt (status_of m.start) 300 then on_success sip (with_invite l (with_key key l.invite)) (remote_of Callee m.lines) output
    else record { remaining = None; output = with_final_ack sip key l.invite m output }
