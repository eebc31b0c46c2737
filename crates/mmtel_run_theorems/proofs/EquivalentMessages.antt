-- Of two messages that are the same without private places the same is read and decided, and the responses to them differ in texts to trusted peers alone.
use Rattle.std.proofs.Common.{◌≡◌, ℕ, Bool, true, false, List, [], ap, sym, ◌∙◌, Option, None, codes, refl, subst}
use Rattle.mmtel_compose.specs.Responses.{own_reply}
use Rattle.mmtel_compose.specs.ReceivedMessages.{MessageView}
use Rattle.mmtel_b2bua.specs.declared.entries.Entry.{Entry}
use Rattle.mmtel_call_theorems.proofs.Noninterference.Numbers.{number_same}
use Rattle.mmtel_call_theorems.specs.Noninterference.PublicCall.{public_dialog_by, public_leg}
use Rattle.mmtel_call_theorems.specs.Noninterference.Roles.{Plain, Role, hidden_by, private_fields, without_private}
use Rattle.mmtel_directory.specs.declared.directories.Directory.{Directory}
use Rattle.mmtel_focus.specs.Conferences.{Conference}
use Rattle.mmtel_leg.specs.Dialogues.{caller_dialogue, caller_dialogue_with_remote as opened_dialog, number_in, with_remote}
use Rattle.mmtel_leg.specs.Remotes.{field, remote_of}
use Rattle.mmtel_leg.specs.declared.dialogues.Dialogue.{Dialogue}
use Rattle.mmtel_masked_messages.proofs.DialogTheorems.{dialogs, numbers, remotes, routes, tags, target}
use Rattle.mmtel_masked_messages.proofs.ResponseTheorems.{request_to}
use Rattle.mmtel_masked_messages.specs.Dialogs.{with_remote_target}
use Rattle.mmtel_masked_messages.specs.Heads.{EquivalentParsedHaveOneHead}
use Rattle.mmtel_masked_messages.specs.Responses.{EquivalentResponsesHaveOneHead}
use Rattle.mmtel_message.specs.Addresses.{contact_text}
use Rattle.mmtel_message.specs.Faults.{is_request}
use Rattle.mmtel_message.specs.Message.{Line}
use Rattle.mmtel_message.specs.Responses.{Reply, response}
use Rattle.mmtel_message.specs.declared.messages.Start.{Start}
use Rattle.mmtel_call_parties.specs.Parties.{believed_user, parties_by, parties_of, registration_by, sides_of, target_from}
use Rattle.mmtel_call_parties.specs.declared.parties.Parties.{Parties}
use Rattle.mmtel_transaction.specs.Heads.{head_of, reliable_number}
use Rattle.mmtel_trust.proofs.Masked.{hidden_once}
use Rattle.mmtel_trust.specs.ParsedMessage.{ParsedMessage, account_from, caller_account}
use Rattle.mmtel_trust.specs.PrivateFields.{Entries, PrivateFields, hide_if, masked_lines, only_entries, private_fields_in}
use Rattle.mmtel_trust.specs.MaskedMessages.{private_entries, public_part}
use Rattle.mmtel_trust.specs.declared.identities.Identities.{Identities}
use Rattle.mmtel_types.specs.declared.addrs.Addr.{Addr}
use Rattle.mmtel_types.specs.declared.numbers.Account.{Account}
use Rattle.mmtel_types.specs.declared.numbers.Peer.{Peer}
use Rattle.mmtel_types.specs.declared.sides.Side.TheVariants.{Caller}
use Rattle.mmtel_mwi.specs.Boxes as mailboxes
use Rattle.mmtel_run_definitions.specs.Equivalence.{EqualButForAccounts, EqualMasksAreEquivalent, EquivalentMessages, trusts}
use Rattle.mmtel_run_definitions.specs.OwnResponses.{StatusResponse, response_to}
use Rattle.mmtel_run_definitions.specs.Calls.{named_by}
use Rattle.mmtel_run_definitions.specs.Events.{message_in}
use Rattle.mmtel_run_definitions.specs.Mask.{masked_message}
use Rattle.mmtel_run_definitions.specs.Refusals.{disposition, registrant}
use Rattle.mmtel_run_definitions.specs.Ownership.{DialogOwner, leg_by, participant_named_by, subscription_named_by}
use Rattle.mmtel_run_definitions.specs.Subscriptions.{named_mailbox, sender_of}
use Rattle.mmtel_run_theorems.specs.Roles.{is_opening}
use Rattle.mmtel_run_theorems.proofs.EquivalentMailboxes.{ReadEquallyInDialog, SubscribeEqually}
use Rattle.mmtel_run_theorems.proofs.RoleBounds.{true_false}
use Rattle.mmtel_run_theorems.proofs.CallerTests.{lines_by, plain_identities, unplaced}

-- ---- the dialog of an INVITE: its private places are those that a dialog leaves out

hide_absorbs : (b : Bool) (v : List ℕ) → hide_if true (hide_if b v) ≡ hide_if true v
hide_absorbs true v = hidden_once v
hide_absorbs false v = refl

opened_hidden : (p : PrivateFields) (peer : Peer) (ls : List Line) (tag : List ℕ) → p.to ≡ false → public_dialog_by true (opened_dialog peer (masked_lines p ls) tag) ≡ public_dialog_by true (opened_dialog peer ls tag)
opened_hidden p peer ls tag e =
    ap (λ (x : Dialogue). public_dialog_by true (with_remote x (remote_of Caller (masked_lines p ls)))) (dialogs p peer ls tag e)
    ∙ rw (tags p Caller ls, routes p Caller ls) (ap (λ (v : List ℕ). record (public_dialog_by true (opened_dialog peer ls tag)) { remote = v }) (hide_absorbs p.from (field (codes "From") ls)))

opened_by : (b : Bool) (p : PrivateFields) (peer : Peer) (h : ParsedMessage) (tag : List ℕ) → is_request h.start ≡ true →
    public_dialog_by b (opened_dialog peer (hidden_by b p h).lines tag) ≡ public_dialog_by b (opened_dialog peer h.lines tag)
opened_by true p peer h tag asked = opened_hidden (private_fields_in h.start p) peer h.lines tag (request_to p h.start asked)
opened_by false p peer h tag asked = refl

-- ---- and in a request that hides only private entries of History-Info nothing that a dialog stores is private

remote_plain : (es : Entries) (ls : List Line) → remote_of Caller (masked_lines (only_entries es) ls) ≡ remote_of Caller ls
remote_plain es ls = remotes (only_entries es) Caller ls ∙ ap (λ (t : List ℕ). with_remote_target t (remote_of Caller ls)) (target (only_entries es) ls refl)

opened_plainly : (b : Bool) (es : Entries) (peer : Peer) (ls : List Line) (tag : List ℕ) → opened_dialog peer (lines_by b (only_entries es) ls) tag ≡ opened_dialog peer ls tag
opened_plainly true es peer ls tag =
    ap (λ (x : Dialogue). with_remote x (remote_of Caller (masked_lines (only_entries es) ls))) (dialogs (only_entries es) peer ls tag refl)
    ∙ ap (with_remote (caller_dialogue peer ls tag)) (remote_plain es ls)
opened_plainly false es peer ls tag = refl

leg_plain : (tag : List ℕ) (m : MessageView) → leg_by tag (without_private Plain m) ≡ leg_by tag m
leg_plain tag m =
    ap (λ (x : Dialogue). record { dialogue = x; meter = None })
    (ap (λ (p : PrivateFields). opened_dialog m.peer (lines_by m.parsed.trusted p m.parsed.lines) tag) (unplaced m.parsed.start (private_entries m.parsed))
    ∙ opened_plainly m.parsed.trusted (private_entries m.parsed) m.peer m.parsed.lines tag)

sender_plain : (x : Directory) (m : MessageView) → sender_of x (without_private Plain m).parsed ≡ sender_of x m.parsed
sender_plain x m = ap (λ (i : Identities). account_from x.names.accounts i None) (plain_identities m)

-- the number is never private
number_by : (b : Bool) (p : PrivateFields) (h : ParsedMessage) → number_in (hidden_by b p h).lines ≡ number_in h.lines
number_by true p h = numbers (private_fields_in h.start p) h.lines
number_by false p h = refl

module _ (heads : EquivalentParsedHaveOneHead) (responses : EquivalentResponsesHaveOneHead) where
  head_by : (b c : Bool) (p q : PrivateFields) (x y : ParsedMessage) → b ≡ c → hidden_by b p x ≡ hidden_by c q y → head_of (message_in x) ≡ head_of (message_in y)
  head_by true true p q x y e same = heads p q x y same
  head_by true false p q x y e same = absurd (true_false e)
  head_by false true p q x y e same = absurd (true_false (sym e))
  head_by false false p q x y e same = ap (λ (h : ParsedMessage). head_of (message_in h)) same

  reply_by : (b c : Bool) (p q : PrivateFields) (x y : ParsedMessage) (r : Reply) → b ≡ c → hidden_by b p x ≡ hidden_by c q y → is_request x.start ≡ true →
      head_of (response x.start x.lines r) ≡ head_of (response y.start y.lines r)
  reply_by true true p q x y r e same request = responses p q (message_in x) (message_in y) r request (ap (λ (h : ParsedMessage). message_in h) same)
  reply_by true false p q x y r e same request = absurd (true_false e)
  reply_by false true p q x y r e same request = absurd (true_false (sym e))
  reply_by false false p q x y r e same request = ap (λ (h : ParsedMessage). head_of (response h.start h.lines r)) same

  said_by_all : (b c : Bool) (p q : PrivateFields) (m n : MessageView) → b ≡ c → record m { parsed = hidden_by b p m.parsed } ≡ record n { parsed = hidden_by c q n.parsed } → b ≡ false → m ≡ n
  said_by_all false false p q m n e same strange = same
  said_by_all false true p q m n e same strange = absurd (true_false (sym e))
  said_by_all true c p q m n e same strange = absurd (true_false strange)

  module _ (kin : EqualMasksAreEquivalent) (d e : Directory) (equal : EqualButForAccounts d e) (m n : MessageView) (r s : Role) (same : without_private r m ≡ without_private s n) where
    pub peer_same : m.peer ≡ n.peer
    peer_same = ap (λ (x : MessageView). x.peer) same

    pub source_same : m.source ≡ n.source
    source_same = ap (λ (x : MessageView). x.source) same

    pub trusted_same : m.parsed.trusted ≡ n.parsed.trusted
    trusted_same = ap (λ (x : MessageView). x.parsed.trusted) same

    pub tag_same : m.parsed.to_tag ≡ n.parsed.to_tag
    tag_same = ap (λ (x : MessageView). x.parsed.to_tag) same

    pub public_same : public_part m.parsed ≡ public_part n.parsed
    public_same = ap (λ (x : MessageView). public_part x.parsed) same

    pub opening_same : is_opening m.parsed ≡ is_opening n.parsed
    opening_same = ap (λ (x : MessageView). is_opening x.parsed) same

    pub head_same : head_of (message_in m.parsed) ≡ head_of (message_in n.parsed)
    head_same = head_by m.parsed.trusted n.parsed.trusted (private_fields r m.parsed) (private_fields s n.parsed) m.parsed n.parsed trusted_same (ap (λ (x : MessageView). x.parsed) same)

    pub one_said : m.parsed.trusted ≡ false → m ≡ n
    one_said strange = said_by_all m.parsed.trusted n.parsed.trusted (private_fields r m.parsed) (private_fields s n.parsed) m n trusted_same same strange

    -- ---- what is decided

    -- whom a peer registers is never private
    pub registered_same : registrant d.names.accounts n.parsed ≡ registrant e.names.accounts n.parsed → registrant d.names.accounts m.parsed ≡ registrant e.names.accounts n.parsed
    registered_same looks = ap (λ (h : ParsedMessage). registrant d.names.accounts h) public_same ∙ looks

    module _ (registered : registrant d.names.accounts m.parsed ≡ registrant e.names.accounts n.parsed) where
      kin_public : EquivalentMessages d e m.peer m.source (public_part m.parsed) (public_part n.parsed)
      kin_public = kin d e m.peer m.source (public_part m.parsed) (public_part n.parsed) equal (ap (masked_message (trusts d m.peer)) public_same) registered

      pub decided_same : (merged full : Bool) (named : Option DialogOwner) → disposition d merged full named m.parsed ≡ disposition e merged full named n.parsed
      unfolding disposition
      decided_same merged full named = kin_public.decided merged full named

    pub named_same : (entries : List Entry) → named_by m.parsed entries ≡ named_by n.parsed entries
    named_same entries = ap (λ (h : ParsedMessage). named_by h entries) public_same

    pub seated_same : (live : List Conference) → participant_named_by m.parsed live ≡ participant_named_by n.parsed live
    seated_same live = ap (λ (h : ParsedMessage). participant_named_by h live) public_same

    pub boxed_same : (table : mailboxes.Table) → subscription_named_by m.parsed table ≡ subscription_named_by n.parsed table
    boxed_same table = ap (λ (h : ParsedMessage). subscription_named_by h table) public_same

    pub start_same : m.parsed.start ≡ n.parsed.start
    start_same = ap (λ (x : MessageView). x.parsed.start) same

    pub refer_same : m.parsed.refer_to ≡ n.parsed.refer_to
    refer_same = ap (λ (x : MessageView). x.parsed.refer_to) same

    -- ---- the leg of the party that joins

    -- the dialog of an INVITE without private places is the same but for these
    pub leg_same : (tag : List ℕ) → m.parsed.trusted ≡ trusts d m.peer → n.parsed.trusted ≡ trusts d n.peer → is_request m.parsed.start ≡ true → is_request n.parsed.start ≡ true →
        public_leg (trusts d) (leg_by tag m) ≡ public_leg (trusts d) (leg_by tag n)
    leg_same tag told told_too request request_too =
        ap (λ (x : Dialogue). record { dialogue = x; meter = None }) (
        ap (λ (b : Bool). public_dialog_by b (opened_dialog m.peer m.parsed.lines tag)) (sym told)
        ∙ (sym (opened_by m.parsed.trusted (private_fields r m.parsed) m.peer m.parsed tag request)
        ∙ (ap (λ (x : MessageView). public_dialog_by x.parsed.trusted (opened_dialog x.peer x.parsed.lines tag)) same
        ∙ (opened_by n.parsed.trusted (private_fields s n.parsed) n.peer n.parsed tag request_too
        ∙ ap (λ (b : Bool). public_dialog_by b (opened_dialog n.peer n.parsed.lines tag)) told_too))))

    -- ---- what a request asks of a mailbox

    pub asked_same : ReadEquallyInDialog m n
    asked_same = record {
      start = start_same;
      expires = ap (λ (x : MessageView). x.parsed.expires) same;
      number =
          sym (number_by m.parsed.trusted (private_fields r m.parsed) m.parsed)
          ∙ (ap (λ (x : MessageView). number_in x.parsed.lines) same ∙ number_by n.parsed.trusted (private_fields s n.parsed) n.parsed);
    }

    -- for two SUBSCRIBEs, which hide only private entries of History-Info
    module _ (one : r ≡ Plain) (other : s ≡ Plain) (looks : sender_of d (without_private s n).parsed ≡ sender_of e (without_private s n).parsed)
        (looks_too : named_mailbox d n.parsed ≡ named_mailbox e n.parsed) where
      plain_same : without_private Plain m ≡ without_private Plain n
      plain_same = ap (λ (x : Role). without_private x m) (sym one) ∙ (same ∙ ap (λ (x : Role). without_private x n) other)

      sender_same : sender_of d m.parsed ≡ sender_of e n.parsed
      sender_same =
          let plainly : sender_of d (without_private Plain n).parsed ≡ sender_of e (without_private Plain n).parsed =
          subst (λ (x : Role). sender_of d (without_private x n).parsed ≡ sender_of e (without_private x n).parsed) other looks in
          sym (sender_plain d m) ∙ (ap (λ (x : MessageView). sender_of d x.parsed) plain_same ∙ (plainly ∙ sender_plain e n))

      mailbox_same : named_mailbox d m.parsed ≡ named_mailbox e n.parsed
      mailbox_same = ap (λ (h : ParsedMessage). named_mailbox d h) public_same ∙ looks_too

      pub subscribed_same : SubscribeEqually d e m n
      subscribed_same = record {
        asking = λ within i. record {
          trusted = trusted_same i;
          in_dialog = within;
          sender = sender_same i;
          mailbox = mailbox_same i;
          event = (public_same i).event;
          has_contact = (public_same i).one_contact;
        };
        mailbox = mailbox_same;
        leg = λ tag. sym (leg_plain tag m) ∙ (ap (leg_by tag) plain_same ∙ leg_plain tag n);
      }

    -- ---- the responses

    pub reply_head : (tag : List ℕ) (answer : StatusResponse) → is_request m.parsed.start ≡ true → head_of (response_to d.sip tag m answer) ≡ head_of (response_to e.sip tag n answer)
    reply_head tag answer request =
        ap (λ (x : Addr). head_of (response_to x tag m answer)) equal.sip
        ∙ (reply_by m.parsed.trusted n.parsed.trusted (private_fields r m.parsed) (private_fields s n.parsed) m.parsed n.parsed (own_reply (contact_text e.sip) m.source tag answer.code [] answer.lines [])
        trusted_same (ap (λ (x : MessageView). x.parsed) same) request
        ∙ ap (λ (x : Addr). head_of (response n.parsed.start n.parsed.lines (own_reply (contact_text e.sip) x tag answer.code [] answer.lines []))) source_same)

    -- none of them is a reliable one by what it has of the request
    pub reply_number : (tag : List ℕ) (answer : StatusResponse) → reliable_number (response_to d.sip tag m answer) ≡ reliable_number (response_to e.sip tag n answer)
    reply_number tag answer =
        ap (λ (x : Addr). reliable_number (response_to x tag m answer)) equal.sip
        ∙ (ap (λ (x : Start). reliable_number (response x m.parsed.lines (own_reply (contact_text e.sip) m.source tag answer.code [] answer.lines []))) start_same
        ∙ (number_same n.parsed.start m.parsed.lines n.parsed.lines (own_reply (contact_text e.sip) m.source tag answer.code [] answer.lines []) [] [] refl
        ∙ ap (λ (x : Addr). reliable_number (response n.parsed.start n.parsed.lines (own_reply (contact_text e.sip) x tag answer.code [] answer.lines []))) source_same))

    pub reply_whole : (tag : List ℕ) (answer : StatusResponse) → m.parsed.trusted ≡ false → response_to d.sip tag m answer ≡ response_to e.sip tag n answer
    reply_whole tag answer strange = ap (λ (x : Addr). response_to x tag m answer) equal.sip ∙ ap (λ (x : MessageView). response_to e.sip tag x answer) (one_said strange)

    -- ---- who takes part

    pub parties_same : caller_account d.names.accounts m.parsed ≡ caller_account e.names.accounts n.parsed →
        target_from d.names.accounts n.parsed.start (believed_user n.parsed).user ≡ target_from e.names.accounts n.parsed.start (believed_user n.parsed).user →
        parties_of d.names.accounts m.parsed ≡ parties_of e.names.accounts n.parsed
    parties_same caller target =
        ap (λ (h : ParsedMessage). parties_by d.names.accounts (caller_account d.names.accounts m.parsed) h.start (believed_user h)) public_same
        ∙ (ap (λ (c : Option Account). parties_by d.names.accounts c n.parsed.start (believed_user n.parsed)) caller
        ∙ ap (by_target (caller_account e.names.accounts n.parsed)) target)
      where
        by_target : Option Account → Option Account → Parties
        by_target c t = record { origin = c; target = t; served = sides_of (believed_user n.parsed).session_case; registration = registration_by (believed_user n.parsed).session_case (believed_user n.parsed).regstate }
