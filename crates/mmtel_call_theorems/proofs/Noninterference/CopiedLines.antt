-- What is copied to the other side from a message without its private places: the same, if its peer is not trusted; and what a dialog takes from it.
use Rattle.std.proofs.Common.{◌≡◌, ℕ, Bool, true, false, ◌==◌, List, [], refl, ap, sym, ◌∙◌, cond, codes}
use Rattle.mmtel_compose.specs.ReceivedMessages.{MessageView, status_of}
use Rattle.mmtel_history.proofs.ListTheorems.{masked_once}
use Rattle.mmtel_history.proofs.CallerHistoryTheorems.{for_caller_masked}
use Rattle.mmtel_history.specs.HistoryInfo.{masked_list}
use Rattle.mmtel_history.specs.declared.entries.Entry.{Entry}
use Rattle.mmtel_leg.specs.Dialogues.{target_or, with_remote}
use Rattle.mmtel_leg.specs.Remotes.{contact_uri, remote_of, route_set, tag_in}
use Rattle.mmtel_leg.specs.declared.dialogues.Dialogue.{Dialogue}
use Rattle.mmtel_leg.specs.declared.remotes.Remote.{Remote}
use Rattle.mmtel_masked_messages.proofs.DialogTheorems.{routes, tags}
use Rattle.mmtel_masked_messages.proofs.ResponseTheorems.{same_if}
use Rattle.mmtel_masked_messages.specs.Responses.{AreNoOwnFields}
use Rattle.mmtel_message.specs.Faults.{is_request}
use Rattle.mmtel_message.specs.Message.{Line}
use Rattle.mmtel_message.specs.declared.messages.Start.{Start}
use Rattle.mmtel_rules.specs.declared.values.Identities2.{Identities2}
use Rattle.mmtel_transaction.specs.Equivalence.{blank_if}
use Rattle.mmtel_trust.proofs.IndexKeeping.{passed-entries}
use Rattle.mmtel_trust.proofs.Masked.{passed-masked}
use Rattle.mmtel_trust.proofs.TableTheorems.{own_shown, shown_equal}
use Rattle.mmtel_trust.specs.ParsedMessage.{ParsedMessage}
use Rattle.mmtel_trust.specs.PrivateFields.{Entries, PrivateFields, masked_lines, only_entries, private_fields_in, redirects}
use Rattle.mmtel_trust.specs.MaskedMessages.{private_entries}
use Rattle.mmtel_trust.specs.HeaderTable.{carried_history, passed_lines, shown_lines}
use Rattle.mmtel_trust.specs.declared.header_table.Facing.{Facing}
use Rattle.mmtel_types.specs.declared.numbers.Peer.{Peer}
use Rattle.mmtel_types.specs.declared.sides.Side.{Side}
use Rattle.mmtel_types.specs.declared.sides.Side.TheVariants.{Caller, Callee}
use Rattle.mmtel_call_services.specs.Diversions.{DiversionsView}
use Rattle.mmtel_call_services.specs.CopiedHeaders.{attempt_facing, attempt_lines, copied_lines, facing, facing_at, history_for, masks_all, notified_history}
use Rattle.mmtel_call_services.specs.CallConfig.{CallConfigView, trusts}
use Rattle.mmtel_call_services.specs.declared.openings.Opening.{Opening}
use Rattle.mmtel_call_services.specs.declared.openings.Service.{Service}
use Rattle.std.specs.Prelude.{Option}
use Rattle.mmtel_call_theorems.specs.Noninterference.PublicCall.{public_dialog_by, public_diverted, public_opening, public_remote, public_remote_side}
use Rattle.mmtel_call_theorems.specs.Noninterference.Premises.{Fits}
use Rattle.mmtel_call_theorems.specs.Noninterference.Roles.{Opens, Plain, Role, Sends, hidden_by, hides, opening_role, private_fields, without_private}
use Rattle.mmtel_call_theorems.proofs.Noninterference.Numbers.{copied_none, numbers_in}
use Rattle.mmtel_call_theorems.proofs.Noninterference.Idempotence.{remote_again}

pub true_false : true ≡ false → ⊥
true_false e = cc

-- ---- header fields

pub entries_placed : (start : Start) (es : Entries) → private_fields_in start (only_entries es) ≡ only_entries es
entries_placed start es = rw (same_if (is_request start) false, same_if (redirects start) false) refl

passed_as : (role : Role) (m : ParsedMessage) (f : Facing) (row ls : List Line) → (hides role ≡ true → f.restricted ≡ true) →
    passed_lines f false row (masked_lines (private_fields_in m.start (private_fields role m)) ls) ≡ passed_lines f false row ls
passed_as Opens m f row ls fits = passed-masked (private_fields_in m.start (private_fields Opens m)) f row ls (fits refl)
passed_as (Sends side) m f row ls fits = passed-masked (private_fields_in m.start (private_fields (Sends side) m)) f row ls (fits refl)
passed_as Plain m f row ls fits = ap (λ (p : PrivateFields). passed_lines f false row (masked_lines p ls)) (entries_placed m.start (private_entries m)) ∙ passed-entries (private_entries m) f false row ls

passed_by : (b : Bool) (role : Role) (m : ParsedMessage) (f : Facing) (row : List Line) → (hides role ≡ true → f.restricted ≡ true) →
    passed_lines f false row (hidden_by b (private_fields role m) m).lines ≡ passed_lines f false row m.lines
passed_by true role m f row fits = passed_as role m f row m.lines fits
passed_by false role m f row fits = refl

copied_by : (known : Bool) → known ≡ false → (b : Bool) (role : Role) (m : ParsedMessage) (f : Facing) (h k : List Entry) → (hides role ≡ true → f.restricted ≡ true) →
    masked_list f.mask_all h ≡ masked_list f.mask_all k →
    shown_lines f known h m.start (hidden_by b (private_fields role m) m).lines ≡ shown_lines f known k m.start m.lines
copied_by true e b role m f h k fits lists = absurd (true_false e)
copied_by false e b role m f h k fits lists = passed_by b role m f (carried_history f false h m.start) fits ∙ shown_equal f h k m.start m.lines lists

-- ---- the list

list_if : (all b : Bool) (d : DiversionsView) → masked_list all (cond b (notified_history (public_diverted all d)) (masked_list all d.history)) ≡ masked_list all (cond b (notified_history d) d.history)
list_if all true d = for_caller_masked all d.hides_diverting d.hides_target d.history
list_if all false d = masked_once all d.history

-- ---- what is copied

facing_same : (who : Identities2) (o : Opening) (service : Option Service) (side : Side) (role : Role) (m : MessageView) → facing (public_opening who o) service side (without_private role m) ≡ facing o service side m
facing_same who o service Caller role m = refl
facing_same who o service Callee role m = refl

mask_facing : (o : Opening) (service : Option Service) (side : Side) (m : MessageView) → (facing o service side m).mask_all ≡ masks_all o
mask_facing o service Caller m = refl
mask_facing o service Callee m = refl

pub copied-same : (config : CallConfigView) (who : Identities2) (o : Opening) (d : DiversionsView) (service : Option Service) (side : Side) (peer : Peer) (role : Role) (m : MessageView) →
    Fits o service side m role → trusts config peer ≡ false →
    copied_lines config (public_opening who o) (public_diverted (masks_all o) d) service side peer (without_private role m) ≡ copied_lines config o d service side peer m
unfolding copied_lines
copied-same config who o d service side peer role m fits strange =
    let n : MessageView = without_private role m in
    let h : List Entry = history_for (public_diverted (masks_all o) d) n in
    ap (λ (f : Facing). shown_lines (record f { timer = config.timer }) (trusts config peer) h m.parsed.start n.parsed.lines) (facing_same who o service side role m)
    ∙ copied_by (trusts config peer) strange m.parsed.trusted role m.parsed (facing_at config o service side m) h (history_for d m) fits
    (ap (λ (all : Bool). masked_list all h) (mask_facing o service side m)
    ∙ (list_if (masks_all o) (status_of m.parsed.start == 181) d
    ∙ ap (λ (all : Bool). masked_list all (history_for d m)) (sym (mask_facing o service side m))))

pub copied-foreign : (config : CallConfigView) (o : Opening) (d : DiversionsView) (service : Option Service) (side : Side) (peer : Peer) (m : MessageView) → AreNoOwnFields (copied_lines config o d service side peer m)
unfolding copied_lines
copied-foreign config o d service side peer m name own = own_shown (facing_at config o service side m) (trusts config peer) name (history_for d m) m.parsed.start m.parsed.lines own

-- no number of a reliable response
pub copied-none : (config : CallConfigView) (o : Opening) (d : DiversionsView) (service : Option Service) (side : Side) (peer : Peer) (m : MessageView) → numbers_in (copied_lines config o d service side peer m) ≡ []
unfolding copied_lines
copied-none config o d service side peer m = copied_none (facing_at config o service side m) (trusts config peer) (history_for d m) m.parsed.start m.parsed.lines

-- so what is copied is the same with and without private places
pub copied-number : (config : CallConfigView) (o p : Opening) (d e : DiversionsView) (service : Option Service) (side : Side) (peer : Peer) (m n : MessageView) →
    numbers_in (copied_lines config o d service side peer m) ≡ numbers_in (copied_lines config p e service side peer n)
copied-number config o p d e service side peer m n = copied-none config o d service side peer m ∙ sym (copied-none config p e service side peer n)

-- ---- what is copied to the target of an attempt from the INVITE that opened the call

pub offered-same : (config : CallConfigView) (who : Identities2) (o : Opening) (d : DiversionsView) (service : Option Service) (peer : Peer) →
    Fits o service Caller o.invite (opening_role o.restricted) → trusts config peer ≡ false →
    attempt_lines config (public_opening who o) (public_diverted (masks_all o) d) service peer ≡ attempt_lines config o d service peer
unfolding attempt_lines
offered-same config who o d service peer fits strange =
    copied_by (trusts config peer) strange o.invite.parsed.trusted (opening_role o.restricted) o.invite.parsed (attempt_facing config o service)
    (history_for (public_diverted (masks_all o) d) (without_private (opening_role o.restricted) o.invite)) (history_for d o.invite) fits
    (list_if (masks_all o) (status_of o.invite.parsed.start == 181) d)

pub offered-foreign : (config : CallConfigView) (o : Opening) (d : DiversionsView) (service : Option Service) (peer : Peer) → AreNoOwnFields (attempt_lines config o d service peer)
unfolding attempt_lines
offered-foreign config o d service peer name own =
    own_shown (attempt_facing config o service) (trusts config peer) name (history_for d o.invite) o.invite.parsed.start o.invite.parsed.lines own

-- ---- what a dialog takes

pub tag_by : (b : Bool) (p : PrivateFields) (ls : List Line) → tag_in (codes "To") (cond b (masked_lines p ls) ls) ≡ tag_in (codes "To") ls
tag_by true p ls = tags p Callee ls
tag_by false p ls = refl

route_by : (b : Bool) (p : PrivateFields) (ls : List Line) → route_set Callee (cond b (masked_lines p ls) ls) ≡ route_set Callee ls
route_by true p ls = routes p Callee ls
route_by false p ls = refl

target_by : (b : Bool) (r s v : List ℕ) → (b ≡ false → r ≡ s) → blank_if b (target_or r (blank_if b v)) ≡ blank_if b (target_or s v)
target_by true r s v e = refl
target_by false r s v e = ap (λ (u : List ℕ). target_or u v) (e refl)

met_by : (b : Bool) (d : Dialogue) (r s : Remote) → r.tag ≡ s.tag → r.routes ≡ s.routes → (b ≡ false → r.target ≡ s.target) →
    public_dialog_by b (with_remote (public_dialog_by b d) r) ≡ public_dialog_by b (with_remote d s)
met_by b d r s tag routes target = rw (tag, routes, target_by b r.target s.target d.target target, remote_again b d.side d.remote) refl

-- the remote side in a response, of which nothing is hidden if the dialog's peer is not trusted
pub met-same : (b trusted : Bool) (d : Dialogue) (p : PrivateFields) (h : ParsedMessage) → (b ≡ false → hidden_by trusted p h ≡ h) →
    public_dialog_by b (with_remote (public_dialog_by b d) (remote_of Callee (hidden_by trusted p h).lines)) ≡ public_dialog_by b (with_remote d (remote_of Callee h.lines))
met-same b trusted d p h same =
    met_by b d (remote_of Callee (hidden_by trusted p h).lines) (remote_of Callee h.lines) (tag_by trusted (private_fields_in h.start p) h.lines) (route_by trusted (private_fields_in h.start p) h.lines)
    (λ e. ap (λ (x : ParsedMessage). contact_uri x.lines) (same e))

-- ---- what is kept of it with an INVITE

abbrev remote_with : (tag target : List ℕ) → (routes : List (List ℕ)) → Remote
remote_with tag target routes = record { tag = tag; target = target; routes = routes }

blank_by : (b : Bool) (u v : List ℕ) → (b ≡ false → u ≡ v) → blank_if b u ≡ blank_if b v
blank_by true u v e = refl
blank_by false u v e = e refl

said_by : (b : Bool) (r s : Remote) → r.tag ≡ s.tag → r.routes ≡ s.routes → (b ≡ false → r.target ≡ s.target) → public_remote_side b r ≡ public_remote_side b s
said_by b r s tag routes target =
    ap (λ (v : List ℕ). remote_with v (blank_if b r.target) r.routes) tag
    ∙ (ap (λ (v : List ℕ). remote_with s.tag v r.routes) (blank_by b r.target s.target target)
    ∙ ap (λ (v : List (List ℕ)). remote_with s.tag (blank_if b s.target) v) routes)

pub said-same : (b trusted : Bool) (p : PrivateFields) (h : ParsedMessage) → (b ≡ false → hidden_by trusted p h ≡ h) →
    public_remote_side b (remote_of Callee (hidden_by trusted p h).lines) ≡ public_remote_side b (remote_of Callee h.lines)
said-same b trusted p h same =
    said_by b (remote_of Callee (hidden_by trusted p h).lines) (remote_of Callee h.lines) (tag_by trusted (private_fields_in h.start p) h.lines) (route_by trusted (private_fields_in h.start p) h.lines)
    (λ e. ap (λ (x : ParsedMessage). contact_uri x.lines) (same e))

-- the dialog with it
said_blank : (b : Bool) (u v : List ℕ) → target_or (blank_if b u) (blank_if b v) ≡ blank_if b (target_or u v)
said_blank true u v = refl
said_blank false u v = refl

pub met_public : (b : Bool) (d : Dialogue) (r : Remote) → with_remote (public_dialog_by b d) (public_remote_side b r) ≡ public_dialog_by b (with_remote d r)
met_public b d r = ap (λ (v : List ℕ). record (with_remote d r) { remote = public_remote b d.side d.remote; target = v }) (said_blank b r.target d.target)
