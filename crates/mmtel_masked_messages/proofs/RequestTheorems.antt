-- What is sent to a peer on behalf of a masked sender.
use Rattle.std.proofs.Common.{◌≡◌, ℕ, List, [], ◌∷◌, ◌++◌, refl, sym, ap, ◌∙◌, Bool, true, false, not, ◌&&◌, codes, cond}
use Rattle.std.specs.Prelude.{decimal, length}
use Rattle.mmtel_history.specs.HistoryInfo.{masked_list}
use Rattle.mmtel_history.specs.declared.entries.Entry.{Entry}
use Rattle.mmtel_leg.specs.Requests.{RequestPartsView, contact_lines, dialog_lines, is_contacting, request_numbered, routing_lines}
use Rattle.mmtel_leg.specs.declared.dialogues.Dialogue.{Dialogue}
use Rattle.mmtel_message.specs.Addresses.{contact_text}
use Rattle.mmtel_message.specs.Faults.{is_request}
use Rattle.mmtel_message.specs.Message.{Line, Message, has_line, is_line, line, lines_named}
use Rattle.mmtel_message.specs.declared.messages.Start.{Start}
use Rattle.mmtel_transaction.specs.Heads.{head_of}
use Rattle.mmtel_transaction.specs.HeadsRead.{HeadsRestOnFiveNames}
use Rattle.mmtel_trust.specs.PrivateFields.{Entries, PrivateFields, masked_lines, masked_message, only_entries, private_fields_in, redirects}
use Rattle.mmtel_trust.specs.HeaderTable.{attempt_from, carried_history, passed_lines, shown_lines}
use Rattle.mmtel_trust.specs.declared.header_table.Facing.{Facing}
use Rattle.mmtel_trust.proofs.IndexKeeping.{from-entries, passed-entries}
use Rattle.mmtel_trust.proofs.Masked.{passed-masked}
use Rattle.mmtel_trust.proofs.TableTheorems.{own_shown, shown_equal}
use Rattle.mmtel_masked_messages.specs.Requests.{AttemptsAreHidden, AttemptsHaveOneHead, EntriesAreHidden, EntriesHaveNoHead, NoOwnFieldsAreNoHead}
use Rattle.mmtel_masked_messages.specs.Requests.{RelayedAreHidden, ShownLinesHaveNoHead, attempt_request, with_attempt_from, with_lines, with_shown_lines}
use Rattle.mmtel_masked_messages.specs.Responses.{AreNoOwnFields}
use Rattle.mmtel_masked_messages.proofs.ResponseTheorems.{later, same_if, unseen}

-- ---- what an untrusted peer is shown

-- of lines of which it is shown the same as of the masked ones
shown_if : (f : Facing) (h k : List Entry) (m n : Message Start) (ls ks : List Line) → m.start ≡ n.start → ls ≡ ks
    → ((row : List Line) → passed_lines f false row ls ≡ passed_lines f false row m.lines) → ((row : List Line) → passed_lines f false row ks ≡ passed_lines f false row n.lines)
    → masked_list f.mask_all h ≡ masked_list f.mask_all k → shown_lines f false h m.start m.lines ≡ shown_lines f false k n.start n.lines
shown_if f h k m n ls ks start e left right lists =
    sym (left (carried_history f false h m.start))
    ∙ (ap (λ (l : List Line). passed_lines f false (carried_history f false h m.start) l) e
    ∙ (right (carried_history f false h m.start)
    ∙ (ap (λ (s : Start). shown_lines f false h s n.lines) start
    ∙ shown_equal f h k n.start n.lines lists)))

restricted_equal : (p q : PrivateFields) (f : Facing) (h k : List Entry) (m n : Message Start) → f.restricted ≡ true → masked_message p m ≡ masked_message q n
    → masked_list f.mask_all h ≡ masked_list f.mask_all k → shown_lines f false h m.start m.lines ≡ shown_lines f false k n.start n.lines
restricted_equal p q f h k m n r e lists =
    shown_if f h k m n (masked_message p m).lines (masked_message q n).lines (ap (λ (x : Message Start). x.start) e) (ap (λ (x : Message Start). x.lines) e)
    (λ row. passed-masked (private_fields_in m.start p) f row m.lines r) (λ row. passed-masked (private_fields_in n.start q) f row n.lines r) lists

-- entries are private in a request and in a response
entries_inserted : (start : Start) (es : Entries) → private_fields_in start (only_entries es) ≡ only_entries es
entries_inserted start es = rw (same_if (is_request start) false, same_if (redirects start) false) refl

entries_shown : (es : Entries) (f : Facing) (m : Message Start) (row : List Line) → passed_lines f false row (masked_message (only_entries es) m).lines ≡ passed_lines f false row m.lines
entries_shown es f m row = ap (λ (p : PrivateFields). passed_lines f false row (masked_lines p m.lines)) (entries_inserted m.start es) ∙ passed-entries es f false row m.lines

entries_equal : (es other : Entries) (f : Facing) (h k : List Entry) (m n : Message Start) → masked_message (only_entries es) m ≡ masked_message (only_entries other) n
    → masked_list f.mask_all h ≡ masked_list f.mask_all k → shown_lines f false h m.start m.lines ≡ shown_lines f false k n.start n.lines
entries_equal es other f h k m n e lists =
    shown_if f h k m n (masked_message (only_entries es) m).lines (masked_message (only_entries other) n).lines (ap (λ (x : Message Start). x.start) e) (ap (λ (x : Message Start). x.lines) e)
    (entries_shown es f m) (entries_shown other f n) lists

-- ---- From of an attempt

restricted_from : (f : Facing) (tag : List ℕ) (m n : Message Start) → f.restricted ≡ true → attempt_from f.restricted tag m.lines ≡ attempt_from f.restricted tag n.lines
restricted_from f tag m n r = rw r refl

entries_named : (es : Entries) (restricted : Bool) (tag : List ℕ) (m : Message Start) → attempt_from restricted tag (masked_message (only_entries es) m).lines ≡ attempt_from restricted tag m.lines
entries_named es restricted tag m = ap (λ (p : PrivateFields). attempt_from restricted tag (masked_lines p m.lines)) (entries_inserted m.start es) ∙ from-entries es restricted tag m.lines

entries_from : (es other : Entries) (restricted : Bool) (tag : List ℕ) (m n : Message Start) → masked_message (only_entries es) m ≡ masked_message (only_entries other) n →
    attempt_from restricted tag m.lines ≡ attempt_from restricted tag n.lines
entries_from es other restricted tag m n e = sym (entries_named es restricted tag m) ∙ (ap (λ (x : Message Start). attempt_from restricted tag x.lines) e ∙ entries_named other restricted tag n)

-- ---- requests

with_shown : (d : Dialogue) (number : ℕ) (method : List ℕ) (given : RequestPartsView) (xs ys : List Line) → xs ≡ ys →
    request_numbered d number method (with_lines xs given) ≡ request_numbered d number method (with_lines ys given)
with_shown d number method given xs ys e = ap (λ (l : List Line). request_numbered d number method (with_lines l given)) e

with_local : (d : Dialogue) (number : ℕ) (method : List ℕ) (given : RequestPartsView) (v w : List ℕ) → v ≡ w →
    request_numbered (record d { local = v }) number method given ≡ request_numbered (record d { local = w }) number method given
with_local d number method given v w e = ap (λ (x : List ℕ). request_numbered (record d { local = x }) number method given) e

pub relayed_hidden : RelayedAreHidden
relayed_hidden p q f h k m n d number method given r e lists =
    with_shown d number method given (shown_lines f false h m.start m.lines) (shown_lines f false k n.start n.lines) (restricted_equal p q f h k m n r e lists)

pub attempts_hidden : AttemptsAreHidden
attempts_hidden p q f h k tag m n d number method given r e lists =
    relayed_hidden p q f h k m n (with_attempt_from f tag m d) number method given r e lists
    ∙ with_local d number method (with_shown_lines f false k n given) (attempt_from f.restricted tag m.lines) (attempt_from f.restricted tag n.lines) (restricted_from f tag m n r)

pub entries_hidden : EntriesAreHidden
entries_hidden es other f h k tag m n d number method given e lists =
    with_shown (with_attempt_from f tag m d) number method given (shown_lines f false h m.start m.lines) (shown_lines f false k n.start n.lines) (entries_equal es other f h k m n e lists)
    ∙ with_local d number method (with_shown_lines f false k n given) (attempt_from f.restricted tag m.lines) (attempt_from f.restricted tag n.lines) (entries_from es other f.restricted tag m n e)

-- ---- heads

foreign : (f : Facing) (b : Bool) (h : List Entry) (m : Message Start) → AreNoOwnFields (shown_lines f b h m.start m.lines)
foreign f b h m name own = own_shown f b name h m.start m.lines own

none_if : (b : Bool) (name : List ℕ) (l : Line) → is_line name l ≡ false → lines_named name (cond b (l ∷ []) []) ≡ []
none_if true name l e = rw e refl
none_if false name l e = refl

no_contact : (name method : List ℕ) (g : RequestPartsView) → is_line name (codes "Contact", contact_text g.sip) ≡ false → lines_named name (contact_lines method g.sip g.shown) ≡ []
unfolding line
no_contact name method g e = none_if (is_contacting method && not (has_line (codes "Contact") g.shown)) name (codes "Contact", contact_text g.sip) e

shown_named : (d : Dialogue) (number : ℕ) (method : List ℕ) (given : RequestPartsView) (xs ys : List Line) (name : List ℕ) → is_line name (codes "Contact", contact_text given.sip) ≡ false →
    lines_named name xs ≡ [] → lines_named name ys ≡ []
    → lines_named name (request_numbered d number method (with_lines xs given)).lines ≡ lines_named name (request_numbered d number method (with_lines ys given)).lines
shown_named d number method given xs ys name other x y =
    let tail : List Line = line (codes "Content-Length") (decimal (length given.body)) in
    let C : List Line → List Line = λ l. contact_lines method given.sip l in
    later name (routing_lines d.routes given.sip given.hops given.branch) (dialog_lines d number method ++ (C xs ++ (xs ++ tail))) (dialog_lines d number method ++ (C ys ++ (ys ++ tail)))
    (later name (dialog_lines d number method) (C xs ++ (xs ++ tail)) (C ys ++ (ys ++ tail))
    (unseen name (C xs) (C ys) (xs ++ tail) (no_contact name method (with_lines xs given) other) (no_contact name method (with_lines ys given) other)
    ∙ later name (C ys) (xs ++ tail) (ys ++ tail) (unseen name xs ys tail x y)))

-- where heads depend only on lines of five names
module _ (five : HeadsRestOnFiveNames) where
  pub shown_head : NoOwnFieldsAreNoHead
  shown_head d number method given xs ys x y = (five (request_numbered d number method (with_lines xs given)) (request_numbered d number method (with_lines ys given)) (record {
    start = refl;
    via = shown_named d number method given xs ys (codes "Via") refl (x (codes "Via") refl) (y (codes "Via") refl);
    from = shown_named d number method given xs ys (codes "From") refl (x (codes "From") refl) (y (codes "From") refl);
    to = shown_named d number method given xs ys (codes "To") refl (x (codes "To") refl) (y (codes "To") refl);
    call_id = shown_named d number method given xs ys (codes "Call-ID") refl (x (codes "Call-ID") refl) (y (codes "Call-ID") refl);
    cseq = shown_named d number method given xs ys (codes "CSeq") refl (x (codes "CSeq") refl) (y (codes "CSeq") refl);
  })).1

  pub shown_heads : ShownLinesHaveNoHead
  shown_heads f g b c h k m n d number method given =
      shown_head d number method given (shown_lines f b h m.start m.lines) (shown_lines g c k n.start n.lines) (foreign f b h m) (foreign g c k n)

  -- of attempts with the same From
  attempt_heads : (f : Facing) (b c : Bool) (h k : List Entry) (tag : List ℕ) (m n : Message Start) (d : Dialogue) (number : ℕ) (method : List ℕ) (given : RequestPartsView)
      → attempt_from f.restricted tag m.lines ≡ attempt_from f.restricted tag n.lines
      → head_of (attempt_request f b h tag m d number method given) ≡ head_of (attempt_request f c k tag n d number method given)
  attempt_heads f b c h k tag m n d number method given e =
      shown_heads f f b c h k m n (with_attempt_from f tag m d) number method given
      ∙ ap (λ (x : Message Start). head_of x) (with_local d number method (with_shown_lines f c k n given) (attempt_from f.restricted tag m.lines) (attempt_from f.restricted tag n.lines) e)

  pub one_head : AttemptsHaveOneHead
  one_head f b c h k tag m n d number method given r = attempt_heads f b c h k tag m n d number method given (restricted_from f tag m n r)

  pub entries_head : EntriesHaveNoHead
  entries_head es other f b c h k tag m n d number method given e = attempt_heads f b c h k tag m n d number method given (entries_from es other f.restricted tag m n e)
