-- A request that is kept only to be responded to has one public part, whatever was hidden of it before.
use Rattle.std.proofs.Common.{◌≡◌, ℕ, Bool, true, false, ◌&&◌, List, [], ◌∷◌, Option, Some, None, refl, ap, ◌∙◌, cond}
use Rattle.std.proofs.lemmas.List.{append-nil}
use Rattle.std.specs.List.{flat_map}
use Rattle.mmtel_compose.specs.ReceivedMessages.{MessageView}
use Rattle.mmtel_history.proofs.ListTheorems.{masked_once}
use Rattle.mmtel_history.proofs.MaskedValueTheorems.{masked_value_once}
use Rattle.mmtel_history.specs.HistoryInfo.{masked_entry, masked_list, masked_uri}
use Rattle.mmtel_history.specs.MaskedValues.{is_marked_value, masked_value_text}
use Rattle.mmtel_history.specs.declared.entries.Entry.{Entry}
use Rattle.mmtel_message.specs.Faults.{is_request}
use Rattle.mmtel_message.specs.Message.{Line}
use Rattle.mmtel_message.specs.declared.messages.Start.{Start}
use Rattle.mmtel_trust.proofs.Absorbed.{absorbed}
use Rattle.mmtel_trust.proofs.Masked.{hidden_once, served_once, then_by}
use Rattle.mmtel_trust.specs.ParsedMessage.{ParsedMessage}
use Rattle.mmtel_trust.specs.Kinds.{kind_of}
use Rattle.mmtel_trust.specs.PrivateFields.{AllEntries, Entries, MarkedEntries, NoEntries, PrivateFields, hidden_entries, hidden_uri, hide_if, masked_entries}
use Rattle.mmtel_trust.specs.PrivateFields.{masked_line, masked_lines, masked_value, private_fields_in, redirects, serve_if, unless_removed, with_name}
use Rattle.mmtel_trust.specs.declared.kinds.HeaderKind.{HeaderKind}
use Rattle.mmtel_trust.specs.declared.kinds.HeaderKind.TheVariants.{From, To, Contact, Asserted, Served, Privacy, History, Options, Session, Passed, Personal, Trusted, Other}
use Rattle.mmtel_call_theorems.specs.Noninterference.PublicCall.{all_fields, public_request}
use Rattle.mmtel_call_theorems.specs.Noninterference.Roles.{Role, hidden_by, private_fields, without_private}

-- ---- places: all of them after some

pub hide_absorbs : (b : Bool) (v : List ℕ) → hide_if true (hide_if b v) ≡ hide_if true v
hide_absorbs true v = hidden_once v
hide_absorbs false v = refl

hide_to : (c b : Bool) (v : List ℕ) → hide_if (cond c false true) (hide_if (cond c false b) v) ≡ hide_if (cond c false true) v
hide_to true b v = refl
hide_to false b v = hide_absorbs b v

serve_absorbs : (b : Bool) (v : List ℕ) → serve_if true (serve_if b v) ≡ serve_if true v
serve_absorbs true v = served_once v
serve_absorbs false v = refl

gone_absorbs : (b : Bool) (v : List ℕ) → then_by (unless_removed true) (unless_removed b v) ≡ unless_removed true v
gone_absorbs true v = refl
gone_absorbs false v = refl

marked_absorbs : (b : Bool) (v : List ℕ) → masked_value_text (cond b (masked_value_text v) v) ≡ masked_value_text v
marked_absorbs true v = masked_value_once v
marked_absorbs false v = refl

entries_absorb : (es : Entries) (v : List ℕ) → masked_entries AllEntries (masked_entries es v) ≡ masked_entries AllEntries v
entries_absorb NoEntries v = refl
entries_absorb MarkedEntries v = marked_absorbs (is_marked_value v) v
entries_absorb AllEntries v = masked_value_once v

hide_contact : (c : Bool) (b : Bool) (v : List ℕ) → hide_if (cond c true true) (hide_if b v) ≡ hide_if (cond c true true) v
hide_contact true b v = hide_absorbs b v
hide_contact false b v = hide_absorbs b v

kind_absorbs : (start : Start) (p : PrivateFields) (k : HeaderKind) (v : List ℕ) →
    then_by (masked_value (private_fields_in start all_fields) k) (masked_value (private_fields_in start p) k v) ≡ masked_value (private_fields_in start all_fields) k v
kind_absorbs start p From v = ap (λ (w : List ℕ). Some w) (hide_absorbs p.from v)
kind_absorbs start p To v = ap (λ (w : List ℕ). Some w) (hide_to (is_request start) p.to v)
kind_absorbs start p Contact v = ap (λ (w : List ℕ). Some w) (hide_contact (redirects start) (private_fields_in start p).contact v)
kind_absorbs start p Asserted v = gone_absorbs p.asserted v
kind_absorbs start p Served v = ap (λ (w : List ℕ). Some w) (serve_absorbs p.served v)
kind_absorbs start p Privacy v = refl
kind_absorbs start p History v = ap (λ (w : List ℕ). Some w) (entries_absorb p.history v)
kind_absorbs start p Options v = refl
kind_absorbs start p Session v = refl
kind_absorbs start p Passed v = refl
kind_absorbs start p Personal v = gone_absorbs p.personal v
kind_absorbs start p Trusted v = refl
kind_absorbs start p Other v = refl

-- ---- header fields

name_absorbs : (p : PrivateFields) (n : List ℕ) (o : Option (List ℕ)) → flat_map (masked_line p) (with_name n o) ≡ with_name n (then_by (masked_value p (kind_of n)) o)
unfolding masked_line
name_absorbs p n None = refl
name_absorbs p n (Some v) = append-nil (with_name n (masked_value p (kind_of n) v))

line_absorbs : (start : Start) (p : PrivateFields) (l : Line) → flat_map (masked_line (private_fields_in start all_fields)) (masked_line (private_fields_in start p) l) ≡ masked_line (private_fields_in start all_fields) l
unfolding masked_line
line_absorbs start p l = name_absorbs (private_fields_in start all_fields) l.0 (masked_value (private_fields_in start p) (kind_of l.0) l.1) ∙ ap (with_name l.0) (kind_absorbs start p (kind_of l.0) l.1)

lines_absorb : (start : Start) (p : PrivateFields) (ls : List Line) → masked_lines (private_fields_in start all_fields) (masked_lines (private_fields_in start p) ls) ≡ masked_lines (private_fields_in start all_fields) ls
lines_absorb start p ls = absorbed (masked_line (private_fields_in start p)) (masked_line (private_fields_in start all_fields)) (line_absorbs start p) ls

lines_by : (b : Bool) (start : Start) (p : PrivateFields) (ls : List Line) →
    cond b (masked_lines (private_fields_in start all_fields) (cond b (masked_lines (private_fields_in start p) ls) ls)) (cond b (masked_lines (private_fields_in start p) ls) ls)
    ≡ cond b (masked_lines (private_fields_in start all_fields) ls) ls
lines_by true start p ls = lines_absorb start p ls
lines_by false start p ls = refl

-- ---- what else is read

entry_twice : (b : Bool) (e : Entry) → masked_entry true (cond b (record e { uri = masked_uri e.cause; hidden = false }) e) ≡ masked_entry true e
entry_twice true e = refl
entry_twice false e = refl

list_twice : (h : List Entry) → masked_list true (masked_list false h) ≡ masked_list true h
list_twice [] = refl
list_twice (e ∷ h) = ap (λ (x : Entry). x ∷ masked_list true (masked_list false h)) (entry_twice e.hidden e) ∙ ap (λ (l : List Entry). masked_entry true e ∷ l) (list_twice h)

list_by : (b : Bool) (es : Entries) (h : List Entry) → cond b (masked_list true (cond b (hidden_entries es h) h)) (cond b (hidden_entries es h) h) ≡ cond b (masked_list true h) h
list_by false es h = refl
list_by true NoEntries h = refl
list_by true MarkedEntries h = list_twice h
list_by true AllEntries h = masked_once true h

uri_by : (b c : Bool) (u : Option (List ℕ)) → hidden_uri (b && true) (hidden_uri (b && c) u) ≡ hidden_uri (b && true) u
uri_by false c u = refl
uri_by true false u = refl
uri_by true true None = refl
uri_by true true (Some v) = refl

-- ---- the request

abbrev with_private_fields : ParsedMessage → List Entry → Option (List ℕ) → List Line → ParsedMessage
with_private_fields m h u ls = record m { history = h; redirect = u; lines = ls }

hidden_absorbs : (b : Bool) (p : PrivateFields) (m : ParsedMessage) → hidden_by b all_fields (hidden_by b p m) ≡ hidden_by b all_fields m
hidden_absorbs b p m =
    let all : List Entry = cond b (masked_list true m.history) m.history in
    let u : Option (List ℕ) = hidden_uri (b && true) (hidden_uri (b && p.redirect) m.redirect) in
    let ls : List Line = cond b (masked_lines (private_fields_in m.start p) m.lines) m.lines in
    let again : List Line = cond b (masked_lines (private_fields_in m.start all_fields) ls) ls in
    ap (λ (x : List Entry). with_private_fields m x u again) (list_by b p.history m.history)
    ∙ (ap (λ (x : Option (List ℕ)). with_private_fields m all x again) (uri_by b p.redirect m.redirect)
    ∙ ap (λ (x : List Line). with_private_fields m all (hidden_uri (b && true) m.redirect) x) (lines_by b m.start p m.lines))

pub request_absorbs : (role : Role) (m : MessageView) → public_request (without_private role m) ≡ public_request m
request_absorbs role m = ap (λ (x : ParsedMessage). record m { parsed = x }) (hidden_absorbs m.parsed.trusted (private_fields role m.parsed) m.parsed)
