-- What is read of a masked message: each field that is never private is that of the message, and the others are hidden.
use Rattle.std.proofs.Common.{◌≡◌, ◌++◌, ◌∷◌, [], ℕ, List, refl, sym, ap, ◌∙◌, Bool, true, false, ◌||◌, codes, Option, Some, None, cond, map}
use Rattle.std.specs.Prelude.{is_some, option_to_list}
use Rattle.std.specs.Option.{option_map}
use Rattle.std.proofs.lemmas.List.{length-map}
use Rattle.mmtel_lex.specs.Reading.{name_addr_of}
use Rattle.mmtel_history.specs.HistoryInfo as History
use Rattle.mmtel_history.specs.HistoryInfo.{entry_of, masked_entry, masked_list, masked_uri}
use Rattle.mmtel_history.specs.MaskedValues.{is_hidden, is_marked_value, masked_value_text}
use Rattle.mmtel_history.specs.declared.entries.Entry.{Entry}
use Rattle.mmtel_history.proofs.ListTheorems.{masked_once}
use Rattle.mmtel_history.proofs.MaskedValueTheorems.{masked_entry_of}
use Rattle.mmtel_message.specs.Faults.{are_readable, is_one_readable, is_readable, is_request}
use Rattle.mmtel_message.specs.Message.{Line, Message, first_value, line_texts}
use Rattle.mmtel_message.specs.declared.messages.Start.{Start}
use Rattle.mmtel_trust.specs.ParsedMessage.{ParsedMessage, history_in, if_redirect, if_request, parsed_message, served_by, tag_of, uri_bytes}
use Rattle.mmtel_trust.specs.Kinds.{kind_of}
use Rattle.mmtel_trust.specs.PrivateFields.{Entries, NoEntries, MarkedEntries, AllEntries, PrivateFields, hidden_entries, hidden_uri, hide_if, keeps_values}
use Rattle.mmtel_trust.specs.PrivateFields.{masked_message, masked_entries, masked_lines, masked_value, private_fields_in, redirects, serve_if}
use Rattle.mmtel_trust.specs.MaskedMessages.{hide, public_part}
use Rattle.mmtel_trust.proofs.ByName.{params_hidden, texts-changed, texts-masked}
use Rattle.mmtel_trust.proofs.IndexKeeping.{changed, first-masked, from_tag-masked, to_tag-masked, to_value, wants-masked}
use Rattle.mmtel_trust.proofs.Masked.{hidden_uris, lines_again, served_told}

-- ---- names whose lines stay, whatever is private

pub via_kept : (p : PrivateFields) → keeps_values p (kind_of (codes "Via")) ≡ true
unfolding kind_of
via_kept p = refl

pub call_id_kept : (p : PrivateFields) → keeps_values p (kind_of (codes "Call-ID")) ≡ true
unfolding kind_of
call_id_kept p = refl

pub cseq_kept : (p : PrivateFields) → keeps_values p (kind_of (codes "CSeq")) ≡ true
unfolding kind_of
cseq_kept p = refl

pub hops_kept : (p : PrivateFields) → keeps_values p (kind_of (codes "Max-Forwards")) ≡ true
unfolding kind_of
hops_kept p = refl

pub route_kept : (p : PrivateFields) → keeps_values p (kind_of (codes "Route")) ≡ true
unfolding kind_of
route_kept p = refl

pub way_kept : (p : PrivateFields) → keeps_values p (kind_of (codes "Record-Route")) ≡ true
unfolding kind_of
way_kept p = refl

pub require_kept : (p : PrivateFields) → keeps_values p (kind_of (codes "Require")) ≡ true
unfolding kind_of
require_kept p = refl

pub supported_kept : (p : PrivateFields) → keeps_values p (kind_of (codes "Supported")) ≡ true
unfolding kind_of
supported_kept p = refl

pub expires_kept : (p : PrivateFields) → keeps_values p (kind_of (codes "Expires")) ≡ true
unfolding kind_of
expires_kept p = refl

pub refer_to_kept : (p : PrivateFields) → keeps_values p (kind_of (codes "Refer-To")) ≡ true
unfolding kind_of
refer_to_kept p = refl

pub event_kept : (p : PrivateFields) → keeps_values p (kind_of (codes "Event")) ≡ true
unfolding kind_of
event_kept p = refl

rseq_kept : (p : PrivateFields) → keeps_values p (kind_of (codes "RSeq")) ≡ true
unfolding kind_of
rseq_kept p = refl

rack_kept : (p : PrivateFields) → keeps_values p (kind_of (codes "RAck")) ≡ true
unfolding kind_of
rack_kept p = refl

session_kept : (p : PrivateFields) → keeps_values p (kind_of (codes "Session-Expires")) ≡ true
unfolding kind_of
session_kept p = refl

-- ---- To of a request

to_if : (request private : Bool) (v : Option (List ℕ)) → cond request (option_map (hide_if (cond request false private)) v) None ≡ cond request v None
to_if true private None = refl
to_if true private (Some s) = refl
to_if false private v = refl

to-masked : (p : PrivateFields) (start : Start) (ls : List Line) → if_request start (first_value (codes "To") (masked_lines (private_fields_in start p) ls)) ≡ if_request start (first_value (codes "To") ls)
to-masked p start ls =
    ap (λ (v : Option (List ℕ)). if_request start v) (changed (private_fields_in start p) (codes "To") (hide_if (private_fields_in start p).to) ls (to_value (private_fields_in start p)))
    ∙ to_if (is_request start) p.to (first_value (codes "To") ls)

-- ---- P-Served-User

served_value_at : (p : PrivateFields) (v : List ℕ) → masked_value p (kind_of (codes "P-Served-User")) v ≡ Some (serve_if p.served v)
unfolding kind_of
served_value_at p v = refl

served_hidden : (b : Bool) (v : Option (List ℕ)) → served_by (option_map (serve_if b) v) ≡ served_by v
served_hidden b None = refl
served_hidden true (Some s) = served_told s
served_hidden false (Some s) = refl

served-masked : (p : PrivateFields) (ls : List Line) → served_by (first_value (codes "P-Served-User") (masked_lines p ls)) ≡ served_by (first_value (codes "P-Served-User") ls)
served-masked p ls = ap served_by (changed p (codes "P-Served-User") (serve_if p.served) ls (served_value_at p)) ∙ served_hidden p.served (first_value (codes "P-Served-User") ls)

-- ---- Contact of a 3xx

contact_value : (p : PrivateFields) (v : List ℕ) → masked_value p (kind_of (codes "Contact")) v ≡ Some (hide_if p.contact v)
unfolding kind_of
contact_value p v = refl

uri_hidden : (b : Bool) (v : Option (List ℕ)) → uri_bytes (option_map (hide_if b) v) ≡ hidden_uri b (uri_bytes v)
uri_hidden true None = refl
uri_hidden false None = refl
uri_hidden true (Some s) = hidden_uris s
uri_hidden false (Some s) = refl

none_hidden : (b : Bool) → None ≡ hidden_uri b None
none_hidden true = refl
none_hidden false = refl

redirect_if : (b redirect contact : Bool) (v : Option (List ℕ)) → cond b (uri_bytes (option_map (hide_if (cond b redirect contact)) v)) None ≡ hidden_uri redirect (cond b (uri_bytes v) None)
redirect_if true redirect contact v = uri_hidden redirect v
redirect_if false redirect contact v = none_hidden redirect

redirect-masked : (p : PrivateFields) (start : Start) (ls : List Line) → if_redirect start (uri_bytes (first_value (codes "Contact") (masked_lines (private_fields_in start p) ls)))
    ≡ hidden_uri p.redirect (if_redirect start (uri_bytes (first_value (codes "Contact") ls)))
redirect-masked p start ls =
    ap (λ (v : Option (List ℕ)). if_redirect start (uri_bytes v)) (changed (private_fields_in start p) (codes "Contact") (hide_if (private_fields_in start p).contact) ls (contact_value (private_fields_in start p)))
    ∙ redirect_if (redirects start) p.redirect p.contact (first_value (codes "Contact") ls)

-- ---- one Contact

is_some_mapped : {A B : Type 0} (f : A → B) (o : Option A) → is_some (option_map f o) ≡ is_some o
is_some_mapped f None = refl
is_some_mapped f (Some x) = refl

-- a value that is hidden parses where it parsed before
readable_hidden : (b : Bool) (v : List ℕ) → is_readable (hide_if b v) ≡ is_readable v
readable_hidden b v =
    sym (is_some_mapped (λ n. n.params) (name_addr_of (hide_if b v)))
    ∙ (ap (λ ps. is_some ps) (params_hidden b v)
    ∙ is_some_mapped (λ n. n.params) (name_addr_of v))

readable_each : (b : Bool) (vs : List (List ℕ)) → are_readable (map (hide_if b) vs) ≡ are_readable vs
readable_each b [] = refl
readable_each b (v ∷ vs) = rw (readable_hidden b v, readable_each b vs) refl

one_hidden : (b : Bool) (vs : List (List ℕ)) → is_one_readable (map (hide_if b) vs) ≡ is_one_readable vs
one_hidden b vs = rw (length-map vs (hide_if b), readable_each b vs) refl

one_contact-masked : (p : PrivateFields) (ls : List Line) → is_one_readable (line_texts (codes "Contact") (masked_lines p ls)) ≡ is_one_readable (line_texts (codes "Contact") ls)
one_contact-masked p ls =
    ap (λ (vs : List (List ℕ)). is_one_readable vs) (texts-changed p (codes "Contact") (hide_if p.contact) (contact_value p) ls)
    ∙ one_hidden p.contact (line_texts (codes "Contact") ls)

-- ---- History-Info

history_value : (p : PrivateFields) (v : List ℕ) → masked_value p (kind_of (codes "History-Info")) v ≡ Some (masked_entries p.history v)
unfolding kind_of
history_value p v = refl

hidden_as : (b : Bool) (e : Entry) → b ≡ true → record e { uri = masked_uri e.cause; hidden = false } ≡ cond b (record e { uri = masked_uri e.cause; hidden = false }) e
hidden_as true e is = refl
hidden_as false e is = absurd cc

shown_as : (b : Bool) (e : Entry) → b ≡ false → e ≡ cond b (record e { uri = masked_uri e.cause; hidden = false }) e
shown_as true e is = absurd cc
shown_as false e is = refl

hidden_by : (o : Option Entry) → is_hidden o ≡ true → option_map (masked_entry true) o ≡ option_map (masked_entry false) o
hidden_by None is = refl
hidden_by (Some e) is = ap (λ (x : Entry). Some x) (hidden_as e.hidden e is)

shown_by : (o : Option Entry) → is_hidden o ≡ false → o ≡ option_map (masked_entry false) o
shown_by None is = refl
shown_by (Some e) is = ap (λ (x : Entry). Some x) (shown_as e.hidden e is)

marked_if : (b : Bool) (v : List ℕ) → is_marked_value v ≡ b → entry_of (masked_entries MarkedEntries v) ≡ option_map (masked_entry false) (entry_of v)
unfolding is_marked_value
marked_if true v e = rw e (masked_entry_of v ∙ hidden_by (entry_of v) e)
marked_if false v e = rw e (shown_by (entry_of v) e)

one_more : (all : Bool) (o : Option Entry) (h : List Entry) → option_to_list (option_map (masked_entry all) o) ++ masked_list all h ≡ masked_list all (option_to_list o ++ h)
one_more all None h = refl
one_more all (Some e) h = refl

-- entries of values of which each is masked
each_masked : (all : Bool) (f : List ℕ → List ℕ) → ((v : List ℕ) → entry_of (f v) ≡ option_map (masked_entry all) (entry_of v)) → (vs : List (List ℕ)) →
    History.entries_of (map f vs) ≡ masked_list all (History.entries_of vs)
each_masked all f law [] = refl
each_masked all f law (v ∷ vs) =
    ap (λ (h : List Entry). option_to_list (entry_of (f v)) ++ h) (each_masked all f law vs)
    ∙ (ap (λ (o : Option Entry). option_to_list o ++ masked_list all (History.entries_of vs)) (law v)
    ∙ one_more all (entry_of v) (History.entries_of vs))

none_masked : (vs : List (List ℕ)) → History.entries_of (map (masked_entries NoEntries) vs) ≡ History.entries_of vs
none_masked [] = refl
none_masked (v ∷ vs) = ap (λ (h : List Entry). option_to_list (entry_of v) ++ h) (none_masked vs)

entries_masked : (es : Entries) (vs : List (List ℕ)) → History.entries_of (map (masked_entries es) vs) ≡ hidden_entries es (History.entries_of vs)
entries_masked NoEntries vs = none_masked vs
entries_masked MarkedEntries vs = each_masked false (masked_entries MarkedEntries) (λ v. marked_if (is_marked_value v) v refl) vs
entries_masked AllEntries vs = each_masked true (masked_entries AllEntries) masked_entry_of vs

history-masked : (p : PrivateFields) (ls : List Line) → history_in (masked_lines p ls) ≡ hidden_entries p.history (history_in ls)
history-masked p ls = ap (λ (vs : List (List ℕ)). History.entries_of vs) (texts-changed p (codes "History-Info") (masked_entries p.history) (history_value p) ls)
    ∙ entries_masked p.history (line_texts (codes "History-Info") ls)

-- ---- the whole

pub parsed-masked : (p : PrivateFields) (trusted : Bool) (m : Message Start) → parsed_message trusted (masked_message p m) ≡ hide p (parsed_message trusted m)
parsed-masked p trusted m =
    let q : PrivateFields = private_fields_in m.start p in
    rw (
      texts-masked q (codes "Via") m.lines (via_kept q),
      from_tag-masked q m.lines,
      to_tag-masked q m.lines,
      first-masked q (codes "Call-ID") m.lines (call_id_kept q),
      first-masked q (codes "CSeq") m.lines (cseq_kept q),
      first-masked q (codes "Max-Forwards") m.lines (hops_kept q),
      to-masked p m.start m.lines,
      texts-masked q (codes "Route") m.lines (route_kept q),
      texts-masked q (codes "Record-Route") m.lines (way_kept q),
      texts-masked q (codes "Require") m.lines (require_kept q),
      texts-masked q (codes "Supported") m.lines (supported_kept q),
      first-masked q (codes "Expires") m.lines (expires_kept q),
      served-masked q m.lines,
      texts-masked q (codes "Refer-To") m.lines (refer_to_kept q),
      first-masked q (codes "Event") m.lines (event_kept q),
      first-masked q (codes "RSeq") m.lines (rseq_kept q),
      first-masked q (codes "RAck") m.lines (rack_kept q),
      texts-masked q (codes "Session-Expires") m.lines (session_kept q),
      one_contact-masked q m.lines,
      wants-masked q m.lines,
      history-masked q m.lines,
      redirect-masked p m.start m.lines,
    ) refl

pub public-masked : (p : PrivateFields) (trusted : Bool) (m : Message Start) → public_part (parsed_message trusted (masked_message p m)) ≡ public_part (parsed_message trusted m)
public-masked p trusted m = ap public_part (parsed-masked p trusted m)

-- messages that are equal without private places, whatever these are
pub public_equal : (p q : PrivateFields) (trusted : Bool) (m n : Message Start) → masked_message p m ≡ masked_message q n → public_part (parsed_message trusted m) ≡ public_part (parsed_message trusted n)
public_equal p q trusted m n e = sym (public-masked p trusted m) ∙ (ap (λ (x : Message Start). public_part (parsed_message trusted x)) e ∙ public-masked q trusted n)

-- ---- hiding twice

entries_twice : (es : Entries) (h : List Entry) → hidden_entries es (hidden_entries es h) ≡ hidden_entries es h
entries_twice NoEntries h = refl
entries_twice MarkedEntries h = masked_once false h
entries_twice AllEntries h = masked_once true h

uri_twice : (b : Bool) (u : Option (List ℕ)) → hidden_uri b (hidden_uri b u) ≡ hidden_uri b u
uri_twice true None = refl
uri_twice true (Some u) = refl
uri_twice false u = refl

pub hide_again : (p : PrivateFields) (m : ParsedMessage) → hide p (hide p m) ≡ hide p m
hide_again p m = rw (entries_twice p.history m.history, uri_twice p.redirect m.redirect, lines_again (private_fields_in m.start p) m.lines) refl
