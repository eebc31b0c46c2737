-- What is read of a clean message is clean, and so is what is copied from it: its URIs, its entries of History-Info, and its header fields.
use Rattle.std.proofs.Common.{◌≡◌, Bool, true, false, not, ◌&&◌, ◌||◌, ℕ, zero, suc, ◌-◌, List, [], ◌∷◌, ◌++◌, length, Option, Some, None, refl, sym, subst, arith, Result, Ok, Err}
use Rattle.std.specs.Prelude.{IfSome, codes, decimal, filter, if◌then◌else◌, option_to_list, slice_get}
use Rattle.std.specs.Option.{option_map_or}
use Rattle.std.specs.List.{list_all}
use Rattle.std.specs.Str.{str_eq_ignore_ascii_case}
use Rattle.std.proofs.lemmas.Bool.Decides.{nat_tests}
use Rattle.mmtel_base.specs.Chain.{◌>>=◌}
use Rattle.mmtel_base.specs.Classes.{IsAll, in_class}
use Rattle.mmtel_base.specs.Scanning.{split_once_at}
use Rattle.mmtel_base.specs.declared.classes.Class.TheVariants.{UriByte}
use Rattle.mmtel_base.proofs.Runs.{and_true, split_takes}
use Rattle.mmtel_history.specs.EntryUri.{cause_text, has_headers, headers_from, host_part_without_causes, is_marked, mark_text, marked_uri, with_cause, with_host_part, without_cause}
use Rattle.mmtel_history.specs.HistoryInfo.{anonymous, entries_of, entry_in, entry_of, entry_text, entry_with, history_for_caller, index_of, is_index, last_index, list_after_diversion}
use Rattle.mmtel_history.specs.HistoryInfo.{list_hidden_if, list_marked_at, masked_entry, masked_list, masked_uri, target_entry, with_first_entry, with_target, without_index, written_uri}
use Rattle.mmtel_history.specs.declared.entries.Entry.{Entry}
use Rattle.mmtel_history.proofs.HostPartTheorems.{plain_all}
use Rattle.mmtel_lex.specs.Grammar.{param_text, params_text, uri_text}
use Rattle.mmtel_lex.specs.Params.{param_value}
use Rattle.mmtel_lex.specs.Reading.{Refusal, name_addr_of, uri_of}
use Rattle.mmtel_lex.specs.UriParts.{host_and_params, host_part, prefix_or_all, user_part}
use Rattle.mmtel_lex.specs.declared.values.NameAddr.{NameAddr}
use Rattle.mmtel_lex.specs.declared.values.Param.{Param}
use Rattle.mmtel_lex.specs.declared.values.Uri.{Uri}
use Rattle.mmtel_lex.proofs.UriTheorems.{uri_takes}
use Rattle.mmtel_lex.proofs.UriPartTheorems.{whole_uri}
use Rattle.mmtel_lex.proofs.Visible.{printed_visible}
use Rattle.mmtel_message.specs.Entries.{is_indexed}
use Rattle.mmtel_message.specs.Faults.{is_request}
use Rattle.mmtel_message.specs.Headers.{is_value_byte}
use Rattle.mmtel_message.specs.Message.{Line, Message, first_value, line_texts, lines_named}
use Rattle.mmtel_message.specs.declared.messages.Start.{Start}
use Rattle.mmtel_message.specs.declared.values.Mode.TheVariants.{Words}
use Rattle.mmtel_trust.specs.Asserted.{or_no_uri}
use Rattle.mmtel_trust.specs.ParsedMessage.{ParsedMessage, parsed_message}
use Rattle.mmtel_trust.specs.HeaderTable.{asserted_lines, attempt_from, carried_history, carries_history, history_line, history_lines, is_shown, name_addr_in, named_text, other_lines, privacy_lines, shown_lines}
use Rattle.mmtel_trust.specs.Privacy.{has_word, restricted_text, restricted_words, words}
use Rattle.mmtel_trust.specs.declared.header_table.Facing.{Facing}
use Rattle.mmtel_call_theorems.specs.NoInjection.Messages.{HasNoInjection, HaveNoInjection, LinesHaveNoInjection, line_has_no_injection}
use Rattle.mmtel_compose.specs.ReceivedMessages.{phrase_in}
use Rattle.mmtel_call_theorems.specs.NoInjection.Inputs.{ParsedHasNoInjection, UriHasNoInjection}
use Rattle.mmtel_call_theorems.specs.NoInjection.CallState.{EntriesHaveNoInjection, entry_has_no_injection}
use Rattle.mmtel_call_theorems.proofs.NoInjection.Bytes.{all_append, all_cons, all_filter, all_flat, all_map, both, decimal_no_injection, joined, line_no_injection, parted as cut}
use Rattle.mmtel_call_theorems.proofs.NoInjection.Building.{if_lines, lines_joined}
use Rattle.mmtel_call_theorems.proofs.NoInjection.Reading.{NameHasNoInjection, first_no_injection, joined_by_no_injection, name_no_injection, name_text_no_injection}
use Rattle.mmtel_call_theorems.proofs.NoInjection.Reading.{named_no_injection, or_no_injection, param_no_injection, texts_no_injection, values_named_no_injection}

-- ---- URIs

visible_byte : (b : ℕ) → in_class UriByte b ≡ true → is_value_byte b ≡ true
unfolding in_class
visible_byte b e = grind (arith, nat_tests, e)

pub visible_no_injection : (s : List ℕ) → IsAll UriByte s → HasNoInjection s
visible_no_injection [] e = refl
visible_no_injection (b ∷ s) e =
    let halves = and_true (in_class UriByte b) (list_all (in_class UriByte) s) e in
    both (is_value_byte b) (list_all is_value_byte s) (visible_byte b halves.0) (visible_no_injection s halves.1)

-- a URI that was read, from whatever text
pub read_uri_no_injection : (s : List ℕ) → IfSome (or_no_uri (uri_of s)) UriHasNoInjection
read_uri_no_injection s = by (uri_of s) refl
  where
    by : (r : Result Uri Refusal) → uri_of s ≡ r → IfSome (or_no_uri r) UriHasNoInjection
    by (Ok u) e = visible_no_injection (uri_text u) (printed_visible s u (uri_takes s u e))
    by (Err f) e = tt

pub redirect_no_injection : (o : Option (List ℕ)) → IfSome (o >>= λ uri. or_no_uri (uri_of uri)) UriHasNoInjection
redirect_no_injection None = tt
redirect_no_injection (Some s) = read_uri_no_injection s

places : (u : List ℕ) → HasNoInjection u → HasNoInjection (user_part u) × HasNoInjection (host_part u)
places u e = cut (user_part u) (host_part u) (subst HasNoInjection (whole_uri u) e)

front_from_no_injection : (s : List ℕ) (o : Option (List ℕ × List ℕ)) → split_once_at 63 s ≡ o → HasNoInjection s → HasNoInjection (prefix_or_all s o)
front_from_no_injection s None e is = is
front_from_no_injection s (Some x) e is = (cut x.0 (63 ∷ x.1) (subst HasNoInjection (split_takes 63 s x e) is)).0

headers_no_injection : (s : List ℕ) (o : Option (List ℕ × List ℕ)) → split_once_at 63 s ≡ o → HasNoInjection s → HasNoInjection (headers_from o)
headers_no_injection s None e is = refl
headers_no_injection s (Some x) e is = (cut x.0 (63 ∷ x.1) (subst HasNoInjection (split_takes 63 s x e) is)).1

plain_front : (u : List ℕ) → HasNoInjection u → HasNoInjection (host_part_without_causes (host_and_params u))
plain_front u e = plain_all is_value_byte (host_and_params u) refl (front_from_no_injection (host_part u) (split_once_at 63 (host_part u)) refl (places u e).1)

with_front_no_injection : (front u : List ℕ) → HasNoInjection front → HasNoInjection u → HasNoInjection (with_host_part front u)
with_front_no_injection front u e f =
    joined (user_part u) (front ++ headers_from (split_once_at 63 (host_part u))) (places u f).0
    (joined front (headers_from (split_once_at 63 (host_part u))) e (headers_no_injection (host_part u) (split_once_at 63 (host_part u)) refl (places u f).1))

pub caused_no_injection : (cause : ℕ) (u : List ℕ) → HasNoInjection u → HasNoInjection (with_cause cause u)
unfolding with_cause
caused_no_injection cause u e =
    with_front_no_injection (host_part_without_causes (host_and_params u) ++ cause_text (Some cause)) u
    (joined (host_part_without_causes (host_and_params u)) (cause_text (Some cause)) (plain_front u e) (joined (codes ";cause=") (decimal cause) refl (decimal_no_injection cause))) e

pub uncaused_no_injection : (u : List ℕ) → HasNoInjection u → HasNoInjection (without_cause u)
unfolding without_cause
uncaused_no_injection u e = with_front_no_injection (host_part_without_causes (host_and_params u)) u (plain_front u e) e

mark_no_injection : (b : Bool) → HasNoInjection (mark_text b)
mark_no_injection true = refl
mark_no_injection false = refl

marked_no_injection : (u : List ℕ) → HasNoInjection u → HasNoInjection (marked_uri u)
unfolding marked_uri
marked_no_injection u e = by (is_marked u)
  where
    by : (t : Bool) → HasNoInjection (if t then u else u ++ mark_text (has_headers u))
    by true = e
    by false = joined u (mark_text (has_headers u)) e (mark_no_injection (has_headers u))

-- ---- entries

pub entry_no_injection : (e : Entry) → HasNoInjection e.uri → HasNoInjection e.index → HasNoInjection e.rest → entry_has_no_injection e ≡ true
entry_no_injection e uri index rest =
    both (list_all is_value_byte e.uri) (list_all is_value_byte e.index && list_all is_value_byte e.rest) uri (both (list_all is_value_byte e.index) (list_all is_value_byte e.rest) index rest)

record EntryHasNoInjection (e : Entry) : Type 0 where
  pub uri : HasNoInjection e.uri
  pub index : HasNoInjection e.index
  pub rest : HasNoInjection e.rest

entry_parts : (e : Entry) → entry_has_no_injection e ≡ true → EntryHasNoInjection e
entry_parts e is =
    let one = and_true (list_all is_value_byte e.uri) (list_all is_value_byte e.index && list_all is_value_byte e.rest) is in
    let two = and_true (list_all is_value_byte e.index) (list_all is_value_byte e.rest) one.1 in
    record { uri = one.0; index = two.0; rest = two.1 }

copied_uri_no_injection : (e : Entry) → HasNoInjection e.uri → HasNoInjection (written_uri e)
unfolding written_uri
copied_uri_no_injection e is = by e.hidden
  where
    by : (t : Bool) → HasNoInjection (if t then marked_uri e.uri else e.uri)
    by true = marked_no_injection e.uri is
    by false = is

entry_text_no_injection : (e : Entry) → entry_has_no_injection e ≡ true → HasNoInjection (entry_text e)
unfolding entry_text
entry_text_no_injection e is =
    let parts = entry_parts e is in
    all_cons is_value_byte 60 (written_uri e ++ (codes ">;index=" ++ (e.index ++ e.rest))) refl
    (joined (written_uri e) (codes ">;index=" ++ (e.index ++ e.rest)) (copied_uri_no_injection e parts.uri)
    (joined (codes ">;index=") (e.index ++ e.rest) refl (joined e.index e.rest parts.index parts.rest)))

-- as they are parsed

but_index_no_injection : (ps : List Param) → HasNoInjection (params_text ps) → HasNoInjection (params_text (without_index ps))
but_index_no_injection [] e = refl
but_index_no_injection (p ∷ ps) e =
    let halves = cut (param_text p) (params_text ps) e in
    by (is_index p) halves.1 (joined (param_text p) (params_text (without_index ps)) halves.0 (but_index_no_injection ps halves.1))
  where
    by : (t : Bool) → HasNoInjection (params_text ps) → HasNoInjection (params_text (p ∷ without_index ps)) → HasNoInjection (params_text (if t then ps else p ∷ without_index ps))
    by true f g = f
    by false f g = g

abbrev IsNew : Entry → Type 0
IsNew e = entry_has_no_injection e ≡ true

entry_in_no_injection : (n : NameAddr) → HasNoInjection n.uri → HasNoInjection (params_text n.params) → IfSome (entry_in n) IsNew
entry_in_no_injection n uri params = by (is_indexed (Some n))
  where
    made : Entry
    made = entry_with n.uri (index_of n.params) (params_text (without_index n.params))

    by : (t : Bool) → IfSome (if t then Some made else None) IsNew
    by true = entry_no_injection made uri (or_no_injection (param_value (codes "index") n.params) (param_no_injection (codes "index") n.params params)) (but_index_no_injection n.params params)
    by false = tt

entry_of_no_injection : (value : List ℕ) → HasNoInjection value → IfSome (entry_of value) IsNew
unfolding entry_of
entry_of_no_injection value e = by (name_addr_of value) refl
  where
    by : (o : Option NameAddr) → name_addr_of value ≡ o → IfSome (o >>= entry_in) IsNew
    by None f = tt
    by (Some n) f = let is = name_no_injection value n f e in entry_in_no_injection n is.uri is.params

option_entries : (o : Option Entry) → IfSome o IsNew → EntriesHaveNoInjection (option_to_list o)
option_entries None e = refl
option_entries (Some x) e = both (entry_has_no_injection x) true e refl

pub entries_no_injection : (values : List (List ℕ)) → HaveNoInjection values → EntriesHaveNoInjection (entries_of values)
entries_no_injection values e = all_flat (list_all is_value_byte) entry_has_no_injection (λ v. option_to_list (entry_of v)) (λ v f. option_entries (entry_of v) (entry_of_no_injection v f)) values e

-- after marking, diversions and masking

marked_at_no_injection : (n : ℕ) (h : List Entry) → EntriesHaveNoInjection h → EntriesHaveNoInjection (list_marked_at n h)
marked_at_no_injection n [] e = refl
marked_at_no_injection zero (x ∷ h) e = e
marked_at_no_injection (suc n) (x ∷ h) e =
    let halves = and_true (entry_has_no_injection x) (list_all entry_has_no_injection h) e in
    both (entry_has_no_injection x) (list_all entry_has_no_injection (list_marked_at n h)) halves.0 (marked_at_no_injection n h halves.1)

hidden_if_no_injection : (b : Bool) (n : ℕ) (h : List Entry) → EntriesHaveNoInjection h → EntriesHaveNoInjection (list_hidden_if b n h)
hidden_if_no_injection true n h e = marked_at_no_injection n h e
hidden_if_no_injection false n h e = e

pub notified_no_injection : (a b : Bool) (h : List Entry) → EntriesHaveNoInjection h → EntriesHaveNoInjection (history_for_caller a b h)
notified_no_injection a b h e = hidden_if_no_injection b (length h - 1) (list_hidden_if a (length h - 2) h) (hidden_if_no_injection a (length h - 2) h e)

masked_uri_no_injection : (cause : Option ℕ) → HasNoInjection (masked_uri cause)
masked_uri_no_injection None = refl
masked_uri_no_injection (Some cause) = caused_no_injection cause anonymous refl

masked_entry_no_injection : (all : Bool) (e : Entry) → entry_has_no_injection e ≡ true → entry_has_no_injection (masked_entry all e) ≡ true
masked_entry_no_injection all e is = by (all || e.hidden)
  where
    by : (t : Bool) → entry_has_no_injection (if t then record e { uri = masked_uri e.cause; hidden = false } else e) ≡ true
    by true = let parts = entry_parts e is in entry_no_injection (record e { uri = masked_uri e.cause; hidden = false }) (masked_uri_no_injection e.cause) parts.index parts.rest
    by false = is

pub masked_no_injection : (all : Bool) (h : List Entry) → EntriesHaveNoInjection h → EntriesHaveNoInjection (masked_list all h)
masked_no_injection all h e = all_map entry_has_no_injection entry_has_no_injection (masked_entry all) (masked_entry_no_injection all) h e

index_at : (h : List Entry) (n : ℕ) → EntriesHaveNoInjection h → HasNoInjection (option_map_or (λ e. e.index) (slice_get h n) [])
index_at [] n e = refl
index_at (x ∷ h) zero e = (entry_parts x (and_true (entry_has_no_injection x) (list_all entry_has_no_injection h) e).0).index
index_at (x ∷ h) (suc n) e = index_at h n (and_true (entry_has_no_injection x) (list_all entry_has_no_injection h) e).1

target_entry_no_injection : (index target : List ℕ) (cause : ℕ) → HasNoInjection index → HasNoInjection target → entry_has_no_injection (target_entry index target cause) ≡ true
target_entry_no_injection index target cause e f = entry_no_injection (target_entry index target cause) (caused_no_injection cause target f) (joined index (codes ".1") e refl) refl

with_target_no_injection : (h : List Entry) (target : List ℕ) (cause : ℕ) (hide : Bool) → EntriesHaveNoInjection h → HasNoInjection target → EntriesHaveNoInjection (with_target h target cause hide)
with_target_no_injection h target cause hide e f =
    all_append entry_has_no_injection (list_hidden_if hide (length h - 1) h) (target_entry (last_index h) target cause ∷ []) (hidden_if_no_injection hide (length h - 1) h e)
    (both (entry_has_no_injection (target_entry (last_index h) target cause)) true (target_entry_no_injection (last_index h) target cause (index_at h (length h - 1) e) f) refl)

started_no_injection : (from : List ℕ) (h : List Entry) → HasNoInjection from → EntriesHaveNoInjection h → EntriesHaveNoInjection (with_first_entry from h)
started_no_injection from [] e f = both (entry_has_no_injection (entry_with from (codes "1") [])) true (entry_no_injection (entry_with from (codes "1") []) e refl refl) refl
started_no_injection from (x ∷ h) e f = f

pub appended_no_injection : (h : List Entry) (from target : List ℕ) (cause : ℕ) (hide : Bool) → EntriesHaveNoInjection h → HasNoInjection from → HasNoInjection target →
    EntriesHaveNoInjection (list_after_diversion h from target cause hide)
unfolding list_after_diversion
appended_no_injection h from target cause hide e f g = with_target_no_injection (with_first_entry from h) target cause hide (started_no_injection from h f e) g

-- ---- the header fields that are copied

pub history_lines_no_injection : (mask to_trusted : Bool) (h : List Entry) → EntriesHaveNoInjection h → LinesHaveNoInjection (history_lines mask to_trusted h)
history_lines_no_injection mask to_trusted h e =
    all_map entry_has_no_injection line_has_no_injection history_line (λ x f. line_no_injection (codes "History-Info") (entry_text x) refl (entry_text_no_injection x f))
    (if to_trusted then h else masked_list mask h) (by to_trusted)
  where
    by : (t : Bool) → EntriesHaveNoInjection (if t then h else masked_list mask h)
    by true = e
    by false = masked_no_injection mask h e

restricted_no_injection : (ls : List Line) → LinesHaveNoInjection ls → HasNoInjection (restricted_text ls)
restricted_no_injection ls e =
    joined_by_no_injection (codes ";") (restricted_words ls) refl
    (all_append (list_all is_value_byte) (filter (λ v. not (str_eq_ignore_ascii_case v (codes "none"))) (words ls)) (if has_word (codes "id") ls then [] else codes "id" ∷ [])
    (all_filter (list_all is_value_byte) (λ v. not (str_eq_ignore_ascii_case v (codes "none"))) (words ls) (values_named_no_injection Words (codes "Privacy") ls e)) (by (has_word (codes "id") ls)))
  where
    by : (t : Bool) → HaveNoInjection (if t then [] else codes "id" ∷ [])
    by true = refl
    by false = refl

privacy_no_injection : (f : Facing) (to_trusted : Bool) (ls : List Line) → LinesHaveNoInjection ls → LinesHaveNoInjection (privacy_lines f to_trusted ls)
privacy_no_injection f to_trusted ls e = by (not to_trusted) f.restricted
  where
    by : (s t : Bool) → LinesHaveNoInjection (if s then [] else if t then (codes "Privacy", restricted_text ls) ∷ [] else lines_named (codes "Privacy") ls)
    by true t = refl
    by false true = all_cons line_has_no_injection (codes "Privacy", restricted_text ls) [] (line_no_injection (codes "Privacy") (restricted_text ls) refl (restricted_no_injection ls e)) refl
    by false false = named_no_injection (codes "Privacy") ls e

pub copied_no_injection : (f : Facing) (to_trusted : Bool) (h : List Entry) (start : Start) (ls : List Line) → EntriesHaveNoInjection h → LinesHaveNoInjection ls →
    LinesHaveNoInjection (shown_lines f to_trusted h start ls)
copied_no_injection f to_trusted h start ls e is =
    lines_joined (asserted_lines f to_trusted ls) (privacy_lines f to_trusted ls ++ (carried_history f to_trusted h start ++ other_lines f to_trusted ls))
    (if_lines (f.from_trusted && f.present && (to_trusted || not f.restricted)) (lines_named (codes "P-Asserted-Identity") ls) [] (named_no_injection (codes "P-Asserted-Identity") ls is) refl)
    (lines_joined (privacy_lines f to_trusted ls) (carried_history f to_trusted h start ++ other_lines f to_trusted ls) (privacy_no_injection f to_trusted ls is)
    (lines_joined (carried_history f to_trusted h start) (other_lines f to_trusted ls)
    (if_lines (carries_history start) (history_lines f.mask_all to_trusted h) [] (history_lines_no_injection f.mask_all to_trusted h e) refl)
    (all_filter line_has_no_injection (is_shown f to_trusted) ls is)))

-- ---- From of an attempt

read_by_name : (v : Option (List ℕ)) → IfSome v HasNoInjection → IfSome (name_addr_in v) NameHasNoInjection
read_by_name None e = tt
read_by_name (Some v) e = by (name_addr_of v) refl
  where
    by : (o : Option NameAddr) → name_addr_of v ≡ o → IfSome o NameHasNoInjection
    by None f = tt
    by (Some n) f = name_no_injection v n f e

named_text_no_injection : (o : Option NameAddr) → IfSome o NameHasNoInjection → HasNoInjection (named_text o)
named_text_no_injection None e = refl
named_text_no_injection (Some n) e = name_text_no_injection (record n { params = [] }) e.display e.uri refl

pub from_no_injection : (restricted : Bool) (tag : List ℕ) (ls : List Line) → HasNoInjection tag → LinesHaveNoInjection ls → HasNoInjection (attempt_from restricted tag ls)
from_no_injection restricted tag ls e f =
    joined (named_text (if restricted then None else name_addr_in (first_value (codes "From") ls))) (codes ";tag=" ++ tag) (by restricted) (joined (codes ";tag=") tag refl e)
  where
    by : (t : Bool) → HasNoInjection (named_text (if t then None else name_addr_in (first_value (codes "From") ls)))
    by true = refl
    by false = named_text_no_injection (name_addr_in (first_value (codes "From") ls)) (read_by_name (first_value (codes "From") ls) (first_no_injection (codes "From") ls f))

-- ---- what is read of a message

pub record ParsedMessageHasNoInjection (m : ParsedMessage) : Type 0 where
  pub phrase_no_injection : HasNoInjection (phrase_in m.start)
  pub lines_in : LinesHaveNoInjection m.lines
  pub to_in : IfSome m.to HasNoInjection
  pub routes_in : HaveNoInjection m.routes
  pub history_in : EntriesHaveNoInjection m.history

of_message : (trusted : Bool) (m : Message Start) → LinesHaveNoInjection m.lines → HasNoInjection (phrase_in m.start) → ParsedMessageHasNoInjection (parsed_message trusted m)
of_message trusted m lines phrase = record {
  phrase_no_injection = phrase;
  lines_in = lines;
  to_in = by (is_request m.start) (first_no_injection (codes "To") m.lines lines);
  routes_in = texts_no_injection (codes "Route") m.lines lines;
  history_in = entries_no_injection (line_texts (codes "History-Info") m.lines) (texts_no_injection (codes "History-Info") m.lines lines);
}
  where
    by : (t : Bool) → IfSome (first_value (codes "To") m.lines) HasNoInjection → IfSome (if t then first_value (codes "To") m.lines else None) HasNoInjection
    by true e = e
    by false e = tt

pub parsed_no_injection : (m : ParsedMessage) → ParsedHasNoInjection m → ParsedMessageHasNoInjection m
parsed_no_injection m is = subst ParsedMessageHasNoInjection (sym is.is) (of_message is.trusted is.message is.lines_in is.phrase_no_injection)
