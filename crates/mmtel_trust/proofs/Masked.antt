-- Masking twice is masking once, and what an untrusted peer is shown of a restricted message it is shown of the masked one too.
use Rattle.std.proofs.Common.{◌≡◌, ℕ, List, [], ◌∷◌, refl, sym, ap, ◌∙◌, Bool, true, false, Option, Some, None, cond, inl, inr, arith, ◌&&◌, ◌||◌, not}
use Rattle.std.specs.Prelude.{filter}
use Rattle.std.proofs.lemmas.List.{append-nil}
use Rattle.std.specs.List.{flat_map}
use Rattle.std.specs.Option.{option_map}
use Rattle.mmtel_lex.specs.Grammar.{AreParams, IsNameAddr}
use Rattle.mmtel_lex.specs.Reading.{name_addr_of}
use Rattle.mmtel_base.specs.Classes as Classes
use Rattle.mmtel_base.specs.Classes.{in_class, IsOneOrMore}
use Rattle.mmtel_base.specs.declared.classes.Class.TheVariants.{UriByte}
use Rattle.mmtel_lex.specs.declared.values.Param.{Param}
use Rattle.mmtel_lex.specs.declared.values.NameAddr.{NameAddr}
use Rattle.mmtel_lex.proofs.NameAddrTheorems.{name_addr_again, name_addr_takes}
use Rattle.mmtel_message.specs.Message.{Line, Message}
use Rattle.mmtel_message.specs.declared.messages.Start.{Start}
use Rattle.mmtel_history.specs.HistoryInfo.{anonymous}
use Rattle.mmtel_history.specs.MaskedValues.{is_marked_value}
use Rattle.mmtel_history.proofs.MaskedValueTheorems.{masked_value_once, masked_value_shown}
use Rattle.mmtel_trust.specs.ParsedMessage.{served_in}
use Rattle.mmtel_trust.specs.Kinds.{kind_of}
use Rattle.mmtel_trust.specs.HeaderTable.{is_shown, asserted_lines, passed_lines}
use Rattle.mmtel_trust.specs.PrivateFields.{Entries, NoEntries, MarkedEntries, AllEntries, hidden_name_addr, hidden_value, is_orig, served_value, PrivateFields, private_fields_in}
use Rattle.mmtel_trust.specs.PrivateFields.{hide_if, serve_if, unless_removed, masked_entries, masked_value, with_name, masked_line, masked_lines, masked_message}
use Rattle.mmtel_trust.specs.declared.header_table.Facing.{Facing}
use Rattle.mmtel_trust.specs.declared.kinds.HeaderKind.{HeaderKind}
use Rattle.mmtel_trust.specs.declared.kinds.HeaderKind.TheVariants.{From, To, Contact, Asserted, Served, Privacy, History, Options, Session, Passed, Personal, Trusted, Other}
use Rattle.mmtel_trust.proofs.Absorbed.{absorbed, filtered}

-- ---- values

params_of : (s : List ℕ) (n : NameAddr) → IsNameAddr s n → AreParams n.params
params_of s n (inl is) = is.params_in
params_of s n (inr is) = is.params_in

abbrev pub with_params : List Param → NameAddr
with_params ps = record { display = []; uri = anonymous; params = ps }

anonymous_in : IsOneOrMore UriByte anonymous
unfolding Classes.in_class
anonymous_in = record { filled = omega arith; each = refl }

pub hidden_reads : (ps : List Param) → AreParams ps → name_addr_of (hidden_name_addr ps) ≡ Some (with_params ps)
unfolding hidden_name_addr Classes.in_class
hidden_reads ps are = name_addr_again (hidden_name_addr ps) (with_params ps)
    (inl (record { gap = []; whole = refl; starts = refl; display_in = inl (record { each = refl; ends = tt }); gap_in = refl; uri_in = anonymous_in; params_in = are }))

read_params : (v : List ℕ) (n : NameAddr) → name_addr_of v ≡ Some n → AreParams n.params
read_params v n e = params_of v n (name_addr_takes v n e)

hidden_by : (v : List ℕ) (o : Option NameAddr) → name_addr_of v ≡ o → hidden_value (hidden_value v) ≡ hidden_value v
unfolding hidden_value
hidden_by v None e = rw (e, e) refl
hidden_by v (Some n) e = rw (e, hidden_reads n.params (read_params v n e)) refl

pub hidden_once : (v : List ℕ) → hidden_value (hidden_value v) ≡ hidden_value v
hidden_once v = hidden_by v (name_addr_of v) refl

params_by : (v : List ℕ) (o : Option NameAddr) → name_addr_of v ≡ o → option_map (λ n. n.params) (name_addr_of (hidden_value v)) ≡ option_map (λ n. n.params) o
unfolding hidden_value
params_by v None e = rw (e, e) refl
params_by v (Some n) e = rw (e, hidden_reads n.params (read_params v n e)) refl

-- the parameters stay
pub hidden_params : (v : List ℕ) → option_map (λ n. n.params) (name_addr_of (hidden_value v)) ≡ option_map (λ n. n.params) (name_addr_of v)
hidden_params v = params_by v (name_addr_of v) refl

uri_by : (v : List ℕ) (o : Option NameAddr) → name_addr_of v ≡ o → option_map (λ n. n.uri) (name_addr_of (hidden_value v)) ≡ option_map (λ u. anonymous) (option_map (λ n. n.uri) o)
unfolding hidden_value
uri_by v None e = rw (e, e) refl
uri_by v (Some n) e = rw (e, hidden_reads n.params (read_params v n e)) refl

-- the anonymous URI is in the place of the URI
pub hidden_uris : (v : List ℕ) → option_map (λ n. n.uri) (name_addr_of (hidden_value v)) ≡ option_map (λ u. anonymous) (option_map (λ n. n.uri) (name_addr_of v))
hidden_uris v = uri_by v (name_addr_of v) refl

served_if : (b : Bool) (v : List ℕ) (n : NameAddr) → name_addr_of v ≡ Some n → is_orig n.params ≡ b → served_value (served_value v) ≡ served_value v
unfolding served_value
served_if true v n e o = rw (e, o, hidden_reads n.params (read_params v n e), o) refl
served_if false v n e o = rw (e, o, e, o) refl

unserved : (v : List ℕ) → name_addr_of v ≡ None → served_value v ≡ v
unfolding served_value
unserved v e = rw e refl

served_by : (v : List ℕ) (r : Option NameAddr) → name_addr_of v ≡ r → served_value (served_value v) ≡ served_value v
served_by v None e = let same : served_value v ≡ v = unserved v e in ap (λ w. served_value w) same
served_by v (Some n) e = served_if (is_orig n.params) v n e refl

pub served_once : (v : List ℕ) → served_value (served_value v) ≡ served_value v
served_once v = served_by v (name_addr_of v) refl

told_if : (b : Bool) (v : List ℕ) (n : NameAddr) → name_addr_of v ≡ Some n → is_orig n.params ≡ b → served_in (name_addr_of (served_value v)) ≡ served_in (Some n)
unfolding served_value
told_if true v n e o = rw (e, o, hidden_reads n.params (read_params v n e), o) refl
told_if false v n e o = rw (e, o, e, o) refl

told_by : (v : List ℕ) (r : Option NameAddr) → name_addr_of v ≡ r → served_in (name_addr_of (served_value v)) ≡ served_in r
told_by v None e = ap (λ (w : List ℕ). served_in (name_addr_of w)) (unserved v e) ∙ ap served_in e
told_by v (Some n) e = told_if (is_orig n.params) v n e refl

-- what a P-Served-User has that is not private stays
pub served_told : (v : List ℕ) → served_in (name_addr_of (served_value v)) ≡ served_in (name_addr_of v)
served_told v = told_by v (name_addr_of v) refl

-- ---- entries of History-Info

marked_if : (b : Bool) (v : List ℕ) → is_marked_value v ≡ b → masked_entries MarkedEntries (masked_entries MarkedEntries v) ≡ masked_entries MarkedEntries v
marked_if true v e = rw (e, masked_value_shown v) refl
marked_if false v e = rw (e, e) refl

entries_once : (es : Entries) (v : List ℕ) → masked_entries es (masked_entries es v) ≡ masked_entries es v
entries_once NoEntries v = refl
entries_once MarkedEntries v = marked_if (is_marked_value v) v refl
entries_once AllEntries v = masked_value_once v

-- ---- lines

hide_once : (b : Bool) (v : List ℕ) → hide_if b (hide_if b v) ≡ hide_if b v
hide_once true v = hidden_once v
hide_once false v = refl

serve_once : (b : Bool) (v : List ℕ) → serve_if b (serve_if b v) ≡ serve_if b v
serve_once true v = served_once v
serve_once false v = refl

abbrev pub then_by : (List ℕ → Option (List ℕ)) → Option (List ℕ) → Option (List ℕ)
then_by f None = None
then_by f (Some v) = f v

abbrev pub again : PrivateFields → HeaderKind → Option (List ℕ) → Option (List ℕ)
again p k o = then_by (masked_value p k) o

gone_once : (b : Bool) (v : List ℕ) → then_by (unless_removed b) (unless_removed b v) ≡ unless_removed b v
gone_once true v = refl
gone_once false v = refl

kind_once : (p : PrivateFields) (k : HeaderKind) (v : List ℕ) → again p k (masked_value p k v) ≡ masked_value p k v
kind_once p From v = ap (λ w. Some w) (hide_once p.from v)
kind_once p To v = ap (λ w. Some w) (hide_once p.to v)
kind_once p Contact v = ap (λ w. Some w) (hide_once p.contact v)
kind_once p Asserted v = gone_once p.asserted v
kind_once p Served v = ap (λ w. Some w) (serve_once p.served v)
kind_once p Privacy v = refl
kind_once p History v = ap (λ w. Some w) (entries_once p.history v)
kind_once p Options v = refl
kind_once p Session v = refl
kind_once p Passed v = refl
kind_once p Personal v = gone_once p.personal v
kind_once p Trusted v = refl
kind_once p Other v = refl

name_once : (p : PrivateFields) (n : List ℕ) (o : Option (List ℕ)) → flat_map (masked_line p) (with_name n o) ≡ with_name n (again p (kind_of n) o)
unfolding masked_line
name_once p n None = refl
name_once p n (Some v) = append-nil _

line_once : (p : PrivateFields) (l : Line) → flat_map (masked_line p) (masked_line p l) ≡ masked_line p l
unfolding masked_line
line_once p l = name_once p l.0 (masked_value p (kind_of l.0) l.1) ∙ ap (with_name l.0) (kind_once p (kind_of l.0) l.1)

pub lines_again : (p : PrivateFields) (ls : List Line) → masked_lines p (masked_lines p ls) ≡ masked_lines p ls
lines_again p ls = absorbed (masked_line p) (masked_line p) (line_once p) ls

pub masked_again : (p : PrivateFields) (m : Message Start) → masked_message p (masked_message p m) ≡ masked_message p m
masked_again p m = ap (λ ls. record m { lines = ls }) (lines_again (private_fields_in m.start p) m.lines)

-- ---- what is shown

gone_shown : (f : Facing) (b : Bool) (l : Line) → is_shown f false l ≡ false → filter (is_shown f false) (with_name l.0 (unless_removed b l.1)) ≡ filter (is_shown f false) (l ∷ [])
gone_shown f true l e = rw e refl
gone_shown f false l e = refl

shown_as : (p : PrivateFields) (f : Facing) → f.restricted ≡ true → (k : HeaderKind) (l : Line) → kind_of l.0 ≡ k → filter (is_shown f false) (with_name l.0 (masked_value p k l.1)) ≡ filter (is_shown f false) (l ∷ [])
unfolding is_shown
shown_as p f r From l e = rw e refl
shown_as p f r To l e = rw e refl
shown_as p f r Contact l e = rw e refl
shown_as p f r Asserted l e = gone_shown f p.asserted l (rw e refl)
shown_as p f r Served l e = rw e refl
shown_as p f r Privacy l e = refl
shown_as p f r History l e = rw e refl
shown_as p f r Options l e = refl
shown_as p f r Session l e = refl
shown_as p f r Passed l e = refl
shown_as p f r Personal l e = gone_shown f p.personal l (rw (e, r) refl)
shown_as p f r Trusted l e = refl
shown_as p f r Other l e = refl

shown_line : (p : PrivateFields) (f : Facing) → f.restricted ≡ true → (l : Line) → filter (is_shown f false) (masked_line p l) ≡ filter (is_shown f false) (l ∷ [])
unfolding masked_line
shown_line p f r l = shown_as p f r (kind_of l.0) l refl

none_if : (a b r : Bool) (x : List Line) → r ≡ true → cond ((a && b) && (false || not r)) x [] ≡ []
none_if true true r x e = rw e refl
none_if true false r x e = refl
none_if false b r x e = refl

none_asserted : (f : Facing) (ls : List Line) → f.restricted ≡ true → asserted_lines f false ls ≡ []
none_asserted f ls r = none_if f.from_trusted f.present f.restricted _ r

pub passed-masked : (p : PrivateFields) (f : Facing) (history ls : List Line) → f.restricted ≡ true → passed_lines f false history (masked_lines p ls) ≡ passed_lines f false history ls
passed-masked p f history ls r = rw (none_asserted f (masked_lines p ls) r, none_asserted f ls r, filtered (masked_line p) (is_shown f false) (shown_line p f r) ls) refl

-- lines that are equal without private places, whatever these are
pub passed_equal : (p q : PrivateFields) (f : Facing) (history ls ms : List Line) → f.restricted ≡ true → masked_lines p ls ≡ masked_lines q ms → passed_lines f false history ls ≡ passed_lines f false history ms
passed_equal p q f history ls ms r e = sym (passed-masked p f history ls r) ∙ (ap (λ (xs : List Line). passed_lines f false history xs) e ∙ passed-masked q f history ms r)
