-- What masking does not change.
use Rattle.std.proofs.Common.{◌≡◌, ℕ, List, [], ◌∷◌, ◌++◌, refl, sym, ap, ◌∙◌, Bool, true, false, Option, Some, None, codes, not}
use Rattle.std.specs.Prelude.{filter}
use Rattle.std.specs.List.{flat_map}
use Rattle.std.specs.Option.{option_map}
use Rattle.std.specs.Str.{str_to_ascii_lowercase, str_eq_ignore_ascii_case}
use Rattle.std.proofs.lemmas.Slice.Eq.{bytes_eq-Decides}
use Rattle.mmtel_base.specs.Chain.{◌>>=◌}
use Rattle.mmtel_lex.specs.Reading.{name_addr_of}
use Rattle.mmtel_lex.specs.declared.values.NameAddr.{NameAddr}
use Rattle.mmtel_lex.specs.declared.values.Param.{Param}
use Rattle.mmtel_lex.specs.Params.{param_value}
use Rattle.mmtel_message.specs.Message.{Line, first_value, is_line, line_values, lines_named, values_named}
use Rattle.mmtel_message.specs.declared.values.Mode.{Mode}
use Rattle.mmtel_message.specs.declared.values.Mode.TheVariants.{Words, Plain}
use Rattle.mmtel_trust.specs.Kinds.{kind_of}
use Rattle.mmtel_trust.specs.Privacy.{words, wants}
use Rattle.mmtel_trust.specs.PrivateFields.{Entries, NoEntries, MarkedEntries, AllEntries, only_entries, are_public, keeps_values, hidden_value, PrivateFields}
use Rattle.mmtel_trust.specs.PrivateFields.{hide_if, serve_if, unless_removed, masked_entries, masked_value, with_name, masked_line, masked_lines}
use Rattle.mmtel_trust.specs.Asserted.{asserted}
use Rattle.mmtel_trust.specs.ParsedMessage.{tag_of, origin_account}
use Rattle.mmtel_trust.specs.HeaderTable.{is_shown, passed_lines, attempt_from}
use Rattle.mmtel_trust.specs.declared.accounts.AccountIdentity.{AccountIdentity}
use Rattle.mmtel_trust.specs.declared.header_table.Facing.{Facing}
use Rattle.mmtel_trust.specs.declared.kinds.HeaderKind.{HeaderKind}
use Rattle.mmtel_trust.specs.declared.kinds.HeaderKind.TheVariants.{From, To, Contact, Asserted, Served, Privacy, History, Options, Session, Passed, Personal, Trusted, Other}
use Rattle.mmtel_trust.proofs.Absorbed.{filtered}
use Rattle.mmtel_trust.proofs.Masked.{hidden_params}

-- ---- names that are equal without case have the same kind

pub kind_like : (a b : List ℕ) → str_eq_ignore_ascii_case a b ≡ true → kind_of a ≡ kind_of b
unfolding kind_of
kind_like a b e = let same : str_to_ascii_lowercase a ≡ str_to_ascii_lowercase b = (bytes_eq-Decides (str_to_ascii_lowercase a) (str_to_ascii_lowercase b)).0 e in rw same refl

hide_not : (b : Bool) (v : List ℕ) → not b ≡ true → hide_if b v ≡ v
hide_not true v e = absurd cc
hide_not false v e = refl

serve_not : (b : Bool) (v : List ℕ) → not b ≡ true → serve_if b v ≡ v
serve_not true v e = absurd cc
serve_not false v e = refl

gone_not : (b : Bool) (v : List ℕ) → not b ≡ true → unless_removed b v ≡ Some v
gone_not true v e = absurd cc
gone_not false v e = refl

public_entries : (es : Entries) (v : List ℕ) → are_public es ≡ true → masked_entries es v ≡ v
public_entries NoEntries v e = refl
public_entries MarkedEntries v e = absurd cc
public_entries AllEntries v e = absurd cc

kept_value : (p : PrivateFields) (k : HeaderKind) (v : List ℕ) → keeps_values p k ≡ true → masked_value p k v ≡ Some v
kept_value p From v e = ap (λ w. Some w) (hide_not p.from v e)
kept_value p To v e = ap (λ w. Some w) (hide_not p.to v e)
kept_value p Contact v e = ap (λ w. Some w) (hide_not p.contact v e)
kept_value p Asserted v e = gone_not p.asserted v e
kept_value p Served v e = ap (λ w. Some w) (serve_not p.served v e)
kept_value p Privacy v e = refl
kept_value p History v e = ap (λ w. Some w) (public_entries p.history v e)
kept_value p Options v e = refl
kept_value p Session v e = refl
kept_value p Passed v e = refl
kept_value p Personal v e = gone_not p.personal v e
kept_value p Trusted v e = refl
kept_value p Other v e = refl

-- a masked line has its name
not_named : (name n : List ℕ) (o : Option (List ℕ)) → str_eq_ignore_ascii_case n name ≡ false → filter (λ x. is_line name x) (with_name n o) ≡ []
not_named name n None e = refl
not_named name n (Some v) e = rw e refl

kept_if : (b : Bool) (p : PrivateFields) (name : List ℕ) (l : Line) → keeps_values p (kind_of name) ≡ true → is_line name l ≡ b → filter (λ x. is_line name x) (masked_line p l) ≡ filter (λ x. is_line name x) (l ∷ [])
unfolding masked_line
kept_if true p name l k e = ap (λ o. filter (λ x. is_line name x) (with_name l.0 o)) (kept_value p (kind_of l.0) l.1 (ap (keeps_values p) (kind_like l.0 name e) ∙ k))
kept_if false p name l k e = rw e (not_named name l.0 (masked_value p (kind_of l.0) l.1) e)

pub named-masked : (p : PrivateFields) (name : List ℕ) (ls : List Line) → keeps_values p (kind_of name) ≡ true → lines_named name (masked_lines p ls) ≡ lines_named name ls
named-masked p name ls k = filtered (masked_line p) (λ x. is_line name x) (λ l. kept_if (is_line name l) p name l k refl) ls

-- ---- a look-up by name depends on the lines of that name alone

abbrev pub head_value : List Line → Option (List ℕ)
head_value [] = None
head_value (l ∷ ls) = Some l.1

first_if : (b : Bool) (name : List ℕ) (l : Line) (ls : List Line) → is_line name l ≡ b → first_value name ls ≡ head_value (lines_named name ls) → first_value name (l ∷ ls) ≡ head_value (lines_named name (l ∷ ls))
first_if true name l ls e ih = rw e refl
first_if false name l ls e ih = rw e ih

pub first_named : (name : List ℕ) (ls : List Line) → first_value name ls ≡ head_value (lines_named name ls)
first_named name [] = refl
first_named name (l ∷ ls) = first_if (is_line name l) name l ls refl (first_named name ls)

pub first-masked : (p : PrivateFields) (name : List ℕ) (ls : List Line) → keeps_values p (kind_of name) ≡ true → first_value name (masked_lines p ls) ≡ first_value name ls
first-masked p name ls k = first_named name (masked_lines p ls) ∙ (ap head_value (named-masked p name ls k) ∙ sym (first_named name ls))

only_if : {B : Type 0} (b : Bool) (name : List ℕ) (g : Line → List B) (l : Line) (ls : List Line) → is_line name l ≡ b → (b ≡ false → g l ≡ []) → flat_map g ls ≡ flat_map g (lines_named name ls) →
    flat_map g (l ∷ ls) ≡ flat_map g (lines_named name (l ∷ ls))
only_if true name g l ls e none ih = rw e (ap (λ ys. g l ++ ys) ih)
only_if false name g l ls e none ih = rw (e, none refl) ih

pub only_named : {B : Type 0} (name : List ℕ) (g : Line → List B) → ((l : Line) → is_line name l ≡ false → g l ≡ []) → (ls : List Line) → flat_map g ls ≡ flat_map g (lines_named name ls)
only_named name g none [] = refl
only_named name g none (l ∷ ls) = only_if (is_line name l) name g l ls refl (none l) (only_named name g none ls)

pub each-masked : {B : Type 0} (p : PrivateFields) (name : List ℕ) (g : Line → List B) → ((l : Line) → is_line name l ≡ false → g l ≡ []) → (ls : List Line) → keeps_values p (kind_of name) ≡ true →
    flat_map g (masked_lines p ls) ≡ flat_map g ls
each-masked p name g none ls k = only_named name g none (masked_lines p ls) ∙ (ap (λ xs. flat_map g xs) (named-masked p name ls k) ∙ sym (only_named name g none ls))

no_values : (m : Mode) (name : List ℕ) (l : Line) → is_line name l ≡ false → line_values m name l ≡ []
no_values m name l e = rw e refl

pub values-masked : (p : PrivateFields) (m : Mode) (name : List ℕ) (ls : List Line) → keeps_values p (kind_of name) ≡ true → values_named m name (masked_lines p ls) ≡ values_named m name ls
values-masked p m name ls k = each-masked p name (λ l. line_values m name l) (λ l e. no_values m name l e) ls k

privacy_kept : (p : PrivateFields) → keeps_values p (kind_of (codes "Privacy")) ≡ true
unfolding kind_of
privacy_kept p = refl

pub words-masked : (p : PrivateFields) (ls : List Line) → words (masked_lines p ls) ≡ words ls
words-masked p ls = values-masked p Words (codes "Privacy") ls (privacy_kept p)

wants_like : (ms ls : List Line) → words ms ≡ words ls → wants ms ≡ wants ls
wants_like ms ls e = rw e refl

pub wants-masked : (p : PrivateFields) (ls : List Line) → wants (masked_lines p ls) ≡ wants ls
wants-masked p ls = wants_like (masked_lines p ls) ls (words-masked p ls)

-- ---- lines of which the value alone is changed

skipped : (name n : List ℕ) (o : Option (List ℕ)) (more : List Line) → str_eq_ignore_ascii_case n name ≡ false → head_value (lines_named name (with_name n o ++ more)) ≡ first_value name more
skipped name n None more e = sym (first_named name more)
skipped name n (Some v) more e = rw e (sym (first_named name more))

-- the first value of a name whose lines stay is changed by masking as a single value is
changed_if : (b : Bool) (p : PrivateFields) (name : List ℕ) (f : List ℕ → List ℕ) (l : Line) (ls : List Line) → ((v : List ℕ) → masked_value p (kind_of name) v ≡ Some (f v)) → is_line name l ≡ b →
    first_value name (masked_lines p ls) ≡ option_map f (first_value name ls) → first_value name (masked_lines p (l ∷ ls)) ≡ option_map f (first_value name (l ∷ ls))
unfolding masked_line
changed_if true p name f l ls k e ih = rw (kind_like l.0 name e, k l.1, e) refl
changed_if false p name f l ls k e ih = rw e (first_named name (with_name l.0 (masked_value p (kind_of l.0) l.1) ++ masked_lines p ls) ∙ (skipped name l.0 (masked_value p (kind_of l.0) l.1) (masked_lines p ls) e ∙ ih))

pub changed : (p : PrivateFields) (name : List ℕ) (f : List ℕ → List ℕ) (ls : List Line) → ((v : List ℕ) → masked_value p (kind_of name) v ≡ Some (f v)) →
    first_value name (masked_lines p ls) ≡ option_map f (first_value name ls)
changed p name f [] k = refl
changed p name f (l ∷ ls) k = changed_if (is_line name l) p name f l ls k refl (changed p name f ls k)

pub from_value : (p : PrivateFields) (v : List ℕ) → masked_value p (kind_of (codes "From")) v ≡ Some (hide_if p.from v)
unfolding kind_of
from_value p v = refl

pub to_value : (p : PrivateFields) (v : List ℕ) → masked_value p (kind_of (codes "To")) v ≡ Some (hide_if p.to v)
unfolding kind_of
to_value p v = refl

tag_by : (r : Option NameAddr) → (r >>= λ n. param_value (codes "tag") n.params) ≡ (option_map (λ n. n.params) r >>= λ ps. param_value (codes "tag") ps)
tag_by None = refl
tag_by (Some n) = refl

pub tag_hidden : (b : Bool) (v : Option (List ℕ)) → tag_of (option_map (hide_if b) v) ≡ tag_of v
tag_hidden b None = refl
tag_hidden true (Some s) = tag_by (name_addr_of (hidden_value s)) ∙ (ap (λ r. r >>= λ ps. param_value (codes "tag") ps) (hidden_params s) ∙ sym (tag_by (name_addr_of s)))
tag_hidden false (Some s) = refl

pub from_tag-masked : (p : PrivateFields) (ls : List Line) → tag_of (first_value (codes "From") (masked_lines p ls)) ≡ tag_of (first_value (codes "From") ls)
from_tag-masked p ls = ap tag_of (changed p (codes "From") (hide_if p.from) ls (from_value p)) ∙ tag_hidden p.from (first_value (codes "From") ls)

pub to_tag-masked : (p : PrivateFields) (ls : List Line) → tag_of (first_value (codes "To") (masked_lines p ls)) ≡ tag_of (first_value (codes "To") ls)
to_tag-masked p ls = ap tag_of (changed p (codes "To") (hide_if p.to) ls (to_value p)) ∙ tag_hidden p.to (first_value (codes "To") ls)

-- ---- where only entries of History-Info are private

identity_kept : (es : Entries) → keeps_values (only_entries es) (kind_of (codes "P-Asserted-Identity")) ≡ true
unfolding kind_of
identity_kept es = refl

from_kept : (es : Entries) → keeps_values (only_entries es) (kind_of (codes "From")) ≡ true
unfolding kind_of
from_kept es = refl

served_kept : (es : Entries) → keeps_values (only_entries es) (kind_of (codes "P-Served-User")) ≡ true
unfolding kind_of
served_kept es = refl

shown_kind : (es : Entries) (f : Facing) (to_trusted : Bool) (k : HeaderKind) (l : Line) → kind_of l.0 ≡ k →
    filter (is_shown f to_trusted) (with_name l.0 (masked_value (only_entries es) k l.1)) ≡ filter (is_shown f to_trusted) (l ∷ [])
unfolding is_shown
shown_kind es f to_trusted From l e = refl
shown_kind es f to_trusted To l e = refl
shown_kind es f to_trusted Contact l e = refl
shown_kind es f to_trusted Asserted l e = refl
shown_kind es f to_trusted Served l e = refl
shown_kind es f to_trusted Privacy l e = refl
shown_kind es f to_trusted History l e = rw e refl
shown_kind es f to_trusted Options l e = refl
shown_kind es f to_trusted Session l e = refl
shown_kind es f to_trusted Passed l e = refl
shown_kind es f to_trusted Personal l e = refl
shown_kind es f to_trusted Trusted l e = refl
shown_kind es f to_trusted Other l e = refl

shown_alone : (es : Entries) (f : Facing) (to_trusted : Bool) (l : Line) → filter (is_shown f to_trusted) (masked_line (only_entries es) l) ≡ filter (is_shown f to_trusted) (l ∷ [])
unfolding masked_line
shown_alone es f to_trusted l = shown_kind es f to_trusted (kind_of l.0) l refl

-- what is passed of a message, to whichever peer
pub passed-entries : (es : Entries) (f : Facing) (to_trusted : Bool) (history ls : List Line) → passed_lines f to_trusted history (masked_lines (only_entries es) ls) ≡ passed_lines f to_trusted history ls
passed-entries es f to_trusted history ls =
    rw (
      named-masked (only_entries es) (codes "P-Asserted-Identity") ls (identity_kept es),
      named-masked (only_entries es) (codes "Privacy") ls (privacy_kept (only_entries es)),
      words-masked (only_entries es) ls,
      filtered (masked_line (only_entries es)) (is_shown f to_trusted) (shown_alone es f to_trusted) ls,
    ) refl

pub passed_equal-entries : (es other : Entries) (f : Facing) (to_trusted : Bool) (history ls ms : List Line) → masked_lines (only_entries es) ls ≡ masked_lines (only_entries other) ms →
    passed_lines f to_trusted history ls ≡ passed_lines f to_trusted history ms
passed_equal-entries es other f to_trusted history ls ms e =
    sym (passed-entries es f to_trusted history ls) ∙ (ap (λ (xs : List Line). passed_lines f to_trusted history xs) e ∙ passed-entries other f to_trusted history ms)

pub from-entries : (es : Entries) (restricted : Bool) (tag : List ℕ) (ls : List Line) → attempt_from restricted tag (masked_lines (only_entries es) ls) ≡ attempt_from restricted tag ls
from-entries es restricted tag ls = rw (first-masked (only_entries es) (codes "From") ls (from_kept es)) refl

-- the account of the caller, and whether there is an identity
pub asserted-entries : (es : Entries) (trusted : Bool) (ls : List Line) → asserted trusted (masked_lines (only_entries es) ls) ≡ asserted trusted ls
asserted-entries es trusted ls = rw (values-masked (only_entries es) Plain (codes "P-Asserted-Identity") ls (identity_kept es)) refl

pub origin-entries : (es : Entries) (accounts : List AccountIdentity) (trusted : Bool) (ls : List Line) → origin_account accounts trusted (masked_lines (only_entries es) ls) ≡ origin_account accounts trusted ls
origin-entries es accounts trusted ls = rw (asserted-entries es trusted ls, first-masked (only_entries es) (codes "P-Served-User") ls (served_kept es)) refl
