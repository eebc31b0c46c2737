-- What the header table never passes, and what it passes of a call's History-Info.
use Rattle.std.proofs.Common.{◌≡◌, ℕ, List, [], ◌∷◌, ◌++◌, refl, sym, ap, ◌∙◌, Bool, true, false, not, ◌&&◌, ◌||◌, codes, cond, map, inl, inr}
use Rattle.std.specs.Prelude.{filter}
use Rattle.std.specs.List.{list_all}
use Rattle.std.specs.Str.{str_eq_ignore_ascii_case}
use Rattle.std.proofs.lemmas.Bool.{cases_Bool}
use Rattle.std.proofs.lemmas.List.{append-nil}
use Rattle.std.proofs.lemmas.List.Elements.{filter-append}
use Rattle.mmtel_base.proofs.Runs.{and_true}
use Rattle.mmtel_history.specs.HistoryInfo.{entry_text, masked_list}
use Rattle.mmtel_history.specs.declared.entries.Entry.{Entry}
use Rattle.mmtel_message.specs.Message.{Line, Message, is_line, lines_named}
use Rattle.mmtel_message.specs.declared.messages.Start.{Start}
use Rattle.mmtel_trust.specs.Kinds.{is_among, is_own_field, kind_of, own_field_names}
use Rattle.mmtel_trust.specs.PrivateFields.{PrivateFields, masked_message, private_fields_in}
use Rattle.mmtel_trust.specs.HeaderTable.{asserted_lines, carried_history, carries_history, history_line, history_lines, is_shown, other_lines, passed_lines, passes, privacy_lines, shown_lines}
use Rattle.mmtel_trust.specs.Privacy.{restricted_text}
use Rattle.mmtel_trust.specs.declared.header_table.Facing.{Facing}
use Rattle.mmtel_trust.specs.declared.kinds.HeaderKind.{HeaderKind}
use Rattle.mmtel_trust.specs.declared.kinds.HeaderKind.TheVariants.{From, To, Contact, Asserted, Served, Privacy, History, Options, Session, Passed, Personal, Trusted, Other}
use Rattle.mmtel_trust.proofs.IndexKeeping.{kind_like}
use Rattle.mmtel_trust.proofs.Masked.{passed_equal}

-- ---- kinds of which no line of a message is passed

abbrev is_never : HeaderKind → Bool
is_never From = true
is_never To = true
is_never Contact = true
is_never Asserted = false
is_never Served = true
is_never Privacy = false
is_never History = true
is_never Options = false
is_never Session = false
is_never Passed = false
is_never Personal = false
is_never Trusted = false
is_never Other = true

abbrev is_history : HeaderKind → Bool
is_history From = false
is_history To = false
is_history Contact = false
is_history Asserted = false
is_history Served = false
is_history Privacy = false
is_history History = true
is_history Options = false
is_history Session = false
is_history Passed = false
is_history Personal = false
is_history Trusted = false
is_history Other = false

passes_kind : (f : Facing) (b : Bool) (k : HeaderKind) (v : List ℕ) → passes f b k v ≡ true → is_never k ≡ false
passes_kind f b From v e = absurd cc
passes_kind f b To v e = absurd cc
passes_kind f b Contact v e = absurd cc
passes_kind f b Asserted v e = refl
passes_kind f b Served v e = absurd cc
passes_kind f b Privacy v e = refl
passes_kind f b History v e = absurd cc
passes_kind f b Options v e = refl
passes_kind f b Session v e = refl
passes_kind f b Passed v e = refl
passes_kind f b Personal v e = refl
passes_kind f b Trusted v e = refl
passes_kind f b Other v e = absurd cc

-- ---- names of a kind

not_both : {A : Type 0} (b : Bool) → b ≡ true → b ≡ false → A
not_both b t f = absurd cc

among_kind : (P : HeaderKind → Bool) (names : List (List ℕ)) (n : List ℕ) → list_all (λ x. P (kind_of x)) names ≡ true → is_among names n ≡ true → P (kind_of n) ≡ true
among_kind P [] n all among = absurd cc
among_kind P (name ∷ names) n all among =
    let both = and_true (P (kind_of name)) (list_all (λ x. P (kind_of x)) names) all in
    elim (cases_Bool (str_eq_ignore_ascii_case n name)) [
      | inl y ↦ ap P (kind_like n name y) ∙ both.0
      | inr m ↦ among_kind P names n both.1 (rw m at among)
    ]

own_kinds : list_all (λ x. is_never (kind_of x)) own_field_names ≡ true
unfolding kind_of
own_kinds = refl

own_never : (n : List ℕ) → is_own_field n ≡ true → is_never (kind_of n) ≡ true
own_never n own = among_kind is_never own_field_names n own_kinds own

own_apart : list_all (λ x. not (is_history (kind_of x))) own_field_names ≡ true
unfolding kind_of
own_apart = refl

never_history : is_never (kind_of (codes "History-Info")) ≡ true
unfolding kind_of
never_history = refl

history_kind : is_history (kind_of (codes "History-Info")) ≡ true
unfolding kind_of
history_kind = refl

asserted_kind : is_never (kind_of (codes "P-Asserted-Identity")) ≡ false
unfolding kind_of
asserted_kind = refl

privacy_kind : is_never (kind_of (codes "Privacy")) ≡ false
unfolding kind_of
privacy_kind = refl

-- ---- lines of a message

-- a line of a kind that may be passed has none of the names whose lines never are
apart : (name : List ℕ) (l : Line) → is_never (kind_of name) ≡ true → is_never (kind_of l.0) ≡ false → is_line name l ≡ false
apart name l never may =
    elim (cases_Bool (is_line name l)) [
      | inl y ↦ not_both (is_never (kind_of l.0)) (ap is_never (kind_like l.0 name y) ∙ never) may
      | inr n ↦ n
    ]

none_among : (name other : List ℕ) → is_never (kind_of name) ≡ true → is_never (kind_of other) ≡ false → (ls : List Line) → lines_named name (lines_named other ls) ≡ []
none_among name other never may [] = refl
none_among name other never may (l ∷ ls) =
    elim (cases_Bool (is_line other l)) [
      | inl y ↦ rw (y, apart name l never (ap is_never (kind_like l.0 other y) ∙ may)) (none_among name other never may ls)
      | inr n ↦ rw n (none_among name other never may ls)
    ]

none_if : (b : Bool) (name : List ℕ) (ls : List Line) → lines_named name ls ≡ [] → lines_named name (cond b ls []) ≡ []
none_if true name ls none = none
none_if false name ls none = refl

none_asserted : (name : List ℕ) → is_never (kind_of name) ≡ true → (f : Facing) (b : Bool) (ls : List Line) → lines_named name (asserted_lines f b ls) ≡ []
none_asserted name never f b ls =
    none_if (f.from_trusted && f.present && (b || not f.restricted)) name (lines_named (codes "P-Asserted-Identity") ls) (none_among name (codes "P-Asserted-Identity") never asserted_kind ls)

privacy_by : (name : List ℕ) (b r : Bool) (x : Line) (ls : List Line) → is_line name x ≡ false → lines_named name ls ≡ [] → lines_named name (cond b [] (cond r (x ∷ []) ls)) ≡ []
privacy_by name true r x ls other none = refl
privacy_by name false true x ls other none = rw other refl
privacy_by name false false x ls other none = none

none_privacy : (name : List ℕ) → is_never (kind_of name) ≡ true → (f : Facing) (b : Bool) (ls : List Line) → lines_named name (privacy_lines f b ls) ≡ []
none_privacy name never f b ls =
    privacy_by name (not b) f.restricted (codes "Privacy", restricted_text ls) (lines_named (codes "Privacy") ls) (apart name (codes "Privacy", restricted_text ls) never privacy_kind)
    (none_among name (codes "Privacy") never privacy_kind ls)

shown_kind : (f : Facing) (b : Bool) (l : Line) → is_shown f b l ≡ true → is_never (kind_of l.0) ≡ false
unfolding is_shown
shown_kind f b l e = passes_kind f b (kind_of l.0) l.1 e

none_others : (name : List ℕ) → is_never (kind_of name) ≡ true → (f : Facing) (b : Bool) (ls : List Line) → lines_named name (other_lines f b ls) ≡ []
none_others name never f b [] = refl
none_others name never f b (l ∷ ls) =
    elim (cases_Bool (is_shown f b l)) [
      | inl y ↦ rw (y, apart name l never (shown_kind f b l y)) (none_others name never f b ls)
      | inr n ↦ rw n (none_others name never f b ls)
    ]

-- of such a name there are the lines of the call's list, and no others
pub passed_named : (name : List ℕ) → is_never (kind_of name) ≡ true → (f : Facing) (b : Bool) (history ls : List Line) → lines_named name (passed_lines f b history ls) ≡ lines_named name history
passed_named name never f b history ls =
    let P : Line → Bool = λ x. is_line name x in
    filter-append P (asserted_lines f b ls) (privacy_lines f b ls ++ (history ++ other_lines f b ls))
    ∙ (ap (λ (x : List Line). x ++ filter P (privacy_lines f b ls ++ (history ++ other_lines f b ls))) (none_asserted name never f b ls)
    ∙ (filter-append P (privacy_lines f b ls) (history ++ other_lines f b ls)
    ∙ (ap (λ (x : List Line). x ++ filter P (history ++ other_lines f b ls)) (none_privacy name never f b ls)
    ∙ (filter-append P history (other_lines f b ls)
    ∙ (ap (λ (x : List Line). filter P history ++ x) (none_others name never f b ls)
    ∙ append-nil (filter P history))))))

-- ---- lines of the call's list

own_not_history : (name : List ℕ) → is_own_field name ≡ true → (v : List ℕ) → is_line name (codes "History-Info", v) ≡ false
own_not_history name own v =
    elim (cases_Bool (is_line name (codes "History-Info", v))) [
      | inl y ↦
          let other : is_history (kind_of name) ≡ false = not_true (is_history (kind_of name)) (among_kind (λ k. not (is_history k)) own_field_names name own_apart own) in
          not_both (is_history (kind_of name)) (sym (ap is_history (kind_like (codes "History-Info") name y)) ∙ history_kind) other
      | inr n ↦ n
    ]
  where
    not_true : (b : Bool) → not b ≡ true → b ≡ false
    not_true true e = absurd cc
    not_true false e = refl

own_entries : (name : List ℕ) → is_own_field name ≡ true → (h : List Entry) → lines_named name (map history_line h) ≡ []
own_entries name own [] = refl
own_entries name own (e ∷ h) = rw (own_not_history name own (entry_text e)) (own_entries name own h)

pub own_history : (name : List ℕ) (all b : Bool) (h : List Entry) → is_own_field name ≡ true → lines_named name (history_lines all b h) ≡ []
own_history name all true h own = own_entries name own h
own_history name all false h own = own_entries name own (masked_list all h)

own_row : (name : List ℕ) (f : Facing) (b : Bool) (h : List Entry) (start : Start) → is_own_field name ≡ true → lines_named name (carried_history f b h start) ≡ []
own_row name f b h start own = none_if (carries_history start) name (history_lines f.mask_all b h) (own_history name f.mask_all b h own)

pub own_passed : (f : Facing) (b : Bool) (name : List ℕ) (history ls : List Line) → is_own_field name ≡ true → lines_named name history ≡ [] → lines_named name (passed_lines f b history ls) ≡ []
own_passed f b name history ls own none = passed_named name (own_never name own) f b history ls ∙ none

pub own_shown : (f : Facing) (b : Bool) (name : List ℕ) (h : List Entry) (start : Start) (ls : List Line) → is_own_field name ≡ true → lines_named name (shown_lines f b h start ls) ≡ []
own_shown f b name h start ls own = own_passed f b name (carried_history f b h start) ls own (own_row name f b h start own)

all_history : (h : List Entry) → lines_named (codes "History-Info") (map history_line h) ≡ map history_line h
all_history [] = refl
all_history (e ∷ h) = ap (λ (ls : List Line). history_line e ∷ ls) (all_history h)

row_history : (c b all : Bool) (h : List Entry) → lines_named (codes "History-Info") (cond c (history_lines all b h) []) ≡ cond c (history_lines all b h) []
row_history true true all h = all_history h
row_history true false all h = all_history (masked_list all h)
row_history false b all h = refl

-- what a message has in History-Info is not passed: the call's list alone is
pub history_shown : (f : Facing) (b : Bool) (h : List Entry) (start : Start) (ls : List Line) → lines_named (codes "History-Info") (shown_lines f b h start ls) ≡ carried_history f b h start
history_shown f b h start ls = passed_named (codes "History-Info") never_history f b (carried_history f b h start) ls ∙ row_history (carries_history start) b f.mask_all h

-- ---- what an untrusted peer sees of the list

pub entries_equal : (all : Bool) (h k : List Entry) → masked_list all h ≡ masked_list all k → history_lines all false h ≡ history_lines all false k
entries_equal all h k same = ap (λ (l : List Entry). map history_line l) same

pub shown_equal : (f : Facing) (h k : List Entry) (start : Start) (ls : List Line) → masked_list f.mask_all h ≡ masked_list f.mask_all k → shown_lines f false h start ls ≡ shown_lines f false k start ls
shown_equal f h k start ls same = ap (λ (l : List Entry). passed_lines f false (cond (carries_history start) (map history_line l) []) ls) same

pub messages_equal : (p : PrivateFields) (f : Facing) (h k : List Entry) (m n : Message Start) → f.restricted ≡ true → masked_message p m ≡ masked_message p n →
    masked_list f.mask_all h ≡ masked_list f.mask_all k → shown_lines f false h m.start m.lines ≡ shown_lines f false k n.start n.lines
messages_equal p f h k m n r same lists =
    passed_equal (private_fields_in m.start p) (private_fields_in n.start p) f (carried_history f false h m.start) m.lines n.lines r (ap (λ (x : Message Start). x.lines) same)
    ∙ ap (λ (s : Start). passed_lines f false (carried_history f false h s) n.lines) (ap (λ (x : Message Start). x.start) same)
    ∙ shown_equal f h k n.start n.lines lists
