-- Lines that are looked up by their names, before masking and after.
use Rattle.std.proofs.Common.{◌≡◌, ℕ, List, [], ◌∷◌, ◌++◌, refl, sym, ap, ◌∙◌, Bool, true, false, not, ◌||◌, Option, Some, None, codes, cond, map}
use Rattle.std.specs.Prelude.{filter}
use Rattle.std.specs.Option.{option_map}
use Rattle.std.specs.Str.{str_eq_ignore_ascii_case}
use Rattle.std.proofs.lemmas.List.Elements.{filter-append}
use Rattle.mmtel_lex.specs.Reading.{name_addr_of}
use Rattle.mmtel_message.specs.Message.{Line, has_line, is_line, line_texts, lines_named, lines_without}
use Rattle.mmtel_trust.specs.Kinds.{kind_of}
use Rattle.mmtel_trust.specs.PrivateFields.{PrivateFields, hide_if, keeps_lines, keeps_values, masked_line, masked_lines, masked_value, unless_removed, with_name, with_value}
use Rattle.mmtel_trust.specs.declared.kinds.HeaderKind.{HeaderKind}
use Rattle.mmtel_trust.specs.declared.kinds.HeaderKind.TheVariants.{From, To, Contact, Asserted, Served, Privacy, History, Options, Session, Passed, Personal, Trusted, Other}
use Rattle.mmtel_trust.proofs.IndexKeeping.{kind_like, named-masked}
use Rattle.mmtel_trust.proofs.Masked.{hidden_params}

-- ---- lines that are chosen by their names alone

chosen : (q : Line → Bool) → ((n v w : List ℕ) → q (n, v) ≡ q (n, w)) → (l : Line) (o : Option (List ℕ)) (b : Bool) → q l ≡ b → filter q (with_name l.0 o) ≡ cond b (with_name l.0 o) []
chosen q same l None true e = refl
chosen q same l None false e = refl
chosen q same l (Some v) true e = rw (same l.0 v l.1, e) refl
chosen q same l (Some v) false e = rw (same l.0 v l.1, e) refl

chosen_if : (p : PrivateFields) (b : Bool) (l : Line) (xs : List Line) → cond b (masked_line p l) [] ++ masked_lines p xs ≡ masked_lines p (cond b (l ∷ xs) xs)
chosen_if p true l xs = refl
chosen_if p false l xs = refl

pub by_name : (p : PrivateFields) (q : Line → Bool) → ((n v w : List ℕ) → q (n, v) ≡ q (n, w)) → (ls : List Line) → filter q (masked_lines p ls) ≡ masked_lines p (filter q ls)
unfolding masked_line
by_name p q same [] = refl
by_name p q same (l ∷ ls) =
    filter-append q (masked_line p l) (masked_lines p ls)
    ∙ (ap (λ (xs : List Line). xs ++ filter q (masked_lines p ls)) (chosen q same l (masked_value p (kind_of l.0) l.1) (q l) refl)
    ∙ (ap (λ (xs : List Line). cond (q l) (masked_line p l) [] ++ xs) (by_name p q same ls)
    ∙ chosen_if p (q l) l (filter q ls)))

pub named_inside : (p : PrivateFields) (name : List ℕ) (ls : List Line) → lines_named name (masked_lines p ls) ≡ masked_lines p (lines_named name ls)
named_inside p name ls = by_name p (λ x. is_line name x) (λ n v w. refl) ls

pub dropped_inside : (p : PrivateFields) (name : List ℕ) (ls : List Line) → lines_without name (masked_lines p ls) ≡ masked_lines p (lines_without name ls)
dropped_inside p name ls = by_name p (λ x. not (is_line name x)) (λ n v w. refl) ls

-- ---- a line of the name is there

abbrev is_there : List ℕ → List ℕ → Option (List ℕ) → Bool
is_there name n None = false
is_there name n (Some v) = str_eq_ignore_ascii_case n name

has_more : (name n : List ℕ) (o : Option (List ℕ)) (ls : List Line) → has_line name (with_name n o ++ ls) ≡ (is_there name n o || has_line name ls)
has_more name n None ls = refl
has_more name n (Some v) ls = refl

stays_if : (gone : Bool) (v name n : List ℕ) → not gone ≡ true → is_there name n (unless_removed gone v) ≡ str_eq_ignore_ascii_case n name
stays_if true v name n e = absurd cc
stays_if false v name n e = refl

stays_as : (p : PrivateFields) (k : HeaderKind) (v name n : List ℕ) → keeps_lines p k ≡ true → is_there name n (masked_value p k v) ≡ str_eq_ignore_ascii_case n name
stays_as p From v name n e = refl
stays_as p To v name n e = refl
stays_as p Contact v name n e = refl
stays_as p Asserted v name n e = stays_if p.asserted v name n e
stays_as p Served v name n e = refl
stays_as p Privacy v name n e = refl
stays_as p History v name n e = refl
stays_as p Options v name n e = refl
stays_as p Session v name n e = refl
stays_as p Passed v name n e = refl
stays_as p Personal v name n e = stays_if p.personal v name n e
stays_as p Trusted v name n e = refl
stays_as p Other v name n e = refl

-- a line of another name does not have the name, whether the line remains or not
other_line : (name n : List ℕ) (o : Option (List ℕ)) → str_eq_ignore_ascii_case n name ≡ false → is_there name n o ≡ false
other_line name n None e = refl
other_line name n (Some v) e = e

there_if : (b : Bool) (p : PrivateFields) (name : List ℕ) (l : Line) → keeps_lines p (kind_of name) ≡ true → is_line name l ≡ b → is_there name l.0 (masked_value p (kind_of l.0) l.1) ≡ is_line name l
there_if true p name l k e = stays_as p (kind_of l.0) l.1 name l.0 (ap (keeps_lines p) (kind_like l.0 name e) ∙ k)
there_if false p name l k e = other_line name l.0 (masked_value p (kind_of l.0) l.1) e ∙ sym e

pub there-masked : (p : PrivateFields) (name : List ℕ) (ls : List Line) → keeps_lines p (kind_of name) ≡ true → has_line name (masked_lines p ls) ≡ has_line name ls
unfolding masked_line
there-masked p name [] k = refl
there-masked p name (l ∷ ls) k =
    has_more name l.0 (masked_value p (kind_of l.0) l.1) (masked_lines p ls)
    ∙ (ap (λ (b : Bool). b || has_line name (masked_lines p ls)) (there_if (is_line name l) p name l k refl)
    ∙ ap (λ (b : Bool). is_line name l || b) (there-masked p name ls k))

-- ---- lines of a name whose value is changed

none_left : (name n : List ℕ) (o : Option (List ℕ)) → str_eq_ignore_ascii_case n name ≡ false → filter (λ x. is_line name x) (with_name n o) ≡ []
none_left name n None e = refl
none_left name n (Some v) e = rw e refl

changed_if : (b : Bool) (p : PrivateFields) (name : List ℕ) (f : List ℕ → List ℕ) (l : Line) (xs : List Line) → ((v : List ℕ) → masked_value p (kind_of name) v ≡ Some (f v)) → is_line name l ≡ b
    → filter (λ x. is_line name x) (masked_line p l) ++ map (with_value f) xs ≡ map (with_value f) (cond b (l ∷ xs) xs)
unfolding masked_line
changed_if true p name f l xs k e = rw (kind_like l.0 name e, k l.1, e) refl
changed_if false p name f l xs k e = rw (none_left name l.0 (masked_value p (kind_of l.0) l.1) e) refl

-- they stay in number and order
pub named-changed : (p : PrivateFields) (name : List ℕ) (f : List ℕ → List ℕ) → ((v : List ℕ) → masked_value p (kind_of name) v ≡ Some (f v)) → (ls : List Line) →
    lines_named name (masked_lines p ls) ≡ map (with_value f) (lines_named name ls)
named-changed p name f k [] = refl
named-changed p name f k (l ∷ ls) =
    filter-append (λ x. is_line name x) (masked_line p l) (masked_lines p ls)
    ∙ (ap (λ (xs : List Line). filter (λ x. is_line name x) (masked_line p l) ++ xs) (named-changed p name f k ls)
    ∙ changed_if (is_line name l) p name f l (lines_named name ls) k refl)

values_changed : (f : List ℕ → List ℕ) (ls : List Line) → map (λ l. l.1) (map (with_value f) ls) ≡ map f (map (λ l. l.1) ls)
values_changed f [] = refl
values_changed f (l ∷ ls) = ap (λ (vs : List (List ℕ)). f l.1 ∷ vs) (values_changed f ls)

pub texts-changed : (p : PrivateFields) (name : List ℕ) (f : List ℕ → List ℕ) → ((v : List ℕ) → masked_value p (kind_of name) v ≡ Some (f v)) → (ls : List Line) →
    line_texts name (masked_lines p ls) ≡ map f (line_texts name ls)
texts-changed p name f k ls = ap (λ (xs : List Line). map (λ l. l.1) xs) (named-changed p name f k ls) ∙ values_changed f (lines_named name ls)

pub texts-masked : (p : PrivateFields) (name : List ℕ) (ls : List Line) → keeps_values p (kind_of name) ≡ true → line_texts name (masked_lines p ls) ≡ line_texts name ls
texts-masked p name ls k = ap (λ (xs : List Line). map (λ l. l.1) xs) (named-masked p name ls k)

pub params_hidden : (b : Bool) (v : List ℕ) → option_map (λ n. n.params) (name_addr_of (hide_if b v)) ≡ option_map (λ n. n.params) (name_addr_of v)
params_hidden true v = hidden_params v
params_hidden false v = refl
