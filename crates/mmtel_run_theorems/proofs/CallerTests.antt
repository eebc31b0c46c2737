-- The tests of the caller who opens a call have the same results in two runs that are the same without private places: by the tests of the INVITE where it hides its caller, and
-- else by what it contains of the caller.
use Rattle.std.proofs.Common.{◌≡◌, ◌⊎◌, Bool, true, false, ◌&&◌, List, refl, sym, ap, ◌∙◌, subst, Option, Some, None, inl, inr, map}
use Rattle.std.specs.Prelude.{if◌then◌else◌}
use Rattle.mmtel_compose.specs.ReceivedMessages.{MessageView}
use Rattle.mmtel_call_theorems.specs.Noninterference.Roles.{Opens, Plain, Role, Sends, hides, without_private}
use Rattle.mmtel_directory.specs.declared.directories.Directory.{Directory}
use Rattle.mmtel_message.specs.Faults.{is_request}
use Rattle.mmtel_message.specs.Message.{Line}
use Rattle.mmtel_message.specs.declared.messages.Start.{Start}
use Rattle.mmtel_rules.specs.Identities.{has_identity, identity_holds}
use Rattle.mmtel_rules.specs.declared.values.Identities2.{Identities2}
use Rattle.mmtel_sheet_values.specs.declared.values.Who.{Who}
use Rattle.mmtel_trust.proofs.IndexKeeping.{asserted-entries, origin-entries}
use Rattle.mmtel_trust.specs.Asserted.{asserted}
use Rattle.mmtel_trust.specs.ParsedMessage.{caller_account, origin_account}
use Rattle.mmtel_trust.specs.PrivateFields.{Entries, PrivateFields, masked_lines, only_entries, private_fields_in, redirects}
use Rattle.mmtel_trust.specs.MaskedMessages.{private_entries}
use Rattle.mmtel_trust.specs.declared.accounts.AccountIdentity.{AccountIdentity}
use Rattle.mmtel_types.specs.declared.numbers.Account.{Account}
use Rattle.mmtel_run_definitions.specs.Calls.{caller_of, identities_of}
use Rattle.mmtel_run_theorems.specs.EquivalentStates.{CallerLooksUpEqually}
use Rattle.mmtel_run_theorems.specs.Roles.{is_opening}
use Rattle.mmtel_run_theorems.specs.Mask.{Tests, tests_beside, tests_of}

-- ---- a message that hides nobody contains who its sender is

no_places : (es : Entries) (request moves : Bool) → record (only_entries es) { to = if request then false else false; contact = if moves then false else false } ≡ only_entries es
no_places es true true = refl
no_places es true false = refl
no_places es false true = refl
no_places es false false = refl

pub unplaced : (start : Start) (es : Entries) → private_fields_in start (only_entries es) ≡ only_entries es
unplaced start es = no_places es (is_request start) (redirects start)

abbrev pub lines_by : (trusted : Bool) → PrivateFields → List Line → List Line
lines_by trusted p ls = if trusted then masked_lines p ls else ls

identities_by : (trusted b : Bool) (es : Entries) (ls : List Line) → asserted b (lines_by trusted (only_entries es) ls) ≡ asserted b ls
identities_by true b es ls = asserted-entries es b ls
identities_by false b es ls = refl

account_by : (accounts : List AccountIdentity) (trusted b : Bool) (es : Entries) (ls : List Line) → origin_account accounts b (lines_by trusted (only_entries es) ls) ≡ origin_account accounts b ls
account_by accounts true b es ls = origin-entries es accounts b ls
account_by accounts false b es ls = refl

pub plain_identities : (m : MessageView) → asserted m.parsed.trusted (without_private Plain m).parsed.lines ≡ asserted m.parsed.trusted m.parsed.lines
plain_identities m =
    ap (λ (p : PrivateFields). asserted m.parsed.trusted (lines_by m.parsed.trusted p m.parsed.lines)) (unplaced m.parsed.start (private_entries m.parsed))
    ∙ identities_by m.parsed.trusted m.parsed.trusted (private_entries m.parsed) m.parsed.lines

plain_caller : (m : MessageView) → caller_of (without_private Plain m).parsed ≡ caller_of m.parsed
plain_caller m = ap identities_of (plain_identities m)

plain_account : (accounts : List AccountIdentity) (m : MessageView) → caller_account accounts (without_private Plain m).parsed ≡ caller_account accounts m.parsed
plain_account accounts m =
    ap (λ (p : PrivateFields). origin_account accounts m.parsed.trusted (lines_by m.parsed.trusted p m.parsed.lines)) (unplaced m.parsed.start (private_entries m.parsed))
    ∙ account_by accounts m.parsed.trusted m.parsed.trusted (private_entries m.parsed) m.parsed.lines

-- ---- a message hides its sender, or has no role

by_role : (r : Role) → (hides r ≡ true) ⊎ (r ≡ Plain)
by_role Opens = inl refl
by_role (Sends side) = inl refl
by_role Plain = inr refl

abbrev tests_or : Tests → Option Tests → Tests
tests_or other None = other
tests_or other (Some t) = t

abbrev tests_of_caller : List Who → Option Account → Identities2 → Tests
tests_of_caller asked account who = record { caller = account; somebody = has_identity who; matches = map (identity_holds who) asked }

-- ---- two openings

module _ (d e : Directory) (asked : List Who) (m n : MessageView) (r s : Role) (same : without_private r m ≡ without_private s n)
    (tests : tests_beside d.names.accounts asked r m.parsed ≡ tests_beside e.names.accounts asked s n.parsed)
    (looks : CallerLooksUpEqually d e (without_private s n) (tests_beside e.names.accounts asked s n.parsed)) (i : is_opening m.parsed ≡ true) (j : is_opening n.parsed ≡ true) where
  abbrev one : Tests
  one = tests_of d.names.accounts asked m.parsed

  abbrev two : Tests
  two = tests_of e.names.accounts asked n.parsed

  -- the tests of an opening, by whether it hides its caller
  beside : (b h : Bool) (t : Tests) → b ≡ true → (if b && h then Some t else None) ≡ (if h then Some t else None)
  beside b h t is = ap (λ (c : Bool). if c && h then Some t else None) is

  by_tests : (if hides r then Some one else None) ≡ (if hides s then Some two else None)
  by_tests = sym (beside (is_opening m.parsed) (hides r) one i) ∙ (tests ∙ beside (is_opening n.parsed) (hides s) two j)

  both_hide : (b c : Bool) → (if b then Some one else None) ≡ (if c then Some two else None) → b ≡ true → one ≡ two
  both_hide true true is e = ap (tests_or one) is
  both_hide true false is e = absurd cc
  both_hide false c is e = absurd (let o : false ≡ true = e in cc)

  -- where one hides its caller the other does
  other_hides : (b c : Bool) → (if b then Some one else None) ≡ (if c then Some two else None) → c ≡ true → b ≡ true
  other_hides true c is e = refl
  other_hides false true is e = absurd cc
  other_hides false false is e = e

  -- neither does
  both_plain : r ≡ Plain → s ≡ Plain → one ≡ two
  both_plain f g =
      let left : without_private Plain m ≡ without_private Plain n =
      ap (λ (x : Role). without_private x m) (sym f) ∙ (same ∙ ap (λ (x : Role). without_private x n) g) in
      let callers : caller_of m.parsed ≡ caller_of n.parsed = sym (plain_caller m) ∙ (ap (λ (x : MessageView). caller_of x.parsed) left ∙ plain_caller n) in
      let none : tests_beside e.names.accounts asked s n.parsed ≡ None = beside (is_opening n.parsed) (hides s) two j ∙ ap (λ (x : Role). if hides x then Some two else None) g in
      let told : caller_account d.names.accounts (without_private s n).parsed ≡ caller_account e.names.accounts (without_private s n).parsed =
      subst (λ (o : Option Tests). CallerLooksUpEqually d e (without_private s n) o) none looks j in
      let plainly : caller_account d.names.accounts (without_private Plain n).parsed ≡ caller_account e.names.accounts (without_private Plain n).parsed =
      subst (λ (x : Role). caller_account d.names.accounts (without_private x n).parsed ≡ caller_account e.names.accounts (without_private x n).parsed) g told in
      let account : caller_account d.names.accounts m.parsed ≡ caller_account e.names.accounts n.parsed =
      sym (plain_account d.names.accounts m)
      ∙ (ap (λ (x : MessageView). caller_account d.names.accounts x.parsed) left ∙ (plainly ∙ plain_account e.names.accounts n)) in
      ap (λ (a : Option Account). tests_of_caller asked a (caller_of m.parsed)) account ∙ ap (tests_of_caller asked (caller_account e.names.accounts n.parsed)) callers

  by_roles : (hides r ≡ true) ⊎ (r ≡ Plain) → (hides s ≡ true) ⊎ (s ≡ Plain) → one ≡ two
  by_roles (inl f) g = both_hide (hides r) (hides s) by_tests f
  by_roles (inr f) (inl g) = both_hide (hides r) (hides s) by_tests (other_hides (hides r) (hides s) by_tests g)
  by_roles (inr f) (inr g) = both_plain f g

  pub tests_same : tests_of d.names.accounts asked m.parsed ≡ tests_of e.names.accounts asked n.parsed
  tests_same = by_roles (by_role r) (by_role s)
