-- A draft that is built line by line gives the directory of the contents of the lines.
use Rattle.std.proofs.Common.{◌≡◌, ◌==◌, Bool, true, false, is_none, not, cond, ℕ, suc, ◌+◌, List, [], ◌∷◌, ◌++◌, length, Option, Some, None, Result, Ok, Err, refl, ap, sym, subst, ◌∙◌, arith, add-zero}
use Rattle.std.specs.List.{flat_map}
use Rattle.std.proofs.lemmas.Bool.Decides.{nat_tests}
use Rattle.std.proofs.lemmas.List.{length-append, append-nil}
use Rattle.std.proofs.lemmas.Grind.{flat_map-append}
use Rattle.mmtel_base.specs.Chain.{◌>>=◌}
use Rattle.mmtel_types.specs.declared.addrs.Addr.{Addr}
use Rattle.mmtel_directory.specs.declared.config_lines.Extension.TheVariants as extension
use Rattle.mmtel_directory.specs.declared.config_lines.Line.{Line}
use Rattle.mmtel_directory.specs.declared.config_lines.Line.TheVariants as line
use Rattle.mmtel_directory.specs.declared.drafts.Draft.{Draft}
use Rattle.mmtel_directory.specs.Lines.{lines_of, and_then, lines_by}
use Rattle.mmtel_directory.specs.Directory.{line_of, next_config_line, may_follow, first_of, first_value, directory_by, directory_from, directory_of, table_of}
use Rattle.mmtel_directory.specs.Directory.{sip_in, web_in, home_in, route_in, account_in, identities_in, operator_in, factory_in, bound_in, country_in, mwi_in, reliable_in, timer_in, mixer_in, store_in, is_set}
use Rattle.mmtel_directory.specs.Directory.{ReadsDirectory}
use Rattle.mmtel_directory.specs.Drafts.{Reads, directory_of_lines, step, accepts, with_line, directory_of_draft, directory_of_parts, empty_draft}
use Rattle.mmtel_directory.specs.declared.directories.Directory.{Directory}
use Rattle.mmtel_directory.specs.declared.directories.DirectoryFault.{DirectoryFault}
use Rattle.mmtel_directory.specs.declared.directories.DirectoryFault.TheVariants as fault

-- the draft of lines with this content
abbrev draft_of : List Line → Draft
draft_of said = record {
  sip = first_value sip_in said;
  web = first_value web_in said;
  home = first_value home_in said;
  peers = table_of said;
  routes = length (flat_map route_in said);
  accounts = flat_map identities_in said;
  account_lines = length (flat_map account_in said);
  operator = first_value operator_in said;
  factory = first_value factory_in said;
  bound = first_value bound_in said;
  country = first_value country_in said;
  reliable = is_set reliable_in said;
  timer = is_set timer_in said;
  mwi = is_set mwi_in said;
  mixer = first_value mixer_in said;
  store = first_value store_in said;
}

-- ---- one line more

pub one_more : {A : Type 0} (f : Line → List A) (said : List Line) (l : Line) → flat_map f (said ++ l ∷ []) ≡ flat_map f said ++ f l
one_more f said l = flat_map-append f said (l ∷ []) ∙ ap (λ (xs : List _). flat_map f said ++ xs) (append-nil (f l))

none_first : {A : Type 0} (xs : List A) → is_none (first_of xs) ≡ (length xs == 0)
none_first [] = refl
none_first (x ∷ xs) = sym (grind (arith, nat_tests))

-- what is not set once more is not set
not_not : (b : Bool) → not (not b) ≡ b
not_not true = refl
not_not false = refl

accepts_is : (said : List Line) (l : Line) → accepts (draft_of said) l ≡ may_follow said l
accepts_is said line.Comment = refl
accepts_is said (line.Sip addr) = none_first (flat_map sip_in said)
accepts_is said (line.Web addr) = none_first (flat_map web_in said)
accepts_is said (line.Home name) = none_first (flat_map home_in said)
accepts_is said (line.Peer peer) = refl
accepts_is said (line.Route route) = refl
accepts_is said (line.Account account uris) = refl
accepts_is said (line.Operator uri) = none_first (flat_map operator_in said)
accepts_is said (line.Factory uri) = none_first (flat_map factory_in said)
accepts_is said (line.Bound n) = none_first (flat_map bound_in said)
accepts_is said (line.Country digits) = none_first (flat_map country_in said)
accepts_is said (line.Extension extension.Reliable) = not_not (length (flat_map reliable_in said) == 0)
accepts_is said (line.Extension extension.Timer) = not_not (length (flat_map timer_in said) == 0)
accepts_is said (line.Extension extension.Mwi) = not_not (length (flat_map mwi_in said) == 0)
accepts_is said (line.Mixer mixer) = none_first (flat_map mixer_in said)
accepts_is said (line.Store name) = none_first (flat_map store_in said)

alone_first : {A : Type 0} (xs : List A) (x : A) → (length xs == 0) ≡ true → Some x ≡ first_of (xs ++ x ∷ [])
alone_first [] x empty = refl
alone_first (y ∷ xs) x empty = absurd (grind (arith, nat_tests, empty))

set_by_last : {A : Type 0} (xs : List A) (x : A) → not (length (xs ++ x ∷ []) == 0) ≡ true
set_by_last [] x = refl
set_by_last (y ∷ xs) x = grind (arith, nat_tests)

with_line_is : (said : List Line) (l : Line) → may_follow said l ≡ true → with_line (draft_of said) l ≡ draft_of (said ++ l ∷ [])
with_line_is said line.Comment ok = simp (one_more, append-nil)
with_line_is said (line.Sip addr) ok = simp (one_more, append-nil, alone_first (flat_map sip_in said) addr ok)
with_line_is said (line.Web addr) ok = simp (one_more, append-nil, alone_first (flat_map web_in said) addr ok)
with_line_is said (line.Home name) ok = simp (one_more, append-nil, alone_first (flat_map home_in said) name ok)
with_line_is said (line.Peer peer) ok = simp (one_more, append-nil)
with_line_is said (line.Route route) ok = simp (one_more, append-nil, length-append)
with_line_is said (line.Account account uris) ok = simp (one_more, append-nil, length-append)
with_line_is said (line.Operator uri) ok = simp (one_more, append-nil, alone_first (flat_map operator_in said) uri ok)
with_line_is said (line.Factory uri) ok = simp (one_more, append-nil, alone_first (flat_map factory_in said) uri ok)
with_line_is said (line.Bound n) ok = simp (one_more, append-nil, alone_first (flat_map bound_in said) n ok)
with_line_is said (line.Country digits) ok = simp (one_more, append-nil, alone_first (flat_map country_in said) digits ok)
with_line_is said (line.Extension extension.Reliable) ok = simp (one_more, append-nil, set_by_last (flat_map reliable_in said) extension.Reliable)
with_line_is said (line.Extension extension.Timer) ok = simp (one_more, append-nil, set_by_last (flat_map timer_in said) extension.Timer)
with_line_is said (line.Extension extension.Mwi) ok = simp (one_more, append-nil, set_by_last (flat_map mwi_in said) extension.Mwi)
with_line_is said (line.Mixer mixer) ok = simp (one_more, append-nil, alone_first (flat_map mixer_in said) mixer ok)
with_line_is said (line.Store name) ok = simp (one_more, append-nil, alone_first (flat_map store_in said) name ok)

-- ---- the end

draft_gives_directory : (last : ℕ) (sip : Option Addr) (home : Option (List ℕ)) (said : List Line) → directory_of_parts last sip home (draft_of said) ≡ directory_by last sip home said
draft_gives_directory last None home said = refl
draft_gives_directory last (Some sip) None said = refl
draft_gives_directory last (Some sip) (Some home) said = refl

-- ---- all lines

abbrev Goes : ℕ → List Line → List (List ℕ) → Type 0
Goes number said texts = directory_of_lines number (draft_of said) texts ≡ directory_from (number + length texts) (lines_by next_config_line number said texts)

-- the next line, which may follow or not
over_line : (number : ℕ) (said : List Line) (l : Line) (texts : List (List ℕ)) (test : Bool) → may_follow said l ≡ test → ((more : List Line) → Goes (number + 1) more texts) →
    and_then number (cond test (Some (with_line (draft_of said) l)) None) (λ next. directory_of_lines (number + 1) next texts)
    ≡ directory_from (number + 1 + length texts) (and_then number (cond test (Some l) None) (λ next. lines_by next_config_line (number + 1) (said ++ next ∷ []) texts))
over_line number said l texts true ok all = ap (λ (d : Draft). directory_of_lines (number + 1) d texts) (with_line_is said l ok) ∙ all (said ++ l ∷ [])
over_line number said l texts false bad all = refl

over_form : (number : ℕ) (said : List Line) (read : Option Line) (texts : List (List ℕ)) → ((more : List Line) → Goes (number + 1) more texts) →
    and_then number (read >>= λ l. cond (accepts (draft_of said) l) (Some (with_line (draft_of said) l)) None) (λ next. directory_of_lines (number + 1) next texts)
    ≡ directory_from (number + 1 + length texts) (and_then number (read >>= λ l. cond (may_follow said l) (Some l) None) (λ next. lines_by next_config_line (number + 1) (said ++ next ∷ []) texts))
over_form number said None texts all = refl
over_form number said (Some l) texts all = rw (accepts_is said l) (over_line number said l texts (may_follow said l) refl all)

goes : (number : ℕ) (said : List Line) (texts : List (List ℕ)) → Goes number said texts
unfolding step
goes number said [] = rw add-zero (draft_gives_directory number (first_value sip_in said) (first_value home_in said) said)
goes number said (text ∷ texts) =
    let same : number + suc (length texts) ≡ number + 1 + length texts = omega arith in
    rw same (over_form number said (line_of text) texts (λ more. goes (number + 1) more texts))

-- what is built from no line on
pub lines_give_directory : (text : List ℕ) → directory_of_lines 1 empty_draft (lines_of text) ≡ directory_of text
unfolding directory_of
lines_give_directory text =
    let same : length (lines_of text) + 1 ≡ 1 + length (lines_of text) = omega arith in
    rw same (goes 1 [] (lines_of text))

-- the result for a text whose lines were read
pub fault_is_result : (text : List ℕ) (e : DirectoryFault) (after : Draft) → Reads (Err e) empty_draft (lines_of text) after → ReadsDirectory (Err e) (directory_of text)
fault_is_result text (fault.BadLine n) after is = sym (lines_give_directory text) ∙ is
fault_is_result text fault.NoMemory after is = tt

pub draft_is_result : (text : List ℕ) (last : ℕ) (after : Draft) (r : Result Directory DirectoryFault) → Reads (Ok last) empty_draft (lines_of text) after →
    ReadsDirectory r (directory_of_draft last after) → ReadsDirectory r (directory_of text)
draft_is_result text last after r is answer = subst (λ (due : Result Directory ℕ). ReadsDirectory r due) (sym is ∙ lines_give_directory text) answer
