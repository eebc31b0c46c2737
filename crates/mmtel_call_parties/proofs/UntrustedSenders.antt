-- The user who is believed to be served.
use Rattle.std.proofs.Common.{◌≡◌, ◌++◌, ◌∙◌, Bool, List, ap, false, inl, inr, refl, sym, true, ℕ, ◌∷◌, Option, Some, None, []}
use Rattle.std.specs.Prelude.{◌&&◌, codes, if◌then◌else◌}
use Rattle.std.proofs.lemmas.Bool.{cases_Bool}
use Rattle.mmtel_base.specs.Chain.{◌>>=◌}
use Rattle.mmtel_lex.specs.Reading.{name_addr_of}
use Rattle.mmtel_lex.specs.declared.values.NameAddr.{NameAddr}
use Rattle.mmtel_message.specs.Message.{Line, Message, is_line, first_value}
use Rattle.mmtel_message.specs.declared.messages.Start.{Start}
use Rattle.mmtel_types.specs.declared.numbers.Account.{Account}
use Rattle.mmtel_trust.specs.Asserted.{asserted}
use Rattle.mmtel_trust.specs.ParsedMessage.{NoCase, Originating, ParsedMessage, ServedUser, SessionCase, Terminating, account_from, caller_account}
use Rattle.mmtel_trust.specs.ParsedMessage.{case_of, is_terminating, parsed_message, served_account, served_by, served_in, served_origin, user_if}
use Rattle.mmtel_trust.specs.PrivateFields.{is_orig, is_session}
use Rattle.mmtel_trust.specs.MaskedMessages.{DecideTheSame, Restriction, public_part}
use Rattle.mmtel_trust.specs.HeaderTable.{name_addr_in}
use Rattle.mmtel_trust.specs.declared.accounts.AccountIdentity.{AccountIdentity}
use Rattle.mmtel_call_parties.specs.Named.{named_origin, named_user}
use Rattle.mmtel_call_parties.specs.Parties.{account_in, believed_user, origin_served, parties_by, parties_of, serves_origin, sides_of, target_from}

-- ---- the first line

first_value-append : (name : List ℕ) (before after : List Line) (value : List ℕ) → first_value name before ≡ Some value → first_value name (before ++ after) ≡ Some value
first_value-append name [] after value e = absurd cc
first_value-append name (l ∷ before) after value e = elim (cases_Bool (is_line name l)) [
  | inl y ↦ rw y (let here = rw y at e in here)
  | inr n ↦ rw n (first_value-append name before after value (let there = rw n at e in there))
]

same_first : (before after : List Line) (value : List ℕ) → first_value (codes "P-Served-User") before ≡ Some value → first_value (codes "P-Served-User") (before ++ after) ≡ first_value (codes "P-Served-User") before
same_first before after value e = first_value-append (codes "P-Served-User") before after value e ∙ sym e

pub said-first : (before after : List Line) (value : List ℕ) → first_value (codes "P-Served-User") before ≡ Some value →
    served_by (first_value (codes "P-Served-User") (before ++ after)) ≡ served_by (first_value (codes "P-Served-User") before)
said-first before after value e = ap (λ (v : Option (List ℕ)). served_by v) (same_first before after value e)

abbrev origin_in : Option (List ℕ) → Option NameAddr
origin_in v = v >>= λ s. name_addr_of s >>= λ n. if is_orig n.params then Some n else None

pub origin-first : (before after : List Line) (value : List ℕ) → first_value (codes "P-Served-User") before ≡ Some value → served_origin (before ++ after) ≡ served_origin before
origin-first before after value e = ap (λ (v : Option (List ℕ)). origin_in v) (same_first before after value e)

-- ---- the user as the code reads it

origin-named : (user : Option NameAddr) → named_origin user ≡ (user >>= λ n. if is_orig n.params then Some n else None)
origin-named None = refl
origin-named (Some n) = refl

origin-read : (value : Option (List ℕ)) → named_origin (name_addr_in value) ≡ origin_in value
origin-read None = refl
origin-read (Some v) = origin-named (name_addr_of v)

origin-heard : (trusted : Bool) (ls : List Line) → named_origin (named_user trusted ls) ≡ (if trusted then served_origin ls else None)
origin-heard false ls = refl
origin-heard true ls = origin-read (first_value (codes "P-Served-User") ls)

read-first : (value : Option (List ℕ)) → name_addr_in value ≡ (value >>= name_addr_of)
read-first None = refl
read-first (Some v) = refl

user-heard : (trusted : Bool) (m : Message Start) → served_in (named_user trusted m.lines) ≡ believed_user (parsed_message trusted m)
user-heard false m = refl
user-heard true m = ap (λ (user : Option NameAddr). served_in user) (read-first (first_value (codes "P-Served-User") m.lines))

-- the parties by the user that was read
pub parties_named : (accounts : List AccountIdentity) (trusted : Bool) (m : Message Start) →
    parties_by accounts (account_from accounts (asserted trusted m.lines) (named_origin (named_user trusted m.lines))) m.start (served_in (named_user trusted m.lines))
    ≡ parties_of accounts (parsed_message trusted m)
parties_named accounts trusted m =
    ap (λ (user : Option NameAddr). parties_by accounts (account_from accounts (asserted trusted m.lines) user) m.start (served_in (named_user trusted m.lines))) (origin-heard trusted m.lines)
    ∙ ap (λ (user : ServedUser). parties_by accounts (caller_account accounts (parsed_message trusted m)) m.start user) (user-heard trusted m)

-- ---- the user alone decides

origin-of : (accounts : List AccountIdentity) (ls : List Line) (value : List ℕ) (user : NameAddr) → first_value (codes "P-Served-User") ls ≡ Some value → name_addr_of value ≡ Some user →
    is_orig user.params ≡ true → served_origin ls ≡ Some user
origin-of accounts ls value user first named orig =
    ap (λ (v : Option (List ℕ)). origin_in v) first
    ∙ ap (λ (n : Option NameAddr). n >>= λ x. if is_orig x.params then Some x else None) named
    ∙ ap (λ (b : Bool). if b then Some user else None) orig

-- by the first of the two tests
orig-by : (a b : Bool) → (if a then Originating else if b then Terminating else NoCase) ≡ Originating → a ≡ true
orig-by true b e = refl
orig-by false true e = absurd cc
orig-by false false e = absurd cc

pub origin-alone : (accounts : List AccountIdentity) (m : Message Start) (value : List ℕ) (user : NameAddr) → first_value (codes "P-Served-User") m.lines ≡ Some value →
    name_addr_of value ≡ Some user → case_of user.params ≡ Originating → (parties_of accounts (parsed_message true m)).origin ≡ account_in accounts user.uri
origin-alone accounts m value user first named orig =
    ap (λ (n : Option NameAddr). account_from accounts (asserted true m.lines) n) (origin-of accounts m.lines value user first named (orig-by (is_orig user.params) (is_session (codes "term") user.params) orig))

target-in : (user : NameAddr) → case_of user.params ≡ Terminating → (served_in (Some user)).user ≡ Some user.uri
target-in user term = ap (λ (c : SessionCase). user_if c user.uri) term

pub target-alone : (accounts : List AccountIdentity) (m : Message Start) (value : List ℕ) (user : NameAddr) → first_value (codes "P-Served-User") m.lines ≡ Some value →
    name_addr_of value ≡ Some user → case_of user.params ≡ Terminating → (parties_of accounts (parsed_message true m)).target ≡ account_in accounts user.uri
target-alone accounts m value user first named term =
    ap (λ (v : Option (List ℕ)). target_from accounts m.start (served_by v).user) first
    ∙ ap (λ (n : Option NameAddr). target_from accounts m.start (served_in n).user) named
    ∙ ap (λ (u : Option (List ℕ)). target_from accounts m.start u) (target-in user term)

-- ---- who is served as the caller

served-unless : (c : SessionCase) (account : Option Account) → (if serves_origin (sides_of c) then account else None) ≡ (if is_terminating c then None else account)
served-unless NoCase account = refl
served-unless Originating account = refl
served-unless Terminating account = refl

served-by : (trusted : Bool) (user : ServedUser) (account : Option Account) →
    (if serves_origin (sides_of (if trusted then user else served_in None).session_case) then account else None) ≡ (if trusted && is_terminating user.session_case then None else account)
served-by false user account = refl
served-by true user account = served-unless user.session_case account

pub origin-restricts : (accounts : List AccountIdentity) (m : ParsedMessage) → origin_served (parties_of accounts m) ≡ served_account accounts m
origin-restricts accounts m = served-by m.trusted m.served (caller_account accounts m)

-- ---- what is private decides only about the caller

pub parties-public : (accounts : List AccountIdentity) (m n : ParsedMessage) → public_part m ≡ public_part n → caller_account accounts m ≡ caller_account accounts n → parties_of accounts m ≡ parties_of accounts n
parties-public accounts m n same caller =
    ap (λ (account : Option Account). parties_by accounts account m.start (believed_user m)) caller
    ∙ ap (λ (x : ParsedMessage). parties_by accounts (caller_account accounts n) x.start (believed_user x)) same

pub parties-masked : (restricts : Restriction) (accounts : List AccountIdentity) (m n : ParsedMessage) → DecideTheSame restricts accounts accounts m n → parties_of accounts m ≡ parties_of accounts n
parties-masked restricts accounts m n alike = parties-public accounts m n alike.public (alike.account (λ none. refl))
