-- A received message without its private places, and beside it what is determined of its caller where that is private: two runs are compared by this (RFC 3323 §4.1, RFC 3325 §7,
-- RFC 7044 §10.1, TS 24.607 §4.5.2).
use Rattle.std.specs.Prelude.{◌≡◌, ℕ, Bool, true, false, ◌&&◌, Option, Some, None, is_none, List, [], codes, if◌then◌else◌}
use Rattle.mmtel_history.specs.HistoryInfo.{masked_list}
use Rattle.mmtel_message.specs.Faults.{is_method, is_request}
use Rattle.mmtel_message.specs.Message.{Line}
use Rattle.mmtel_types.specs.declared.numbers.Account.{Account}
use Rattle.mmtel_types.specs.declared.privacy.PrivacySet.{PrivacySet}
use Rattle.mmtel_trust.specs.ParsedMessage.{ParsedMessage, caller_account, is_caller_identified, served_account}
use Rattle.mmtel_trust.specs.PrivateFields.{Entries, NoEntries, PrivateFields, entries_of, hidden_entries, hidden_uri}
use Rattle.mmtel_trust.specs.PrivateFields.{joined_fields, masked_lines, only_entries, private_fields_in, private_in_opening}
use Rattle.mmtel_trust.specs.HeaderTable.{attempt_from, passed_lines}
use Rattle.mmtel_trust.specs.declared.accounts.AccountIdentity.{AccountIdentity}
use Rattle.mmtel_trust.specs.declared.header_table.Facing.{Facing}

-- ---- a message without private places

-- what remains of a message without these places
abbrev pub hide : PrivateFields → ParsedMessage → ParsedMessage
hide p m = record m { history = hidden_entries p.history m.history; redirect = hidden_uri p.redirect m.redirect; lines = masked_lines (private_fields_in m.start p) m.lines }

-- all that is never private of a message
abbrev pub public_part : ParsedMessage → ParsedMessage
public_part m = record m { history = []; redirect = None; lines = [] }

-- ---- which places are private

-- which callers are restricted: by the words of Privacy and the account that is served (TS 24.607 §4.5.2)
abbrev pub Restriction : Type 0
Restriction = PrivacySet → Option Account → Bool

-- an INVITE without To tag from a trusted peer
abbrev pub is_opening : ParsedMessage → Bool
is_opening m = m.trusted && (is_method (codes "INVITE") m.start && is_none m.to_tag)

-- it opens a call whose caller is restricted
abbrev pub is_private : Restriction → List AccountIdentity → ParsedMessage → Bool
is_private restricts accounts m = is_opening m && restricts m.wants (served_account accounts m)

-- the private places of an opening INVITE, where the caller is restricted
abbrev pub private_in_opening_if : Bool → PrivateFields
private_in_opening_if b = if b then private_in_opening else only_entries NoEntries

-- the private entries of History-Info: any request of a trusted peer may have some
abbrev pub private_entries : ParsedMessage → Entries
private_entries m = if m.trusted && is_request m.start then entries_of m.wants else NoEntries

-- all private places of a received message
abbrev pub private_fields_of : Restriction → List AccountIdentity → ParsedMessage → PrivateFields
private_fields_of restricts accounts m = joined_fields (private_in_opening_if (is_private restricts accounts m)) (only_entries (private_entries m))

-- ---- the mask

-- what is determined of a caller whose identity stays private
pub record CallerFacts : Type 0 where
  -- the account of the caller
  pub account : Option Account
  -- the caller has an identity
  pub is_identified : Bool

pub record MaskedMessage : Type 0 where
  pub message : ParsedMessage
  -- they are present beside a message that opens a call of a restricted caller, and beside no other
  pub caller : Option CallerFacts

abbrev pub caller_facts_if : Bool → List AccountIdentity → ParsedMessage → Option CallerFacts
caller_facts_if b accounts m = if b then Some (record { account = caller_account accounts m; is_identified = is_caller_identified m }) else None

-- what two runs are compared by for a message: the conditions are within the fields, so that each other field reduces without a case distinction
abbrev pub mask : Restriction → List AccountIdentity → ParsedMessage → MaskedMessage
mask restricts accounts m = record { message = hide (private_fields_of restricts accounts m) m; caller = caller_facts_if (is_private restricts accounts m) accounts m }

-- ---- what equal masks decide

-- where the caller is not private, these accounts name the same one as those
abbrev pub NameSameCaller : Restriction → List AccountIdentity → List AccountIdentity → ParsedMessage → Type 0
NameSameCaller restricts accounts others m = is_private restricts accounts m ≡ false → caller_account accounts m ≡ caller_account others m

-- the same is decided of a message, with these accounts, and of another one, with those
pub record DecideTheSame (restricts : Restriction) (accounts others : List AccountIdentity) (m n : ParsedMessage) : Type 0 where
  -- everything that is read of parts that are never private
  pub public : public_part m ≡ public_part n
  -- whether it opens a call of a restricted caller
  pub private : is_private restricts accounts m ≡ is_private restricts others n
  -- who the caller is, whose record restricts it, and whether it has an identity
  pub account : NameSameCaller restricts accounts others m → caller_account accounts m ≡ caller_account others n
  pub served : NameSameCaller restricts accounts others m → served_account accounts m ≡ served_account others n
  pub known : is_caller_identified m ≡ is_caller_identified n
  -- its list of History-Info, as an untrusted peer may see it
  pub history : masked_list m.wants.history m.history ≡ masked_list n.wants.history n.history
  -- what an untrusted peer is shown of a restricted caller, and any peer of an unrestricted one, beside the call's own History-Info
  pub shown : (f : Facing) (history : List Line) → f.restricted ≡ true → passed_lines f false history m.lines ≡ passed_lines f false history n.lines
  pub shown_to_all : (f : Facing) (to_trusted : Bool) (history : List Line) → is_private restricts accounts m ≡ false →
      passed_lines f to_trusted history m.lines ≡ passed_lines f to_trusted history n.lines
  -- From of an attempt, which is anonymous for a restricted caller
  pub from : (restricted : Bool) (tag : List ℕ) → (is_private restricts accounts m ≡ true → restricted ≡ true) →
      attempt_from restricted tag m.lines ≡ attempt_from restricted tag n.lines
