-- Another run may have another configuration, in which some accounts have other identities: then the name by which the operator serves a hidden user is as little visible as
-- what is private. It is only required that no URI by which an account is looked up is one of these identities, of the one configuration or of the other. Which URIs these are
-- is determined by the records, and by the masked run: what is private of a message is used for no lookup, or its effect is the result of a test
-- (RFC 3261 §10.3, §21.3; RFC 3325 §9.1; RFC 3515 §2.1; RFC 5502 §6; RFC 6665 §4.2.1; TS 24.604 §4.5.2.6).
use Rattle.std.specs.Prelude.{◌≡◌, ◌&&◌, ℕ, true, if◌then◌else◌, Option, Some, None, List, [], ◌∷◌, ◌++◌, map, codes, option_to_list}
use Rattle.std.specs.List.{flat_map, list_all}
use Rattle.std.specs.Option.{unwrap_or}
use Rattle.mmtel_compose.specs.ReceivedMessages.{MessageView}
use Rattle.mmtel_call_services.specs.Decisions.{redirect_of}
use Rattle.mmtel_call_services.specs.Opening.{no_target}
use Rattle.mmtel_call_theorems.specs.Noninterference.RenamedAccounts.{identities_without, names_none}
use Rattle.mmtel_directory.specs.declared.directories.Directory.{Directory}
use Rattle.mmtel_diversion.specs.Diversion.{forward_of}
use Rattle.mmtel_focus.specs.Referrals.{referral_in}
use Rattle.mmtel_focus.specs.declared.referrals.Referral.{Referral}
use Rattle.mmtel_focus.specs.declared.referrals.Referral.TheVariants.{Invite, Missing, OtherMethod, Replace}
use Rattle.mmtel_leg.specs.Dialogues.{request_uri}
use Rattle.mmtel_lex.specs.Reading.{uri_of}
use Rattle.mmtel_lex.specs.declared.values.NameAddr.{NameAddr}
use Rattle.mmtel_lex.specs.declared.values.Uri.{Uri}
use Rattle.mmtel_message.specs.Faults.{is_method}
use Rattle.mmtel_call_parties.specs.Parties.{believed_user}
use Rattle.mmtel_precedence.specs.Theorems.{diversion_rules}
use Rattle.mmtel_base.specs.Chain.{◌>>=◌}
use Rattle.mmtel_sheet_values.specs.declared.values.Forward.{Forward}
use Rattle.mmtel_sheet_values.specs.declared.values.Rule.{Rule}
use Rattle.mmtel_sheet_values.specs.declared.values.Sheet.{Sheet}
use Rattle.mmtel_served_user.specs.Targets.{first_target, new_target}
use Rattle.mmtel_trust.specs.Asserted.{asserted, or_no_uri, uri_in}
use Rattle.mmtel_trust.specs.ParsedMessage.{ParsedMessage, served_origin}
use Rattle.mmtel_trust.specs.declared.identities.Identities.{Identities}
use Rattle.mmtel_types.specs.declared.numbers.Account.{Account}
use Rattle.mmtel_run_definitions.specs.Refusals.{is_register}
use Rattle.mmtel_run_theorems.specs.Roles.{is_opening, may_subscribe}
use Rattle.mmtel_run_theorems.specs.Mask.{Mask, MaskedEvent, Nothing, Received, Refused, Tests, WebRequested}

-- ---- another configuration

-- in the other configuration these accounts have other identities, more or fewer; all other accounts have the same, in the same order, and all else on which calls and conferences
-- depend is equal. Where the web is served, who the operator is, and the name of the store may differ too
pub record Renames (renamed : List Account) (one other : Directory) : Type 0 where
  pub sip : one.sip ≡ other.sip
  pub home : one.home ≡ other.home
  pub peers : one.peers ≡ other.peers
  pub factory : one.factory ≡ other.factory
  pub bound : one.bound ≡ other.bound
  pub country : one.country ≡ other.country
  pub reliable : one.reliable ≡ other.reliable
  pub timer : one.timer ≡ other.timer
  pub mwi : one.names.mwi ≡ other.names.mwi
  pub mixer : one.mixer ≡ other.mixer
  pub others : identities_without renamed one.names.accounts ≡ identities_without renamed other.names.accounts

-- ---- the URIs by which a message has an account looked up

-- the URI that these bytes are, where they are one of sip or tel
abbrev pub uri_by : List ℕ → List Uri
uri_by bytes = option_to_list (or_no_uri (uri_of bytes))

abbrev pub uri_by_any : Option (List ℕ) → List Uri
uri_by_any None = []
uri_by_any (Some bytes) = uri_by bytes

-- the target of an INVITE that opens a call: its Request-URI, or nowhere where that is no URI of sip or tel, and the user whom a trusted peer names as served, as the target
abbrev pub targets_in : ParsedMessage → List Uri
targets_in m = (unwrap_or (first_target (request_uri m.start)) no_target).uri ∷ uri_by_any (believed_user m).user

-- its sender: the user whom a trusted peer names as served, as the caller, or else the identities that it asserts
abbrev pub callers_by : Identities → Option NameAddr → List Uri
callers_by i None = option_to_list i.sip ++ option_to_list i.tel
callers_by i (Some n) = uri_by n.uri

-- where the caller is hidden the tests represent this
abbrev pub callers_in : ParsedMessage → Option Tests → List Uri
callers_in m None = callers_by (asserted m.trusted m.lines) (if m.trusted then served_origin m.lines else None)
callers_in m (Some tests) = []

abbrev pub opening_uris : ParsedMessage → Option Tests → List Uri
opening_uris m tests = if is_opening m then targets_in m ++ callers_in m tests else []

-- where a response redirects to, in the form in which the call is sent there
abbrev pub redirect_uris : (home : List ℕ) → MessageView → List Uri
redirect_uris home left = map (new_target home) (option_to_list (redirect_of left))

-- whom a REFER asks a conference to invite
abbrev pub referral_uris : Referral → List Uri
referral_uris (Invite None) = []
referral_uris (Invite (Some uri)) = uri ∷ []
referral_uris (Replace dialog) = []
referral_uris OtherMethod = []
referral_uris Missing = []

abbrev pub refer_uris : ParsedMessage → List Uri
refer_uris m = if is_method (codes "REFER") m.start then referral_uris (referral_in m.refer_to) else []

-- whom a trusted peer registers
abbrev pub register_uris : ParsedMessage → List Uri
register_uris m = if m.trusted && is_register m then option_to_list (m.to >>= uri_in) else []

-- with message waiting, the subscriber to a mailbox, by the identities that a peer asserts, and the mailbox
abbrev pub subscribe_uris : Directory → ParsedMessage → List Uri
subscribe_uris directory m = if may_subscribe directory m then callers_by (asserted m.trusted m.lines) None ++ uri_by (request_uri m.start) else []

-- under this configuration, but for its accounts
abbrev pub lookups_by : Directory → MaskedEvent → List Uri
lookups_by directory Nothing = []
lookups_by directory (Refused peer source reply) = []
lookups_by directory (Received left tests) =
    opening_uris left.parsed tests ++ (redirect_uris directory.home left ++ (refer_uris left.parsed ++ (register_uris left.parsed ++ subscribe_uris directory left.parsed)))
lookups_by directory (WebRequested put waits) = []

-- ---- and those by which a record has one looked up: the targets of its diversion rules

abbrev pub forward_uris : (home : List ℕ) → Option Forward → List Uri
forward_uris home None = []
forward_uris home (Some forward) = new_target home forward.target ∷ []

abbrev pub diversion_uris : (home : List ℕ) → Sheet → List Uri
diversion_uris home sheet = flat_map (λ (rule : Rule). forward_uris home (forward_of rule.action)) (diversion_rules sheet.diversion)

-- ---- all of a run

abbrev pub lookups : Directory → (records : List Sheet) → Mask → List Uri
lookups directory records masked = flat_map (diversion_uris directory.home) records ++ flat_map (λ (event : ℕ × MaskedEvent). lookups_by directory event.1) masked.events

-- none of these names one of the renamed accounts, by the identities of either configuration
pub record Neutral (renamed : List Account) (one other : Directory) (records : List Sheet) (masked : Mask) : Type 0 where
  pub here : list_all (names_none renamed one.names.accounts) (lookups one records masked) ≡ true
  pub there : list_all (names_none renamed other.names.accounts) (lookups one records masked) ≡ true

-- ---- the case of one configuration, which renames nobody

abbrev pub NobodyIsRenamed : Type 0
NobodyIsRenamed = (directory : Directory) (records : List Sheet) (masked : Mask) → Renames [] directory directory × Neutral [] directory directory records masked
