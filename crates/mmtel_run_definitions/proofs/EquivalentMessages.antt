-- Two messages of a peer that are equal without their private places: the decisions on them are the same, and what is built from them differs in texts to trusted peers alone.
use Rattle.std.proofs.Common.{ℕ, ◌≡◌, List, [], refl, sym, ap, ◌∙◌, Bool, true, false, ◌&&◌, Option, Some, None, codes, subst}
use Rattle.std.specs.Prelude.{is_none, is_some, if◌then◌else◌, Ok, Err}
use Rattle.std.specs.declared.result.Result.{Result}
use Rattle.mmtel_compose.specs.Responses.{allow_lines, own_reply}
use Rattle.mmtel_compose.specs.declared.responses.FurtherMethods.{FurtherMethods}
use Rattle.mmtel_directory.specs.declared.directories.Directory.{Directory}
use Rattle.mmtel_lex.specs.Reading.{uri_of, Refusal}
use Rattle.mmtel_lex.specs.declared.values.Uri.{Uri}
use Rattle.mmtel_leg.specs.Dialogues.{request_uri}
use Rattle.mmtel_masked_messages.specs.Heads.{EquivalentParsedHaveOneHead}
use Rattle.mmtel_masked_messages.specs.Responses.{EquivalentResponsesHaveOneHead}
use Rattle.mmtel_message.specs.Addresses.{contact_text}
use Rattle.mmtel_message.specs.Faults.{is_method, is_request}
use Rattle.mmtel_message.specs.Message.{Line}
use Rattle.mmtel_message.specs.Responses.{Reply, response}
use Rattle.mmtel_message.specs.declared.messages.Start.{Start}
use Rattle.mmtel_message.specs.declared.messages.Start.TheVariants.{Request, Status}
use Rattle.mmtel_base.proofs.Runs.{and_true}
use Rattle.mmtel_transaction.specs.Heads.{head_of}
use Rattle.mmtel_trust.specs.ParsedMessage.{ParsedMessage}
use Rattle.mmtel_trust.specs.PrivateFields.{Entries, PrivateFields, joined_fields, masked_lines, only_entries, private_fields_in}
use Rattle.mmtel_trust.specs.MaskedMessages as trust
use Rattle.mmtel_trust.specs.MaskedMessages.{DecideTheSame, MaskedMessage, Restriction, hide, is_opening, is_private, private_entries, private_fields_of, private_in_opening_if, public_part}
use Rattle.mmtel_trust.specs.declared.accounts.AccountIdentity.{AccountIdentity}
use Rattle.mmtel_types.specs.declared.addrs.Addr.{Addr}
use Rattle.mmtel_types.specs.declared.numbers.Account.{Account}
use Rattle.mmtel_types.specs.declared.numbers.Peer.{Peer}
use Rattle.mmtel_run_definitions.specs.Equivalence.{EqualButForAccounts, EqualMasksAreEquivalent, EquivalentMessages, MasksNameTheRegistrant, message_from, trusts}
use Rattle.mmtel_run_definitions.specs.OwnResponses.{StatusResponse, response_to}
use Rattle.mmtel_run_definitions.specs.Events.{message_in}
use Rattle.mmtel_run_definitions.specs.Calls.{named_by}
use Rattle.mmtel_run_definitions.specs.Mask.{by_privacy_header, is_hiding, masked_message}
use Rattle.mmtel_run_definitions.specs.Refusals.{Disposition, JoinConference, OpenConference, Respond, Subscribe, audio_or_refusal, call_opening, conference_number, disposition}
use Rattle.mmtel_run_definitions.specs.Refusals.{disposition_by, disposition_by_method, disposition_of, first_that_applies, invite_disposition, invite_disposition_at, invite_disposition_to}
use Rattle.mmtel_run_definitions.specs.Refusals.{is_conference, is_factory, is_register, is_subscribe, refusals, registrant, registration_disposition, registration_disposition_of, to_account}
use Rattle.mmtel_run_definitions.specs.Ownership.{DialogOwner, participant_named_by, subscription_named_by}
use Rattle.mmtel_run_definitions.specs.OwnResponses.{plain_response, response_with_allow}

-- the theorems of the lower layers on which this depends

abbrev pub DecidesEqually : Type 0
DecidesEqually = (restricts : Restriction) (accounts others : List AccountIdentity) (m n : ParsedMessage) → trust.mask restricts accounts m ≡ trust.mask restricts others n → DecideTheSame restricts accounts others m n

abbrev pub PublicResponsesAreKept : Type 0
PublicResponsesAreKept = (p : PrivateFields) (start : Start) (ls : List Line) (r : Reply) → p.from ≡ false → p.to ≡ false → response start (masked_lines p ls) r ≡ response start ls r

true_false : true ≡ false → ⊥
true_false e = cc

-- ---- configurations that are equal but for accounts decide equally

module _ (d e : Directory) (equal : EqualButForAccounts d e) where
  target_same : (full : Bool) (m : ParsedMessage) (target : Uri) → invite_disposition_to d full m target ≡ invite_disposition_to e full m target
  target_same full m target =
      ap (λ (f : Option Uri).
      if is_factory f target then audio_or_refusal m OpenConference
      else if is_conference d.sip target then audio_or_refusal m (JoinConference (conference_number d.sip target))
      else call_opening full) equal.factory
      ∙ ap (λ (s : Addr).
      if is_factory e.factory target then audio_or_refusal m OpenConference
      else if is_conference s target then audio_or_refusal m (JoinConference (conference_number s target))
      else call_opening full) equal.sip

  read_same : (full : Bool) (m : ParsedMessage) (target : Result Uri Refusal) → invite_disposition_at d full m target ≡ invite_disposition_at e full m target
  read_same full m (Ok target) = target_same full m target
  read_same full m (Err refusal) = refl

  invite_disposition_same : (full : Bool) (m : ParsedMessage) → invite_disposition d full m ≡ invite_disposition e full m
  invite_disposition_same full m = read_same full m (uri_of (request_uri m.start))

  -- the account that a REGISTER names, if it registers one
  registered_by : (b c : Bool) (o p : Option Account) (m : ParsedMessage) (other : Disposition) → (if b && c then o else None) ≡ (if b && c then p else None)
      → (if c then (if b then registration_disposition_of o m else Respond (plain_response 403)) else other) ≡ (if c then (if b then registration_disposition_of p m else Respond (plain_response 403)) else other)
  registered_by b false o p m other same = refl
  registered_by false true o p m other same = refl
  registered_by true true o p m other same = ap (λ (x : Option Account). registration_disposition_of x m) same

  -- by no other method
  abbrev subscribed : ParsedMessage → Disposition
  subscribed m = if is_subscribe m then Subscribe else Respond (plain_response 481)

  registered_same : (m : ParsedMessage) → registrant d.names.accounts m ≡ registrant e.names.accounts m
      → (if is_register m then registration_disposition d.names.accounts m else subscribed m) ≡ (if is_register m then registration_disposition e.names.accounts m else subscribed m)
  registered_same m same = registered_by m.trusted (is_register m) (to_account d.names.accounts m) (to_account e.names.accounts m) m (subscribed m) same

  -- both know the same methods, support the same options and so refuse equally
  response_with_allow_same : (code : ℕ) → response_with_allow d code ≡ response_with_allow e code
  response_with_allow_same code = ap (λ (x : FurtherMethods). record { code = code; lines = allow_lines x }) (λ i. record { reliable = equal.reliable i; mwi = equal.mwi i })

  refused_same : (merged named : Bool) (m : ParsedMessage) → refusals d merged named m ≡ refusals e merged named m
  refused_same merged named m = λ i.
      refusals (record d { reliable = equal.reliable i; timer = equal.timer i; names = record d.names { mwi = equal.mwi i } }) merged named m

  method_same : (full : Bool) (m : ParsedMessage) → registrant d.names.accounts m ≡ registrant e.names.accounts m → disposition_by_method d full m ≡ disposition_by_method e full m
  method_same full m same =
      ap (λ (a : StatusResponse).
      if is_method (codes "OPTIONS") m.start then Respond a
      else if is_method (codes "REFER") m.start then Respond (plain_response 403)
      else if is_method (codes "INVITE") m.start then invite_disposition d full m
      else if is_register m then registration_disposition d.names.accounts m
      else subscribed m) (response_with_allow_same 200)
      ∙ (ap (λ (c : Disposition).
      if is_method (codes "OPTIONS") m.start then Respond (response_with_allow e 200)
      else if is_method (codes "REFER") m.start then Respond (plain_response 403)
      else if is_method (codes "INVITE") m.start then c
      else if is_register m then registration_disposition d.names.accounts m
      else subscribed m) (invite_disposition_same full m)
      ∙ ap (λ (c : Disposition).
      if is_method (codes "OPTIONS") m.start then Respond (response_with_allow e 200)
      else if is_method (codes "REFER") m.start then Respond (plain_response 403)
      else if is_method (codes "INVITE") m.start then invite_disposition e full m
      else c) (registered_same m same))

  disposition_same : (full : Bool) (named : Option DialogOwner) (m : ParsedMessage) (o : Option StatusResponse) → registrant d.names.accounts m ≡ registrant e.names.accounts m →
      disposition_by d full named m o ≡ disposition_by e full named m o
  disposition_same full None m None same = method_same full m same
  disposition_same full (Some named) m None same = refl
  disposition_same full named m (Some answer) same = refl

  decided_equivalent : (merged full : Bool) (named : Option DialogOwner) (m n : ParsedMessage) → public_part m ≡ public_part n → registrant d.names.accounts m ≡ registrant e.names.accounts n
      → disposition d merged full named m ≡ disposition e merged full named n
  unfolding disposition
  decided_equivalent merged full named m n public same =
      ap (disposition_of d merged full named) public
      ∙ (disposition_same full named (public_part n) (first_that_applies (refusals d merged (is_some named) (public_part n)))
      (sym (ap (registrant d.names.accounts) public) ∙ same)
      ∙ ap (λ (rs : List (Bool × StatusResponse)). disposition_by e full named (public_part n) (first_that_applies rs)) (refused_same merged (is_some named) (public_part n)))

  -- ---- the two cases

  -- one message
  kin_self : (peer : Peer) (source : Addr) (m : ParsedMessage) → registrant d.names.accounts m ≡ registrant e.names.accounts m → EquivalentMessages d e peer source m m
  kin_self peer source m register = record {
    start = refl;
    head = refl;
    to_tag = refl;
    named = λ entries. refl;
    participant_named = λ live. refl;
    subscription_named = λ table. refl;
    decided = λ merged full named. decided_equivalent merged full named m m refl register;
    response_head = λ tag answer. ap (λ (s : Addr). head_of (response_to s tag (message_from peer source m) answer)) equal.sip;
    response = λ strange tag answer. ap (λ (s : Addr). response_to s tag (message_from peer source m) answer) equal.sip;
  }

  module _ (decides : DecidesEqually) (kept : PublicResponsesAreKept) (heads : EquivalentParsedHaveOneHead) (responses : EquivalentResponsesHaveOneHead)
      (peer : Peer) (source : Addr) (m n : ParsedMessage) (same : trust.mask by_privacy_header [] m ≡ trust.mask by_privacy_header [] n) (trusted : trusts d peer ≡ true)
      (register : registrant d.names.accounts m ≡ registrant e.names.accounts n) where
    alike : DecideTheSame by_privacy_header [] [] m n
    alike = decides by_privacy_header [] [] m n same

    left : hide (private_fields_of by_privacy_header [] m) m ≡ hide (private_fields_of by_privacy_header [] n) n
    left = ap (λ (x : MaskedMessage). x.message) same

    method_request : (start : Start) → is_method (codes "INVITE") start ≡ true → is_request start ≡ true
    method_request (Request method uri) e = refl
    method_request (Status code phrase) e = absurd (true_false (sym e))

    opening_request : is_private by_privacy_header [] m ≡ true → is_request m.start ≡ true
    opening_request e = method_request m.start
        (and_true (is_method (codes "INVITE") m.start) (is_none m.to_tag) (and_true m.trusted (is_method (codes "INVITE") m.start && is_none m.to_tag) (and_true (is_opening m) (is_hiding m.wants) e).0).1).0

    -- the private places of From and To are none of a message that opens no restricted call
    no_from : (b : Bool) (es : Entries) → b ≡ false → (joined_fields (private_in_opening_if b) (only_entries es)).from ≡ false
    no_from true es e = absurd (true_false e)
    no_from false es e = refl

    no_to : (b c : Bool) (es : Entries) → b ≡ false → (if c then false else (joined_fields (private_in_opening_if b) (only_entries es)).to) ≡ false
    no_to true c es e = absurd (true_false e)
    no_to false true es e = refl
    no_to false false es e = refl

    open_answer : is_private by_privacy_header [] m ≡ false → (r : Reply) → response m.start m.lines r ≡ response n.start n.lines r
    open_answer e r =
        let f = sym alike.private ∙ e in
        let p = private_fields_in m.start (private_fields_of by_privacy_header [] m) in
        let q = private_fields_in n.start (private_fields_of by_privacy_header [] n) in
        sym (kept p m.start m.lines r (no_from (is_private by_privacy_header [] m) (private_entries m) e) (no_to (is_private by_privacy_header [] m) (is_request m.start) (private_entries m) e))
        ∙ (ap (λ (x : ParsedMessage). response x.start x.lines r) left
        ∙ kept q n.start n.lines r (no_from (is_private by_privacy_header [] n) (private_entries n) f) (no_to (is_private by_privacy_header [] n) (is_request n.start) (private_entries n) f))

    private_head : is_private by_privacy_header [] m ≡ true → (r : Reply) → head_of (response m.start m.lines r) ≡ head_of (response n.start n.lines r)
    private_head e r =
        responses (private_fields_of by_privacy_header [] m) (private_fields_of by_privacy_header [] n) (message_in m) (message_in n) r (opening_request e)
        (ap (λ (x : ParsedMessage). message_in x) left)

    one_head : (b : Bool) → is_private by_privacy_header [] m ≡ b → (r : Reply) → head_of (response m.start m.lines r) ≡ head_of (response n.start n.lines r)
    one_head true e r = private_head e r
    one_head false e r = ap head_of (open_answer e r)

    pub kin_masked : EquivalentMessages d e peer source m n
    kin_masked = record {
      start = ap (λ (x : ParsedMessage). x.start) alike.public;
      head = heads (private_fields_of by_privacy_header [] m) (private_fields_of by_privacy_header [] n) m n left;
      to_tag = ap (λ (x : ParsedMessage). x.to_tag) alike.public;
      named = λ entries. ap (λ (x : ParsedMessage). named_by x entries) alike.public;
      participant_named = λ live. ap (λ (x : ParsedMessage). participant_named_by x live) alike.public;
      subscription_named = λ table. ap (λ (x : ParsedMessage). subscription_named_by x table) alike.public;
      decided = λ merged full named. decided_equivalent merged full named m n alike.public register;
      response_head = λ tag answer.
          ap (λ (s : Addr). head_of (response_to s tag (message_from peer source m) answer)) equal.sip
          ∙ one_head (is_private by_privacy_header [] m) refl (own_reply (contact_text e.sip) source tag answer.code [] answer.lines []);
      response = λ strange tag answer. absurd (true_false (sym trusted ∙ strange));
    }

  module _ (decides : DecidesEqually) (kept : PublicResponsesAreKept) (heads : EquivalentParsedHaveOneHead) (responses : EquivalentResponsesHaveOneHead) where
    kin_by : (b : Bool) (peer : Peer) (source : Addr) (m n : ParsedMessage) → trusts d peer ≡ b → masked_message b m ≡ masked_message b n →
        registrant d.names.accounts m ≡ registrant e.names.accounts n → EquivalentMessages d e peer source m n
    kin_by true peer source m n known same register = kin_masked decides kept heads responses peer source m n same known register
    kin_by false peer source m n known same register =
        let one : m ≡ n = ap (λ (x : MaskedMessage). x.message) same in
        subst (λ (x : ParsedMessage). EquivalentMessages d e peer source m x) one
        (kin_self peer source m (register ∙ ap (registrant e.names.accounts) (sym one)))

    pub kin_of : (peer : Peer) (source : Addr) (m n : ParsedMessage) → masked_message (trusts d peer) m ≡ masked_message (trusts d peer) n →
        registrant d.names.accounts m ≡ registrant e.names.accounts n → EquivalentMessages d e peer source m n
    kin_of peer source m n same register = kin_by (trusts d peer) peer source m n refl same register

pub kinship : DecidesEqually → PublicResponsesAreKept → EquivalentParsedHaveOneHead → EquivalentResponsesHaveOneHead → EqualMasksAreEquivalent
kinship decides kept heads responses d e peer source m n equal same register = kin_of d e equal decides kept heads responses peer source m n same register

-- one account is named under one configuration
names_by : DecidesEqually → (d : Directory) (b : Bool) (m n : ParsedMessage) → masked_message b m ≡ masked_message b n → registrant d.names.accounts m ≡ registrant d.names.accounts n
names_by decides d true m n same = ap (registrant d.names.accounts) ((decides by_privacy_header [] [] m n same).public)
names_by decides d false m n same = ap (λ (x : MaskedMessage). registrant d.names.accounts x.message) same

pub names_the_registrant : DecidesEqually → MasksNameTheRegistrant
names_the_registrant decides d b m n same = names_by decides d b m n same
