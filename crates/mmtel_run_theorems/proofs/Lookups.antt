-- Accounts that are named by no URI by which an account is looked up may be renamed: the lookup of each account has the same result then.
use Rattle.std.proofs.Common.{◌≡◌, ℕ, zero, suc, Bool, true, false, ◌&&◌, List, [], ◌∷◌, ◌++◌, map, refl, ap, ◌∙◌, Option, Some, None, Result, Ok, Err, subst, inl, inr, codes}
use Rattle.std.specs.Prelude.{if◌then◌else◌, option_to_list, slice_get}
use Rattle.std.specs.List.{flat_map, list_all}
use Rattle.std.specs.Option.{unwrap_or}
use Rattle.mmtel_compose.specs.ReceivedMessages.{MessageView}
use Rattle.mmtel_call_services.specs.Decisions.{redirect_of}
use Rattle.mmtel_call_services.specs.Opening.{no_target}
use Rattle.mmtel_call_theorems.specs.Noninterference.Configurations.{Forwards}
use Rattle.mmtel_call_theorems.specs.Noninterference.Premises.{IsAmong}
use Rattle.mmtel_call_theorems.specs.Noninterference.RenamedAccounts.{LookupsAgree, NoneAreNamed, names_none}
use Rattle.mmtel_directory.specs.declared.directories.Directory.{Directory}
use Rattle.mmtel_diversion.specs.Diversion.{forward_of}
use Rattle.mmtel_focus.specs.Referrals.{referral_in}
use Rattle.mmtel_focus.specs.declared.referrals.Referral.{Referral}
use Rattle.mmtel_focus.specs.declared.referrals.Referral.TheVariants.{Invite}
use Rattle.mmtel_leg.specs.Dialogues.{request_uri}
use Rattle.mmtel_lex.specs.Reading.{Refusal, uri_of}
use Rattle.mmtel_lex.specs.declared.values.NameAddr.{NameAddr}
use Rattle.mmtel_lex.specs.declared.values.Uri.{Uri}
use Rattle.mmtel_message.specs.Faults.{is_method}
use Rattle.mmtel_message.specs.declared.messages.Start.{Start}
use Rattle.mmtel_message.specs.declared.messages.Start.TheVariants.{Request, Status}
use Rattle.mmtel_call_parties.specs.Parties.{account_by, believed_user, target_from}
use Rattle.mmtel_precedence.specs.Theorems.{diversion_rules}
use Rattle.mmtel_base.specs.Chain.{◌>>=◌}
use Rattle.mmtel_sheet_values.specs.declared.values.Forward.{Forward}
use Rattle.mmtel_sheet_values.specs.declared.values.Rule.{Rule}
use Rattle.mmtel_sheet_values.specs.declared.values.Sheet.{Sheet}
use Rattle.mmtel_served_user.specs.Targets.{first_target, new_target, requested_target}
use Rattle.mmtel_trust.specs.Accounts.{account_of}
use Rattle.mmtel_trust.specs.Asserted.{asserted, or_no_uri, uri_in}
use Rattle.mmtel_trust.specs.ParsedMessage.{ParsedMessage, account_from, or_other, served_origin}
use Rattle.mmtel_trust.specs.declared.accounts.AccountIdentity.{AccountIdentity}
use Rattle.mmtel_trust.specs.declared.identities.Identities.{Identities}
use Rattle.mmtel_types.specs.declared.numbers.Account.{Account}
use Rattle.mmtel_run_definitions.specs.Refusals.{account_in, is_register}
use Rattle.mmtel_run_definitions.specs.Subscriptions.{named_mailbox, sender_of}
use Rattle.mmtel_run_theorems.specs.EquivalentStates.{AllLookUpEqually, CallerLooksUpEqually, EventLooksUpEqually, MessageLooksUpEqually}
use Rattle.mmtel_run_theorems.specs.Roles.{is_opening, may_subscribe}
use Rattle.mmtel_run_theorems.specs.Mask.{MaskedEvent, Nothing, Received, Refused, Tests, WebRequested}
use Rattle.mmtel_run_theorems.specs.Noninterference.{RenamedAreLookedUpEqually}
use Rattle.mmtel_run_theorems.specs.RenamedAccounts.{NobodyIsRenamed, Renames, callers_by, callers_in, diversion_uris, forward_uris, lookups, lookups_by, opening_uris}
use Rattle.mmtel_run_theorems.specs.RenamedAccounts.{redirect_uris, refer_uris, referral_uris, register_uris, subscribe_uris, targets_in, uri_by, uri_by_any}

first_true : (a b : Bool) → (a && b) ≡ true → a ≡ true
first_true true b e = refl
first_true false b e = e

second_true : (a b : Bool) → (a && b) ≡ true → b ≡ true
second_true true b e = e
second_true false b e = absurd (let o : false ≡ true = e in cc)

some_same : (A : Type 0) (x y : A) → Some x ≡ Some y → x ≡ y
some_same A x y e = cc

-- ---- lists of URIs, each of which is of one account in both, or of none

module _ (one other : List AccountIdentity) where
  abbrev Agree : Uri → Type 0
  Agree u = account_of one u ≡ account_of other u

  abbrev pub AllAgree : List Uri → Type 0
  AllAgree [] = Unit {0}
  AllAgree (u ∷ us) = Agree u × AllAgree us

  front : (us vs : List Uri) → AllAgree (us ++ vs) → AllAgree us
  front [] vs a = tt
  front (u ∷ us) vs a = (a.0, front us vs a.1)

  back : (us vs : List Uri) → AllAgree (us ++ vs) → AllAgree vs
  back [] vs a = a
  back (u ∷ us) vs a = back us vs a.1

  where_if : (b : Bool) (us : List Uri) → AllAgree (if b then us else []) → b ≡ true → AllAgree us
  where_if true us a e = a
  where_if false us a e = absurd (let o : false ≡ true = e in cc)

  in_option : (o : Option Uri) → AllAgree (option_to_list o) → (o >>= account_of one) ≡ (o >>= account_of other)
  in_option None a = refl
  in_option (Some u) a = a.0

  -- ---- the target

  in_request : (r : Result Uri Refusal) → Agree (unwrap_or (requested_target r) no_target).uri → account_by one (or_no_uri r) ≡ account_by other (or_no_uri r)
  in_request (Ok uri) a = a
  in_request (Err refusal) a = refl

  in_target : (start : Start) (user : Option (List ℕ)) → Agree (unwrap_or (first_target (request_uri start)) no_target).uri → AllAgree (uri_by_any user) →
      target_from one start user ≡ target_from other start user
  in_target (Request method uri) None a b = in_request (uri_of uri) a
  in_target (Status code phrase) None a b = refl
  in_target start (Some uri) a b = in_option (or_no_uri (uri_of uri)) b

  -- ---- the caller

  either : (a b c d : Option Account) → a ≡ b → c ≡ d → or_other a c ≡ or_other b d
  either a b c d e f = ap (λ (x : Option Account). or_other x c) e ∙ ap (or_other b) f

  in_caller : (i : Identities) (o : Option NameAddr) → AllAgree (callers_by i o) → account_from one i o ≡ account_from other i o
  in_caller i None a =
      either (i.sip >>= account_of one) (i.sip >>= account_of other) (i.tel >>= account_of one) (i.tel >>= account_of other)
      (in_option i.sip (front (option_to_list i.sip) (option_to_list i.tel) a)) (in_option i.tel (back (option_to_list i.sip) (option_to_list i.tel) a))
  in_caller i (Some n) a = in_option (or_no_uri (uri_of n.uri)) a

  -- ---- who is registered

  in_value : (o : Option (List ℕ)) → AllAgree (option_to_list (o >>= uri_in)) → (o >>= account_in one) ≡ (o >>= account_in other)
  in_value None a = refl
  in_value (Some v) a = in_option (uri_in v) a

  in_register : (b : Bool) (o : Option (List ℕ)) → AllAgree (if b then option_to_list (o >>= uri_in) else []) →
      (if b then (o >>= account_in one) else None) ≡ (if b then (o >>= account_in other) else None)
  in_register true o a = in_value o a
  in_register false o a = refl

  -- ---- where a response redirects to, and whom a conference invites

  in_redirect : (home : List ℕ) (o : Option Uri) → AllAgree (map (new_target home) (option_to_list o)) → (uri : Uri) → o ≡ Some uri → Agree (new_target home uri)
  in_redirect home None a uri is = absurd cc
  in_redirect home (Some u) a uri is = subst (λ (x : Uri). Agree (new_target home x)) (some_same Uri u uri is) a.0

  in_referral : (b : Bool) (r : Referral) → AllAgree (if b then referral_uris r else []) → (uri : Uri) → b ≡ true → r ≡ Invite (Some uri) → Agree uri
  in_referral b r a uri is to =
      (subst (λ (x : Referral). AllAgree (referral_uris x)) to (where_if b (referral_uris r) a is)).0

  -- ---- the rules of records

  in_forward : (home : List ℕ) (o : Option Forward) → AllAgree (forward_uris home o) → (forward : Forward) → o ≡ Some forward → Agree (new_target home forward.target)
  in_forward home None a forward is = absurd cc
  in_forward home (Some f) a forward is =
      subst (λ (x : Forward). Agree (new_target home x.target)) (some_same Forward f forward is) a.0

  in_rules : (home : List ℕ) (rules : List Rule) → AllAgree (flat_map (λ (rule : Rule). forward_uris home (forward_of rule.action)) rules) →
      (place : ℕ) (rule : Rule) → slice_get rules place ≡ Some rule → AllAgree (forward_uris home (forward_of rule.action))
  in_rules home [] a place rule is = absurd cc
  in_rules home (r ∷ rs) a zero rule is =
      subst (λ (x : Rule). AllAgree (forward_uris home (forward_of x.action))) (some_same Rule r rule is)
      (front (forward_uris home (forward_of r.action)) (flat_map (λ (x : Rule). forward_uris home (forward_of x.action)) rs) a)
  in_rules home (r ∷ rs) a (suc place) rule is =
      in_rules home rs (back (forward_uris home (forward_of r.action)) (flat_map (λ (x : Rule). forward_uris home (forward_of x.action)) rs) a) place rule is

  in_records : (home : List ℕ) (records : List Sheet) → AllAgree (flat_map (diversion_uris home) records) → (sheet : Sheet) → IsAmong records sheet → AllAgree (diversion_uris home sheet)
  in_records home [] a sheet is = absurd is
  in_records home (r ∷ rs) a sheet (inl same) =
      subst (λ (x : Sheet). AllAgree (diversion_uris home x)) same (front (diversion_uris home r) (flat_map (diversion_uris home) rs) a)
  in_records home (r ∷ rs) a sheet (inr is) = in_records home rs (back (diversion_uris home r) (flat_map (diversion_uris home) rs) a) sheet is

  pub in_record : (home : List ℕ) (records : List Sheet) → AllAgree (flat_map (diversion_uris home) records) → (sheet : Sheet) → IsAmong records sheet → (forward : Forward) →
      Forwards sheet forward → Agree (new_target home forward.target)
  in_record home records a sheet is forward does =
      in_forward home (forward_of does.rule.action) (in_rules home (diversion_rules sheet.diversion) (in_records home records a sheet is) does.place does.rule does.found) forward does.does

-- ---- the events of a masked run

module _ (one other : Directory) where
  abbrev Names : List Uri → Type 0
  Names us = AllAgree one.names.accounts other.names.accounts us

  caller_looks : (left : MessageView) (tests : Option Tests) → Names (opening_uris left.parsed tests) → CallerLooksUpEqually one other left tests
  caller_looks left None a = λ opens.
      in_caller one.names.accounts other.names.accounts (asserted left.parsed.trusted left.parsed.lines) (if left.parsed.trusted then served_origin left.parsed.lines else None)
      (back one.names.accounts other.names.accounts (targets_in left.parsed) (callers_in left.parsed None)
      (where_if one.names.accounts other.names.accounts (is_opening left.parsed) (targets_in left.parsed ++ callers_in left.parsed None) a opens))
  caller_looks left (Some tests) a = tt

  -- with message waiting, the subscriber and the mailbox
  subscriptions_look : (m : ParsedMessage) → Names (subscribe_uris one m) → may_subscribe one m ≡ true → (sender_of one m ≡ sender_of other m) × (named_mailbox one m ≡ named_mailbox other m)
  subscriptions_look m a does =
      let xs : List AccountIdentity = one.names.accounts in
      let ys : List AccountIdentity = other.names.accounts in
      let who : Identities = asserted m.trusted m.lines in
      let all : Names (callers_by who None ++ uri_by (request_uri m.start)) = where_if xs ys (may_subscribe one m) (callers_by who None ++ uri_by (request_uri m.start)) a does in (
        in_caller xs ys who None (front xs ys (callers_by who None) (uri_by (request_uri m.start)) all),
        in_option xs ys (or_no_uri (uri_of (request_uri m.start))) (back xs ys (callers_by who None) (uri_by (request_uri m.start)) all),
      )

  message_looks : (left : MessageView) (tests : Option Tests) → Names (lookups_by one (Received left tests)) → MessageLooksUpEqually one other left × CallerLooksUpEqually one other left tests
  message_looks left tests a =
      let xs : List AccountIdentity = one.names.accounts in
      let ys : List AccountIdentity = other.names.accounts in
      let in_boxes : List Uri = register_uris left.parsed ++ subscribe_uris one left.parsed in
      let opening : Names (opening_uris left.parsed tests) = front xs ys (opening_uris left.parsed tests) (redirect_uris one.home left ++ (refer_uris left.parsed ++ in_boxes)) a in
      let others = back xs ys (opening_uris left.parsed tests) (redirect_uris one.home left ++ (refer_uris left.parsed ++ in_boxes)) a in
      let redirects = front xs ys (redirect_uris one.home left) (refer_uris left.parsed ++ in_boxes) others in
      let more = back xs ys (redirect_uris one.home left) (refer_uris left.parsed ++ in_boxes) others in
      let last : Names in_boxes = back xs ys (refer_uris left.parsed) in_boxes more in
      let subscribes : Names (subscribe_uris one left.parsed) = back xs ys (register_uris left.parsed) (subscribe_uris one left.parsed) last in
      let targets : is_opening left.parsed ≡ true → Names (targets_in left.parsed) = λ opens.
      front xs ys (targets_in left.parsed) (callers_in left.parsed tests) (where_if xs ys (is_opening left.parsed) (targets_in left.parsed ++ callers_in left.parsed tests) opening opens) in (
        record {
          target = λ opens. in_target xs ys left.parsed.start (believed_user left.parsed).user (targets opens).0 (targets opens).1;
          requested = λ opens. (targets opens).0;
          redirect = λ uri is. in_redirect xs ys one.home (redirect_of left) redirects uri is;
          refer = λ uri asks to. in_referral xs ys (is_method (codes "REFER") left.parsed.start) (referral_in left.parsed.refer_to) (front xs ys (refer_uris left.parsed) in_boxes more) uri asks to;
          registrant = in_register xs ys (left.parsed.trusted && is_register left.parsed) left.parsed.to (front xs ys (register_uris left.parsed) (subscribe_uris one left.parsed) last);
          subscriber = λ does. (subscriptions_look left.parsed subscribes does).0;
          mailbox = λ does. (subscriptions_look left.parsed subscribes does).1;
        },
        caller_looks left tests opening,
      )

  parsed_event_looks : (x : MaskedEvent) → Names (lookups_by one x) → EventLooksUpEqually one other x
  parsed_event_looks Nothing a = tt
  parsed_event_looks (Refused peer source reply) a = tt
  parsed_event_looks (Received left tests) a = message_looks left tests a
  parsed_event_looks (WebRequested put waits) a = tt

  all_look_up : (events : List (ℕ × MaskedEvent)) → Names (flat_map (λ (event : ℕ × MaskedEvent). lookups_by one event.1) events) → AllLookUpEqually one other events
  all_look_up [] a = tt
  all_look_up (event ∷ events) a =
      let xs : List AccountIdentity = one.names.accounts in
      let ys : List AccountIdentity = other.names.accounts in
      let rest : List Uri = flat_map (λ (x : ℕ × MaskedEvent). lookups_by one x.1) events in
      (parsed_event_looks event.1 (front xs ys (lookups_by one event.1) rest a), all_look_up events (back xs ys (lookups_by one event.1) rest a))

-- ---- the theorem

module _ (agree : LookupsAgree) where
  all_agree : (renamed : List Account) (one other : Directory) → Renames renamed one other → (us : List Uri) → list_all (names_none renamed one.names.accounts) us ≡ true →
      list_all (names_none renamed other.names.accounts) us ≡ true → AllAgree one.names.accounts other.names.accounts us
  all_agree renamed one other renames [] here there = tt
  all_agree renamed one other renames (u ∷ us) here there = (
    agree renamed one.names.accounts other.names.accounts u renames.others
        (first_true (names_none renamed one.names.accounts u) (list_all (names_none renamed one.names.accounts) us) here)
        (first_true (names_none renamed other.names.accounts u) (list_all (names_none renamed other.names.accounts) us) there),
    all_agree renamed one other renames us
        (second_true (names_none renamed one.names.accounts u) (list_all (names_none renamed one.names.accounts) us) here)
        (second_true (names_none renamed other.names.accounts u) (list_all (names_none renamed other.names.accounts) us) there),
  )

  pub renamed_are_looked_up_equally : RenamedAreLookedUpEqually
  renamed_are_looked_up_equally d e renamed records masked renames neutral =
      let xs : List AccountIdentity = d.names.accounts in
      let ys : List AccountIdentity = e.names.accounts in
      let of_records : List Uri = flat_map (diversion_uris d.home) records in
      let of_events : List Uri = flat_map (λ (event : ℕ × MaskedEvent). lookups_by d event.1) masked.events in
      let all : AllAgree xs ys (of_records ++ of_events) = all_agree renamed d e renames (lookups d records masked) neutral.here neutral.there in (
        record {
          equal = record { sip = renames.sip; home = renames.home; factory = renames.factory; reliable = renames.reliable; timer = renames.timer; mwi = renames.mwi; mixer = renames.mixer; peers = renames.peers };
          configured = record {
            equal = record { sip = renames.sip; home = renames.home; bound = renames.bound; country = renames.country; reliable = renames.reliable; timer = renames.timer; mwi = renames.mwi; peers = renames.peers };
            lead = λ sheet is forward does. in_record xs ys d.home records (front xs ys of_records of_events all) sheet is forward does;
          };
        },
        all_look_up d e masked.events (back xs ys of_records of_events all),
      )

-- ---- one configuration

none_in : NoneAreNamed → (es : List AccountIdentity) (us : List Uri) → list_all (names_none [] es) us ≡ true
none_in none es [] = refl
none_in none es (u ∷ us) = ap (λ (b : Bool). b && list_all (names_none [] es) us) (none es u) ∙ none_in none es us

pub nobody_is_renamed : NoneAreNamed → NobodyIsRenamed
nobody_is_renamed none d records masked = (
  record { sip = refl; home = refl; peers = refl; factory = refl; bound = refl; country = refl; reliable = refl; timer = refl; mwi = refl; mixer = refl; others = refl },
  record { here = none_in none d.names.accounts (lookups d records masked); there = none_in none d.names.accounts (lookups d records masked) },
)
