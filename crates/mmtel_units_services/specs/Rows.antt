-- Worked rows of Outcome, by computing it. The accounts are bob's, carol's and none at an identity of home.example; vm is of far.example, without a served account. Nobody answers
-- unless a row says so.
use Rattle.std.specs.Prelude.{◌≡◌, ◌==◌, ℕ, Bool, true, false, if◌then◌else◌, List, [], ◌∷◌, Option, Some, None, codes}
use Rattle.mmtel_types.specs.declared.causes.Cause.TheVariants as causes
use Rattle.mmtel_types.specs.declared.numbers.Account.{Account}
use Rattle.mmtel_types.specs.declared.numbers.Peer.{Peer}
use Rattle.mmtel_types.specs.declared.privacy.PrivacySet.{PrivacySet}
use Rattle.mmtel_lex.specs.SameIdentity.{is_same_identity}
use Rattle.mmtel_lex.specs.declared.values.Uri.{Uri}
use Rattle.mmtel_lex.specs.declared.values.Uri.TheVariants.{Sip, Tel}
use Rattle.mmtel_sheet_values.specs.Sheets.{empty_sheet}
use Rattle.mmtel_sheet_values.specs.declared.values.Action.TheVariants as action
use Rattle.mmtel_sheet_values.specs.declared.values.EventWord.{EventWord}
use Rattle.mmtel_sheet_values.specs.declared.values.EventWord.TheVariants as event
use Rattle.mmtel_sheet_values.specs.declared.values.Forward.{Forward}
use Rattle.mmtel_sheet_values.specs.declared.values.Rule.{Rule}
use Rattle.mmtel_sheet_values.specs.declared.values.Sheet.{Sheet}
use Rattle.mmtel_served_user.specs.declared.served_user.RegistrationState.TheVariants.{Registered, Unregistered}
use Rattle.mmtel_served_user.specs.declared.served_user.Served.{Served}
use Rattle.mmtel_rules.specs.Facts.{FactsView}
use Rattle.mmtel_precedence.specs.Services.{DueDiversionView, ServedAccountView}
use Rattle.mmtel_precedence.specs.Attempts.{CallerGaveUp, PrackTime, Response, end_by}
use Rattle.mmtel_precedence.specs.Calls.{Answer, Cancel, Unacknowledged, UserBusy, NoReply, Deflection, SnapshotView, CallInputs, OfferState, NotOffered, Offered, OutcomeTarget, CallResult, Pending, Answered, Final, Outcome}
use Rattle.mmtel_precedence.specs.Outcome.{outcome}
use Rattle.mmtel_precedence.specs.NextSteps.{EndAnswered, EndRefuse, step_after_attempt}

-- ---- parties

abbrev pub at_home : List ℕ → Uri
at_home user = Sip (Some user) (codes "home.example") None [] []

abbrev pub bob : Uri
bob = at_home (codes "bob")

abbrev pub carol : Uri
carol = at_home (codes "carol")

-- of no account
abbrev pub dave : Uri
dave = at_home (codes "dave")

-- a telephone number
abbrev pub number_at_home : Uri
number_at_home = Sip (Some (codes "+49301234")) (codes "home.example") None (record { name = codes "user"; value = Some (codes "phone") } ∷ []) []

abbrev pub number_abroad : Uri
number_abroad = Sip (Some (codes "+3312345")) (codes "home.example") None (record { name = codes "user"; value = Some (codes "phone") } ∷ []) []

abbrev pub vm : Uri
vm = Sip (Some (codes "vm")) (codes "far.example") None [] []

-- ---- records

-- to this target, revealing everything
abbrev pub shown_to_all : Uri → Forward
shown_to_all to = record { target = to; notify_caller = true; reveal_to_caller = true; reveal_served_to_caller = true; reveal_to_target = true }

-- to this target, of which the caller is not notified, and to which the diverting user is not revealed
abbrev pub hidden : Uri → Forward
hidden to = record { target = to; notify_caller = false; reveal_to_caller = false; reveal_served_to_caller = true; reveal_to_target = false }

-- for an event, or for none
abbrev pub forwards : Option EventWord → Forward → Rule
forwards when forward = record {
  condition = record { identity = None; anonymous = false; window = None; media = None; event = when; diverted = false; abroad = false; weekly = None };
  action = action.Forward forward;
}

abbrev pub rule : Option EventWord → Uri → Rule
rule when to = forwards when (shown_to_all to)

abbrev pub diverts : List Rule → (deflects : Bool) → Sheet
diverts rules deflects = record empty_sheet { diversion = Some (record { rules = rules; no_reply = 20; deflection = deflects; bound = None }) }

-- the account sets a bound of its own
abbrev pub bounds : (bound : ℕ) → List Rule → Sheet
bounds bound rules = record empty_sheet { diversion = Some (record { rules = rules; no_reply = 20; deflection = false; bound = Some bound }) }

-- a rule for calls that were diverted before, or that go abroad
abbrev pub where_diverted : Rule → Rule
where_diverted r = record r { condition = record r.condition { diverted = true } }

abbrev pub where_abroad : Rule → Rule
where_abroad r = record r { condition = record r.condition { abroad = true } }

-- bars his own calls abroad
abbrev pub bars_abroad : Sheet
bars_abroad = record (diverts (rule None (Tel (codes "+33-1-2345") []) ∷ []) false) {
  outgoing = Some (record { rules = where_abroad (record (rule None vm) { action = action.Allow false }) ∷ []; reject_anonymous = false });
}

-- rejects anonymous callers, and diverts each other call
abbrev pub rejects_and_diverts : Sheet
rejects_and_diverts = record (diverts (rule None vm ∷ []) false) { incoming = Some (record { rules = []; reject_anonymous = true }) }

-- bars his own calls to one party
abbrev pub bars_and_diverts : Uri → Sheet
bars_and_diverts to = record (diverts (rule None to ∷ []) false) {
  outgoing = Some (record {
    rules = record {
      condition = record {
        identity = Some (record { one = to ∷ []; many = None; except = [] });
        anonymous = false;
        window = None;
        media = None;
        event = None;
        diverted = false;
        abroad = false;
        weekly = None;
      };
      action = action.Allow false;
    } ∷ [];
    reject_anonymous = false;
  });
}

-- is anonymous as the caller of each call
abbrev pub restricts_always : Sheet
restricts_always = record empty_sheet { oir = record { active = true; permanent = true; by_default = false } }

-- ---- accounts in their states: alice's is number 1, bob's 2, carol's 3

abbrev pub of_account : Sheet → (registered : Bool) → (live : ℕ) → ServedAccountView
of_account sheet registered live = record { sheet = sheet; registered = registered; live = live }

-- of an empty record, registered, and in no call
abbrev pub free : ServedAccountView
free = of_account empty_sheet true 0

abbrev pub number : ℕ → Account
number n = record { 0 = n }

abbrev pub peer : ℕ → Peer
peer n = record { 0 = n }

abbrev pub account_of : Uri → Option Account
account_of u = if is_same_identity bob u then Some (number 2) else if is_same_identity carol u then Some (number 3) else None

abbrev pub one_of : (alice bob carol : ServedAccountView) → ℕ → ServedAccountView
one_of a b c n = if n == 2 then b else if n == 3 then c else a

-- a registration that has no end, or one that has ended
abbrev pub end_of : (registered : Bool) → Option ℕ
end_of true = None
end_of false = Some 0

abbrev pub stands : (alice bob carol : ServedAccountView) → SnapshotView
stands a b c = record {
  at = 0;
  sheets = λ n. Some (one_of a b c n).sheet;
  registration_ends = λ n. end_of (one_of a b c n).registered;
  live = λ n. (one_of a b c n).live;
}

-- ---- calls to bob, of a user without an account

-- the words of Privacy: none, or one that restricts
abbrev pub words : (id session critical : Bool) → PrivacySet
words id session critical = record { header = false; session = session; user = false; none = false; critical = critical; id = id; history = false }

abbrev pub served_for : (origin target : Option Account) → (both : Bool) → Served
served_for origin target both = record { origin = origin; target = target; both = both }

-- bob and carol are in these states all the time
abbrev pub call : (received bound : ℕ) → (bob carol : ServedAccountView) → CallInputs
call received bound b c = record {
  privacy = words false false false;
  served = served_for None (Some (number 2)) true;
  registration = None;
  identity_matches = λ who. false;
  has_identity = true;
  media = codes "audio" ∷ [];
  received = received;
  bound = bound;
  home = codes "home.example";
  country = None;
  account_of = account_of;
  peer_of = λ u. Some (peer 1);
  first_target = bob;
  opening_snapshot = stands free b c;
  later_snapshots = λ k. stands free b c;
}

-- the call has an anonymous caller
abbrev pub hidden_call : CallInputs → CallInputs
hidden_call c = record c { privacy = words true false false }

-- alice calls, whose account is in this state
abbrev pub called_by_alice : ServedAccountView → CallInputs → CallInputs
called_by_alice a c = record c { served = served_for (Some (number 1)) (Some (number 2)) true; opening_snapshot = stands a free free }

-- the call is to a target of no account
abbrev pub to_nobody : Uri → CallInputs → CallInputs
to_nobody uri c = record c { first_target = uri; served = served_for None None true }

-- by a diversion to here that reveals everything, for this cause
abbrev pub by : Uri → (cause : ℕ) → Option DueDiversionView
by to cause = Some (record { forward = shown_to_all to; cause = cause; bound = None })

-- the same, by an account that sets this bound
abbrev pub bounded_by : Uri → (cause bound : ℕ) → Option DueDiversionView
bounded_by to cause bound = Some (record { forward = shown_to_all to; cause = cause; bound = Some bound })

abbrev pub target : Uri → Option DueDiversionView → OfferState → OutcomeTarget
target uri led offer = record { uri = uri; diversion = led; offer = offer }

abbrev pub comes_to : List OutcomeTarget → CallResult → Outcome
comes_to targets result = record { targets = targets; result = result }

-- ---- the rows

pub record AreOutcomes : Type 0 where
  -- anonymous rejection before diversion: of an anonymous caller with an identity; not of one that has none
  pub anonymous_rejection : outcome (hidden_call (call 0 5 (of_account rejects_and_diverts true 0) free)) []
      ≡ comes_to (target bob None NotOffered ∷ []) (Final causes.AnonymousRejected)
  pub no_identity : outcome (record (hidden_call (call 0 5 (of_account rejects_and_diverts true 0) free)) { has_identity = false }) []
      ≡ comes_to (target bob None NotOffered ∷ target vm (by vm 302) (Offered false) ∷ []) Pending
  -- a caller is anonymous by its own record too
  pub hidden_by_record : outcome
      (record (call 0 5 free free) {
        served = served_for (Some (number 1)) (Some (number 2)) true;
        opening_snapshot = stands (of_account restricts_always true 0) (of_account rejects_and_diverts true 0) free;
      }) []
      ≡ comes_to (target bob None NotOffered ∷ []) (Final causes.AnonymousRejected)
  -- two diversions: bob always to carol, who is in a call and diverts on busy
  pub two_diversions : outcome (call 0 5 (of_account (diverts (rule None carol ∷ []) false) true 0) (of_account (diverts (rule (Some event.Busy) vm ∷ []) false) true 1))
      (record { at = 900; how = Answer } ∷ [])
      ≡ comes_to (target bob None NotOffered ∷ target carol (by carol 302) NotOffered ∷ target vm (by vm 486) (Offered false) ∷ []) Answered
  -- the target has the forward of the rule
  pub hidden_forward : outcome (call 0 5 (of_account (diverts (forwards None (hidden vm) ∷ []) false) true 0) free) []
      ≡ comes_to (target bob None NotOffered ∷ target vm (Some (record { forward = hidden vm; cause = 302; bound = None })) (Offered false) ∷ []) Pending
  -- received causes count against the bound: five, and busy; five, and free; four
  pub received_busy : outcome (call 5 5 (of_account (diverts (rule (Some event.Busy) vm ∷ []) false) true 1) free) []
      ≡ comes_to (target bob None NotOffered ∷ []) (Final (causes.TooManyDiversions true))
  pub received_free : outcome (call 5 5 (of_account (diverts (rule None vm ∷ []) false) true 0) free) []
      ≡ comes_to (target bob None NotOffered ∷ []) (Final (causes.TooManyDiversions false))
  pub received_four : outcome (call 4 5 (of_account (diverts (rule (Some event.Busy) vm ∷ []) false) true 1) free) []
      ≡ comes_to (target bob None NotOffered ∷ target vm (by vm 486) (Offered false) ∷ []) Pending
  -- a bound of zero, and bob who diverts to himself
  pub bound_zero : outcome (call 0 0 (of_account (diverts (rule None vm ∷ []) false) true 0) free) []
      ≡ comes_to (target bob None NotOffered ∷ []) (Final (causes.TooManyDiversions false))
  pub loop : outcome (call 0 5 (of_account (diverts (rule None bob ∷ []) false) true 0) free) []
      ≡ comes_to (target bob None NotOffered ∷ target bob (by bob 302) NotOffered ∷ target bob (by bob 302) NotOffered ∷ target bob (by bob 302) NotOffered
      ∷ target bob (by bob 302) NotOffered ∷ target bob (by bob 302) NotOffered ∷ []) (Final (causes.TooManyDiversions false))
  -- the bound of the account that diverts: reached by what was received; not yet; by what was made; that of an account before it no longer counts; and one above the configured
  pub own_bound_received : outcome (call 1 5 (of_account (bounds 1 (rule None vm ∷ [])) true 0) free) []
      ≡ comes_to (target bob None NotOffered ∷ []) (Final (causes.TooManyDiversions false))
  pub own_bound_below : outcome (call 1 5 (of_account (bounds 2 (rule None vm ∷ [])) true 0) free) []
      ≡ comes_to (target bob None NotOffered ∷ target vm (bounded_by vm 302 2) (Offered false) ∷ []) Pending
  pub own_bound_made : outcome (call 0 5 (of_account (diverts (rule None carol ∷ []) false) true 0) (of_account (bounds 1 (rule (Some event.Busy) vm ∷ [])) true 1)) []
      ≡ comes_to (target bob None NotOffered ∷ target carol (by carol 302) NotOffered ∷ []) (Final (causes.TooManyDiversions true))
  pub own_bound_of_another : outcome (call 0 5 (of_account (bounds 1 (rule None carol ∷ [])) true 0) (of_account (diverts (rule None vm ∷ []) false) true 0)) []
      ≡ comes_to (target bob None NotOffered ∷ target carol (bounded_by carol 302 1) NotOffered ∷ target vm (by vm 302) (Offered false) ∷ []) Pending
  pub own_bound_above : outcome (call 5 5 (of_account (bounds 9 (rule None vm ∷ [])) true 0) free) []
      ≡ comes_to (target bob None NotOffered ∷ []) (Final (causes.TooManyDiversions false))
  -- a rule for calls that were diverted before: of one that was not, of one that came so, and of one that was diverted here
  pub not_diverted_before : outcome (call 0 5 (of_account (diverts (where_diverted (rule None vm) ∷ []) false) true 0) free) []
      ≡ comes_to (target bob None (Offered false) ∷ []) Pending
  pub received_diverted : outcome (call 1 5 (of_account (diverts (where_diverted (rule None vm) ∷ []) false) true 0) free) []
      ≡ comes_to (target bob None NotOffered ∷ target vm (by vm 302) (Offered false) ∷ []) Pending
  pub diverted_here : outcome (call 0 5 (of_account (diverts (rule None carol ∷ []) false) true 0) (of_account (diverts (where_diverted (rule None vm) ∷ []) false) true 0)) []
      ≡ comes_to (target bob None NotOffered ∷ target carol (by carol 302) NotOffered ∷ target vm (by vm 302) (Offered false) ∷ []) Pending
  -- barring of what goes abroad: of a diversion to a number of another country, of the home country, and where that is not known
  pub diverted_abroad : outcome (record (call 0 5 (of_account bars_abroad true 0) free) { country = Some (codes "49") }) []
      ≡ comes_to (target bob None NotOffered ∷ []) (Final causes.OutgoingBarred)
  pub diverted_at_home : outcome (record (call 0 5 (of_account bars_abroad true 0) free) { country = Some (codes "33") }) []
      ≡ comes_to (target bob None NotOffered ∷ target number_abroad (by (Tel (codes "+33-1-2345") []) 302) (Offered false) ∷ []) Pending
  pub country_not_known : outcome (call 0 5 (of_account bars_abroad true 0) free) []
      ≡ comes_to (target bob None NotOffered ∷ target number_abroad (by (Tel (codes "+33-1-2345") []) 302) (Offered false) ∷ []) Pending
  -- outgoing barring of the account that diverts comes before the bound
  pub barred_at_the_bound : outcome (call 5 5 (of_account (bars_and_diverts vm) true 0) free) [] ≡ comes_to (target bob None NotOffered ∷ []) (Final causes.OutgoingBarred)
  -- deflection: before it rang, after it rang, and where it is not allowed
  pub deflected : outcome (call 0 5 (of_account (diverts [] true) true 0) free) (record { at = 50; how = Deflection vm false } ∷ [])
      ≡ comes_to (target bob None (Offered false) ∷ target vm (by vm 480) (Offered false) ∷ []) Pending
  pub deflected_ringing : outcome (call 0 5 (of_account (diverts [] true) true 0) free) (record { at = 50; how = Deflection vm true } ∷ [])
      ≡ comes_to (target bob None (Offered false) ∷ target vm (by vm 487) (Offered false) ∷ []) Pending
  pub deflection_not_allowed : outcome (call 0 5 (of_account (diverts [] false) true 0) free) (record { at = 50; how = Deflection vm true } ∷ [])
      ≡ comes_to (target bob None (Offered false) ∷ []) (Final (causes.Relayed 480))
  -- registration: without a rule, with a rule for it; and as it was given with the call
  pub not_registered : outcome (call 0 5 (of_account empty_sheet false 0) free) [] ≡ comes_to (target bob None NotOffered ∷ []) (Final causes.NotRegistered)
  pub not_registered_diverted : outcome (call 0 5 (of_account (diverts (rule (Some event.NotRegistered) vm ∷ []) false) false 0) free) []
      ≡ comes_to (target bob None NotOffered ∷ target vm (by vm 404) (Offered false) ∷ []) Pending
  pub told_registered : outcome (record (call 0 5 (of_account empty_sheet false 0) free) { registration = Some Registered }) []
      ≡ comes_to (target bob None (Offered false) ∷ []) Pending
  pub told_not_registered : outcome (record (call 0 5 free free) { registration = Some Unregistered }) [] ≡ comes_to (target bob None NotOffered ∷ []) (Final causes.NotRegistered)
  pub told_of_the_first : outcome
      (record (call 0 5 (of_account (diverts (rule None carol ∷ []) false) true 0) (of_account empty_sheet false 0)) { registration = Some Registered }) []
      ≡ comes_to (target bob None NotOffered ∷ target carol (by carol 302) NotOffered ∷ []) (Final causes.NotRegistered)
  -- an identity of the home domain that is of no account, and a target to which no peer is the route
  pub no_account : outcome (to_nobody dave (call 0 5 free free)) [] ≡ comes_to (target dave None NotOffered ∷ []) (Final causes.NoAccount)
  pub no_route : outcome (record (call 0 5 free free) { peer_of = λ u. None }) [] ≡ comes_to (target bob None NotOffered ∷ []) (Final causes.NoRoute)
  -- no answer, to a number, which is of the home domain and of no account; a caller cannot call it so
  pub to_a_number : outcome (call 0 5 (of_account (diverts (rule (Some event.NoAnswer) (Tel (codes "+49-30-1234") []) ∷ []) false) true 0) free)
      (record { at = 20100; how = NoReply } ∷ record { at = 20300; how = UserBusy 486 } ∷ [])
      ≡ comes_to (target bob None (Offered false) ∷ target number_at_home (by (Tel (codes "+49-30-1234") []) 408) (Offered false) ∷ []) (Final (causes.Relayed 486))
  pub number_of_nobody : outcome (to_nobody number_at_home (call 0 5 free free)) [] ≡ comes_to (target number_at_home None NotOffered ∷ []) (Final causes.NoAccount)
  -- waiting: offered as such below the capacity; network determined user busy at it
  pub waits : outcome (call 0 5 (of_account (record empty_sheet { waiting = Some 2 }) true 1) free) (record { at = 10; how = UserBusy 600 } ∷ [])
      ≡ comes_to (target bob None (Offered true) ∷ []) (Final (causes.Relayed 600))
  pub network_busy : outcome (call 0 5 (of_account (record empty_sheet { waiting = Some 2 }) true 2) free) []
      ≡ comes_to (target bob None NotOffered ∷ []) (Final causes.NetworkBusy)
  -- the opening: session privacy that is critical, and that is not; a user of no account; the caller's own barring; in this order
  pub critical : outcome (record (called_by_alice (of_account (bars_and_diverts bob) true 0) (call 0 5 free free)) { privacy = words false true true }) []
      ≡ comes_to [] (Final causes.Critical)
  pub not_critical : outcome (record (call 0 5 free free) { privacy = words false true false }) [] ≡ comes_to (target bob None (Offered false) ∷ []) Pending
  pub user_of_no_account : outcome (record (call 0 5 free free) { served = served_for None None false }) [] ≡ comes_to [] (Final causes.NoAccount)
  pub barred_at_opening : outcome (called_by_alice (of_account (bars_and_diverts bob) true 0) (call 0 5 free free)) [] ≡ comes_to [] (Final causes.OutgoingBarred)
  pub not_barred_at_opening : outcome (called_by_alice (of_account (bars_and_diverts vm) true 0) (call 0 5 free free)) [] ≡ comes_to (target bob None (Offered false) ∷ []) Pending
  -- one session case: served for the caller alone bob has no services; served for bob alone the next target has none
  pub caller_alone : outcome (record (call 0 5 (of_account (diverts (rule None vm ∷ []) false) false 3) free) { served = served_for (Some (number 1)) None false }) []
      ≡ comes_to (target bob None (Offered false) ∷ []) Pending
  pub target_alone : outcome (record
      (call 0 5 (of_account (diverts (rule None carol ∷ []) false) true 0) (of_account (diverts (rule None vm ∷ []) false) true 1)) {
        served = served_for None
            (Some (number 2)) false;
      }) []
      ≡ comes_to (target bob None NotOffered ∷ target carol (by carol 302) (Offered false) ∷ []) Pending
  -- the record at that time: that of bob when he was reached, though he has another one when the attempt ends; and that of carol when she was reached
  pub record_of_the_attempt : outcome
      (record (call 0 5 (of_account (diverts (rule (Some event.NoAnswer) carol ∷ []) false) true 0) free) {
        later_snapshots = λ k. stands free free
            (of_account (diverts (rule None vm ∷ []) false) true 0);
      }) (record { at = 20100; how = NoReply } ∷ [])
      ≡ comes_to (target bob None (Offered false) ∷ target carol (by carol 408) NotOffered ∷ target vm (by vm 302) (Offered false) ∷ []) Pending

-- the end of an attempt after which no next step is evaluated: a provisional response ends nothing, a 2xx answers, and the caller abandons the call; and what follows under any
-- record
pub record AreEnds : Type 0 where
  pub trying : end_by (Response 100 None) false ≡ None
  pub ringing : end_by (Response 180 None) false ≡ None
  pub progress : end_by (Response 183 None) true ≡ None
  pub provisional : end_by (Response 199 None) false ≡ None
  pub success : end_by (Response 200 None) false ≡ Some Answer
  pub last_success : end_by (Response 299 None) true ≡ Some Answer
  pub gave_up_ringing : end_by CallerGaveUp true ≡ Some Cancel
  pub gave_up : end_by CallerGaveUp false ≡ Some Cancel
  pub after_gave_up : (c : FactsView) → step_after_attempt c (Some (diverts (rule (Some event.NoAnswer) vm ∷ []) false)) Cancel ≡ EndRefuse causes.Cancelled
  pub unacknowledged_ringing : end_by PrackTime true ≡ Some Unacknowledged
  pub unacknowledged : end_by PrackTime false ≡ Some Unacknowledged
  pub after_unacknowledged : (c : FactsView) → step_after_attempt c (Some (diverts (rule (Some event.NoAnswer) vm ∷ []) false)) Unacknowledged ≡ EndRefuse causes.Unacknowledged
  pub after_answer : (c : FactsView) → step_after_attempt c None Answer ≡ EndAnswered
