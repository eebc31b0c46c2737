-- A REFER of a participant with Replaces keeps two states indistinguishable: the same leg, but for private places, is taken out of a call and becomes a participant, and the call ends; or the same status is notified.
use Rattle.std.proofs.Common.{◌≡◌, ℕ, Bool, true, false, List, ◌∷◌, refl, sym, ap, Option, Some, None, Result, Ok, Err, subst}
use Rattle.std.specs.Option.{option_map}
use Rattle.mmtel_b2bua.specs.Operations.{Releases, Restores}
use Rattle.mmtel_b2bua.specs.Detaching.{released_leg_of}
use Rattle.mmtel_b2bua.specs.Queries.{party}
use Rattle.mmtel_b2bua_theorems.specs.Noninterference.{TablesStayEquivalent}
use Rattle.mmtel_call_theorems.specs.Noninterference.PublicCall.{public_released}
use Rattle.mmtel_directory.specs.declared.directories.Directory.{Directory}
use Rattle.mmtel_focus.specs.Operations as rooms
use Rattle.mmtel_focus.specs.Table.{access}
use Rattle.mmtel_focus.specs.declared.faults.RoomFault.{RoomFault}
use Rattle.mmtel_focus.specs.declared.referrals.Replaces.{Replaces}
use Rattle.mmtel_focus_theorems.specs.Inputs as both
use Rattle.mmtel_leg.specs.declared.legs.Released.{Released}
use Rattle.mmtel_sheet_values.specs.declared.values.Sheet.{Sheet}
use Rattle.mmtel_transaction.specs.Equivalence.{TextsDecideNothing}
use Rattle.mmtel_transaction.specs.Operations.{TransactionOp}
use Rattle.mmtel_transaction.specs.Tokens.{TokensView}
use Rattle.mmtel_transaction.specs.declared.words.TKey.{TKey}
use Rattle.mmtel_types.specs.Sides.{other_side}
use Rattle.mmtel_types.specs.declared.numbers.Account.{Account}
use Rattle.mmtel_types.specs.declared.numbers.CallNo.{CallNo}
use Rattle.mmtel_types.specs.declared.numbers.Peer.{Peer}
use Rattle.mmtel_types.specs.declared.numbers.RoomNo.{RoomNo}
use Rattle.mmtel_types.specs.declared.sides.Side.{Side}
use Rattle.mmtel_run_definitions.specs.Equivalence.{trusts}
use Rattle.mmtel_run_definitions.specs.Calls.{DialogName, find_dialog, name_by}
use Rattle.mmtel_run_definitions.specs.InForce.{CallsSeeWhatIsInForce}
use Rattle.mmtel_run_definitions.specs.Ownership.{account_at, account_of_side, is_of_peer, replaced_side}
use Rattle.mmtel_run_definitions.specs.Transitions.{RunState, adoption_op, after_adoption_if, after_conference_op, after_detach, after_refer_notify, after_replaces}
use Rattle.mmtel_run_definitions.specs.Transitions.{after_replacing, after_replacing_named, after_replacing_side, calls_in, conferences_in, tokens_now, with_call_op}
use Rattle.mmtel_run_theorems.specs.EquivalentStates.{EquivalentConfigs}
use Rattle.mmtel_run_theorems.proofs.EquivalentOperations.{TableTheorems, after_call_end-equivalent, after_conference_op-equivalent, after_refer_notify-equivalent}
use Rattle.mmtel_run_theorems.proofs.EquivalentOperations.{bare, releasing-equivalent, restoring-equivalent, tables_equivalent, tokens_same}
use Rattle.mmtel_run_theorems.proofs.EquivalentEmits.{Knows, Pair}
use Rattle.mmtel_run_theorems.proofs.ActionPrefixes.{finishing_before, replaced_before}

module _ (law : TextsDecideNothing) (tables : TablesStayEquivalent) (told : CallsSeeWhatIsInForce) (laws : TableTheorems) (records : List Sheet) (d e : Directory) (token : List ℕ) (keys : TKey → Bool)
    (sites : EquivalentConfigs records d e)
    (K : List TransactionOp → Type 0) (older : (x : TransactionOp) (h : List TransactionOp) → K (x ∷ h) → K h) (knows : (h : List TransactionOp) → K h → Knows d keys h) where
  abbrev Two : RunState → RunState → Type 0
  Two v w = Pair records d e keys v w

  abbrev known : Peer → Bool
  known = trusts d

  -- ---- the tables

  pub find_same : (o : Option DialogName) (v w : RunState) → Two v w → find_dialog o (calls_in d v).entries ≡ find_dialog o (calls_in e w).entries
  find_same None v w a = refl
  find_same (Some name) v w a = laws.answers.named records known name.call_id name.local name.remote (bare (calls_in d v)) (bare (calls_in e w))
      (tables_equivalent law tables told laws records d e token keys sites K older knows v w a)

  party_same : (number : ℕ) (side : Side) (v w : RunState) → Two v w → party number side (calls_in d v).entries ≡ party number side (calls_in e w).entries
  party_same number side v w a = laws.answers.sides records known number side (bare (calls_in d v)) (bare (calls_in e w)) (tables_equivalent law tables told laws records d e token keys sites K older knows v w a)

  pub access_same : (room : RoomNo) (v w : RunState) → Two v w → access room.0 (conferences_in d v).live ≡ access room.0 (conferences_in e w).live
  access_same room v w a = laws.participants.takes known room.0 (conferences_in d v) (conferences_in e w) a.equivalent.conferences

  -- ---- a leg is taken out of its call

  module _ (at : ℕ) (room : RoomNo) (seat : ℕ) where
    abbrev adopted_by : (leg : Released) → Option Account → TokensView → RunState → RunState
    adopted_by leg account tokens u = after_conference_op d at (rooms.Adopts room.0 (record { at = at; tokens = tokens; leg = leg; account = account; by = seat })) u

    adopting-alike : (call : CallNo) (one other : Released) (account : Option Account) (r : Result ℕ RoomFault) (v w : RunState) →
        public_released known one ≡ public_released known other → Two v w
        → K (after_adoption_if e token at room seat call other account r w).actions → Two (after_adoption_if d token at room seat call one account r v) (after_adoption_if e token at room seat call other account r w)
    adopting-alike call one other account (Ok place) v w same a k =
        let x : rooms.TableOp = adoption_op token at room seat one account v in
        let y : rooms.TableOp = adoption_op token at room seat other account w in
        let kk : K (after_conference_op e at y w).actions = finishing_before K older e token at call (after_conference_op e at y w) k in
        let tokens : TokensView = tokens_now token w in
        let has : Two (after_conference_op d at x v) (after_conference_op e at y w) =
        subst (λ (t : TokensView). Two (adopted_by one account t v) (after_conference_op e at y w)) (sym (tokens_same law tables told laws records d e token keys sites K older knows v w a))
        (after_conference_op-equivalent law tables told laws records d e token keys sites K older knows at
        (both.Adopts room.0 (record { at = at; tokens = tokens; legs = record { one = one; other = other }; account = account; by = seat })) v w a (record { done = same; lookups = tt }) kk) in
        after_call_end-equivalent law tables told laws records d e token keys sites K older knows at call (after_conference_op d at x v) (after_conference_op e at y w) has k
    adopting-alike call one other account (Err fault) v w same a k =
        after_refer_notify-equivalent law tables told laws records d e token keys sites K older knows at room seat 503 (with_call_op (Restores call.0 one) v) (with_call_op (Restores call.0 other) w)
        (restoring-equivalent law tables told laws records d e token keys sites K older knows call.0 one other v w same a) k

    one_released : (one other : Released) → Some (public_released known one) ≡ Some (public_released known other) → public_released known one ≡ public_released known other
    one_released one other same = cc

    taken_out-alike : (call : CallNo) (side : Side) (account : Option Account) (one other : Option Released) (v w : RunState) →
        option_map (public_released known) one ≡ option_map (public_released known) other → Two v w
        → K (after_detach e token at room seat call side account other w).actions → Two (after_detach d token at room seat call side account one v) (after_detach e token at room seat call side account other w)
    taken_out-alike call side account None None v w same a k = after_refer_notify-equivalent law tables told laws records d e token keys sites K older knows at room seat 491 v w a k
    taken_out-alike call side account None (Some other) v w same a k = absurd cc
    taken_out-alike call side account (Some one) None v w same a k = absurd cc
    taken_out-alike call side account (Some one) (Some other) v w same a k =
        subst (λ (r : Result ℕ RoomFault). Two (after_adoption_if d token at room seat call one account r (with_call_op (Releases call.0 side) v)) (after_detach e token at room seat call side account (Some other) w))
        (sym (access_same room v w a))
        (adopting-alike call one other account (access room.0 (conferences_in e w).live) (with_call_op (Releases call.0 side) v) (with_call_op (Releases call.0 side) w) (one_released one other same)
        (releasing-equivalent law tables told laws records d e token keys sites K older knows call.0 side v w a) k)

    -- ---- the leg across from the one that is named

    replaced_with-alike : (call : CallNo) (side : Side) (is_its : Bool) (v w : RunState) → Two v w → K (after_replacing_side e token at room seat call side is_its w).actions
        → Two (after_replacing_side d token at room seat call side is_its v) (after_replacing_side e token at room seat call side is_its w)
    replaced_with-alike call side false v w a k = after_refer_notify-equivalent law tables told laws records d e token keys sites K older knows at room seat 481 v w a k
    replaced_with-alike call side true v w a k =
        let across : Side = other_side side in
        subst (λ (account : Option Account). Two (after_detach d token at room seat call across account (released_leg_of call.0 across (calls_in d v).entries) v)
        (after_replacing_side e token at room seat call side true w))
        (sym (ap account_at (party_same call.0 across v w a)))
        (taken_out-alike call across (account_of_side call across (calls_in e w).entries) (released_leg_of call.0 across (calls_in d v).entries) (released_leg_of call.0 across (calls_in e w).entries) v w
        (tables.legs records known call.0 across (bare (calls_in d v)) (bare (calls_in e w)) (tables_equivalent law tables told laws records d e token keys sites K older knows v w a)) a k)

    replaced_by-alike : (peer : Peer) (o : Option (CallNo × Side)) (v w : RunState) → Two v w → K (after_replacing_named e token at peer room seat o w).actions →
        Two (after_replacing_named d token at peer room seat o v) (after_replacing_named e token at peer room seat o w)
    replaced_by-alike peer None v w a k = after_refer_notify-equivalent law tables told laws records d e token keys sites K older knows at room seat 481 v w a k
    replaced_by-alike peer (Some named) v w a k =
        subst (λ (p : Option (Peer × Option Account)). Two (after_replacing_side d token at room seat named.0 named.1 (is_of_peer peer p) v) (after_replacing_named e token at peer room seat (Some named) w))
        (sym (party_same named.0.0 named.1 v w a))
        (replaced_with-alike named.0 named.1 (is_of_peer peer (party named.0.0 named.1 (calls_in e w).entries)) v w a k)

    replaced-alike : (peer : Peer) (replaces : Replaces) (v w : RunState) → Two v w → K (after_replacing e token at peer room seat replaces w).actions →
        Two (after_replacing d token at peer room seat replaces v) (after_replacing e token at peer room seat replaces w)
    replaced-alike peer replaces v w a k =
        subst (λ (o : Option (CallNo × Side)). Two (after_replacing_named d token at peer room seat o v) (after_replacing e token at peer room seat replaces w))
        (sym (find_same (name_by (Some replaces.call_id) replaces.to_tag replaces.from_tag) v w a))
        (replaced_by-alike peer (replaced_side replaces (calls_in e w).entries) v w a k)

    pub replacing-alike : (peer : Peer) (o : Option Replaces) (v w : RunState) → Two v w → K (after_replaces e token at peer room seat o w).actions →
        Two (after_replaces d token at peer room seat o v) (after_replaces e token at peer room seat o w)
    replacing-alike peer None v w a k = a
    replacing-alike peer (Some replaces) v w a k =
        replaced-alike peer replaces (after_refer_notify d token at room seat 100 v) (after_refer_notify e token at room seat 100 w)
        (after_refer_notify-equivalent law tables told laws records d e token keys sites K older knows at room seat 100 v w a
        (replaced_before K older e token at peer room seat replaces (after_refer_notify e token at room seat 100 w) k)) k
