-- What a server reads of its own state holds for whatever state it represents: so what it decides by that is what the definitions require.
use Rattle.std.proofs.Common.{◌≡◌, ℕ, List, ◌++◌, refl, sym, ap, ◌∙◌, subst, Option, Some, None}
use Rattle.std.specs.Option.{option_map}
use Rattle.mmtel_b2bua.specs.Operations as histories
use Rattle.mmtel_b2bua.specs.Operations.{CallsView, TableOp, config_of as site_in, table_after}
use Rattle.mmtel_b2bua.specs.Queries.{first_side, side_by_dialog}
use Rattle.mmtel_b2bua.specs.declared.entries.Entry.{Entry}
use Rattle.mmtel_directory.specs.declared.directories.Directory.{Directory}
use Rattle.mmtel_focus.specs.Operations as rooms
use Rattle.mmtel_focus.specs.Operations.{RoomsView}
use Rattle.mmtel_focus.specs.Queries.{room_and_seat_with_dialog}
use Rattle.mmtel_focus.specs.Conferences.{Conference}
use Rattle.mmtel_admission.specs.Dialogs.{name_in}
use Rattle.mmtel_admission.specs.declared.dialogs.DialogName as declared
use Rattle.mmtel_environment.specs.declared.events.Offer.{Offer}
use Rattle.mmtel_run_definitions.specs.Calls.{DialogName, dialog_name, find_dialog}
use Rattle.mmtel_mwi.specs.Boxes as mailboxes
use Rattle.mmtel_run_definitions.specs.Ownership.{DialogOwner, Owner, find_subscription, find_participant, in_subscription, in_call_or, in_conference_or, owner_of_key, owner_of_branch}
use Rattle.mmtel_run_definitions.specs.ShortRuns.{IsShort}
use Rattle.mmtel_run_definitions.specs.Transitions.{RunState, calls_in, conferences_in, dialog_owner_in, subscriptions_in}
use Rattle.mmtel_transaction.specs.declared.words.TKey.{TKey}
use Rattle.mmtel_trust.specs.ParsedMessage.{ParsedMessage}
use Rattle.mmtel_trust.specs.Peers.{Peers}
use Rattle.mmtel_trust.specs.declared.accounts.AccountIdentity.{AccountIdentity}
use Rattle.mmtel_types.specs.declared.numbers.CallNo.{CallNo}
use Rattle.mmtel_types.specs.declared.numbers.RoomNo.{RoomNo}
use Rattle.mmtel_types.specs.declared.numbers.SubNo.{SubNo}
use Rattle.mmtel_types.specs.declared.sides.Side.{Side}
use Rattle.mmtel_server.specs.Follows.{AddsOfferPrefix, Follows}
use Rattle.mmtel_server.specs.Representation.{IsPrefixBetween, Represents, RepresentsWithOffers, calls_of, conferences_of}
use Rattle.mmtel_server.specs.declared.servers.Server.{Server}

-- ---- an operation by what was read

module _ {A : Type 0} (x : A) (f : Directory → RunState → A) (op : A → Directory → List ℕ → RunState → RunState) (s : Server) (out : List Offer)
    (is : (d : Directory) (token : List ℕ) (w : RunState) → Represents d token s w → x ≡ f d w) where
  pub follows_so : (new : Server) (now : List Offer) → Follows s out new now (op x) → Follows s out new now (λ d token w. op (f d w) d token w)
  follows_so new now follows d token before w did short =
      let same = is d token w did.represents in
      subst (λ (y : A). RepresentsWithOffers d token before new now (op y d token w)) same
      (follows d token before w did (subst (λ (y : A). IsShort (op y d token w)) (sym same) short))

  pub breaks_so : (now : List Offer) → AddsOfferPrefix s out now (op x) → AddsOfferPrefix s out now (λ d token w. op (f d w) d token w)
  breaks_so now breaks d token before w did short =
      let same = is d token w did.represents in
      subst (λ (y : A). IsPrefixBetween out now (before ++ (op y d token w).offers)) same
      (breaks d token before w did (subst (λ (y : A). IsShort (op y d token w)) (sym same) short))

-- nothing is done where nothing is due
pub rests : (s : Server) (out : List Offer) → Follows s out s out (λ d token w. w)
rests s out d token before w did short = did

-- ---- what is read of the calls

pub of_calls : {A : Type 0} (s : Server) (x : A) (f : List Entry → A)
    → ((peers : Peers) (accounts : List AccountIdentity) (ops : List TableOp) → histories.Represents peers accounts s.calls ops → x ≡ f (table_after (site_in s.calls peers accounts) ops).entries)
    → (d : Directory) (token : List ℕ) (w : RunState) → Represents d token s w → x ≡ f (calls_in d w).entries
of_calls s x f says d token w have =
    let there : histories.Represents d.peers d.names.accounts (calls_of d w) w.call_ops = record { table = refl; works = refl } in
    says d.peers d.names.accounts w.call_ops (subst (λ (c : CallsView). histories.Represents d.peers d.names.accounts c w.call_ops) (sym have.calls) there)
    ∙ ap (λ (c : CallsView). f (table_after (site_in c d.peers d.names.accounts) w.call_ops).entries) have.calls

-- the owner of a request, by its branches or by its client transaction
pub sent_of : (s : Server) (x : Owner) (o p q r : Option (List ℕ)) → o ≡ p → q ≡ r → x ≡ owner_of_branch o q s.calls.table.entries s.boxes.table
    → (d : Directory) (token : List ℕ) (w : RunState) → Represents d token s w → x ≡ owner_of_branch p r (calls_in d w).entries (subscriptions_in w)
sent_of s x o p q r same alike is d token w have = is ∙ (λ i. owner_of_branch (same i) (alike i) (have.calls i).table.entries (have.boxes i).table)

pub key_of : (s : Server) (x : Owner) (key : TKey) → x ≡ owner_of_key key s.calls.table.entries
    → (d : Directory) (token : List ℕ) (w : RunState) → Represents d token s w → x ≡ owner_of_key key (calls_in d w).entries
key_of s x key is d token w have = is ∙ ap (λ (c : CallsView). owner_of_key key c.table.entries) have.calls

-- ---- what is read of the conferences

pub of_conferences : {A : Type 0} (s : Server) (x : A) (f : List Conference → A)
    → ((peers : Peers) (accounts : List AccountIdentity) (ops : List rooms.TableOp) → rooms.Represents peers accounts s.rooms ops → x ≡ f (rooms.table_after (rooms.config_of s.rooms peers accounts) ops).live)
    → (d : Directory) (token : List ℕ) (w : RunState) → Represents d token s w → x ≡ f (conferences_in d w).live
of_conferences s x f says d token w have =
    let there : rooms.Represents d.peers d.names.accounts (conferences_of d w) w.conference_ops = record { table = refl; works = refl } in
    says d.peers d.names.accounts w.conference_ops (subst (λ (c : RoomsView). rooms.Represents d.peers d.names.accounts c w.conference_ops) (sym have.rooms) there)
    ∙ ap (λ (c : RoomsView). f (rooms.table_after (rooms.config_of c d.peers d.names.accounts) w.conference_ops).live) have.rooms

-- ---- the owner of a dialog

-- of this name
abbrev pub owner_by_name : Option DialogName → Directory → RunState → Option DialogOwner
owner_by_name o d w = in_call_or (in_conference_or (in_subscription (find_subscription o (subscriptions_in w))) (find_participant o (conferences_in d w).live)) (find_dialog o (calls_in d w).entries)

pub found_subscription : (s : Server) (name : declared.DialogName) (call_id local remote : List ℕ) (x : Option SubNo) → call_id ≡ name.call_id → local ≡ name.local → remote ≡ name.remote
    → x ≡ mailboxes.number_with_dialog call_id local remote s.boxes.table
    → (d : Directory) (token : List ℕ) (w : RunState) → Represents d token s w → x ≡ find_subscription (Some (name_in name)) (subscriptions_in w)
found_subscription s name call_id local remote x ids locals remotes finds d token w have = finds ∙ (λ i. mailboxes.number_with_dialog (ids i) (locals i) (remotes i) (have.boxes i).table)

pub found_call : (s : Server) (name : declared.DialogName) (call_id local remote : List ℕ) (x : Option (CallNo × Side)) → call_id ≡ name.call_id → local ≡ name.local → remote ≡ name.remote
    → ((peers : Peers) (accounts : List AccountIdentity) (ops : List TableOp) → histories.Represents peers accounts s.calls ops
    → x ≡ first_side (side_by_dialog call_id local remote) (table_after (site_in s.calls peers accounts) ops).entries)
    → (d : Directory) (token : List ℕ) (w : RunState) → Represents d token s w → x ≡ find_dialog (Some (name_in name)) (calls_in d w).entries
found_call s name call_id local remote x ids locals remotes finds d token w have =
    of_calls s x (first_side (side_by_dialog call_id local remote)) finds d token w have
    ∙ (ap (λ (l : List ℕ). first_side (side_by_dialog l local remote) (calls_in d w).entries) ids
    ∙ (ap (λ (l : List ℕ). first_side (side_by_dialog name.call_id l remote) (calls_in d w).entries) locals
    ∙ ap (λ (l : List ℕ). first_side (side_by_dialog name.call_id name.local l) (calls_in d w).entries) remotes))

pub found_participant : (s : Server) (name : declared.DialogName) (call_id local remote : List ℕ) (x : Option (RoomNo × ℕ)) → call_id ≡ name.call_id → local ≡ name.local → remote ≡ name.remote
    → ((peers : Peers) (accounts : List AccountIdentity) (ops : List rooms.TableOp) → rooms.Represents peers accounts s.rooms ops
    → x ≡ room_and_seat_with_dialog call_id local remote (rooms.table_after (rooms.config_of s.rooms peers accounts) ops).live)
    → (d : Directory) (token : List ℕ) (w : RunState) → Represents d token s w → x ≡ find_participant (Some (name_in name)) (conferences_in d w).live
found_participant s name call_id local remote x ids locals remotes finds d token w have =
    of_conferences s x (room_and_seat_with_dialog call_id local remote) finds d token w have
    ∙ (ap (λ (l : List ℕ). room_and_seat_with_dialog l local remote (conferences_in d w).live) ids
    ∙ (ap (λ (l : List ℕ). room_and_seat_with_dialog name.call_id l remote (conferences_in d w).live) locals
    ∙ ap (λ (l : List ℕ). room_and_seat_with_dialog name.call_id name.local l (conferences_in d w).live) remotes))

-- the dialog that a message names
pub named_owner : (s : Server) (m : ParsedMessage) (o : Option declared.DialogName) (name : declared.DialogName) (x : Option DialogOwner)
    → option_map name_in o ≡ dialog_name m → o ≡ Some name
    → ((d : Directory) (token : List ℕ) (w : RunState) → Represents d token s w → x ≡ owner_by_name (Some (name_in name)) d w)
    → (d : Directory) (token : List ℕ) (w : RunState) → Represents d token s w → x ≡ dialog_owner_in d m w
named_owner s m o name x reads some holds d token w have = holds d token w have ∙ ap (λ (n : Option DialogName). owner_by_name n d w) (sym (ap (option_map name_in) some) ∙ reads)

pub named_nobody : (s : Server) (m : ParsedMessage) (o : Option declared.DialogName) → option_map name_in o ≡ dialog_name m → o ≡ None
    → (d : Directory) (token : List ℕ) (w : RunState) → Represents d token s w → None ≡ dialog_owner_in d m w
named_nobody s m o reads none d token w have = ap (λ (n : Option DialogName). owner_by_name n d w) (sym (ap (option_map name_in) none) ∙ reads)
