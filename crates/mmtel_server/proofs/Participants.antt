-- Who joins a conference, and the effect of a REFER with Replaces: what the code reads and does, one after another, is what the definitions require.
use Rattle.std.proofs.Common.{◌≡◌, ◌+◌, ◌<◌, ◌^◌, ◌++◌, ℕ, List, append-nil, refl, sym, ap, ◌∙◌, subst, Bool, true, false, Option, Some, None, Result, Ok, Err}
use Rattle.std.specs.Prelude.{◌&&◌, if◌then◌else◌, codes, IsOk}
use Rattle.std.proofs.lemmas.Bool.{false≢true}
use Rattle.mmtel_compose.specs.ReceivedMessages.{MessageView}
use Rattle.mmtel_b2bua.specs.Operations.{CallsView, Restores}
use Rattle.mmtel_b2bua.specs.Detaching.{released_leg_of}
use Rattle.mmtel_b2bua.specs.Queries.{party}
use Rattle.mmtel_directory.specs.declared.directories.Directory.{Directory}
use Rattle.mmtel_focus.specs.Operations.{JoinRequest, Joins, Opens, RoomsView, TableOp, entry_op, join_request}
use Rattle.mmtel_focus.specs.Joining.{after_join}
use Rattle.mmtel_focus.specs.Referrals.{referral_in}
use Rattle.mmtel_focus.specs.Table.{access, is_table_full}
use Rattle.mmtel_focus.specs.declared.faults.RoomFault.{RoomFault}
use Rattle.mmtel_focus.specs.declared.referrals.Replaces.{Replaces}
use Rattle.mmtel_focus.specs.declared.signals.Joining.{Joining}
use Rattle.mmtel_focus.specs.declared.signals.Joining.TheVariants as joining
use Rattle.mmtel_focus.specs.declared.signals.RoomSignal.TheVariants as of_room
use Rattle.mmtel_leg.specs.Legs.{Leg}
use Rattle.mmtel_leg.specs.declared.legs.Released.{Released}
use Rattle.mmtel_leg.specs.declared.legs.Released.TheVariants as released
use Rattle.mmtel_message.specs.Faults.{is_method}
use Rattle.mmtel_environment.specs.declared.events.Offer.{Offer}
use Rattle.mmtel_run_definitions.specs.Ownership.{account_at, account_of_side, is_accepted, is_of_peer, leg_by, replaced_side, replacement_in, replaces_by, status_of_fault}
use Rattle.mmtel_run_definitions.specs.ShortRuns.{IsShort, tokens_of_op}
use Rattle.mmtel_run_definitions.specs.Transitions.{RunState, adoption_op, after_adoption_if, after_call_end, after_conference_op, after_conference_signal, after_detach, after_join_if, after_newcomer_refusal}
use Rattle.mmtel_run_definitions.specs.Transitions.{after_opening_if, after_participant_request, after_refer_notify, after_replaces, after_replacing, after_replacing_named, after_replacing_side, calls_in}
use Rattle.mmtel_run_definitions.specs.Transitions.{conference_signal_op, conferences_in, next_tag, output_of_conference_op, tokens_now, with_call_op, with_conference_output, with_draws, with_emits}
use Rattle.mmtel_base.specs.Numbers.{token_text}
use Rattle.mmtel_transaction.specs.Tokens.{TokensView}
use Rattle.mmtel_transaction.specs.declared.words.Emit.{Emit}
use Rattle.mmtel_transaction.specs.declared.words.TKey.{TKey}
use Rattle.mmtel_trust.specs.ParsedMessage.{ParsedMessage, caller_account}
use Rattle.mmtel_types.specs.declared.numbers.Account.{Account}
use Rattle.mmtel_types.specs.declared.numbers.CallNo.{CallNo}
use Rattle.mmtel_types.specs.declared.numbers.Peer.{Peer}
use Rattle.mmtel_types.specs.declared.numbers.RoomNo.{RoomNo}
use Rattle.mmtel_types.specs.declared.sides.Side.{Side}
use Rattle.mmtel_server.proofs.Owners.{breaks_so, follows_so}
use Rattle.mmtel_server.proofs.Operations.{done_breaks, done_follows, draw_is_small, drew}
use Rattle.mmtel_server.proofs.Grows.{Grows, draws, followed, grows_on, grows_on_call_end, grows_with_call_op, grows_with_conference_op}
use Rattle.mmtel_server.proofs.Grows.{grows_with_conference_output, grows_with_emits, offer_prefix_added, prefix_of, prefix_on, same, seats, short_of}
use Rattle.mmtel_server.proofs.ConferenceOperations.{Closes}
use Rattle.mmtel_server.proofs.ConferenceTimers as words
use Rattle.mmtel_server.specs.Follows.{AddsOfferPrefix, ConferencesOpen, ConferencesPerform, Follows, NumbersNeverFall, after_conference_draw, after_conference_operation}
use Rattle.mmtel_server.specs.Representation.{IsPrefixBetween, Represents, RepresentsWithOffers}
use Rattle.mmtel_server.specs.declared.servers.Server.{Server}

-- ---- operations on conferences

-- whoever opens a conference leaves none
pub opens_closes : (c : JoinRequest) → Closes (Opens c)
unfolding after_join
opens_closes c config table = sym (append-nil table.rows)

pub enters_closes : (room at : ℕ) (leg : Released) (account : Option Account) (how : Joining) (t : TokensView) → Closes (entry_op room at t leg account how)
enters_closes room at leg account (joining.Invited key invite) t config table = refl
enters_closes room at leg account (joining.Referred by) t config table = refl

pub enters_own : (room at : ℕ) (leg : Released) (account : Option Account) (how : Joining) (t : TokensView) → tokens_of_op (entry_op room at t leg account how) ≡ t
enters_own room at leg account (joining.Invited key invite) t = refl
enters_own room at leg account (joining.Referred by) t = refl

-- ---- more is done with each of them

module _ (law : NumbersNeverFall) (d : Directory) (token : List ℕ) (at : ℕ) where
  pub turns_away_grows : (key : TKey) (s : MessageView) (tag : List ℕ) (code : ℕ) (w : RunState) → Grows w (after_newcomer_refusal d at key s tag code w)
  turns_away_grows = words.turns_away Grows grows_on d token at same (draws 1) (grows_with_emits at) (grows_with_conference_output at) (grows_with_conference_op law d at) grows_with_call_op
      (grows_on_call_end law d token at)

  pub room_opens_grows : (key : TKey) (s : MessageView) (tag : List ℕ) (full : Bool) (w : RunState) → Grows w (after_opening_if d at key s tag full w)
  room_opens_grows = words.room_opens Grows grows_on d token at same (draws 1) (grows_with_emits at) (grows_with_conference_output at) (grows_with_conference_op law d at) grows_with_call_op
      (grows_on_call_end law d token at)

  pub room_joins_grows : (key : TKey) (s : MessageView) (room : RoomNo) (tag : List ℕ) (found : Result ℕ RoomFault) (w : RunState) → Grows w (after_join_if d token at key s room tag found w)
  room_joins_grows = words.room_joins Grows grows_on d token at same (draws 1) (grows_with_emits at) (grows_with_conference_output at) (grows_with_conference_op law d at) grows_with_call_op
      (grows_on_call_end law d token at)

  pub adopts_grows : (room : RoomNo) (seat : ℕ) (call : CallNo) (leg : Released) (account : Option Account) (found : Result ℕ RoomFault) (w : RunState)
      → Grows w (after_adoption_if d token at room seat call leg account found w)
  adopts_grows = words.adopts Grows grows_on d token at same (draws 1) (grows_with_emits at) (grows_with_conference_output at) (grows_with_conference_op law d at) grows_with_call_op (grows_on_call_end law d token at)

  pub takes_out_grows : (room : RoomNo) (seat : ℕ) (call : CallNo) (side : Side) (account : Option Account) (leg : Option Released) (w : RunState)
      → Grows w (after_detach d token at room seat call side account leg w)
  takes_out_grows = words.takes_out Grows grows_on d token at same (draws 1) (grows_with_emits at) (grows_with_conference_output at) (grows_with_conference_op law d at) grows_with_call_op
      (grows_on_call_end law d token at)

  pub replaces_grows : (peer : Peer) (room : RoomNo) (seat : ℕ) (x : Replaces) (w : RunState) → Grows w (after_replacing d token at peer room seat x w)
  replaces_grows = words.replaces Grows grows_on d token at same (draws 1) (grows_with_emits at) (grows_with_conference_output at) (grows_with_conference_op law d at) grows_with_call_op (grows_on_call_end law d token at)

  pub replaces_asked_grows : (peer : Peer) (room : RoomNo) (seat : ℕ) (x : Option Replaces) (w : RunState) → Grows w (after_replaces d token at peer room seat x w)
  replaces_asked_grows = words.requested_replaces Grows grows_on d token at same (draws 1) (grows_with_emits at) (grows_with_conference_output at)
      (grows_with_conference_op law d at) grows_with_call_op (grows_on_call_end law d token at)

-- ---- a tag is drawn first

module _ (s : Server) (t : TokensView) (tag : List ℕ) (out : List Offer)
    (drawn : s.tokens.drawn < 2 ^ 60 → t ≡ record { token = s.tokens.token; drawn = s.tokens.drawn + 1 })
    (tags : s.tokens.drawn < 2 ^ 60 → tag ≡ token_text s.tokens.token (s.tokens.drawn + 1))
    (g : List ℕ → Directory → List ℕ → RunState → RunState) (grows : (x : List ℕ) (d : Directory) (token : List ℕ) (w : RunState) → Grows w (g x d token w)) where
  module _ (d : Directory) (token : List ℕ) (before : List Offer) (w : RunState) (did : RepresentsWithOffers d token before s out w) (short : IsShort (g (next_tag token w) d token (with_draws 1 w))) where
    small : s.tokens.drawn < 2 ^ 60
    small =
        let all : RunState = g (next_tag token w) d token (with_draws 1 w) in
        draw_is_small d token before s out w did (short_of w all (grows_on w (with_draws 1 w) all (draws 1 w) (grows (next_tag token w) d token (with_draws 1 w))) short)

    is_next : tag ≡ next_tag token w
    is_next = tags small ∙ ap (λ (x : TokensView). token_text x.token (x.drawn + 1)) did.represents.tokens

    there : RepresentsWithOffers d token before (record s { tokens = t }) out (with_draws 1 w)
    there = drew d token before s t out w 1 did (drawn small)

    few : IsShort (g tag d token (with_draws 1 w))
    few = subst (λ (x : List ℕ). IsShort (g x d token (with_draws 1 w))) (sym is_next) short

  pub follows_tagged : (new : Server) (now : List Offer) → Follows (record s { tokens = t }) out new now (g tag) → Follows s out new now (λ d token w. g (next_tag token w) d token (with_draws 1 w))
  follows_tagged new now follows d token before w did short =
      subst (λ (x : List ℕ). RepresentsWithOffers d token before new now (g x d token (with_draws 1 w))) (is_next d token before w did short)
      (follows d token before (with_draws 1 w) (there d token before w did short) (few d token before w did short))

  pub breaks_tagged : (now : List Offer) → AddsOfferPrefix (record s { tokens = t }) out now (g tag) → AddsOfferPrefix s out now (λ d token w. g (next_tag token w) d token (with_draws 1 w))
  breaks_tagged now breaks d token before w did short =
      subst (λ (x : List ℕ). IsPrefixBetween out now (before ++ (g x d token (with_draws 1 w)).offers)) (is_next d token before w did short)
      (breaks d token before (with_draws 1 w) (there d token before w did short) (few d token before w did short))

-- ---- what was read decides

-- a property of operations: where it holds for one that uses a value which is read of the server, it holds for the one that computes the value from the represented state
abbrev pub Reads : Server → ((Directory → List ℕ → RunState → RunState) → Type 0) → Type 1
Reads s P =
    (A : Type 0) (x : A) (f : Directory → RunState → A) (op : A → Directory → List ℕ → RunState → RunState) →
    ((d : Directory) (token : List ℕ) (w : RunState) → Represents d token s w → x ≡ f d w) → P (op x) → P (λ d token w. op (f d w) d token w)

pub follows_reads : (s : Server) (out : List Offer) (new : Server) (now : List Offer) → Reads s (Follows s out new now)
follows_reads s out new now A x f op is follows = follows_so x f op s out is new now follows

pub breaks_reads : (s : Server) (out now : List Offer) → Reads s (AddsOfferPrefix s out now)
breaks_reads s out now A x f op is breaks = breaks_so x f op s out is now breaks

module _ (s : Server) (P : (Directory → List ℕ → RunState → RunState) → Type 0) (reads : Reads s P) (at : ℕ) where
  -- the party that joins by the factory
  module _ (key : TKey) (said : MessageView) (tag : List ℕ) where
    is_full : (d : Directory) (token : List ℕ) (w : RunState) → Represents d token s w → is_table_full s.rooms.table.live ≡ is_table_full (conferences_in d w).live
    is_full d token w have = ap (λ (r : RoomsView). is_table_full r.table.live) have.rooms

    is_callers : (account : Option Account) → account ≡ caller_account s.directory.names.accounts said.parsed
        → (d : Directory) (token : List ℕ) (w : RunState) → Represents d token s w → account ≡ caller_account d.names.accounts said.parsed
    is_callers account is d token w have = is ∙ ap (λ (x : Directory). caller_account x.names.accounts said.parsed) have.same_directory

    abbrev opened_as : Option Account → Directory → List ℕ → RunState → RunState
    opened_as a d token w = let op : TableOp = Opens (join_request at (leg_by tag said) a key said) in with_conference_output at op (output_of_conference_op d op w) w

    pub opened_so : (leg : Leg) (account : Option Account) → leg ≡ leg_by tag said → account ≡ caller_account s.directory.names.accounts said.parsed → is_table_full s.rooms.table.live ≡ false
        → P (λ d token w. with_conference_output at (Opens (join_request at leg account key said)) (output_of_conference_op d (Opens (join_request at leg account key said)) w) w)
        → P (λ d token w. after_opening_if d at key said tag (is_table_full (conferences_in d w).live) w)
    opened_so leg account is_leg is_account free p =
        let mine : P (opened_as account) =
        subst (λ (l : Leg). P (λ d token w. with_conference_output at (Opens (join_request at l account key said)) (output_of_conference_op d (Opens (join_request at l account key said)) w) w)) is_leg p in
        let theirs : P (λ d token w. after_opening_if d at key said tag false w) = reads (Option Account) account (λ d w. caller_account d.names.accounts said.parsed) opened_as (is_callers account is_account) mine in
        reads Bool (is_table_full s.rooms.table.live) (λ d w. is_table_full (conferences_in d w).live) (λ b d token w. after_opening_if d at key said tag b w) is_full
        (subst (λ (b : Bool). P (λ d token w. after_opening_if d at key said tag b w)) (sym free) theirs)

    pub unopened_so : is_table_full s.rooms.table.live ≡ true → P (λ d token w. after_newcomer_refusal d at key said tag 503 w) →
        P (λ d token w. after_opening_if d at key said tag (is_table_full (conferences_in d w).live) w)
    unopened_so full p =
        reads Bool (is_table_full s.rooms.table.live) (λ d w. is_table_full (conferences_in d w).live) (λ b d token w. after_opening_if d at key said tag b w) is_full
        (subst (λ (b : Bool). P (λ d token w. after_opening_if d at key said tag b w)) (sym full) p)

  -- ---- whether a conference can take another participant

  module _ (room : RoomNo) where
    is_found : (d : Directory) (token : List ℕ) (w : RunState) → Represents d token s w → access room.0 s.rooms.table.live ≡ access room.0 (conferences_in d w).live
    is_found d token w have = ap (λ (r : RoomsView). access room.0 r.table.live) have.rooms

    found_so : (g : Result ℕ RoomFault → Directory → List ℕ → RunState → RunState) (x : Result ℕ RoomFault) → access room.0 s.rooms.table.live ≡ x → P (g x) →
        P (λ d token w. g (access room.0 (conferences_in d w).live) d token w)
    found_so g x is p = reads (Result ℕ RoomFault) (access room.0 s.rooms.table.live) (λ d w. access room.0 (conferences_in d w).live) g is_found (subst (λ (y : Result ℕ RoomFault). P (g y)) (sym is) p)

    -- the party that joins it
    module _ (key : TKey) (said : MessageView) (tag : List ℕ) where
      abbrev joined_as : Option Account → Directory → List ℕ → RunState → RunState
      joined_as a d token w =
          after_conference_op d at (Joins room.0 (record { at = at; tokens = tokens_now token w; leg = released.Caller (leg_by tag said); account = a; key = key; invite = said })) w

      joined_in : (x : Result ℕ RoomFault) → IsOk x → (account : Option Account) → account ≡ caller_account s.directory.names.accounts said.parsed
          → P (joined_as account) → P (λ d token w. after_join_if d token at key said room tag x w)
      joined_in (Ok place) ok account is p = reads (Option Account) account (λ d w. caller_account d.names.accounts said.parsed) joined_as (is_callers key said tag account is) p
      joined_in (Err fault) ok account is p = absurd (false≢true ok)

      pub joined_so : (leg : Leg) (account : Option Account) → leg ≡ leg_by tag said → account ≡ caller_account s.directory.names.accounts said.parsed → IsOk (access room.0 s.rooms.table.live)
          → P (λ d token w. after_conference_op d at (Joins room.0 (record { at = at; tokens = tokens_now token w; leg = released.Caller leg; account = account; key = key; invite = said })) w)
          → P (λ d token w. after_join_if d token at key said room tag (access room.0 (conferences_in d w).live) w)
      joined_so leg account is_leg is_account free p =
          found_so (λ x d token w. after_join_if d token at key said room tag x w) (access room.0 s.rooms.table.live) refl
          (joined_in (access room.0 s.rooms.table.live) free account is_account
          (subst (λ (l : Leg). P (λ d token w. after_conference_op d at (Joins room.0 (record { at = at; tokens = tokens_now token w; leg = released.Caller l; account = account; key = key; invite = said })) w))
          is_leg p))

      pub unjoined_so : (fault : RoomFault) → access room.0 s.rooms.table.live ≡ Err fault → P (λ d token w. after_newcomer_refusal d at key said tag (status_of_fault fault) w)
          → P (λ d token w. after_join_if d token at key said room tag (access room.0 (conferences_in d w).live) w)
      unjoined_so fault is p = found_so (λ x d token w. after_join_if d token at key said room tag x w) (Err fault) is p

    -- the leg that is taken out of a call
    module _ (seat : ℕ) (call : CallNo) (leg : Released) (account : Option Account) where
      adopted_in : (x : Result ℕ RoomFault) → IsOk x → P (λ d token w. after_call_end d token at call (after_conference_op d at (adoption_op token at room seat leg account w) w))
          → P (λ d token w. after_adoption_if d token at room seat call leg account x w)
      adopted_in (Ok place) ok p = p
      adopted_in (Err fault) ok p = absurd (false≢true ok)

      pub adopted_so : IsOk (access room.0 s.rooms.table.live) → P (λ d token w. after_call_end d token at call (after_conference_op d at (adoption_op token at room seat leg account w) w))
          → P (λ d token w. after_adoption_if d token at room seat call leg account (access room.0 (conferences_in d w).live) w)
      adopted_so free p =
          found_so (λ x d token w. after_adoption_if d token at room seat call leg account x w) (access room.0 s.rooms.table.live) refl (adopted_in (access room.0 s.rooms.table.live) free p)

      pub unadopted_so : (fault : RoomFault) → access room.0 s.rooms.table.live ≡ Err fault → P (λ d token w. after_refer_notify d token at room seat 503 (with_call_op (Restores call.0 leg) w))
          → P (λ d token w. after_adoption_if d token at room seat call leg account (access room.0 (conferences_in d w).live) w)
      unadopted_so fault is p = found_so (λ x d token w. after_adoption_if d token at room seat call leg account x w) (Err fault) is p

  -- ---- the leg that is requested

  module _ (room : RoomNo) (seat : ℕ) where
    pub taken_so : (call : CallNo) (side : Side) (known : Option (Peer × Option Account)) (account : Option Account) (leg : Option Released) → account ≡ account_at known
        → ((d : Directory) (token : List ℕ) (w : RunState) → Represents d token s w → known ≡ party call.0 side (calls_in d w).entries) → released_leg_of call.0 side s.calls.table.entries ≡ leg
        → P (λ d token w. after_detach d token at room seat call side account leg w)
        → P (λ d token w. after_detach d token at room seat call side (account_of_side call side (calls_in d w).entries) (released_leg_of call.0 side (calls_in d w).entries) w)
    taken_so call side known account leg is_account is_known is_leg p =
        reads (Option Account × Option Released) (account, leg) (λ d w. (account_of_side call side (calls_in d w).entries, released_leg_of call.0 side (calls_in d w).entries))
        (λ x d token w. after_detach d token at room seat call side x.0 x.1 w)
        (λ d token w have i. (
          (is_account ∙ ap account_at (is_known d token w have)) i,
          (sym is_leg ∙ ap (λ (c : CallsView). released_leg_of call.0 side c.table.entries) have.calls) i,
        ))
        p

    pub side_so : (peer : Peer) (call : CallNo) (side : Side) (known : Option (Peer × Option Account)) (its : Bool) → its ≡ is_of_peer peer known
        → ((d : Directory) (token : List ℕ) (w : RunState) → Represents d token s w → known ≡ party call.0 side (calls_in d w).entries)
        → P (λ d token w. after_replacing_side d token at room seat call side its w) → P (λ d token w. after_replacing_named d token at peer room seat (Some (call, side)) w)
    side_so peer call side known its is is_known p =
        reads Bool its (λ d w. is_of_peer peer (party call.0 side (calls_in d w).entries)) (λ b d token w. after_replacing_side d token at room seat call side b w)
        (λ d token w have. is ∙ ap (is_of_peer peer) (is_known d token w have)) p

    pub dialog_so : (peer : Peer) (replaces : Replaces) (named : Option (CallNo × Side))
        → ((d : Directory) (token : List ℕ) (w : RunState) → Represents d token s w → named ≡ replaced_side replaces (calls_in d w).entries)
        → P (λ d token w. after_replacing_named d token at peer room seat named w) → P (λ d token w. after_replacing d token at peer room seat replaces w)
    dialog_so peer replaces named is p = reads (Option (CallNo × Side)) named (λ d w. replaced_side replaces (calls_in d w).entries) (λ o d token w. after_replacing_named d token at peer room seat o w) is p

-- ---- an operation on the conferences, and then its commands

module _ (op : Directory → List ℕ → RunState → TableOp) (old mid : Server) (emits given : List Emit) (at : ℕ) (out now : List Offer) (is : given ≡ emits) where
  pub housed_follows : ConferencesPerform old mid op emits → (new : Server) → Follows mid out new now (λ d token. with_emits at given) → Follows old out new now (λ d token w. after_conference_op d at (op d token w) w)
  housed_follows done new follows =
      done_follows old mid (λ d token w. output_of_conference_op d (op d token w) w)
      (λ d token w. after_conference_draw (op d token w) (output_of_conference_op d (op d token w) w) w) emits given at out now done is new follows

  pub housed_breaks : ConferencesPerform old mid op emits → AddsOfferPrefix mid out now (λ d token. with_emits at given) → AddsOfferPrefix old out now (λ d token w. after_conference_op d at (op d token w) w)
  housed_breaks done breaks =
      done_breaks old mid (λ d token w. output_of_conference_op d (op d token w) w) (λ d token w. after_conference_draw (op d token w) (output_of_conference_op d (op d token w) w) w) emits given at out now done is breaks

  pub lodged_follows : ConferencesOpen old mid op emits → (new : Server) → Follows mid out new now (λ d token. with_emits at given)
      → Follows old out new now (λ d token w. with_conference_output at (op d token w) (output_of_conference_op d (op d token w) w) w)
  lodged_follows done new follows =
      done_follows old mid (λ d token w. output_of_conference_op d (op d token w) w)
      (λ d token w. after_conference_operation (op d token w) (output_of_conference_op d (op d token w) w) w) emits given at out now done is new follows

  pub lodged_breaks : ConferencesOpen old mid op emits → AddsOfferPrefix mid out now (λ d token. with_emits at given) →
      AddsOfferPrefix old out now (λ d token w. with_conference_output at (op d token w) (output_of_conference_op d (op d token w) w) w)
  lodged_breaks done breaks =
      done_breaks old mid (λ d token w. output_of_conference_op d (op d token w) w)
      (λ d token w. after_conference_operation (op d token w) (output_of_conference_op d (op d token w) w) w) emits given at out now done is breaks

-- it broke off in the first of two
pub broke_first : (f h : Directory → List ℕ → RunState → RunState) (old : Server) (out now : List Offer) → ((d : Directory) (token : List ℕ) (w : RunState) → Grows (f d token w) (h d token w))
    → AddsOfferPrefix old out now f → AddsOfferPrefix old out now h
broke_first f h old out now grows breaks d token before w did short =
    let left : RunState = f d token w in
    let all : RunState = h d token w in
    let cut = breaks d token before w did (short_of left all (grows d token w) short) in
    (cut.0, prefix_on now (before ++ left.offers) (before ++ all.offers) cut.1 (prefix_of before (before ++ left.offers) left all (grows d token w) refl))

-- ---- a request of a participant, and what follows from it where it was accepted

both : (b c : Bool) (x : Option Replaces) → (if c then (if b then x else None) else None) ≡ (if b && c then x else None)
both true true x = refl
both true false x = refl
both false true x = refl
both false false x = refl

module _ (m : ParsedMessage) (asked accepted : Option Replaces) (emits given : List Emit) where
  pub accepted_is : asked ≡ (if is_method (codes "REFER") m.start then replaces_by (referral_in m.refer_to) else None) → accepted ≡ (if is_accepted given then asked else None) → given ≡ emits
      → accepted ≡ replacement_in m emits
  accepted_is is where_accepted same_emits =
      where_accepted
      ∙ (ap (λ (l : List Emit). if is_accepted l then asked else None) same_emits
      ∙ (ap (λ (o : Option Replaces). if is_accepted emits then o else None) is
      ∙ both (is_method (codes "REFER") m.start) (is_accepted emits) (replaces_by (referral_in m.refer_to))))

module _ (law : NumbersNeverFall) (at : ℕ) (key : TKey) (said : MessageView) (room : RoomNo) (seat : ℕ) (s mid : Server) (emits given : List Emit) (out between : List Offer)
    (told : ConferencesPerform s mid (λ d token w. conference_signal_op token at (of_room.Request room seat key said) w) emits) (is : given ≡ emits) where
  abbrev received : Directory → List ℕ → RunState → RunState
  received d token = after_conference_signal d token at (of_room.Request room seat key said)

  abbrev due : Directory → List ℕ → RunState → Option Replaces
  due d token w = replacement_in said.parsed (output_of_conference_op d (conference_signal_op token at (of_room.Request room seat key said) w) w).out

  -- memory ran out while the output of the request was executed
  pub received_breaks : AddsOfferPrefix mid out between (λ d token. with_emits at given) → AddsOfferPrefix s out between (λ d token. after_participant_request d token at key said room seat)
  received_breaks breaks =
      broke_first received (λ d token. after_participant_request d token at key said room seat) s out between (λ d token w. replaces_asked_grows law d token at said.peer room seat (due d token w) (received d token w))
      (housed_breaks (λ d token w. conference_signal_op token at (of_room.Request room seat key said) w) s mid emits given at out between is told breaks)

  module _ (accepted : Option Replaces) (is_due : accepted ≡ replacement_in said.parsed emits) (there : Server) (first : Follows mid out there between (λ d token. with_emits at given)) (now : List Offer) where
    abbrev then_due : Directory → List ℕ → RunState → RunState
    then_due d token = after_replaces d token at said.peer room seat accepted

    received_first : Follows s out there between received
    received_first = housed_follows (λ d token w. conference_signal_op token at (of_room.Request room seat key said) w) s mid emits given at out between is told there first

    module _ (d : Directory) (token : List ℕ) (before : List Offer) (w : RunState) (did : RepresentsWithOffers d token before s out w) (short : IsShort (after_participant_request d token at key said room seat w)) where
      same_due : accepted ≡ due d token w
      same_due = is_due ∙ ap (replacement_in said.parsed) (told d token before out w did).0

      few_due : IsShort (then_due d token (received d token w))
      few_due = subst (λ (o : Option Replaces). IsShort (after_replaces d token at said.peer room seat o (received d token w))) (sym same_due) short

    pub entered_follows : (new : Server) → Follows there between new now (λ d token. after_replaces d token at said.peer room seat accepted) →
        Follows s out new now (λ d token. after_participant_request d token at key said room seat)
    entered_follows new follows d token before w did short =
        subst (λ (o : Option Replaces). RepresentsWithOffers d token before new now (after_replaces d token at said.peer room seat o (received d token w))) (same_due d token before w did short)
        (followed received then_due s there new out between now (λ d token w. replaces_asked_grows law d token at said.peer room seat accepted w) received_first follows
        d token before w did (few_due d token before w did short))

    pub entered_breaks : AddsOfferPrefix there between now (λ d token. after_replaces d token at said.peer room seat accepted) →
        AddsOfferPrefix s out now (λ d token. after_participant_request d token at key said room seat)
    entered_breaks breaks d token before w did short =
        subst (λ (o : Option Replaces). IsPrefixBetween out now (before ++ (after_replaces d token at said.peer room seat o (received d token w)).offers)) (same_due d token before w did short)
        (offer_prefix_added received then_due s there out between now (λ d token w. seats law d token at (of_room.Request room seat key said) w)
        (λ d token w. replaces_asked_grows law d token at said.peer room seat accepted w) received_first breaks
        d token before w did (few_due d token before w did short))
