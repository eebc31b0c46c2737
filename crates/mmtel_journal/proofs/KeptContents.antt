-- The contents of a keeper over a journal, and what a stop leaves of it, after any list of calls.
use Rattle.std.proofs.Common.{◌⊎◌, inl, inr, ℕ, Bool, true, false, List, [], ◌∷◌, ◌++◌, Option, Some, None, sym, subst}
use Rattle.std.specs.Prelude.{option_to_list}
use Rattle.std.proofs.lemmas.List.{append-nil}
use Rattle.mmtel_keeper.specs.Contents.{KeeperContents}
use Rattle.mmtel_journal.specs.Disks.{Leaves, LeavesOnly}
use Rattle.mmtel_journal.specs.Journal.{IsAmong, IsJournalOrMore}
use Rattle.mmtel_journal.specs.JournalCalls.{JournalCall, payloads_after_call, payloads_after_calls, possible_additions, refused_after_call, refused_after_calls}
use Rattle.mmtel_journal.specs.Payloads.{Adds, AddsAll, EachOnce, IsPayload}
use Rattle.mmtel_journal.specs.Keepers.{contents_of, no_contents, KeeperRepresents}
use Rattle.mmtel_journal.specs.JournalContents.{IsJournalOfOrMore}
use Rattle.mmtel_journal.specs.KeeperCalls.{ChangesContents, HasPayloadFormat, IsKeeperCall, AreKeeperCalls}
use Rattle.mmtel_journal.specs.declared.keepers.JournalKeeper.{JournalKeeper}
use Rattle.mmtel_journal.proofs.Migrating.{once_puts}
use Rattle.mmtel_journal.proofs.Moments.{weaker}
use Rattle.mmtel_journal.proofs.JournalContents.{AreForms, adds_push, keeps_finds, or_more}

adds_step : (ps : List (List ℕ)) (payload : Option (List ℕ)) (ok : Bool) (h after : KeeperContents) → AddsAll ps no_contents h → ChangesContents payload ok h after
    → AddsAll (payloads_after_call ps (record { payload = payload; ok = ok })) no_contents after
adds_step ps (Some p) true h after all changes = adds_push ps p no_contents h after all changes
adds_step ps (Some p) false h after all changes = subst (λ x. AddsAll ps no_contents x) (sym changes) all
adds_step ps None true h after all changes =
    subst (λ (l : List (List ℕ)). AddsAll l no_contents after) (sym (append-nil ps)) (subst (λ x. AddsAll ps no_contents x) (sym changes) all)
adds_step ps None false h after all changes = subst (λ x. AddsAll ps no_contents x) (sym changes) all

-- no account has two sheets in the contents that payloads give
adds_once : (payload : List ℕ) (before after : KeeperContents) → Adds payload before after → EachOnce before.sheets → EachOnce after.sheets
adds_once payload before after (inl one) once = subst (λ (h : KeeperContents). EachOnce h.sheets) (sym one.2) (once_puts one.0 before.sheets once)
adds_once payload before after (inr one) once = subst (λ (h : KeeperContents). EachOnce h.sheets) (sym one.2) once

all_once : (payloads : List (List ℕ)) (before after : KeeperContents) → AddsAll payloads before after → EachOnce before.sheets → EachOnce after.sheets
all_once [] before after all once = subst (λ (h : KeeperContents). EachOnce h.sheets) (sym all) once
all_once (payload ∷ payloads) before after all once = all_once payloads all.0 after all.2 (adds_once payload before all.0 all.1 once)

-- what was refused since, each of the format
among_split : (others more : List (List ℕ)) (p : List ℕ) → IsAmong (others ++ more) p → IsAmong others p ⊎ IsAmong more p
among_split [] more p is = inr is
among_split (q ∷ others) more p (inl here) = inl (inl here)
among_split (q ∷ others) more p (inr there) = elim (among_split others more p there) [
  | inl x ↦ inl (inr x)
  | inr y ↦ inr y
]

forms_own : (payload : Option (List ℕ)) → HasPayloadFormat payload → AreForms (option_to_list payload)
forms_own None form p is = absurd is
forms_own (Some q) form p (inl same) = subst IsPayload (sym same) form
forms_own (Some q) form p (inr none) = absurd none

pub forms_tried : (refused : List (List ℕ)) (payload : Option (List ℕ)) → AreForms refused → HasPayloadFormat payload → AreForms (refused ++ option_to_list payload)
forms_tried refused payload forms form p is = elim (among_split refused (option_to_list payload) p is) [
  | inl x ↦ forms p x
  | inr y ↦ forms_own payload form p y
]

forms_after : (refused : List (List ℕ)) (payload : Option (List ℕ)) (ok : Bool) → AreForms refused → HasPayloadFormat payload → AreForms (refused_after_call refused (record {
  payload =
      payload;
  ok = ok;
}))
forms_after refused payload true forms form = λ p is. absurd is
forms_after refused payload false forms form = forms_tried refused payload forms form

module _ {D : Type 0} (honest : D → Type 0) (may_leave : D → List ℕ → Type 0) (clock : D → ℕ) (left_since : D → ℕ → List ℕ → Type 0) where
  pub keeps_on : (calls : List JournalCall) (old new : JournalKeeper D) (payloads refused : List (List ℕ)) → honest old.log.disk → KeeperRepresents may_leave payloads refused old
      → AreKeeperCalls honest may_leave clock left_since old calls new
      → honest new.log.disk × KeeperRepresents may_leave (payloads_after_calls payloads calls) (refused_after_calls refused calls) new
  keeps_on [] old new payloads refused h keeps same = subst (λ (k : JournalKeeper D). honest k.log.disk × KeeperRepresents may_leave payloads refused k) (sym same) (h, keeps)
  keeps_on (call ∷ calls) old new payloads refused h keeps run =
      let mid = run.0 in
      let one = run.1 in
      keeps_on calls mid new (payloads_after_call payloads call) (refused_after_call refused call) (one.log.stays_honest h)
      (record {
        log = one.log.represents payloads refused h keeps.log;
        forms = forms_after refused call.payload call.ok keeps.forms one.form;
        contents = adds_step payloads
            call.payload call.ok (contents_of old) (contents_of mid) keeps.contents (one.contents (all_once payloads no_contents (contents_of old) keeps.contents tt));
      }) run.2

  pub found_between : (calls : List JournalCall) (old new : JournalKeeper D) (payloads refused : List (List ℕ)) → honest old.log.disk → KeeperRepresents may_leave payloads refused old
      → AreKeeperCalls honest may_leave clock left_since old calls new
      → Leaves (may_leave new.log.disk) (IsJournalOfOrMore (contents_of new) (refused_after_calls refused calls))
  found_between calls old new payloads refused h keeps run =
      keeps_finds may_leave (payloads_after_calls payloads calls) (refused_after_calls refused calls) new (keeps_on calls old new payloads refused h keeps run).1

  pub found_within : (calls : List JournalCall) (old mid : JournalKeeper D) (call : JournalCall) (new : JournalKeeper D) (payloads refused : List (List ℕ)) → honest old.log.disk
      → KeeperRepresents may_leave payloads refused old → AreKeeperCalls honest may_leave clock left_since old calls mid
      → IsKeeperCall honest may_leave clock left_since mid call new
      → LeavesOnly clock left_since mid.log.disk new.log.disk (IsJournalOfOrMore (contents_of mid) (possible_additions (refused_after_calls refused calls) call))
  found_within calls old mid call new payloads refused h keeps run one =
      let at = keeps_on calls old mid payloads refused h keeps run in
      let ps = payloads_after_calls payloads calls in
      let more = possible_additions (refused_after_calls refused calls) call in
      weaker clock left_since mid.log.disk new.log.disk (IsJournalOrMore ps more) (IsJournalOfOrMore (contents_of mid) more)
      (one.log.any_moment ps (refused_after_calls refused calls) at.0 at.1.log)
      (λ c is. or_more ps more (contents_of mid) at.1.contents (forms_tried (refused_after_calls refused calls) call.payload at.1.forms one.form) c is)
