-- What a stop leaves of a keeper's journal, as sheets and rows.
use Rattle.std.proofs.Common.{inl, inr, ℕ, List, [], ◌∷◌, ◌++◌, refl, subst}
use Rattle.mmtel_keeper.specs.Contents.{KeeperContents, with_rows}
use Rattle.mmtel_journal.specs.Disks.{Leaves}
use Rattle.mmtel_journal.specs.Journal.{IsAmong, IsJournalOrMore}
use Rattle.mmtel_journal.specs.Payloads.{IsPayload, Adds, AddsAll, with_sheets}
use Rattle.mmtel_journal.specs.Keepers.{contents_of, no_contents, KeeperRepresents}
use Rattle.mmtel_journal.specs.JournalContents.{IsJournalOfOrMore}
use Rattle.mmtel_journal.specs.declared.keepers.JournalKeeper.{JournalKeeper}
use Rattle.mmtel_journal.proofs.Records.{log_leaves}

pub adds_push : (ps : List (List ℕ)) (p : List ℕ) (a b c : KeeperContents) → AddsAll ps a b → Adds p b c → AddsAll (ps ++ p ∷ []) a c
adds_push [] p a b c same adds = (c, subst (λ h. Adds p h c) same adds, refl)
adds_push (q ∷ ps) p a b c all adds = (all.0, all.1, adds_push ps p all.0 b c all.2 adds)

-- the contents after a payload of the format
adds_some : (payload : List ℕ) (held : KeeperContents) → IsPayload payload → (after : KeeperContents) × Adds payload held after
adds_some payload held (inl one) = (with_sheets one.0 held, inl (one.0, one.1, refl))
adds_some payload held (inr one) = (with_rows one.0 held, inr (one.0, one.1, refl))

abbrev pub AreForms : List (List ℕ) → Type 0
AreForms refused = (payload : List ℕ) → IsAmong refused payload → IsPayload payload

pub or_more : (payloads others : List (List ℕ)) (held : KeeperContents) → AddsAll payloads no_contents held → AreForms others → (c : List ℕ) → IsJournalOrMore payloads others c
    → IsJournalOfOrMore held others c
or_more payloads others held holds forms c (inl whole) = (held, inl refl, (payloads, whole, holds))
or_more payloads others held holds forms c (inr one) =
    let more = adds_some one.0 held (forms one.0 one.1) in
    (more.0, inr (one.0, one.1, more.1), (payloads ++ one.0 ∷ [], one.2, adds_push payloads one.0 no_contents held more.0 holds more.1))

module _ {D : Type 0} (may_leave : D → List ℕ → Type 0) where
  pub keeps_finds : (payloads refused : List (List ℕ)) (k : JournalKeeper D) → KeeperRepresents may_leave payloads refused k
      → Leaves (may_leave k.log.disk) (IsJournalOfOrMore (contents_of k) refused)
  keeps_finds payloads refused k keeps c left = or_more payloads refused (contents_of k) keeps.contents keeps.forms c
      (log_leaves may_leave payloads refused k.log keeps.log c left)
