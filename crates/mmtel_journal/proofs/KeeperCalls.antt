-- Each method of a keeper over a journal, as a call of the list: from the call on its journal, and the contents afterwards.
use Rattle.std.proofs.Common.{◌≡◌, inl, inr, ℕ, ◌<◌, ◌^◌, true, false, List, [], ◌∷◌, ◌++◌, length, Option, Some, None, refl, sym, ◌∙◌, subst, arith}
use Rattle.std.specs.Prelude.{All, Result, OnErr}
use Rattle.std.proofs.lemmas.List.Elements.{All-nil, All-cons}
use Rattle.mmtel_types.specs.declared.numbers.Account.{Account}
use Rattle.mmtel_charging.specs.declared.rows.Row.{Row}
use Rattle.mmtel_sheet_texts.specs.Texts.{put}
use Rattle.mmtel_keeper.specs.Contents.{KeeperContents}
use Rattle.mmtel_journal.specs.JournalCalls.{IsJournalCall}
use Rattle.mmtel_journal.specs.Payloads.{IsSheet, IsRow, IsPayload, EachOnce, put_sheets, payload_of_sheets, payload_of_rows}
use Rattle.mmtel_journal.specs.Keepers.{contents_of}
use Rattle.mmtel_journal.specs.KeeperCalls.{ChangesContents, IsNoneOr, IsKeeperCall}
use Rattle.mmtel_journal.specs.Migrating.{set_all, sheets_in, AreReplacements}
use Rattle.mmtel_journal.specs.declared.logs.Log.{Log}
use Rattle.mmtel_journal.specs.declared.keepers.JournalKeeper.{JournalKeeper}
use Rattle.mmtel_journal.proofs.Moments.{on_err}
use Rattle.mmtel_journal.proofs.LogCalls.{untouched}
use Rattle.mmtel_journal.proofs.Sheets.{length-in}

module _ {D : Type 0} where
  pub same_held : (old new : JournalKeeper D) → new.sheets.texts ≡ old.sheets.texts → new.rows.items ≡ old.rows.items → contents_of new ≡ contents_of old
  same_held old new sheets rows = λ i. record { sheets = sheets i; rows = rows i }

pub sheet_put : (old new : KeeperContents) (account : Account) (text : List ℕ) → IsSheet (account, text) → new.sheets ≡ put account text old.sheets → new.rows ≡ old.rows
    → ChangesContents (Some (payload_of_sheets ((account, text) ∷ []))) true old new
sheet_put old new account text is sheets rows =
    let each : All IsSheet ((account, text) ∷ []) = All-cons IsSheet (account, text) [] is (All-nil IsSheet) in
    inl ((account, text) ∷ [], record { many = omega arith; each = each; encoded = refl }, λ i. record { sheets = sheets i; rows = rows i })

pub rows_added : (old new : KeeperContents) (rows : List Row) → length rows < 2 ^ 64 → All IsRow rows → new.sheets ≡ old.sheets → new.rows ≡ old.rows ++ rows
    → ChangesContents (Some (payload_of_rows rows)) true old new
rows_added old new rows many each sheets added = inr (rows, record { many = many; each = each; encoded = refl }, λ i. record { sheets = sheets i; rows = added i })

pub sheets_given : (old new : KeeperContents) (found : List (ℕ × (Account × List ℕ))) → AreReplacements old.sheets found → length found < 2 ^ 64 → All IsSheet (sheets_in found)
    → new.sheets ≡ set_all found old.sheets → new.rows ≡ old.rows → EachOnce old.sheets → ChangesContents (Some (payload_of_sheets (sheets_in found))) true old new
sheets_given old new found are many each sheets rows once =
    let whole : new.sheets ≡ put_sheets (sheets_in found) old.sheets = sheets ∙ sym (are.puts once) in
    inl (sheets_in found, record { many = omega (arith, many, length-in found); each = each; encoded = refl }, λ i. record { sheets = whole i; rows = rows i })

pub sheet_form : (account : Account) (text : List ℕ) → IsSheet (account, text) → IsPayload (payload_of_sheets ((account, text) ∷ []))
sheet_form account text is =
    let each : All IsSheet ((account, text) ∷ []) = All-cons IsSheet (account, text) [] is (All-nil IsSheet) in
    inl ((account, text) ∷ [], record { many = omega arith; each = each; encoded = refl })

pub rows_form : (rows : List Row) → length rows < 2 ^ 64 → All IsRow rows → IsPayload (payload_of_rows rows)
rows_form rows many each = inr (rows, record { many = many; each = each; encoded = refl })

pub sheets_form : (found : List (ℕ × (Account × List ℕ))) → length found < 2 ^ 64 → All IsSheet (sheets_in found) → IsPayload (payload_of_sheets (sheets_in found))
sheets_form found many each = inl (sheets_in found, record { many = omega (arith, many, length-in found); each = each; encoded = refl })

module _ {D : Type 0} (honest : D → Type 0) (may_leave : D → List ℕ → Type 0) (clock : D → ℕ) (left_since : D → ℕ → List ℕ → Type 0) (old new : JournalKeeper D) where
  abbrev IsRefused : Option (List ℕ) → Type 0
  IsRefused payload = IsKeeperCall honest may_leave clock left_since old (record { payload = payload; ok = false }) new

  abbrev IsRefusedCall : Option (List ℕ) → Type 0
  IsRefusedCall payload = IsJournalCall honest may_leave clock left_since old.log (record { payload = payload; ok = false }) new.log

  refused_none : IsRefusedCall None → new.sheets.texts ≡ old.sheets.texts → new.rows.items ≡ old.rows.items → IsRefused None
  refused_none log sheets rows = record { log = log; form = tt; contents = λ once. same_held old new sheets rows }

  refused_some : (payload : List ℕ) → IsPayload payload → IsRefusedCall (Some payload) → new.sheets.texts ≡ old.sheets.texts → new.rows.items ≡ old.rows.items
      → IsRefused (Some payload)
  refused_some payload form log sheets rows = record { log = log; form = form; contents = λ once. same_held old new sheets rows }

  -- a call that was refused at its journal
  pub tried_kept : {T E : Type 0} (payload : List ℕ) → IsPayload payload
      → IsJournalCall honest may_leave clock left_since old.log (record { payload = Some payload; ok = false }) new.log
      → new.sheets.texts ≡ old.sheets.texts → new.rows.items ≡ old.rows.items → (r : Result T E)
      → OnErr r ((tried : Option (List ℕ)) × IsNoneOr payload tried × IsKeeperCall honest may_leave clock left_since old (record { payload = tried; ok = false }) new)
  tried_kept payload form log sheets rows r = on_err _ r (Some payload, refl, refused_some payload form log sheets rows)

  pub tried_some : {T E : Type 0} (payload : List ℕ) → IsPayload payload
      → IsJournalCall honest may_leave clock left_since old.log (record { payload = Some payload; ok = false }) new.log
      → new.sheets.texts ≡ old.sheets.texts → new.rows.items ≡ old.rows.items → (r : Result T E)
      → OnErr r ((tried : Option (List ℕ)) × IsKeeperCall honest may_leave clock left_since old (record { payload = tried; ok = false }) new)
  tried_some payload form log sheets rows r = on_err _ r (Some payload, refused_some payload form log sheets rows)

  module _ (only_now : (d : D) (c : List ℕ) → honest d → left_since d (clock d) c → may_leave d c) where
    still_none : new.log ≡ old.log → new.sheets.texts ≡ old.sheets.texts → new.rows.items ≡ old.rows.items → IsRefused None
    still_none same sheets rows =
        refused_none (subst (λ (l : Log D). IsJournalCall honest may_leave clock left_since old.log (record { payload = None; ok = false }) l) (sym same)
        (untouched honest may_leave clock left_since only_now old.log None)) sheets rows

    -- a call that was refused before it reached the disk
    pub untouched_kept : {T E : Type 0} → new.log ≡ old.log → new.sheets.texts ≡ old.sheets.texts → new.rows.items ≡ old.rows.items → (r : Result T E)
        → OnErr r (IsKeeperCall honest may_leave clock left_since old (record { payload = None; ok = false }) new)
    untouched_kept log sheets rows r = on_err _ r (still_none log sheets rows)

    pub untouched_trying : {T E : Type 0} (payload : List ℕ) → new.log ≡ old.log → new.sheets.texts ≡ old.sheets.texts → new.rows.items ≡ old.rows.items → (r : Result T E)
        → OnErr r ((tried : Option (List ℕ)) × IsNoneOr payload tried × IsKeeperCall honest may_leave clock left_since old (record { payload = tried; ok = false }) new)
    untouched_trying payload log sheets rows r = on_err _ r (None, tt, still_none log sheets rows)

    pub untouched_some : {T E : Type 0} → new.log ≡ old.log → new.sheets.texts ≡ old.sheets.texts → new.rows.items ≡ old.rows.items → (r : Result T E)
        → OnErr r ((tried : Option (List ℕ)) × IsKeeperCall honest may_leave clock left_since old (record { payload = tried; ok = false }) new)
    untouched_some log sheets rows r = on_err _ r (None, still_none log sheets rows)
