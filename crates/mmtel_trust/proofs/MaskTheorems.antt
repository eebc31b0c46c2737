-- What is decided of two messages with equal masks, and what they show.
use Rattle.std.proofs.Common.{◌≡◌, ℕ, List, refl, sym, ap, ◌∙◌, Bool, true, false, ◌&&◌, Option, Some, None, cond}
use Rattle.std.specs.Prelude.{is_some}
use Rattle.mmtel_history.specs.HistoryInfo.{masked_list}
use Rattle.mmtel_history.specs.declared.entries.Entry.{Entry}
use Rattle.mmtel_history.proofs.ListTheorems.{masked_once}
use Rattle.mmtel_message.specs.Faults.{is_request}
use Rattle.mmtel_message.specs.declared.messages.Start.{Start}
use Rattle.mmtel_message.specs.Message.{Line}
use Rattle.mmtel_types.specs.declared.numbers.Account.{Account}
use Rattle.mmtel_trust.specs.Asserted.{asserted}
use Rattle.mmtel_trust.specs.ParsedMessage.{ParsedMessage, caller_account, has_any_identity, is_caller_identified, origin_account, served_account, terminates}
use Rattle.mmtel_trust.specs.PrivateFields.{Entries, NoEntries, MarkedEntries, AllEntries, PrivateFields, hidden_entries, joined_fields, joined_entries, masked_lines, only_entries, private_fields_in, redirects}
use Rattle.mmtel_trust.specs.MaskedMessages.{CallerFacts, DecideTheSame, MaskedMessage, NameSameCaller, Restriction, caller_facts_if, hide}
use Rattle.mmtel_trust.specs.MaskedMessages.{is_private, mask, private_entries, private_fields_of, private_in_opening_if, public_part}
use Rattle.mmtel_trust.specs.HeaderTable.{attempt_from, passed_lines}
use Rattle.mmtel_trust.specs.declared.accounts.AccountIdentity.{AccountIdentity}
use Rattle.mmtel_trust.specs.declared.header_table.Facing.{Facing}
use Rattle.mmtel_trust.proofs.IndexKeeping.{asserted-entries, from-entries, origin-entries, passed-entries}
use Rattle.mmtel_trust.proofs.Masked.{passed_equal}

-- ---- a message that is not private

same_if : (b c : Bool) → cond b c c ≡ c
same_if true c = refl
same_if false c = refl

unplaced : (start : Start) (es : Entries) → private_fields_in start (only_entries es) ≡ only_entries es
unplaced start es = rw (same_if (is_request start) false, same_if (redirects start) false) refl

-- the private places, where it is known whether the caller is restricted
abbrev private_fields_if : Bool → ParsedMessage → PrivateFields
private_fields_if b m = joined_fields (private_in_opening_if b) (only_entries (private_entries m))

-- what does not depend on entries of History-Info does not depend on what is hidden of it
unseen : {B : Type 0} (f : List Line → B) → ((es : Entries) (ls : List Line) → f (masked_lines (only_entries es) ls) ≡ f ls) → (b : Bool) (m : ParsedMessage) → b ≡ false →
    f (hide (private_fields_if b m) m).lines ≡ f m.lines
unseen f law true m e = absurd cc
unseen f law false m e = ap (λ (p : PrivateFields). f (masked_lines p m.lines)) (unplaced m.start (private_entries m)) ∙ law (private_entries m) m.lines

-- ---- entries of History-Info

-- what is masked of a list is masked in the masked list too
absorbed_if : (private all : Bool) (h : List Entry) → masked_list all (hidden_entries (cond private (cond all AllEntries MarkedEntries) NoEntries) h) ≡ masked_list all h
absorbed_if true true h = masked_once true h
absorbed_if true false h = masked_once false h
absorbed_if false all h = refl

absorbed_by : (b private all : Bool) (h : List Entry) →
    masked_list all (hidden_entries (joined_entries (private_in_opening_if b).history (cond private (cond all AllEntries MarkedEntries) NoEntries)) h) ≡ masked_list all h
absorbed_by true private all h = absorbed_if private all h
absorbed_by false private all h = absorbed_if private all h

-- ---- what is determined of the caller

-- where nothing is determined: no account, and no identity
abbrev answers_in : Option CallerFacts → CallerFacts
answers_in None = record { account = None; is_identified = false }
answers_in (Some a) = a

told_if : (b : Bool) (accounts : List AccountIdentity) (m : ParsedMessage) → is_some (caller_facts_if b accounts m) ≡ b
told_if true accounts m = refl
told_if false accounts m = refl

account_if : (b : Bool) (accounts : List AccountIdentity) (m : ParsedMessage) → b ≡ true → (answers_in (caller_facts_if b accounts m)).account ≡ caller_account accounts m
account_if true accounts m e = refl
account_if false accounts m e = absurd cc

known_if : (b : Bool) (accounts : List AccountIdentity) (m : ParsedMessage) → b ≡ true → (answers_in (caller_facts_if b accounts m)).is_identified ≡ is_caller_identified m
known_if true accounts m e = refl
known_if false accounts m e = absurd cc

-- ---- two messages

module _ (restricts : Restriction) (accounts others : List AccountIdentity) (m n : ParsedMessage) (e : mask restricts accounts m ≡ mask restricts others n) where
  private_alike : is_private restricts accounts m ≡ is_private restricts others n
  private_alike = sym (told_if (is_private restricts accounts m) accounts m) ∙ (ap (λ (x : MaskedMessage). is_some x.caller) e ∙ told_if (is_private restricts others n) others n)

  public_alike : public_part m ≡ public_part n
  public_alike = ap (λ (x : MaskedMessage). public_part x.message) e

  trusted_alike : m.trusted ≡ n.trusted
  trusted_alike = ap (λ (x : ParsedMessage). x.trusted) public_alike

  -- what does not depend on entries of History-Info is the same, where they are not private
  seen_alike : {B : Type 0} (f : List Line → B) → ((es : Entries) (ls : List Line) → f (masked_lines (only_entries es) ls) ≡ f ls) → is_private restricts accounts m ≡ false → f m.lines ≡ f n.lines
  seen_alike f law none =
      sym (unseen f law (is_private restricts accounts m) m none)
      ∙ (ap (λ (x : MaskedMessage). f x.message.lines) e
      ∙ unseen f law (is_private restricts others n) n (sym private_alike ∙ none))

  history_alike : masked_list m.wants.history m.history ≡ masked_list n.wants.history n.history
  history_alike =
      sym (absorbed_by (is_private restricts accounts m) (m.trusted && is_request m.start) m.wants.history m.history)
      ∙ (ap (λ (x : MaskedMessage). masked_list x.message.wants.history x.message.history) e
      ∙ absorbed_by (is_private restricts others n) (n.trusted && is_request n.start) n.wants.history n.history)

  account_by : (b : Bool) → is_private restricts accounts m ≡ b → NameSameCaller restricts accounts others m → caller_account accounts m ≡ caller_account others n
  account_by true is same =
      sym (account_if (is_private restricts accounts m) accounts m is)
      ∙ (ap (λ (x : MaskedMessage). (answers_in x.caller).account) e
      ∙ account_if (is_private restricts others n) others n (sym private_alike ∙ is))
  account_by false is same =
      same is
      ∙ (seen_alike (λ ls. origin_account others m.trusted ls) (λ es ls. origin-entries es others m.trusted ls) is
      ∙ ap (λ (b : Bool). origin_account others b n.lines) trusted_alike)

  account_alike : NameSameCaller restricts accounts others m → caller_account accounts m ≡ caller_account others n
  account_alike same = account_by (is_private restricts accounts m) refl same

  served_alike : NameSameCaller restricts accounts others m → served_account accounts m ≡ served_account others n
  served_alike same =
      ap (λ (a : Option Account). cond (m.trusted && terminates m) None a) (account_alike same)
      ∙ ap (λ (x : ParsedMessage). cond (x.trusted && terminates x) None (caller_account others n)) public_alike

  known_by : (b : Bool) → is_private restricts accounts m ≡ b → is_caller_identified m ≡ is_caller_identified n
  known_by true is =
      sym (known_if (is_private restricts accounts m) accounts m is)
      ∙ (ap (λ (x : MaskedMessage). (answers_in x.caller).is_identified) e
      ∙ known_if (is_private restricts others n) others n (sym private_alike ∙ is))
  known_by false is =
      seen_alike (λ ls. has_any_identity (asserted m.trusted ls)) (λ es ls. ap has_any_identity (asserted-entries es m.trusted ls)) is
      ∙ ap (λ (b : Bool). has_any_identity (asserted b n.lines)) trusted_alike

  known_alike : is_caller_identified m ≡ is_caller_identified n
  known_alike = known_by (is_private restricts accounts m) refl

  shown_alike : (f : Facing) (history : List Line) → f.restricted ≡ true → passed_lines f false history m.lines ≡ passed_lines f false history n.lines
  shown_alike f history r = passed_equal (private_fields_in m.start (private_fields_of restricts accounts m))
      (private_fields_in n.start (private_fields_of restricts others n)) f history m.lines n.lines r (ap (λ (x : MaskedMessage). x.message.lines) e)

  others_alike : (f : Facing) (to_trusted : Bool) (history : List Line) → is_private restricts accounts m ≡ false → passed_lines f to_trusted history m.lines ≡ passed_lines f to_trusted history n.lines
  others_alike f to_trusted history none = seen_alike (λ ls. passed_lines f to_trusted history ls) (λ es ls. passed-entries es f to_trusted history ls) none

  from_by : (b restricted : Bool) (tag : List ℕ) → is_private restricts accounts m ≡ b → (is_private restricts accounts m ≡ true → restricted ≡ true) →
      attempt_from restricted tag m.lines ≡ attempt_from restricted tag n.lines
  from_by true restricted tag is hidden = rw (hidden is) refl
  from_by false restricted tag is hidden = seen_alike (λ ls. attempt_from restricted tag ls) (λ es ls. from-entries es restricted tag ls) is

  from_alike : (restricted : Bool) (tag : List ℕ) → (is_private restricts accounts m ≡ true → restricted ≡ true) → attempt_from restricted tag m.lines ≡ attempt_from restricted tag n.lines
  from_alike restricted tag hidden = from_by (is_private restricts accounts m) restricted tag refl hidden

  pub alike : DecideTheSame restricts accounts others m n
  alike = record {
    public = public_alike;
    private = private_alike;
    account = account_alike;
    served = served_alike;
    known = known_alike;
    history = history_alike;
    shown = shown_alike;
    shown_to_all = others_alike;
    from = from_alike;
  }
