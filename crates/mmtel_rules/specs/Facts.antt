-- The facts of a call when rules are evaluated: all to which a condition may refer (RFC 4745 §6 and §7, TS 24.604 §4.9.1), but for the event that happened, which is separate.
--
-- The definitions above pass it on whole. A further kind of condition needs one more field here, and changes none of them.
use Rattle.std.specs.Prelude.{ℕ, Bool, List}
use Rattle.mmtel_sheet_values.specs.declared.values.Who.{Who}
use Rattle.mmtel_rules.specs.Identities.{has_identity, identity_holds}
use Rattle.mmtel_rules.specs.declared.values.Facts.{Facts}
use Rattle.mmtel_rules.specs.declared.values.Identities2.{Identities2}

pub record FactsView : Type 0 where
  -- of the other party, which is the caller, or the target where outgoing barring is evaluated: whether the identity part of a condition is true of it, and whether it has an
  -- identity at all
  pub identity_matches : Who → Bool
  pub has_identity : Bool
  -- the caller is anonymous
  pub restricted : Bool
  -- the kinds of media that are offered
  pub media : List (List ℕ)
  -- the moment
  pub now : ℕ
  -- the call was diverted before
  pub diverted : Bool
  -- the target that is the other party is abroad
  pub abroad : Bool

-- the facts of the program, as seen here: of the identities of the other party only which conditions are true of it, and whether it has any
abbrev pub facts_view : Facts → FactsView
facts_view f = record {
  identity_matches = identity_holds f.caller.now;
  has_identity = has_identity f.caller.now;
  restricted = f.restricted;
  media = f.media.now;
  now = f.now;
  diverted = f.diverted;
  abroad = f.abroad;
}

-- the same facts, with these truth values of the identity parts
abbrev pub with_identity_matches : FactsView → (Who → Bool) → FactsView
with_identity_matches k asks = record k { identity_matches = asks }

-- the same facts, where the other party has these identities
abbrev pub with_other_party : Identities2 → FactsView → FactsView
with_other_party i k = record k { identity_matches = identity_holds i; has_identity = has_identity i }
