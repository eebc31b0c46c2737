-- Two configurations that are equal but for the URIs of accounts. Of these URIs a conference depends on the results of its account lookups alone: of the URI to which a REFER has
-- it send an INVITE (RFC 3515 §2.1, RFC 4579 §5.5). The account of a party that joins a conference is passed to it.
use Rattle.std.specs.Prelude.{◌≡◌, true, Some, codes}
use Rattle.mmtel_compose.specs.ReceivedMessages.{MessageView}
use Rattle.mmtel_focus.specs.Operations.{Adopts, Closes, Drops, Joins, Leaves, Notifies, Opens, Receives, TableOp, effects_of, table_after_op}
use Rattle.mmtel_focus.specs.Referrals.{referral_in}
use Rattle.mmtel_focus.specs.ConferenceConfig.{ConferenceConfigView}
use Rattle.mmtel_focus.specs.Table.{Table}
use Rattle.mmtel_focus.specs.declared.referrals.Referral.TheVariants as referral
use Rattle.mmtel_focus.specs.declared.signals.RoomSignal.{RoomSignal}
use Rattle.mmtel_focus.specs.declared.signals.RoomSignal.TheVariants as signal
use Rattle.mmtel_lex.specs.declared.values.Uri.{Uri}
use Rattle.mmtel_message.specs.Faults.{is_method}
use Rattle.mmtel_trust.specs.Accounts.{account_of}

pub record EqualButForAccounts (one other : ConferenceConfigView) : Type 0 where
  pub sip : one.sip ≡ other.sip
  pub mixer : one.mixer ≡ other.mixer
  pub methods : one.methods ≡ other.methods
  pub peers : one.peers ≡ other.peers

-- ---- lookups

-- this URI is of the same account in both, or of none in both
abbrev pub LooksUpEqually : (one other : ConferenceConfigView) → Uri → Type 0
LooksUpEqually one other uri = account_of one.accounts uri ≡ account_of other.accounts uri

-- so is that of the party that a REFER asks to invite
abbrev pub RefersEqually : (one other : ConferenceConfigView) → MessageView → Type 0
RefersEqually one other m = (uri : Uri) → is_method (codes "REFER") m.parsed.start ≡ true →
    referral_in m.parsed.refer_to ≡ referral.Invite (Some uri) → LooksUpEqually one other uri

-- nothing else that a conference receives looks up an account
abbrev pub SignalLooksUpEqually : (one other : ConferenceConfigView) → RoomSignal → Type 0
SignalLooksUpEqually one other (signal.Request room seat key request) = RefersEqually one other request
SignalLooksUpEqually one other (signal.Ack room seat ack) = Unit {0}
SignalLooksUpEqually one other (signal.Answer key response) = Unit {0}
SignalLooksUpEqually one other (signal.Silent branch method) = Unit {0}
SignalLooksUpEqually one other (signal.Due room seat what) = Unit {0}
SignalLooksUpEqually one other (signal.Over key) = Unit {0}

-- nor does any other operation on conferences
abbrev pub OpLooksUpEqually : (one other : ConferenceConfigView) → TableOp → Type 0
OpLooksUpEqually one other (Opens coming) = Unit {0}
OpLooksUpEqually one other (Joins room coming) = Unit {0}
OpLooksUpEqually one other (Adopts room adoption) = Unit {0}
OpLooksUpEqually one other (Notifies room seat code tokens) = Unit {0}
OpLooksUpEqually one other (Receives received) = SignalLooksUpEqually one other received.signal
OpLooksUpEqually one other (Leaves room seat) = Unit {0}
OpLooksUpEqually one other (Closes room) = Unit {0}
OpLooksUpEqually one other (Drops count) = Unit {0}

-- all this holds for a configuration and itself
pub record OneIsEquivalent : Type 0 where
  pub equal : (config : ConferenceConfigView) → EqualButForAccounts config config
  pub lookups : (config : ConferenceConfigView) (op : TableOp) → OpLooksUpEqually config config op

-- ---- of the URIs of accounts a table of conferences depends on the results of its lookups alone

-- the effects of an operation are the same under both, and so is the table after it
pub record OperationsSeeLookupsAlone : Type 0 where
  pub effects : (one other : ConferenceConfigView) (op : TableOp) (table : Table) → EqualButForAccounts one other → OpLooksUpEqually one other op →
      effects_of one op table ≡ effects_of other op table
  pub tables : (one other : ConferenceConfigView) (op : TableOp) (table : Table) → EqualButForAccounts one other →
      OpLooksUpEqually one other op → table_after_op one op table ≡ table_after_op other op table
