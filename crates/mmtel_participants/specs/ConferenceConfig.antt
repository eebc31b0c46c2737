-- The server's configuration, as each step of a conference needs it.
use Rattle.std.specs.Prelude.{List}
use Rattle.mmtel_compose.specs.declared.responses.FurtherMethods.{FurtherMethods}
use Rattle.mmtel_sdp.specs.declared.values.Mixer.{Mixer}
use Rattle.mmtel_trust.specs.Peers.{Peers}
use Rattle.mmtel_trust.specs.declared.accounts.AccountIdentity.{AccountIdentity}
use Rattle.mmtel_types.specs.declared.addrs.Addr.{Addr}

pub record ConferenceConfigView : Type 0 where
  -- the server's address, and where the mixer of its conferences receives media
  pub sip : Addr
  pub mixer : Mixer
  -- the methods that it supports beside those that it always supports
  pub methods : FurtherMethods
  -- its peers, and the accounts that it serves
  pub peers : Peers
  pub accounts : List AccountIdentity
