use Rattle.std.proofs.Common.{◌≡◌, take}
use Rattle.mmtel_sdp.specs.Offers.{kinds}
use Rattle.mmtel_sdp.proofs.values.SdpView.kinds.Given as goal

abbrev pub invariant-loop-medium : goal.invariant-loop-medium
invariant-loop-medium l = l.listed ≡ kinds (take l.medium-index l.self.media)
