-- Audio among the kinds of media.
use Rattle.std.proofs.Common.{◌≡◌, List, [], ◌∷◌, refl}
use Rattle.std.specs.List.{list_any}
use Rattle.mmtel_sdp.specs.Sdp.{is_audio}
use Rattle.mmtel_sdp.specs.Mixer.{has_audio}
use Rattle.mmtel_sdp.specs.Offers.{kinds}
use Rattle.mmtel_sdp.specs.declared.values.Medium.{Medium}

pub audio_by_kinds : (media : List Medium) → has_audio media ≡ list_any is_audio (kinds media)
audio_by_kinds [] = refl
audio_by_kinds (medium ∷ media) = rw (audio_by_kinds media) refl
