-- What a body offers: the kinds of its media (RFC 4566 §5.14), whether audio is among them, and the direction of its first audio medium (RFC 3264 §5.1). A body that is no
-- session description offers no media and no audio, and has no direction.
use Rattle.std.specs.Prelude.{ℕ, List, [], map, Option, Some, None, Bool, false}
use Rattle.mmtel_sdp.specs.Mixer.{has_audio}
use Rattle.mmtel_sdp.specs.Sdp.{sdp_of}
use Rattle.mmtel_sdp.specs.declared.values.Direction.{Direction}
use Rattle.mmtel_sdp.specs.declared.values.Medium.{Medium}
use Rattle.mmtel_sdp.specs.declared.values.SdpView.{SdpView}

-- the kind of each medium, in the order of the media
abbrev pub kinds : List Medium → List (List ℕ)
kinds media = map (λ medium. medium.kind) media

-- ---- for what was read of a body, if it is a session description

abbrev pub kinds_in_view : Option SdpView → List (List ℕ)
kinds_in_view None = []
kinds_in_view (Some view) = kinds view.media

abbrev pub audio_in_view : Option SdpView → Bool
audio_in_view None = false
audio_in_view (Some view) = has_audio view.media

abbrev pub direction_in_view : Option SdpView → Option Direction
direction_in_view None = None
direction_in_view (Some view) = Some view.direction

-- ---- for any body

abbrev pub kinds_of : List ℕ → List (List ℕ)
kinds_of body = kinds_in_view (sdp_of body)

abbrev pub offers_audio : List ℕ → Bool
offers_audio body = audio_in_view (sdp_of body)

abbrev pub direction_in_body : List ℕ → Option Direction
direction_in_body body = direction_in_view (sdp_of body)
