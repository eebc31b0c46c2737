use Rattle.mmtel_sdp.proofs.Audio.{audio_by_kinds}
use Rattle.mmtel_sdp.proofs.values.SdpView.has_audio.Goals as goal

pub returns-clause-by_kinds : goal.returns-clause-by_kinds
returns-clause-by_kinds c = rw (c.has_audio.ensures, c.items.ensures) (audio_by_kinds c.args.self.now.media)
