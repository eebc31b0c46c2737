-- The server's configuration, as each step of a conference needs it.
pub use Rattle.mmtel_participants.specs.ConferenceConfig.{ConferenceConfigView}
