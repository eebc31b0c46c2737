-- An INVITE that asks for a conference or to join one offers audio: the mixer takes nothing else (RFC 4579 §5.1, RFC 3264 §6).
use Rattle.std.specs.Prelude.{◌≡◌, Bool, true, false, Option}
use Rattle.mmtel_directory.specs.declared.directories.Directory.{Directory}
use Rattle.mmtel_sdp.specs.Offers.{offers_audio}
use Rattle.mmtel_trust.specs.ParsedMessage.{ParsedMessage}
use Rattle.mmtel_run_definitions.specs.Refusals.{Disposition, Respond, Enter, EnterConference, OpenCall, OpenConference}
use Rattle.mmtel_run_definitions.specs.Refusals.{JoinConference, Register, Subscribe, EnterSubscription, disposition}
use Rattle.mmtel_run_definitions.specs.Ownership.{DialogOwner}

-- it asks for a conference, or to join one
abbrev pub is_for_conference : Disposition → Bool
is_for_conference (Respond answer) = false
is_for_conference (Enter call side) = false
is_for_conference (EnterConference room seat) = false
is_for_conference OpenCall = false
is_for_conference OpenConference = true
is_for_conference (JoinConference room) = true
is_for_conference (Register account seconds) = false
is_for_conference Subscribe = false
is_for_conference (EnterSubscription sub) = false

abbrev pub ConferencesAreForAudio : Type 0
ConferencesAreForAudio = (directory : Directory) (merged full : Bool) (named : Option DialogOwner) (message : ParsedMessage) →
    is_for_conference (disposition directory merged full named message) ≡ true → offers_audio message.body ≡ true
