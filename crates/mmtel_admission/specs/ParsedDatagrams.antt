-- What the code read of a datagram, as the parsed event of the definitions.
use Rattle.mmtel_run_definitions.specs.Events.{ParsedEvent, Nothing, Refused, Received}
use Rattle.mmtel_admission.specs.declared.parsing.ParsedDatagram.{ParsedDatagram}
use Rattle.mmtel_admission.specs.declared.parsing.ParsedDatagram.TheVariants as datagram

abbrev pub parsed_event_in : ParsedDatagram → ParsedEvent
parsed_event_in datagram.Nothing = Nothing
parsed_event_in (datagram.Refused peer source reply) = Refused peer source reply
parsed_event_in (datagram.Received message) = Received message
