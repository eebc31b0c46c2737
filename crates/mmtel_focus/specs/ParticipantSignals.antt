-- What a participant of a conference receives.
use Rattle.mmtel_compose.specs.ReceivedMessages.{MessageView}
use Rattle.mmtel_transaction.specs.declared.words.RoomWord.{RoomWord}
use Rattle.mmtel_transaction.specs.declared.words.TKey.{TKey}

pub data ParticipantSignal : Type 0 where
  -- a request of it, which opened this server transaction
  Request : (key : TKey) → (request : MessageView) → ParticipantSignal
  -- an ACK of it
  Ack : (ack : MessageView) → ParticipantSignal
  -- a response to the server's INVITE to it, with the client transaction
  Answer : (key : TKey) → (response : MessageView) → ParticipantSignal
  -- the server's INVITE to it got no response at all and timed out
  Silent : ParticipantSignal
  -- a timer of it fired
  Due : (what : RoomWord) → ParticipantSignal
