-- The ranks of timers: there are five.
use Rattle.std.proofs.Common.{◌≡◌, ◌⊎◌, inl, inr, refl}
use Rattle.mmtel_run_definitions.specs.Deadlines.{OfCall, OfParticipant, OfSubscription, ServiceTimer, rank}
use Rattle.mmtel_transaction.specs.declared.words.DueWord.TheVariants as due
use Rattle.mmtel_transaction.specs.declared.words.RoomWord.TheVariants as of_seat

abbrev pub Ranked : ServiceTimer → Type 0
Ranked alarm = (rank alarm ≡ 0) ⊎ ((rank alarm ≡ 1) ⊎ ((rank alarm ≡ 2) ⊎ ((rank alarm ≡ 3) ⊎ (rank alarm ≡ 4))))

pub rank_is : (alarm : ServiceTimer) → Ranked alarm
rank_is (OfCall call (due.NoReply attempt)) = inl refl
rank_is (OfCall call (due.NoPrack answer)) = inr (inl refl)
rank_is (OfCall call (due.Cap attempt)) = inr (inr (inl refl))
rank_is (OfCall call (due.NoAck success)) = inr (inr (inr (inl refl)))
rank_is (OfCall call (due.Expired success)) = inr (inr (inr (inr refl)))
rank_is (OfParticipant room seat (of_seat.Cap invitation)) = inr (inr (inl refl))
rank_is (OfParticipant room seat (of_seat.NoAck success)) = inr (inr (inr (inl refl)))
rank_is (OfSubscription sub set) = inl refl
