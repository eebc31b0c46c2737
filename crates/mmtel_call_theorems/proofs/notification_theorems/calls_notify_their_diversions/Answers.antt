use Rattle.mmtel_call_theorems.proofs.Notifications.AfterOffered.{ends_without_notification, notifies_nothing_later}
use Rattle.mmtel_call_theorems.proofs.Notifications.NotificationTheorems.{keeps_its_history, notifies_its_diversions}
use Rattle.mmtel_call_theorems.proofs.notification_theorems.calls_notify_their_diversions.Goals as goal

pub returns : goal.returns
returns c = record {
  reported = notifies_its_diversions c.next_steps_are_moves.ensures.law c.endings_are_moves.ensures.law c.later_endings_extend.ensures.law c.moves_give_the_outcome.ensures.law;
  history = keeps_its_history c.next_steps_are_moves.ensures.law c.endings_are_moves.ensures.law c.later_endings_extend.ensures.law c.moves_give_the_outcome.ensures.law;
  nothing_later = notifies_nothing_later;
  ends = ends_without_notification;
}
