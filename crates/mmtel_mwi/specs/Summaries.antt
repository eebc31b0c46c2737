-- The summary of a mailbox that a subscriber gets: whether messages wait, and how many (RFC 3842 §5.2).
use Rattle.std.specs.Prelude.{ℕ, ◌==◌, List, ◌++◌, codes, decimal, if◌then◌else◌}
use Rattle.mmtel_mwi.specs.declared.counts.Counts.{Counts}

-- only new messages count as waiting
abbrev pub messages_waiting : (fresh : ℕ) → List ℕ
messages_waiting fresh = if fresh == 0 then codes "no" else codes "yes"

-- new and old ones, and of each the urgent ones in parentheses
abbrev pub voice_counts : Counts → List ℕ
voice_counts c =
    decimal c.fresh ++ (codes "/" ++ (decimal c.old ++ (codes " (" ++ (decimal c.urgent_fresh ++ (codes "/" ++ (decimal c.urgent_old ++ codes ")"))))))

unfoldable pub summary : Counts → List ℕ
summary c = codes "Messages-Waiting: " ++ (messages_waiting c.fresh ++ (codes "\r\nVoice-Message: " ++ (voice_counts c ++ codes "\r\n")))
