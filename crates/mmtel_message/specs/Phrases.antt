-- The reason phrases of the statuses that the server generates (RFC 3261 §21, RFC 3515 §2.4.2 for 202, RFC 4028 §6 for 422, RFC 5079 §5 for 433, RFC 6665 §8.3.2 for 489);
-- no bytes for any other.
use Rattle.std.specs.Prelude.{ℕ, ◌==◌, List, [], ◌∷◌, ◌++◌, codes, if◌then◌else◌}

abbrev pub Phrases : Type 0
Phrases = List (ℕ × List ℕ)

-- provisional, successful and client failures up to 416
abbrev pub first_phrases : Phrases
first_phrases =
    (100, codes "Trying") ∷
    (181, codes "Call Is Being Forwarded") ∷
    (200, codes "OK") ∷
    (202, codes "Accepted") ∷
    (400, codes "Bad Request") ∷
    (403, codes "Forbidden") ∷
    (404, codes "Not Found") ∷
    (405, codes "Method Not Allowed") ∷
    (408, codes "Request Timeout") ∷
    (416, codes "Unsupported URI Scheme") ∷ []

-- client failures from 420, server failures and global failures
abbrev pub further_phrases : Phrases
further_phrases =
    (420, codes "Bad Extension") ∷
    (422, codes "Session Interval Too Small") ∷
    (433, codes "Anonymity Disallowed") ∷
    (480, codes "Temporarily Unavailable") ∷
    (481, codes "Call/Transaction Does Not Exist") ∷
    (482, codes "Loop Detected") ∷
    (483, codes "Too Many Hops") ∷
    (486, codes "Busy Here") ∷
    (487, codes "Request Terminated") ∷
    (488, codes "Not Acceptable Here") ∷
    (489, codes "Bad Event") ∷
    (491, codes "Request Pending") ∷
    (500, codes "Server Internal Error") ∷
    (503, codes "Service Unavailable") ∷
    (513, codes "Message Too Large") ∷
    (603, codes "Decline") ∷ []

-- the reason phrase of the code
abbrev pub phrase_in : Phrases → ℕ → List ℕ
phrase_in [] code = []
phrase_in (row ∷ rows) code = if code == row.0 then row.1 else phrase_in rows code

abbrev pub phrase_of : ℕ → List ℕ
phrase_of code = phrase_in (first_phrases ++ further_phrases) code
