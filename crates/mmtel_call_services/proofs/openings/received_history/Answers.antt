-- What the reader returns for values that can be parsed is the list of their entries, which is the list of the message.
use Rattle.std.proofs.Common.{◌≡◌, ℕ, Bool, true, false, if◌then◌else◌, Option, Some, None, List, [], Result, Ok, Err, length, ltb, take}
use Rattle.std.specs.Prelude.{is_ok, codes, position}
use Rattle.mmtel_history.specs.HistoryInfo.{entries_of, entries_result, entries_result_from, is_unreadable}
use Rattle.mmtel_history.specs.declared.entries.Entry.{Entry}
use Rattle.mmtel_message.specs.Message.{line_texts}
use Rattle.mmtel_call_services.proofs.openings.received_history.Goals as goal

of_few : (many : Bool) (values : List (List ℕ)) (h : List Entry) → (let read : Result (List Entry) ℕ = if many then Err 32 else Ok (entries_of values) in read ≡ Ok h) → h ≡ entries_of values
of_few true values h e = cc
of_few false values h e = cc

of_place : (place : Option ℕ) (values : List (List ℕ)) (h : List Entry) → entries_result_from place values ≡ Ok h → h ≡ entries_of values
of_place (Some place) values h e = cc
of_place None values h e = of_few (ltb 32 (length values)) values h e

of_reading : (values : List (List ℕ)) (h : List Entry) → entries_result values ≡ Ok h → h ≡ entries_of values
unfolding entries_result
of_reading values h e = of_place (position is_unreadable (take 32 values)) values h e

of_values : (values : List (List ℕ)) (h : List Entry) → entries_result values ≡ Ok h → h ≡ (if is_ok (entries_result values) then entries_of values else [])
of_values values h e = rw e (of_reading values h e)

pub returns-in-Ok-clause-list : goal.returns-in-Ok-clause-list
returns-in-Ok-clause-list c =
    let said : c.in_ok-values.values ≡ line_texts (codes "History-Info") c.invite.inside.message.lines = rw c.lines.ensures at c.in_ok-values.ensures in
    let read : entries_result (line_texts (codes "History-Info") c.invite.inside.message.lines) ≡ Ok c.in-Ok.history = rw said at c.in-Ok.ensures.exact in
    rw (← c.invite.view_is) (of_values (line_texts (codes "History-Info") c.invite.inside.message.lines) c.in-Ok.history read)
