-- The no-reply time: when a ringing call counts as not answered (3GPP TS 24.604 §4.9.1, communication forwarding on no reply).
use Rattle.std.specs.Prelude.{ℕ, ◌*◌, Bool, true, false, Option, Some, None, if◌then◌else◌}
use Rattle.std.specs.List.{list_any}
use Rattle.mmtel_sheet_values.specs.declared.values.EventWord.{EventWord}
use Rattle.mmtel_sheet_values.specs.declared.values.EventWord.TheVariants.{Busy, NoAnswer, NotReachable, NotRegistered}
use Rattle.mmtel_sheet_values.specs.declared.values.DiversionPart.{DiversionPart}
use Rattle.mmtel_sheet_values.specs.declared.values.Rule.{Rule}
use Rattle.mmtel_sheet_values.specs.declared.values.Sheet.{Sheet}

-- the event of no answer
abbrev pub is_no_answer : Option EventWord → Bool
is_no_answer None = false
is_no_answer (Some Busy) = false
is_no_answer (Some NoAnswer) = true
is_no_answer (Some NotReachable) = false
is_no_answer (Some NotRegistered) = false

-- a rule for calls that are not answered
abbrev pub is_no_answer_rule : Rule → Bool
is_no_answer_rule rule = is_no_answer rule.condition.event

-- of a diversion that is active: in milliseconds, where it has such a rule
abbrev pub part_no_reply_time : DiversionPart → Option ℕ
part_no_reply_time part = if list_any is_no_answer_rule part.rules then Some (part.no_reply * 1000) else None

abbrev pub diversion_no_reply_time : Option DiversionPart → Option ℕ
diversion_no_reply_time None = None
diversion_no_reply_time (Some part) = part_no_reply_time part

-- of a sheet
abbrev pub no_reply_time : Sheet → Option ℕ
no_reply_time sheet = diversion_no_reply_time sheet.diversion
