-- How a call is offered to a target: the INVITE that opened it is sent there, and the longest time that it may ring starts (RFC 3261 §16.6, TS 24.604 §4.5.2.6).
use Rattle.std.specs.Prelude.{ℕ, ◌+◌, Bool, false, Option}
use Rattle.mmtel_compose.specs.Attempts.{as_callee}
use Rattle.mmtel_compose.specs.declared.attempts.Destination.{Destination}
use Rattle.mmtel_charging.specs.declared.rows.Kind.TheVariants.{Terminating}
use Rattle.mmtel_output.specs.Outputs.{after_draw, token, with_emit}
use Rattle.mmtel_output.specs.SentInvites.{sent_invite}
use Rattle.mmtel_output.specs.Sending.{attempt_dialog, with_attempt_invite}
use Rattle.mmtel_output.specs.declared.outputs.StepOutput.{StepOutput}
use Rattle.mmtel_leg.specs.Legs.{Leg}
use Rattle.mmtel_leg.specs.declared.dialogues.Dialogue.{Dialogue}
use Rattle.mmtel_reliable.specs.Acks as Acks
use Rattle.mmtel_base.specs.Numbers.{next_number}
use Rattle.mmtel_transaction.specs.declared.words.DueWord.TheVariants as due
use Rattle.mmtel_transaction.specs.declared.words.Emit.TheVariants as emit
use Rattle.mmtel_call_services.specs.CopiedHeaders.{attempt_lines}
use Rattle.mmtel_call_services.specs.CallConfig.{CallConfigView}
use Rattle.mmtel_call.specs.Calls.{Attempt, AttemptLegView, Call, Offered, Opening, Service}
use Rattle.mmtel_call.specs.Closing.{StepResult, meter_for}

-- the longest time that an attempt may take, in milliseconds
abbrev pub max_attempt_time : ℕ
max_attempt_time = 180000

-- the number of the next attempt
abbrev pub next_attempt : Call → ℕ
next_attempt c = next_number c.attempts

-- its dialog, before its INVITE is sent
abbrev pub attempt_dialog_of : Opening → Destination → StepOutput → Dialogue
attempt_dialog_of o destination output = attempt_dialog destination o.invite.parsed o.restricted output

-- the INVITE is sent, with what is copied to the target from the INVITE that opened the call, and the longest time starts
abbrev pub with_attempt : CallConfigView → (at : ℕ) → Option Service → (waiting : Bool) → Destination → Call → StepOutput → StepOutput
with_attempt config at service waiting destination c output =
    with_emit (emit.Arm c.opening.number (due.Cap (next_attempt c)) (at + max_attempt_time))
    (with_attempt_invite config.sip destination c.opening.invite.parsed c.opening.restricted (attempt_lines config c.opening c.diversions service destination.peer) waiting output)

-- the target's leg, with the meter of the account that is served there
abbrev pub callee_of : (at : ℕ) → Option Service → Destination → Call → StepOutput → AttemptLegView
callee_of at service destination c output = record {
  leg = record { dialogue = as_callee (attempt_dialog_of c.opening destination output); meter = meter_for Terminating c at service };
  is_early = false;
}

abbrev pub attempt_of : Option Service → Destination → Call → StepOutput → Attempt
attempt_of service destination c output = record {
  number = next_attempt c;
  service = service;
  rang = false;
  invite = sent_invite (attempt_dialog_of c.opening destination output) 1 (token (after_draw (after_draw output)));
}

-- the call is offered, as a waiting call or not
abbrev pub attempt_start : CallConfigView → (at : ℕ) → Leg → Option Service → (waiting : Bool) → Destination → Call → StepOutput → StepResult
attempt_start config at caller service waiting destination c output = record {
  call = record c {
    attempts = next_attempt c;
    acks = Acks.next_attempt c.acks;
    phase = Offered (record { caller = caller; callee = callee_of at service destination c output; attempt = attempt_of service destination c output });
  };
  output = with_attempt config at service waiting destination c output;
}
