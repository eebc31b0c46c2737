-- the output is the INVITE in the dialog that it creates
use Rattle.std.proofs.Common.{rules, ◌∙◌, ap, sym}
use Rattle.mmtel_output.specs.declared.outputs.StepOutput.{StepOutput}
use Rattle.mmtel_leg.specs.declared.dialogues.Dialogue.{Dialogue}
use Rattle.mmtel_lex.specs.Grammar.{uri_text}
use Rattle.mmtel_participants.specs.Inviting.{ReferStep, invitation_dialog, with_invite_sent}
use Rattle.mmtel_participants.specs.Targets.{target_of}
use Rattle.mmtel_participants.proofs.ReferResults.{refer_step_started}
use Rattle.mmtel_participants.proofs.inviting.invite_referred.Goals as goal

pub returns-in_ok-seat-in-Ok-clause-output : goal.returns-in_ok-seat-in-Ok-clause-output
returns-in_ok-seat-in-Ok-clause-output c =
    c.in_ok-seat-in-Ok.ensures.output
    ∙ (ap (λ (d : Dialogue). with_invite_sent c.args.step.now.config c.args.step.now.at c.args.next.room c.args.next.seat c.args.next.number d c.begin_dialog.new.output) c.in_ok-dialogue-in-Ok.ensures.dialogue
    ∙ (ap (λ (output : StepOutput). with_invite_sent c.args.step.now.config c.args.step.now.at c.args.next.room c.args.next.seat c.args.next.number
    (invitation_dialog c.args.step.now.config c.args.next.room c.in-Ok.peer (uri_text (target_of c.in-Some.uri)) c.args.output.now) output) c.in_ok-dialogue-in-Ok.ensures.output
    ∙ ap (λ (b : ReferStep). b.output)
    (sym (refer_step_started c.args.step.now.config c.args.step.now.at c.args.next c.args.by c.args.participants.now c.args.uri c.in-Some.uri c.in-Ok.peer c.args.output.now (search rules) (search rules)))))
