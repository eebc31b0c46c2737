use Rattle.std.specs.Prelude.{codes}
use Rattle.mmtel_workload.specs.Messages.{identifier_text}
use Rattle.mmtel_workload.proofs.CallAfter.{behind_two, on_ok_by}
use Rattle.mmtel_workload.proofs.calls.Call.add_via_and_from.Goals as goal

pub returns : goal.returns
returns c = record {
  added = on_ok_by c.push.result c.push.ensures.ok (λ e. behind_two c.args.text.now (codes "Via: SIP/2.0/UDP 127.0.0.1:5060;branch=z9hG4bK")
      (identifier_text c.args.self c.args.branch) (codes "\r\nFrom: <sip:alice@home.example>;tag=") (identifier_text c.args.self 3) (codes "\r\n")
      _ _ _ c.in_ok-add_identifier.ensures.added c.in_ok-add_identifier-2.ensures.added e);
}
