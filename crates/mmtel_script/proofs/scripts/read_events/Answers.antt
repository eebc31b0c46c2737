use Rattle.std.proofs.Common.{◌≡◌, Ok, Err, subst}
use Rattle.mmtel_directory.specs.Lines.{lines_of}
use Rattle.mmtel_script.specs.EventDrafts.{Reads, drafted_events, events_of_lines}
use Rattle.mmtel_script.specs.declared.event_drafts.EventDraft.{EventDraft}
use Rattle.mmtel_script.proofs.EventDraftTheorems.{draft_is_result, fault_is_result}
use Rattle.mmtel_script.proofs.scripts.read_events.Goals as goal

pub returns-in-Ok : goal.returns-in-Ok
returns-in-Ok c =
    let read = subst (λ (t : EventDraft). events_of_lines c.args.peers.now.known 1 t (lines_of c.args.bytes.now) ≡ Ok (drafted_events c.read_lines.new.draft)) c.new-draft.ensures c.in-Ok.ensures in
    draft_is_result c.args.peers.now.known c.args.bytes.now c.read_lines.new.draft c.finish.result read c.finish.ensures

pub returns-in-Err : goal.returns-in-Err
returns-in-Err c =
    let read = subst (λ (t : EventDraft). Reads c.args.peers.now.known (Err c.in-Err.fault) t (lines_of c.args.bytes.now) c.read_lines.new.draft) c.new-draft.ensures c.in-Err.ensures in
    fault_is_result c.args.peers.now.known c.args.bytes.now c.in-Err.fault c.read_lines.new.draft read
