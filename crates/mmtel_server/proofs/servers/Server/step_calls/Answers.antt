use Rattle.std.proofs.Common.{◌∷◌, ◌≡◌, List, subst}
use Rattle.mmtel_b2bua.specs.Operations.{TableOp, Receives, ReceivedSignal, Represents, step_on_receive_after, config_of}
use Rattle.mmtel_sheet_values.specs.View.{SheetsInForce}
use Rattle.mmtel_server.proofs.Calls.{hear}
use Rattle.mmtel_server.proofs.servers.Server.step_calls.Goals as goal

pub returns-in-Ok : goal.returns-in-Ok
returns-in-Ok c = λ directory token before out state did.
    let s = c.args.self.now in
    let peers = s.directory.peers in
    let accounts = s.directory.names.accounts in
    let received : SheetsInForce → ReceivedSignal = λ v. record { at = c.args.context.now.at; view = v; tokens = s.tokens; signal = c.args.signal } in
    hear c.records_are_those_kept.ensures.reported c.records_are_those_kept.ensures.seen c.numbers_never_fall.ensures
    directory token before out s state did c.view.ensures.agrees c.args.context.now.at c.args.signal
    c.signal.new.self c.collect_rows_of_calls.new.calls c.signal.new.tokens c.in-Ok.emits c.collect_rows_of_calls.new.waiting
    (subst (λ (v : SheetsInForce). (ops : List TableOp) → Represents peers accounts s.calls ops → Represents peers accounts c.signal.new.self (Receives (received v) ∷ ops)) c.view.ensures.all c.in-Ok.ensures.done)
    (subst (λ (v : SheetsInForce). (ops : List TableOp) → Represents peers accounts s.calls ops → c.in-Ok.emits ≡ (step_on_receive_after (config_of s.calls peers accounts) ops (received v)).output.out)
    c.view.ensures.all c.in-Ok.ensures.emits)
    (subst (λ (v : SheetsInForce). (ops : List TableOp) → Represents peers accounts s.calls ops → c.signal.new.tokens ≡ (step_on_receive_after (config_of s.calls peers accounts) ops (received v)).output.tokens)
    c.view.ensures.all c.in-Ok.ensures.tokens)
    c.in-Ok.ensures.config
    c.in_ok-collect_rows_of_calls-in-Ok.ensures.waiting c.in_ok-collect_rows_of_calls-in-Ok.ensures.done c.in_ok-collect_rows_of_calls-in-Ok.ensures.config
