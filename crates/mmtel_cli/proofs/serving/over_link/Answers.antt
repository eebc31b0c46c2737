use Rattle.mmtel_cli.proofs.ServeRuns.{just_made}
use Rattle.mmtel_cli.specs.OutOfMemory.{AbortedServeListening}
use Rattle.mmtel_cli.proofs.serving.over_link.Goals as goal

pub returns-in-Ok-clause-served : goal.returns-in-Ok-clause-served
returns-in-Ok-clause-served g c = λ start. λ linked. λ opened.
    c.over_server-due.ensures.served _ _ _ start (just_made _ _ _ _ c.in-Ok.ensures.begins) linked opened

pub returns-in-Err-clause-served : goal.returns-in-Err-clause-served
returns-in-Err-clause-served g c = λ start. λ linked. λ opened. λ suited. AbortedServeListening _ opened linked
