use Rattle.std.proofs.Common.{Bool, Option, ap, ◌∙◌, sym, refl}
use Rattle.std.proofs.lemmas.Result.{on_err_weaker, on_ok_weaker}
use Rattle.mmtel_b2bua.specs.Operations.{CallsView}
use Rattle.mmtel_directory.specs.declared.directories.Directory.{Directory}
use Rattle.std.specs.Option.{option_map}
use Rattle.mmtel_admission.specs.Dispositions.{dialog_owner_in as owner_of, disposition_in}
use Rattle.mmtel_run_definitions.specs.Calls.{are_full}
use Rattle.mmtel_run_definitions.specs.Refusals.{disposition}
use Rattle.mmtel_run_definitions.specs.Ownership.{DialogOwner}
use Rattle.mmtel_run_definitions.specs.Transitions.{RunState, after_disposition, after_new_request, calls_in, dialog_owner_in}
use Rattle.mmtel_transaction.specs.Results.{is_merged}
use Rattle.mmtel_transaction.specs.Operations.{live}
use Rattle.mmtel_server.proofs.Owners.{breaks_so, follows_so}
use Rattle.mmtel_server.proofs.Dispositions.{opened_below}
use Rattle.mmtel_server.proofs.Grows.{stops, takes_fresh}
use Rattle.mmtel_server.proofs.servers.Server.receive_new_request.Goals as goal

pub returns-in-Err-clause-err : goal.returns-in-Err-clause-err
returns-in-Err-clause-err g c = stops (λ d token. after_new_request d token c.args.context.now.at c.args.key c.args.request) c.args.self.now c.args.out.now c.args.out.now
    (λ d token w. takes_fresh c.numbers_never_fall.ensures d token c.args.context.now.at c.args.key c.args.request w) refl

pub returns-in-Err-disposition-clause-err : goal.returns-in-Err-disposition-clause-err
returns-in-Err-disposition-clause-err g c = stops (λ d token. after_new_request d token c.args.context.now.at c.args.key c.args.request) c.args.self.now c.args.out.now c.args.out.now
    (λ d token w. takes_fresh c.numbers_never_fall.ensures d token c.args.context.now.at c.args.key c.args.request w) refl

pub perform_disposition-requires : goal.perform_disposition-requires
perform_disposition-requires g c = record {
  below = λ opens. sym c.is_full-is_full.ensures
      ∙ opened_below c.args.self.now.directory c.merged-is_merged.result c.is_full-is_full.result (option_map owner_of c.in-Ok.owner) c.args.request.parsed (sym c.in-Ok-disposition.ensures.disposition ∙ opens);
  audio = c.in-Ok-disposition.ensures.audio;
}

pub returns-clause-done : goal.returns-clause-done
returns-clause-done g c = on_ok_weaker c.perform_disposition.result (λ follows.
    let m = c.args.request.parsed in
    let s = c.args.self.now in
    let merged : RunState → Bool = λ w. is_merged c.args.key.0 (live w.actions) in
    let full : Directory → RunState → Bool = λ d w. are_full (calls_in d w).entries in
    follows_so (disposition_in c.in-Ok-disposition.chosen) (λ d w. disposition d (merged w) (full d w) (dialog_owner_in d m w) m)
    (λ x d token. after_disposition d token c.args.context.now.at c.args.key c.args.request x) s c.args.out.now
    (λ d token w have. c.in-Ok-disposition.ensures.disposition
    ∙ (ap (λ (b : Bool). disposition s.directory b c.is_full-is_full.result (option_map owner_of c.in-Ok.owner) m) (c.merged-is_merged.ensures.live w.actions have.transactions)
    ∙ (ap (λ (b : Bool). disposition s.directory (merged w) b (option_map owner_of c.in-Ok.owner) m) (c.is_full-is_full.ensures ∙ ap (λ (v : CallsView). are_full v.table.entries) have.calls)
    ∙ (ap (λ (n : Option DialogOwner). disposition s.directory (merged w) (full d w) n m) (c.in-Ok.ensures d token w have)
    ∙ ap (λ (x : Directory). disposition x (merged w) (full d w) (dialog_owner_in d m w) m) have.same_directory))))
    c.perform_disposition.new.self c.perform_disposition.new.out follows)
    c.perform_disposition.ensures.done

pub returns-clause-err : goal.returns-clause-err
returns-clause-err g c = on_err_weaker c.perform_disposition.result (λ breaks.
    let m = c.args.request.parsed in
    let s = c.args.self.now in
    let merged : RunState → Bool = λ w. is_merged c.args.key.0 (live w.actions) in
    let full : Directory → RunState → Bool = λ d w. are_full (calls_in d w).entries in
    breaks_so (disposition_in c.in-Ok-disposition.chosen) (λ d w. disposition d (merged w) (full d w) (dialog_owner_in d m w) m)
    (λ x d token. after_disposition d token c.args.context.now.at c.args.key c.args.request x) s c.args.out.now
    (λ d token w have. c.in-Ok-disposition.ensures.disposition
    ∙ (ap (λ (b : Bool). disposition s.directory b c.is_full-is_full.result (option_map owner_of c.in-Ok.owner) m) (c.merged-is_merged.ensures.live w.actions have.transactions)
    ∙ (ap (λ (b : Bool). disposition s.directory (merged w) b (option_map owner_of c.in-Ok.owner) m) (c.is_full-is_full.ensures ∙ ap (λ (v : CallsView). are_full v.table.entries) have.calls)
    ∙ (ap (λ (n : Option DialogOwner). disposition s.directory (merged w) (full d w) n m) (c.in-Ok.ensures d token w have)
    ∙ ap (λ (x : Directory). disposition x (merged w) (full d w) (dialog_owner_in d m w) m) have.same_directory))))
    c.perform_disposition.new.out breaks)
    c.perform_disposition.ensures.err
