use Rattle.std.proofs.Common.{◌≡◌, [], ap, ◌∙◌, subst, sym}
use Rattle.mmtel_http.specs.Requests.{request_of}
use Rattle.mmtel_sheet_texts.specs.Texts.{SheetTextsView}
use Rattle.mmtel_web.specs.Handling.{web_of}
use Rattle.mmtel_web.specs.Mailboxes.{counts_put_by}
use Rattle.mmtel_web_service.proofs.KeeperCalls.{call_same, memory_put, memory_reply, no_memory_result, sheet_matches_text}
use Rattle.mmtel_web_service.specs.KeeperCalls.{IsKeeperResult, KeeperCall, keeper_call_by, keeper_call_in}
use Rattle.mmtel_web_service.specs.KeeperOutcomes.{keeper_outcome_view}
use Rattle.mmtel_web_service.proofs.web_requests.serve_bytes.Goals as goal

pub serve_web-requires-clause-its : goal.serve_web-requires-clause-its
serve_web-requires-clause-its g c =
    let names = c.args.directory.now in
    let request = request_of c.args.bytes.now in
    sheet_matches_text names c.args.records.now.texts.texts request c.in-Ok.web c.uploads_are_what_they_say.ensures.text
    (c.in-Ok.ensures.exact ∙ ap (λ (t : SheetTextsView). web_of names t.texts request) c.texts.ensures.all)

pub returns-in-Ok-clause-keeper : goal.returns-in-Ok-clause-keeper
returns-in-Ok-clause-keeper g c =
    let names = c.args.directory.now in
    let request = request_of c.args.bytes.now in
    let texts = c.args.records.now.texts.texts in
    let asked : keeper_call_by c.in-Ok.web ≡ keeper_call_in names request =
    ap keeper_call_by (c.in-Ok.ensures.exact ∙ ap (λ (t : SheetTextsView). web_of names t.texts request) c.texts.ensures.all)
    ∙ call_same names texts request c.uploads_are_what_they_say.ensures.replies in
    let P : KeeperCall → Type 0 = λ k. IsKeeperResult k (keeper_outcome_view c.serve_web.result.outcome) c.serve_web.result.rows
    (g.K.Keeper.contents c.args.keeper.now) (g.K.Keeper.contents c.serve_web.new.keeper) (g.K.Keeper.calls c.args.keeper.now) (g.K.Keeper.calls c.serve_web.new.keeper) in
    subst P asked c.serve_web.ensures.keeper

pub returns-in-Err-clause-reply : goal.returns-in-Err-clause-reply
returns-in-Err-clause-reply g c =
    rw c.out_of_memory.ensures (sym (memory_reply [] (web_of c.args.directory.now c.args.records.now.texts.texts (request_of c.args.bytes.now))))

pub returns-in-Err-clause-keeper : goal.returns-in-Err-clause-keeper
returns-in-Err-clause-keeper g c =
    let call = keeper_call_in c.args.directory.now (request_of c.args.bytes.now) in
    rw c.out_of_memory.ensures (no_memory_result call c.new.result (g.K.Keeper.contents c.args.keeper.now) (g.K.Keeper.calls c.args.keeper.now))

pub returns-in-Ok-clause-put : goal.returns-in-Ok-clause-put
returns-in-Ok-clause-put g c =
    let names = c.args.directory.now in
    let request = request_of c.args.bytes.now in
    let kept = keeper_outcome_view c.serve_web.result.outcome in
    c.serve_web.ensures.put ∙ ap (counts_put_by kept) (c.in-Ok.ensures.exact ∙ ap (λ (t : SheetTextsView). web_of names t.texts request) c.texts.ensures.all)
    ∙ c.uploads_are_what_they_say.ensures.put names c.args.records.now.texts.texts request kept

pub returns-in-Err-clause-put : goal.returns-in-Err-clause-put
returns-in-Err-clause-put g c = rw c.out_of_memory.ensures (memory_put (web_of c.args.directory.now [] (request_of c.args.bytes.now)))
