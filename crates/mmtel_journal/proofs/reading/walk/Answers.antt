use Rattle.std.proofs.Common.{◌-◌, List, ℕ, [], ◌∷◌, ◌++◌, inr, refl, ap, arith, rules, length, length-append, take, drop}
use Rattle.mmtel_keeper.specs.Contents.{KeeperContents}
use Rattle.mmtel_journal.specs.Journal.{encoded_records}
use Rattle.mmtel_journal.specs.Keepers.{no_contents}
use Rattle.mmtel_journal.proofs.JournalContents.{adds_push}
use Rattle.mmtel_journal.proofs.Frames.{unread}
use Rattle.mmtel_journal.proofs.ReadRecords.{Opens, opens_is, record_next}
use Rattle.mmtel_journal.proofs.ReadPayloads.{took_whole, took_none}
use Rattle.mmtel_journal.proofs.reading.walk.Goals as goal

pub returns-then-not-branch-clause-broken : goal.returns-then-not-branch-clause-broken
returns-then-not-branch-clause-broken c =
    let inv = c.loop-rest.invariant in
    let rest : List ℕ = c.loop-rest.rest.now in
    let tail : List ℕ = take (length rest - 1) (drop 1 rest) in
    let payload : List ℕ = c.in-Some.payload.now in
    let held : KeeperContents = record { sheets = c.loop-rest.sheets.texts; rows = c.loop-rest.rows.items } in
    let after : KeeperContents = record { sheets = c.read_payload.new.sheets.texts; rows = c.read_payload.new.rows.items } in
    let opens : Opens rest tail = record { long = c.in-1.len_at_least; gate = search rules; behind = refl } in
    let no = took_none payload held after c.in_ok-read_payload.field-0 c.if-not-branch.true c.in_ok-read_payload.ensures in (
      inv.0,
      rest,
      held,
      inv.2,
      inv.1,
      omega (arith, ap length inv.1, length-append (encoded_records inv.0) rest),
      inr (tail, opens_is rest tail opens, unread tail payload c.in-Some.behind.now c.in-Some.ensures.found no),
    )

pub loop-rest-preserved : goal.loop-rest-preserved
loop-rest-preserved c =
    let inv = c.loop-rest.invariant in
    let rest : List ℕ = c.loop-rest.rest.now in
    let tail : List ℕ = take (length rest - 1) (drop 1 rest) in
    let payload : List ℕ = c.in-Some.payload.now in
    let held : KeeperContents = record { sheets = c.loop-rest.sheets.texts; rows = c.loop-rest.rows.items } in
    let after : KeeperContents = record { sheets = c.read_payload.new.sheets.texts; rows = c.read_payload.new.rows.items } in
    let opens : Opens rest tail = record { long = c.in-1.len_at_least; gate = search rules; behind = refl } in
    let adds = took_whole payload held after c.in_ok-read_payload.field-0 c.if-not-branch.false c.in_ok-read_payload.ensures in (
      inv.0 ++ payload ∷ [],
      record_next c.args.bytes.now inv.0 rest tail payload c.in-Some.behind.now inv.1 opens c.in-Some.ensures.found.1,
      adds_push inv.0 payload no_contents
          held after inv.2 adds,
    )
