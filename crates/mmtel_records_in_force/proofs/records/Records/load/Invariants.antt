use Rattle.std.proofs.Common.{◌≡◌, [], take}
use Rattle.mmtel_records_in_force.specs.Records.{IsRegisteredBy}
use Rattle.mmtel_records_in_force.specs.Texts.{put_each}
use Rattle.mmtel_records_in_force.proofs.records.Records.load.Given as goal

abbrev pub invariant-loop-account : goal.invariant-loop-account
invariant-loop-account l = record {
  texts : l.records.texts.texts ≡ put_each (take l.account-index l.loaded) [];
  registered : IsRegisteredBy l.records [];
}
