use Rattle.std.proofs.Common.{◌≡◌, ◌++◌, length}
use Rattle.mmtel_directory.specs.Directory.{are_new, entries_of}
use Rattle.mmtel_directory.proofs.drafts.add_identities.Given as goal

abbrev pub invariant-identities : goal.invariant-identities
invariant-identities l = record {
  tests : are_new l.fn.accounts (entries_of l.fn.account l.fn.identities) ≡ are_new l.accounts (entries_of l.account l.rest);
  whole : l.fn.accounts ++ entries_of l.fn.account l.fn.identities ≡ l.accounts ++ entries_of l.account l.rest;
}

abbrev pub decreases-identities : goal.decreases-identities
decreases-identities l = length l.rest
