use Rattle.mmtel_lex.proofs.UriContract.{one_uri, uri_or_foreign}
use Rattle.mmtel_lex.proofs.theorems.uris_are_unique.Goals as goal

pub returns : goal.returns
returns c = record { one = one_uri; not_foreign = uri_or_foreign }
