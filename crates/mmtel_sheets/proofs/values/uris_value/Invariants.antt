use Rattle.std.proofs.Common.{◌≡◌, take}
use Rattle.toml.specs.View.{items_view}
use Rattle.mmtel_sheets.specs.Printing.{each_item, uri_data}
use Rattle.mmtel_sheets.proofs.values.uris_value.Given as goal

abbrev pub invariant-uris : goal.invariant-uris
invariant-uris l = items_view l.array.items ≡ each_item uri_data (take l.uri-index l.uris)
