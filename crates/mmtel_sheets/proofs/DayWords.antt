-- The words of the first days of a week.
use Rattle.std.proofs.Common.{Bool, false, List, codes}
use Rattle.std.specs.Prelude.{slice_index_or}
use Rattle.toml.specs.Data.{Items, no_items}
use Rattle.mmtel_sheets.specs.Printing.{with_word}

abbrev pub to_monday : List Bool → Items
to_monday days = with_word no_items (slice_index_or days 0 false) (codes "mon")

abbrev pub to_tuesday : List Bool → Items
to_tuesday days = with_word (to_monday days) (slice_index_or days 1 false) (codes "tue")

abbrev pub to_wednesday : List Bool → Items
to_wednesday days = with_word (to_tuesday days) (slice_index_or days 2 false) (codes "wed")

abbrev pub to_thursday : List Bool → Items
to_thursday days = with_word (to_wednesday days) (slice_index_or days 3 false) (codes "thu")

abbrev pub to_friday : List Bool → Items
to_friday days = with_word (to_thursday days) (slice_index_or days 4 false) (codes "fri")

abbrev pub to_saturday : List Bool → Items
to_saturday days = with_word (to_friday days) (slice_index_or days 5 false) (codes "sat")
