-- Documents whose texts are UTF-8 and whose keys ascend in each table, as those of each TOML document do.
use Rattle.std.specs.Prelude.{◌≡◌, true, IsUtf8}
use Rattle.toml.specs.Data.{Data, string, integer, float, boolean, datetime, array, table, Items, no_items, item, Members, no_members, member, is_before}

abbrev mutual
  -- each text in it is UTF-8, and in each table in it the keys ascend, in byte order
  pub IsSound : Data → Type 0
  IsSound (string s) = IsUtf8 s
  IsSound (integer z) = Unit {0}
  IsSound (float x) = Unit {0}
  IsSound (boolean b) = Unit {0}
  IsSound (datetime dt) = Unit {0}
  IsSound (array ds) = IsSoundArray ds
  IsSound (table ms) = IsSoundTable ms

  pub IsSoundArray : Items → Type 0
  IsSoundArray no_items = Unit {0}
  IsSoundArray (item d ds) = IsSound d × IsSoundArray ds

  pub IsSoundTable : Members → Type 0
  IsSoundTable no_members = Unit {0}
  IsSoundTable (member k d ms) = (is_before k ms ≡ true) × IsSound d × IsSoundTable ms
