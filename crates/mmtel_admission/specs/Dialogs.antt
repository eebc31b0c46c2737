-- The name of a dialog that the code read, as that of the definitions.
use Rattle.mmtel_run_definitions.specs.Calls.{DialogName}
use Rattle.mmtel_admission.specs.declared.dialogs.DialogName as declared

abbrev pub name_in : declared.DialogName → DialogName
name_in name = record { call_id = name.call_id; local = name.local; remote = name.remote }
