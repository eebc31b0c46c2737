-- The count of a file's faults, as a disk.
use Rattle.std.specs.Prelude.{ℕ}
use Rattle.mmtel_journal.specs.declared.files.FileDisk.{FileDisk}

abbrev pub file_disk_faults : FileDisk → ℕ
file_disk_faults disk = disk.faults
