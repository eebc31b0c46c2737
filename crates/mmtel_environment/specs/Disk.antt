-- What is known of the system's files and of standard output: how many of their calls have failed so far.
use Rattle.std.specs.Prelude.{ℕ}
use Rattle.mmtel_environment.specs.declared.disk.DiskFiles.{DiskFiles}
use Rattle.mmtel_environment.specs.declared.disk.OutSink.{OutSink}

abbrev pub file_faults : DiskFiles → ℕ
file_faults files = files.faults

abbrev pub sink_faults : OutSink → ℕ
sink_faults sink = sink.faults
