-- Definitions that a user of the crate has to trust: the grammar of the command line, and the command that a result means.
pub mod CommandLine
pub mod Commands
-- Definitions that private functions cite: the commands as `clap` is configured, and the results of the readers.
pub mod Rules
pub mod Reads
