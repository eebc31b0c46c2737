-- What public clauses cite, which a user of the crate has to believe.
-- Which command the arguments are:
pub mod Commands
-- What contracts observe of the link and of the keeper:
pub mod Environment
-- A whole run: its text, its status, its calls of the files, the keeper and the link, and its outputs; and what follows for each status:
pub mod Runs
pub mod Listings
pub mod KeeperUse
pub mod Serving
pub mod OutOfMemory
pub mod Workloads
pub mod StatusTheorems
-- The reports that are due, and how each is written (by the calls below the top-level function):
pub mod Due
-- What private functions alone cite.
pub mod KnownEvents
pub mod ReportsDue
pub mod CommandResults
