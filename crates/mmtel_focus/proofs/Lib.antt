mod Places
mod ReferResults
mod MarksFound
mod TableInvariant
mod Numbering
