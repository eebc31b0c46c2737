mod Removals
mod Lines
mod Roundtrip
mod Injectivity
