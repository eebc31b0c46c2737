-- What the clauses of public functions cite. No private function has a clause.
pub mod Addrs
pub mod Causes
pub mod Moments
pub mod Sides
