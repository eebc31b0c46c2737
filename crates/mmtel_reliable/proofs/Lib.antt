mod ResponseTheorems
mod EventTheorems
mod RackTheorems
mod Representation
