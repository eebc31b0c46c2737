-- What the clauses of public functions cite: the grammar, identity, results, what parameters say, the places of a URI, and escaped bytes.
pub mod Grammar
pub mod Identity
pub mod Outcome
pub mod Params
pub mod Percent
pub mod UriParts
-- What they cite as computable functions, which theorems tie to the grammar and to identity. Of Reading the parts of a URI and of a name-addr (user_at to headers_at,
-- scheme_of, number_at, angle_of to quoted_of) serve private functions alone.
pub mod Reading
pub mod SameIdentity
-- The views of the types that borrow from bytes: of Borrowed private functions and the invariant of ParamsRef alone.
pub mod Borrowed
pub mod UriRefs
