mod ReferResults
mod EmptyAppends
