pub mod UntrustedSenders
pub mod Numbers
