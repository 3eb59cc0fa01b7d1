-- The laws of responses: what layers above cite, and what the functions rest on.
mod Under
mod Film
pub mod Response
pub mod Report
