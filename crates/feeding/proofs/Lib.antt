-- The laws of a feed: its response, its records, and each way out of it.
mod Response
pub mod Records
pub mod Feeds
