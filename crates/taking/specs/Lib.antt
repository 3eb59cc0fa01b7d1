pub mod Oldest
