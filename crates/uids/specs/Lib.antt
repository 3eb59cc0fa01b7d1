pub mod Uids
