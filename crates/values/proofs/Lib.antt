-- What each test says, and what short values hold.
mod Octets
mod Turns
