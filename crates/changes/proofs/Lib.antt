-- A part of what stands in bytes, written alone; the parts of the core; what a change makes of it.
mod Writes
mod Moved
mod Spots
mod Changed
mod Deleted
