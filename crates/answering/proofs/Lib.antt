-- A request that is known, what a result leaves in the buffers, and a feed by each way out of it.
mod Uids
mod General
mod Laws
mod Ways
