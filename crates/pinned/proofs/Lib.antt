-- More of the book, computed.
mod Requests
mod Pictures
mod Places
mod Collecting
mod Stops
mod Passed
