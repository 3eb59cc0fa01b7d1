-- What the functions rest on.
mod Classes
mod Front
mod InPlace
mod Naming
mod Places
mod Serials
mod Soundness
