-- The laws that the functions rest on.
mod Gathering
