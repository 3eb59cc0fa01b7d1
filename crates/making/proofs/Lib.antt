-- What the functions rest on.
mod Compared
mod Written
