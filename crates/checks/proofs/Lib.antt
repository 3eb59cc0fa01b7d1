-- What the functions rest on.
mod Asked
mod Named
