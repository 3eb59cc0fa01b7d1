-- What the functions rest on.
mod InPlace
mod Laws
