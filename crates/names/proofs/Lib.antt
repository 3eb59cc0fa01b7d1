-- What one turn of the loop does; some tests, one by one; names and numbers by their bytes.
mod Every
pub mod Tests
mod InPlace
