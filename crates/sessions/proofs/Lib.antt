-- A session and its label by their bytes.
mod InPlace
