-- The array of the records is whole; the parts of the core are read where they stand; texts are bytes; blank places hold zeros; a part is written alone.
pub mod Whole
pub mod Parts
pub mod Texts
pub mod Blank
pub mod Alone
