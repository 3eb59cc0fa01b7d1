-- A take by the number of the first rule that it breaks; the oldest entry in bytes; the queue without it.
mod Answers
mod Entry
mod Moved
