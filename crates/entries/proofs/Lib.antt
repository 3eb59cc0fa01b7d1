-- Entries and the queue, tested by their bytes.
mod Queue
