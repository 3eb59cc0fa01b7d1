-- The promises about the book.
-- Lists, and what the rules of the records say.
pub mod ListLaws
pub mod Facts
pub mod Places
pub mod Later
pub mod Standings
pub mod Layouts
pub mod Positions
pub mod Pictures
pub mod Instances
pub mod NewNames
-- The rules of the records are kept: calls, sessions, films, boxes, printing; requests, calls and runs.
pub mod Calls
pub mod Sessions
pub mod NewSession
pub mod Films
pub mod NewFilm
pub mod Boxes
pub mod Printing
pub mod Decided
pub mod Statuses
pub mod Steps
pub mod Collecting
pub mod Kept
-- What is live, and its UIDs.
pub mod LiveUids
pub mod Parents
pub mod Created
-- Numbers and tickets.
pub mod Numbers
pub mod Tickets
-- What is replied is read back, and fits.
pub mod ReplySizes
pub mod Held
pub mod ReadBack
pub mod FilmBack
pub mod Replies
-- Records and bytes: what a call packs, the next one unpacks.
pub mod Packed
pub mod Sized
pub mod SizedAfter
pub mod SizedSteps
pub mod Good
pub mod Tidy
pub mod Unpacked
pub mod Next
pub mod NextCalls
-- What a take and a feed write into lent buffers is read back.
pub mod EntryBack
pub mod Notes
pub mod Noted
pub mod ReportBack
pub mod LentBack
-- Strike-out, a run of it, and the fakes that it admits.
pub mod StrikeOut
pub mod Run
pub mod Fakes
