-- A call by the number of the first rule that it breaks; what is not there, in zeros.
mod Answers
mod Blank
