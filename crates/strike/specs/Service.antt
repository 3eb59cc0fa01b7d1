-- Chapter 6 of the rules (docs/RULES.md): what collecting needs of requests. A failure changes no record, by its form.
use Rattle.std.specs.Prelude.{List, [], ℕ}
use Rattle.strike.specs.declared.Reading.{Reading}
use Rattle.strike.specs.declared.Came.{Came}
use Rattle.strike.specs.declared.Came.TheVariants.{Absent, Whole, TooLong}

-- the data set of a request: what came, and its bytes
pub record DataSet : Type 0 where
  pub came : Came
  pub bytes : List ℕ

abbrev pub no_data : DataSet
no_data = record { came = Absent; bytes = [] }

abbrev pub whole : List ℕ → DataSet
whole d = record { came = Whole; bytes = d }

abbrev pub too_long : DataSet
too_long = record { came = TooLong; bytes = [] }

-- what a request comes to: checks 1 to 10 fail it, 11 does it
pub data Result (Core Response : Type 0) : Type 0 where
  fails : Response → Result Core Response
  does : Core → Response → Result Core Response

-- what is handed over with each call beside a fragment, the lengths of lent buffers included; with a close, nothing
pub record Handed : Type 1 where
  pub Start : Type 0
  pub Opening : Type 0
  pub Feed : Type 0
  pub Aside : Type 0

-- start, open, feed one fragment, close, and a call outside messages, such as take
pub data Call (H : Handed) : Type 0 where
  start : H.Start → Call H
  opening : H.Opening → Call H
  feed : List ℕ → H.Feed → Call H
  close : Call H
  aside : H.Aside → Call H

-- "A call refused", all lines but the fifth: none of them holds, or the number of the first that does
pub data Check : Type 0 where
  passes : Check
  refuses : ℕ → Check

pub record Service : Type 1 where
  -- all that the records hold but the message half collected
  pub Core : Type 0
  pub handed : Handed
  -- what is answered to a request, and to a call outside messages
  pub Response : Type 0
  pub Told : Type 0
  pub check : Core → Call handed → Check
  pub started : handed.Start → Core
  pub opened : Core → handed.Opening → Core
  pub closed : Core → Core
  pub asked : Core → handed.Aside → Core × Told
  -- what the open fixed: the context number, and the length of the message buffer
  pub context : Core → ℕ
  pub room : Core → ℕ
  pub reading : List ℕ → Reading
  pub request : Core → List ℕ → DataSet → Result Core Response
