-- What the exported call answers, and leaves in the buffer for place, depth and headers.
use Rattle.std.specs.Prelude.{ℕ, List, ltb, leb, length, Result, Ok, Err}
use Rattle.choice.specs.Pick.{pick, both}
use Rattle.fields.specs.Format.{write, number, ◌then◌}
use Rattle.headers.specs.Header.{syntax_of}
use Rattle.elements.specs.declared.Stop.{Stop}
use Rattle.elements.specs.Reader.{data_set}
use Rattle.elements.specs.Passed.{headers_passed}

pub record Inspected : Type 0 where
  pub answer : ℕ
  pub reading : List ℕ

abbrev pub numbered : ℕ → List ℕ → Inspected
numbered n b = record { answer = n; reading = b }

-- place and depth, of four bytes each
unfoldable pub stop_laid : List ℕ → Stop → List ℕ
stop_laid b stop = write (number 4 then number 4) (stop.place, stop.depth) b 0

-- behind them, how many headers were passed
unfoldable pub headers_laid : List ℕ → ℕ → List ℕ
headers_laid b n = write (number 4) n b 8

-- 0 where all was read, else the refusal, and where the reading stopped
abbrev pub told : List ℕ → Result ℕ Stop → Inspected
told b (Ok q) = numbered 0 b
told b (Err stop) = numbered stop.number (stop_laid b stop)

-- for the bytes in implicit VR (1) or explicit VR (2); 8 for another syntax, 9 for a buffer of less than 12 bytes
unfoldable pub inspected : List ℕ → ℕ → List ℕ → Inspected
inspected s syntax b =
    pick (ltb (length b) 12) (numbered 9 b)
    (pick (both (leb 1 syntax) (leb syntax 2)) (told (headers_laid b (headers_passed s (syntax_of syntax))) (data_set s (syntax_of syntax))) (numbered 8 b))
