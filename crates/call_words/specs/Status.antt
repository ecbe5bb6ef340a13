-- The number by which the program tells how it ended.
use Rattle.std.specs.Prelude.{ℕ}
use Rattle.call_words.specs.declared.status.Status.{Status}
use Rattle.call_words.specs.declared.status.Status.TheVariants.{Answered, Refused, Usage, ReadFault, WriteFault, Memory, Wrong, NotShown}

-- the exit status of the process, from 0 to 7: 0 where the call was answered, and another for each other end
abbrev pub status_number : Status → ℕ
status_number Answered = 0
status_number Refused = 1
status_number Usage = 2
status_number ReadFault = 3
status_number WriteFault = 4
status_number Memory = 5
status_number Wrong = 6
status_number NotShown = 7
