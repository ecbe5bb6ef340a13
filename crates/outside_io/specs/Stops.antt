-- What the stop of a reading says of the count of faults.
use Rattle.std.specs.Prelude.{ℕ, Ok, Err}
use Rattle.std.specs.declared.result.Result.{Result}
use Rattle.outside_io.specs.Counts.{counted}
use Rattle.outside_io.specs.declared.read.ReadStop.{ReadStop}
use Rattle.outside_io.specs.declared.read.ReadStop.TheVariants.{Memory, TooLong, ReadFault}

-- the count of faults after a reading: it rises, by one, exactly where the source failed
abbrev pub faults_after_reading : {T : Type 0} → Result T ReadStop → ℕ → ℕ
faults_after_reading (Ok bytes) n = n
faults_after_reading (Err Memory) n = n
faults_after_reading (Err TooLong) n = n
faults_after_reading (Err ReadFault) n = counted n
