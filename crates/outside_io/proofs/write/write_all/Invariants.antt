use Rattle.std.proofs.Common.{◌≡◌, ◌+◌, ◌-◌, ◌≤◌, length, take}
use Rattle.outside_io.specs.Bytes.{Appends, Uses}
use Rattle.outside_io.proofs.write.write_all.Given as goal

-- the bytes so far were put, each turn put one, and none failed
abbrev pub invariant-loop-at : goal.invariant-loop-at
invariant-loop-at g l =
    let sink = g.K.Sink in
    record {
      within : l.at ≤ length l.bytes;
      put : Appends (take l.at l.bytes) (sink.held l.fn.sink) (sink.held l.sink);
      room : Uses l.at (sink.room l.fn.sink) (sink.room l.sink);
      faults : sink.faults l.sink ≡ sink.faults l.fn.sink;
      named : sink.fails l.sink ≡ sink.fails l.fn.sink;
      turns : sink.turns l.sink ≤ sink.turns l.fn.sink + l.at;
    }

abbrev pub decreases-loop-at : goal.decreases-loop-at
decreases-loop-at g l = length l.bytes - l.at
