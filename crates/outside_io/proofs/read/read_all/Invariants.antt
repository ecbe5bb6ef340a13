use Rattle.std.proofs.Common.{◌≡◌, ◌+◌, ◌-◌, ◌≤◌, vec_len}
use Rattle.outside_io.specs.Bytes.{Takes}
use Rattle.outside_io.proofs.read.read_all.Given as goal

-- what was taken stands before what is left, each turn took a byte, and none failed or was the end
abbrev pub invariant-loop-buffer : goal.invariant-loop-buffer
invariant-loop-buffer g l =
    let source = g.S.Source in
    record {
      taken : Takes l.bytes.items (source.left l.fn.src) (source.left l.src);
      within : vec_len l.bytes ≤ l.limit + 1;
      faults : source.faults l.src ≡ source.faults l.fn.src;
      ends : source.ends l.src ≡ source.ends l.fn.src;
      named : source.fails l.src ≡ source.fails l.fn.src;
      turns : source.turns l.src ≤ source.turns l.fn.src + vec_len l.bytes;
    }

abbrev pub decreases-loop-buffer : goal.decreases-loop-buffer
decreases-loop-buffer g l = l.limit + 1 - vec_len l.bytes
