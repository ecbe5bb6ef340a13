use Rattle.std.proofs.Common.{take}
use Rattle.chc_checker.specs.machinery.Parts.{HaveNone, IsRefuted}
use Rattle.chc_checker.proofs.parting.by_parts.Given as goal

-- none of the parts so far has a point with the others
abbrev pub invariant-loop-part : goal.invariant-loop-part
invariant-loop-part l = HaveNone l.others (take l.part-index l.parts) × IsRefuted l.last
