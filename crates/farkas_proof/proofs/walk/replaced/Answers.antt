use Rattle.std.proofs.Common.{◌++◌, ◌∙◌, ap, List, take}
use Rattle.farkas_proof.proofs.WalkLemmas.{replaced-is}
use Rattle.farkas_proof.proofs.walk.replaced.Goals as goal

pub returns : goal.returns
returns c =
    replaced-is c.args.cases.now c.extend_from_slice.new.self.items c.push_disjunctions.new.cases.items c.extend_from_slice-2.new.self.items c.args.which c.min-before.result c.min-behind.result c.args.part.now
    (c.in_ok-extend_from_slice.ensures.items ∙ ap (λ (ms : List _). ms ++ take c.min-before.result c.args.cases.now) c.new-made.ensures.items) c.min-before.ensures c.in_ok-push_disjunctions.ensures c.in_ok-extend_from_slice-2.ensures.items c.min-behind.ensures
