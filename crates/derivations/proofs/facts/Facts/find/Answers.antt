use Rattle.std.proofs.Common.{◌≡◌, ℕ, Some, subst}
use Rattle.std.specs.Prelude.{◌↔◌}
use Rattle.derivations.specs.Facts.{Concludes}
use Rattle.derivations.proofs.IndexLemmas.{find_is, parts_single}
use Rattle.derivations.proofs.facts.Facts.find.Goals as goal

pub sought-requires : goal.sought-requires
sought-requires c = parts_single c.self.inside.rows.items c.self.inside.notes c.args.pred c.parts_of.result.now c.self.invariant c.parts_of.ensures

pub returns : goal.returns
returns c =
    subst (λ fs. (n : ℕ) → (c.sought.result ≡ Some n) ↔ Concludes fs n (Some c.args.pred) c.args.tuple.now) c.self.view_is
    (find_is c.self.inside.rows.items c.self.inside.notes c.args.pred c.parts_of.result.now c.args.tuple.now c.sought.result c.self.invariant c.parts_of.ensures c.sought.ensures)
