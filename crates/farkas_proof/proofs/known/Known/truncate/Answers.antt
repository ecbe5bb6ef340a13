use Rattle.std.proofs.Common.{List, ℕ, take, length, ap, sym, ◌∙◌}
use Rattle.lin_atoms.specs.declared.lit.Lit.{Lit}
use Rattle.farkas_proof.specs.machinery.Ends.{ends_from}
use Rattle.farkas_proof.proofs.KnownLemmas.{kept-truncate}
use Rattle.farkas_proof.proofs.known.Known.truncate.Goals as goal

pub invariant_of-self : goal.invariant_of-self
invariant_of-self c =
    let depth = c.args.depth in
    c.truncate-2.ensures.items ∙ kept-truncate depth c.self.inside.ends.items c.self.inside.lits.items c.self.invariant
    ∙ ap (λ (xs : List Lit). ends_from 0 (take (length (take depth c.self.inside.ends.items)) xs)) (sym c.truncate.ensures.items)
    ∙ ap (λ (ns : List ℕ). ends_from 0 (take (length ns) c.truncate.new.self.items)) (sym c.truncate-2.ensures.items)
