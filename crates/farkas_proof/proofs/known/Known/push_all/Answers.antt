use Rattle.std.proofs.Common.{List, take, length, ap, sym, ◌∙◌}
use Rattle.lin_atoms.specs.declared.lit.Lit.{Lit}
use Rattle.farkas_proof.specs.machinery.Ends.{ends_from}
use Rattle.farkas_proof.proofs.KnownLemmas.{kept-push}
use Rattle.farkas_proof.proofs.known.Known.push_all.Goals as goal

pub invariant_of-self-2 : goal.invariant_of-self-2
invariant_of-self-2 c =
    let ends = c.self.inside.ends.items in
    kept-push ends c.self.inside.lits.items c.args.lits.items c.self.invariant ∙ ap (λ (xs : List Lit). ends_from 0 (take (length ends) xs)) (sym c.in_ok-append.ensures.items)
