use Rattle.std.proofs.Common.{◌<◌, ◌≤◌, length, sym, subst}
use Rattle.std.proofs.lemmas.List.{length-map}
use Rattle.derivations.proofs.NoteLemmas.{noted_within}
use Rattle.derivations.proofs.notes.Notes.height.Goals as goal

pub returns-clause-bound : goal.returns-clause-bound
returns-clause-bound c =
    let within : c.args.id < length c.self.inside.table = subst (λ n. c.args.id < n) (length-map c.self.inside.table (λ n. n.fact)) (subst (λ fs. c.args.id < length fs) (sym c.self.view_is) c.requires) in
    subst (λ fs. c.get.result.now.height ≤ length fs) c.self.view_is (noted_within c.self.inside.table c.args.id c.get.result.now c.self.invariant within c.get.ensures)

pub get-requires : goal.get-requires
get-requires c = subst (λ n. c.args.id < n) (length-map c.self.inside.table (λ n. n.fact)) (subst (λ fs. c.args.id < length fs) (sym c.self.view_is) c.requires)
