use Rattle.std.proofs.Common.{◌<◌, length, sym, subst}
use Rattle.std.proofs.lemmas.List.{length-map}
use Rattle.derivations.proofs.notes.Notes.fact.Goals as goal

pub get-requires : goal.get-requires
get-requires c = subst (λ n. c.args.id < n) (length-map c.self.inside.table (λ n. n.fact)) (subst (λ fs. c.args.id < length fs) (sym c.self.view_is) c.requires)
