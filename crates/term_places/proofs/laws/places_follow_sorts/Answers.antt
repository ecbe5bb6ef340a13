use Rattle.std.proofs.Common.{◌+◌, arith}
use Rattle.term_tree.specs.Sorts.{sort_of}
use Rattle.linear_terms.specs.declared.standing.Standing.TheVariants.{Plain}
use Rattle.term_tables.specs.machinery.Table.{sort_in}
use Rattle.term_places.proofs.SortingLemmas.{placed_same}
use Rattle.term_places.proofs.laws.places_follow_sorts.Goals as goal

pub returns : goal.returns
returns c = λ preds nodes known top arena are fits within.
    placed_same (sort_in known) (sort_of preds nodes) nodes arena (top + 1) (λ id less. are id (omega arith)) (top + 1) (record { id = top; standing = Plain }) (omega arith) (omega arith) within
