use Rattle.std.proofs.Common.{◌≡◌, rules, FitsSigned, w64}
use Rattle.std.specs.Prelude.{pos}
use Rattle.std.proofs.lemmas.Int.{to_z-of_z}
use Rattle.std.proofs.lemmas.Option.{slice_get-get_or}
use Rattle.term_tree.specs.declared.sort.Sort.TheVariants.{Int}
use Rattle.interpretations.proofs.MakingLemmas.{plain-product, scaled-product}
use Rattle.interpretations.proofs.sums.product.Goals as goal

pub returns-clause-added : goal.returns-clause-added
returns-clause-added c =
    let fits : FitsSigned w64 c.args.term.now.1 = search rules in
    scaled-product c.args.sorts.now c.args.term.now _ c.args.terms.now.nodes c.scaled.new.terms.nodes c.in_ok-id-2.id (slice_get-get_or c.args.sorts.now c.args.term.now.0 Int c.requires.there) (search rules)
    (simp to_z-of_z at c.in_ok-id-2.ensures.added)

pub returns-then-coefficient-eq1-clause-added : goal.returns-then-coefficient-eq1-clause-added
returns-then-coefficient-eq1-clause-added c =
    let one : c.args.term.now.1 ≡ pos 1 = search rules in
    plain-product c.args.sorts.now c.args.term.now _ c.args.terms.now.nodes c.argument.new.terms.nodes c.in_ok-id.id (slice_get-get_or c.args.sorts.now c.args.term.now.0 Int c.requires.there) one
    c.in_ok-id.ensures.added
