use Rattle.std.proofs.Common.{map, refl}
use Rattle.term_tree.specs.declared.sort.Sort.{Sort}
use Rattle.term_tree.specs.declared.script.Name.{Name}
use Rattle.test_clauses.proofs.ReadLemmas.{read_formula}
use Rattle.test_clauses.proofs.definitions.formula_of.Goals as goal

pub returns : goal.returns
returns g c =
    let made = c.in-Ok.ensures.formula in
    read_formula c.args.text.now c.args.params.now c.args.tree.now made.0 c.in-Ok.terms c.in-Ok.body.0 (map (λ (p : Name × Sort). p.1) c.args.params.now) c.arena_law.ensures.arena refl made.1 made.2
    (λ id node sub at. c.has_no_divisor.ensures c.if-not-has_no_divisor.false id node at)
