use Rattle.std.proofs.Common.{List, sym, subst}
use Rattle.std.proofs.lemmas.Option.{IfSome_then}
use Rattle.lia_guesses.specs.declared.said.Said.{Said}
use Rattle.lia_divisors.specs.machinery.There.{AreThere}
use Rattle.lia_divisors.proofs.closing.close_by_parts.Goals as goal

pub returns-in-Some : goal.returns-in-Some
returns-in-Some c =
    IfSome_then c.in_ok-found-in-Some.found c.in_ok-found-in-Some.ensures
    (λ tree sound place long are. sound c.args.end place long (subst (λ (ss : List Said). AreThere place.known ss) (sym c.as_slice-in-Some.ensures.value) (c.in_ok-said.ensures place.known are)))
