use Rattle.std.proofs.Common.{sym, subst}
use Rattle.term_tree.specs.declared.scalar.Value.{Value}
use Rattle.term_tree.specs.Truth.{HasValue}
use Rattle.term_tree.specs.Value.{value_of}
use Rattle.term_tree.proofs.LawLemmas.{one_value}
use Rattle.term_tree.proofs.PlainLemmas.{valued}
use Rattle.term_tree.proofs.laws.value_without_predicates.Goals as goal

pub returns : goal.returns
returns c = λ I nodes id env v arena there plain.
    let has = valued I nodes id env arena there plain in
    (λ h. one_value I nodes id env v (value_of nodes id env) h has, λ e. subst (λ (w : Value). HasValue I nodes id env w) (sym e) has)
