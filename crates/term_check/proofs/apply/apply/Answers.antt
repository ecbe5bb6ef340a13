use Rattle.std.proofs.Common.{◌≡◌, List, length, FitsSigned, sym, ap, ◌∙◌, rules}
use Rattle.std.specs.Int.{w64}
use Rattle.std.proofs.lemmas.Int.{to_z-of_z}
use Rattle.std.specs.Prelude.{Ok, None}
use Rattle.term_tree.specs.declared.sort.Sort.{Sort}
use Rattle.term_check.specs.Rules.{applied, declared_fault}
use Rattle.term_check.specs.Spelling.{sorts_of}
use Rattle.term_check.specs.machinery.Reading.{divisor_of}
use Rattle.term_check.proofs.ApplyLemmas.{first_there, one_of_head, operator_told, declared_told, divisible_told, divisible_refused}
use Rattle.term_check.proofs.apply.apply.Goals as goal

pub returns-in-Ok-clause-told : goal.returns-in-Ok-clause-told
returns-in-Ok-clause-told c =
    let is : applied c.in-Operator.op c.args.start c.args.parts.now ≡ Ok c.in-Ok.part = sym c.applied.ensures ∙ c.in-Ok.is in
    operator_told c.args.preds.now c.args.head c.in-Operator.op c.args.start c.args.ids.items c.from_vec-args.result c.args.parts.now c.args.next c.in-Ok.part c.args.terms.now c.add_found.new.terms c.add_found.result
    c.in-Operator.is is c.from_vec-args.ensures c.add_found.ensures.keeps c.add_found.ensures.added

pub returns-in-Declared-clause-told : goal.returns-in-Declared-clause-told
returns-in-Declared-clause-told c =
    let is : declared_fault (sorts_of c.args.preds.now c.in-Declared.pred) c.args.parts.now ≡ None = ap (λ (ss : List Sort). declared_fault ss c.args.parts.now) (sym c.sorts_of.ensures) ∙ sym c.declared_fault.ensures ∙ c.in-None.is in
    declared_told c.args.preds.now c.args.head c.in-Declared.pred c.args.start c.args.ids.items c.from_vec-args-in-None.result c.args.parts.now c.args.next c.bool_part.result c.args.terms.now c.add_found-in-None.new.terms c.add_found-in-None.result
    c.in-Declared.is is c.bool_part.ensures c.from_vec-args-in-None.ensures c.add_found-in-None.ensures.keeps c.add_found-in-None.ensures.added

pub returns-in-Ok-divisor-clause-told : goal.returns-in-Ok-divisor-clause-told
returns-in-Ok-divisor-clause-told c =
    let is : divisor_of c.in-Divisibility.by c.args.start c.args.parts.now ≡ Ok c.in-Ok-divisor.by = sym c.divisor.ensures ∙ c.in-Ok-divisor.is in
    let fits : FitsSigned w64 c.in-Ok-divisor.by = search rules in
    let first = first_there c.args.ids.items c.index.result.now (one_of_head c.args.preds.now c.args.head c.args.start (length c.args.ids.items) c.in-Divisibility.by c.in-Divisibility.is c.requires.number) c.index.ensures in
    let added = simp to_z-of_z at c.add_found-in-Ok-divisor.ensures.added in
    divisible_told c.args.preds.now c.args.head c.in-Divisibility.by c.in-Ok-divisor.by c.args.start c.args.ids.items c.args.parts.now c.args.next c.index.result.now c.bool_part-in-Ok-divisor.result c.args.terms.now c.add_found-in-Ok-divisor.new.terms c.add_found-in-Ok-divisor.result
    c.in-Divisibility.is is c.bool_part-in-Ok-divisor.ensures first c.add_found-in-Ok-divisor.ensures.keeps added

pub returns-clause-told : goal.returns-clause-told
returns-clause-told c = λ lets g told. divisible_refused c.args.preds.now c.args.head c.in-Divisibility.by c.args.start c.args.parts.now c.in-Err-divisor.fault g c.in-Divisibility.is (sym c.divisor.ensures ∙ c.in-Err-divisor.is) told.parts_are
