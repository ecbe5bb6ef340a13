use Rattle.std.proofs.Common.{◌≡◌, List, [], ◌∷◌, ◌++◌, Bool, not, refl, sym, ap, ◌∙◌, arith}
use Rattle.std.specs.Prelude.{None}
use Rattle.std.specs.List.{list_any}
use Rattle.term_tree.specs.declared.script.Pred.{Pred}
use Rattle.term_check.specs.Spelling.{pred_from}
use Rattle.sort_check.specs.Commands.{is_check_sat, declared, declaration_fault, predicate_named}
use Rattle.sort_check.specs.Commands.Command.{Declare}
use Rattle.sort_check.proofs.StateLemmas.{and_false, or_false, one_more, let_through}
use Rattle.sort_check.proofs.RuleLemmas.{declared_facts}
use Rattle.sort_check.proofs.state.State.declare.Goals as goal

pub declare-requires-clause-room : goal.declare-requires-clause-room
declare-requires-clause-room c =
    let facts = declared_facts c.args.text.now (not c.args.self.now.is_checked) c.args.self.now.signature c.args.start c.args.name.now c.args.sorts.now c.args.last.now (sym c.declaration_fault-found.ensures ∙ c.in_default.is) in
    omega (arith, facts.0)

pub declare-requires-clause-new : goal.declare-requires-clause-new
declare-requires-clause-new c =
    let facts = declared_facts c.args.text.now (not c.args.self.now.is_checked) c.args.self.now.signature c.args.start c.args.name.now c.args.sorts.now c.args.last.now (sym c.declaration_fault-found.ensures ∙ c.in_default.is) in
    ap (λ (p : Pred). pred_from 0 p.name.bytes c.args.self.now.signature) c.in_ok-pred.ensures ∙ facts.1

pub returns : goal.returns
returns c before h =
    let self = c.args.self.now in
    let pred = predicate_named c.args.text.now c.args.name.now c.args.sorts.now in
    let fault : declaration_fault c.args.text.now (not (list_any is_check_sat before)) (declared before) c.args.start c.args.name.now c.args.sorts.now c.args.last.now ≡ None =
    ap (λ (b : Bool). declaration_fault c.args.text.now (not b) (declared before) c.args.start c.args.name.now c.args.sorts.now c.args.last.now) (sym h.checked)
    ∙ ap (λ (ps : List Pred). declaration_fault c.args.text.now (not self.is_checked) ps c.args.start c.args.name.now c.args.sorts.now c.args.last.now) (sym h.declared)
    ∙ sym c.declaration_fault-found.ensures ∙ c.in_default.is in
    let_through before _ (Declare pred) _ fault
    (one_more before (Declare pred) self _ h (record {
      commands = refl;
      silent = sym (and_false self.is_silent);
      logic = sym (or_false self.has_logic);
      checked = sym (or_false self.is_checked);
      over = sym (or_false self.is_over);
    }) refl (c.in_ok-declare.ensures.declared ∙ ap (λ (p : Pred). self.signature ++ p ∷ []) c.in_ok-pred.ensures) refl refl)
