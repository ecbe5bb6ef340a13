use Rattle.std.proofs.Common.{◌≡◌, ◌-◌, ◌<◌, List, length, get_or, Some, refl, ap, ap₂, sym, ◌∙◌, subst}
use Rattle.std.specs.Prelude.{slice_get}
use Rattle.clause_form.specs.declared.atom.Atom.{Atom}
use Rattle.cube_forms.specs.Cubes.{tuple_at}
use Rattle.obligation_tree.specs.Nodes.{node_at}
use Rattle.obligation_tree.specs.declared.obligation.Obligation.{Obligation as Asked}
use Rattle.step_rules.specs.Taken.{open_of}
use Rattle.chc_core.specs.Contents.{Contents}
use Rattle.chc_core.proofs.AskLemmas.{atom-within, child-is, clause-room, clause-there, clause-within, parent-within}
use Rattle.chc_core.proofs.making.asked.Goals as goal

pub obligation-requires : goal.obligation-requires
obligation-requires c = subst (λ (x : Contents). c.args.step.now.parent < length x.tree.nodes) (sym c.parts.view_is) (parent-within c.args.parts.now c.args.step.now c.requires)

pub clause-clause-requires : goal.clause-clause-requires
clause-clause-requires c =
    let b = c.args.parts.now in
    let o = c.args.step.now in
    clause-room b c.get.result.now c.clause.result (open_of o).seen.clause (c.get.ensures ∙ ap (λ (x : Contents). x.system) c.parts.view_is) c.clause.ensures (clause-within b o c.requires)

pub returns : goal.returns
returns c =
    let b = c.args.parts.now in
    let o = c.args.step.now in
    let clause = c.clause-clause.result.now in
    let atom = c.index-as_slice-step.result in
    let there : slice_get b.system.clauses (open_of o).seen.clause ≡ Some clause =
    clause-there b c.get.result.now c.clause.result (open_of o).seen.clause clause (c.get.ensures ∙ ap (λ (x : Contents). x.system) c.parts.view_is) c.clause.ensures c.clause-clause.ensures.is in
    let is : atom ≡ get_or clause.atoms o.atom atom = c.index-as_slice-step.is ∙ ap (λ (xs : List Atom). get_or xs o.atom atom) c.as_slice.ensures in
    let parent : c.obligation.result.now ≡ (node_at b.tree.nodes o.parent).obligation = c.obligation.ensures ∙ ap (λ (x : Contents). (node_at x.tree.nodes o.parent).obligation) c.parts.view_is in
    let asked : Asked = record { pred = Some atom.pred; level = c.obligation.result.now.level - 1; cube = c.in_ok-copy.field-0; point = c.in_ok-point.point; parent = o.parent; clause = c.clause-2.result; atom = o.atom } in
    child-is b o clause atom asked c.requires there (atom-within b o clause c.requires there) is refl (ap (λ (x : Asked). x.level - 1) parent) c.in_ok-copy.ensures
    (c.in_ok-point.ensures ∙ ap₂ tuple_at c.point.ensures c.as_slice-2.ensures) refl c.clause-2.ensures refl
