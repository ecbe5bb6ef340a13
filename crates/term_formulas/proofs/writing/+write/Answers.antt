use Rattle.std.proofs.Common.{rules, FitsSigned, ◌≡◌, ◌<◌, ◌==◌, ◌-◌, List, ◌∷◌, ◌++◌, [], length, take, not, ap, sym, ◌∙◌, subst, arith}
use Rattle.std.specs.Prelude.{slice_get, Some, IfOk, pos, ◌<ℤ◌}
use Rattle.std.specs.Int.{w64}
use Rattle.std.proofs.lemmas.Int.{to_z-of_z}
use Rattle.term_tree.specs.declared.node.Node.{Node}
use Rattle.term_tree.specs.declared.node.Node.TheVariants.{Op, Divisible, Let, LetVar}
use Rattle.term_tree.specs.declared.node.TermId.{TermId}
use Rattle.term_tree.specs.Subterms.{is_among}
use Rattle.term_tree.proofs.Public.{arena_below, eqb_self, part_below}
use Rattle.lin_atoms.specs.declared.form.Form.{Form}
use Rattle.linear_terms.specs.Linear.{bit_of, is_narrow}
use Rattle.linear_terms.specs.Formula.{choice}
use Rattle.linear_terms.proofs.Public.{formula_at}
use Rattle.term_tables.specs.machinery.Table.{constant_in, sort_in}
use Rattle.term_formulas.specs.machinery.Parts.{each}
use Rattle.term_formulas.specs.Written.{formula_by, naming_by, reading_by}
use Rattle.term_formulas.proofs.ArgumentLemmas.{denied_first, each_more, implied_last, other_operation, room_at, room_more, room_taken, three_ids}
use Rattle.term_formulas.proofs.RoomLemmas.{divides_some, narrow_here, or_right, room_args, room_part, room_sides}
use Rattle.term_formulas.proofs.writing.+write.Goals as goal

pub formula-returns-clause-is : goal.formula-returns-clause-is
formula-returns-clause-is t c =
    c.in_ok-made.ensures.is
    ∙ sym (formula_at (reading_by (constant_in c.args.constants.now) (sort_in c.args.sorts.now) (naming_by c.args.names.now) c.args.terms.now.nodes) (naming_by c.args.names.now)
    c.args.terms.now.nodes c.args.id.0 c.args.sign c.node-node.result.now c.node-node.ensures.is c.node-node.ensures.below)

pub of_node-bit_is_one-requires : goal.of_node-bit_is_one-requires
of_node-bit_is_one-requires t c =
    let is : slice_get c.args.terms.now.nodes c.args.id.0 ≡ Some (LetVar c.in-LetVar.bound) = c.requires.node ∙ ap (λ (n : Node). Some n) c.in-LetVar.is in
    (room_part (constant_in c.args.constants.now) (naming_by c.args.names.now) c.args.terms.now.nodes c.args.id.0 c.in-LetVar.bound.0 (LetVar c.in-LetVar.bound) c.arena_law.ensures.arena c.requires.room is
    (eqb_self c.in-LetVar.bound.0)).there

pub of_node-operation-requires : goal.of_node-operation-requires
of_node-operation-requires t c =
    let constant = constant_in c.args.constants.now in
    let naming = naming_by c.args.names.now in
    let nodes = c.args.terms.now.nodes in
    let is : slice_get nodes c.args.id.0 ≡ Some (Op c.in-Op.op c.as_slice.result.now) = c.requires.node ∙ ap (λ (n : Node). Some n) (c.in-Op.is ∙ ap (Op c.in-Op.op) (sym c.as_slice.ensures)) in (
      let d = c.decreases in omega (arith, d),
      (
        room_args constant naming nodes c.args.id.0 c.in-Op.op c.as_slice.result.now c.arena_law.ensures.arena c.requires.room is,
        (room_sides constant naming nodes c.args.id.0 c.in-Op.op c.as_slice.result.now c.arena_law.ensures.arena c.requires.room is, c.requires.known),
      ),
    )

pub of_node-of_divisible-requires-clause-some : goal.of_node-of_divisible-requires-clause-some
of_node-of_divisible-requires-clause-some t c =
    let above : pos 0 <ℤ c.in-Divisible.by = divides_some (constant_in c.args.constants.now) (naming_by c.args.names.now) c.args.terms.now.nodes c.args.id.0 c.in-Divisible.by c.in-Divisible.arg c.requires.room
    (c.requires.node ∙ ap (λ (n : Node). Some n) c.in-Divisible.is) in
    let fits : FitsSigned w64 c.in-Divisible.by = search rules in
    simp to_z-of_z above

pub of_node-of_divisible-requires-clause-there : goal.of_node-of_divisible-requires-clause-there
of_node-of_divisible-requires-clause-there t c =
    (room_part (constant_in c.args.constants.now) (naming_by c.args.names.now) c.args.terms.now.nodes c.args.id.0 c.in-Divisible.arg.0 (Divisible c.in-Divisible.by c.in-Divisible.arg)
    c.arena_law.ensures.arena c.requires.room (c.requires.node ∙ ap (λ (n : Node). Some n) c.in-Divisible.is) (eqb_self c.in-Divisible.arg.0)).there

pub of_node-of_divisible-requires-clause-narrow : goal.of_node-of_divisible-requires-clause-narrow
of_node-of_divisible-requires-clause-narrow t c =
    let constant = constant_in c.args.constants.now in
    let naming = naming_by c.args.names.now in
    let nodes = c.args.terms.now.nodes in
    narrow_here constant naming nodes c.in-Divisible.arg.0
    (room_part constant naming nodes c.args.id.0 c.in-Divisible.arg.0 (Divisible c.in-Divisible.by c.in-Divisible.arg)
    c.arena_law.ensures.arena c.requires.room (c.requires.node ∙ ap (λ (n : Node). Some n) c.in-Divisible.is) (eqb_self c.in-Divisible.arg.0))

pub of_node-formula-requires : goal.of_node-formula-requires
of_node-formula-requires t c =
    let constant = constant_in c.args.constants.now in
    let naming = naming_by c.args.names.now in
    let nodes = c.args.terms.now.nodes in
    let node : Node = Let c.in-Let.bound c.in-Let.body in
    let is : slice_get nodes c.args.id.0 ≡ Some node = c.requires.node ∙ ap (λ (n : Node). Some n) c.in-Let.is in
    let has = or_right (is_among c.in-Let.body.0 c.in-Let.bound) (c.in-Let.body.0 == c.in-Let.body.0) (eqb_self c.in-Let.body.0) in
    let less : c.in-Let.body.0 < c.args.id.0 = part_below c.in-Let.body.0 c.args.id.0 node (arena_below nodes c.args.id.0 node c.arena_law.ensures.arena is) has in (
      let d = c.decreases in omega (arith, d, less),
      (room_part constant naming nodes c.args.id.0 c.in-Let.body.0 node c.arena_law.ensures.arena c.requires.room is has, c.requires.known),
    )

pub operation-returns-in_default-clause-is : goal.operation-returns-in_default-clause-is
operation-returns-in_default-clause-is t c =
    let constant = constant_in c.args.constants.now in
    let naming = naming_by c.args.names.now in
    let nodes = c.args.terms.now.nodes in
    subst (λ (f : Form). IfOk c.comparison.result (λ form. form ≡ f))
    (sym (other_operation (reading_by constant (sort_in c.args.sorts.now) naming nodes) (formula_by constant (sort_in c.args.sorts.now) naming nodes) c.args.op c.args.args.now c.args.sign
    c.in_default.not-Not c.in_default.not-And c.in_default.not-Or c.in_default.not-Implies c.in_default.not-Xor c.in_default.not-Ite))
    c.comparison.ensures.is

pub each-formula-requires : goal.each-formula-requires
each-formula-requires t c =
    let now = room_more (constant_in c.args.constants.now) (naming_by c.args.names.now) c.args.terms.now.nodes c.args.above.0 c.args.ids.now c.loop-id.id-index (record { 0 = 0 }) c.loop-id-test.true
    c.loop-id.invariant.room in
    let less = now.0 in (let d = c.decreases in omega (arith, d, less), (now.1, c.loop-id.invariant.known))

pub each-loop-id-preserved : goal.each-loop-id-preserved
each-loop-id-preserved t c = record {
  made = each_more (formula_by (constant_in c.args.constants.now) (sort_in c.args.sorts.now) (naming_by c.args.names.now) c.args.terms.now.nodes) c.args.sign c.args.ids.now c.loop-id.id-index
      (record { 0 = 0 }) c.loop-id.forms c.push.new.self c.in_ok-form.form c.loop-id-test.true c.loop-id.invariant.made c.in_ok-form.ensures.is c.in_ok-push.ensures.ok;
  room = (room_more (constant_in c.args.constants.now) (naming_by c.args.names.now) c.args.terms.now.nodes c.args.above.0 c.args.ids.now c.loop-id.id-index (record { 0 = 0 }) c.loop-id-test.true
      c.loop-id.invariant.room).2;
  known = c.in_ok-form.ensures.known;
}

pub denied-formula-requires : goal.denied-formula-requires
denied-formula-requires t c =
    let first = room_at (constant_in c.args.constants.now) (naming_by c.args.names.now) c.args.terms.now.nodes c.args.above.0 c.args.ids.now 0 (record { 0 = 0 }) c.in-len1-up.len_at_least c.requires.room in
    let less = first.0 in (let d = c.decreases in omega (arith, d, less), (first.1, c.requires.known))

pub denied-returns-in-len1-up-clause-is : goal.denied-returns-in-len1-up-clause-is
denied-returns-in-len1-up-clause-is t c =
    subst (λ (f : Form). IfOk c.formula.result (λ form. form ≡ f))
    (sym (denied_first (formula_by (constant_in c.args.constants.now) (sort_in c.args.sorts.now) (naming_by c.args.names.now) c.args.terms.now.nodes) c.args.sign c.args.ids.now (record { 0 = 0 }) c.in-len1-up.len_at_least))
    c.formula.ensures.is

pub implied-each-requires : goal.implied-each-requires
implied-each-requires t c = (
  let d = c.decreases in omega (arith, d),
  (room_taken (constant_in c.args.constants.now) (naming_by c.args.names.now) c.args.terms.now.nodes c.args.above.0 (length c.args.ids.now - 1) c.args.ids.now c.requires.room, c.requires.known),
)

pub implied-formula-requires : goal.implied-formula-requires
implied-formula-requires t c =
    let some = c.in-len1-up.len_at_least in
    let last = room_at (constant_in c.args.constants.now) (naming_by c.args.names.now) c.args.terms.now.nodes c.args.above.0 c.args.ids.now (length c.args.ids.now - 1) (record { 0 = 0 }) (omega (arith, some))
    c.requires.room in
    let less = last.0 in (let d = c.decreases in omega (arith, d, less), (last.1, c.in_ok-forms-in-len1-up.ensures.known))

pub implied-returns-in_ok-push-in-len1-up-clause-is : goal.implied-returns-in_ok-push-in-len1-up-clause-is
implied-returns-in_ok-push-in-len1-up-clause-is t c =
    let part = formula_by (constant_in c.args.constants.now) (sort_in c.args.sorts.now) (naming_by c.args.names.now) c.args.terms.now.nodes in
    c.in_ok-push-in-len1-up.ensures.ok ∙ ap (λ (forms : List Form). forms ++ c.in_ok-form-in-len1-up.form ∷ []) c.in_ok-forms-in-len1-up.ensures.is
    ∙ ap (λ (f : Form). each part (not c.args.sign) (take (length c.args.ids.now - 1) c.args.ids.now) ++ f ∷ []) c.in_ok-form-in-len1-up.ensures.is
    ∙ sym (implied_last part c.args.sign c.args.ids.now (record { 0 = 0 }) c.in-len1-up.len_at_least)

pub choice-branches-requires : goal.choice-branches-requires
choice-branches-requires t c =
    let constant = constant_in c.args.constants.now in
    let naming = naming_by c.args.names.now in
    let nodes = c.args.terms.now.nodes in
    let few = c.in-len3.len_at_least in
    let bit = room_at constant naming nodes c.args.above.0 c.args.ids.now 0 (record { 0 = 0 }) (omega (arith, few)) c.requires.room in
    let chosen = room_at constant naming nodes c.args.above.0 c.args.ids.now 1 (record { 0 = 0 }) (omega (arith, few)) c.requires.room in
    let other = room_at constant naming nodes c.args.above.0 c.args.ids.now 2 (record { 0 = 0 }) (omega (arith, few)) c.requires.room in (
      let d = c.decreases in omega (arith, d),
      (bit.1.there, (chosen.0, (chosen.1, (other.0, (other.1, c.requires.known))))),
    )

pub choice-returns-in-len3-clause-is : goal.choice-returns-in-len3-clause-is
choice-returns-in-len3-clause-is t c =
    let part = formula_by (constant_in c.args.constants.now) (sort_in c.args.sorts.now) (naming_by c.args.names.now) c.args.terms.now.nodes in
    subst (λ (ids : List TermId). IfOk c.branches.result (λ form. form ≡ choice part (bit_of (naming_by c.args.names.now) c.args.terms.now.nodes) c.args.sign ids))
    (sym (three_ids c.args.ids.now (record { 0 = 0 }) c.in-len3.len_at_least c.in-len3.len_below)) c.branches.ensures.is

pub branches-of_choice-requires : goal.branches-of_choice-requires
branches-of_choice-requires t c = ap is_narrow c.in_ok-bit.ensures.is ∙ c.in_ok-bit.ensures.narrow

pub branches-formula-requires : goal.branches-formula-requires
branches-formula-requires t c = let less = c.requires.smaller in (let d = c.decreases in omega (arith, d, less), (c.requires.chosen, c.requires.known))

pub branches-formula-requires-2 : goal.branches-formula-requires-2
branches-formula-requires-2 t c = let less = c.requires.less in (let d = c.decreases in omega (arith, d, less), (c.requires.other, c.in_ok-chosen.ensures.known))
