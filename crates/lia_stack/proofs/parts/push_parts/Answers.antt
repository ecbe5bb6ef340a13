use Rattle.std.proofs.Common.{◌++◌, List, ap, arith, length, map, reverse, sym}
use Rattle.std.proofs.lemmas.List.{drop_all}
use Rattle.lin_atoms.specs.declared.form.Form.{Form}
use Rattle.lia_stack.specs.machinery.Opened.{opened_part}
use Rattle.lia_stack.proofs.StepLemmas.{stacked-more}
use Rattle.lia_stack.proofs.parts.push_parts.Goals as goal

pub parts-preserved : goal.parts-preserved
parts-preserved c =
    let within = c.parts.invariant.within in
    let some = c.parts-test.true in
    record {
      within = omega (arith, within);
      stack = stacked-more (opened_part c.args.which c.args.waiting.now) c.as_slice-parts.result.now c.index-parts-left.result c.in_ok-below.below _ c.parts.left c.args.stack.now.items c.parts.stack.items c.push.new.self.items (omega (arith, some)) (omega (arith, within, some)) c.index-parts-left.is c.in_ok-below.ensures c.parts.invariant.stack c.in_ok-push.ensures.items;
    }

pub parts-init : goal.parts-init
parts-init c =
    let parts = c.as_slice-parts.result.now in
    record {
      within = omega arith;
      stack = ap (λ (left : List Form). map (opened_part c.args.which c.args.waiting.now) left ++ reverse c.args.stack.now.items) (sym (drop_all (length parts) parts (omega arith)));
    }
