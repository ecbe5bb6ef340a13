use Rattle.std.proofs.Common.{[], ap, sym, ◌∙◌, Some}
use Rattle.lin_atoms.specs.Linear.{Linear}
use Rattle.lin_atoms.specs.declared.lit.Lit.TheVariants.{Le, Eq, Div, NDiv}
use Rattle.lia_divisors.proofs.ThereLemmas.{at-first, bounds-kept}
use Rattle.lia_divisors.proofs.said.put_bounds.Goals as goal

pub returns-in_ok-put-in-Le : goal.returns-in_ok-put-in-Le
returns-in_ok-put-in-Le c = bounds-kept c.args.q c.args.reason c.args.lit.now (Le c.in-Le.lin) c.args.said.now.items c.put.new.said.items c.in-Le.is (λ known are at. c.in_ok-put-in-Le.ensures known are (at-first known c.args.reason _ [] at ∙ ap (λ (l : Linear). Some (Le l)) (sym c.in_ok-copy-in-Le.ensures)))

pub returns-in_ok-put-in-Eq : goal.returns-in_ok-put-in-Eq
returns-in_ok-put-in-Eq c = bounds-kept c.args.q c.args.reason c.args.lit.now (Eq c.in-Eq.lin) c.args.said.now.items c.put-in-Eq.new.said.items c.in-Eq.is (λ known are at. c.in_ok-put-in-Eq.ensures known are (at-first known c.args.reason _ [] at ∙ ap (λ (l : Linear). Some (Eq l)) (sym c.in_ok-copy-in-Eq.ensures)))

pub returns-in_ok-put_whole-in-Div : goal.returns-in_ok-put_whole-in-Div
returns-in_ok-put_whole-in-Div c = bounds-kept c.args.q c.args.reason c.args.lit.now (Div c.in-Div.n c.in-Div.lin) c.args.said.now.items c.put_whole.new.said.items c.in-Div.is c.in_ok-put_whole-in-Div.ensures

pub returns-in_ok-put_rest-in-NDiv : goal.returns-in_ok-put_rest-in-NDiv
returns-in_ok-put_rest-in-NDiv c = bounds-kept c.args.q c.args.reason c.args.lit.now (NDiv c.in-NDiv.n c.in-NDiv.lin) c.args.said.now.items c.put_rest.new.said.items c.in-NDiv.is c.in_ok-put_rest-in-NDiv.ensures
