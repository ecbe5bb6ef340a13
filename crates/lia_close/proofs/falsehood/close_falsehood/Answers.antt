use Rattle.std.proofs.Common.{FitsSigned, rules}
use Rattle.std.specs.Int.{w64}
use Rattle.std.proofs.lemmas.Int.{to_z-of_z}
use Rattle.lia_close.proofs.FalsehoodLemmas.{of-division, of-le, of-rest}
use Rattle.lia_close.proofs.falsehood.close_falsehood.Goals as goal

pub returns-in_ok-tree-in-Le : goal.returns-in_ok-tree-in-Le
returns-in_ok-tree-in-Le c end place long there room = of-le end place c.args.number c.args.lit.now c.in-Le._lin c.in_ok-tree-in-Le.tree c.in-Le.is c.in_ok-tree-in-Le.ensures c.requires.is_false there

pub returns-in_ok-tree-in-Div : goal.returns-in_ok-tree-in-Div
returns-in_ok-tree-in-Div c end place long there room =
    let fits : FitsSigned w64 c.get.result = search rules in
    let sum = simp to_z-of_z at c.in_ok-sum-in-Div.ensures in
    of-division end place c.args.number c.args.known c.in-Div.n c.args.lit.now c.in-Div._lin c.get.result c.in_ok-sum-in-Div.sum c.in_ok-tree-in-Div.tree c.in-Div.is c.get.ensures.value sum c.in_ok-tree-in-Div.ensures
    c.requires.is_false c.is_legal.ensures c.requires.short long there room

pub returns-in_ok-tree-in-NDiv : goal.returns-in_ok-tree-in-NDiv
returns-in_ok-tree-in-NDiv c end place long there room =
    let fits : FitsSigned w64 c.get-in-NDiv.result = search rules in
    let pair = simp to_z-of_z at c.in_ok-pair-in-NDiv.ensures in
    of-rest end place c.args.number c.args.known c.in-NDiv.n c.args.lit.now c.in-NDiv._lin c.get-in-NDiv.result c.in_ok-pair-in-NDiv.pair c.in_ok-tree-in-NDiv.tree c.in-NDiv.is c.get-in-NDiv.ensures.value pair c.in_ok-tree-in-NDiv.ensures
    c.requires.is_false c.is_legal.ensures c.requires.short long there room
