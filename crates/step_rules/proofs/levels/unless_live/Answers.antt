use Rattle.std.proofs.Common.{◌<◌, ◌≤◌, length, ap, ◌∙◌, arith}
use Rattle.std.specs.Prelude.{option_map}
use Rattle.book_rules.specs.declared.by.By.TheVariants.{Entry}
use Rattle.step_rules.proofs.OnLemmas.{closing-past, closing-there}
use Rattle.step_rules.proofs.levels.unless_live.Goals as goal

pub returns-then-id-count : goal.returns-then-id-count
returns-then-id-count c =
    let nodes = c.args.tree.now.nodes in
    let past : length nodes ≤ c.args.id = omega arith in
    closing-past nodes c.args.id past

pub returns : goal.returns
returns c =
    let nodes = c.args.tree.now.nodes in
    let within : c.args.id < length nodes = omega arith in
    c.told_of_closing.ensures ∙ ap (option_map Entry) c.closed_by.ensures ∙ closing-there nodes c.args.id within
