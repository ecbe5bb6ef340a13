use Rattle.std.proofs.Common.{◌++◌, ap, ◌∙◌, append_assoc, codes, rules}
use Rattle.std.proofs.lemmas.Int.{to_z-of_z}
use Rattle.std.specs.Int.{w64}
use Rattle.std.specs.Int.RustNames.{FitsSigned}
use Rattle.answer_text.specs.Names.{number_text}
use Rattle.answer_text.proofs.term.push_divisible.Goals as goal

pub returns : goal.returns
returns c =
    let fits : FitsSigned w64 c.args.by = search rules in
    let pushed = simp to_z-of_z at c.in_ok-push_number.ensures in
    c.in_ok-extend_from_slice-2.ensures.items
    ∙ ap (λ t. t ++ codes ") ") (pushed ∙ ap (λ t. t ++ number_text c.args.by) c.in_ok-extend_from_slice.ensures.items)
    ∙ simp append_assoc
