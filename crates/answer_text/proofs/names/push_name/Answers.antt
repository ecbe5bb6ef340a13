use Rattle.std.proofs.Common.{◌++◌, Bool, ap, sym, ◌∙◌, codes}
use Rattle.std.specs.Prelude.{if◌then◌else◌}
use Rattle.answer_text.proofs.PushLemmas.{behind}
use Rattle.answer_text.proofs.names.push_name.Goals as goal

pub returns-in_ok-extend_from_slice-4 : goal.returns-in_ok-extend_from_slice-4
returns-in_ok-extend_from_slice-4 c =
    let out = c.args.out.now.items in
    let name = c.args.name.now in
    let one = behind out _ _ (codes "|") name c.in_ok-extend_from_slice-2.ensures.items c.in_ok-extend_from_slice-3.ensures.items in
    behind out _ _ (codes "|" ++ name) (codes "|") one c.in_ok-extend_from_slice-4.ensures.items
    ∙ ap (λ (b : Bool). out ++ (if b then name else codes "|" ++ name ++ codes "|")) (sym c.if-is_bare.false ∙ c.is_bare.ensures)
