use Rattle.std.proofs.Common.{map, sym, ap, ◌∙◌}
use Rattle.term_check.specs.machinery.Meanings.{named_as}
use Rattle.term_check.specs.Operators.{first_of}
use Rattle.term_check.specs.Spelling.{bound_to}
use Rattle.term_check.proofs.FewLemmas.{bound_appended}
use Rattle.term_check.proofs.bindings.Bindings.bound_to.Goals as goal

pub returns-in-Some : goal.returns-in-Some
returns-in-Some c =
    let name = c.args.name.now in
    let few = map named_as c.self.inside.few.items in
    ap (λ o. first_of o (bound_to name few)) c.in-Some.ensures ∙ sym (bound_appended name few c.self.inside.more) ∙ ap (bound_to name) c.self.view_is

pub returns-in-None : goal.returns-in-None
returns-in-None c =
    let name = c.args.name.now in
    let few = map named_as c.self.inside.few.items in
    c.last_named-in-None.ensures ∙ ap (λ xs. bound_to name (map named_as xs)) c.as_slice-in-None.ensures.value
    ∙ ap (λ o. first_of o (bound_to name few)) c.in-None.ensures ∙ sym (bound_appended name few c.self.inside.more) ∙ ap (bound_to name) c.self.view_is
