use Rattle.std.proofs.Common.{ap, ◌∙◌}
use Rattle.term_check.specs.machinery.Meanings.{joined}
use Rattle.term_check.specs.Spelling.{bound_to}
use Rattle.term_check.proofs.mapped.Mapped.bound_to.Goals as goal

pub returns : goal.returns
returns c =
    c.joined.ensures ∙ ap joined (c.copied.ensures ∙ c.get.ensures.value) ∙ c.self.invariant.1 c.args.name.now ∙ ap (bound_to c.args.name.now) c.self.view_is
