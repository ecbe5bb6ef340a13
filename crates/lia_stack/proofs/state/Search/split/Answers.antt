use Rattle.std.proofs.Common.{◌<◌, length, List, ap, ◌∙◌, ◌++◌, ◌∷◌, [], refl, subst, sym, ℕ}
use Rattle.lin_atoms.specs.declared.form.Form.{Form}
use Rattle.lia_close.specs.declared.written.Step.TheVariants.{Cases}
use Rattle.lia_stack.proofs.StateLemmas.{parted-named}
use Rattle.lia_stack.proofs.state.Search.split.Goals as goal

pub push_parts-requires : goal.push_parts-requires
push_parts-requires c = let n = c.in_ok-name.ensures in subst (λ (cs : List (List Form)). c.args.which < length cs) (sym n.cases) c.requires.there

pub returns : goal.returns
returns c =
    let n = c.in_ok-name.ensures in
    let less = subst (λ (cs : List (List Form)). c.args.which < length cs) (sym n.cases) c.requires.there in
    parted-named c.args.self.now c.name.new.self _ c.args.waiting.now c.name.new.waiting c.args.which n c.requires.solution less refl
    (c.in_ok-push.ensures.items ∙ ap (λ (k : ℕ). c.name.new.self.steps.items ++ Cases k c.in_ok-count.count ∷ []) c.in_ok-number.ensures ∙ ap (λ (k : ℕ). c.name.new.self.steps.items ++ Cases c.args.which k ∷ []) c.in_ok-count.ensures.count)
    c.in_ok-count.ensures.stack
