use Rattle.std.proofs.Common.{rules, ◌≡◌, ◌++◌, ◌-◌, length, take, map, sym, ap, ◌∙◌}
use Rattle.term_check.specs.machinery.Meanings.{named_as}
use Rattle.term_check.proofs.FewLemmas.{left}
use Rattle.term_check.proofs.bindings.Bindings.leave.Goals as goal

pub returns : goal.returns
returns c =
    let few = c.self.inside.few.items in
    let more = c.self.inside.more in
    let count = c.args.count in
    let counted : c.len.result ≡ length few = search rules in
    let inner : c.leave.new.self ≡ take (count - length few) more = c.leave.ensures ∙ ap (λ k. take k more) (c.saturating_sub.ensures ∙ ap (λ k. count - k) counted) in
    ap (λ xs. map named_as xs ++ c.leave.new.self) c.truncate.ensures.items ∙ ap (λ ys. map named_as (take count few) ++ ys) inner
    ∙ sym (left count few more) ∙ ap (take count) c.self.view_is
