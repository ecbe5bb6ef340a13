use Rattle.std.proofs.Common.{◌≡◌, sym, ◌∙◌}
use Rattle.std.specs.Ordering.{int_eq}
use Rattle.std.specs.Cmp.Lexicographic.{pointwise}
use Rattle.std.specs.Cmp.Rules.{signed_items}
use Rattle.book_rules.proofs.Public.{tuples_equal}
use Rattle.cube_rules.proofs.TestLemmas.{agree}
use Rattle.cube_rules.proofs.same.same_tuple.Goals as goal

pub returns : goal.returns
returns c =
    let same = signed_items c.args.a.now c.args.b.now in
    let told : c.eq.result ≡ pointwise int_eq c.args.a.now c.args.b.now = c.eq.ensures in
    agree _ _ _ (λ equal. same.0 (sym told ∙ equal), λ e. told ∙ same.1 e) (tuples_equal c.args.a.now c.args.b.now)
