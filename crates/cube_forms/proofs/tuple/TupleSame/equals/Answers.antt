use Rattle.std.proofs.Common.{◌≡◌, sym, ◌∙◌, refl}
use Rattle.std.specs.Ordering.{int_eq}
use Rattle.std.specs.Cmp.Lexicographic.{pointwise}
use Rattle.std.specs.Cmp.Rules.{signed_items}
use Rattle.cube_forms.proofs.tuple.TupleSame.equals.Goals as goal

pub returns : goal.returns
returns c =
    let same = signed_items c.args.self.now c.args.other.now in
    let told : c.eq.result ≡ pointwise int_eq c.args.self.now c.args.other.now = rw (c.eq.ensures, c.as_slice.ensures, c.as_slice-2.ensures) refl in
    (λ equal. same.0 (sym told ∙ equal), λ e. told ∙ same.1 e)
