use Rattle.std.proofs.Common.{◌≡◌, ◌-◌, ℕ, suc, length, arith, rules}
use Rattle.std.specs.Prelude.{Option, None}
use Rattle.check_derivation.proofs.EndLemmas.{derives, ends_elsewhere, ends_nowhere}
use Rattle.check_derivation.proofs.lines.ended.Goals as goal

pub returns : goal.returns
returns c = λ script right.
    let lines = c.args.lines.now in
    let last = c.index-lines-count.result in
    let long : length lines ≡ suc (length lines - 1) = omega (arith, c.if-count-eq0.false) in
    let none : last.head ≡ None = search rules in
    derives script lines (length lines - 1) last long c.index-lines-count.is none right
