use Rattle.std.proofs.Common.{◌≡◌, ◌<◌, ap, ◌∙◌, rules, length, get_or, true, false, refl}
use Rattle.int_rows.specs.Basis.{bound}
use Rattle.simplex_core.specs.Run.{broken_at, coordinate_at, is_above, is_below, moment}
use Rattle.simplex_core.proofs.MomentLemmas.{coordinates-at, coordinates-length}
use Rattle.simplex_core.proofs.bland.broken_at.Goals as goal

pub offset_bounds-values-column : goal.offset_bounds-values-column
offset_bounds-values-column c =
    let less : c.args.column < length c.args.values.now = rw c.requires.values (rw (coordinates-length (moment c.args.t.now c.args.standings.now)) c.requires.column) in
    search rules

pub bounds-values-column : goal.bounds-values-column
bounds-values-column c = rw c.requires.values (rw (coordinates-length (moment c.args.t.now c.args.standings.now)) c.requires.column)

pub returns-then-is_below : goal.returns-then-is_below
unfolding broken_at
returns-then-is_below c =
    let m = moment c.args.t.now c.args.standings.now in
    let same : c.index-values-column.result ≡ coordinate_at m c.args.column = c.index-values-column.is ∙ ap (λ qs. get_or qs c.args.column c.index-values-column.result) c.requires.values ∙ coordinates-at m c.args.column c.index-values-column.result c.requires.column in
    let test : is_below (bound c.args.t.now.lower c.args.column) (coordinate_at m c.args.column) ≡ true = cc in
    rw test refl

pub returns-then-is_above : goal.returns-then-is_above
unfolding broken_at
returns-then-is_above c =
    let m = moment c.args.t.now c.args.standings.now in
    let same : c.index-values-column.result ≡ coordinate_at m c.args.column = c.index-values-column.is ∙ ap (λ qs. get_or qs c.args.column c.index-values-column.result) c.requires.values ∙ coordinates-at m c.args.column c.index-values-column.result c.requires.column in
    let first : is_below (bound c.args.t.now.lower c.args.column) (coordinate_at m c.args.column) ≡ false = cc in
    let test : is_above (bound c.args.t.now.upper c.args.column) (coordinate_at m c.args.column) ≡ true = cc in
    rw (first, test) refl

pub returns-else-is_above : goal.returns-else-is_above
unfolding broken_at
returns-else-is_above c =
    let m = moment c.args.t.now c.args.standings.now in
    let same : c.index-values-column.result ≡ coordinate_at m c.args.column = c.index-values-column.is ∙ ap (λ qs. get_or qs c.args.column c.index-values-column.result) c.requires.values ∙ coordinates-at m c.args.column c.index-values-column.result c.requires.column in
    let first : is_below (bound c.args.t.now.lower c.args.column) (coordinate_at m c.args.column) ≡ false = cc in
    let test : is_above (bound c.args.t.now.upper c.args.column) (coordinate_at m c.args.column) ≡ false = cc in
    rw (first, test) refl
