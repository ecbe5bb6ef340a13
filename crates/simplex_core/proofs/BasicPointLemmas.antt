-- A moment's point is a basic point of its equations.
use Rattle.std.proofs.Common.{◌≡◌, ℕ, ◌<◌, List, ap, sym, ◌∙◌, subst, arith, length, get_or, filter}
use Rattle.std.specs.Prelude.{ℤ, pos, ◌*ℤ◌}
use Rattle.std.proofs.lemmas.List.{get_or-map, length-map}
use Rattle.int_rows.specs.Basis.{IsBasicPoint, IsBasis, MayStand, bound, outside}
use Rattle.int_rows.specs.Rows.{entry}
use Rattle.int_rows.specs.Table.{IsTable, Table, width}
use Rattle.int_rows.proofs.Public.{table-basis}
use Rattle.simplex_core.specs.Answer.{basis, is_outside_at, outer}
use Rattle.simplex_core.specs.Standings.{AreStandings}
use Rattle.simplex_core.specs.Meaning.{system_of}
use Rattle.simplex_core.specs.Run.{columns, coordinates, moment, standing_at, stood_at}
use Rattle.simplex_core.specs.declared.standing.Standing.{Standing}
use Rattle.simplex_core.proofs.OuterLemmas.{basis-same, outside-at, outside-same, stands}
use Rattle.simplex_core.proofs.PointLemmas.{common-some, dens-positive, nums-length, point-outer, point-solves, point_of}

pub basic-point : (t : Table) (standings : List Standing) → IsTable t → AreStandings t standings → IsBasicPoint (system_of t) (basis (columns t) standings) (outer (moment t standings)) (point_of (moment t standings))
basic-point t standings is are =
    let m = moment t standings in
    let cols = filter (is_outside_at standings) (columns t) in
    record {
      is_basis = subst (IsBasis (width t) t.rows) (sym (basis-same t standings are)) (table-basis t is);
      positive = common-some (coordinates m) (dens-positive t standings is are);
      width = nums-length m;
      solves = point-solves t standings is are;
      each = length-map cols (stood_at m) ∙ ap length (sym (outside-same t standings));
      stand = λ k h.
          let within : k < length cols = omega (arith, h, length-map cols (stood_at m)) in
          let c0 = get_or cols k 0 in
          let there = outside-at t standings k 0 within in
          let column : get_or (outside (width t) (basis (columns t) standings)) k 0 ≡ c0 = ap (λ xs. get_or xs k 0) (outside-same t standings) in
          let value : get_or (outer m) k (pos 0) ≡ stood_at m c0 = get_or-map (stood_at m) cols k 0 (pos 0) within in
          let legal : MayStand (bound t.lower c0) (bound t.upper c0) (stood_at m c0) = stands (bound t.lower c0) (bound t.upper c0) (standing_at standings c0) (are.stand c0 there.0) there.1 in
          let with_column = subst (λ (c' : ℕ). MayStand (bound t.lower c') (bound t.upper c') (stood_at m c0)) (sym column) legal in
          let P : ℤ → Type 0 = λ v. MayStand (bound t.lower (get_or (outside (width t) (basis (columns t) standings)) k 0)) (bound t.upper (get_or (outside (width t) (basis (columns t) standings)) k 0)) v in
          subst P (sym value) with_column;
      outer = λ k h.
          let within : k < length cols = omega (arith, h, length-map cols (stood_at m)) in
          let c0 = get_or cols k 0 in
          let there = outside-at t standings k 0 within in
          let column : get_or (outside (width t) (basis (columns t) standings)) k 0 ≡ c0 = ap (λ xs. get_or xs k 0) (outside-same t standings) in
          let value : get_or (outer m) k (pos 0) ≡ stood_at m c0 = get_or-map (stood_at m) cols k 0 (pos 0) within in
          ap (entry (point_of m).nums) column ∙ point-outer t standings c0 is are there.0 there.1 ∙ ap (λ v. v *ℤ pos (point_of m).den) (sym value);
    }
