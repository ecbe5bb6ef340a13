-- How far the literals are made ready.
use Rattle.std.specs.Prelude.{◌≡◌, ℕ, ◌+◌, ◌≤◌, List, ◌++◌, length, true}
use Rattle.std.specs.List.{list_all}
use Rattle.base.specs.Limits.{most_rows}
use Rattle.lin_atoms.specs.declared.lit.Lit.{Lit}
use Rattle.int_rows.specs.Node.{all_bounds, end_of_quotients, in_rows}
use Rattle.int_rows.specs.Ready.{bounded_fits}
use Rattle.int_rows.specs.declared.bounds.Bounded.{Bounded}
use Rattle.lia_node.specs.Known.{are_known, has_short_constant}

-- the first literals have said this, with `rows` rows, and quotients are numbered on from q; the rest are still to come
pub record IsGathered (end : ℕ) (lits : List Lit) (bs : List Bounded) (q rows : ℕ) (rest : List Lit) : Type 0 where
  pub made : bs ++ all_bounds q rest ≡ all_bounds end lits
  pub ends : end_of_quotients q rest ≡ end_of_quotients end lits
  pub known : are_known q rest ≡ true
  pub short : list_all has_short_constant rest ≡ true
  pub fit : list_all bounded_fits bs ≡ true
  pub count : rows ≡ length (in_rows bs)
  pub few : rows ≤ most_rows
  pub small : q ≤ end + rows
