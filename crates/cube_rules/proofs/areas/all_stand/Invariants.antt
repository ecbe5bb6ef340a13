use Rattle.std.proofs.Common.{◌≡◌, drop, ◌||◌}
use Rattle.std.specs.List.{list_all}
use Rattle.lin_atoms.specs.declared.lit.Lit.{Lit}
use Rattle.book_rules.specs.Areas.{is_among, stands_in}
use Rattle.cube_rules.proofs.areas.all_stand.Given as goal

-- the rest decides
abbrev pub invariant-loop-lit : goal.invariant-loop-lit
invariant-loop-lit l = list_all (λ (lit : Lit). stands_in lit l.guard || is_among l.head lit || is_among l.frame lit) (drop l.lit-index l.lits) ≡ list_all (λ (lit : Lit). stands_in lit l.guard || is_among l.head lit || is_among l.frame lit) l.lits
