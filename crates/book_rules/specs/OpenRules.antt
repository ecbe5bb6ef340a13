-- The rules of Open, by their numbers: what breaks each of them, if anything. Where a rule needs a part that isn't there, an
-- earlier rule is broken.
use Rattle.std.specs.Prelude.{ℕ, ℤ, ◌-◌, List, Bool, ◌&&◌, ◌||◌, not, nat_le, nat_lt, ◌==◌, Option, Some, None, option_map, if◌then◌else◌, filter, length, slice_get}
use Rattle.std.specs.List.{list_any}
use Rattle.lin_atoms.specs.declared.lit.Lit.{Lit}
use Rattle.clause_form.specs.System.{Clauses}
use Rattle.clause_form.specs.declared.atom.Atom.{Atom}
use Rattle.clause_form.specs.declared.clause.Clause.{Clause}
use Rattle.cube_forms.specs.Cubes.{cube_holds, tuple_at}
use Rattle.book_rules.specs.declared.by.By.{By}
use Rattle.book_rules.specs.declared.by.By.TheVariants.{Lemma as ByLemma, Fact as ByFact, Obligation as ByObligation, Step as ByStep}
use Rattle.book_rules.specs.Same.{same_cube}
use Rattle.book_rules.specs.Walks.{first_number, first_told, on, has}
use Rattle.book_rules.specs.Instances.{Ground, body_at, head_at}
use Rattle.book_rules.specs.Frames.{Framed, excludes}
use Rattle.book_rules.specs.Areas.{is_area, knows, projected_cube, point_cube, is_wide}
use Rattle.book_rules.specs.Proofs.{is_head}
use Rattle.book_rules.specs.State.{Fact, Obligation, State, holds, holds_of, is_live, is_child, unless_live}
use Rattle.book_rules.specs.Steps.{OpenStep}

abbrev pub parent_of : State → OpenStep → Option Obligation
parent_of s o = slice_get s.obligations o.parent

abbrev pub clause_of : Clauses → OpenStep → Option Clause
clause_of sys o = slice_get sys.clauses o.seen.clause

abbrev pub atom_of : Clauses → OpenStep → Option Atom
atom_of sys o = on (clause_of sys o) (λ (clause : Clause). slice_get clause.atoms o.atom)

abbrev pub tuple_of : OpenStep → Atom → List ℤ
tuple_of o atom = tuple_at o.seen.point atom.args

-- 1: the parent is live
abbrev pub rule_1 : State → OpenStep → Option By
rule_1 s o = unless_live (parent_of s o)

-- 2: the parent's level is at least 2
abbrev pub rule_2 : State → OpenStep → Option By
rule_2 s o = on (parent_of s o) (λ (p : Obligation). if nat_lt p.level 2 then Some (ByObligation o.parent) else None)

abbrev pub has_fact_in : List Fact → ℕ → List Lit → Bool
has_fact_in facts pred cube = list_any (λ (f : Fact). holds_of (Some pred) cube f.conclusion) facts

-- the area's cube over the atom's places; or the atom's tuple, where that cube holds a recorded fact or is wide
abbrev pub is_cube : State → OpenStep → Atom → Bool
is_cube s o atom =
    same_cube o.cube (projected_cube atom o.area)
    || (same_cube o.cube (point_cube (tuple_of o atom)) && (has_fact_in s.facts atom.pred (projected_cube atom o.area) || is_wide (projected_cube atom o.area)))

abbrev pub atom_fits : State → OpenStep → Obligation → Clause → Atom → Bool
atom_fits s o p clause atom = is_area clause o.seen.point atom p.cube s.lemmas (p.level - 1) o.area && is_cube s o atom

abbrev pub clause_fits : State → OpenStep → Obligation → Clause → Bool
clause_fits s o p clause = is_head p.pred clause.head && has (slice_get clause.atoms o.atom) (atom_fits s o p clause)

-- 3: the clause's head is of the parent's predicate, the atom is there, the area is of that atom, clause and parent, and the cube is of that area and atom
abbrev pub rule_3 : Clauses → State → OpenStep → Option By
rule_3 sys s o = on (parent_of s o) (λ (p : Obligation). if has (clause_of sys o) (clause_fits s o p) then None else Some ByStep)

-- 4: the parent holds the instance's head, and the cube holds the atom's tuple
abbrev pub rule_4 : Clauses → State → OpenStep → Option By
rule_4 sys s o = on (parent_of s o) (λ (p : Obligation). if has (clause_of sys o) (λ clause. holds p (head_at o.seen.point clause)) && has (atom_of sys o) (λ atom. cube_holds (tuple_of o atom) o.cube) then None else Some (ByObligation o.parent))

-- the first lemma of F(k) that shuts the tuple out
abbrev pub shut_out : List Framed → ℕ → Ground → Option By
shut_out es k a = option_map ByLemma (first_number (λ (e : Framed). nat_le k e.level && excludes e.lemma a) es)

-- 5: no lemma of F(the parent's level - 1) shuts a body tuple out
abbrev pub rule_5 : Clauses → State → OpenStep → Option By
rule_5 sys s o = on (parent_of s o) (λ (p : Obligation). on (clause_of sys o) (λ clause. first_told (shut_out s.lemmas (p.level - 1)) (body_at o.seen.point clause)))

-- 6: no recorded fact of the atom's predicate lies in the cube
abbrev pub rule_6 : Clauses → State → OpenStep → Option By
rule_6 sys s o = on (atom_of sys o) (λ (atom : Atom). option_map ByFact (first_number (λ (f : Fact). holds_of (Some atom.pred) o.cube f.conclusion) s.facts))

-- live children of this parent by this clause
abbrev pub is_rival : OpenStep → Obligation → Bool
is_rival o child = is_live child && is_child o.parent child && (child.clause == o.seen.clause)

-- 7: no live sibling of the same clause and atom holds the point
abbrev pub rule_7 : Clauses → State → OpenStep → Option By
rule_7 sys s o = on (atom_of sys o) (λ (atom : Atom). option_map ByObligation (first_number (λ (child : Obligation). is_rival o child && (child.atom == o.atom) && cube_holds (tuple_of o atom) child.cube) s.obligations))

-- 8: fewer than four children of this parent and clause are live; the oldest is told
abbrev pub rule_8 : State → OpenStep → Option By
rule_8 s o = if nat_le 4 (length (filter (is_rival o) s.obligations)) then option_map ByObligation (first_number (is_rival o) s.obligations) else None

abbrev pub unknown : List Framed → ℕ → OpenStep → Atom → Option By
unknown es k o atom = option_map ByLemma (first_number (λ (e : Framed). nat_le k e.level && (e.lemma.pred == atom.pred) && not (knows o.area atom e.lemma.cube)) es)

-- 9: on each body atom the area knows each lemma of F(the parent's level - 1) on its predicate
abbrev pub rule_9 : Clauses → State → OpenStep → Option By
rule_9 sys s o = on (parent_of s o) (λ (p : Obligation). on (clause_of sys o) (λ clause. first_told (unknown s.lemmas (p.level - 1) o) clause.atoms))
