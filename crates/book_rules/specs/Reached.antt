-- What an opened cube stands for: each of its points extends to an instance whose head the parent holds and whose body is in
-- the frame below (Komuravelli, Gurfinkel and Chaki, section 4: an under-approximation of the states that reach the parent).
use Rattle.std.specs.Prelude.{◌≡◌, ℕ, ℤ, List, length, Bool, true, ◌&&◌, ◌||◌, not, ◌==◌}
use Rattle.std.specs.List.{list_all}
use Rattle.clause_form.specs.declared.atom.Atom.{Atom}
use Rattle.clause_form.specs.declared.clause.Clause.{Clause}
use Rattle.cube_forms.specs.Cubes.{cube_is_below, tuple_at}
use Rattle.book_rules.specs.Instances.{IsInstance, body_at, head_at}
use Rattle.book_rules.specs.Frames.{Framed, in_frame}
use Rattle.book_rules.specs.Queries.{args_of}
use Rattle.book_rules.specs.State.{Obligation, holds}

-- an instance with this tuple at the atom
pub record IsReached (clause : Clause) (atom : Atom) (parent : Obligation) (es : List Framed) (k : ℕ) (tuple : List ℤ) : Type 0 where
  pub point : List ℤ
  pub instance : IsInstance clause point
  pub has_tuple : tuple_at point atom.args ≡ tuple
  pub held : holds parent (head_at point clause) ≡ true
  pub inside : list_all (in_frame es k) (body_at point clause) ≡ true

-- whether the lemma is of another predicate, or speaks of places that the atom has
abbrev pub has_places_of : Framed → Atom → Bool
has_places_of e atom = not (e.lemma.pred == atom.pred) || cube_is_below (length atom.args) e.lemma.cube

-- whether the parent's cube and the lemmas speak of places that the clause's head and atoms have
abbrev pub have_places : List Framed → Obligation → Clause → Bool
have_places es parent clause = cube_is_below (length (args_of clause.head)) parent.cube && list_all (λ (atom : Atom). list_all (λ e. has_places_of e atom) es) clause.atoms
