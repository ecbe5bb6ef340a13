-- Assertions of two scripts whose terms match have the same normal clause, or the same refusal.
use Rattle.std.proofs.Common.{◌≡◌, ℕ, suc, ◌+◌, List, [], ◌∷◌, ◌++◌, map, length, Bool, ◌||◌, refl, ap, sym, ◌∙◌, subst}
use Rattle.std.specs.Prelude.{slice_get, Option, Some, None, option_map, unwrap_or, Ok, Err, nat_lt, if◌then◌else◌}
use Rattle.term_tree.specs.declared.sort.Sort.{Sort}
use Rattle.term_tree.specs.declared.sort.Sort.TheVariants.{Int}
use Rattle.term_tree.specs.declared.refusal.Kind.TheVariants.{TooWide, NotHorn, Count}
use Rattle.term_tree.specs.declared.refusal.Refusal.{Refusal}
use Rattle.term_tree.specs.declared.script.Assertion.{Assertion}
use Rattle.term_tree.specs.declared.script.Pred.{Pred as Declared}
use Rattle.term_tree.specs.declared.script.Script.{Script}
use Rattle.term_tree.specs.Arena.{IsArena}
use Rattle.term_tree.specs.Sorts.{sort_of}
use Rattle.horn_shape.specs.declared.clause.AtomUse.{AtomUse}
use Rattle.horn_shape.specs.declared.clause.HornClause.{HornClause}
use Rattle.horn_shape.specs.Clause.{assertion_reading}
use Rattle.horn_shape.specs.Shape.{Content, Reading}
use Rattle.lin_atoms.specs.declared.form.Form.{Form}
use Rattle.clause_form.specs.System.{most_variables}
use Rattle.clause_form.specs.declared.atom.Atom.{Atom}
use Rattle.clause_form.specs.declared.clause.Clause.{Clause}
use Rattle.clause_normal.specs.Normal.{auxiliaries, bits_from, clause_guard, conjunction, first_without_room, guard_form, guard_parts, is_too_large, most_atoms, most_own, names_of, normal_atom, normal_clause, place_forms, sorting, term_number, top_of, variable_sorts}
use Rattle.clause_normal.specs.Reading.{by_room, by_shape, clause_with, normal_reading, refusal_at, term_start}
use Rattle.clause_readings.specs.Matching.{AreNodesLike, IsOneToOne}
use Rattle.clause_readings.proofs.FoldLemmas.{same_sort_of}
use Rattle.clause_readings.proofs.LinearLemmas.{AreNamedAlike}
use Rattle.clause_readings.proofs.NormalLemmas.{same_names, same_place_forms, same_guards, same_atoms, same_head, same_auxiliary_sorts}
use Rattle.clause_readings.proofs.SpotLemmas.{AreNumbersMatched, same_places}
use Rattle.clause_readings.proofs.WidthLemmas.{AreBothMatched, same_wide}
use Rattle.clause_readings.proofs.ShapeLemmas.{AreAtomsMatched, AreContentsMatched, AreReadingsMatched, same_clause}

-- terms of two scripts that match, one to one, start at the same places
pub record AreScriptsMatched (matched : ℕ → ℕ → Type 0) (script other : Script) : Type 0 where
  pub arena : IsArena script.terms.nodes
  pub other_arena : IsArena other.terms.nodes
  pub preds : script.preds ≡ other.preds
  pub like : AreNodesLike script.terms.nodes other.terms.nodes matched
  pub one : IsOneToOne matched
  pub starts : (a b : ℕ) → matched a b → term_start script a ≡ term_start other b

-- assertions of one number whose terms match
pub record AreAssertionsMatched (matched : ℕ → ℕ → Type 0) (script other : Script) (index : ℕ) (a b : Assertion) : Type 0 where
  pub here : slice_get script.asserts index ≡ Some a
  pub there : slice_get other.asserts index ≡ Some b
  pub terms : matched a.term.0 b.term.0
  pub offset : a.offset ≡ b.offset
  pub command : a.command ≡ b.command

pub numbers_length : (matched : ℕ → ℕ → Type 0) (xs bs : List ℕ) → AreNumbersMatched matched xs bs → length xs ≡ length bs
numbers_length matched [] [] h = refl
numbers_length matched [] (b ∷ bs) h = absurd h
numbers_length matched (a ∷ xs) [] h = absurd h
numbers_length matched (a ∷ xs) (b ∷ bs) h = ap suc (numbers_length matched xs bs h.1)

pub atoms_length : (matched : ℕ → ℕ → Type 0) (xs bs : List AtomUse) → AreAtomsMatched matched xs bs → length xs ≡ length bs
atoms_length matched [] [] h = refl
atoms_length matched [] (b ∷ bs) h = absurd h
atoms_length matched (a ∷ xs) [] h = absurd h
atoms_length matched (a ∷ xs) (b ∷ bs) h = ap suc (atoms_length matched xs bs h.2)

module _ (matched : ℕ → ℕ → Type 0) (s t : Script) (both : AreScriptsMatched matched s t) (index : ℕ) (a b : Assertion) (assertions : AreAssertionsMatched matched s t index a b) where
  sorts : (c d : ℕ) → matched c d → sorting s c ≡ sorting t d
  sorts c d is =
      ap (λ (ps : List Declared). sort_of ps s.terms.nodes c) both.preds ∙ same_sort_of s.terms.nodes t.terms.nodes matched both.arena both.other_arena both.like t.preds c d is

  refused : (kind : _) (x y : ℕ) → x ≡ y → refusal_at kind x a ≡ refusal_at kind y b
  refused kind x y e =
      let made : ℕ → ℕ → Refusal = λ offset command. record { kind = kind; offset = offset; command = command } in
      ap (λ (o : ℕ). made o a.command) e ∙ ap (made y) assertions.command

  module _ (c d : Content) (contents : AreContentsMatched matched c d) where
    abbrev ours : HornClause
    ours = clause_with index c

    abbrev theirs : HornClause
    theirs = clause_with index d

    tops : matched (top_of s ours) (top_of t theirs)
    tops =
        subst (λ (x : ℕ). matched x (top_of t theirs)) (sym (ap term_number assertions.here))
        (subst (λ (y : ℕ). matched a.term.0 y) (sym (ap term_number assertions.there)) assertions.terms)

    placed : AreNumbersMatched matched (auxiliaries s ours) (auxiliaries t theirs)
    placed = same_places s.terms.nodes t.terms.nodes matched both.arena both.other_arena both.like (sorting s) (sorting t) sorts (top_of s ours) (top_of t theirs) tops

    named : AreNamedAlike matched (names_of s ours) (names_of t theirs)
    named = same_names matched both.one (length c.vars) (length d.vars) (auxiliaries s ours) (auxiliaries t theirs) (ap (λ (vs : List Sort). length vs) contents.vars) placed

    same_parts : guard_parts s ours ≡ guard_parts t theirs
    same_parts =
        ap (λ (vs : List Sort). bits_from 0 vs ++ place_forms (sorting s) (names_of s ours) s.terms.nodes (length vs) (auxiliaries s ours) ++ map (guard_form (sorting s) (names_of s ours) s.terms.nodes) c.guards) contents.vars
        ∙ ap (λ (fs : List Form). bits_from 0 d.vars ++ fs ++ map (guard_form (sorting s) (names_of s ours) s.terms.nodes) c.guards)
        (same_place_forms matched s.terms.nodes t.terms.nodes both.arena both.other_arena both.like (names_of s ours) (names_of t theirs) named (sorting s) (sorting t) sorts
        (length d.vars) (auxiliaries s ours) (auxiliaries t theirs) placed)
        ∙ ap (λ (fs : List Form). bits_from 0 d.vars ++ place_forms (sorting t) (names_of t theirs) t.terms.nodes (length d.vars) (auxiliaries t theirs) ++ fs)
        (same_guards matched s.terms.nodes t.terms.nodes both.arena both.other_arena both.like (names_of s ours) (names_of t theirs) named (sorting s) (sorting t) sorts c.guards d.guards contents.guards)

    same_sorts : variable_sorts s ours ≡ variable_sorts t theirs
    same_sorts =
        ap (λ (vs : List Sort). vs ++ map (λ (id : ℕ). unwrap_or (sorting s id) Int) (auxiliaries s ours)) contents.vars
        ∙ ap (λ (vs : List Sort). d.vars ++ vs)
        (same_auxiliary_sorts matched s.terms.nodes t.terms.nodes both.arena both.other_arena both.like (names_of s ours) (names_of t theirs) named (sorting s) (sorting t) sorts
        (auxiliaries s ours) (auxiliaries t theirs) placed)

    pub same_normal : normal_clause s ours ≡ normal_clause t theirs
    same_normal =
        let made : ℕ → List Sort → List Atom → Form → Option Atom → Clause =
        λ user vs atoms guard head. record { assertion = index; user = user; sorts = vs; atoms = atoms; guard = guard; head = head } in
        let our_head : Option Atom = option_map (normal_atom (names_of s ours) s.terms.nodes) c.head in
        let our_atoms : List Atom = map (normal_atom (names_of s ours) s.terms.nodes) c.atoms in
        let their_atoms : List Atom = map (normal_atom (names_of t theirs) t.terms.nodes) d.atoms in
        ap (λ (vs : List Sort). made (length vs) (variable_sorts s ours) our_atoms (clause_guard s ours) our_head) contents.vars
        ∙ ap (λ (vs : List Sort). made (length d.vars) vs our_atoms (clause_guard s ours) our_head) same_sorts
        ∙ ap (λ (xs : List Atom). made (length d.vars) (variable_sorts t theirs) xs (clause_guard s ours) our_head)
        (same_atoms matched s.terms.nodes t.terms.nodes both.arena both.other_arena both.like (names_of s ours) (names_of t theirs) named (sorting s) (sorting t) sorts c.atoms d.atoms contents.atoms)
        ∙ ap (λ (fs : List Form). made (length d.vars) (variable_sorts t theirs) their_atoms (conjunction fs) our_head) same_parts
        ∙ ap (made (length d.vars) (variable_sorts t theirs) their_atoms (clause_guard t theirs))
        (same_head matched s.terms.nodes t.terms.nodes both.arena both.other_arena both.like (names_of s ours) (names_of t theirs) named (sorting s) (sorting t) sorts c.head d.head contents.head)

    same_size : is_too_large s ours ≡ is_too_large t theirs
    same_size =
        ap (λ (vs : List Sort). nat_lt most_own (length vs) || nat_lt most_atoms (length c.atoms) || nat_lt most_variables (length vs + length (auxiliaries s ours))) contents.vars
        ∙ ap (λ (n : ℕ). nat_lt most_own (length d.vars) || nat_lt most_atoms n || nat_lt most_variables (length d.vars + length (auxiliaries s ours))) (atoms_length matched c.atoms d.atoms contents.atoms)
        ∙ ap (λ (n : ℕ). nat_lt most_own (length d.vars) || nat_lt most_atoms (length d.atoms) || nat_lt most_variables (length d.vars + n))
        (numbers_length matched (auxiliaries s ours) (auxiliaries t theirs) placed)

    same_by_room : (x y : Option ℕ) → AreBothMatched matched x y → by_room s a ours x ≡ by_room t b theirs y
    same_by_room (Some i) (Some j) h = ap (λ (r : Refusal). Err r) (refused TooWide (term_start s i) (term_start t j) (both.starts i j h))
    same_by_room (Some i) None h = absurd h
    same_by_room None (Some j) h = absurd h
    same_by_room None None h =
        ap (λ (large : Bool). if large then Err (refusal_at Count a.offset a) else Ok (normal_clause s ours)) same_size
        ∙ ap (λ (r : Refusal). if is_too_large t theirs then Err r else Ok (normal_clause s ours)) (refused Count a.offset b.offset assertions.offset)
        ∙ ap (λ (clause : Clause). if is_too_large t theirs then Err (refusal_at Count b.offset b) else Ok clause) same_normal

    same_room : AreBothMatched matched (first_without_room s ours) (first_without_room t theirs)
    same_room = same_wide matched s.terms.nodes t.terms.nodes both.arena both.other_arena both.like (names_of s ours) (names_of t theirs) named (top_of s ours) (top_of t theirs) tops

  same_by_shape : (x y : Reading) → AreReadingsMatched matched x y → by_shape s index a x ≡ by_shape t index b y
  same_by_shape (Ok c) (Ok d) h = same_by_room c d h (first_without_room s (clause_with index c)) (first_without_room t (clause_with index d)) (same_room c d h)
  same_by_shape (Ok c) (Err j) h = absurd h
  same_by_shape (Err i) (Ok d) h = absurd h
  same_by_shape (Err i) (Err j) h = ap (λ (r : Refusal). Err r) (refused NotHorn (term_start s i.0) (term_start t j.0) (both.starts i.0 j.0 h))

  -- the normal clause is the same, or the refusal is
  pub same_reading : normal_reading s index a ≡ normal_reading t index b
  same_reading =
      same_by_shape (assertion_reading s a) (assertion_reading t b)
      (same_clause s.terms.nodes t.terms.nodes matched both.arena both.other_arena both.like a.term.0 b.term.0 assertions.terms
      (record { term = a.term; lets = [] }) (record { term = b.term; lets = [] }) refl refl)
