-- Two definitions of one tree ask the same at each use.
use Rattle.std.proofs.Common.{◌≡◌, ℕ, List, [], ◌∷◌, ◌++◌, Bool, refl, ap, ◌∙◌}
use Rattle.std.specs.Prelude.{Option, Some, None, option_map, slice_index_or}
use Rattle.term_tree.specs.declared.definition.Definition.{Definition}
use Rattle.lin_atoms.specs.declared.form.Form.{Form}
use Rattle.linear_terms.specs.Formula.{formula}
use Rattle.linear_terms.specs.Width.{first_wide}
use Rattle.clause_form.specs.declared.atom.Atom.{Atom}
use Rattle.clause_normal.specs.Normal.{place_forms}
use Rattle.clause_laws.specs.Defined.{count_of, defined_forms, definition_forms, definition_places, definition_sorting, definition_wide, naming_at}
use Rattle.answer_text.specs.Read.{IsDefinition}
use Rattle.answer_text.specs.Reading.{Defined}
use Rattle.clause_readings.specs.Layout.{IsLaid}
use Rattle.clause_readings.specs.Matching.{AreNodesLike}
use Rattle.clause_readings.proofs.AssertionLemmas.{numbers_length}
use Rattle.clause_readings.proofs.FoldLemmas.{same_sort_of}
use Rattle.clause_readings.proofs.LinearLemmas.{AreNamedAlike}
use Rattle.clause_readings.proofs.MeetingLemmas.{IsMet, met_alike, met_at_top, one_to_one, same_starts}
use Rattle.clause_readings.proofs.NormalLemmas.{forms, same_names, same_place_forms}
use Rattle.clause_readings.proofs.SpotLemmas.{AreNumbersMatched, same_places}
use Rattle.clause_readings.proofs.WidthLemmas.{AreBothMatched, same_wide}

-- as many auxiliary variables, the same forms, and the first term without room at the same byte
pub record AreUsedAlike (d e : Option Definition) : Type 0 where
  pub count : count_of d ≡ count_of e
  pub forms : (atom : Atom) (sign : Bool) (next : ℕ) → defined_forms d atom sign next ≡ defined_forms e atom sign next
  pub wide : (atom : Atom) (next : ℕ) → definition_wide d atom next ≡ definition_wide e atom next

module _ (r : Defined) (low high : ℕ) (laid : IsLaid low high r.body) (d e : Definition) (x : IsDefinition r d) (y : IsDefinition r e) where
  abbrev Met : ℕ → ℕ → Type 0
  Met = IsMet d.terms e.terms r.body d.body.0 e.body.0

  like : AreNodesLike d.terms.nodes e.terms.nodes Met
  like = met_alike d.terms e.terms r.body d.body.0 e.body.0

  top : Met d.body.0 e.body.0
  top = met_at_top d.terms e.terms r.body d.body.0 e.body.0 low high laid x.term y.term

  sorts : (a b : ℕ) → Met a b → definition_sorting d a ≡ definition_sorting e b
  sorts a b is = same_sort_of d.terms.nodes e.terms.nodes Met x.arena y.arena like [] a b is

  placed : AreNumbersMatched Met (definition_places d) (definition_places e)
  placed = same_places d.terms.nodes e.terms.nodes Met x.arena y.arena like (definition_sorting d) (definition_sorting e) sorts d.body.0 e.body.0 top

  named : (args : List ℕ) (first : ℕ) → AreNamedAlike Met (naming_at d args first) (naming_at e args first)
  named args first = record {
    own = λ v. refl;
    auxiliary = (same_names Met (one_to_one d.terms e.terms r.body d.body.0 e.body.0) first first (definition_places d) (definition_places e) refl placed).auxiliary;
  }

  same_definition_forms : (sign : Bool) (args : List ℕ) (first : ℕ) → definition_forms sign d args first ≡ definition_forms sign e args first
  same_definition_forms sign args first =
      ap (λ (fs : List Form). fs ++ formula (definition_sorting d) (naming_at d args first) d.terms.nodes d.body.0 sign ∷ [])
      (same_place_forms Met d.terms.nodes e.terms.nodes x.arena y.arena like (naming_at d args first) (naming_at e args first) (named args first) (definition_sorting d) (definition_sorting e) sorts
      first (definition_places d) (definition_places e) placed)
      ∙ ap (λ (f : Form). place_forms (definition_sorting e) (naming_at e args first) e.terms.nodes first (definition_places e) ++ f ∷ [])
      (forms Met d.terms.nodes e.terms.nodes x.arena y.arena like (naming_at d args first) (naming_at e args first) (named args first) (definition_sorting d) (definition_sorting e) sorts
      d.body.0 e.body.0 top sign)

  starts : (a b : Option ℕ) → AreBothMatched Met a b → option_map (λ (id : ℕ). slice_index_or d.terms.offsets id 0) a ≡ option_map (λ (id : ℕ). slice_index_or e.terms.offsets id 0) b
  starts None None h = refl
  starts None (Some b) h = absurd h
  starts (Some a) None h = absurd h
  starts (Some a) (Some b) h = ap (λ (o : ℕ). Some o) (same_starts d.terms e.terms r.body d.body.0 e.body.0 a b h)

  pub used_alike : AreUsedAlike (Some d) (Some e)
  used_alike = record {
    count = numbers_length Met (definition_places d) (definition_places e) placed;
    forms = λ atom sign next. same_definition_forms sign atom.args next;
    wide = λ atom next. starts (first_wide (naming_at d atom.args next) d.terms.nodes d.body.0) (first_wide (naming_at e atom.args next) e.terms.nodes e.body.0)
        (same_wide Met d.terms.nodes e.terms.nodes x.arena y.arena like (naming_at d atom.args next) (naming_at e atom.args next) (named atom.args next) d.body.0 e.body.0 top);
  }
