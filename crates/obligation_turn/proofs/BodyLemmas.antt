-- An instance of a query has its body in the frame.
use Rattle.std.proofs.Common.{◌≡◌, ℕ, suc, List, [], ◌∷◌, Bool, true, false, ◌&&◌, ◌||◌, not, Some, None, refl, ap, sym, ◌∙◌}
use Rattle.std.specs.Prelude.{ℤ, nat_le, option_map, slice_get, ◌==◌}
use Rattle.std.specs.List.{list_all, list_any}
use Rattle.std.proofs.lemmas.Option.{slice_get-map}
use mathlib.Core.Bool.{true≢false}
use Rattle.clause_form.specs.declared.atom.Atom.{Atom}
use Rattle.clause_form.specs.declared.clause.Clause.{Clause}
use Rattle.cube_forms.specs.Cubes.{cube_holds, tuple_at}
use Rattle.lemma_frames.specs.declared.framed.Framed.{Framed as KeptLemma}
use Rattle.chc_tokens.specs.Instances.{accepts, token_atom_at}
use Rattle.chc_tokens.specs.Tokens.{is_passed}
use Rattle.book_rules.specs.Frames.{Framed, excludes}
use Rattle.book_rules.specs.Instances.{atom_at, body_at}
use Rattle.book_rules.specs.OpenRules.{shut_out}
use Rattle.book_rules.specs.Walks.{AllOf, first_told}
use Rattle.book_rules.specs.declared.by.By.TheVariants.{Lemma as ByLemma}
use Rattle.book_rules.proofs.ListLemmas.{all_weaken}
use Rattle.cube_rules.specs.Views.{framed_of, lemmas_of}
use Rattle.cube_rules.proofs.Public.{both_true, from_both}
use Rattle.area_literals.specs.Areas.{accepts_on, all_accept_on}
use Rattle.clause_queries.specs.Uses.{use_of, uses}
use Rattle.clause_queries.proofs.Public.{uses-back, uses_on-back}
use Rattle.obligation_turn.proofs.ListLemmas.{all-map, none-mapped, none-told}

pub passed-is : (point : List ℤ) (clause : Clause) (i : ℕ) (atom : Atom) (f : KeptLemma) → slice_get clause.atoms i ≡ Some atom → is_passed point clause (use_of i f) ≡ not (cube_holds (tuple_at point atom.args) f.lemma)
passed-is point clause i atom f there = ap (accepts f.lemma) (slice_get-map (token_atom_at point) clause.atoms i ∙ ap (option_map (token_atom_at point)) there)

accepted-at : (point : List ℤ) (clause : Clause) (k : ℕ) (fs : List KeptLemma) (i : ℕ) (atom : Atom) → slice_get clause.atoms i ≡ Some atom → list_all (is_passed point clause) (uses k fs clause) ≡ true
    → list_all (accepts_on k point atom) (lemmas_of fs) ≡ true
accepted-at point clause k fs i atom there h =
    let back = uses_on-back (is_passed point clause) k i atom.pred fs (uses-back (is_passed point clause) k fs i clause.atoms atom there h) in
    all-map framed_of (accepts_on k point atom) fs
    ∙ all_weaken (λ (f : KeptLemma). not (nat_le k f.level && (f.pred == atom.pred)) || is_passed point clause (use_of i f)) (λ (f : KeptLemma). accepts_on k point atom (framed_of f))
    (λ f is. ap (λ b. not (nat_le k f.level && (f.pred == atom.pred)) || b) (sym (passed-is point clause i atom f there)) ∙ is) fs back

all-at : {X : Type 0} (p : X → Bool) (xs : List X) → ((i : ℕ) (x : X) → slice_get xs i ≡ Some x → p x ≡ true) → list_all p xs ≡ true
all-at p [] f = refl
all-at p (x ∷ xs) f = from_both (p x) _ (f 0 x refl) (all-at p xs (λ i y there. f (suc i) y there))

-- each lemma of F(k) accepts each body tuple
pub body-accepted : (point : List ℤ) (clause : Clause) (k : ℕ) (fs : List KeptLemma) → list_all (is_passed point clause) (uses k fs clause) ≡ true → list_all (all_accept_on k point (lemmas_of fs)) clause.atoms ≡ true
body-accepted point clause k fs h = all-at (all_accept_on k point (lemmas_of fs)) clause.atoms (λ i atom there. accepted-at point clause k fs i atom there h)

accepts-not : (a b c : Bool) → (not (a && b) || not c) ≡ true → (a && (b && c)) ≡ false
accepts-not true true true h = absurd (true≢false (sym h))
accepts-not true true false h = refl
accepts-not true false c h = refl
accepts-not false b c h = refl

none-pass : {X : Type 0} (p q : X → Bool) → ((x : X) → p x ≡ true → q x ≡ false) → (xs : List X) → list_all p xs ≡ true → list_any q xs ≡ false
none-pass p q f [] h = refl
none-pass p q f (x ∷ xs) h = let both = both_true (p x) _ h in ap (λ b. b || list_any q xs) (f x both.0) ∙ none-pass p q f xs both.1

-- so none shuts one out
pub not-shut-out : (es : List Framed) (k : ℕ) (point : List ℤ) (atom : Atom) → all_accept_on k point es atom ≡ true → shut_out es k (atom_at point atom) ≡ None
not-shut-out es k point atom h =
    none-mapped ByLemma (λ (e : Framed). nat_le k e.level && excludes e.lemma (atom_at point atom)) es
    (none-pass (accepts_on k point atom) (λ (e : Framed). nat_le k e.level && excludes e.lemma (atom_at point atom))
    (λ e is. accepts-not (nat_le k e.level) (e.lemma.pred == atom.pred) (cube_holds (tuple_at point atom.args) e.lemma.cube) is) es h)

atoms-of : (p : Atom → Bool) (atoms : List Atom) → list_all p atoms ≡ true → AllOf (λ (atom : Atom). p atom ≡ true) atoms
atoms-of p [] h = tt
atoms-of p (atom ∷ atoms) h = let both = both_true (p atom) _ h in (both.0, atoms-of p atoms both.1)

pub body-inside : (point : List ℤ) (clause : Clause) (k : ℕ) (es : List Framed) → list_all (all_accept_on k point es) clause.atoms ≡ true → first_told (shut_out es k) (body_at point clause) ≡ None
body-inside point clause k es h =
    none-told (λ (atom : Atom). all_accept_on k point es atom ≡ true) (atom_at point) (shut_out es k) (λ atom is. not-shut-out es k point atom is) clause.atoms (atoms-of (all_accept_on k point es) clause.atoms h)
