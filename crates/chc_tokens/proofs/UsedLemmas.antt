-- One more used lemma, or one more literal, in a loop over them.
use Rattle.std.proofs.Common.{◌≡◌, ℕ, List, [], ◌∷◌, ◌++◌, map, ap, sym, ◌∙◌, ◌<◌, ◌+◌, length, take, drop, get_or, ◌&&◌, true, false, Bool}
use Rattle.std.specs.List.{list_all}
use Rattle.std.proofs.lemmas.List.{append_assoc, drop_more, map-append, map_more}
use Rattle.lin_atoms.specs.Denial.{lit_fits}
use Rattle.lin_atoms.specs.declared.form.Form.{Form}
use Rattle.lin_atoms.specs.declared.form.Form.TheVariants.{Lit as Literal}
use Rattle.lin_atoms.specs.declared.lit.Lit.{Lit}
use Rattle.cube_forms.specs.Cubes.{cube_at, has_room, lit_at}
use Rattle.chc_tokens.specs.declared.used.Used.{Used}

pub more-forms : (f : Used → Form) (used : List Used) (i : ℕ) (one : Used) (before parts new : List Form) (form : Form) → i < length used → one ≡ get_or used i one
    → parts ≡ before ++ map f (take i used) → form ≡ f one → new ≡ parts ++ form ∷ [] → new ≡ before ++ map f (take (i + 1) used)
more-forms f used i one before parts new form within is was made pushed =
    let last : map f (take i used) ++ form ∷ [] ≡ map f (take (i + 1) used) = ap (λ (x : Form). map f (take i used) ++ x ∷ []) (made ∙ ap f is) ∙ sym (map_more f used i one within) in
    pushed ∙ ap (λ (xs : List Form). xs ++ form ∷ []) was ∙ append_assoc before (map f (take i used)) (form ∷ []) ∙ ap (λ (xs : List Form). before ++ xs) last

pub more-room : (p : Used → Bool) (used : List Used) (i : ℕ) (one : Used) → i < length used → one ≡ get_or used i one → p one ≡ true → list_all p (drop (i + 1) used) ≡ list_all p (drop i used)
more-room p used i one within is fits = sym (ap (list_all p) (drop_more used i one within) ∙ ap (λ b. b && list_all p (drop (i + 1) used)) (sym (ap p is) ∙ fits))

pub no-room : (p : Used → Bool) (used : List Used) (i : ℕ) (one : Used) → i < length used → one ≡ get_or used i one → p one ≡ false → list_all p (drop i used) ≡ list_all p used → list_all p used ≡ false
no-room p used i one within is wide was = sym was ∙ ap (list_all p) (drop_more used i one within) ∙ ap (λ b. b && list_all p (drop (i + 1) used)) (sym (ap p is) ∙ wide)

-- literals at arguments
pub more-literals : (args : List ℕ) (lits : List Lit) (i : ℕ) (lit placed : Lit) (before parts new : List Form) → i < length lits → lit ≡ get_or lits i lit
    → parts ≡ before ++ map Literal (cube_at args (take i lits)) → placed ≡ lit_at args lit → new ≡ parts ++ Literal placed ∷ [] → new ≡ before ++ map Literal (cube_at args (take (i + 1) lits))
more-literals args lits i lit placed before parts new within is was made pushed =
    let sofar = map Literal (cube_at args (take i lits)) in
    let more : map Literal (cube_at args (take (i + 1) lits)) ≡ sofar ++ Literal (lit_at args (get_or lits i lit)) ∷ [] =
    ap (map Literal) (map_more (lit_at args) lits i lit within) ∙ map-append Literal (cube_at args (take i lits)) (lit_at args (get_or lits i lit) ∷ []) in
    let last : sofar ++ Literal placed ∷ [] ≡ map Literal (cube_at args (take (i + 1) lits)) = ap (λ (x : Lit). sofar ++ Literal x ∷ []) (made ∙ ap (lit_at args) is) ∙ sym more in
    pushed ∙ ap (λ (xs : List Form). xs ++ Literal placed ∷ []) was ∙ append_assoc before sofar (Literal placed ∷ []) ∙ ap (λ (xs : List Form). before ++ xs) last

pub room-here : (args : List ℕ) (lits : List Lit) (i : ℕ) (lit : Lit) → i < length lits → lit ≡ get_or lits i lit → has_room args (drop i lits) ≡ (lit_fits (lit_at args lit) && has_room args (drop (i + 1) lits))
room-here args lits i lit within is = ap (has_room args) (drop_more lits i lit within) ∙ ap (λ (l : Lit). lit_fits (lit_at args l) && has_room args (drop (i + 1) lits)) (sym is)

pub room-more : (args : List ℕ) (lits : List Lit) (i : ℕ) (lit : Lit) → i < length lits → lit ≡ get_or lits i lit → lit_fits (lit_at args lit) ≡ true → has_room args (drop (i + 1) lits) ≡ has_room args (drop i lits)
room-more args lits i lit within is fits = sym (room-here args lits i lit within is ∙ ap (λ b. b && has_room args (drop (i + 1) lits)) fits)

pub room-none : (args : List ℕ) (lits : List Lit) (i : ℕ) (lit : Lit) → i < length lits → lit ≡ get_or lits i lit → lit_fits (lit_at args lit) ≡ false → has_room args (drop i lits) ≡ has_room args lits → has_room args lits ≡ false
room-none args lits i lit within is wide was = sym was ∙ room-here args lits i lit within is ∙ ap (λ b. b && has_room args (drop (i + 1) lits)) wide
