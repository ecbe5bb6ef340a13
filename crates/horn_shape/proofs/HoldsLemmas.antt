-- What guards, heads and denied bodies that are true say; values of variables in two parts.
use Rattle.std.proofs.Common.{◌≡◌, ℕ, suc, ◌+◌, List, [], ◌∷◌, ◌++◌, length, Bool, true, false, ◌&&◌, refl, ap, sym, ◌∙◌, subst, arith, map}
use Rattle.std.specs.Prelude.{slice_get, Some, Ok, Err, not}
use Rattle.std.specs.List.{list_all}
use Rattle.term_tree.specs.declared.sort.Sort.{Sort}
use Rattle.term_tree.specs.declared.node.TermId.{TermId}
use Rattle.term_tree.specs.declared.node.Node.{Node}
use Rattle.term_tree.specs.declared.node.Node.TheVariants.{Pred}
use Rattle.term_tree.specs.declared.scalar.Value.{Value}
use Rattle.term_tree.specs.declared.scalar.Value.TheVariants.{Int, Bool as Truth}
use Rattle.term_tree.specs.Arena.{IsArena}
use Rattle.term_tree.specs.Operators.{truth}
use Rattle.term_tree.specs.Truth.{Interpretation, HaveSorts, HasValue}
use Rattle.term_tree.specs.Value.{Environment, value_of}
use Rattle.term_tree.proofs.LawLemmas.{one_value}
use Rattle.term_tree.proofs.Public.{arena_below, has_value_at}
use Rattle.horn_shape.specs.declared.clause.AtomUse.{AtomUse}
use Rattle.horn_shape.specs.Instance.{tuple_of}
use Rattle.horn_shape.specs.Plain.{is_plain_term}
use Rattle.horn_shape.specs.Shape.{Content, Reading, quantified_reading, arguments, application_reading, head_of, guard_of, body_reading}
use Rattle.horn_shape.specs.Content.{met, Holds, StandAt}
use Rattle.horn_shape.specs.machinery.Gathering.{place_of}
use Rattle.horn_shape.proofs.KnownLemmas.{determined, valued_args, valued_plain}
use Rattle.horn_shape.proofs.BodyLemmas.{same_read, chosen_ok, tuple_is, body_is}

pub stand_split : (E : Environment) (n k : ℕ) (vs ws : List Value) → k ≡ n + length vs → StandAt E n (vs ++ ws) → StandAt E n vs × StandAt E k ws
stand_split E n k [] ws e h = (tt, subst (λ (j : ℕ). StandAt E j ws) (omega (arith, e)) h)
stand_split E n k (v ∷ vs) ws e h = let rest = stand_split E (suc n) k vs ws (omega (arith, e)) h.1 in ((h.0, rest.0), rest.1)

-- a list of values of sorts, in two
pub record Split (sorts more : List Sort) (vs : List Value) : Type 0 where
  pub front : List Value
  pub rest : List Value
  pub whole : vs ≡ front ++ rest
  pub here : HaveSorts sorts front
  pub there : HaveSorts more rest
  pub long : length front ≡ length sorts

pub split_sorts : (sorts more : List Sort) (vs : List Value) → HaveSorts (sorts ++ more) vs → Split sorts more vs
split_sorts [] more vs h = record { front = []; rest = vs; whole = refl; here = tt; there = h; long = refl }
split_sorts (s ∷ sorts) more [] h = absurd h
split_sorts (s ∷ sorts) more (v ∷ vs) h =
    let r = split_sorts sorts more vs h.1 in
    record { front = v ∷ r.front; rest = r.rest; whole = ap (λ (ws : List Value). v ∷ ws) r.whole; here = (h.0, r.here); there = r.there; long = omega (arith, r.long) }

pub quantified_ok : (sorts : List Sort) (r : Reading) (c : Content) → quantified_reading sorts r ≡ Ok c
    → (x : Content) × (r ≡ Ok x) × (record { vars = sorts ++ x.vars; atoms = x.atoms; guards = x.guards; head = x.head } ≡ c)
quantified_ok sorts (Err e) c h = absurd (cc)
quantified_ok sorts (Ok x) c h = (x, refl, same_read (record { vars = sorts ++ x.vars; atoms = x.atoms; guards = x.guards; head = x.head }) c h)

truth_true : (v : Value) → truth v ≡ true → v ≡ Truth true
truth_true (Int n) h = absurd (cc)
truth_true (Truth true) h = refl
truth_true (Truth false) h = absurd (cc)

not_both : {A : Type 0} (b : Bool) → b ≡ true → not b ≡ true → A
not_both true h k = absurd (cc)
not_both false h k = absurd (cc)

true_is : (v : Value) (b : Bool) → v ≡ Truth b → truth v ≡ b
true_is v b h = ap truth h

module _ (I : Interpretation) (nodes : List Node) (arena : IsArena nodes) where
  pub guard_holds : (id : TermId) (lets : List TermId) (E : Environment) → is_plain_term nodes id.0 ≡ true → HasValue I nodes id.0 E (Truth true)
      → Holds I nodes E (guard_of true (place_of id lets))
  guard_holds id lets E plain has h =
      let known = true_is (value_of nodes id.0 E) true (one_value I nodes id.0 E (value_of nodes id.0 E) (Truth true) (valued_plain nodes arena I id.0 E plain) has) in
      not_both (truth (value_of nodes id.0 E)) known (unwrap (not (truth (value_of nodes id.0 E))) h)
    where
      unwrap : (b : Bool) → ((b && true) && true) ≡ true → b ≡ true
      unwrap true e = refl
      unwrap false e = e

  pub head_is : (id : TermId) (pred : ℕ) (args lets : List TermId) (c : Content) (E : Environment) → slice_get nodes id.0 ≡ Some (Pred pred args)
      → application_reading (is_plain_term nodes) head_of pred args (place_of id lets) ≡ Ok c
      → (v : Value) × HasValue I nodes id.0 E v × (v ≡ I pred (tuple_of nodes E (record { pred = pred; args = arguments lets args })))
      × (head_of (record { pred = pred; args = arguments lets args }) ≡ c)
  head_is id pred args lets c E is h =
      let below = arena_below nodes id.0 (Pred pred args) arena is in
      let atom : AtomUse = record { pred = pred; args = arguments lets args } in
      let fits = chosen_ok (list_all (λ a. is_plain_term nodes a.0) args) (head_of atom) id c h in
      let values : List Value = map (λ a. value_of nodes a.0 E) args in (
        I pred values,
        (has_value_at I nodes id.0 (Pred pred args) E (I pred values) is below).back (determined (HasValue I nodes) args E values (I pred) (valued_args nodes arena I args E fits.0)),
        ap (I pred) (tuple_is nodes E pred lets args),
        fits.1,
      )

  -- an application that is true as a clause has its head true
  pub head_holds : (id : TermId) (pred : ℕ) (args lets : List TermId) (c : Content) (E : Environment) → slice_get nodes id.0 ≡ Some (Pred pred args)
      → application_reading (is_plain_term nodes) head_of pred args (place_of id lets) ≡ Ok c → HasValue I nodes id.0 E (Truth true) → Holds I nodes E c
  head_holds id pred args lets c E is h has =
      let found = head_is id pred args lets c E is h in
      subst (λ (x : Content). Holds I nodes E x) found.3 (λ m. sym found.2 ∙ one_value I nodes id.0 E found.0 (Truth true) found.1 has)

  -- a body that is false is no body that is met
  pub denied_holds : (id : TermId) (lets : List TermId) (c : Content) (E : Environment) (w : Value) → body_reading nodes id.0 (place_of id lets) ≡ Ok c
      → HasValue I nodes id.0 E w → truth w ≡ false → met I nodes E c ≡ true → ⊥
  denied_holds id lets c E w h has false_is m =
      let b = body_is I nodes arena id lets c E h in
      let same = one_value I nodes id.0 E b.value w b.has has in
      differs (sym m ∙ sym b.meets ∙ ap truth same ∙ false_is)
    where
      differs : true ≡ false → ⊥
      differs e = absurd (cc)
