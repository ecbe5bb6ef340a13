-- Where the parts of a term start in the order of its text, an offset is that of one of them: it is found by the offset.
use Rattle.std.proofs.Common.{◌≡◌, ℕ, ◌+◌, ◌<◌, ◌≤◌, ◌==◌, List, [], ◌∷◌, Bool, true, false, refl, ap, sym, ◌∙◌, arith}
use Rattle.std.specs.Prelude.{slice_get, Option, Some, None, if◌then◌else◌}
use Rattle.term_tree.specs.declared.node.TermId.{TermId}
use Rattle.term_tree.specs.declared.node.Node.{Node}
use Rattle.term_tree.specs.declared.node.Node.TheVariants.{Pred, Op, Divisible, Let, Forall, Exists}
use Rattle.term_tree.proofs.PlainLemmas.{eqb_self, same_number}
use Rattle.term_check.specs.Term.{Term, numeral, truth, variable, let_name, predicate, operation, divisible, binding, universal, existential, Terms, none, more}
use Rattle.linear_terms.specs.Width.{first_of_two}
use Rattle.clause_readings.specs.Layout.{IsLaid, AreLaid}

-- where a term starts
abbrev pub start_of : Term → ℕ
start_of (numeral at value) = at
start_of (truth at value) = at
start_of (variable at number sort) = at
start_of (let_name at number) = at
start_of (predicate at number args) = at
start_of (operation at op args) = at
start_of (divisible at by arg) = at
start_of (binding at bound body) = at
start_of (universal at first sorts body) = at
start_of (existential at first sorts body) = at

-- the arguments of a node, or the terms that it binds
abbrev pub args_of : Option Node → List TermId
args_of (Some (Pred pred args)) = args
args_of (Some (Op op args)) = args
args_of (Some (Let bound body)) = bound
args_of _ = []

-- its one argument, or its body
abbrev pub body_of : Option Node → ℕ
body_of (Some (Divisible by arg)) = arg.0
body_of (Some (Let bound body)) = body.0
body_of (Some (Forall first sorts body)) = body.0
body_of (Some (Exists first sorts body)) = body.0
body_of _ = 0

abbrev pub found_here : ℕ → ℕ → ℕ → Option ℕ → Option ℕ
found_here at offset id later = if at == offset then Some id else later

-- the number of the part of the term of that number that starts at the offset
abbrev mutual
  pub found : List Node → ℕ → Term → ℕ → Option ℕ
  found nodes offset (numeral at value) id = found_here at offset id None
  found nodes offset (truth at value) id = found_here at offset id None
  found nodes offset (variable at number sort) id = found_here at offset id None
  found nodes offset (let_name at number) id = found_here at offset id None
  found nodes offset (predicate at number args) id = found_here at offset id (found_among nodes offset args (args_of (slice_get nodes id)))
  found nodes offset (operation at op args) id = found_here at offset id (found_among nodes offset args (args_of (slice_get nodes id)))
  found nodes offset (divisible at by arg) id = found_here at offset id (found nodes offset arg (body_of (slice_get nodes id)))
  found nodes offset (binding at bound body) id =
      found_here at offset id (first_of_two (found_among nodes offset bound (args_of (slice_get nodes id))) (found nodes offset body (body_of (slice_get nodes id))))
  found nodes offset (universal at first sorts body) id = found_here at offset id (found nodes offset body (body_of (slice_get nodes id)))
  found nodes offset (existential at first sorts body) id = found_here at offset id (found nodes offset body (body_of (slice_get nodes id)))

  pub found_among : List Node → ℕ → Terms → List TermId → Option ℕ
  found_among nodes offset none ids = None
  found_among nodes offset (more t ts) [] = None
  found_among nodes offset (more t ts) (id ∷ ids) = first_of_two (found nodes offset t id.0) (found_among nodes offset ts ids)

-- a term is found at its own start
pub found_itself : (nodes : List Node) (t : Term) (id : ℕ) → found nodes (start_of t) t id ≡ Some id
found_itself nodes (numeral at value) id = ap (λ (b : Bool). if b then Some id else None) (eqb_self at)
found_itself nodes (truth at value) id = ap (λ (b : Bool). if b then Some id else None) (eqb_self at)
found_itself nodes (variable at number sort) id = ap (λ (b : Bool). if b then Some id else None) (eqb_self at)
found_itself nodes (let_name at number) id = ap (λ (b : Bool). if b then Some id else None) (eqb_self at)
found_itself nodes (predicate at number args) id = ap (λ (b : Bool). if b then Some id else found_among nodes at args (args_of (slice_get nodes id))) (eqb_self at)
found_itself nodes (operation at op args) id = ap (λ (b : Bool). if b then Some id else found_among nodes at args (args_of (slice_get nodes id))) (eqb_self at)
found_itself nodes (divisible at by arg) id = ap (λ (b : Bool). if b then Some id else found nodes at arg (body_of (slice_get nodes id))) (eqb_self at)
found_itself nodes (binding at bound body) id =
    ap (λ (b : Bool). if b then Some id else first_of_two (found_among nodes at bound (args_of (slice_get nodes id))) (found nodes at body (body_of (slice_get nodes id)))) (eqb_self at)
found_itself nodes (universal at first sorts body) id = ap (λ (b : Bool). if b then Some id else found nodes at body (body_of (slice_get nodes id))) (eqb_self at)
found_itself nodes (existential at first sorts body) id = ap (λ (b : Bool). if b then Some id else found nodes at body (body_of (slice_get nodes id))) (eqb_self at)

abbrev IsWithin : ℕ → ℕ → ℕ → Type 0
IsWithin low high offset = (low ≤ offset) × (offset < high)

here_or_later : (low high at offset id x : ℕ) (later : Option ℕ) → low ≤ at → at < high → ((y : ℕ) → later ≡ Some y → IsWithin low high offset) → found_here at offset id later ≡ Some x → IsWithin low high offset
here_or_later low high at offset id x later a b rest h = by_test (at == offset) refl
  where
    by_test : (t : Bool) → (at == offset) ≡ t → IsWithin low high offset
    by_test true e = let same = same_number at offset e in (omega (arith, same, a), omega (arith, same, b))
    by_test false e = rest x (ap (λ (t : Bool). if t then Some id else later) (sym e) ∙ h)

one_of : (x : ℕ) (a b : Option ℕ) (P : Type 0) → ((y : ℕ) → a ≡ Some y → P) → ((y : ℕ) → b ≡ Some y → P) → first_of_two a b ≡ Some x → P
one_of x None b P f g h = g x h
one_of x (Some y) b P f g h = f y refl

pub laid_apart : (low high : ℕ) (t : Term) → IsLaid low high t → low < high
laid_apart low high (numeral at value) h = omega (arith, h.0, h.1)
laid_apart low high (truth at value) h = omega (arith, h.0, h.1)
laid_apart low high (variable at number sort) h = omega (arith, h.0, h.1)
laid_apart low high (let_name at number) h = omega (arith, h.0, h.1)
laid_apart low high (predicate at number args) h = omega (arith, h.0, h.1)
laid_apart low high (operation at op args) h = omega (arith, h.0, h.1)
laid_apart low high (divisible at by arg) h = omega (arith, h.0, h.1)
laid_apart low high (binding at bound body) h = omega (arith, h.0, h.1)
laid_apart low high (universal at first sorts body) h = omega (arith, h.0, h.1)
laid_apart low high (existential at first sorts body) h = omega (arith, h.0, h.1)

pub all_laid_apart : (low high : ℕ) (ts : Terms) → AreLaid low high ts → low ≤ high
all_laid_apart low high none h = h
all_laid_apart low high (more t ts) h = let a = laid_apart low h.0 t h.1 in let b = all_laid_apart h.0 high ts h.2 in omega (arith, a, b)

-- what is found lies in the term's text
mutual
  pub found_within : (low high : ℕ) (nodes : List Node) (offset : ℕ) (t : Term) (id x : ℕ) → IsLaid low high t → found nodes offset t id ≡ Some x → IsWithin low high offset
  found_within low high nodes offset (numeral at value) id x h is = here_or_later low high at offset id x None h.0 h.1 (λ y e. absurd (cc)) is
  found_within low high nodes offset (truth at value) id x h is = here_or_later low high at offset id x None h.0 h.1 (λ y e. absurd (cc)) is
  found_within low high nodes offset (variable at number sort) id x h is = here_or_later low high at offset id x None h.0 h.1 (λ y e. absurd (cc)) is
  found_within low high nodes offset (let_name at number) id x h is = here_or_later low high at offset id x None h.0 h.1 (λ y e. absurd (cc)) is
  found_within low high nodes offset (predicate at number args) id x h is =
      here_or_later low high at offset id x (found_among nodes offset args (args_of (slice_get nodes id))) h.0 h.1
      (λ y e. let w = all_within (at + 1) high nodes offset args (args_of (slice_get nodes id)) y h.2 e in (omega (arith, h.0, w.0), w.1)) is
  found_within low high nodes offset (operation at op args) id x h is =
      here_or_later low high at offset id x (found_among nodes offset args (args_of (slice_get nodes id))) h.0 h.1
      (λ y e. let w = all_within (at + 1) high nodes offset args (args_of (slice_get nodes id)) y h.2 e in (omega (arith, h.0, w.0), w.1)) is
  found_within low high nodes offset (divisible at by arg) id x h is =
      here_or_later low high at offset id x (found nodes offset arg (body_of (slice_get nodes id))) h.0 h.1
      (λ y e. let w = found_within (at + 1) high nodes offset arg (body_of (slice_get nodes id)) y h.2 e in (omega (arith, h.0, w.0), w.1)) is
  found_within low high nodes offset (binding at bound body) id x h is =
      let first = all_laid_apart (at + 1) h.2.0 bound h.2.1 in
      let last = laid_apart h.2.0 high body h.2.2 in
      here_or_later low high at offset id x (first_of_two (found_among nodes offset bound (args_of (slice_get nodes id))) (found nodes offset body (body_of (slice_get nodes id)))) h.0 h.1
      (λ y e. one_of y (found_among nodes offset bound (args_of (slice_get nodes id))) (found nodes offset body (body_of (slice_get nodes id))) (IsWithin low high offset)
      (λ z f. let w = all_within (at + 1) h.2.0 nodes offset bound (args_of (slice_get nodes id)) z h.2.1 f in (omega (arith, h.0, w.0), omega (arith, w.1, last)))
      (λ z f. let w = found_within h.2.0 high nodes offset body (body_of (slice_get nodes id)) z h.2.2 f in (omega (arith, h.0, w.0, first), w.1)) e) is
  found_within low high nodes offset (universal at first sorts body) id x h is =
      here_or_later low high at offset id x (found nodes offset body (body_of (slice_get nodes id))) h.0 h.1
      (λ y e. let w = found_within (at + 1) high nodes offset body (body_of (slice_get nodes id)) y h.2 e in (omega (arith, h.0, w.0), w.1)) is
  found_within low high nodes offset (existential at first sorts body) id x h is =
      here_or_later low high at offset id x (found nodes offset body (body_of (slice_get nodes id))) h.0 h.1
      (λ y e. let w = found_within (at + 1) high nodes offset body (body_of (slice_get nodes id)) y h.2 e in (omega (arith, h.0, w.0), w.1)) is

  pub all_within : (low high : ℕ) (nodes : List Node) (offset : ℕ) (ts : Terms) (ids : List TermId) (x : ℕ) → AreLaid low high ts → found_among nodes offset ts ids ≡ Some x → IsWithin low high offset
  all_within low high nodes offset none ids x h is = absurd (cc)
  all_within low high nodes offset (more t ts) [] x h is = absurd (cc)
  all_within low high nodes offset (more t ts) (id ∷ ids) x h is =
      let first = laid_apart low h.0 t h.1 in
      let last = all_laid_apart h.0 high ts h.2 in
      one_of x (found nodes offset t id.0) (found_among nodes offset ts ids) (IsWithin low high offset)
      (λ y e. let w = found_within low h.0 nodes offset t id.0 y h.1 e in (w.0, omega (arith, w.1, last)))
      (λ y e. let w = all_within h.0 high nodes offset ts ids y h.2 e in (omega (arith, w.0, first), w.1)) is
