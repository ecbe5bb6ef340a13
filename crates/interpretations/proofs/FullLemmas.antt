-- What a failing call hands on, and what a node that was put is.
use Rattle.std.proofs.Common.{◌≡◌, ℕ, ◌^◌, ◌<◌, ◌≤◌, List, [], ◌∷◌, ◌++◌, length, refl, ap, sym, subst, ◌∙◌, length-append, arith}
use Rattle.std.specs.Prelude.{Result, Err, IsErrOf, Some, slice_get}
use Rattle.std.specs.Result.{IsErrAnd}
use Rattle.std.proofs.lemmas.Result.{err_from_is_err_and}
use Rattle.term_tree.specs.declared.sort.Sort.{Sort}
use Rattle.term_tree.specs.declared.node.TermId.{TermId}
use Rattle.term_tree.specs.declared.node.Node.{Node}
use Rattle.lin_atoms.specs.declared.lit.Lit.{Lit}
use Rattle.answer_text.specs.Lemmas.{IsNode}
use Rattle.interpretations.specs.Size.{literal_size}
use Rattle.interpretations.specs.Terms.{IsLiteralOf}
use Rattle.interpretations.specs.declared.stop.DefinitionStop.{DefinitionStop}
use Rattle.interpretations.specs.declared.stop.DefinitionStop.TheVariants.{Full}
use Rattle.interpretations.specs.machinery.Added.{IsAdded}
use Rattle.interpretations.proofs.AddedLemmas.{added-as}

same-err : {A : Type 0} (made : Result A DefinitionStop) (x y : DefinitionStop) → made ≡ Err x → made ≡ Err y → x ≡ y
same-err made x y e f = cc

-- where a call fails for want of numbers, so did the one that it hands on
pub full-of : {A B : Type 0} (made : Result B DefinitionStop) (stop : DefinitionStop) (n : ℕ) → IsErrAnd made (λ m. m ≡ stop) → IsErrOf made Full → (IsErrOf {T = A} (Err stop) Full → 2 ^ 32 < n) → 2 ^ 32 < n
full-of made stop n failed h full =
    let told = err_from_is_err_and made failed in
    full (ap Err (sym told.2 ∙ same-err made told.0 Full told.1 h))

at-end : (s : List Node) (node : Node) (later : List Node) → slice_get ((s ++ node ∷ []) ++ later) (length s) ≡ Some node
at-end [] node later = refl
at-end (x ∷ s) node later = at-end s node later

pub put-added : (s u : List Node) (node : Node) (id : TermId) → id.0 ≡ length s → u ≡ s ++ node ∷ [] → IsAdded (λ nodes k. IsNode nodes k node) 1 s u id
put-added s u node id h e = record {
  grown = record { more = node ∷ []; are = e; few = omega arith };
  there = omega (arith, h, ap length e, length-append s (node ∷ []));
  is = λ later. ap (slice_get (u ++ later)) h ∙ ap (λ (ns : List Node). slice_get (ns ++ later) (length s)) e ∙ at-end s node later;
}

-- a literal by another name, and with more room
pub literal-as : (sorts : List Sort) (lit made : Lit) (a : ℕ) (s t : List Node) (id : TermId) → lit ≡ made → a ≤ literal_size made → IsAdded (λ nodes k. IsLiteralOf nodes sorts made k) a s t id
    → IsAdded (λ nodes k. IsLiteralOf nodes sorts lit k) (literal_size lit) s t id
literal-as sorts lit made a s t id is le added =
    subst (λ (l : Lit). IsAdded (λ nodes k. IsLiteralOf nodes sorts l k) (literal_size l) s t id) (sym is)
    (added-as (λ nodes k. IsLiteralOf nodes sorts made k) (λ nodes k. IsLiteralOf nodes sorts made k) a (literal_size made) s t id le (λ nodes h. h) added)
