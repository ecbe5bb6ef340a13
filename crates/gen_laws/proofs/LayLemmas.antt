-- The terms of a generated script stand in an arena whose nodes are the generated ones.
use Rattle.std.proofs.Common.{ℕ, pos, ◌≡◌, ◌+◌, ◌≤◌, List, [], ◌∷◌, ◌++◌, get_or, true, refl, sym, subst, arith}
use Rattle.term_tree.specs.declared.sort.Sort.TheVariants.{Int as IntSort}
use Rattle.term_tree.specs.declared.node.TermId.{TermId}
use Rattle.term_tree.specs.declared.node.Node.{Node}
use Rattle.term_tree.specs.declared.node.Node.TheVariants.{Num, Var, Op, Pred as Applied}
use Rattle.term_tree.specs.declared.script.Script.{Script}
use Rattle.term_tree.specs.Arena.{Arena, IsArena, has_parts_below}
use Rattle.term_check.specs.Term.{Term, Terms, IsNodeAt, IsTermAt, AreTermsAt}
use Rattle.sort_check.specs.Commands.Command.{SetLogic, Declare, Assert, CheckSat}
use Rattle.clause_gen.proofs.OrderLemmas.{below_at}
use Rattle.clause_gen.specs.Generated.{children, generated_preds, generated_script, ids, leaves, parent, query, root_number}
use Rattle.gen_text.specs.Texts.{generated_text}
use Rattle.gen_laws.specs.Spelling.{SpellsScript}
use Rattle.gen_laws.proofs.ShapeLemmas.{Shape, Shapes, amount, letter, atom, apply, no_shape, one_more, Fits, AllFit}
use Rattle.gen_laws.proofs.CommandLemmas.{node_pred}
use Rattle.gen_laws.proofs.TextLemmas.{IsWritten, high_of, leaves_shape, low_of, parents_shape, root_shape, written}

-- where a term of this shape starts, and each of its parts before it
abbrev mutual
  starts : (s : Shape) (t : Term) → Fits s t → List ℕ
  starts (amount n) t f = f.0 ∷ []
  starts (letter k b) t f = f.0 ∷ []
  starts (atom args) t f = all_starts args f.1 f.3 ++ f.0 ∷ []
  starts (apply op args) t f = all_starts args f.1 f.3 ++ f.0 ∷ []

  all_starts : (ss : Shapes) (ts : Terms) → AllFit ss ts → List ℕ
  all_starts no_shape ts f = []
  all_starts (one_more s ss) ts f = starts s f.0 f.3 ++ all_starts ss f.1 f.4

module _ (arena : Arena) where
  -- the arena has a node for each of its parts, and it starts there
  abbrev mutual
    Laid : (s : Shape) (t : Term) → Fits s t → ℕ → Type 0
    Laid (amount n) t f id = IsNodeAt arena id (Num (pos n)) f.0
    Laid (letter k b) t f id = IsNodeAt arena id (Var k IntSort) f.0
    Laid (atom args) t f id = (parts : List TermId) × IsNodeAt arena id (Applied 0 parts) f.0 × AllLaid args f.1 f.3 parts
    Laid (apply op args) t f id = (parts : List TermId) × IsNodeAt arena id (Op op parts) f.0 × AllLaid args f.1 f.3 parts

    AllLaid : (ss : Shapes) (ts : Terms) → AllFit ss ts → List TermId → Type 0
    AllLaid no_shape ts f [] = Unit {0}
    AllLaid no_shape ts f (id ∷ more) = ⊥
    AllLaid (one_more s ss) ts f [] = ⊥
    AllLaid (one_more s ss) ts f (id ∷ more) = Laid s f.0 f.3 id.0 × AllLaid ss f.1 f.4 more

  mutual
    placed : (s : Shape) (t : Term) (f : Fits s t) (id : ℕ) → Laid s t f id → IsTermAt arena [] t id
    placed (amount n) t f id laid = subst (λ (u : Term). IsTermAt arena [] u id) (sym f.1) laid
    placed (letter k b) t f id laid = subst (λ (u : Term). IsTermAt arena [] u id) (sym f.1) laid
    placed (atom args) t f id laid = subst (λ (u : Term). IsTermAt arena [] u id) (sym f.2) (laid.0, laid.1, all_placed args f.1 f.3 laid.0 laid.2)
    placed (apply op args) t f id laid = subst (λ (u : Term). IsTermAt arena [] u id) (sym f.2) (laid.0, laid.1, all_placed args f.1 f.3 laid.0 laid.2)

    all_placed : (ss : Shapes) (ts : Terms) (f : AllFit ss ts) (parts : List TermId) → AllLaid ss ts f parts → AreTermsAt arena [] ts parts
    all_placed no_shape ts f [] laid = subst (λ (us : Terms). AreTermsAt arena [] us []) (sym f) tt
    all_placed no_shape ts f (id ∷ more) laid = absurd laid
    all_placed (one_more s ss) ts f [] laid = absurd laid
    all_placed (one_more s ss) ts f (id ∷ more) laid =
        subst (λ (us : Terms). AreTermsAt arena [] us (id ∷ more)) (sym f.2) (placed s f.0 f.3 id.0 laid.0, all_placed ss f.1 f.4 more laid.1)

module _ (low high depth start : ℕ) (text : List ℕ) (w : IsWritten low high depth start text) where
  abbrev offsets : List ℕ
  offsets =
      (starts (leaves_shape low high) w.leaves_fit.1 w.leaves_fit.3 ++ w.leaves_fit.0 ∷ []) ++ (starts parents_shape w.parents_fit.1 w.parents_fit.3 ++ w.parents_fit.0 ∷ [])
      ++ starts (root_shape depth start) w.root w.root_fits

  abbrev nodes : List Node
  nodes = leaves (pos low) (pos high) ++ children ++ parent ++ query (pos depth) (pos start)

  abbrev arena : Arena
  arena = record { nodes = nodes; offsets = offsets }

  -- each node stands after its parts
  in_order : IsArena nodes
  in_order i d within = let from : 0 + i ≡ i = omega arith in subst (λ (k : ℕ). has_parts_below k (get_or nodes i d) ≡ true) from (below_at 0 nodes i d within refl)

  first : IsTermAt arena [] w.leaves 14
  first =
      subst (λ (u : Term). IsTermAt arena [] u 14) (sym w.leaves_fit.2) (
        record { 0 = 13 },
        (refl, refl),
        placed arena (leaves_shape low high) w.leaves_fit.1 w.leaves_fit.3 13
            (ids (9 ∷ 12 ∷ []), (refl, refl), ((ids (2 ∷ 5 ∷ 8 ∷ []), (refl, refl), ((ids (0 ∷ 1 ∷ []), (refl, refl), ((refl, refl), ((refl, refl), tt))), ((ids (3 ∷ 4 ∷ []), (refl, refl), ((refl, refl), ((refl, refl), tt))), ((ids (6 ∷ 7 ∷ []), (refl, refl), ((refl, refl), ((refl, refl), tt))), tt)))), ((ids (10 ∷ 11 ∷ []), (refl, refl), ((refl, refl), ((refl, refl), tt))), tt))),
      )

  second : IsTermAt arena [] w.parents 34
  second =
      subst (λ (u : Term). IsTermAt arena [] u 34) (sym w.parents_fit.2) (
        record { 0 = 33 },
        (refl, refl),
        placed arena parents_shape w.parents_fit.1 w.parents_fit.3 33
            (ids (27 ∷ 32 ∷ []), (refl, refl), ((ids (19 ∷ 26 ∷ []), (refl, refl), ((ids (15 ∷ 18 ∷ []), (refl, refl), ((refl, refl), ((ids (16 ∷ 17 ∷ []), (refl, refl), ((refl, refl), ((refl, refl), tt))), tt))), ((ids (20 ∷ 25 ∷ []), (refl, refl), ((refl, refl), ((ids (23 ∷ 24 ∷ []), (refl, refl), ((ids (21 ∷ 22 ∷ []), (refl, refl), ((refl, refl), ((refl, refl), tt))), ((refl, refl), tt))), tt))), tt))), ((ids (30 ∷ 31 ∷ []), (refl, refl), ((ids (28 ∷ 29 ∷ []), (refl, refl), ((refl, refl), ((refl, refl), tt))), ((refl, refl), tt))), tt))),
      )

  third : IsTermAt arena [] w.root 38
  third = placed arena (root_shape depth start) w.root w.root_fits 38 (ids (37 ∷ []), (refl, refl), ((ids (35 ∷ 36 ∷ []), (refl, refl), ((refl, refl), ((refl, refl), tt))), tt))

  abbrev read : Script
  read = record {
    preds = generated_preds;
    asserts =
        record { term = record { 0 = 14 }; offset = w.at1; command = 2 } ∷ record { term = record { 0 = 34 }; offset = w.at2; command = 3 }
        ∷ record { term = record { 0 = 38 }; offset = w.at3; command = 4 } ∷ [];
    terms = arena;
  }

pub spells : (depth seed : ℕ) → depth ≤ 12 → SpellsScript (generated_text depth seed) (generated_script depth seed)
spells depth seed most =
    let w = written depth seed most in
    let script = read (low_of depth seed) (high_of depth seed) depth (root_number seed) (generated_text depth seed) w in
    record {
      commands = SetLogic ∷ Declare node_pred ∷ Assert w.at1 w.leaves ∷ Assert w.at2 w.parents ∷ Assert w.at3 w.root ∷ CheckSat ∷ [];
      read = script;
      is_script = w.is_script;
      spelled = record {
        arena = in_order (low_of depth seed) (high_of depth seed) depth (root_number seed) (generated_text depth seed) w;
        preds = refl;
        asserts = (
          _,
          _,
          refl,
          refl,
          refl,
          first (low_of depth seed) (high_of depth seed) depth (root_number seed) (generated_text depth seed) w,
          (
            _,
            _,
            refl,
            refl,
            refl,
            second (low_of depth seed) (high_of depth seed) depth (root_number seed) (generated_text depth seed) w,
            (_, _, refl, refl, refl, third (low_of depth seed) (high_of depth seed) depth (root_number seed) (generated_text depth seed) w, refl),
          ),
        );
      };
      same = record { preds = refl; nodes = refl; asserts = refl; commands = refl };
    }
