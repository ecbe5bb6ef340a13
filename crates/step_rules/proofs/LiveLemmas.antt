-- What the rules look for among all obligations stands among the live ones.
use Rattle.std.proofs.Common.{◌≡◌, ℕ, List, length, filter, false, ◌&&◌, ap}
use Rattle.std.specs.Prelude.{ℤ, ◌==◌}
use Rattle.std.specs.List.{find}
use Rattle.cube_forms.specs.Cubes.{cube_holds}
use Rattle.obligation_tree.specs.Nodes.{live_numbers}
use Rattle.obligation_tree.specs.declared.node.Node.{Node}
use Rattle.book_rules.specs.OpenRules.{is_rival}
use Rattle.book_rules.specs.StallRules.{is_live_child}
use Rattle.book_rules.specs.State.{Obligation, is_child, is_live}
use Rattle.book_rules.specs.Steps.{OpenStep}
use Rattle.book_rules.specs.Walks.{first_number}
use Rattle.step_rules.specs.Views.{obligations_of}
use Rattle.step_rules.specs.machinery.Walks.{child_at, is_twin, rival_at, twin_at}
use Rattle.step_rules.proofs.WalkLemmas.{count-live, first-live}

dead-child : (parent : ℕ) (o : Obligation) → is_live o ≡ false → is_live_child parent o ≡ false
dead-child parent o dead = ap (λ b. b && is_child parent o) dead

dead-rival : (s : OpenStep) (o : Obligation) → is_live o ≡ false → is_rival s o ≡ false
dead-rival s o dead = ap (λ b. b && is_child s.parent o && (o.clause == s.seen.clause)) dead

dead-twin : (s : OpenStep) (tuple : List ℤ) (o : Obligation) → is_live o ≡ false → is_twin s tuple o ≡ false
dead-twin s tuple o dead = ap (λ b. b && (o.atom == s.atom) && cube_holds tuple o.cube) (dead-rival s o dead)

pub first-child : (nodes : List Node) (parent : ℕ) → first_number (is_live_child parent) (obligations_of nodes) ≡ find (child_at nodes parent) (live_numbers nodes)
first-child nodes parent = first-live (is_live_child parent) (dead-child parent) nodes

pub first-rival : (nodes : List Node) (s : OpenStep) → first_number (is_rival s) (obligations_of nodes) ≡ find (rival_at nodes s) (live_numbers nodes)
first-rival nodes s = first-live (is_rival s) (dead-rival s) nodes

pub count-rivals : (nodes : List Node) (s : OpenStep) → length (filter (is_rival s) (obligations_of nodes)) ≡ length (filter (rival_at nodes s) (live_numbers nodes))
count-rivals nodes s = count-live (is_rival s) (dead-rival s) nodes

pub first-twin : (nodes : List Node) (s : OpenStep) (tuple : List ℤ) → first_number (is_twin s tuple) (obligations_of nodes) ≡ find (twin_at nodes s tuple) (live_numbers nodes)
first-twin nodes s tuple = first-live (is_twin s tuple) (dead-twin s tuple) nodes
