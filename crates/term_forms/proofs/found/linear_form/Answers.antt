use Rattle.std.proofs.Common.{ℕ, subst}
use Rattle.std.specs.Prelude.{Result}
use Rattle.lin_atoms.specs.Linear.{Linear}
use Rattle.term_tables.specs.machinery.Table.{constant_in}
use Rattle.term_forms.specs.Found.{AreFound, Tells, naming_in}
use Rattle.term_forms.specs.machinery.Reading.{AreRead}
use Rattle.term_forms.proofs.FoundLemmas.{found_is, from_read, on_ok, to_read}
use Rattle.term_forms.proofs.found.linear_form.Goals as goal

pub read_part-requires-clause-known : goal.read_part-requires-clause-known
read_part-requires-clause-known c =
    to_read (constant_in c.args.constants.now) (naming_in c.args.names.now.own.items c.args.names.now.auxiliary) c.args.terms.now.nodes c.args.known.now c.arena_law.ensures.arena c.requires.known

pub returns-clause-told : goal.returns-clause-told
returns-clause-told c =
    subst (λ (found : Result Linear ℕ). Tells found c.read_part.result)
    (found_is (constant_in c.args.constants.now) (naming_in c.args.names.now.own.items c.args.names.now.auxiliary) c.args.terms.now.nodes c.arena_law.ensures.arena c.args.id.0) c.read_part.ensures.told

pub returns-clause-known : goal.returns-clause-known
returns-clause-known c =
    let constant = constant_in c.args.constants.now in
    let naming = naming_in c.args.names.now.own.items c.args.names.now.auxiliary in
    let nodes = c.args.terms.now.nodes in
    on_ok c.read_part.result (AreRead constant naming nodes c.read_part.new.known) (AreFound constant naming nodes c.read_part.new.known)
    (from_read constant naming nodes c.read_part.new.known c.arena_law.ensures.arena) c.read_part.ensures.known
