use Rattle.std.proofs.Common.{length}
use Rattle.term_tree.specs.declared.node.TermId.{TermId}
use Rattle.lin_atoms.specs.Linear.{Linear}
use Rattle.linear_terms.specs.Linear.{bit_of}
use Rattle.term_formulas.specs.Written.{naming_by}
use Rattle.term_formulas.proofs.BitLemmas.{bits_are, bits_next, ids_next}
use Rattle.term_formulas.proofs.bits.bits_of.Goals as goal

pub returns-in_err-bits-clause-bits : goal.returns-in_err-bits-clause-bits
returns-in_err-bits-clause-bits c = bits_are (naming_by c.args.names.now) c.args.terms.now.nodes c.arena_law.ensures.arena c.args.ids.now c.requires

pub returns-in_err-bit_of-clause-bits : goal.returns-in_err-bit_of-clause-bits
returns-in_err-bit_of-clause-bits c = bits_are (naming_by c.args.names.now) c.args.terms.now.nodes c.arena_law.ensures.arena c.args.ids.now c.requires

pub returns-in_err-push-clause-bits : goal.returns-in_err-push-clause-bits
returns-in_err-push-clause-bits c = bits_are (naming_by c.args.names.now) c.args.terms.now.nodes c.arena_law.ensures.arena c.args.ids.now c.requires

pub returns-clause-bits : goal.returns-clause-bits
returns-clause-bits c = bits_are (naming_by c.args.names.now) c.args.terms.now.nodes c.arena_law.ensures.arena c.args.ids.now c.requires

pub bit_of-requires : goal.bit_of-requires
bit_of-requires c = (ids_next (length c.args.terms.now.nodes) c.args.ids.now c.loop-id.id-index (record { 0 = 0 }) c.loop-id-test.true c.loop-id.invariant.there).0

pub loop-id-preserved : goal.loop-id-preserved
loop-id-preserved c =
    let bit : TermId → Linear = λ id. bit_of (naming_by c.args.names.now) c.args.terms.now.nodes id.0 in
    let ids = c.args.ids.now in
    let i = c.loop-id.id-index in
    record {
      made = bits_next bit ids i (record { 0 = 0 }) c.in_ok-bit_of.field-0 c.loop-id.bits.items c.push.new.self.items c.loop-id-test.true c.in_ok-bit_of.ensures.is c.loop-id.invariant.made c.in_ok-push.ensures.items;
      there = (ids_next (length c.args.terms.now.nodes) ids i (record { 0 = 0 }) c.loop-id-test.true c.loop-id.invariant.there).1;
    }
