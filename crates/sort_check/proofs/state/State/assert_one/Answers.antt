use Rattle.std.proofs.Common.{◌≡◌, [], length, not, refl, sym, ap, ◌∙◌, arith, ℕ}
use Rattle.std.specs.Prelude.{None, Err}
use Rattle.sort_check.specs.Commands.{assert_fault}
use Rattle.sort_check.specs.declared.state.State.{State}
use Rattle.term_check.specs.declared.stop.TermStop.{TermStop}
use Rattle.sort_check.proofs.NodeLemmas.{term_within}
use Rattle.sort_check.proofs.StateLemmas.{grown, asserted_term, refused_term}
use Rattle.sort_check.proofs.state.State.assert_one.Goals as goal

pub assert_found-requires-clause-within : goal.assert_found-requires-clause-within
assert_found-requires-clause-within c =
    let found = c.in-Ok.ensures.found in
    term_within c.check_term.new.terms [] found.0.term c.in-Ok.found.id.0 found.2

pub returns-in_ok-taken-in-Ok : goal.returns-in_ok-taken-in-Ok
returns-in_ok-taken-in-Ok c before h =
    let found = c.in-Ok.ensures.found in
    let self = c.args.self.now in
    let state : State = record self { terms = c.check_term.new.terms } in
    let free : assert_fault (not self.is_checked) (length self.asserts.items) c.args.start ≡ None = ap (λ (n : ℕ). assert_fault (not self.is_checked) n c.args.start) (omega (arith, c.len.ensures, self.asserts.ok.0)) ∙ sym c.assert_fault.ensures ∙ c.in_default.is in
    asserted_term c.args.text.now before c.args.start c.args.term.now self found.0 c.in_ok-taken-in-Ok.taken _ h free found.1 (c.in_ok-taken-in-Ok.ensures before found.0 (grown before self state h c.in-Ok.ensures.keeps refl) found.2 found.3)

pub returns-in-Err-Fault : goal.returns-in-Err-Fault
returns-in-Err-Fault c before h =
    let self = c.args.self.now in
    let free : assert_fault (not self.is_checked) (length self.asserts.items) c.args.start ≡ None = ap (λ (n : ℕ). assert_fault (not self.is_checked) n c.args.start) (omega (arith, c.len.ensures, self.asserts.ok.0)) ∙ sym c.assert_fault.ensures ∙ c.in_default.is in
    refused_term c.args.text.now before c.args.start c.args.term.now self c.in-Err-Fault.fault _ h free (c.in-Err-Fault.ensures.fault c.in-Err-Fault.fault (ap (λ (e : TermStop). Err e) c.in-Err-Fault.field-0-is)) (grown before self _ h c.in-Err-Fault.ensures.keeps refl)
