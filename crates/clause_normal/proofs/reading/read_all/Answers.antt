use Rattle.std.proofs.Common.{◌≡◌, ◌<◌, ℕ, List, length, map, get_or, ap, arith, rules}
use Rattle.std.specs.Prelude.{Ok, Err}
use Rattle.term_tree.specs.declared.script.Assertion.{Assertion}
use Rattle.term_tree.specs.declared.script.Pred.{Pred as Declared}
use Rattle.clause_normal.specs.Reading.{all_clauses, normal_reading}
use Rattle.clause_normal.proofs.ReadingLemmas.{clauses_more, clauses_stop}
use Rattle.clause_normal.proofs.SystemLemmas.{kept_more}
use Rattle.clause_normal.specs.declared.stop.ClauseStop.{ClauseStop}
use Rattle.clause_normal.specs.declared.stop.ClauseStop.TheVariants.{Refused}
use Rattle.clause_normal.proofs.reading.read_all.Goals as goal

pub loop-index-preserved : goal.loop-index-preserved
loop-index-preserved c =
    let script = c.args.script.now in
    let index : ℕ = c.loop-index.index in
    let d : Assertion = record { term = record { 0 = 0 }; offset = 0; command = 0 } in
    let one = c.in_ok-clause.clause in
    let items : c.as_slice-assertion-items.result.now ≡ script.asserts = c.as_slice-assertion-items.ensures in
    let count = ap (λ (xs : List Assertion). length xs) items in
    let less : index < length script.asserts = omega (arith, count) in
    let read : normal_reading script index (get_or script.asserts index d) ≡ Ok one = cc (c.in_ok-clause.ensures.made, items) in
    record {
      read = clauses_more script c.loop-index.clauses c.push.new.self index d one (all_clauses script 0 script.asserts) less c.loop-index.invariant.read read c.in_ok-push.ensures.ok;
      kept = kept_more (map (λ (p : Declared). p.args) script.preds) c.loop-index.clauses c.push.new.self one c.loop-index.invariant.kept c.in_ok-clause.ensures.kept c.in_ok-push.ensures.ok;
    }

pub returns-in_err-clause-clause-refused : goal.returns-in_err-clause-clause-refused
returns-in_err-clause-clause-refused c = λ refusal is.
    let script = c.args.script.now in
    let index : ℕ = c.loop-index.index in
    let d : Assertion = record { term = record { 0 = 0 }; offset = 0; command = 0 } in
    let items : c.as_slice-assertion-items.result.now ≡ script.asserts = c.as_slice-assertion-items.ensures in
    let count = ap (λ (xs : List Assertion). length xs) items in
    let less : index < length script.asserts = omega (arith, count) in
    let told : c.in_err-clause.field-0.0 ≡ Refused refusal = search rules in
    let read : normal_reading script index (get_or script.asserts index d) ≡ Err refusal = cc (c.in_err-clause.ensures.refused refusal (ap (λ (stop : ClauseStop). Err stop) told), items) in
    clauses_stop script c.loop-index.clauses index d refusal (all_clauses script 0 script.asserts) less c.loop-index.invariant.read read
