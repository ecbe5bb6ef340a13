use Rattle.std.proofs.Common.{◌≡◌, ◌<◌, ◌++◌, ap, sym, ◌∙◌, arith, List, length, take, drop, refl, subst, IfOk, Option, Some, None, Result, Ok}
use Rattle.int_rows.specs.Table.{Table}
use Rattle.int_rows.proofs.Public.{refilled}
use Rattle.base.specs.declared.memory.Memory.{Memory}
use Rattle.simplex_core.specs.Answer.{Steps}
use Rattle.simplex_core.specs.machinery.Following.{IsFollowing, left}
use Rattle.simplex_core.specs.Run.{Next, coordinates, crossed, first_standings, moment, next}
use Rattle.simplex_core.specs.declared.answer.Feasible.{Feasible}
use Rattle.simplex_core.specs.declared.standing.Standing.{Standing}
use Rattle.simplex_core.proofs.FollowingLemmas.{fewer-left, following-more, started, stopped}
use Rattle.simplex_core.proofs.following.follow.Goals as goal

pub run-init : goal.run-init
run-init c =
    let t : Table = c.args.t.now in
    let stands : c.in-Ok.standings.items ≡ first_standings t = c.in-Ok.ensures.is in
    record {
      run = record {
        table = c.table_law.ensures;
        few = c.requires.few;
        legal = c.in-Ok.ensures.legal;
        steps = 0;
        reached = started t ∙ ap (λ (s : List Standing). Next (moment t s)) (sym stands);
      };
      kept = c.in-Ok-coordinates.ensures ∙ ap (λ (s : List Standing). coordinates (moment t s)) c.as_slice-begun.ensures.value;
      ordered = λ e. cc;
    }

pub run-preserved : goal.run-preserved
run-preserved c =
    let t : Table = c.args.t.now in
    let old = moment c.run.t c.run.standings.items in
    let new = moment c.step.new.t c.step.new.standings in
    let told : Steps (moment c.run.t c.as_mut_slice.result.now) new (Ok None) = subst (λ (r : Result (Option Feasible) Memory). Steps (moment c.run.t c.as_mut_slice.result.now) new r) (c.in_ok-answer.was ∙ ap (λ (o : Option Feasible). Ok o) c.in_default.is) c.step.ensures.steps in
    let e : next old ≡ Next new = ap (λ (s : List Standing). next (moment c.run.t s)) (sym c.as_mut_slice.ensures.value) ∙ told in
    let more = following-more t old new c.run.invariant.run e in
    let long : length c.step.new.standings ≡ c.run.standings.len = omega (arith, c.step.auto.standings, c.as_mut_slice.ensures.len, ap length c.as_mut_slice.ensures.value, c.run.standings.ok.0) in
    let whole : take c.run.standings.len (c.step.new.standings ++ drop (length c.step.new.standings) c.run.standings.items) ≡ c.step.new.standings = refilled c.run.standings.len c.step.new.standings c.run.standings.items long (sym c.run.standings.ok.0) in
    record {
      run = subst (λ (s : List Standing). IsFollowing t (moment c.step.new.t s)) (sym whole) more;
      kept =
          let values : c.step.new.kept ≡ coordinates new = (subst (λ (r : Result (Option Feasible) Memory). IfOk r (λ answer. answer ≡ None → c.step.new.kept ≡ coordinates new)) (c.in_ok-answer.was ∙ ap (λ (o : Option Feasible). Ok o) c.in_default.is) c.step.ensures.kept) refl in
          let size : length c.step.new.kept ≡ c.run.kept.len = omega (arith, c.step.auto.kept, c.as_mut_slice-in-run.ensures.len, ap length c.as_mut_slice-in-run.ensures.value, c.run.kept.ok.0) in
          refilled c.run.kept.len c.step.new.kept c.run.kept.items size (sym c.run.kept.ok.0) ∙ values ∙ ap (λ (s : List Standing). coordinates (moment c.step.new.t s)) (sym whole);
      ordered = λ _. (subst (λ (r : Result (Option Feasible) Memory). IfOk r (λ answer. answer ≡ None → crossed c.step.new.t ≡ None)) (c.in_ok-answer.was ∙ ap (λ (o : Option Feasible). Ok o) c.in_default.is) c.step.ensures.ordered) refl;
    }

pub run-smaller : goal.run-smaller
run-smaller c =
    let t : Table = c.args.t.now in
    let old = moment c.run.t c.run.standings.items in
    let new = moment c.step.new.t c.step.new.standings in
    let told : Steps (moment c.run.t c.as_mut_slice.result.now) new (Ok None) = subst (λ (r : Result (Option Feasible) Memory). Steps (moment c.run.t c.as_mut_slice.result.now) new r) (c.in_ok-answer.was ∙ ap (λ (o : Option Feasible). Ok o) c.in_default.is) c.step.ensures.steps in
    let e : next old ≡ Next new = ap (λ (s : List Standing). next (moment c.run.t s)) (sym c.as_mut_slice.ensures.value) ∙ told in
    let fewer = fewer-left t old new c.run.invariant.run e in
    let long : length c.step.new.standings ≡ c.run.standings.len = omega (arith, c.step.auto.standings, c.as_mut_slice.ensures.len, ap length c.as_mut_slice.ensures.value, c.run.standings.ok.0) in
    let whole : take c.run.standings.len (c.step.new.standings ++ drop (length c.step.new.standings) c.run.standings.items) ≡ c.step.new.standings = refilled c.run.standings.len c.step.new.standings c.run.standings.items long (sym c.run.standings.ok.0) in
    subst (λ (s : List Standing). left t s < left t c.run.standings.items) (sym whole) fewer

pub returns-in-Some : goal.returns-in-Some
returns-in-Some c =
    let t : Table = c.args.t.now in
    let old = moment c.run.t c.run.standings.items in
    let new = moment c.step.new.t c.step.new.standings in
    let told : Steps (moment c.run.t c.as_mut_slice.result.now) new (Ok (Some c.in-Some.answer)) = subst (λ (r : Result (Option Feasible) Memory). Steps (moment c.run.t c.as_mut_slice.result.now) new r) (c.in_ok-answer.was ∙ ap (λ (o : Option Feasible). Ok o) c.in-Some.is) c.step.ensures.steps in
    let here : Steps old new (Ok (Some c.in-Some.answer)) = subst (λ (s : List Standing). Steps (moment c.run.t s) new (Ok (Some c.in-Some.answer))) c.as_mut_slice.ensures.value told in
    record { steps = c.run.invariant.run.steps; last = old; reached = c.run.invariant.run.reached; table = here.1; ends = here.0 }

pub returns-in-Err-coordinates : goal.returns-in-Err-coordinates
returns-in-Err-coordinates c = stopped c.args.t.now c.in-Err-coordinates.stop

pub returns-in-Err : goal.returns-in-Err
returns-in-Err c = stopped c.args.t.now c.in-Err.stop
