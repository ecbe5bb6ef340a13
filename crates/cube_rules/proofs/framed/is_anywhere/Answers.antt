use Rattle.std.proofs.Common.{◌<◌, ◌≤◌, length, drop, ◌+◌, sym, ◌∙◌, arith}
use Rattle.cube_rules.specs.Views.{framed_at, lemmas_of}
use Rattle.cube_rules.specs.machinery.Walks.{equals}
use Rattle.cube_rules.proofs.ViewLemmas.{framed-drop}
use Rattle.cube_rules.proofs.GatherLemmas.{any-end, any-hit, any-on, framed-end}
use Rattle.cube_rules.proofs.framed.is_anywhere.Goals as goal

pub loop-id-preserved : goal.loop-id-preserved
loop-id-preserved c =
    let lemmas = c.args.frames.now.lemmas in
    let id = c.loop-id.id in
    let end = c.count-id-end.ensures in
    let less = c.loop-id-test.true in
    let within : id < length lemmas = omega arith in
    sym (any-on (equals c.args.k (record { pred = c.args.pred; cube = c.args.lemma.now })) (drop id (lemmas_of lemmas)) (framed_at lemmas id) (drop (id + 1) (lemmas_of lemmas)) (framed-drop lemmas id within) (sym c.is_same.ensures ∙ c.if-is_same.false)) ∙ c.loop-id.invariant

pub returns-then-is_same : goal.returns-then-is_same
returns-then-is_same c =
    let lemmas = c.args.frames.now.lemmas in
    let id = c.loop-id.id in
    let end = c.count-id-end.ensures in
    let less = c.loop-id-test.true in
    let within : id < length lemmas = omega arith in
    sym (any-hit (equals c.args.k (record { pred = c.args.pred; cube = c.args.lemma.now })) (drop id (lemmas_of lemmas)) (framed_at lemmas id) (drop (id + 1) (lemmas_of lemmas)) (framed-drop lemmas id within) (sym c.is_same.ensures ∙ c.if-is_same.true)) ∙ c.loop-id.invariant

pub returns : goal.returns
returns c =
    let lemmas = c.args.frames.now.lemmas in
    let id = c.loop-id.id in
    let end = c.count-id-end.ensures in
    let less = c.loop-id-test.false in
    let past : length lemmas ≤ id = omega arith in
    sym (any-end (equals c.args.k (record { pred = c.args.pred; cube = c.args.lemma.now })) (drop id (lemmas_of lemmas)) (framed-end lemmas id past)) ∙ c.loop-id.invariant
