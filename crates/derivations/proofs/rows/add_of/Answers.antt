use Rattle.std.proofs.Common.{◌≡◌, ℕ, ℤ, ◌≤◌, List, ◌∷◌, ◌++◌, [], length, map, get_or, Some, None, FitsSigned, rules, ap, sym, subst, ◌∙◌, arith}
use Rattle.std.specs.Int.{w64}
use Rattle.std.proofs.lemmas.Int.{to_z-of_z}
use Rattle.std.specs.List.{insert}
use Rattle.std.proofs.lemmas.List.{length-map}
use Rattle.derivations.specs.Facts.{tuple_of}
use Rattle.derivations.specs.machinery.Index.{AreGrown, IsIndexed, IsRank, empty, key_of}
use Rattle.derivations.proofs.IndexLemmas.{index_of, index_same, row_is, tuples_keyed, tuples_order, tuples_there}
use Rattle.derivations.proofs.rows.add_of.Goals as goal

pub returns-in_err-grow-clause-index : goal.returns-in_err-grow-clause-index
returns-in_err-grow-clause-index c = index_same c.args.rows.now.items c.grow.new.rows.items c.args.notes.now c.in_err-grow.ensures.same c.requires.index

pub rank-at-requires-clause-order : goal.rank-at-requires-clause-order
rank-at-requires-clause-order c = tuples_order c.grow.new.rows.items c.args.notes.now c.args.pred c.as_slice.result.now (index_same c.args.rows.now.items c.grow.new.rows.items c.args.notes.now c.in_ok-grow.ensures.same c.requires.index) (c.as_slice.ensures ∙ ap (λ r. r.by_tuple) c.row_of-old.ensures)

pub rank-at-requires-clause-there : goal.rank-at-requires-clause-there
rank-at-requires-clause-there c = tuples_there c.grow.new.rows.items c.args.notes.now c.args.pred c.as_slice.result.now (index_same c.args.rows.now.items c.grow.new.rows.items c.args.notes.now c.in_ok-grow.ensures.same c.requires.index) (c.as_slice.ensures ∙ ap (λ r. r.by_tuple) c.row_of-old.ensures)

pub rank-at-requires-clause-keyed : goal.rank-at-requires-clause-keyed
rank-at-requires-clause-keyed c = tuples_keyed c.grow.new.rows.items c.args.notes.now c.args.pred c.as_slice.result.now c.as_slice-2.result.now (index_same c.args.rows.now.items c.grow.new.rows.items c.args.notes.now c.in_ok-grow.ensures.same c.requires.index) (c.as_slice.ensures ∙ ap (λ r. r.by_tuple) c.row_of-old.ensures) (c.as_slice-2.ensures ∙ ap (λ r. r.keys) c.row_of-old.ensures)

pub returns-in_err-parts-clause-index : goal.returns-in_err-parts-clause-index
returns-in_err-parts-clause-index c = index_same c.args.rows.now.items c.grow.new.rows.items c.args.notes.now c.in_ok-grow.ensures.same c.requires.index

pub returns-in_err-row-clause-index : goal.returns-in_err-row-clause-index
returns-in_err-row-clause-index c = index_same c.args.rows.now.items c.grow.new.rows.items c.args.notes.now c.in_ok-grow.ensures.same c.requires.index

pub returns-in_err-row-2-clause-index : goal.returns-in_err-row-2-clause-index
returns-in_err-row-2-clause-index c = index_same c.args.rows.now.items c.grow.new.rows.items c.args.notes.now c.in_ok-grow.ensures.same c.requires.index

pub returns-in_err-add-clause-index : goal.returns-in_err-add-clause-index
returns-in_err-add-clause-index c = subst (λ fs. IsIndexed c.grow.new.rows.items fs) (sym c.in_err-add.ensures.err) (index_same c.args.rows.now.items c.grow.new.rows.items c.args.notes.now c.in_ok-grow.ensures.same c.requires.index)

pub returns-clause-index : goal.returns-clause-index
returns-clause-index c =
    let rows = c.grow.new.rows.items in
    let fs = c.args.notes.now in
    let old = get_or rows c.args.pred empty in
    let at = c.rank-at.result in
    let tuple = c.args.fact.tuple in
    let index = index_same c.args.rows.now.items rows fs c.in_ok-grow.ensures.same c.requires.index in
    let rank : IsRank (tuple_of fs) old.by_tuple tuple at =
    subst (λ r. IsRank (tuple_of fs) r tuple at) (c.as_slice.ensures ∙ ap (λ r. r.by_tuple) c.row_of-old.ensures) (subst (λ t. IsRank (tuple_of fs) c.as_slice.result.now t at) c.as_slice-tuple.ensures c.rank-at.ensures) in
    let fits : FitsSigned w64 c.key_of.result = search rules in
    let longer = simp to_z-of_z at c.in_ok-row.ensures in
    let is : c.in_ok-row-2.row ≡ record { by_number = old.by_number ++ length fs ∷ []; by_tuple = insert old.by_tuple at (length fs); keys = insert old.keys at (key_of tuple); parts = c.in_ok-parts.parts } =
    c.in_ok-row-2.ensures ∙ longer ∙ row_is c.row_of-old.result.now old at c.count-id.result (length fs) c.key_of.result (key_of tuple) c.in_ok-parts.parts c.row_of-old.ensures c.count-id.ensures (c.key_of.ensures ∙ ap key_of c.as_slice-tuple.ensures) in
    let grown : AreGrown old.parts c.as_slice-tuple.result.now c.count-id.result c.in_ok-parts.parts =
    subst (λ ps. AreGrown ps c.as_slice-tuple.result.now c.count-id.result c.in_ok-parts.parts) (c.as_slice-3.ensures ∙ ap (λ r. r.parts) c.row_of-old.ensures) c.in_ok-parts.ensures in
    let told : AreGrown old.parts tuple (length fs) c.in_ok-parts.parts =
    subst (λ n. AreGrown old.parts tuple n c.in_ok-parts.parts) c.count-id.ensures (subst (λ t. AreGrown old.parts t c.count-id.result c.in_ok-parts.parts) c.as_slice-tuple.ensures grown) in
    rw (c.put.ensures, c.in_ok-add.ensures.ok) (index_of rows fs c.args.fact c.args.pred at c.in_ok-row-2.row c.in_ok-parts.parts told index c.requires.pred c.in_ok-grow.ensures.there c.requires.there c.requires.fresh (λ none. (let both : Some c.args.pred ≡ None = sym c.requires.pred ∙ none in absurd (cc))) rank is)

pub put-requires : goal.put-requires
put-requires c = c.in_ok-grow.ensures.there

pub add-requires-clause-there : goal.add-requires-clause-there
add-requires-clause-there c = c.requires.there

pub with-requires-clause-keys : goal.with-requires-clause-keys
with-requires-clause-keys c =
    let fs = c.args.notes.now in
    let keyed : c.as_slice-2.result.now ≡ map (λ n. key_of (tuple_of fs n)) c.as_slice.result.now =
    tuples_keyed c.grow.new.rows.items fs c.args.pred c.as_slice.result.now c.as_slice-2.result.now (index_same c.args.rows.now.items c.grow.new.rows.items fs c.in_ok-grow.ensures.same c.requires.index) (c.as_slice.ensures ∙ ap (λ r. r.by_tuple) c.row_of-old.ensures) (c.as_slice-2.ensures ∙ ap (λ r. r.keys) c.row_of-old.ensures) in
    let long : length c.row_of-old.result.now.keys ≡ length c.as_slice.result.now = ap (λ (ks : List ℤ). length ks) (sym c.as_slice-2.ensures ∙ keyed) ∙ length-map c.as_slice.result.now (λ n. key_of (tuple_of fs n)) in
    let within = c.rank-at.ensures.within in
    omega (arith, long)

pub with-requires-clause-tuples : goal.with-requires-clause-tuples
with-requires-clause-tuples c = subst (λ (ns : List ℕ). c.rank-at.result ≤ length ns) c.as_slice.ensures c.rank-at.ensures.within
