-- What is read of an assertion, from its Horn clause or its misfit.
use Rattle.std.proofs.Common.{◌≡◌, ℕ, ◌+◌, ◌<◌, List, [], ◌∷◌, ◌++◌, length, drop, get_or, Bool, false, refl, ap, sym, ◌∙◌, append_assoc}
use Rattle.std.proofs.lemmas.List.{drop_more}
use Rattle.std.proofs.lemmas.Option.{get_or_from_slice_get}
use Rattle.std.specs.Prelude.{slice_get, slice_index_or, Some, None, Result, Ok, Err, if◌then◌else◌}
use Rattle.term_tree.specs.declared.refusal.Kind.TheVariants.{TooWide, NotHorn, Count}
use Rattle.term_tree.specs.declared.refusal.Refusal.{Refusal}
use Rattle.term_tree.specs.declared.script.Assertion.{Assertion}
use Rattle.term_tree.specs.declared.script.Script.{Script}
use Rattle.horn_shape.specs.declared.clause.HornClause.{HornClause}
use Rattle.horn_shape.specs.Clause.{IsClauseOf, IsNotHornAt, assertion_reading, content_of}
use Rattle.clause_form.specs.declared.clause.Clause.{Clause}
use Rattle.clause_normal.specs.Normal.{first_without_room, is_too_large, normal_clause}
use Rattle.clause_normal.specs.Reading.{all_clauses, by_room, by_shape, normal_reading, clause_with, clause_and_others, refusal_at}
use Rattle.clause_normal.specs.Stopping.{IsTooLargeAt, IsWideAt}
use Rattle.horn_shape.specs.declared.stop.HornStop.{HornStop}
use Rattle.horn_shape.specs.declared.stop.HornStop.TheVariants.{Memory as OutOfShapeMemory, NotHorn as NotHornAt}
use Rattle.clause_normal.specs.declared.stop.NormalStop.{NormalStop}
use Rattle.clause_normal.specs.declared.stop.NormalStop.TheVariants.{Memory as NormalMemory, TooWide as TooWideAt, Count as CountAt}
use Rattle.clause_normal.specs.declared.stop.ClauseStop.{ClauseStop}
use Rattle.clause_normal.specs.declared.stop.ClauseStop.TheVariants.{Memory as ClauseMemory, Refused}
use Rattle.clause_normal.specs.machinery.Making.{MeansHorn, MeansNormal, after}

-- by its own number
pub own_number : (script : Script) (index : ℕ) (clause : HornClause) → IsClauseOf script index clause → IsClauseOf script clause.assertion clause
own_number script index clause is = record { assertion = is.assertion; there = ap (slice_get script.asserts) is.number ∙ is.there; reading = is.reading; number = refl }

pub same_assertion : (a b : Assertion) → Some a ≡ Some b → a ≡ b
same_assertion a b e = cc

index_at : (xs : List ℕ) (i x d : ℕ) → slice_get xs i ≡ Some x → slice_index_or xs i d ≡ x
index_at xs i x d is = get_or_from_slice_get xs i x d is

module _ (script : Script) (index : ℕ) (clause : HornClause) (is : IsClauseOf script index clause) (a : Assertion) (there : slice_get script.asserts index ≡ Some a) where
  shape : assertion_reading script a ≡ Ok (content_of clause)
  shape = ap (assertion_reading script) (same_assertion a is.assertion (sym there ∙ is.there)) ∙ is.reading

  own_clause : clause_with index (content_of clause) ≡ clause
  own_clause = ap (λ (n : ℕ). clause_with n (content_of clause)) (sym is.number)

  pub reading_is : normal_reading script index a ≡ by_room script a clause (first_without_room script clause)
  reading_is = ap (by_shape script index a) shape ∙ ap (λ (c : HornClause). by_room script a c (first_without_room script c)) own_clause

  pub read_made : first_without_room script clause ≡ None → is_too_large script clause ≡ false → normal_reading script index a ≡ Ok (normal_clause script clause)
  read_made narrow few =
      reading_is ∙ ap (by_room script a clause) narrow ∙ ap (λ (b : Bool). if b then Err (refusal_at Count a.offset a) else Ok (normal_clause script clause)) few

  pub read_wide : (offset : ℕ) → IsWideAt script clause offset → normal_reading script index a ≡ Err (refusal_at TooWide offset a)
  read_wide offset wide =
      reading_is ∙ ap (by_room script a clause) wide.wide ∙ ap (λ (n : ℕ). Err (refusal_at TooWide n a)) (index_at script.terms.offsets wide.term offset 0 wide.start)

  pub read_count : (offset : ℕ) → IsTooLargeAt script clause offset → normal_reading script index a ≡ Err (refusal_at Count offset a)
  read_count offset large =
      let own : large.assertion ≡ a = same_assertion large.assertion a (sym large.there ∙ ap (slice_get script.asserts) is.number ∙ there) in
      reading_is ∙ ap (by_room script a clause) large.narrow ∙ ap (λ (b : Bool). if b then Err (refusal_at Count a.offset a) else Ok (normal_clause script clause)) large.large
      ∙ ap (λ (n : ℕ). Err (refusal_at Count n a)) (sym (ap (λ (x : Assertion). x.offset) own) ∙ large.start)

pub read_misfit : (script : Script) (index offset : ℕ) (a : Assertion) → slice_get script.asserts index ≡ Some a → IsNotHornAt script index offset → normal_reading script index a ≡ Err (refusal_at NotHorn offset a)
read_misfit script index offset a there misfit =
    let own : a ≡ misfit.assertion = same_assertion a misfit.assertion (sym there ∙ misfit.there) in
    ap (by_shape script index a) (ap (assertion_reading script) own ∙ misfit.reading) ∙ ap (λ (n : ℕ). Err (refusal_at NotHorn n a)) (index_at script.terms.offsets misfit.misfit.0 offset 0 misfit.start)

refused_same : (a b : Refusal) → Refused a ≡ Refused b → a ≡ b
refused_same a b e = cc

-- clauses before others
after_one : (clauses : List Clause) (one : Clause) (others : Result (List Clause) Refusal) → after (clauses ++ one ∷ []) others ≡ after clauses (clause_and_others (Ok one) others)
after_one clauses one (Err refusal) = refl
after_one clauses one (Ok rest) = ap (λ (cs : List Clause). Ok cs) (append_assoc clauses (one ∷ []) rest)

pub clauses_more : (script : Script) (clauses new : List Clause) (index : ℕ) (d : Assertion) (one : Clause) (whole : Result (List Clause) Refusal) → index < length script.asserts
    → after clauses (all_clauses script index (drop index script.asserts)) ≡ whole → normal_reading script index (get_or script.asserts index d) ≡ Ok one → new ≡ clauses ++ one ∷ []
    → after new (all_clauses script (index + 1) (drop (index + 1) script.asserts)) ≡ whole
clauses_more script clauses new index d one whole less so_far is pushed =
    ap (λ (cs : List Clause). after cs (all_clauses script (index + 1) (drop (index + 1) script.asserts))) pushed
    ∙ after_one clauses one (all_clauses script (index + 1) (drop (index + 1) script.asserts))
    ∙ sym (ap (λ (r : Result Clause Refusal). after clauses (clause_and_others r (all_clauses script (index + 1) (drop (index + 1) script.asserts)))) is)
    ∙ sym (ap (λ (xs : List Assertion). after clauses (all_clauses script index xs)) (drop_more script.asserts index d less)) ∙ so_far

pub clauses_stop : (script : Script) (clauses : List Clause) (index : ℕ) (d : Assertion) (refusal : Refusal) (whole : Result (List Clause) Refusal) → index < length script.asserts
    → after clauses (all_clauses script index (drop index script.asserts)) ≡ whole → normal_reading script index (get_or script.asserts index d) ≡ Err refusal → whole ≡ Err refusal
clauses_stop script clauses index d refusal whole less so_far is =
    sym so_far ∙ ap (λ (xs : List Assertion). after clauses (all_clauses script index xs)) (drop_more script.asserts index d less)
    ∙ ap (λ (r : Result Clause Refusal). after clauses (clause_and_others r (all_clauses script (index + 1) (drop (index + 1) script.asserts)))) is

-- what a stop says of a script
pub normal_refused : (script : Script) (index : ℕ) (clause : HornClause) → IsClauseOf script index clause → (a : Assertion) → slice_get script.asserts index ≡ Some a → (stop : NormalStop) (told : ClauseStop) (refusal : Refusal)
    → MeansNormal stop a told → told ≡ Refused refusal → ((offset : ℕ) → stop ≡ TooWideAt offset → IsWideAt script clause offset) → ((offset : ℕ) → stop ≡ CountAt offset → IsTooLargeAt script clause offset)
    → normal_reading script index a ≡ Err refusal
normal_refused script index clause is a there NormalMemory told refusal means e wide count = absurd (differ (sym means ∙ e))
  where
    differ : ClauseMemory ≡ Refused refusal → ⊥
    differ q = absurd (cc)
normal_refused script index clause is a there (TooWideAt offset) told refusal means e wide count =
    let same : refusal_at TooWide offset a ≡ refusal = refused_same (refusal_at TooWide offset a) refusal (sym means ∙ e) in
    read_wide script index clause is a there offset (wide offset refl) ∙ ap (λ (r : Refusal). Err r) same
normal_refused script index clause is a there (CountAt offset) told refusal means e wide count =
    let same : refusal_at Count offset a ≡ refusal = refused_same (refusal_at Count offset a) refusal (sym means ∙ e) in
    read_count script index clause is a there offset (count offset refl) ∙ ap (λ (r : Refusal). Err r) same

pub horn_refused : (script : Script) (index : ℕ) (a : Assertion) → slice_get script.asserts index ≡ Some a → (stop : HornStop) (told : ClauseStop) (refusal : Refusal) → MeansHorn stop a told → told ≡ Refused refusal
    → ((offset : ℕ) → stop ≡ NotHornAt offset → IsNotHornAt script index offset) → normal_reading script index a ≡ Err refusal
horn_refused script index a there OutOfShapeMemory told refusal means e misfit = absurd (differ (sym means ∙ e))
  where
    differ : ClauseMemory ≡ Refused refusal → ⊥
    differ q = absurd (cc)
horn_refused script index a there (NotHornAt offset) told refusal means e misfit =
    let same : refusal_at NotHorn offset a ≡ refusal = refused_same (refusal_at NotHorn offset a) refusal (sym means ∙ e) in
    read_misfit script index offset a there (misfit offset refl) ∙ ap (λ (r : Refusal). Err r) same
