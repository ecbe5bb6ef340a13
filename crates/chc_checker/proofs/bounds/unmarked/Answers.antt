use Rattle.std.proofs.Common.{◌≡◌, ℕ, zero, suc, List, [], ◌∷◌, ◌++◌, Bool, true, false, sym, subst}
use Rattle.std.specs.Prelude.{slice_get, Some}
use Rattle.chc_checker.proofs.bounds.unmarked.Goals as goal

none-more : (items : List Bool) → ((v : ℕ) → slice_get items v ≡ Some true → ⊥) → (v : ℕ) → slice_get (items ++ false ∷ []) v ≡ Some true → ⊥
none-more [] none zero marked = cc
none-more [] none (suc v) marked = cc
none-more (b ∷ items) none zero marked = none zero marked
none-more (b ∷ items) none (suc v) marked = none-more items (λ w there. none (suc w) there) v marked

pub loop-preserved : goal.loop-preserved
loop-preserved c =
    subst (λ (items : List Bool). (v : ℕ) → slice_get items v ≡ Some true → ⊥) (sym c.in_ok-push.ensures.items) (none-more c.loop.table.items c.loop.invariant)
