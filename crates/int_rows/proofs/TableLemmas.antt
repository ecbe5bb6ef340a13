-- Tableaux by their fields: equal ones, and ones with other bounds.
use Rattle.std.proofs.Common.{◌≡◌, ◌<◌, ℕ, zero, suc, List, [], ◌∷◌, ap, sym, ◌∙◌, length, set, true}
use Rattle.std.specs.Prelude.{ℤ, Option, Some, nat_abs}
use Rattle.std.proofs.lemmas.Bool.{lt-ltb, ltb-true}
use Rattle.std.proofs.lemmas.List.{length-set}
use Rattle.base.specs.Widths.{long_limit}
use Rattle.int_rows.specs.Basis.{bound}
use Rattle.int_rows.specs.Ready.{bound_fits}
use Rattle.int_rows.specs.Table.{IsTable, Table}

abbrev pub table_of : ℕ → List (List ℤ) → List ℕ → List (Option ℤ) → List (Option ℤ) → Table
table_of variables rows basic lower upper = record { variables = variables; rows = rows; basic = basic; lower = lower; upper = upper }

-- equal fields make the same tableau
pub same-fields : (v : ℕ) (rows rows' : List (List ℤ)) (basic basic' : List ℕ) (lower lower' upper upper' : List (Option ℤ)) → rows ≡ rows' → basic ≡ basic' → lower ≡ lower' → upper ≡ upper'
    → table_of v rows basic lower upper ≡ table_of v rows' basic' lower' upper'
same-fields v rows rows' basic basic' lower lower' upper upper' r b l u =
    ap (λ rs. table_of v rs basic lower upper) r ∙ ap (λ bs. table_of v rows' bs lower upper) b ∙ ap (λ ls. table_of v rows' basic' ls upper) l ∙ ap (λ us. table_of v rows' basic' lower' us) u

pub fits-some : (b : ℤ) → nat_abs b < long_limit → bound_fits (Some b) ≡ true
fits-some b h = lt-ltb (nat_abs b) long_limit h

some-fits : (new : Option ℤ) (b : ℤ) → bound_fits new ≡ true → new ≡ Some b → nat_abs b < long_limit
some-fits new b fits is = ltb-true (nat_abs b) long_limit (sym (ap bound_fits is) ∙ fits)

-- another bound for one variable
long-set : (bounds : List (Option ℤ)) (v w : ℕ) (new : Option ℤ) (b : ℤ) → ((u : ℕ) (a : ℤ) → bound bounds u ≡ Some a → nat_abs a < long_limit) → bound_fits new ≡ true → bound (set bounds v new) w ≡ Some b → nat_abs b < long_limit
long-set [] v w new b old fits is = old w b is
long-set (x ∷ xs) zero zero new b old fits is = some-fits new b fits is
long-set (x ∷ xs) zero (suc w) new b old fits is = old (suc w) b is
long-set (x ∷ xs) (suc v) zero new b old fits is = old zero b is
long-set (x ∷ xs) (suc v) (suc w) new b old fits is = long-set xs v w new b (λ u a. old (suc u) a) fits is

pub lower-table : (t : Table) (v : ℕ) (new : Option ℤ) → IsTable t → bound_fits new ≡ true → IsTable (table_of t.variables t.rows t.basic (set t.lower v new) t.upper)
lower-table t v new is fits = record {
  basics = is.basics;
  within = is.within;
  solved = is.solved;
  lowers = length-set t.lower v new ∙ is.lowers;
  uppers = is.uppers;
  few = is.few;
  long_lower = λ w b. long-set t.lower v w new b is.long_lower fits;
  long_upper = is.long_upper;
}

pub upper-table : (t : Table) (v : ℕ) (new : Option ℤ) → IsTable t → bound_fits new ≡ true → IsTable (table_of t.variables t.rows t.basic t.lower (set t.upper v new))
upper-table t v new is fits = record {
  basics = is.basics;
  within = is.within;
  solved = is.solved;
  lowers = is.lowers;
  uppers = length-set t.upper v new ∙ is.uppers;
  few = is.few;
  long_lower = is.long_lower;
  long_upper = λ w b. long-set t.upper v w new b is.long_upper fits;
}
