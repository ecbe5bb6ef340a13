-- An instance whose body atoms are asked, over what is lent.
use Rattle.std.proofs.Common.{◌≡◌, ℕ, ◌<◌, length, true, sym, subst}
use Rattle.std.proofs.lemmas.Option.{slice_get_within}
use Rattle.chc_tokens.specs.Kept.{seen_clause}
use Rattle.chc_tokens.specs.Tokens.{is_seen}
use Rattle.chc_tokens.specs.declared.seeing.Seen.{Seen}
use Rattle.step_rules.specs.Standing.{Standing}
use Rattle.obligation_turn.proofs.TokenLemmas.{seen-is}

pub clause-there : (a b : Standing) (seen : Seen) (n : ℕ) → a ≡ b → is_seen b.system seen ≡ true → n ≡ seen_clause seen → n < length a.system.clauses
clause-there a b seen n same h is =
    let one = seen-is b.system seen h in
    let within = slice_get_within b.system.clauses (seen_clause seen) one.clause one.there in
    subst (λ (m : ℕ). m < length a.system.clauses) (sym is) (subst (λ (x : Standing). seen_clause seen < length x.system.clauses) (sym same) within)
