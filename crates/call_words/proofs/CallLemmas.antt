-- What the words say is exactly what they are a call of.
use Rattle.std.proofs.Common.{◌≡◌, ℕ, ◌≤◌, List, [], ◌∷◌, Bool, true, false, Some, None, refl, sym, ◌∙◌, ap, ap₂, subst, arith}
use Rattle.std.specs.Prelude.{Option, if◌then◌else◌, codes}
use Rattle.std.specs.Str.{bytes_eq}
use Rattle.std.proofs.lemmas.Slice.Eq.{bytes_eq-Decides}
use Rattle.clap.specs.Walk.{Row, Text, first_of}
use Rattle.clap.specs.Simple.{subcommand_of}
use Rattle.call_words.specs.Command.{chc}
use Rattle.call_words.specs.Parsed.{IsTaken}
use Rattle.call_words.specs.Words.{IsCall, IsCheckCall, IsGenCall, IsGiven, IsGivenOr, default_nodes, default_units, default_workers, most_depth, most_nodes, most_seed, most_call_units, most_workers}
use Rattle.call_words.specs.machinery.Reading.{check_named, check_with, gen_named, gen_with, limits_with, number_given, number_or, solve_named, solve_with, words_in, words_named}
use Rattle.call_words.specs.declared.limits.Limits.{Limits}
use Rattle.call_words.specs.declared.limits.Words.{Words}
use Rattle.call_words.specs.declared.limits.Words.TheVariants.{Solve, Check, Gen}
use Rattle.call_words.proofs.RangeLemmas.{given_found, given_read, or_found, or_read, some_same}

-- what a reading says

-- the command of that name says this
abbrev Says : Text → List Row → Words → Type 0
Says name options (Solve l) =
    (name ≡ codes "solve") × IsGivenOr 1 most_workers default_workers (first_of (codes "workers") options) l.workers
    × IsGivenOr 0 most_call_units default_units (first_of (codes "units") options) l.units
    × IsGivenOr 1 most_nodes default_nodes (first_of (codes "nodes") options) l.nodes
Says name options (Check nodes) = (name ≡ codes "check") × IsGivenOr 1 most_nodes default_nodes (first_of (codes "nodes") options) nodes
Says name options (Gen depth seed) = (name ≡ codes "gen") × IsGiven 0 most_depth (first_of (codes "depth") options) depth × IsGiven 0 most_seed (first_of (codes "seed") options) seed

words_same : (a b : Words) → (let o : Option Words = Some a in o) ≡ Some b → a ≡ b
words_same a b h = cc

solve_read : (name : Text) (options : List Row) (w : Words) → name ≡ codes "solve" → solve_named options ≡ Some w → Says name options w
solve_read name options w is h = by
    (number_or 1 most_workers default_workers (first_of (codes "workers") options)) refl
    (number_or 0 most_call_units default_units (first_of (codes "units") options)) refl
    (number_or 1 most_nodes default_nodes (first_of (codes "nodes") options)) refl h
  where
    by : (x : Option ℕ) → number_or 1 most_workers default_workers (first_of (codes "workers") options) ≡ x
        → (y : Option ℕ) → number_or 0 most_call_units default_units (first_of (codes "units") options) ≡ y
        → (z : Option ℕ) → number_or 1 most_nodes default_nodes (first_of (codes "nodes") options) ≡ z
        → solve_with (limits_with x y z) ≡ Some w → Says name options w
    by None a y b z c e = absurd (cc)
    by (Some x) a None b z c e = absurd (cc)
    by (Some x) a (Some y) b None c e = absurd (cc)
    by (Some x) a (Some y) b (Some z) c e = subst (Says name options) (words_same (Solve (record { workers = x; units = y; nodes = z })) w e) (
      is,
      or_read 1 most_workers default_workers (first_of (codes "workers") options) x a,
      or_read 0 most_call_units default_units (first_of (codes "units") options) y b,
      or_read 1 most_nodes default_nodes (first_of (codes "nodes") options) z c,
    )

check_read : (name : Text) (options : List Row) (w : Words) → name ≡ codes "check" → check_named options ≡ Some w → Says name options w
check_read name options w is h = by (number_or 1 most_nodes default_nodes (first_of (codes "nodes") options)) refl h
  where
    by : (x : Option ℕ) → number_or 1 most_nodes default_nodes (first_of (codes "nodes") options) ≡ x → check_with x ≡ Some w → Says name options w
    by None a e = absurd (cc)
    by (Some x) a e = subst (Says name options) (words_same (Check x) w e) (is, or_read 1 most_nodes default_nodes (first_of (codes "nodes") options) x a)

gen_read : (name : Text) (options : List Row) (w : Words) → name ≡ codes "gen" → gen_named options ≡ Some w → Says name options w
gen_read name options w is h = by (number_given 0 most_depth (first_of (codes "depth") options)) refl (number_given 0 most_seed (first_of (codes "seed") options)) refl h
  where
    by : (x : Option ℕ) → number_given 0 most_depth (first_of (codes "depth") options) ≡ x
        → (y : Option ℕ) → number_given 0 most_seed (first_of (codes "seed") options) ≡ y
        → gen_with x y ≡ Some w → Says name options w
    by None a y b e = absurd (cc)
    by (Some x) a None b e = absurd (cc)
    by (Some x) a (Some y) b e = subst (Says name options) (words_same (Gen x y) w e) (
      is,
      given_read 0 most_depth (first_of (codes "depth") options) x a,
      given_read 0 most_seed (first_of (codes "seed") options) y b,
    )

named_read : (name : Text) (options : List Row) (w : Words) → words_named name options ≡ Some w → Says name options w
named_read name options w h = first (bytes_eq name (codes "solve")) refl h
  where
    third : (b : Bool) → bytes_eq name (codes "gen") ≡ b → (let o : Option Words = if b then gen_named options else None in o) ≡ Some w → Says name options w
    third true is e = gen_read name options w ((bytes_eq-Decides name (codes "gen")).0 is) e
    third false is e = absurd (cc)

    second : (b : Bool) → bytes_eq name (codes "check") ≡ b
        → (let o : Option Words = if b then check_named options else if bytes_eq name (codes "gen") then gen_named options else None in o) ≡ Some w → Says name options w
    second true is e = check_read name options w ((bytes_eq-Decides name (codes "check")).0 is) e
    second false is e = third (bytes_eq name (codes "gen")) refl e

    first : (b : Bool) → bytes_eq name (codes "solve") ≡ b
        → (let o : Option Words = if b then solve_named options
        else if bytes_eq name (codes "check") then check_named options
        else if bytes_eq name (codes "gen") then gen_named options else None in o) ≡ Some w → Says name options w
    first true is e = solve_read name options w ((bytes_eq-Decides name (codes "solve")).0 is) e
    first false is e = second (bytes_eq name (codes "check")) refl e

-- the words are a call, and say this
abbrev Calls : List Text → Words → Type 0
Calls words (Solve l) = IsCall words l
Calls words (Check nodes) = IsCheckCall words nodes
Calls words (Gen depth seed) = IsGenCall words depth seed

-- a command that says this is a call
says_calls : (words : List Text) (name : Text) (options : List Row) (w : Words) → IsTaken words → subcommand_of chc words ≡ Some (name, options) → Says name options w → Calls words w
says_calls words name options (Solve l) taken is says = record {
  options = options;
  names = (taken, is ∙ ap (λ (n : Text). let o : Option (Text × List Row) = Some (n, options) in o) says.0);
  workers = says.1;
  units = says.2;
  nodes = says.3;
}
says_calls words name options (Check nodes) taken is says = record {
  options = options;
  names = (taken, is ∙ ap (λ (n : Text). let o : Option (Text × List Row) = Some (n, options) in o) says.0);
  given = says.1;
}
says_calls words name options (Gen depth seed) taken is says = record {
  options = options;
  names = (taken, is ∙ ap (λ (n : Text). let o : Option (Text × List Row) = Some (n, options) in o) says.0);
  depths = says.1;
  seeds = says.2;
}

pub call_read : (words : List Text) (w : Words) → IsTaken words → words_in (subcommand_of chc words) ≡ Some w → Calls words w
call_read words w taken h = by (subcommand_of chc words) refl h
  where
    by : (named : Option (Text × List Row)) → subcommand_of chc words ≡ named → words_in named ≡ Some w → Calls words w
    by None is e = absurd (cc)
    by (Some (name, options)) is e = says_calls words name options w taken is (named_read name options w e)

-- and back

pub solve_found : (words : List Text) (l : Limits) → IsCall words l → words_in (subcommand_of chc words) ≡ Some (Solve l)
solve_found words l call =
    let w = or_found 1 most_workers default_workers (first_of (codes "workers") call.options) l.workers call.workers in
    let u = or_found 0 most_call_units default_units (first_of (codes "units") call.options) l.units call.units in
    let n = or_found 1 most_nodes default_nodes (first_of (codes "nodes") call.options) l.nodes call.nodes in
    ap words_in call.names.1
    ∙ ap (λ (x : Option ℕ). solve_with (limits_with x (number_or 0 most_call_units default_units (first_of (codes "units") call.options)) (number_or 1 most_nodes default_nodes (first_of (codes "nodes") call.options)))) w
    ∙ ap (λ (y : Option ℕ). solve_with (limits_with (Some l.workers) y (number_or 1 most_nodes default_nodes (first_of (codes "nodes") call.options)))) u
    ∙ ap (λ (z : Option ℕ). solve_with (limits_with (Some l.workers) (Some l.units) z)) n

pub check_found : (words : List Text) (nodes : ℕ) → IsCheckCall words nodes → words_in (subcommand_of chc words) ≡ Some (Check nodes)
check_found words nodes call = ap words_in call.names.1 ∙ ap check_with (or_found 1 most_nodes default_nodes (first_of (codes "nodes") call.options) nodes call.given)

pub gen_found : (words : List Text) (depth seed : ℕ) → IsGenCall words depth seed → words_in (subcommand_of chc words) ≡ Some (Gen depth seed)
gen_found words depth seed call =
    let d = given_found 0 most_depth (first_of (codes "depth") call.options) depth call.depths in
    let s = given_found 0 most_seed (first_of (codes "seed") call.options) seed call.seeds in
    ap words_in call.names.1
    ∙ ap (λ (x : Option ℕ). gen_with x (number_given 0 most_seed (first_of (codes "seed") call.options))) d
    ∙ ap (λ (y : Option ℕ). gen_with (Some depth) y) s

-- so no words are two calls

pub one_reading : (words : List Text) (first second : Limits) → IsCall words first → IsCall words second → first ≡ second
one_reading words first second a b =
    let same : (let o : Option Words = Some (Solve first) in o) ≡ Some (Solve second) = sym (solve_found words first a) ∙ solve_found words second b in
    cc

pub one_number : (words : List Text) (first second : ℕ) → IsCheckCall words first → IsCheckCall words second → first ≡ second
one_number words first second a b =
    let same : (let o : Option Words = Some (Check first) in o) ≡ Some (Check second) = sym (check_found words first a) ∙ check_found words second b in
    cc

pub one_seed : (words : List Text) (d s e t : ℕ) → IsGenCall words d s → IsGenCall words e t → (d ≡ e) × (s ≡ t)
one_seed words d s e t a b =
    let same : (let o : Option Words = Some (Gen d s) in o) ≡ Some (Gen e t) = sym (gen_found words d s a) ∙ gen_found words e t b in
    (cc, cc)

pub apart : (words : List Text) (l : Limits) (nodes : ℕ) → IsCall words l → IsCheckCall words nodes → ⊥
apart words l nodes a b =
    let same : (let o : Option Words = Some (Solve l) in o) ≡ Some (Check nodes) = sym (solve_found words l a) ∙ check_found words nodes b in
    absurd (cc)

pub apart_gen : (words : List Text) (l : Limits) (depth seed : ℕ) → IsCall words l → IsGenCall words depth seed → ⊥
apart_gen words l depth seed a b =
    let same : (let o : Option Words = Some (Solve l) in o) ≡ Some (Gen depth seed) = sym (solve_found words l a) ∙ gen_found words depth seed b in
    absurd (cc)

pub check_apart : (words : List Text) (nodes depth seed : ℕ) → IsCheckCall words nodes → IsGenCall words depth seed → ⊥
check_apart words nodes depth seed a b =
    let same : (let o : Option Words = Some (Check nodes) in o) ≡ Some (Gen depth seed) = sym (check_found words nodes a) ∙ gen_found words depth seed b in
    absurd (cc)
