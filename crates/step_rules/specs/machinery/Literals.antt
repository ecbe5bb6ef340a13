-- Used lemmas whose numbers are short.
use Rattle.std.specs.Prelude.{List, Bool}
use Rattle.std.specs.List.{list_all}
use Rattle.chc_tokens.specs.declared.used.Used.{Used}
use Rattle.cube_forms.specs.Cubes.{cube_is_short}

-- whether each used lemma is of a cube whose numbers are short
abbrev pub lemmas_are_short : List Used → Bool
lemmas_are_short used = list_all (λ (u : Used). cube_is_short u.lemma) used
