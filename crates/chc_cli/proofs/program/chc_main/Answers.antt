use Rattle.std.proofs.Common.{◌≡◌, ◌∙◌, false, inl, inr, refl, rules, sym, true}
use Rattle.std.specs.IoError.{error_kind}
use Rattle.std.specs.declared.io.ErrorKind.{ErrorKind}
use Rattle.chc_cli.proofs.program.chc_main.Goals as goal

pub returns-in-Ok-words_after_name-clause-solves : goal.returns-in-Ok-words_after_name-clause-solves
returns-in-Ok-words_after_name-clause-solves g c =
    rw c.in-Ok.is (λ limits call. c.chc_run.ensures.solves limits (rw (c.as_slice.ensures.value, c.in-Ok-words_after_name.ensures) call))

pub returns-in-Ok-words_after_name-clause-generates : goal.returns-in-Ok-words_after_name-clause-generates
returns-in-Ok-words_after_name-clause-generates g c =
    rw c.in-Ok.is (λ depth seed call. c.chc_run.ensures.generates depth seed (rw (c.as_slice.ensures.value, c.in-Ok-words_after_name.ensures) call))

pub returns-in-Ok-words_after_name-clause-gen_unread : goal.returns-in-Ok-words_after_name-clause-gen_unread
returns-in-Ok-words_after_name-clause-gen_unread g c =
    rw c.in-Ok.is (λ depth seed call. c.chc_run.ensures.gen_unread depth seed (rw (c.as_slice.ensures.value, c.in-Ok-words_after_name.ensures) call))

pub returns-in-Ok-words_after_name-clause-gen_read : goal.returns-in-Ok-words_after_name-clause-gen_read
returns-in-Ok-words_after_name-clause-gen_read g c =
    rw c.in-Ok.is (λ depth seed call. c.chc_run.ensures.gen_read depth seed (rw (c.as_slice.ensures.value, c.in-Ok-words_after_name.ensures) call))

pub returns-in-Ok-words_after_name-clause-answers_all : goal.returns-in-Ok-words_after_name-clause-answers_all
returns-in-Ok-words_after_name-clause-answers_all g c =
    rw c.in-Ok.is (λ none. c.chc_run.ensures.answers_all (rw (c.as_slice.ensures.value, c.in-Ok-words_after_name.ensures) none))

pub returns-in-Ok-words_after_name-clause-other_words : goal.returns-in-Ok-words_after_name-clause-other_words
returns-in-Ok-words_after_name-clause-other_words g c =
    rw c.in-Ok.is (λ none four five. c.chc_run.ensures.other_words (rw (c.as_slice.ensures.value, c.in-Ok-words_after_name.ensures) none) four five)

pub returns-in-Ok-words_after_name-clause-answered : goal.returns-in-Ok-words_after_name-clause-answered
returns-in-Ok-words_after_name-clause-answered g c =
    rw c.in-Ok.is (λ zero. rw (sym c.in-Ok-words_after_name.ensures, sym c.as_slice.ensures.value) (c.chc_run.ensures.answered zero))

pub returns-in-Ok-words_after_name-clause-checks : goal.returns-in-Ok-words_after_name-clause-checks
returns-in-Ok-words_after_name-clause-checks g c =
    rw c.in-Ok.is (λ nodes call. c.chc_run.ensures.checks nodes (rw (c.as_slice.ensures.value, c.in-Ok-words_after_name.ensures) call))

pub returns-in-Ok-words_after_name-clause-wrong : goal.returns-in-Ok-words_after_name-clause-wrong
returns-in-Ok-words_after_name-clause-wrong g c =
    rw c.in-Ok.is (λ status. rw (sym c.in-Ok-words_after_name.ensures, sym c.as_slice.ensures.value) (c.chc_run.ensures.wrong status))

pub returns-in-Ok-words_after_name-clause-not_shown : goal.returns-in-Ok-words_after_name-clause-not_shown
returns-in-Ok-words_after_name-clause-not_shown g c =
    rw c.in-Ok.is (λ status. rw (sym c.in-Ok-words_after_name.ensures, sym c.as_slice.ensures.value) (c.chc_run.ensures.not_shown status))

pub returns-in-Ok-words_after_name-clause-refused : goal.returns-in-Ok-words_after_name-clause-refused
returns-in-Ok-words_after_name-clause-refused g c =
    rw c.in-Ok.is (rw (sym c.in-Ok-words_after_name.ensures, sym c.as_slice.ensures.value) c.chc_run.ensures.refused)

pub returns-in-Ok-words_after_name-clause-answers_scripts : goal.returns-in-Ok-words_after_name-clause-answers_scripts
returns-in-Ok-words_after_name-clause-answers_scripts g c =
    rw c.in-Ok.is (λ limits call. c.chc_run.ensures.answers_scripts limits (rw (c.as_slice.ensures.value, c.in-Ok-words_after_name.ensures) call))

pub returns-in-Ok-words_after_name-clause-refuses_others : goal.returns-in-Ok-words_after_name-clause-refuses_others
returns-in-Ok-words_after_name-clause-refuses_others g c =
    rw c.in-Ok.is (λ limits call. c.chc_run.ensures.refuses_others limits (rw (c.as_slice.ensures.value, c.in-Ok-words_after_name.ensures) call))

pub returns-in-Ok-words_after_name-clause-refuses_shapes : goal.returns-in-Ok-words_after_name-clause-refuses_shapes
returns-in-Ok-words_after_name-clause-refuses_shapes g c =
    rw c.in-Ok.is (λ limits call. c.chc_run.ensures.refuses_shapes limits (rw (c.as_slice.ensures.value, c.in-Ok-words_after_name.ensures) call))

pub returns-in-Ok-words_after_name-clause-checks_scripts : goal.returns-in-Ok-words_after_name-clause-checks_scripts
returns-in-Ok-words_after_name-clause-checks_scripts g c =
    rw c.in-Ok.is (λ nodes call. c.chc_run.ensures.checks_scripts nodes (rw (c.as_slice.ensures.value, c.in-Ok-words_after_name.ensures) call))

pub returns-in-Ok-words_after_name-clause-checks_no_others : goal.returns-in-Ok-words_after_name-clause-checks_no_others
returns-in-Ok-words_after_name-clause-checks_no_others g c =
    rw c.in-Ok.is (λ nodes call. c.chc_run.ensures.checks_no_others nodes (rw (c.as_slice.ensures.value, c.in-Ok-words_after_name.ensures) call))

pub returns-in-Ok-words_after_name-clause-checks_no_shapes : goal.returns-in-Ok-words_after_name-clause-checks_no_shapes
returns-in-Ok-words_after_name-clause-checks_no_shapes g c =
    rw c.in-Ok.is (λ nodes call. c.chc_run.ensures.checks_no_shapes nodes (rw (c.as_slice.ensures.value, c.in-Ok-words_after_name.ensures) call))

pub returns-in-Ok-words_after_name-clause-check_book : goal.returns-in-Ok-words_after_name-clause-check_book
returns-in-Ok-words_after_name-clause-check_book g c =
    rw c.in-Ok.is (λ nodes call. c.chc_run.ensures.check_book nodes (rw (c.as_slice.ensures.value, c.in-Ok-words_after_name.ensures) call))

pub returns-in-Ok-words_after_name-clause-book : goal.returns-in-Ok-words_after_name-clause-book
returns-in-Ok-words_after_name-clause-book g c = rw c.in-Ok.is (rw (sym c.in-Ok-words_after_name.ensures, sym c.as_slice.ensures.value) c.chc_run.ensures.book)

pub returns-in-Ok-words_after_name-clause-counts : goal.returns-in-Ok-words_after_name-clause-counts
returns-in-Ok-words_after_name-clause-counts g c = rw c.in-Ok.is (rw (sym c.in-Ok-words_after_name.ensures, sym c.as_slice.ensures.value) c.chc_run.ensures.counts)

pub returns-in-Ok-words_after_name-clause-unread : goal.returns-in-Ok-words_after_name-clause-unread
returns-in-Ok-words_after_name-clause-unread g c =
    rw c.in-Ok.is (λ none. c.chc_run.ensures.unread (rw (c.as_slice.ensures.value, c.in-Ok-words_after_name.ensures) none))

pub returns-in-Ok-words_after_name-clause-other_book : goal.returns-in-Ok-words_after_name-clause-other_book
returns-in-Ok-words_after_name-clause-other_book g c =
    rw c.in-Ok.is (λ none. c.chc_run.ensures.other_book (rw (c.as_slice.ensures.value, c.in-Ok-words_after_name.ensures) none))

pub returns-in-Ok-words_after_name-clause-writes_part : goal.returns-in-Ok-words_after_name-clause-writes_part
returns-in-Ok-words_after_name-clause-writes_part g c =
    rw c.in-Ok.is (λ four. inl (rw (sym c.in-Ok-words_after_name.ensures, sym c.as_slice.ensures.value) (c.chc_run.ensures.writes_part four)))

pub returns-in-Err-clause-writes_part_of_usage : goal.returns-in-Err-clause-writes_part_of_usage
returns-in-Err-clause-writes_part_of_usage g c =
    let same : error_kind c.in-Err.error ≡ ErrorKind.OutOfMemory = search rules in
    rw c.in-Err.is (λ other four. absurd (other same))

pub returns-in-Err-2-clause-writes_part_of_memory : goal.returns-in-Err-2-clause-writes_part_of_memory
returns-in-Err-2-clause-writes_part_of_memory g c =
    let kind : c.kind.result ≡ error_kind c.in-Err.error = search rules in
    let other : c.eq.result ≡ false = c.if-eq.false in
    rw c.in-Err.is (λ same four.
    let is : c.kind.result ≡ ErrorKind.OutOfMemory = kind ∙ same in
    let yes : c.eq.result ≡ true = rw (c.eq.ensures, is) refl in
    absurd (cc))

pub returns-in-Err-words_after_name-clause-writes_part : goal.returns-in-Err-words_after_name-clause-writes_part
returns-in-Err-words_after_name-clause-writes_part g c = rw c.in-Ok.is (λ four. inr (c.no_memory.ensures.writes_part four))
