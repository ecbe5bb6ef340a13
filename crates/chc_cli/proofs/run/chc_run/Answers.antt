use Rattle.std.proofs.Common.{map, inl, inr, refl}
use Rattle.std.specs.String.{string_bytes}
use Rattle.call_words.specs.declared.status.Status.{Status}
use Rattle.chc_cli.proofs.CommandLemmas.{book_of_gen, book_of_solve, made, no_book, no_refusal, only, refused_check, refused_solve, wanting}
use Rattle.chc_cli.proofs.run.chc_run.Goals as goal

-- a call of `solve`

pub returns-in-Solve-clause-answered : goal.returns-in-Solve-clause-answered
returns-in-Solve-clause-answered g c = λ zero. inl (c.in-Solve.limits, c.in-Solve.ensures.0, c.solve_call.ensures.answered zero)

pub returns-in-Solve-clause-wrong : goal.returns-in-Solve-clause-wrong
returns-in-Solve-clause-wrong g c = λ six. absurd (c.solve_call.ensures.no_wrong six)

pub returns-in-Solve-clause-not_shown : goal.returns-in-Solve-clause-not_shown
returns-in-Solve-clause-not_shown g c = λ seven. absurd (c.solve_call.ensures.no_unshown seven)

pub returns-in-Solve-clause-refused : goal.returns-in-Solve-clause-refused
returns-in-Solve-clause-refused g c =
    refused_solve (map string_bytes c.args.words.now) c.solve_call.result.refusal _ _ c.in-Solve.limits c.in-Solve.ensures.0 c.solve_call.ensures.refused

pub returns-in-Solve-clause-book : goal.returns-in-Solve-clause-book
returns-in-Solve-clause-book g c = book_of_solve (map string_bytes c.args.words.now) c.solve_call.result.book _ _ c.in-Solve.limits c.in-Solve.ensures.0 c.solve_call.ensures.book

pub returns-in-Solve-clause-counts : goal.returns-in-Solve-clause-counts
returns-in-Solve-clause-counts g c = book_of_solve (map string_bytes c.args.words.now) c.solve_call.result.book _ _ c.in-Solve.limits c.in-Solve.ensures.0 c.solve_call.ensures.counts

pub returns-in-Solve-clause-usage : goal.returns-in-Solve-clause-usage
returns-in-Solve-clause-usage g c = λ two. absurd (c.solve_call.ensures.no_usage two)

pub returns-in-Solve-clause-checks : goal.returns-in-Solve-clause-checks
returns-in-Solve-clause-checks g c = λ nodes call. c.solve_call.ensures.no_usage

pub returns-in-Solve-clause-solves : goal.returns-in-Solve-clause-solves
returns-in-Solve-clause-solves g c = λ limits call. c.solve_call.ensures.no_usage

pub returns-in-Solve-clause-other_words : goal.returns-in-Solve-clause-other_words
returns-in-Solve-clause-other_words g c = λ none. absurd (none.solve c.in-Solve.limits c.in-Solve.ensures.0)

pub returns-in-Solve-clause-unread : goal.returns-in-Solve-clause-unread
returns-in-Solve-clause-unread g c = λ none. absurd (none.solve c.in-Solve.limits c.in-Solve.ensures.0)

pub returns-in-Solve-clause-other_book : goal.returns-in-Solve-clause-other_book
returns-in-Solve-clause-other_book g c = λ none. absurd (none.solve c.in-Solve.limits c.in-Solve.ensures.0)

pub returns-in-Solve-clause-check_book : goal.returns-in-Solve-clause-check_book
returns-in-Solve-clause-check_book g c = λ nodes call. absurd (c.calls_exclude_each_other.ensures.apart (map string_bytes c.args.words.now) c.in-Solve.limits nodes c.in-Solve.ensures.0 call)

pub returns-in-Solve-clause-other_read : goal.returns-in-Solve-clause-other_read
returns-in-Solve-clause-other_read g c = λ two. absurd (c.solve_call.ensures.no_usage two)

pub returns-in-Solve-clause-writes_part : goal.returns-in-Solve-clause-writes_part
returns-in-Solve-clause-writes_part g c = λ four. inl (inl (c.in-Solve.limits, c.in-Solve.ensures.0, c.solve_call.ensures.writes_part four))

pub returns-in-Solve-clause-checks_scripts : goal.returns-in-Solve-clause-checks_scripts
returns-in-Solve-clause-checks_scripts g c =
    λ nodes call. absurd (c.calls_exclude_each_other.ensures.apart (map string_bytes c.args.words.now) c.in-Solve.limits nodes c.in-Solve.ensures.0 call)

pub returns-in-Solve-clause-checks_no_others : goal.returns-in-Solve-clause-checks_no_others
returns-in-Solve-clause-checks_no_others g c =
    λ nodes call. absurd (c.calls_exclude_each_other.ensures.apart (map string_bytes c.args.words.now) c.in-Solve.limits nodes c.in-Solve.ensures.0 call)

pub returns-in-Solve-clause-checks_no_shapes : goal.returns-in-Solve-clause-checks_no_shapes
returns-in-Solve-clause-checks_no_shapes g c =
    λ nodes call. absurd (c.calls_exclude_each_other.ensures.apart (map string_bytes c.args.words.now) c.in-Solve.limits nodes c.in-Solve.ensures.0 call)

pub returns-in-Solve-clause-answers_all : goal.returns-in-Solve-clause-answers_all
returns-in-Solve-clause-answers_all g c = λ none zero. c.solve_call.ensures.answers_all zero

pub returns-in-Solve-clause-generates : goal.returns-in-Solve-clause-generates
returns-in-Solve-clause-generates g c = λ depth seed call. absurd (c.calls_exclude_each_other.ensures.apart_gen (map string_bytes c.args.words.now) c.in-Solve.limits depth seed c.in-Solve.ensures.0 call)

pub returns-in-Solve-clause-gen_unread : goal.returns-in-Solve-clause-gen_unread
returns-in-Solve-clause-gen_unread g c = λ depth seed call. absurd (c.calls_exclude_each_other.ensures.apart_gen (map string_bytes c.args.words.now) c.in-Solve.limits depth seed c.in-Solve.ensures.0 call)

pub returns-in-Solve-clause-gen_read : goal.returns-in-Solve-clause-gen_read
returns-in-Solve-clause-gen_read g c = λ depth seed call. absurd (c.calls_exclude_each_other.ensures.apart_gen (map string_bytes c.args.words.now) c.in-Solve.limits depth seed c.in-Solve.ensures.0 call)

-- a call of `check`

pub returns-in-Check-clause-answered : goal.returns-in-Check-clause-answered
returns-in-Check-clause-answered g c = λ zero. inr (inl (c.in-Check.nodes, c.in-Check.ensures.0, c.check_call-checked.ensures.valid zero))

pub returns-in-Check-clause-answers_all : goal.returns-in-Check-clause-answers_all
returns-in-Check-clause-answers_all g c = λ none zero. (c.check_call-checked.ensures.valid zero).whole

pub returns-in-Check-clause-wrong : goal.returns-in-Check-clause-wrong
returns-in-Check-clause-wrong g c = λ six. (c.in-Check.nodes, c.in-Check.ensures.0, c.check_call-checked.ensures.wrong six)

pub returns-in-Check-clause-not_shown : goal.returns-in-Check-clause-not_shown
returns-in-Check-clause-not_shown g c = λ seven. (c.in-Check.nodes, c.in-Check.ensures.0, c.check_call-checked.ensures.not_shown seven)

pub returns-in-Check-clause-refused : goal.returns-in-Check-clause-refused
returns-in-Check-clause-refused g c =
    refused_check (map string_bytes c.args.words.now) c.check_call-checked.result.refusal _ _ c.in-Check.nodes c.in-Check.ensures.0 c.check_call-checked.ensures.refused

pub returns-in-Check-clause-answers_scripts : goal.returns-in-Check-clause-answers_scripts
returns-in-Check-clause-answers_scripts g c =
    λ limits call. absurd (c.calls_exclude_each_other.ensures.apart (map string_bytes c.args.words.now) limits c.in-Check.nodes call c.in-Check.ensures.0)

pub returns-in-Check-clause-refuses_others : goal.returns-in-Check-clause-refuses_others
returns-in-Check-clause-refuses_others g c =
    λ limits call. absurd (c.calls_exclude_each_other.ensures.apart (map string_bytes c.args.words.now) limits c.in-Check.nodes call c.in-Check.ensures.0)

pub returns-in-Check-clause-refuses_shapes : goal.returns-in-Check-clause-refuses_shapes
returns-in-Check-clause-refuses_shapes g c =
    λ limits call. absurd (c.calls_exclude_each_other.ensures.apart (map string_bytes c.args.words.now) limits c.in-Check.nodes call c.in-Check.ensures.0)

pub returns-in-Check-clause-usage : goal.returns-in-Check-clause-usage
returns-in-Check-clause-usage g c = λ two. absurd (c.check_call-checked.ensures.no_usage two)

pub returns-in-Check-clause-solves : goal.returns-in-Check-clause-solves
returns-in-Check-clause-solves g c = λ limits call. c.check_call-checked.ensures.no_usage

pub returns-in-Check-clause-checks : goal.returns-in-Check-clause-checks
returns-in-Check-clause-checks g c = λ nodes call. c.check_call-checked.ensures.no_usage

pub returns-in-Check-clause-other_words : goal.returns-in-Check-clause-other_words
returns-in-Check-clause-other_words g c = λ none. absurd (none.check c.in-Check.nodes c.in-Check.ensures.0)

pub returns-in-Check-clause-unread : goal.returns-in-Check-clause-unread
returns-in-Check-clause-unread g c = λ none. absurd (none.check c.in-Check.nodes c.in-Check.ensures.0)

pub returns-in-Check-clause-other_read : goal.returns-in-Check-clause-other_read
returns-in-Check-clause-other_read g c = λ two. absurd (c.check_call-checked.ensures.no_usage two)

pub returns-in-Check-clause-writes_part : goal.returns-in-Check-clause-writes_part
returns-in-Check-clause-writes_part g c = λ four. inl (inr (inl (c.in-Check.nodes, c.in-Check.ensures.0, c.check_call-checked.ensures.writes_part four)))

pub returns-in-Check-clause-checks_scripts : goal.returns-in-Check-clause-checks_scripts
returns-in-Check-clause-checks_scripts g c = λ nodes call. c.check_call-checked.ensures.judges_scripts

pub returns-in-Check-clause-checks_no_others : goal.returns-in-Check-clause-checks_no_others
returns-in-Check-clause-checks_no_others g c = λ nodes call. c.check_call-checked.ensures.refuses_others

pub returns-in-Check-clause-checks_no_shapes : goal.returns-in-Check-clause-checks_no_shapes
returns-in-Check-clause-checks_no_shapes g c = λ nodes call. c.check_call-checked.ensures.refuses_shapes

pub returns-in-Check-clause-generates : goal.returns-in-Check-clause-generates
returns-in-Check-clause-generates g c = λ depth seed call. absurd (c.calls_exclude_each_other.ensures.check_apart (map string_bytes c.args.words.now) c.in-Check.nodes depth seed c.in-Check.ensures.0 call)

pub returns-in-Check-clause-gen_unread : goal.returns-in-Check-clause-gen_unread
returns-in-Check-clause-gen_unread g c = λ depth seed call. absurd (c.calls_exclude_each_other.ensures.check_apart (map string_bytes c.args.words.now) c.in-Check.nodes depth seed c.in-Check.ensures.0 call)

pub returns-in-Check-clause-gen_read : goal.returns-in-Check-clause-gen_read
returns-in-Check-clause-gen_read g c = λ depth seed call. absurd (c.calls_exclude_each_other.ensures.check_apart (map string_bytes c.args.words.now) c.in-Check.nodes depth seed c.in-Check.ensures.0 call)

-- a call of `gen`

pub returns-in-Gen-clause-answered : goal.returns-in-Gen-clause-answered
returns-in-Gen-clause-answered g c = λ zero. inr (inr (c.in-Gen.depth, c.in-Gen.seed, c.in-Gen.ensures.0, c.gen_call-summed.ensures.answered zero))

pub returns-in-Gen-clause-answers_all : goal.returns-in-Gen-clause-answers_all
returns-in-Gen-clause-answers_all g c = λ none. absurd (none c.in-Gen.depth c.in-Gen.seed c.in-Gen.ensures.0)

pub returns-in-Gen-clause-wrong : goal.returns-in-Gen-clause-wrong
returns-in-Gen-clause-wrong g c = λ is. absurd (made c.gen_call-summed.result.status Status.Wrong c.gen_call-summed.ensures.few is (λ e. absurd (cc)) (λ e. absurd (cc)) (λ e. absurd (cc)))

pub returns-in-Gen-clause-not_shown : goal.returns-in-Gen-clause-not_shown
returns-in-Gen-clause-not_shown g c = λ is. absurd (made c.gen_call-summed.result.status Status.NotShown c.gen_call-summed.ensures.few is (λ e. absurd (cc)) (λ e. absurd (cc)) (λ e. absurd (cc)))

pub returns-in-Gen-clause-refusal : goal.returns-in-Gen-clause-refusal
returns-in-Gen-clause-refusal g c = (λ some. absurd (cc), λ is. absurd (made c.gen_call-summed.result.status Status.Refused c.gen_call-summed.ensures.few is (λ e. absurd (cc)) (λ e. absurd (cc)) (λ e. absurd (cc))))

pub returns-in-Gen-clause-answers_scripts : goal.returns-in-Gen-clause-answers_scripts
returns-in-Gen-clause-answers_scripts g c = λ limits call. absurd (c.calls_exclude_each_other.ensures.apart_gen (map string_bytes c.args.words.now) limits c.in-Gen.depth c.in-Gen.seed call c.in-Gen.ensures.0)

pub returns-in-Gen-clause-refuses_others : goal.returns-in-Gen-clause-refuses_others
returns-in-Gen-clause-refuses_others g c = λ limits call. absurd (c.calls_exclude_each_other.ensures.apart_gen (map string_bytes c.args.words.now) limits c.in-Gen.depth c.in-Gen.seed call c.in-Gen.ensures.0)

pub returns-in-Gen-clause-refuses_shapes : goal.returns-in-Gen-clause-refuses_shapes
returns-in-Gen-clause-refuses_shapes g c = λ limits call. absurd (c.calls_exclude_each_other.ensures.apart_gen (map string_bytes c.args.words.now) limits c.in-Gen.depth c.in-Gen.seed call c.in-Gen.ensures.0)

pub returns-in-Gen-clause-solves : goal.returns-in-Gen-clause-solves
returns-in-Gen-clause-solves g c = λ limits call. absurd (c.calls_exclude_each_other.ensures.apart_gen (map string_bytes c.args.words.now) limits c.in-Gen.depth c.in-Gen.seed call c.in-Gen.ensures.0)

pub returns-in-Gen-clause-checks_scripts : goal.returns-in-Gen-clause-checks_scripts
returns-in-Gen-clause-checks_scripts g c = λ nodes call. absurd (c.calls_exclude_each_other.ensures.check_apart (map string_bytes c.args.words.now) nodes c.in-Gen.depth c.in-Gen.seed call c.in-Gen.ensures.0)

pub returns-in-Gen-clause-checks_no_others : goal.returns-in-Gen-clause-checks_no_others
returns-in-Gen-clause-checks_no_others g c = λ nodes call. absurd (c.calls_exclude_each_other.ensures.check_apart (map string_bytes c.args.words.now) nodes c.in-Gen.depth c.in-Gen.seed call c.in-Gen.ensures.0)

pub returns-in-Gen-clause-checks_no_shapes : goal.returns-in-Gen-clause-checks_no_shapes
returns-in-Gen-clause-checks_no_shapes g c = λ nodes call. absurd (c.calls_exclude_each_other.ensures.check_apart (map string_bytes c.args.words.now) nodes c.in-Gen.depth c.in-Gen.seed call c.in-Gen.ensures.0)

pub returns-in-Gen-clause-checks : goal.returns-in-Gen-clause-checks
returns-in-Gen-clause-checks g c = λ nodes call. absurd (c.calls_exclude_each_other.ensures.check_apart (map string_bytes c.args.words.now) nodes c.in-Gen.depth c.in-Gen.seed call c.in-Gen.ensures.0)

pub returns-in-Gen-clause-check_book : goal.returns-in-Gen-clause-check_book
returns-in-Gen-clause-check_book g c = λ nodes call. absurd (c.calls_exclude_each_other.ensures.check_apart (map string_bytes c.args.words.now) nodes c.in-Gen.depth c.in-Gen.seed call c.in-Gen.ensures.0)

pub returns-in-Gen-clause-book : goal.returns-in-Gen-clause-book
returns-in-Gen-clause-book g c = book_of_gen (map string_bytes c.args.words.now) c.gen_call-summed.result.book _ _ c.in-Gen.depth c.in-Gen.seed c.in-Gen.ensures.0 c.gen_call-summed.ensures.book

pub returns-in-Gen-clause-counts : goal.returns-in-Gen-clause-counts
returns-in-Gen-clause-counts g c = book_of_gen (map string_bytes c.args.words.now) c.gen_call-summed.result.book _ _ c.in-Gen.depth c.in-Gen.seed c.in-Gen.ensures.0 c.gen_call-summed.ensures.counts

pub returns-in-Gen-clause-usage : goal.returns-in-Gen-clause-usage
returns-in-Gen-clause-usage g c = λ is. absurd (made c.gen_call-summed.result.status Status.Usage c.gen_call-summed.ensures.few is (λ e. absurd (cc)) (λ e. absurd (cc)) (λ e. absurd (cc)))

pub returns-in-Gen-clause-generates : goal.returns-in-Gen-clause-generates
returns-in-Gen-clause-generates g c = λ depth seed call. c.gen_call-summed.ensures.few

pub returns-in-Gen-clause-other_words : goal.returns-in-Gen-clause-other_words
returns-in-Gen-clause-other_words g c = λ none. absurd (none.gen c.in-Gen.depth c.in-Gen.seed c.in-Gen.ensures.0)

pub returns-in-Gen-clause-unread : goal.returns-in-Gen-clause-unread
returns-in-Gen-clause-unread g c = λ none. absurd (none.gen c.in-Gen.depth c.in-Gen.seed c.in-Gen.ensures.0)

pub returns-in-Gen-clause-other_book : goal.returns-in-Gen-clause-other_book
returns-in-Gen-clause-other_book g c = λ none. absurd (none.gen c.in-Gen.depth c.in-Gen.seed c.in-Gen.ensures.0)

pub returns-in-Gen-clause-read_fault : goal.returns-in-Gen-clause-read_fault
returns-in-Gen-clause-read_fault g c = λ is. absurd (made c.gen_call-summed.result.status Status.ReadFault c.gen_call-summed.ensures.few is (λ e. absurd (cc)) (λ e. absurd (cc)) (λ e. absurd (cc)))

pub returns-in-Gen-clause-stops_reading : goal.returns-in-Gen-clause-stops_reading
returns-in-Gen-clause-stops_reading g c = λ is. absurd (made c.gen_call-summed.result.status Status.ReadFault c.gen_call-summed.ensures.few is (λ e. absurd (cc)) (λ e. absurd (cc)) (λ e. absurd (cc)))

pub returns-in-Gen-clause-unwritten : goal.returns-in-Gen-clause-unwritten
returns-in-Gen-clause-unwritten g c = λ is. absurd (made c.gen_call-summed.result.status Status.ReadFault c.gen_call-summed.ensures.few is (λ e. absurd (cc)) (λ e. absurd (cc)) (λ e. absurd (cc)))

pub returns-in-Gen-clause-holds_nothing : goal.returns-in-Gen-clause-holds_nothing
returns-in-Gen-clause-holds_nothing g c = λ is. absurd (made c.gen_call-summed.result.status Status.ReadFault c.gen_call-summed.ensures.few is (λ e. absurd (cc)) (λ e. absurd (cc)) (λ e. absurd (cc)))

pub returns-in-Gen-clause-writes_part : goal.returns-in-Gen-clause-writes_part
returns-in-Gen-clause-writes_part g c = λ four. inl (inr (inr (c.in-Gen.depth, c.in-Gen.seed, c.in-Gen.ensures.0, c.gen_call-summed.ensures.writes_part four)))

-- no command

pub returns-in-Usage-clause-answered : goal.returns-in-Usage-clause-answered
returns-in-Usage-clause-answered g c = λ status. absurd (only c.no_command.result.status Status.Answered c.no_command.ensures.statuses status (λ e. absurd (cc)) (λ e. absurd (cc)))

pub returns-in-Usage-clause-answers_all : goal.returns-in-Usage-clause-answers_all
returns-in-Usage-clause-answers_all g c = λ none status. absurd (only c.no_command.result.status Status.Answered c.no_command.ensures.statuses status (λ e. absurd (cc)) (λ e. absurd (cc)))

pub returns-in-Usage-clause-wrong : goal.returns-in-Usage-clause-wrong
returns-in-Usage-clause-wrong g c = λ status. absurd (only c.no_command.result.status Status.Wrong c.no_command.ensures.statuses status (λ e. absurd (cc)) (λ e. absurd (cc)))

pub returns-in-Usage-clause-not_shown : goal.returns-in-Usage-clause-not_shown
returns-in-Usage-clause-not_shown g c = λ status. absurd (only c.no_command.result.status Status.NotShown c.no_command.ensures.statuses status (λ e. absurd (cc)) (λ e. absurd (cc)))

pub returns-in-Usage-clause-refused : goal.returns-in-Usage-clause-refused
returns-in-Usage-clause-refused g c = no_refusal c.no_command.result.refusal _ c.no_command.ensures.refusal

pub returns-in-Usage-clause-refuses_all : goal.returns-in-Usage-clause-refuses_all
returns-in-Usage-clause-refuses_all g c = no_refusal c.no_command.result.refusal _ c.no_command.ensures.refusal

pub returns-in-Usage-clause-book : goal.returns-in-Usage-clause-book
returns-in-Usage-clause-book g c = no_book c.no_command.result.book _ c.no_command.ensures.book

pub returns-in-Usage-clause-counts : goal.returns-in-Usage-clause-counts
returns-in-Usage-clause-counts g c = no_book c.no_command.result.book _ c.no_command.ensures.book

pub returns-in-Usage-clause-solves : goal.returns-in-Usage-clause-solves
returns-in-Usage-clause-solves g c = λ limits call. absurd (c.in-Usage.ensures.solve limits call)

pub returns-in-Usage-clause-checks : goal.returns-in-Usage-clause-checks
returns-in-Usage-clause-checks g c = λ nodes call. absurd (c.in-Usage.ensures.check nodes call)

pub returns-in-Usage-clause-other_words : goal.returns-in-Usage-clause-other_words
returns-in-Usage-clause-other_words g c = λ none four five. c.no_command.ensures.statuses four

pub returns-in-Usage-clause-answers_scripts : goal.returns-in-Usage-clause-answers_scripts
returns-in-Usage-clause-answers_scripts g c = λ limits call. absurd (c.in-Usage.ensures.solve limits call)

pub returns-in-Usage-clause-refuses_others : goal.returns-in-Usage-clause-refuses_others
returns-in-Usage-clause-refuses_others g c = λ limits call. absurd (c.in-Usage.ensures.solve limits call)

pub returns-in-Usage-clause-refuses_shapes : goal.returns-in-Usage-clause-refuses_shapes
returns-in-Usage-clause-refuses_shapes g c = λ limits call. absurd (c.in-Usage.ensures.solve limits call)

pub returns-in-Usage-clause-checks_scripts : goal.returns-in-Usage-clause-checks_scripts
returns-in-Usage-clause-checks_scripts g c = λ nodes call. absurd (c.in-Usage.ensures.check nodes call)

pub returns-in-Usage-clause-checks_no_others : goal.returns-in-Usage-clause-checks_no_others
returns-in-Usage-clause-checks_no_others g c = λ nodes call. absurd (c.in-Usage.ensures.check nodes call)

pub returns-in-Usage-clause-checks_no_shapes : goal.returns-in-Usage-clause-checks_no_shapes
returns-in-Usage-clause-checks_no_shapes g c = λ nodes call. absurd (c.in-Usage.ensures.check nodes call)

pub returns-in-Usage-clause-writes_part : goal.returns-in-Usage-clause-writes_part
returns-in-Usage-clause-writes_part g c = λ four. inr (inl (record { none = c.in-Usage.ensures; unread = c.no_command.ensures.read; part = c.no_command.ensures.writes_part four }))

pub returns-in-Usage-clause-generates : goal.returns-in-Usage-clause-generates
returns-in-Usage-clause-generates g c = λ depth seed call. absurd (c.in-Usage.ensures.gen depth seed call)

-- memory was wanted before the words were read

pub returns-in-Wanting-clause-answered : goal.returns-in-Wanting-clause-answered
returns-in-Wanting-clause-answered g c = λ status. absurd (wanting c.no_memory.result.status Status.Answered c.no_memory.ensures.statuses status (λ e. absurd (cc)) (λ e. absurd (cc)))

pub returns-in-Wanting-clause-answers_all : goal.returns-in-Wanting-clause-answers_all
returns-in-Wanting-clause-answers_all g c = λ none status. absurd (wanting c.no_memory.result.status Status.Answered c.no_memory.ensures.statuses status (λ e. absurd (cc)) (λ e. absurd (cc)))

pub returns-in-Wanting-clause-wrong : goal.returns-in-Wanting-clause-wrong
returns-in-Wanting-clause-wrong g c = λ status. absurd (wanting c.no_memory.result.status Status.Wrong c.no_memory.ensures.statuses status (λ e. absurd (cc)) (λ e. absurd (cc)))

pub returns-in-Wanting-clause-not_shown : goal.returns-in-Wanting-clause-not_shown
returns-in-Wanting-clause-not_shown g c = λ status. absurd (wanting c.no_memory.result.status Status.NotShown c.no_memory.ensures.statuses status (λ e. absurd (cc)) (λ e. absurd (cc)))

pub returns-in-Wanting-clause-refused : goal.returns-in-Wanting-clause-refused
returns-in-Wanting-clause-refused g c = no_refusal c.no_memory.result.refusal _ c.no_memory.ensures.refusal

pub returns-in-Wanting-clause-refuses_all : goal.returns-in-Wanting-clause-refuses_all
returns-in-Wanting-clause-refuses_all g c = no_refusal c.no_memory.result.refusal _ c.no_memory.ensures.refusal

pub returns-in-Wanting-clause-book : goal.returns-in-Wanting-clause-book
returns-in-Wanting-clause-book g c = no_book c.no_memory.result.book _ c.no_memory.ensures.book

pub returns-in-Wanting-clause-counts : goal.returns-in-Wanting-clause-counts
returns-in-Wanting-clause-counts g c = no_book c.no_memory.result.book _ c.no_memory.ensures.book

pub returns-in-Wanting-clause-solves : goal.returns-in-Wanting-clause-solves
returns-in-Wanting-clause-solves g c = λ limits call status. wanting c.no_memory.result.status Status.Usage c.no_memory.ensures.statuses status (λ e. absurd (cc)) (λ e. absurd (cc))

pub returns-in-Wanting-clause-checks : goal.returns-in-Wanting-clause-checks
returns-in-Wanting-clause-checks g c = λ nodes call status. wanting c.no_memory.result.status Status.Usage c.no_memory.ensures.statuses status (λ e. absurd (cc)) (λ e. absurd (cc))

pub returns-in-Wanting-clause-other_words : goal.returns-in-Wanting-clause-other_words
returns-in-Wanting-clause-other_words g c = λ none four five. absurd (five (c.no_memory.ensures.statuses four))

pub returns-in-Wanting-clause-writes_part : goal.returns-in-Wanting-clause-writes_part
returns-in-Wanting-clause-writes_part g c = λ four. inr (inr (record { unread = c.no_memory.ensures.read; part = c.no_memory.ensures.writes_part four }))

pub returns-in-Wanting-clause-generates : goal.returns-in-Wanting-clause-generates
returns-in-Wanting-clause-generates g c = λ depth seed call four five. absurd (five (c.no_memory.ensures.statuses four))
