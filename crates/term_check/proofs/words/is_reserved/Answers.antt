use Rattle.std.proofs.Common.{◌∙◌, arith}
use Rattle.term_check.specs.Words.{reserved_words}
use Rattle.term_check.proofs.WordLemmas.{among}
use Rattle.term_check.proofs.words.is_reserved.Goals as goal

pub returns-in-1 : goal.returns-in-1
returns-in-1 c = let size = c.in-1.is in c.is_of_1.ensures ∙ among 0 2 reserved_words c.args.word.now (omega (arith, size)) (omega (arith, size))

pub returns-in-2 : goal.returns-in-2
returns-in-2 c = let size = c.in-2.is in c.is_of_2.ensures ∙ among 1 3 reserved_words c.args.word.now (omega (arith, size)) (omega (arith, size))

pub returns-in-3 : goal.returns-in-3
returns-in-3 c = let size = c.in-3.is in c.is_of_3.ensures ∙ among 2 4 reserved_words c.args.word.now (omega (arith, size)) (omega (arith, size))

pub returns-in-4 : goal.returns-in-4
returns-in-4 c = let size = c.in-4.is in c.is_of_4.ensures ∙ among 3 5 reserved_words c.args.word.now (omega (arith, size)) (omega (arith, size))

pub returns-in-5 : goal.returns-in-5
returns-in-5 c = let size = c.in-5.is in c.is_of_5.ensures ∙ among 4 6 reserved_words c.args.word.now (omega (arith, size)) (omega (arith, size))

pub returns-in-6-to-7 : goal.returns-in-6-to-7
returns-in-6-to-7 c = let size = c.in-6-to-7 in c.is_of_6_or_7.ensures ∙ among 5 8 reserved_words c.args.word.now (omega (arith, size)) (omega (arith, size))

pub returns-in-8-to-9 : goal.returns-in-8-to-9
returns-in-8-to-9 c = let size = c.in-8-to-9 in c.is_of_8_or_9.ensures ∙ among 7 10 reserved_words c.args.word.now (omega (arith, size)) (omega (arith, size))

pub returns-in-10-to-13 : goal.returns-in-10-to-13
returns-in-10-to-13 c = let size = c.in-10-to-13 in c.is_of_10_to_13.ensures ∙ among 9 14 reserved_words c.args.word.now (omega (arith, size)) (omega (arith, size))

pub returns-in-14-to-21 : goal.returns-in-14-to-21
returns-in-14-to-21 c = let size = c.in-14-to-21 in c.is_of_14_to_21.ensures ∙ among 13 22 reserved_words c.args.word.now (omega (arith, size)) (omega (arith, size))
