use Rattle.answer_text.proofs.Public.{alone_law, read_back}
use Rattle.cert_derivations.specs.Lines.{fact_lines}
use Rattle.cert_derivations.proofs.PrintLemmas.{facts_printed, text_printed}
use Rattle.cert_derivations.proofs.line_laws.lines_of_facts_are_read_back.Goals as goal

pub returns : goal.returns
returns c = record {
  printed = λ checked sys facts among given ends few. facts_printed checked sys facts among given ends few;
  spelled = λ checked sys facts among text given ends few names is. read_back checked.script.preds names (fact_lines sys facts among) text (text_printed checked sys facts among text given ends few is);
  alone = λ checked sys facts among text answer given ends few names is spells.
      alone_law checked.script.preds text (fact_lines sys facts among) answer
      (read_back checked.script.preds names (fact_lines sys facts among) text (text_printed checked sys facts among text given ends few is)) spells;
}
