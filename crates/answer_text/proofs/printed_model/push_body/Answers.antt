use Rattle.std.proofs.Common.{sym, append-nil, arith}
use Rattle.answer_text.proofs.TermLemmas.{text_past}
use Rattle.answer_text.proofs.printed_model.push_body.Goals as goal

pub returns-else-id-len : goal.returns-else-id-len
returns-else-id-len c = rw (text_past c.args.terms.now.nodes c.args.id.0 (omega (arith, c.if-id-len.false, c.len.ensures))) (sym (append-nil c.args.out.now.items))
