use Rattle.std.proofs.Common.{ℕ, List, subst}
use Rattle.chc_checker.specs.Verdicts.{Judges}
use Rattle.check_input.proofs.AppendLemmas.{behind}
use Rattle.check_input.proofs.whole.judged.Goals as goal

pub check_text-requires-clause-normal : goal.check_text-requires-clause-normal
check_text-requires-clause-normal c = c.systems_can_be_checked.ensures c.args.checked.now c.requires.accepted.0 c.requires.accepted.1

pub text_of-requires-clause-judges : goal.text_of-requires-clause-judges
text_of-requires-clause-judges c = (c.args.nodes, _, c.in_ok-verdict.ensures)

pub returns : goal.returns
returns c =
    record {
      script = c.args.script;
      answer = c.args.start;
      checked = c.args.checked.now;
      read_as = c.requires.read_as;
      system = c.requires.accepted.0;
      accepted = c.requires.accepted.1;
      judges = subst (λ (bytes : List ℕ). Judges c.args.nodes c.args.checked.now.script bytes c.in_ok-verdict.verdict) (behind c.args.start c.args.input.now) c.in_ok-verdict.ensures;
      printed = c.in_ok-text.ensures;
    }
