use Rattle.chc_checker.proofs.LinkLemmas.{turned_made}
use Rattle.chc_checker.proofs.links.link_literals.Goals as goal

pub returns-else-u-v : goal.returns-else-u-v
returns-else-u-v c = turned_made c.args.u c.args.v c.args.same c.rising_link-else-u-v.result c.rising_link-else-u-v.ensures
