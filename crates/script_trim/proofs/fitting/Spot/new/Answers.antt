use Rattle.script_trim.proofs.Whole.{clause_at}
use Rattle.script_trim.proofs.fitting.Spot.new.Goals as goal

pub returns-clause-is : goal.returns-clause-is
returns-clause-is c =
    let at = clause_at c.args.nodes.now c.args.number c.index-nodes-number.result c.requires.in_range in
    record {
      fine = c.requires.fine;
      nodes = c.requires.nodes;
      few = c.requires.few;
      in_range = c.requires.in_range;
      here = at;
      node = c.requires.nodes c.args.number _ at;
      alone = λ lone. c.requires.alone lone _ at;
    }
