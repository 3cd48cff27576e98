use Rattle.std.proofs.Common.{◌<◌, get_or, length, ap, sym, ◌∙◌, subst}
use Rattle.inference_rules.specs.Answers.{clauses_of}
use Rattle.inference_rules.specs.Nodes.{AreNodes}
use Rattle.proof_search.specs.SideSpines.{listed_spines}
use Rattle.proof_search.proofs.ListedNodes.{clause_read}
use Rattle.proof_search.proofs.at.At.new.Goals as goal

pub of-requires : goal.of-requires
of-requires c =
    let sig = c.args.setting.now.spec.now.sig in
    let ns = c.as_slice-nodes.result.now in
    let own = c.as_slice-nodes.ensures.value in
    let nodes = subst (λ xs. AreNodes sig (clauses_of xs)) (sym own) c.requires.nodes in
    let in_range = subst (λ xs. c.args.number < length xs) (sym own) c.requires.in_range in
    let here = (get_or ns c.args.number c.index-nodes-number.result).clause in
    let node = nodes c.args.number here
    (clause_read ns c.args.number c.index-nodes-number.result in_range) in
    c.places_are_there.ensures.numbers_fit sig here c.requires.setting.fine.arities node.sorted
    node.within

pub returns-clause-is : goal.returns-clause-is
returns-clause-is c =
    let sig = c.args.setting.now.spec.now.sig in
    let ns = c.as_slice-nodes.result.now in
    let own = c.as_slice-nodes.ensures.value in
    let nodes = subst (λ xs. AreNodes sig (clauses_of xs)) (sym own) c.requires.nodes in
    let in_range = subst (λ xs. c.args.number < length xs) (sym own) c.requires.in_range in
    let listed = clause_read ns c.args.number c.index-nodes-number.result in_range in
    record {
      setting = c.requires.setting;
      whole = c.requires.whole;
      in_range = c.requires.in_range;
      own = own;
      nodes = nodes;
      here = listed;
      node = nodes c.args.number (get_or ns c.args.number c.index-nodes-number.result).clause
          listed;
      spots = c.in_ok-spots.ensures;
      premise_spines =
          c.in_ok-premise_spines.ensures ∙ ap listed_spines c.equations-premises.ensures;
      conclusion_spines =
          c.in_ok-conclusion_spines.ensures ∙ ap listed_spines c.equations-conclusions.ensures;
    }
