use Rattle.std.proofs.Common.{◌≡◌, ◌<◌, List, Option, refl, ap, sym, ◌∙◌, subst, length, arith}
use Rattle.std.specs.Prelude.{slice_get, remove}
use Rattle.std.proofs.lemmas.Option.{slice_get_read}
use Rattle.fitting_lists.specs.declared.leading_equations.LeadingPlace.{LeadingPlace}
use Rattle.fitting_lists.specs.Leading.{IsPlace}
use Rattle.inference_rules.specs.declared.nodes.Node.{Node as ClauseNode}
use Rattle.proof_search.specs.Leading.{ArePlaces}
use Rattle.proof_search.proofs.LeadingPlaces.{places_long}
use Rattle.proof_search.proofs.RemovedItems.{all_zip_removed}
use Rattle.proof_search.proofs.building.Building.pass.Goals as goal

pub remove-requires : goal.remove-requires
remove-requires c =
    omega (
      arith,
      c.len-next.ensures,
      c.args.self.now.steps.ok.0,
      c.args.self.now.parents.ok.0,
      c.requires.whole.paired,
      c.requires.next,
    )

pub remove-requires-2 : goal.remove-requires-2
remove-requires-2 c =
    let long =
    places_long c.args.self.now.block.nodes.items c.args.self.now.leadings.items
    c.requires.whole.leadings in
    omega (
      arith,
      c.len-next.ensures,
      c.args.self.now.steps.ok.0,
      c.args.self.now.leadings.ok.0,
      long,
      c.requires.next,
    )

pub remove-node-requires : goal.remove-node-requires
remove-node-requires c =
    omega (
      arith,
      c.len-next.ensures,
      c.args.self.now.steps.ok.0,
      c.args.self.now.block.nodes.ok.0,
      c.requires.next,
    )

pub returns : goal.returns
returns c =
    let old = c.args.self.now in
    let k : c.len-next.result ≡ length old.steps.items =
    omega (arith, c.len-next.ensures, old.steps.ok.0) in
    let nodes = c.remove-node.ensures.items ∙ ap (λ n. remove old.block.nodes.items n) k in
    let leadings = c.remove-2.ensures.items ∙ ap (λ n. remove old.leadings.items n) k in
    let lt : c.len-next.result < length old.block.nodes.items = omega (arith, k, c.requires.next) in
    record {
      is =
          ap (λ n. slice_get old.block.nodes.items n) (sym k)
          ∙ slice_get_read old.block.nodes.items _ c.len-next.result c.remove-node.result refl lt
          c.remove-node.ensures.value;
      nodes = nodes;
      parents = c.remove.ensures.items ∙ ap (λ n. remove old.parents.items n) k;
      steps = refl;
      leadings =
          subst (λ (p : List ClauseNode × List (Option LeadingPlace)). ArePlaces p.0 p.1)
          (λ i. (sym nodes i, sym leadings i))
          (all_zip_removed (λ (n : ClauseNode) (p : Option LeadingPlace). IsPlace n.clause p)
          old.block.nodes.items old.leadings.items (length old.steps.items)
          c.requires.whole.leadings);
      sides = refl;
    }
