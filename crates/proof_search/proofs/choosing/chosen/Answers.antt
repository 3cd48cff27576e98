use Rattle.std.proofs.Common.{ℕ, Option, sym, subst}
use Rattle.routine_proof.specs.declared.moves.Move.{Move}
use Rattle.routine_proof.specs.Candidates.{each}
use Rattle.term_core.proofs.Items.{if_ok_map}
use Rattle.proof_search.specs.declared.building.Building.{Building}
use Rattle.proof_search.specs.declared.setting.Setting.{Setting}
use Rattle.proof_search.specs.Chosen.{all_entries, candidates_of}
use Rattle.proof_search.specs.FallingSides.{KeepsSides}
use Rattle.proof_search.specs.Starting.{IsListed}
use Rattle.proof_search.specs.Taking.{IsFound}
use Rattle.proof_search.proofs.ListedEntries.{chosen_listed}
use Rattle.proof_search.proofs.choosing.chosen.Goals as goal

pub returns : goal.returns
returns g c =
    let above = g.O.TermOrder.above c.args.order.now in
    let at = c.in_ok-at.at in
    let same = c.in_ok-at.ensures.same in
    let setting = c.args.setting.now in
    if_ok_map c.first_entry.result (IsFound above at (each all_entries (candidates_of at)))
    (IsListed above setting.spec.now setting.lemmas.now c.args.building.now c.args.node)
    (λ (found : Option Move) first.
    subst
    (λ (p : Setting × Building × ℕ). IsListed above p.0.spec.now p.0.lemmas.now p.1 p.2 found)
    (λ i. (same.0 i, same.1 i, same.2 i))
    (chosen_listed above at c.in_ok-at.ensures.is found first))
    c.first_entry.ensures

pub first_entry-requires-clause-sides : goal.first_entry-requires-clause-sides
first_entry-requires-clause-sides g c =
    let same = c.in_ok-at.ensures.same in
    subst
    (λ (p : Setting × Building). KeepsSides (g.O.TermOrder.above c.args.order.now) p.0 p.1)
    (λ i. (sym same.0 i, sym same.1 i)) c.requires.sides
