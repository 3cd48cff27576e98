use Rattle.std.proofs.Common.{◌≡◌, ◌≤◌, List, Option, Some, refl, ◌∙◌, subst, length}
use Rattle.std.specs.Prelude.{slice_get}
use Rattle.std.proofs.lemmas.Option.{slice_get_read, slice_get_past}
use Rattle.term_core.specs.Tree.{Tree}
use Rattle.term_core.specs.declared.ids.SortId.{SortId}
use Rattle.clause_core.specs.declared.steps.Step.TheVariants.{Cover}
use Rattle.test_sets.specs.TestSets.{test_set_of}
use Rattle.routine_proof.specs.declared.moves.Move.{Move}
use Rattle.routine_proof.specs.Candidates.{nothing}
use Rattle.routine_proof.specs.Entries.{cover}
use Rattle.proof_search.specs.Taking.{SaysAt, IsTaken, IsFound}
use Rattle.proof_search.proofs.CoverSteps.{cover_none, cover_found}
use Rattle.term_core.proofs.Items.{if_ok_map}
use Rattle.proof_search.proofs.covering.cover_of.Goals as goal

pub returns-in_default : goal.returns-in_default
returns-in_default g c =
    let at = c.args.at.now in
    let past : length at.here.now.ctx ≤ c.args.variable.0 = subst
    (λ (xs : List SortId). length xs ≤ c.args.variable.0) c.as_slice.ensures
    c.in_default.ensures.lookup.3 in
    cover_none (SaysAt (g.O.TermOrder.above c.args.order.now) at) at.setting.now.spec.now
    at.here.now c.args.variable.0 (slice_get_past at.here.now.ctx c.args.variable.0 past)

pub returns : goal.returns
returns g c =
    let at = c.args.at.now in
    let above = g.O.TermOrder.above c.args.order.now in
    let says = SaysAt above at in
    let spec = at.setting.now.spec.now in
    let v = c.args.variable.0 in
    let listed : slice_get at.here.now.ctx v ≡ Some c.in-Some.sort.now =
    subst (λ (xs : List SortId). slice_get xs v ≡ Some c.in-Some.sort.now) c.as_slice.ensures
    (slice_get_read c.as_slice.result.now (length c.as_slice.result.now) v c.in-Some.sort.now refl
    c.in-Some.ensures.lookup.3.0 c.in-Some.ensures.lookup.1) in
    let patterns : c.from_vec.result ≡ test_set_of spec.sig c.in-Some.sort.now = c.from_vec.ensures
    ∙ c.in_ok-patterns.ensures in
    if_ok_map c.taken.result (IsTaken says (Cover c.args.variable c.from_vec.result) nothing)
    (IsFound above at (cover spec at.here.now v))
    (λ (found : Option Move) taken.
    cover_found says spec at.here.now v c.in-Some.sort.now found listed
    (subst (λ (ps : List Tree). IsTaken says (Cover
    c.args.variable ps) nothing found) patterns taken))
    c.taken.ensures
