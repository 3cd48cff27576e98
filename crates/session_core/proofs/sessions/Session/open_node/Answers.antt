use Rattle.std.proofs.Common.{◌≡◌, List, None, ap, map, sym, subst}
use Rattle.std.specs.Prelude.{MatchOption}
use Rattle.spec_core.specs.WellSorted.{IsWellSorted}
use Rattle.clause_core.specs.ClauseLaws.{OneRelation}
use Rattle.session_core.specs.declared.kept_goals.KeptGoal.{KeptGoal}
use Rattle.session_core.specs.Kept.{Keeps}
use Rattle.session_core.specs.States.{State, start}
use Rattle.session_core.specs.Taking.{HasOpenLast, IsOpenAt, KeepsSound}
use Rattle.session_core.specs.Value.{IsOpenNode, kept_of, SessionValue}
use Rattle.session_core.proofs.OneState.{lead_one}
use Rattle.session_core.proofs.ReportedStates.{match_mapped, none_told, open_told}
use Rattle.session_core.proofs.Sound.{states_sound}
use Rattle.session_core.proofs.sessions.Session.open_node.Goals as goal

pub returns : goal.returns
returns g c = λ state is.
    let above = g.O.TermOrder.above c.args.admitted.now.order in
    let spec = c.args.admitted.now.spec in
    let fine : IsWellSorted c.args.admitted.now.spec = rw (← c.admitted.view_is) c.admitted.invariant.0 in
    let one : OneRelation (g.O.TermOrder.above c.args.admitted.now.order) =
    rw (← c.admitted.view_is) c.one_relation.ensures in
    let its = c.requires in
    let kept : map kept_of c.self.inside.goals.items ≡ c.args.self.now.goals =
    ap (λ (v : SessionValue). v.goals) c.self.view_is in
    let k : KeepsSound above spec its.state (map kept_of c.self.inside.goals.items) = record {
      sound =
          states_sound above spec c.args.self.now.commands its.state its.is_state;
      keeps =
          subst (λ gs. Keeps above spec its.state gs) (sym kept) its.keeps;
    } in
    let same : its.state ≡ state = lead_one above spec one fine start c.args.self.now.commands its.state state
    its.is_state is in
    let told = match_mapped c.first_open.result (HasOpenLast (map kept_of c.as_slice.result.now) →
    ⊥) (its.state.work ≡ None) (λ p. IsOpenAt (map kept_of c.as_slice.result.now) p.0 p.1.now) (λ p. IsOpenNode
    its.state p.0 p.1.now)
    (λ h. none_told above spec fine one its.state (map kept_of c.self.inside.goals.items) k
    (subst (λ (gs : List KeptGoal). HasOpenLast (map kept_of gs) → ⊥) c.as_slice.ensures.value h))
    (λ p h. open_told above spec fine one its.state (map kept_of c.self.inside.goals.items) k p.0 p.1.now
    (subst (λ (gs : List KeptGoal). IsOpenAt (map kept_of gs) p.0 p.1.now) c.as_slice.ensures.value h))
    c.first_open.ensures in
    subst (λ (s : State). MatchOption c.first_open.result (s.work ≡ None) (λ p. IsOpenNode s p.0 p.1.now)) same told
