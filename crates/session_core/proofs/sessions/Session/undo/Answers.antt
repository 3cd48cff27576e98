use Rattle.std.proofs.Common.{◌≡◌, ◌++◌, ◌∷◌, [], sym, ◌∙◌, ap, subst, map}
use Rattle.spec_core.specs.WellSorted.{IsWellSorted}
use Rattle.clause_core.specs.ClauseLaws.{OneRelation}
use Rattle.session_core.specs.Sessions.{IsStateOf}
use Rattle.session_core.specs.Kept.{Keeps}
use Rattle.session_core.specs.Value.{kept_of, SessionValue}
use Rattle.session_core.proofs.TakingBack.{goal_back, step_back}
use Rattle.session_core.proofs.sessions.Session.undo.Goals as goal

pub returns-in-Goal : goal.returns-in-Goal
returns-in-Goal g c =
    let above = g.O.TermOrder.above c.args.admitted.now.order in
    let spec = c.args.admitted.now.spec in
    let is : c.args.self.now.commands ≡ c.pop.new.self.items ++ c.in-Some.command ∷ [] =
    ap (λ (v : SessionValue). v.commands) (sym c.self.view_is) ∙ c.in-Some.ensures.items in
    let kept : map kept_of c.self.inside.goals.items ≡ c.args.self.now.goals =
    ap (λ (v : SessionValue). v.goals) c.self.view_is in
    let state : IsStateOf above spec (c.pop.new.self.items ++ c.in-Some.command ∷ []) c.requires.state =
    subst (λ cs. IsStateOf above spec cs c.requires.state) is c.requires.is_state in
    let b = goal_back above spec c.pop.new.self.items c.requires.state c.args.self.now.goals c.requires.keeps
    c.in-Some.command state c.in-Goal.field-0 c.in-Goal.is in
    let left : map kept_of c.drop_last.new.goals.items ≡ b.front = c.drop_last.ensures b.front b.last (kept ∙ b.is) in (
      (c.in-Some.command, is),
      (
        record {
          state = b.old;
          is_state = b.is_state;
          keeps = subst (λ gs. Keeps above spec b.old gs) (sym left)
              b.keeps_old;
        },
        b.none,
      ),
    )

pub take_step_back-requires : goal.take_step_back-requires
take_step_back-requires g c =
    let above = g.O.TermOrder.above c.args.admitted.now.order in
    let spec = c.args.admitted.now.spec in
    let fine : IsWellSorted spec = rw (← c.admitted.view_is) c.admitted.invariant.0 in
    let one : OneRelation above = rw (← c.admitted.view_is) c.one_relation.ensures in
    let is : c.args.self.now.commands ≡ c.pop.new.self.items ++ c.in-Some.command ∷ [] =
    ap (λ (v : SessionValue). v.commands) (sym c.self.view_is) ∙ c.in-Some.ensures.items in
    let kept : c.args.self.now.goals ≡ map kept_of c.self.inside.goals.items =
    ap (λ (v : SessionValue). v.goals) (sym c.self.view_is) in
    let state : IsStateOf above spec (c.pop.new.self.items ++ c.in-Some.command ∷ []) c.requires.state =
    subst (λ cs. IsStateOf above spec cs c.requires.state) is c.requires.is_state in
    let keeps : Keeps above spec c.requires.state (map kept_of c.self.inside.goals.items) =
    subst (λ gs. Keeps above spec c.requires.state gs) kept c.requires.keeps in
    (step_back above spec c.pop.new.self.items c.requires.state (map kept_of c.self.inside.goals.items) keeps one fine
    c.in-Some.command state c.in_default-command.not-Goal).last

pub returns : goal.returns
returns g c =
    let above = g.O.TermOrder.above c.args.admitted.now.order in
    let spec = c.args.admitted.now.spec in
    let fine : IsWellSorted spec = rw (← c.admitted.view_is) c.admitted.invariant.0 in
    let one : OneRelation above = rw (← c.admitted.view_is) c.one_relation.ensures in
    let is : c.args.self.now.commands ≡ c.pop.new.self.items ++ c.in-Some.command ∷ [] =
    ap (λ (v : SessionValue). v.commands) (sym c.self.view_is) ∙ c.in-Some.ensures.items in
    let kept : c.args.self.now.goals ≡ map kept_of c.self.inside.goals.items =
    ap (λ (v : SessionValue). v.goals) (sym c.self.view_is) in
    let state : IsStateOf above spec (c.pop.new.self.items ++ c.in-Some.command ∷ []) c.requires.state =
    subst (λ cs. IsStateOf above spec cs c.requires.state) is c.requires.is_state in
    let keeps : Keeps above spec c.requires.state (map kept_of c.self.inside.goals.items) =
    subst (λ gs. Keeps above spec c.requires.state gs) kept c.requires.keeps in
    let b = step_back above spec c.pop.new.self.items c.requires.state (map kept_of c.self.inside.goals.items) keeps
    one fine c.in-Some.command state c.in_default-command.not-Goal in
    let left = c.take_step_back.ensures b.last in (
      (c.in-Some.command, is),
      (
        record {
          state = b.old;
          is_state = b.is_state;
          keeps = subst (λ gs. Keeps above spec b.old gs) (sym left.0)
              b.keeps_old;
        },
        left.1 ∙ b.pends,
      ),
    )
