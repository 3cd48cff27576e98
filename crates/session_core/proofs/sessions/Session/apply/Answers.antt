use Rattle.std.proofs.Common.{◌≡◌, ◌∙◌, ◌++◌, ◌∷◌, [], List, Err, ap, map, refl, sym, subst}
use Rattle.std.proofs.lemmas.Result.{err_from_is_err_and}
use Rattle.spec_core.specs.WellSorted.{IsWellSorted}
use Rattle.clause_core.specs.ClauseLaws.{OneRelation}
use Rattle.session_core.specs.declared.commands.Command.{Command}
use Rattle.session_core.specs.Kept.{Keeps}
use Rattle.session_core.specs.Sessions.{IsStateOf}
use Rattle.session_core.specs.States.{start}
use Rattle.session_core.specs.Taking.{CarriesOut, KeepsSound}
use Rattle.session_core.specs.Value.{kept_of, SessionValue}
use Rattle.session_core.proofs.Applied.{applies_error}
use Rattle.session_core.proofs.OneState.{lead_more}
use Rattle.session_core.proofs.Sound.{states_sound}
use Rattle.session_core.proofs.sessions.Session.apply.Goals as goal

pub returns-in_err-copy : goal.returns-in_err-copy
returns-in_err-copy g c =
    let p = err_from_is_err_and c.from_residual.result c.from_residual.ensures.1 in
    rw (p.1, p.2) refl

pub returns-in_err-push_command : goal.returns-in_err-push_command
returns-in_err-push_command g c =
    let p = err_from_is_err_and c.from_residual-in_err-push_command.result
    c.from_residual-in_err-push_command.ensures.1 in
    let same : c.push_command.new.commands.items ≡ c.self.inside.commands.items =
    c.in_err-push_command.ensures.same in
    let inside : ◌≡◌ {A = SessionValue} (record {
      commands = c.push_command.new.commands.items;
      goals =
          map kept_of c.self.inside.goals.items;
    }) (record {
      commands = c.self.inside.commands.items;
      goals =
          map kept_of c.self.inside.goals.items;
    }) = (λ i. record {
      commands = same i;
      goals =
          map kept_of c.self.inside.goals.items;
    }) in
    rw (p.1, p.2) (inside ∙ c.self.view_is)

pub carry_out-requires-clause-change : goal.carry_out-requires-clause-change
carry_out-requires-clause-change g c = c.requires.change

pub carry_out-requires-clause-carried : goal.carry_out-requires-clause-carried
carry_out-requires-clause-carried g c =
    let above = g.O.TermOrder.above c.args.admitted.now.order in
    let spec = c.args.admitted.now.spec in
    let fine : IsWellSorted c.args.admitted.now.spec = rw (← c.admitted.view_is) c.admitted.invariant.0 in
    let one : OneRelation (g.O.TermOrder.above c.args.admitted.now.order) =
    rw (← c.admitted.view_is) c.one_relation.ensures in
    let commands : c.self.inside.commands.items ≡ c.args.self.now.commands =
    ap (λ (v : SessionValue). v.commands) c.self.view_is in
    let kept : map kept_of c.self.inside.goals.items ≡ c.args.self.now.goals =
    ap (λ (v : SessionValue). v.goals) c.self.view_is in
    let its = c.requires.carried in
    let k : KeepsSound above spec its.state (map kept_of c.self.inside.goals.items) = record {
      sound =
          states_sound above spec c.args.self.now.commands its.state its.is_state;
      keeps =
          subst (λ gs. Keeps above spec its.state gs) (sym kept) its.keeps;
    } in
    (its.state, k)

pub returns-in-Ok : goal.returns-in-Ok
returns-in-Ok g c =
    let above = g.O.TermOrder.above c.args.admitted.now.order in
    let spec = c.args.admitted.now.spec in
    let fine : IsWellSorted c.args.admitted.now.spec = rw (← c.admitted.view_is) c.admitted.invariant.0 in
    let one : OneRelation (g.O.TermOrder.above c.args.admitted.now.order) =
    rw (← c.admitted.view_is) c.one_relation.ensures in
    let commands : c.self.inside.commands.items ≡ c.args.self.now.commands =
    ap (λ (v : SessionValue). v.commands) c.self.view_is in
    let kept : map kept_of c.self.inside.goals.items ≡ c.args.self.now.goals =
    ap (λ (v : SessionValue). v.goals) c.self.view_is in
    let its = c.requires.carried in
    let k : KeepsSound above spec its.state (map kept_of c.self.inside.goals.items) = record {
      sound =
          states_sound above spec c.args.self.now.commands its.state its.is_state;
      keeps =
          subst (λ gs. Keeps above spec its.state gs) (sym kept) its.keeps;
    } in
    let pushed : c.push_command.new.commands.items ≡ c.args.self.now.commands ++ c.args.command.now ∷ [] =
    c.in_ok-push_command.ensures.pushed ∙ ap (λ (cs : List Command). cs ++ c.in_ok-copy.copy ∷ []) commands ∙
    ap (λ (x : Command). c.args.self.now.commands ++ x ∷ []) c.in_ok-copy.ensures in
    let done = c.in-Ok.ensures its.state k in
    let lead = lead_more above spec start c.args.self.now.commands its.state done.0 c.args.command.now its.is_state
    done.1 in (
      pushed,
      (
        record {
          state = done.0;
          is_state = subst (λ cs. IsStateOf above spec cs done.0) (sym pushed) lead;
          keeps =
              done.2;
        },
        done.3,
      ),
    )

pub returns-in-Err : goal.returns-in-Err
returns-in-Err g c =
    let above = g.O.TermOrder.above c.args.admitted.now.order in
    let spec = c.args.admitted.now.spec in
    let fine : IsWellSorted c.args.admitted.now.spec = rw (← c.admitted.view_is) c.admitted.invariant.0 in
    let one : OneRelation (g.O.TermOrder.above c.args.admitted.now.order) =
    rw (← c.admitted.view_is) c.one_relation.ensures in
    let commands : c.self.inside.commands.items ≡ c.args.self.now.commands =
    ap (λ (v : SessionValue). v.commands) c.self.view_is in
    let kept : map kept_of c.self.inside.goals.items ≡ c.args.self.now.goals =
    ap (λ (v : SessionValue). v.goals) c.self.view_is in
    let its = c.requires.carried in
    let k : KeepsSound above spec its.state (map kept_of c.self.inside.goals.items) = record {
      sound =
          states_sound above spec c.args.self.now.commands its.state its.is_state;
      keeps =
          subst (λ gs. Keeps above spec its.state gs) (sym kept) its.keeps;
    } in
    let back : c.drop_command.new.commands.items ≡ c.args.self.now.commands =
    c.drop_command.ensures c.self.inside.commands.items c.in_ok-copy.copy c.in_ok-push_command.ensures.pushed ∙
    commands in
    let stops : CarriesOut above spec its.state c.args.command.now c.args.self.now.goals (map kept_of
    c.carry_out.new.goals.items) (Err c.in-Err.error) =
    subst (λ gs. CarriesOut above spec its.state c.args.command.now gs (map kept_of c.carry_out.new.goals.items)
    (Err c.in-Err.error)) kept (c.in-Err.ensures its.state k) in
    applies_error above spec fine one c.args.self.now (record {
      commands = c.drop_command.new.commands.items;
      goals =
          map kept_of c.carry_out.new.goals.items;
    }) c.args.command.now its.state its.is_state (map kept_of
    c.carry_out.new.goals.items) refl back c.in-Err.error stops
