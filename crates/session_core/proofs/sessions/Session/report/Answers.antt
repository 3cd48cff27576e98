use Rattle.std.proofs.Common.{◌≡◌, ◌∙◌, ap, map, sym, subst}
use Rattle.spec_core.specs.WellSorted.{IsWellSorted}
use Rattle.clause_core.specs.declared.reports.Report.{Report}
use Rattle.clause_core.specs.ClauseLaws.{OneRelation}
use Rattle.acceptance.specs.Accepting.{IsAccepted}
use Rattle.session_core.specs.Kept.{Keeps}
use Rattle.session_core.specs.Sound.{report_of}
use Rattle.session_core.specs.States.{State, start}
use Rattle.session_core.specs.Taking.{HasOpenLast, KeepsSound}
use Rattle.session_core.specs.Value.{kept_of, SessionValue}
use Rattle.session_core.specs.Written.{BeginWithClaims}
use Rattle.session_core.proofs.OneState.{lead_one}
use Rattle.session_core.proofs.ReportedStates.{claims_told}
use Rattle.session_core.proofs.Sound.{states_sound}
use Rattle.session_core.proofs.sessions.Session.report.Goals as goal

pub claims_of-requires : goal.claims_of-requires
claims_of-requires g c =
    let above = g.O.TermOrder.above c.args.admitted.now.order in
    let spec = c.args.admitted.now.spec in
    let fine : IsWellSorted c.args.admitted.now.spec = rw (← c.admitted.view_is) c.admitted.invariant.0 in
    let one : OneRelation (g.O.TermOrder.above c.args.admitted.now.order) =
    rw (← c.admitted.view_is) c.one_relation.ensures in
    let its = c.requires.carried in
    let kept : map kept_of c.self.inside.goals.items ≡ c.args.self.now.goals =
    ap (λ (v : SessionValue). v.goals) c.self.view_is in
    let k : KeepsSound above spec its.state (map kept_of c.self.inside.goals.items) = record {
      sound =
          states_sound above spec c.args.self.now.commands its.state its.is_state;
      keeps =
          subst (λ gs. Keeps above spec its.state gs) (sym kept) its.keeps;
    } in
    let goals : map kept_of c.as_slice.result.now ≡ map kept_of c.self.inside.goals.items =
    ap (map kept_of) c.as_slice.ensures.value in
    let fin = map kept_of c.finished-goals.result.now in
    let told = claims_told above spec fine one its.state (map kept_of c.self.inside.goals.items) k
    c.args.self.now.commands its.is_state fin
    (subst (λ gs. (h : HasOpenLast gs) → fin ≡ h.front) goals c.finished-goals.ensures.before)
    (λ n. ap (map kept_of) (c.finished-goals.ensures.all (λ h. n (subst HasOpenLast goals h))) ∙ goals) in
    let written : c.args.self.now.commands ≡ c.as_slice-2.result.now =
    ap (λ (v : SessionValue). v.commands) (sym c.self.view_is) ∙ sym c.as_slice-2.ensures.value in
    let begin = subst (λ cs. (b : BeginWithClaims cs fin) × (b.claims ≡ its.state.claims)) written told in
    begin.0

pub returns-clause-report : goal.returns-clause-report
returns-clause-report g c = λ state is.
    let above = g.O.TermOrder.above c.args.admitted.now.order in
    let spec = c.args.admitted.now.spec in
    let fine : IsWellSorted c.args.admitted.now.spec = rw (← c.admitted.view_is) c.admitted.invariant.0 in
    let one : OneRelation (g.O.TermOrder.above c.args.admitted.now.order) =
    rw (← c.admitted.view_is) c.one_relation.ensures in
    let its = c.requires.carried in
    let kept : map kept_of c.self.inside.goals.items ≡ c.args.self.now.goals =
    ap (λ (v : SessionValue). v.goals) c.self.view_is in
    let k : KeepsSound above spec its.state (map kept_of c.self.inside.goals.items) = record {
      sound =
          states_sound above spec c.args.self.now.commands its.state its.is_state;
      keeps =
          subst (λ gs. Keeps above spec its.state gs) (sym kept) its.keeps;
    } in
    let goals : map kept_of c.as_slice.result.now ≡ map kept_of c.self.inside.goals.items =
    ap (map kept_of) c.as_slice.ensures.value in
    let fin = map kept_of c.finished-goals.result.now in
    let told = claims_told above spec fine one its.state (map kept_of c.self.inside.goals.items) k
    c.args.self.now.commands its.is_state fin
    (subst (λ gs. (h : HasOpenLast gs) → fin ≡ h.front) goals c.finished-goals.ensures.before)
    (λ n. ap (map kept_of) (c.finished-goals.ensures.all (λ h. n (subst HasOpenLast goals h))) ∙ goals) in
    let written : c.args.self.now.commands ≡ c.as_slice-2.result.now =
    ap (λ (v : SessionValue). v.commands) (sym c.self.view_is) ∙ sym c.as_slice-2.ensures.value in
    let begin = subst (λ cs. (b : BeginWithClaims cs fin) × (b.claims ≡ its.state.claims)) written told in
    let same : its.state ≡ state = lead_one above spec one fine start c.args.self.now.commands its.state state
    its.is_state is in
    let claims : c.from_vec.result ≡ state.claims = c.from_vec.ensures ∙ c.in_ok-claims.ensures begin.0 ∙ begin.1 ∙
    ap (λ (s : State). s.claims) same in
    λ i. record { steps = c.args.steps; claims = claims i }

pub returns-clause-accepted : goal.returns-clause-accepted
returns-clause-accepted g c =
    let above = g.O.TermOrder.above c.args.admitted.now.order in
    let spec = c.args.admitted.now.spec in
    let fine : IsWellSorted c.args.admitted.now.spec = rw (← c.admitted.view_is) c.admitted.invariant.0 in
    let one : OneRelation (g.O.TermOrder.above c.args.admitted.now.order) =
    rw (← c.admitted.view_is) c.one_relation.ensures in
    let its = c.requires.carried in
    let kept : map kept_of c.self.inside.goals.items ≡ c.args.self.now.goals =
    ap (λ (v : SessionValue). v.goals) c.self.view_is in
    let k : KeepsSound above spec its.state (map kept_of c.self.inside.goals.items) = record {
      sound =
          states_sound above spec c.args.self.now.commands its.state its.is_state;
      keeps =
          subst (λ gs. Keeps above spec its.state gs) (sym kept) its.keeps;
    } in
    let goals : map kept_of c.as_slice.result.now ≡ map kept_of c.self.inside.goals.items =
    ap (map kept_of) c.as_slice.ensures.value in
    let fin = map kept_of c.finished-goals.result.now in
    let told = claims_told above spec fine one its.state (map kept_of c.self.inside.goals.items) k
    c.args.self.now.commands its.is_state fin
    (subst (λ gs. (h : HasOpenLast gs) → fin ≡ h.front) goals c.finished-goals.ensures.before)
    (λ n. ap (map kept_of) (c.finished-goals.ensures.all (λ h. n (subst HasOpenLast goals h))) ∙ goals) in
    let written : c.args.self.now.commands ≡ c.as_slice-2.result.now =
    ap (λ (v : SessionValue). v.commands) (sym c.self.view_is) ∙ sym c.as_slice-2.ensures.value in
    let begin = subst (λ cs. (b : BeginWithClaims cs fin) × (b.claims ≡ its.state.claims)) written told in
    let claims : c.from_vec.result ≡ its.state.claims = c.from_vec.ensures ∙ c.in_ok-claims.ensures begin.0 ∙
    begin.1 in
    let is : ◌≡◌ {A = Report} (report_of c.args.steps its.state) (record {
      steps = c.args.steps;
      claims =
          c.from_vec.result;
    }) = (λ i. record { steps = c.args.steps; claims = sym claims i }) in
    subst (λ r. IsAccepted above spec r) is (k.sound.accepted c.args.steps)
