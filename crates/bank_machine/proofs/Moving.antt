-- Each move of the machine keeps what its state gives.
use Rattle.std.proofs.Common.{◌≡◌, ℕ, suc, ◌+◌, ◌≤◌, List, [], ◌∷◌, ◌++◌, Some, refl, sym, ◌∙◌, subst, arith, ap}
use Rattle.std.proofs.Common.{length}
use Rattle.std.specs.Prelude.{slice_get}
use Rattle.term_core.specs.Tree.{Tree, Trees, var, app, instance}
use Rattle.spec_core.specs.declared.records.Rule.{Rule}
use Rattle.spec_core.specs.declared.records.Spec.{Spec}
use Rattle.spec_core.specs.Sig.{IsConstructor}
use Rattle.spec_core.specs.Sorts.{AreBuilt}
use Rattle.spec_core.specs.WellSorted.{IsWellSorted, sorts_of}
use Rattle.term_core.specs.Variables.{Numbered}
use Rattle.spec_core.specs.Overlap.{NoOverlap}
use Rattle.spec_core.specs.Groups.{GroupsAreWhole}
use Rattle.spec_core.specs.Gives.{Gives}
use Rattle.spec_core.proofs.Values.{no_match, call_costs}
use Rattle.spec_core.proofs.Guarded.{call_by, call_makes, guards_same, both_match}
use Rattle.spec_core.proofs.Determined.{one_rule, determined}
use Rattle.rule_code.specs.Code.{Step, build, call, End, slot, last, decide, slots, entries, Does}
use Rattle.rule_code.specs.Tests.{GoesOn, IsPending, IsDecided}
use Rattle.bank_machine.specs.States.{Frame, StateGives, Enters, builds, enters, enters_last, returns, recalls}
use Rattle.bank_machine.specs.States.{CallsIn, decides, NoneGoesIn}
use Rattle.bank_machine.specs.Laws.{MovesAreRight, MovesAreWhole, AtItsEnd, CallsCost, NoMatchGivesNothing}
use Rattle.bank_machine.specs.Laws.{NoneGoesOnGivesNothing}
use Rattle.bank_machine.proofs.Asked.{goes_along, goes_both}
use Rattle.bank_machine.proofs.Pending.{pending_right, pending_whole}

module _ (spec : Spec) (fine : IsWellSorted spec) (f : ℕ) (vs : Trees) (entered : Frame)
    (e : Enters spec f vs entered) where
  -- what the entered frame does, the call gives with one more rule use
  pub entered_right : (u : Tree) (m : ℕ) → Does spec entered.env entered.steps entered.end u m →
      Gives spec (app f vs) u (1 + m)
  entered_right u m d =
      let p = pending_right spec fine e.homes e.number e.rule entered.env e.xs 0 entered.steps entered.end u m
      e.listed e.fills e.code d in
      let is : instance e.xs p.next.left ≡ app f vs = ap (λ t. instance e.xs t) p.left ∙ e.matches in
      let r = call_makes spec fine f vs p.number p.next e.xs e.built p.listed
      (subst (λ t. Numbered 0 t (length e.xs)) (sym p.left) e.numbered) is p.rest p.right in
      let k : 1 + p.guards + p.more ≡ 1 + m = omega (arith, p.cost) in
      subst (λ x. Gives spec (app f vs) u x) k r

  -- and what the call gives, it does at one rule use less
  pub entered_whole : NoOverlap spec → GroupsAreWhole spec → (u : Tree) (m : ℕ) → Gives spec (app f vs) u m →
      (k : ℕ) × Does spec entered.env entered.steps entered.end u k × (m ≡ 1 + k)
  entered_whole apart whole u m g =
      let c = call_by spec fine f vs e.function e.built g in
      let b = both_match spec fine apart f vs e.sorted.0 e.number c.number e.rule c.rule e.xs c.values e.built
      e.sorted.1 e.listed c.listed e.matches c.is in
      let back = both_match spec fine apart f vs e.sorted.0 c.number e.number c.rule e.rule c.values e.xs
      e.built e.sorted.1 c.listed e.listed c.is e.matches in
      let there = fine.rules c.number c.rule c.listed in
      let rest = guards_same spec e.xs (sorts_of c.rule.vars) there.guards back.same c.hold in
      let right : Gives spec (instance e.xs c.rule.right) u c.more = subst (λ t. Gives spec t u c.more)
      (back.same c.rule.right there.sides.0 there.sides.2) c.right in
      let p : IsPending spec e.xs e.rule 0 u (c.guards + c.more) = record {
        number = c.number;
        next = c.rule;
        guards = c.guards;
        more = c.more;
        listed = c.listed;
        left = sym b.lefts;
        begins = tt;
        rest = rest;
        right = right;
        cost = refl;
      } in (
        c.guards + c.more,
        pending_whole spec fine e.homes e.number e.rule entered.env e.xs 0 entered.steps
            entered.end u (c.guards + c.more) whole e.listed e.fills e.code p,
        omega (arith, c.cost),
      )

pub move_right : MovesAreRight
move_right spec s next c w n fine (builds) g =
    let k : n ≡ 0 + n = omega arith in
    subst (λ x. StateGives spec s w x) k g
move_right spec s next c w n fine (enters {env} {f} {ss} {steps} {end} entered e) (
  u,
  m,
  k,
  d,
  (u₂, m₂, k₂, d₂, r, q),
  is,
) =
    let g = entered_right spec fine f (slots env ss) entered e u m d in
    (u₂, (1 + m) + m₂, k₂, (u, 1 + m, m₂, g, d₂, refl), r, omega (arith, q, is))
move_right spec s next c w n fine (enters_last {env} {f} {ss} entered e) (u, m, k, d, r, is) =
    let g = entered_right spec fine f (slots env ss) entered e u m d in
    (u, 1 + m, k, g, r, omega (arith, is))
move_right spec s next c w n fine (decides {env} {s = i} {number} {k = j} {homes} entered f) (u, m, k, d, r, is) =
    let q = pending_right spec fine homes f.other f.next entered.env (entries env homes) (suc j) entered.steps
    entered.end u m f.there f.fills f.code d in
    let e : IsDecided spec (entries env homes) f.rule j (instance env (var i)) u
    m = record {
      number = q.number;
      next = q.next;
      guards = q.guards;
      more = q.more;
      listed = q.listed;
      left = q.left ∙ f.left;
      on = goes_along j (instance env (var i)) f.rule.guards f.next.guards
          q.next.guards f.on q.begins;
      rest = q.rest;
      right = q.right;
      cost = q.cost;
    } in
    (u, m, k, (f.rule, f.listed, e), r, omega (arith, is))
move_right spec s next c w n fine (recalls v a so p g) (u, m, k, d, r, is) = (
  u,
  a + m,
  k,
  (v, a, m, g, d, refl),
  r,
  omega (arith, is),
)
move_right spec s next c w n fine (returns {env} {s = i} {waiting} back) (
  u,
  m,
  k,
  d,
  r,
  is,
) = (instance env (var i), 0, m + k, (refl, refl), (u, m, k, d, r, refl), omega (arith, is))

pub move_whole : MovesAreWhole
move_whole spec s next c w n fine apart whole (builds) g = (n, g, omega arith)
move_whole spec s next c w n fine apart whole (enters {env} {f} {ss} {steps} {end} entered e) (
  u₂,
  m,
  k₂,
  (u, i, j, g, d₂, q),
  r,
  is,
) =
    let b = entered_whole spec fine f (slots env ss) entered e apart whole u i g in
    (b.0 + (j + k₂), (u, b.0, j + k₂, b.1, (u₂, j, k₂, d₂, r, refl), refl), omega (arith, is, q, b.2))
move_whole spec s next c w n fine apart whole (enters_last {env} {f} {ss} entered e) (u, m, k, g, r, is) =
    let b = entered_whole spec fine f (slots env ss) entered e apart whole u m g in
    (b.0 + k, (u, b.0, k, b.1, r, refl), omega (arith, is, b.2))
move_whole spec s next c w n fine apart whole (decides {env} {s = i} {number} {k = j} {homes} entered f) (
  u,
  m,
  k,
  (rule, at, e),
  r,
  is,
) =
    let same : rule ≡ f.rule = one_rule spec.rules number number rule f.rule at f.listed refl in
    let on : GoesOn j (instance env (var i)) f.rule.guards e.next.guards = subst
    (λ (x : Rule). GoesOn j (instance env (var i)) x.guards e.next.guards) same e.on in
    let q : IsPending spec (entries env homes) f.next (suc j) u
    m = record {
      number = e.number;
      next = e.next;
      guards = e.guards;
      more = e.more;
      listed = e.listed;
      left = e.left ∙ ap (λ (x : Rule). x.left) same ∙ sym f.left;
      begins = goes_both j (instance env (var i))
          f.rule.guards f.next.guards e.next.guards f.on on;
      rest = e.rest;
      right = e.right;
      cost = e.cost;
    } in (
      n,
      (
        u,
        m,
        k,
        pending_whole spec fine homes f.other f.next entered.env (entries env homes) (suc j)
            entered.steps entered.end u m whole f.there f.fills f.code q,
        r,
        is,
      ),
      omega arith,
    )
move_whole spec s next c w n fine apart whole (recalls {env} {steps} {end} v a so p g) (
  u,
  m,
  k,
  (v₂, i, j, g₂, d₂, q),
  r,
  is,
) =
    let one = determined spec fine apart whole g so p g₂ in (
      j + k,
      (u, j, k, subst (λ x. Does spec (env ++ x ∷ []) steps end u j) (sym one.0) d₂, r, refl),
      omega (arith, is, q, one.1),
    )
move_whole spec s next c w n fine apart whole (returns {env} {s = i} {waiting} back) (
  v,
  m,
  k,
  (ve, me),
  (u, a, b, d, r, q),
  is,
) = (
  a + b,
  (u, a, b, subst (λ x. Does spec (back.env ++ x ∷ []) back.steps back.end u a) ve d, r, refl),
  omega (arith, is, me, q),
)

pub at_its_end : AtItsEnd
at_its_end spec env i w n = (
  λ g. (g.4.0 ∙ g.3.0, omega (arith, g.3.1, g.4.1, g.5)),
  λ h. (w, 0, 0, (h.0, refl), (refl, refl), omega (arith, h.1)),
)

calls_cost : (spec : Spec) (fine : IsWellSorted spec) (env : List Tree) (steps : List Step) (end : End) (f : ℕ)
    (vs : Trees) (u : Tree) (m : ℕ) → ¬ (IsConstructor spec.sig f) → CallsIn spec env steps end f vs →
    Does spec env steps end u m → 1 ≤ m
calls_cost spec fine env [] (slot s) f vs u m other c d = absurd c
calls_cost spec fine env [] (decide s number k homes) f vs u m other c d = absurd c
calls_cost spec fine env [] (last g ss) f vs u m other c d = call_costs spec fine f (slots env ss) other
    (subst (λ x. Gives spec (app x (slots env ss)) u m) c.0 d)
calls_cost spec fine env (build g ss ∷ steps) end f vs u m other c d = absurd c
calls_cost spec fine env (call g ss ∷ steps) end f vs u m other c d = omega (
  arith,
  d.5,
  call_costs spec fine f (slots env ss) other (subst (λ x. Gives spec (app x (slots env ss)) d.0 d.1) c.0 d.3),
)

pub call_next_costs : CallsCost
call_next_costs spec s f vs w n fine other c g = omega (
  arith,
  g.5,
  calls_cost spec fine s.top.env s.top.steps s.top.end f vs g.0 g.1 other c g.3,
)

nothing : (spec : Spec) (fine : IsWellSorted spec) (env : List Tree) (steps : List Step) (end : End) (f : ℕ)
    (vs : Trees) (u : Tree) (m : ℕ) → ¬ (IsConstructor spec.sig f) → AreBuilt spec.sig vs →
    ((k : ℕ) (rule : Rule) (xs : List Tree) → slice_get spec.rules k ≡ Some rule →
    instance xs rule.left ≡ app f vs → ⊥) → CallsIn spec env steps end f vs → Does spec env steps end u m → ⊥
nothing spec fine env [] (slot s) f vs u m other b none c d = absurd c
nothing spec fine env [] (decide s number k homes) f vs u m other b none c d = absurd c
nothing spec fine env [] (last g ss) f vs u m other b none c d =
    no_match spec fine f vs other b none
    (subst (λ x. Gives spec (app f x) u m) c.1 (subst (λ x. Gives spec (app x (slots env ss)) u m) c.0 d))
nothing spec fine env (build g ss ∷ steps) end f vs u m other b none c d = absurd c
nothing spec fine env (call g ss ∷ steps) end f vs u m other b none c d =
    no_match spec fine f vs other b none
    (subst (λ x. Gives spec (app f x) d.0 d.1) c.1 (subst (λ x. Gives spec (app x (slots env ss)) d.0 d.1) c.0 d.3))

pub no_match_nothing : NoMatchGivesNothing
no_match_nothing spec s f vs w n fine other b none c g = nothing spec fine s.top.env s.top.steps s.top.end f vs
    g.0 g.1 other b none c g.3

none_goes : (spec : Spec) (env : List Tree) (steps : List Step) (end : End) (u : Tree) (m : ℕ) →
    NoneGoesIn spec env steps end → Does spec env steps end u m → ⊥
none_goes spec env [] (slot s) u m h d = absurd h
none_goes spec env [] (last g ss) u m h d = absurd h
none_goes spec env [] (decide s number k homes) u m h (rule, at, q) = h rule q.next q.number at q.listed q.left q.on
none_goes spec env (step ∷ steps) end u m h d = absurd h

pub none_goes_nothing : NoneGoesOnGivesNothing
none_goes_nothing spec s w n h g = none_goes spec s.top.env s.top.steps s.top.end g.0 g.1 h g.3
