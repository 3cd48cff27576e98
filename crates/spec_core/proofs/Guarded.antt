-- Calls with values by rules with guards.
use Rattle.std.proofs.Common.{◌≡◌, ℕ, ◌+◌, List, [], Some, refl, ap, sym, ◌∙◌, subst, arith, length}
use Rattle.std.specs.Prelude.{slice_get}
use Rattle.std.specs.List.{AllByRecursion}
use Rattle.term_core.specs.Tree.{Tree, Trees, app, instance}
use Rattle.term_core.specs.declared.ids.SortId.{SortId}
use Rattle.spec_core.specs.declared.records.Rule.{Rule}
use Rattle.spec_core.specs.declared.records.Guard.{Guard}
use Rattle.spec_core.specs.declared.records.Spec.{Spec}
use Rattle.spec_core.specs.Sig.{IsConstructor}
use Rattle.spec_core.specs.Sorts.{Sorted, AreBuilt}
use Rattle.spec_core.specs.Gives.{Gives, GivesGuards, built, called, no_guards, more_guards, boolean}
use Rattle.term_core.specs.Variables.{Numbered}
use Rattle.spec_core.specs.WellSorted.{IsWellSorted, sorts_of}
use Rattle.spec_core.specs.Overlap.{NoOverlap}
use Rattle.spec_core.specs.Groups.{GroupsAreWhole}
use Rattle.spec_core.specs.Declarations.{bool_sort}
use Rattle.spec_core.proofs.Groups.{one_member}
use Rattle.spec_core.proofs.Determined.{agreeing, one_cost, same_by_left, sorted_by_left, in_its_group, one_rule}
use Rattle.spec_core.proofs.Values.{built_give, built_all_only, env_built}

-- the rule by which a call with values has its value
pub record CallBy (spec : Spec) (f : ℕ) (vs : Trees) (v : Tree) (n : ℕ) : Type 0 where
  pub number : ℕ
  pub rule : Rule
  pub values : List Tree
  pub guards : ℕ
  pub more : ℕ
  pub listed : slice_get spec.rules number ≡ Some rule
  pub is : instance values rule.left ≡ app f vs
  pub hold : GivesGuards spec values rule.guards guards
  pub right : Gives spec (instance values rule.right) v more
  pub cost : n ≡ 1 + guards + more

module _ (spec : Spec) (fine : IsWellSorted spec) where
  pub call_by : (f : ℕ) (vs : Trees) → ¬ (IsConstructor spec.sig f) → AreBuilt spec.sig vs →
      {v : Tree} {n : ℕ} → Gives spec (app f vs) v n → CallBy spec f vs v n
  call_by f vs other b (built c others) = absurd (other c)
  call_by f vs other b (called {vs = ws} {n = i} {g} {k} {m} number rule values all at bs is gs right cost) =
      let r = built_all_only spec fine all b in
      record {
        number = number;
        rule = rule;
        values = values;
        guards = g;
        more = k;
        listed = at;
        is = is ∙ ap (λ us. app f us) r.0;
        hold = gs;
        right = right;
        cost = omega (arith, r.1);
      }

  pub call_makes : (f : ℕ) (vs : Trees) (k : ℕ) (rule : Rule) (xs : List Tree) → AreBuilt spec.sig vs →
      slice_get spec.rules k ≡ Some rule → Numbered 0 rule.left (length xs) → instance xs rule.left ≡ app f vs →
      {g : ℕ} → GivesGuards spec xs rule.guards g → {v : Tree} {n : ℕ} →
      Gives spec (instance xs rule.right) v n → Gives spec (app f vs) v (1 + g + n)
  call_makes f vs k rule xs b at h is {g} gs {n = n} right = called k rule xs (built_give spec vs b)
      at (env_built spec.sig rule.left f vs xs (fine.rules k rule at).left h is b) is gs right (omega arith)

module _ (spec : Spec) where
  pub guards_same : {xs : List Tree} {gs : List Guard} {g : ℕ} (ys : List Tree) (ctx : List SortId) →
      AllByRecursion (λ (g : Guard). Sorted spec.sig ctx g.test bool_sort) gs →
      ((t : Tree) (s : SortId) → Sorted spec.sig ctx t s → instance xs t ≡ instance ys t) →
      GivesGuards spec xs gs g → GivesGuards spec ys gs g
  guards_same ys ctx fs same no_guards = no_guards
  guards_same ys ctx fs same (more_guards {guard} {n} one more m) = more_guards
      (subst (λ t. Gives spec t (boolean guard.wanted) n) (same guard.test bool_sort fs.0) one)
      (guards_same ys ctx fs.1 same more) m

-- two matches of one call
pub record BothMatch (spec : Spec) (rule other : Rule) (xs ys : List Tree) (s : SortId) : Type 0 where
  pub lefts : rule.left ≡ other.left
  pub keep : (t : Tree) (u : SortId) → Sorted spec.sig (sorts_of rule.vars) t u → Sorted spec.sig [] (instance xs t) u
  pub same : (t : Tree) (u : SortId) → Sorted spec.sig (sorts_of rule.vars) t u → instance xs t ≡ instance ys t

module _ (spec : Spec) (fine : IsWellSorted spec) (apart : NoOverlap spec) where
  pub both_match : (f : ℕ) (vs : Trees) (s : SortId) (k j : ℕ) (rule other : Rule) (xs ys : List Tree) →
      AreBuilt spec.sig vs → Sorted spec.sig [] (app f vs) s → slice_get spec.rules k ≡ Some rule →
      slice_get spec.rules j ≡ Some other → instance xs rule.left ≡ app f vs →
      instance ys other.left ≡ app f vs → BothMatch spec rule other xs ys s
  both_match f vs s k j rule other xs ys b p at at' is is' =
      let lefts : rule.left ≡ other.left = apart k j rule other f p.0 vs xs ys at at' p.1 p.3 b is is' in
      let here = fine.rules k rule at in
      let left : Sorted spec.sig [] (instance xs rule.left) s = rw is p in
      let both : instance xs rule.left ≡ instance ys rule.left = is ∙ sym is' ∙ ap (λ t. instance ys t) (sym lefts) in
      record {
        lefts = lefts;
        keep = sorted_by_left spec.sig rule s xs here left;
        same = same_by_left spec.sig rule xs ys here both;
      }

module _ (spec : Spec) (fine : IsWellSorted spec) (apart : NoOverlap spec) (whole : GroupsAreWhole spec) where
  -- a value of the call is one of the right side under a match whose guards hold
  pub call_only : (f : ℕ) (vs : Trees) (s : SortId) (k : ℕ) (rule : Rule) (xs : List Tree) (g : ℕ) →
      ¬ (IsConstructor spec.sig f) → AreBuilt spec.sig vs → Sorted spec.sig [] (app f vs) s →
      slice_get spec.rules k ≡ Some rule → instance xs rule.left ≡ app f vs →
      GivesGuards spec xs rule.guards g → {v : Tree} {n : ℕ} → Gives spec (app f vs) v n →
      (m : ℕ) × Gives spec (instance xs rule.right) v m × (n ≡ 1 + g + m)
  call_only f vs s k rule xs g other b p at is gs {v} gives =
      let c = call_by spec fine f vs other b gives in
      let m = both_match spec fine apart f vs s k c.number rule c.rule xs c.values b p at c.listed is c.is in
      let here = fine.rules k rule at in
      let ag = agreeing spec fine apart whole gs (sorts_of rule.vars) here.guards m.keep c.values m.same c.hold in
      let numbers : k ≡ c.number = one_member (whole k rule at) k c.number rule.guards c.rule.guards
      (in_its_group rule.left spec.rules k rule at refl)
      (in_its_group rule.left spec.rules c.number c.rule c.listed m.lefts) ag in
      let rules : rule ≡ c.rule = one_rule spec.rules k c.number rule c.rule at c.listed numbers in
      let cost : g ≡ c.guards = one_cost spec fine apart whole gs (sorts_of rule.vars) here.guards m.keep
      c.values m.same (subst (λ (x : Rule). GivesGuards spec c.values x.guards c.guards) (sym rules) c.hold) in
      let rights : instance c.values c.rule.right ≡ instance xs rule.right = ap
      (λ (x : Rule). instance c.values x.right) (sym rules) ∙ sym (m.same rule.right here.sides.0 here.sides.2) in
      (c.more, subst (λ t. Gives spec t v c.more) rights c.right, omega (arith, c.cost, cost))
