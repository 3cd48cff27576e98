-- A sorted term has at most one value and cost, if left sides don't overlap and groups are whole.
use Rattle.std.proofs.Common.{◌≡◌, ℕ, ◌+◌, ◌<◌, List, [], ◌∷◌, Bool, true, false, Some, inl, inr, refl, ap, sym, ◌∙◌}
use Rattle.std.proofs.Common.{subst, arith}
use Rattle.std.specs.Prelude.{slice_get, length}
use Rattle.std.specs.List.{AllByRecursion}
use Rattle.std.proofs.lemmas.Option.{slice_get_within}
use Rattle.term_core.specs.Tree.{Tree, Trees, var, app, none, some, instance, instances}
use Rattle.term_core.specs.declared.ids.SortId.{SortId}
use Rattle.spec_core.specs.declared.records.Rule.{Rule}
use Rattle.spec_core.specs.declared.records.Guard.{Guard}
use Rattle.spec_core.specs.declared.records.Spec.{Spec}
use Rattle.spec_core.specs.Sig.{Sig, IsConstructor}
use Rattle.spec_core.specs.Sorts.{Sorted, SortedAll}
use Rattle.spec_core.specs.Gives.{Gives, GivesAll, GivesGuards, boolean, built, called, no_terms, more_terms}
use Rattle.spec_core.specs.Gives.{no_guards, more_guards}
use Rattle.term_core.specs.Variables.{Occurs, OccursAny}
use Rattle.spec_core.specs.WellSorted.{RuleIsSorted, IsWellSorted, IsLeft, sorts_of}
use Rattle.spec_core.specs.Overlap.{NoOverlap}
use Rattle.spec_core.specs.Groups.{GroupsAreWhole, group}
use Rattle.spec_core.specs.Declarations.{bool_sort}
use Rattle.term_core.proofs.Instances.{agree, same_instance}
use Rattle.spec_core.proofs.Instances.{sorted_entry, sorted_instance}
use Rattle.spec_core.proofs.Keeps.{one_sort, right_sorted, keeps_all}
use Rattle.term_core.proofs.Members.{In}
use Rattle.spec_core.proofs.Groups.{Agree, in_group, one_member}

mutual
  pub occurs_within : (sig : Sig) (ctx : List SortId) (t : Tree) (s : SortId) → Sorted sig ctx t s → (n : ℕ) →
      Occurs n t → n < length ctx
  occurs_within sig ctx (var m) s p n o = rw o (slice_get_within ctx m s p)
  occurs_within sig ctx (app f ts) s p n o = occur_within sig ctx ts p.0.args p.3 n o

  pub occur_within : (sig : Sig) (ctx : List SortId) (ts : Trees) (ss : List SortId) → SortedAll sig ctx ts ss →
      (n : ℕ) → OccursAny n ts → n < length ctx
  occur_within sig ctx none ss p n o = absurd o
  occur_within sig ctx (some t ts) [] p n o = absurd p
  occur_within sig ctx (some t ts) (s ∷ ss) p n (inl o) = occurs_within sig ctx t s p.0 n o
  occur_within sig ctx (some t ts) (s ∷ ss) p n (inr o) = occur_within sig ctx ts ss p.1 n o

-- what two matches of one left side make the same
pub same_by_left : (sig : Sig) (rule : Rule) (xs ys : List Tree) → RuleIsSorted sig rule →
    instance xs rule.left ≡ instance ys rule.left → (t : Tree) (s : SortId) →
    Sorted sig (sorts_of rule.vars) t s → instance xs t ≡ instance ys t
same_by_left sig rule xs ys fine e t s p = same_instance t xs ys
    (λ n o. agree rule.left xs ys e n (fine.bound n (occurs_within sig (sorts_of rule.vars) t s p n o)))

-- a match of a left side keeps the sorts of all terms over the rule's variables
pub sorted_by_left : (sig : Sig) (rule : Rule) (u : SortId) (xs : List Tree) → RuleIsSorted sig rule →
    Sorted sig [] (instance xs rule.left) u → (t : Tree) (s : SortId) → Sorted sig (sorts_of rule.vars) t s →
    Sorted sig [] (instance xs t) s
sorted_by_left sig rule u xs fine q t s p =
    let ctx = sorts_of rule.vars in
    let w = fine.sides.0 in
    let e : w ≡ u = one_sort sig ctx rule.left w u xs fine.left fine.sides.1 q in
    let left : Sorted sig [] (instance xs rule.left) w = rw e q in
    sorted_instance sig ctx t s xs p (λ n v at. sorted_entry sig ctx rule.left w xs fine.sides.1 left n
    (fine.bound n (slice_get_within ctx n v at)) v at)

-- the symbol of a left side is no constructor
pub left_symbol : (sig : Sig) (left : Tree) (xs : List Tree) (f : ℕ) (vs : Trees) → IsLeft sig left →
    instance xs left ≡ app f vs → IsConstructor sig f → ⊥
left_symbol sig (var n) xs f vs l e c = absurd l
left_symbol sig (app g ts) xs f vs l e c =
    let q : app g (instances xs ts) ≡ app f vs = e in
    let k : g ≡ f = cc in
    l.0 (rw k c)

pub boolean_inj : (a b : Bool) → boolean a ≡ boolean b → a ≡ b
boolean_inj true true e = refl
boolean_inj false false e = refl
boolean_inj true false e = absurd (let q : app 0 none ≡ app 1 none = e in let k : ◌≡◌ {A = ℕ} 0 1 = cc in omega arith)
boolean_inj false true e = absurd (let q : app 1 none ≡ app 0 none = e in let k : ◌≡◌ {A = ℕ} 1 0 = cc in omega arith)

pub in_its_group : (left : Tree) (rs : List Rule) (k : ℕ) (rule : Rule) → slice_get rs k ≡ Some rule →
    left ≡ rule.left → In (k, rule.guards) (group left 0 rs)
in_its_group left rs k rule at e =
    let h : 0 + k ≡ k = omega arith in
    subst (λ n. In (n, rule.guards) (group left 0 rs)) h (in_group left rs 0 k rule at e)

pub one_rule : (rs : List Rule) (j k : ℕ) (r q : Rule) → slice_get rs j ≡ Some r → slice_get rs k ≡ Some q →
    j ≡ k → r ≡ q
one_rule rs j k r q p h e = let a : Some r ≡ Some q = sym p ∙ ap (λ n. slice_get rs n) e ∙ h in cc

module _ (spec : Spec) where
  pub guard_in : {xs : List Tree} {gs : List Guard} {n : ℕ} → GivesGuards spec xs gs n → (b : Guard) → In b gs →
      (k : ℕ) × Gives spec (instance xs b.test) (boolean b.wanted) k
  guard_in no_guards b i = absurd i
  guard_in (more_guards {values} {guard} {n} one more m) b (inl e) = (
    n,
    let P : Guard →
        Type 0 = λ g. Gives spec (instance values g.test) (boolean g.wanted) n in subst P (sym e) one,
  )
  guard_in (more_guards one more m) b (inr i) = guard_in more b i

module _ (spec : Spec) (fine : IsWellSorted spec) (apart : NoOverlap spec) (whole : GroupsAreWhole spec) where
  mutual
    pub determined : {t v : Tree} {n : ℕ} → Gives spec t v n → (s : SortId) → Sorted spec.sig [] t s →
        {w : Tree} {m : ℕ} → Gives spec t w m → (v ≡ w) × (n ≡ m)
    determined (built {f} c all) s p (built d other) =
        let r = determined_all all p.0.args p.3 other in
        (ap (λ us. app f us) r.0, r.1)
    determined (built c all) s p (called {f} {vs} number rule values others at bs is gs right m) = absurd
        (left_symbol spec.sig rule.left values f vs (fine.rules number rule at).left is c)
    determined (called {f} {vs} number rule values all at bs is gs right m) s p (built c others) = absurd
        (left_symbol spec.sig rule.left values f vs (fine.rules number rule at).left is c)
    determined (called {f} {vs} {v} {n} {g} {k} {m} number rule values all at bs is gs right cost) s p
        (called {vs = ws} {v = w} {n = n'} {g = g'} {k = k'} {m = m'} number' rule' values' all' at' bs' is' gs'
        right' cost') =
        let r = determined_all all p.0.args p.3 all' in
        let kept = keeps_all spec fine all p.0.args p.3 in
        let back : instance values' rule'.left ≡ app f vs = is' ∙ ap (λ us. app f us) (sym r.0) in
        let lefts : rule.left ≡ rule'.left = apart number number' rule rule' f p.0 vs values values' at at' p.1
        kept.0 kept.1 is back in
        let q : Sorted spec.sig [] (app f vs) s = (p.0, p.1, p.2, kept.0) in
        let left : Sorted spec.sig [] (instance values rule.left) s = rw is q in
        let here = fine.rules number rule at in
        let keep = sorted_by_left spec.sig rule s values here left in
        let both : instance values rule.left ≡ instance values' rule.left = is ∙ sym back
        ∙ ap (λ t. instance values' t) (sym lefts) in
        let same = same_by_left spec.sig rule values values' here both in
        let ag = agreeing gs (sorts_of rule.vars) here.guards keep values' same gs' in
        let numbers : number ≡ number' = one_member (whole number rule at) number number' rule.guards
        rule'.guards (in_its_group rule.left spec.rules number rule at refl)
        (in_its_group rule.left spec.rules number' rule' at' lefts) ag in
        let rules : rule ≡ rule' = one_rule spec.rules number number' rule rule' at at' numbers in
        let c = one_cost gs (sorts_of rule.vars) here.guards keep values' same
        (subst (λ (x : Rule). GivesGuards spec values' x.guards g') (sym rules) gs') in
        let rights : instance values' rule'.right ≡ instance values rule.right = ap
        (λ (x : Rule). instance values' x.right) (sym rules) ∙ sym (same rule.right here.sides.0 here.sides.2) in
        let rr = determined right s (right_sorted spec.sig rule s values here left)
        (subst (λ t. Gives spec t w k') rights right') in
        (rr.0, omega (arith, r.1, c, rr.1))

    pub determined_all : {ts vs : Trees} {n : ℕ} → GivesAll spec ts vs n → (ss : List SortId) →
        SortedAll spec.sig [] ts ss → {ws : Trees} {m : ℕ} → GivesAll spec ts ws m → (vs ≡ ws) × (n ≡ m)
    determined_all no_terms ss p no_terms = (refl, refl)
    determined_all (more_terms one more m) [] p (more_terms one' more' m') = absurd p
    determined_all (more_terms one more m) (s ∷ ss) p (more_terms one' more' m') =
        let a = determined one s p.0 one' in
        let b = determined_all more ss p.1 more' in
        (cc, omega (arith, a.1, b.1))

    pub agreeing : {xs : List Tree} {gs : List Guard} {n : ℕ} → GivesGuards spec xs gs n → (ctx : List SortId) →
        AllByRecursion (λ (g : Guard). Sorted spec.sig ctx g.test bool_sort) gs →
        ((t : Tree) (s : SortId) → Sorted spec.sig ctx t s → Sorted spec.sig [] (instance xs t) s) →
        (ys : List Tree) → ((t : Tree) (s : SortId) → Sorted spec.sig ctx t s → instance xs t ≡ instance ys t) →
        {hs : List Guard} {m : ℕ} → GivesGuards spec ys hs m → Agree gs hs
    agreeing no_guards ctx fs keep ys same others a b i j e = absurd i
    agreeing {xs} (more_guards {guard} one more m) ctx fs keep ys same others a b (inl i) j e =
        let g = guard_in spec others b j in
        let tests : guard.test ≡ b.test = ap (λ (x : Guard). x.test) (sym i) ∙ e in
        let back : instance ys b.test ≡ instance xs guard.test = ap (λ t. instance ys t) (sym tests)
        ∙ sym (same guard.test bool_sort fs.0) in
        let d = determined one bool_sort (keep guard.test bool_sort fs.0)
        (subst (λ t. Gives spec t (boolean b.wanted) g.0) back g.1) in
        ap (λ (x : Guard). x.wanted) i ∙ boolean_inj _ _ d.0
    agreeing (more_guards one more m) ctx fs keep ys same others a b (inr i) j e = agreeing more ctx fs.1 keep
        ys same others a b i j e

    pub one_cost : {xs : List Tree} {gs : List Guard} {n : ℕ} → GivesGuards spec xs gs n → (ctx : List SortId) →
        AllByRecursion (λ (g : Guard). Sorted spec.sig ctx g.test bool_sort) gs →
        ((t : Tree) (s : SortId) → Sorted spec.sig ctx t s → Sorted spec.sig [] (instance xs t) s) →
        (ys : List Tree) → ((t : Tree) (s : SortId) → Sorted spec.sig ctx t s → instance xs t ≡ instance ys t) →
        {m : ℕ} → GivesGuards spec ys gs m → n ≡ m
    one_cost no_guards ctx fs keep ys same no_guards = refl
    one_cost (more_guards {guard} one more m) ctx fs keep ys same (more_guards {n = n'} one' more' m') =
        let d = determined one bool_sort (keep guard.test bool_sort fs.0)
        (subst (λ t. Gives spec t (boolean guard.wanted) n') (sym (same guard.test bool_sort fs.0)) one') in
        let c = one_cost more ctx fs.1 keep ys same more' in
        omega (arith, d.1, c)
