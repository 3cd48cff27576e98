-- What is said under entries is said under one entry less: variables stand for themselves, and a variable of the sort Bool
-- has each of two values.
use Rattle.std.proofs.Common.{◌≡◌, ◌≢◌, ℕ, zero, suc, ◌+◌, ◌-◌, List, [], ◌∷◌, ◌++◌, Bool, true, false, Option, None}
use Rattle.std.proofs.Common.{Some, inl, inr, refl, ap, sym, ◌∙◌, subst, arith, get_or, length, take}
use Rattle.std.specs.Prelude.{slice_get, MatchOption}
use Rattle.std.specs.List.{AllByRecursion}
use Rattle.std.proofs.Math.ListN.{get_or-append}
use Rattle.std.proofs.Math.Seq.{get_or-append_right}
use Rattle.std.proofs.lemmas.List.{get_or_past}
use Rattle.term_core.specs.Tree.{Tree, var, instance}
use Rattle.term_core.specs.declared.ids.SortId.{SortId}
use Rattle.term_core.proofs.Numbers.{below_or_not}
use Rattle.term_core.proofs.Trees.{instance_none}
use Rattle.spec_core.specs.declared.records.Goal.{Goal}
use Rattle.spec_core.specs.declared.records.Spec.{Spec}
use Rattle.spec_core.specs.declared.records.Verdict.{Verdict}
use Rattle.spec_core.specs.Sorts.{IsValue}
use Rattle.spec_core.specs.Gives.{boolean}
use Rattle.spec_core.specs.Declarations.{bool_sort}
use Rattle.spec_core.specs.WellSorted.{IsWellSorted, sorts_of}
use Rattle.spec_core.specs.Truth.{AreValuesOf}
use Rattle.open_evaluation.specs.OpenGives.{IsOpen}
use Rattle.open_evaluation.specs.OpenVerdict.{opened, IsOpenVerdict}
use Rattle.open_evaluation.specs.WalkLaws.{AreInstances}
use Rattle.open_evaluation.proofs.OpenInstances.{verdict_still}
use Rattle.open_evaluation.proofs.OpenValues.{built_open}
use Rattle.open_evaluation.proofs.OpenWalks.{built_closed, closed_stays, opened_instance}
use Rattle.ground_eval.specs.Entries.{IsEntry, AreEntries, SayOfAll}
use Rattle.ground_eval.specs.Opened.{AllHaveVerdict, IsOpenYet}
use Rattle.ground_eval.specs.Sides.{IsDecided}
use Rattle.spec_core.proofs.BooleanValues.{value_boolean}
use Rattle.ground_eval.proofs.OpenGoals.{entry_at}

module _ (spec : Spec) where
  -- one more entry
  pub fit_more : (k : ℕ) (ctx : List SortId) (zs : List Tree) (x : Tree) (s : SortId) →
      AreEntries spec k ctx zs → slice_get ctx (length zs) ≡ Some s → IsEntry spec (k + length zs) s x →
      AreEntries spec k ctx (zs ++ x ∷ [])
  fit_more k [] [] x s h at e = absurd (let q : None ≡ Some s = at in cc)
  fit_more k (t ∷ ctx) [] x s h at e =
      let q : Some t ≡ Some s = at in
      let r : s ≡ t = cc in
      (subst (λ i. IsEntry spec i t x) (omega arith) (subst (λ w. IsEntry spec (k + 0) w x) r e), tt)
  fit_more k [] (z ∷ zs) x s h at e = absurd h
  fit_more k (t ∷ ctx) (z ∷ zs) x s h at e = (
    h.0,
    fit_more (suc k) ctx zs x s h.1 at (subst (λ i. IsEntry spec i s x) (omega arith) e),
  )

  -- first values are entries
  pub firsts_fit : (k : ℕ) (ctx : List SortId) (vs : List Tree) → AreValuesOf spec (take (length vs) ctx) vs →
      AreEntries spec k ctx vs
  firsts_fit k ctx [] h = tt
  firsts_fit k [] (v ∷ vs) h = absurd h
  firsts_fit k (s ∷ ctx) (v ∷ vs) h = (inl h.0, firsts_fit (suc k) ctx vs h.1)

  entry_open : (k : ℕ) (s : SortId) (x : Tree) → IsEntry spec k s x → IsOpen spec.sig x
  entry_open k s x (inl h) = built_open spec.sig x h.1
  entry_open k s x (inr h) = subst (IsOpen spec.sig) (sym h.0) tt

  entries_open : (k : ℕ) (ctx : List SortId) (zs : List Tree) → AreEntries spec k ctx zs →
      AllByRecursion (IsOpen spec.sig) zs
  entries_open k ctx [] h = tt
  entries_open k [] (z ∷ zs) h = absurd h
  entries_open k (s ∷ ctx) (z ∷ zs) h = (entry_open k s z h.0, entries_open (suc k) ctx zs h.1)

  pub value_at : (ctx : List SortId) (vs : List Tree) (k : ℕ) (s : SortId) (d : Tree) →
      AreValuesOf spec ctx vs → slice_get ctx k ≡ Some s → IsValue spec.sig s (get_or vs k d)
  value_at [] vs k s d a at = absurd (let q : None ≡ Some s = at in cc)
  value_at (t ∷ ctx) [] k s d a at = absurd a
  value_at (t ∷ ctx) (v ∷ vs) zero s d a at =
      let q : Some t ≡ Some s = at in
      let r : t ≡ s = cc in
      subst (λ w. IsValue spec.sig w v) r a.0
  value_at (t ∷ ctx) (v ∷ vs) (suc k) s d a at = value_at ctx vs k s d a.1 at

  module _ (ctx : List SortId) (zs : List Tree) (fit : AreEntries spec 0 ctx zs) where
    -- a list that goes on with the entries has instances of them
    pub self_instances : (rest : List Tree) → AreInstances (zs ++ rest) zs (zs ++ rest)
    self_instances rest k = elim (below_or_not k (length zs)) [
      | inl lt ↦
          let r = entry_at spec 0 ctx zs fit k (var k) lt in
          let e : instance (zs ++ rest) (var k) ≡ instance zs (var k) = get_or-append zs rest (var k) k lt in
          elim r.2 [
            | inl h ↦ e ∙ sym (closed_stays (zs ++ rest) (instance zs (var k))
                (built_closed spec.sig (instance zs (var k)) h.1))
            | inr h ↦ ap (λ t. instance (zs ++ rest) t) (sym (h.0 ∙ ap (λ j. var j) (omega arith)))
          ]
      | inr le ↦ ap (λ t. instance (zs ++ rest) t) (sym (get_or_past zs k (var k) le))
    ]

  -- values stay instances if one more entry is the value's
  pub more_instances : (ys zs : List Tree) (x : Tree) → AreInstances ys zs ys →
      instance ys (var (length zs)) ≡ instance ys x → AreInstances ys (zs ++ x ∷ []) ys
  more_instances ys zs x h e k = elim (below_or_not k (length zs)) [
    | inl lt ↦ h k ∙ ap (λ t. instance ys t) (sym (get_or-append zs (x ∷ []) (var k) k lt))
    | inr le ↦ at (k - length zs) (omega arith)
        ∙ ap (λ t. instance ys t) (sym (get_or-append_right zs (x ∷ []) k (var k) le))
  ]
    where
      at : (m : ℕ) → k ≡ length zs + m → instance ys (var k) ≡ instance ys (get_or (x ∷ []) m (var k))
      at zero q = ap (λ j. instance ys (var j)) (omega (arith, q)) ∙ e
      at (suc m) q = refl

module _ (spec : Spec) (fine : IsWellSorted spec) (goal : Goal) (budget : ℕ) (zs : List Tree)
    (fit : AreEntries spec 0 (sorts_of goal.vars) zs) where
  abbrev ctx : List SortId
  ctx = sorts_of goal.vars

  -- an open verdict stays if one more entry is given
  verdict_more : (x : Tree) → AreEntries spec 0 ctx (zs ++ x ∷ []) → (r : Verdict) →
      IsOpenVerdict spec zs budget goal r → IsOpenVerdict spec (zs ++ x ∷ []) budget goal r
  verdict_more x more r h = verdict_still spec fine (zs ++ x ∷ []) (entries_open spec 0 ctx (zs ++ x ∷ []) more)
      zs (zs ++ x ∷ []) (self_instances spec ctx zs fit (x ∷ [])) budget goal.premises goal.conclusions r h

  -- if there is none with one more entry, there is none
  pub none_less : (x : Tree) → AreEntries spec 0 ctx (zs ++ x ∷ []) →
      SayOfAll spec goal budget (zs ++ x ∷ []) None → SayOfAll spec goal budget zs None
  none_less x more h r apart whole o = h r apart whole (verdict_more x more r o)

  -- the next variable stands for itself
  pub variable_less : AreEntries spec 0 ctx (zs ++ var (length zs) ∷ []) → (r : Option Verdict) →
      SayOfAll spec goal budget (zs ++ var (length zs) ∷ []) r → SayOfAll spec goal budget zs r
  variable_less more None h = none_less (var (length zs)) more h
  variable_less more (Some v) h = (
    (λ ys are inst. h.0 ys are (more_instances spec ys zs (var (length zs)) inst refl)),
    (λ r apart whole o. h.1 r apart whole (verdict_more (var (length zs)) more r o)),
  )

  module _ (at : slice_get ctx (length zs) ≡ Some bool_sort)
      (with_true : AreEntries spec 0 ctx (zs ++ boolean true ∷ []))
      (with_false : AreEntries spec 0 ctx (zs ++ boolean false ∷ [])) (v w : Verdict)
      (h : SayOfAll spec goal budget (zs ++ boolean true ∷ []) (Some v))
      (i : SayOfAll spec goal budget (zs ++ boolean false ∷ []) (Some w)) where
    -- one verdict under both Booleans, or two
    pub both_less : (r : Option Verdict) → MatchOption r (v ≢ w) (λ x. (x ≡ v) × (x ≡ w)) →
        SayOfAll spec goal budget zs r
    both_less None differ = λ r apart whole o. differ
        (sym (h.1 r apart whole (verdict_more (boolean true) with_true r o))
        ∙ i.1 r apart whole (verdict_more (boolean false) with_false r o))
    both_less (Some x) same = (
      (λ ys are inst.
          let is = value_at spec ctx ys (length zs) bool_sort (var (length zs)) are at in
          let b = value_boolean spec.sig fine.signature (instance ys (var (length zs))) is in
          under ys are inst b.0 b.1),
      (λ r apart whole o. h.1 r apart whole (verdict_more (boolean true) with_true r o) ∙ sym same.0),
    )
      where
        under : (ys : List Tree) (are : AreValuesOf spec ctx ys) → AreInstances ys zs ys → (b : Bool) →
            instance ys (var (length zs)) ≡ boolean b → IsDecided spec ys budget goal x
        under ys are inst true e = subst (λ q. IsDecided spec ys budget goal q) (sym same.0)
            (h.0 ys are (more_instances spec ys zs (boolean true) inst e))
        under ys are inst false e = subst (λ q. IsDecided spec ys budget goal q) (sym same.1)
            (i.0 ys are (more_instances spec ys zs (boolean false) inst e))

  -- what is said of all lists that go on with the entries
  pub all_have : (v : Verdict) → SayOfAll spec goal budget zs (Some v) → AllHaveVerdict spec goal zs budget v
  all_have v h rest are = h.0 (zs ++ rest) are (self_instances spec ctx zs fit rest)

  pub open_yet : SayOfAll spec goal budget zs None → IsOpenYet spec goal zs budget
  open_yet h apart whole r o =
      h r apart whole (verdict_still spec fine [] tt (opened zs (length goal.vars)) zs
      (λ k. sym (opened_instance zs (length goal.vars) (var k))
      ∙ sym (instance_none (instance (opened zs (length goal.vars)) (var k)))) budget goal.premises
      goal.conclusions r o)
