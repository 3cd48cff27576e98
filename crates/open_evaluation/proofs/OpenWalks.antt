-- The verdict of an open walk is the verdict of every list of values that goes on with the fixed ones.
use Rattle.std.proofs.Common.{◌≡◌, ◌≢◌, ℕ, zero, suc, ◌+◌, ◌-◌, ◌<◌, List, [], ◌∷◌, ◌++◌, Some, inl, inr, refl, ap}
use Rattle.std.proofs.Common.{sym, ◌∙◌, subst, arith, get_or}
use Rattle.std.specs.Prelude.{length, slice_get}
use Rattle.std.specs.List.{AllByRecursion}
use Rattle.std.proofs.Math.ListN.{get_or-append}
use Rattle.std.proofs.Math.Seq.{get_or-append_right}
use Rattle.std.proofs.lemmas.List.{get_or_past}
use Rattle.std.proofs.lemmas.List.Elements.{All-from_recursion}
use Rattle.term_core.specs.Tree.{Tree, Trees, var, app, none, some, instance}
use Rattle.term_core.specs.Variables.{OccursAny}
use Rattle.term_core.proofs.Numbers.{below_or_not}
use Rattle.term_core.proofs.Instances.{same_instance}
use Rattle.term_core.proofs.Trees.{instance_none}
use Rattle.spec_core.specs.declared.records.Equation.{Equation}
use Rattle.spec_core.specs.declared.records.Spec.{Spec}
use Rattle.spec_core.specs.declared.records.Verdict.{Verdict}
use Rattle.spec_core.specs.Sig.{Sig}
use Rattle.spec_core.specs.Sorts.{IsBuilt, AreBuilt}
use Rattle.spec_core.specs.WellSorted.{IsWellSorted}
use Rattle.spec_core.specs.Gives.{Gives}
use Rattle.spec_core.specs.Verdict.{SideGives, SidesSame, SidesDiffer, ConclusionsSay, PremisesSay}
use Rattle.open_evaluation.specs.OpenGives.{VariablesAreBelow, HasNoVariable}
use Rattle.open_evaluation.specs.OpenVerdict.{variables_from, opened, HeadsDiffer, AreDifferent, SideOpens, OpenSame}
use Rattle.open_evaluation.specs.OpenVerdict.{OpenDiffer, OpenConclusionsSay, OpenPremisesSay}
use Rattle.open_evaluation.proofs.Arguments.{head_eq}
use Rattle.open_evaluation.proofs.Occurring.{below_instance}
use Rattle.open_evaluation.proofs.Instancing.{instance_twice, gives_under}

variable_at : (j m i : ℕ) → get_or (variables_from j m) i (var (j + i)) ≡ var (j + i)
variable_at j zero i = refl
variable_at j (suc m) zero = ap (λ k. var k) (omega arith)
variable_at j (suc m) (suc i) =
    let e : j + suc i ≡ suc j + i = omega arith in
    rw e (variable_at (suc j) m i)

-- what stands for a variable after the fixed values is the variable, with and without the list of variables
opened_entry : (fixed : List Tree) (n k : ℕ) → instance (opened fixed n) (var k) ≡ instance fixed (var k)
opened_entry fixed n k = elim (below_or_not k (length fixed)) [
  | inl h ↦ get_or-append fixed (variables_from (length fixed) (n - length fixed)) (var k) k h
  | inr h ↦
      let e : k ≡ length fixed + (k - length fixed) = omega arith in
      let there : get_or (variables_from (length fixed) (n - length fixed)) (k - length fixed) (var k) ≡ var
      k = subst (λ j. get_or (variables_from (length fixed) (n - length fixed)) (k - length fixed)
      (var j) ≡ var j) (sym e) (variable_at (length fixed) (n - length fixed) (k - length fixed)) in
      get_or-append_right fixed (variables_from (length fixed) (n - length fixed)) k (var k) h ∙ there
      ∙ sym (get_or_past fixed k (var k) h)
]

pub opened_instance : (fixed : List Tree) (n : ℕ) (t : Tree) → instance (opened fixed n) t ≡ instance fixed t
opened_instance fixed n t = same_instance t (opened fixed n) fixed (λ k o. opened_entry fixed n k)

module _ (sig : Sig) where
  mutual
    pub built_closed : (t : Tree) → IsBuilt sig t → HasNoVariable t
    built_closed (var n) b k o = b
    built_closed (app f ts) b k o = all_built_closed ts b.1 k o

    all_built_closed : (ts : Trees) → AreBuilt sig ts → (k : ℕ) → OccursAny k ts → ⊥
    all_built_closed none b k o = o
    all_built_closed (some t ts) b k (inl o) = built_closed t b.0 k o
    all_built_closed (some t ts) b k (inr o) = all_built_closed ts b.1 k o

-- a term without variables is its own instance
pub closed_stays : (xs : List Tree) (t : Tree) → HasNoVariable t → instance xs t ≡ t
closed_stays xs t h = same_instance t xs [] (λ k o. absurd (h k o)) ∙ instance_none t

-- open values that are different stay so under all values
heads_stay : (xs : List Tree) (v w : Tree) → HeadsDiffer v w → instance xs v ≢ instance xs w
heads_stay xs (var m) w h e = h
heads_stay xs (app f ts) (var n) h e = h
heads_stay xs (app f ts) (app g us) h e = h (head_eq e)

different_stay : (xs : List Tree) (v w : Tree) → AreDifferent v w → instance xs v ≢ instance xs w
different_stay xs v w (inl h) e = heads_stay xs v w h e
different_stay xs v w (inr h) e = h.0 (sym (closed_stays xs v h.1) ∙ e ∙ closed_stays xs w h.2)

module _ (spec : Spec) (fine : IsWellSorted spec) (fixed rest : List Tree)
    (all_built : AllByRecursion (IsBuilt spec.sig) (fixed ++ rest)) where
  abbrev xs : List Tree
  xs = fixed ++ rest

  abbrev n : ℕ
  n = length xs

  -- a fixed value stands for its variable, and another variable for itself
  entry : (k : ℕ) → k < n → (instance xs (var k) ≡ instance xs (instance fixed (var k)))
      × VariablesAreBelow n (instance fixed (var k))
  entry k w = elim (below_or_not k (length fixed)) [
    | inl h ↦
        let e : instance xs (var k) ≡ instance fixed (var k) = get_or-append fixed rest (var k) k h in
        let b : IsBuilt spec.sig (instance fixed (var k)) = subst (IsBuilt spec.sig) e
        (All-from_recursion (IsBuilt spec.sig) xs all_built k (var k) w) in
        let closed : HasNoVariable (instance fixed (var k)) = built_closed spec.sig (instance fixed (var k)) b in
        (e ∙ sym (closed_stays xs (instance fixed (var k)) closed), λ j o. absurd (closed j o))
    | inr h ↦
        let e : instance fixed (var k) ≡ var k = get_or_past fixed k (var k) h in
        (ap (λ t. instance xs t) (sym e), subst (VariablesAreBelow n) (sym e) (λ j o. rw o w))
  ]

  module _ (m budget : ℕ) where
    abbrev zs : List Tree
    zs = opened fixed m

    side : (t v : Tree) → VariablesAreBelow n t → SideOpens spec zs budget t v →
        SideGives spec xs budget t (instance xs v)
    side t v h s =
        let e : instance zs t ≡ instance fixed t = opened_instance fixed m t in
        let below : VariablesAreBelow n (instance zs t) = subst (VariablesAreBelow n) (sym e)
        (below_instance n fixed t (λ k o. (entry k (h k o)).1)) in
        let same : instance xs t ≡ instance xs (instance zs t) = instance_twice xs xs fixed t
        (λ k o. (entry k (h k o)).0) ∙ ap (λ u. instance xs u) (sym e) in (
          s.0,
          subst (λ u. Gives spec u (instance xs v) s.0) (sym same)
              (gives_under spec fine xs all_built s.1 below),
          s.2,
        )

    abbrev IsWithin : Equation → Type 0
    IsWithin e = VariablesAreBelow n e.left × VariablesAreBelow n e.right

    abbrev AreWithin : List Equation → Type 0
    AreWithin es = (k : ℕ) (e : Equation) → slice_get es k ≡ Some e → IsWithin e

    same : (e : Equation) → IsWithin e → OpenSame spec zs budget e → SidesSame spec xs budget e
    same e h s = (instance xs s.0, side e.left s.0 h.0 s.1, side e.right s.0 h.1 s.2)

    differ : (e : Equation) → IsWithin e → OpenDiffer spec zs budget e → SidesDiffer spec xs budget e
    differ e h s = (
      instance xs s.0,
      instance xs s.1,
      different_stay xs s.0 s.1 s.2,
      side e.left s.0 h.0 s.3,
      side e.right s.1 h.1 s.4,
    )

    conclusions : (es : List Equation) (r : Verdict) → AreWithin es → OpenConclusionsSay spec zs budget es r →
        ConclusionsSay spec xs budget es r
    conclusions [] r h s = s
    conclusions (e ∷ es) r h (inl s) = inr (inl (same e (h 0 e refl) s.0, s.1))
    conclusions (e ∷ es) r h (inr s) = inr
        (inr (differ e (h 0 e refl) s.0, conclusions es r (λ k d at. h (suc k) d at) s.1))

    pub verdict_under : (es cs : List Equation) (r : Verdict) → AreWithin es → AreWithin cs →
        OpenPremisesSay spec zs budget es cs r → PremisesSay spec xs budget es cs r
    verdict_under [] cs r h i s = conclusions cs r i s
    verdict_under (e ∷ es) cs r h i (inl s) = inr (inl (differ e (h 0 e refl) s.0, s.1))
    verdict_under (e ∷ es) cs r h i (inr s) = inr
        (inr (same e (h 0 e refl) s.0, verdict_under es cs r (λ k d at. h (suc k) d at) i s.1))
