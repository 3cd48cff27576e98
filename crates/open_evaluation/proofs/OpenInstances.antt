-- What a term gives openly, it gives under open values of its variables; and so a verdict of the open walk stays.
use Rattle.std.proofs.Common.{◌≡◌, ℕ, List, [], ◌∷◌, inl, inr, refl, ap, sym, ◌∙◌, subst, arith}
use Rattle.std.specs.Prelude.{length}
use Rattle.std.specs.List.{AllByRecursion}
use Rattle.term_core.specs.Tree.{Tree, Trees, var, app, none, some, instance, instances}
use Rattle.term_core.specs.declared.ids.SortId.{SortId}
use Rattle.spec_core.specs.declared.records.Equation.{Equation}
use Rattle.spec_core.specs.declared.records.Guard.{Guard}
use Rattle.spec_core.specs.declared.records.Spec.{Spec}
use Rattle.spec_core.specs.declared.records.Verdict.{Verdict}
use Rattle.spec_core.specs.Sorts.{Sorted}
use Rattle.spec_core.specs.Declarations.{bool_sort}
use Rattle.spec_core.specs.WellSorted.{IsWellSorted, sorts_of}
use Rattle.spec_core.specs.Gives.{boolean}
use Rattle.spec_core.proofs.Determined.{occurs_within}
use Rattle.open_evaluation.specs.OpenGives.{IsOpen, AreOpen, OpenGives, OpenGivesAll, OpenGivesGuards, unknown}
use Rattle.open_evaluation.specs.OpenGives.{open_built, open_called, no_open_terms, more_open_terms, no_open_guards}
use Rattle.open_evaluation.specs.OpenGives.{more_open_guards}
use Rattle.open_evaluation.specs.OpenVerdict.{HeadsDiffer, AreDifferent, SideOpens, OpenSame, OpenDiffer}
use Rattle.open_evaluation.specs.OpenVerdict.{OpenConclusionsSay, OpenPremisesSay}
use Rattle.open_evaluation.specs.WalkLaws.{AreInstances}
use Rattle.open_evaluation.proofs.Entries.{choose, all_entries}
use Rattle.open_evaluation.proofs.Instancing.{instance_twice}
use Rattle.open_evaluation.proofs.OpenValues.{entry_open}
use Rattle.open_evaluation.proofs.OpenWalks.{closed_stays}

module _ (spec : Spec) where
  mutual
    -- an open value gives itself for nothing
    open_gives_itself : (t : Tree) → IsOpen spec.sig t → OpenGives spec t t 0
    open_gives_itself (var k) o = unknown
    open_gives_itself (app f ts) o = open_built o.0 (open_give_themselves ts o.1)

    open_give_themselves : (ts : Trees) → AreOpen spec.sig ts → OpenGivesAll spec ts ts 0
    open_give_themselves none o = no_open_terms
    open_give_themselves (some t ts) o = more_open_terms (open_gives_itself t o.0) (open_give_themselves ts o.1)
        (omega arith)

module _ (spec : Spec) (fine : IsWellSorted spec) (xs : List Tree)
    (entries_open : AllByRecursion (IsOpen spec.sig) xs) where
  mutual
    instance_open : (t : Tree) → IsOpen spec.sig t → IsOpen spec.sig (instance xs t)
    instance_open (var k) o = entry_open spec.sig xs k (var k) entries_open tt
    instance_open (app f ts) o = (o.0, instances_open ts o.1)

    instances_open : (ts : Trees) → AreOpen spec.sig ts → AreOpen spec.sig (instances xs ts)
    instances_open none o = tt
    instances_open (some t ts) o = (instance_open t o.0, instances_open ts o.1)

  -- the entry of a rule's variable: the instance of what stands for it
  abbrev IsInstanceOf : List Tree → ℕ → Tree → Type 0
  IsInstanceOf zs k x = (x ≡ instance xs (instance zs (var k))) × IsOpen spec.sig x

  mutual
    -- a rule that is used at an open call is used at its instance, under the instances of the entries
    pub opens_under : {t v : Tree} {n : ℕ} → OpenGives spec t v n → OpenGives spec (instance xs t) (instance xs v) n
    opens_under (unknown {k}) = open_gives_itself spec (instance xs (var k)) (instance_open (var k) tt)
    opens_under (open_built c all) = open_built c (open_under all)
    opens_under (open_called {f} {vs} {v} {k} number rule zs all at bs is gs right cost) =
        let here = fine.rules number rule at in
        let ctx = sorts_of rule.vars in
        let entries = choose (length ctx) (IsInstanceOf zs) (λ j w. (
          instance xs (instance zs (var j)),
          (refl, instance_open (instance zs (var j)) (entry_open spec.sig zs j (var j) bs tt)),
        )) in
        let ys = entries.items in
        let same : (t : Tree) (s : SortId) → Sorted spec.sig ctx t s →
        instance ys t ≡ instance xs (instance zs t) = λ t s p. instance_twice ys xs zs t
        (λ j o. (entries.each j (var j) (occurs_within spec.sig ctx t s p j o)).0) in
        let match : instance ys rule.left ≡ app f (instances xs vs) = same rule.left here.sides.0 here.sides.1
        ∙ ap (λ t. instance xs t) is in
        open_called number rule ys (open_under all)
        at (all_entries (length ctx) (IsInstanceOf zs) (IsOpen spec.sig) entries (λ j x p. p.1)) match
        (open_guards_under gs ys ctx here.guards same)
        (subst (λ t. OpenGives spec t (instance xs v) k) (sym (same rule.right here.sides.0 here.sides.2))
        (opens_under right)) cost

    open_under : {ts vs : Trees} {n : ℕ} → OpenGivesAll spec ts vs n →
        OpenGivesAll spec (instances xs ts) (instances xs vs) n
    open_under no_open_terms = no_open_terms
    open_under (more_open_terms one more cost) = more_open_terms (opens_under one) (open_under more) cost

    open_guards_under : {zs : List Tree} {gs : List Guard} {n : ℕ} → OpenGivesGuards spec zs gs n →
        (ys : List Tree) (ctx : List SortId) →
        AllByRecursion (λ (g : Guard). Sorted spec.sig ctx g.test bool_sort) gs →
        ((t : Tree) (s : SortId) → Sorted spec.sig ctx t s → instance ys t ≡ instance xs (instance zs t)) →
        OpenGivesGuards spec ys gs n
    open_guards_under no_open_guards ys ctx sorted same = no_open_guards
    open_guards_under (more_open_guards {guard} {n} one more cost) ys ctx sorted same =
        more_open_guards (subst (λ t. OpenGives spec t (boolean guard.wanted) n)
        (sym (same guard.test bool_sort sorted.0)) (opens_under one))
        (open_guards_under more ys ctx sorted.1 same) cost

  heads_differ_still : (v w : Tree) → HeadsDiffer v w → HeadsDiffer (instance xs v) (instance xs w)
  heads_differ_still (var m) w h = absurd h
  heads_differ_still (app f ts) (var n) h = absurd h
  heads_differ_still (app f ts) (app g us) h = h

  differ_still : (v w : Tree) → AreDifferent v w → AreDifferent (instance xs v) (instance xs w)
  differ_still v w (inl h) = inl (heads_differ_still v w h)
  differ_still v w (inr h) =
      let p : instance xs v ≡ v = closed_stays xs v h.1 in
      let q : instance xs w ≡ w = closed_stays xs w h.2 in
      subst (λ a. AreDifferent a (instance xs w)) (sym p) (subst (λ b. AreDifferent v b) (sym q) (inr h))

  module _ (zs ys : List Tree) (same : AreInstances xs zs ys) (budget : ℕ) where
    side : (t v : Tree) → SideOpens spec zs budget t v → SideOpens spec ys budget t (instance xs v)
    side t v s =
        let e : instance ys t ≡ instance xs (instance zs t) = instance_twice ys xs zs t (λ k o. same k) in
        (s.0, subst (λ u. OpenGives spec u (instance xs v) s.0) (sym e) (opens_under s.1), s.2)

    same_still : (e : Equation) → OpenSame spec zs budget e → OpenSame spec ys budget e
    same_still e s = (instance xs s.0, side e.left s.0 s.1, side e.right s.0 s.2)

    different_still : (e : Equation) → OpenDiffer spec zs budget e → OpenDiffer spec ys budget e
    different_still e s = (
      instance xs s.0,
      instance xs s.1,
      differ_still s.0 s.1 s.2,
      side e.left s.0 s.3,
      side e.right s.1 s.4,
    )

    conclusions : (es : List Equation) (r : Verdict) → OpenConclusionsSay spec zs budget es r →
        OpenConclusionsSay spec ys budget es r
    conclusions [] r s = s
    conclusions (e ∷ es) r (inl s) = inl (same_still e s.0, s.1)
    conclusions (e ∷ es) r (inr s) = inr (different_still e s.0, conclusions es r s.1)

    pub verdict_still : (es cs : List Equation) (r : Verdict) → OpenPremisesSay spec zs budget es cs r →
        OpenPremisesSay spec ys budget es cs r
    verdict_still [] cs r s = conclusions cs r s
    verdict_still (e ∷ es) cs r (inl s) = inl (different_still e s.0, s.1)
    verdict_still (e ∷ es) cs r (inr s) = inr (same_still e s.0, verdict_still es cs r s.1)
