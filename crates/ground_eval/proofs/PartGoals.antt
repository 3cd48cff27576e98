-- What the walks over a goal with constants say of the goal.
use Rattle.std.proofs.Common.{◌≡◌, ◌≢◌, ℕ, zero, suc, ◌+◌, ◌-◌, ◌<◌, ◌≤◌, List, [], ◌∷◌, ◌++◌, Option, None, Some, inl}
use Rattle.std.proofs.Common.{inr, refl, ap, sym, ◌∙◌, subst, arith, length, map, take}
use Rattle.std.specs.Prelude.{slice_get}
use Rattle.std.specs.List.{AllByRecursion}
use Rattle.std.proofs.lemmas.Option.{slice_get_within}
use Rattle.std.proofs.lemmas.List.{length-map, length-append, append-nil, nil_from_length}
use Rattle.term_core.specs.Tree.{Tree, var}
use Rattle.term_core.specs.declared.ids.SortId.{SortId}
use Rattle.spec_core.specs.declared.records.Equation.{Equation}
use Rattle.spec_core.specs.declared.records.Goal.{Goal}
use Rattle.spec_core.specs.declared.records.Spec.{Spec}
use Rattle.spec_core.specs.declared.records.Verdict.{Verdict}
use Rattle.spec_core.specs.declared.records.Verdict.TheVariants.{Holds, Fails, Spent}
use Rattle.spec_core.specs.Sorts.{IsBuilt}
use Rattle.spec_core.specs.Overlap.{NoOverlap}
use Rattle.spec_core.specs.Groups.{GroupsAreWhole}
use Rattle.spec_core.specs.WellSorted.{IsWellSorted, EquationsAreSorted, GoalIsSorted, sorts_of}
use Rattle.spec_core.specs.Truth.{AreValuesOf, AllHold, AllBroken}
use Rattle.spec_core.specs.Verdict.{ConclusionsSay, PremisesSay, IsVerdict}
use Rattle.spec_core.proofs.Determined.{occurs_within}
use Rattle.value_bank.specs.Cells.{Cell}
use Rattle.value_bank.specs.declared.bank.ValueId.{ValueId}
use Rattle.rule_code.specs.Programs.{Program}
use Rattle.rule_code.proofs.Testing.{terms_count}
use Rattle.bank_machine.specs.Runs.{StandAt}
use Rattle.open_evaluation.specs.Shifted.{closed, shifted_goal}
use Rattle.open_evaluation.proofs.ShiftedRules.{shifted_goal_sorted}
use Rattle.open_evaluation.specs.OpenGives.{VariablesAreBelow}
use Rattle.open_evaluation.specs.WalkLaws.{AreInstances}
use Rattle.open_evaluation.specs.OpenVerdict.{opened, IsOpenVerdict}
use Rattle.open_evaluation.proofs.OpenInstances.{verdict_still}
use Rattle.open_evaluation.proofs.OpenValues.{all_built_open}
use Rattle.open_evaluation.proofs.OpenWalks.{opened_instance, verdict_under}
use Rattle.ground_eval.specs.declared.comparing.SidePair.{SidePair}
use Rattle.ground_eval.specs.declared.marks.Constants.{Constants}
use Rattle.ground_eval.specs.Entries.{AreEntries, SayOfAll, AreEntriesAt}
use Rattle.ground_eval.specs.Opened.{AreFirstValues, AllHaveVerdict, partial}
use Rattle.ground_eval.specs.OpenSides.{Setting, with_constants, IsSet, CanOpenAll, GoalOpens, IsPartial}
use Rattle.ground_eval.specs.Prepared.{CanCompareAll, IsPrepared}
use Rattle.ground_eval.specs.Sides.{IsDecided}
use Rattle.ground_eval.proofs.FixedSides.{decided_back}
use Rattle.ground_eval.proofs.GoalSides.{values_built}
use Rattle.ground_eval.proofs.OpenGoals.{setting, are_values, can_open, values_still, values_few, item_there}
use Rattle.ground_eval.proofs.OpenTerms.{not_both}
use Rattle.ground_eval.proofs.OpenWalking.{NoneIsBoth, one_open_verdict}
use Rattle.ground_eval.proofs.SharedSides.{can_compare, goal_ready, values_count}

take_whole : {X : Type 0} (xs : List X) (n : ℕ) → length xs ≤ n → take n xs ≡ xs
take_whole [] zero le = refl
take_whole [] (suc n) le = refl
take_whole (x ∷ xs) zero le = absurd (omega (arith, le))
take_whole (x ∷ xs) (suc n) le = ap (λ ys. x ∷ ys) (take_whole xs n (omega (arith, le)))

-- places are as many as values
pub places_count : (cells : List Cell) (ids : List ValueId) (values : List Tree) → StandAt cells ids values →
    length ids ≡ length values
places_count cells ids values stand =
    let long : length (map (λ (id : ValueId). id.0) ids) ≡ length ids = length-map ids _ in
    omega (arith, long, terms_count cells (map (λ (id : ValueId). id.0) ids) values stand)

-- if the verdict is Fails the goal fails
module _ (spec : Spec) (values : List Tree) (budget : ℕ) where
  broken_all : (es : List Equation) → ConclusionsSay spec values budget es Fails → AllBroken spec values es
  broken_all [] h = tt
  broken_all (e ∷ es) (inl h) = absurd (let q : Fails ≡ Spent = h.1 in cc)
  broken_all (e ∷ es) (inr (inl h)) = absurd (let q : Fails ≡ Holds = h.1 in cc)
  broken_all (e ∷ es) (inr (inr h)) = ((h.0.0, h.0.1, h.0.3.0, h.0.4.0, h.0.2, h.0.3.1, h.0.4.1), broken_all es h.1)

  fails_all : (es cs : List Equation) → PremisesSay spec values budget es cs Fails → AllHold spec values es
      × AllBroken spec values cs
  fails_all [] cs h = (tt, broken_all cs h)
  fails_all (e ∷ es) cs (inl h) = absurd (let q : Fails ≡ Spent = h.1 in cc)
  fails_all (e ∷ es) cs (inr (inl h)) = absurd (let q : Fails ≡ Holds = h.1 in cc)
  fails_all (e ∷ es) cs (inr (inr h)) =
      let r = fails_all es cs h.1 in
      (((h.0.0, h.0.1.0, h.0.2.0, h.0.1.1, h.0.2.1), r.0), r.1)

  pub decided_by : (goal : Goal) (r : Verdict) → IsVerdict spec values budget goal r →
      IsDecided spec values budget goal r
  decided_by goal Holds h = h
  decided_by goal Fails h = (h, fails_all goal.premises goal.conclusions h)
  decided_by goal Spent h = λ apart whole. h

module _ {old : Spec} {goal : Goal} {p : Program} {shifted : Goal} {constants : Constants}
    {premises conclusions : List SidePair} (inside : IsPartial old goal p shifted constants premises
    conclusions) (fine : IsWellSorted old) (sorted : GoalIsSorted old.sig goal) where
  abbrev sorts : List SortId
  sorts = inside.opened.sorts

  abbrev ctx : List SortId
  ctx = sorts_of goal.vars

  abbrev n : ℕ
  n = length goal.vars

  abbrev pub there : Goal
  there = shifted_goal old.sig.constructors (length sorts) goal

  long : length ctx ≡ n
  long = length-map goal.vars _

  prepared : IsPrepared p there premises conclusions
  prepared = subst (λ (g : Goal). IsPrepared p g premises conclusions) inside.opened.same inside.prepared

  sorted_there : GoalIsSorted p.spec.sig there
  sorted_there = shifted_goal_sorted old p.spec sorts inside.opened.extends.more fine.signature goal sorted

  module _ (terms : List Tree) where
    -- the goal's sides can be compared under values of all variables
    pub whole_ready : (cells : List Cell) (ids : List ValueId) → StandAt cells ids terms →
        AreValuesOf p.spec ctx terms → {ps qs : List SidePair} → ps ≡ premises → qs ≡ conclusions →
        CanCompareAll p cells ps ids there.premises terms × CanCompareAll p cells qs ids there.conclusions terms
    whole_ready cells ids stand are {ps} {qs} e d = goal_ready p there sorted_there ps qs
        (rw (e, d) prepared) cells ids terms stand are

    module _ (first : AreFirstValues old goal terms) where
      pub no_more_than : length terms ≤ n
      no_more_than = omega (arith, values_few old ctx terms first, long)

      module _ (all : length terms ≡ n) where
        all_values : AreValuesOf old ctx terms
        all_values = subst (λ ss. AreValuesOf old ss terms)
            (take_whole ctx (length terms) (omega (arith, all, long))) first

        pub values_of_all : AreValuesOf p.spec ctx terms
        values_of_all = values_still old p.spec sorts fine inside.opened.extends ctx terms all_values

        -- no value can be added
        pub whole_part : (budget : ℕ) (r : Verdict) → IsDecided p.spec terms budget there r →
            AllHaveVerdict old goal terms budget r
        whole_part budget r h rest are =
            let count = values_count old ctx (terms ++ rest) are in
            let empty : rest ≡ [] = nil_from_length rest (omega (arith, count, length-append terms rest, all, long)) in
            let e : terms ++ rest ≡ terms = ap (λ xs. terms ++ xs) empty ∙ append-nil terms in
            subst (λ xs. IsDecided old xs budget goal r) (sym e)
            (decided_back old p.spec sorts fine inside.opened.extends terms
            (values_built old ctx terms all_values) budget goal r sorted (omega (arith, all, long)) h)

  -- entries for all variables
  module _ (zs : List Tree) (fit : AreEntries old 0 ctx zs) (all : length zs ≡ n) where
    pub count : length zs ≡ length ctx
    count = omega (arith, all, long)

    abbrev pub here : Setting
    here = setting old p.spec sorts fine inside.opened.extends goal inside.opened.constants zs fit count

    pub is_set : IsSet here p constants
    is_set = record {
      fine = fine;
      extends = inside.opened.extends;
      first = inside.first;
      past = omega (
        arith,
        inside.past,
        inside.opened.extends.more.constructors,
      );
    }

    pub open_ready : (cells : List Cell) (ids : List ValueId) → StandAt cells ids (with_constants here) →
        {ps qs : List SidePair} → ps ≡ premises → qs ≡ conclusions →
        CanOpenAll here p cells ps ids goal.premises × CanOpenAll here p cells qs ids goal.conclusions
    open_ready cells ids stand {ps} {qs} e d =
        let code : IsPrepared p there ps qs = rw (e, d) prepared in
        let are = are_values old p.spec sorts fine inside.opened.extends goal inside.opened.constants zs fit count in (
          can_open old p.spec sorts fine inside.opened.extends goal inside.opened.constants zs fit count p
              goal.premises refl sorted.premises cells ps ids
              (can_compare p there there.premises sorted_there.premises cells ps ids (with_constants here)
              code.of_premises stand are),
          can_open old p.spec sorts fine inside.opened.extends goal inside.opened.constants zs fit count p
              goal.conclusions refl sorted.conclusions cells qs ids
              (can_compare p there there.conclusions sorted_there.conclusions cells qs ids
              (with_constants here) code.of_conclusions stand are),
        )

    none_both : (apart : NoOverlap old) (whole : GroupsAreWhole old) (budget : ℕ) (cells : List Cell)
        (pairs : List SidePair) (ids : List ValueId) (es : List Equation) →
        CanOpenAll here p cells pairs ids es → NoneIsBoth here budget apart whole es
    none_both apart whole budget cells pairs ids es can k e at =
        let pair = item_there pairs k (omega (arith, slice_get_within es k e at, can.count)) in
        let o = can.each k e pair.0 at pair.1 in
        not_both here p.spec fine inside.opened.extends budget e o.compared.sorted o.left o.right

    within : (ys : List Tree) → AreValuesOf old ctx ys → (es : List Equation) →
        EquationsAreSorted old.sig ctx es → (k : ℕ) (e : Equation) → slice_get es k ≡ Some e →
        VariablesAreBelow (length ys) e.left × VariablesAreBelow (length ys) e.right
    within ys are es fit k e at =
        let h = fit k e at in
        let count = values_count old ctx ys are in (
          λ j o. omega (arith, count, occurs_within old.sig ctx e.left h.0 h.1 j o),
          λ j o. omega (arith, count, occurs_within old.sig ctx e.right h.0 h.2 j o),
        )

    -- the verdict of the open walk is that of all values that are instances of the entries
    under : (budget : ℕ) (r : Verdict) → IsOpenVerdict old zs budget goal r → (ys : List Tree) →
        AreValuesOf old ctx ys → AreInstances ys zs ys → IsDecided old ys budget goal r
    under budget r h ys are inst =
        let built = values_built old ctx ys are in
        let e : ys ≡ ys ++ [] = sym (append-nil ys) in
        let are_still : AreValuesOf old ctx (ys ++ []) = subst (AreValuesOf old ctx) e are in
        let built_still = subst (AllByRecursion (IsBuilt old.sig)) e built in
        let o : IsOpenVerdict old (opened ys n) budget goal r = verdict_still old fine ys
        (all_built_open old.sig ys built) zs (opened ys n) (λ k. opened_instance ys n (var k) ∙ inst k)
        budget goal.premises goal.conclusions r h in
        let v : IsVerdict old (ys ++ []) budget goal r = verdict_under old fine ys [] built_still n budget
        goal.premises goal.conclusions r (within (ys ++ []) are_still goal.premises sorted.premises)
        (within (ys ++ []) are_still goal.conclusions sorted.conclusions) o in
        decided_by old ys budget goal r (subst (λ xs. IsVerdict old xs budget goal r) (sym e) v)

    pub said : (budget : ℕ) (cells : List Cell) (ids : List ValueId) → StandAt cells ids (with_constants here) →
        (r : Option Verdict) → GoalOpens here budget goal r → SayOfAll old goal budget zs r
    said budget cells ids stand None h = λ r apart whole o. h r apart whole o
    said budget cells ids stand (Some v) h =
        let o = open_ready cells ids stand refl refl in (
          under budget v h,
          (λ r apart whole x. one_open_verdict here budget apart whole goal.premises goal.conclusions r v
              (none_both apart whole budget cells premises ids goal.premises o.0)
              (none_both apart whole budget cells conclusions ids goal.conclusions o.1) x h),
        )

  -- the numbers of the constants in the bank's terms
  pub constants_count : p.spec.sig.constructors - old.sig.constructors ≡ length sorts
  constants_count = omega (arith, inside.opened.extends.more.constructors)

  pub room : (k : ℕ) (s : SortId) → slice_get ctx k ≡ Some s → s.0 ≢ 0 → constants.from + k < constants.to
  room k s at other = omega (
    arith,
    slice_get_within sorts k s (inside.opened.constants k s at other),
    inside.first,
    inside.past,
    inside.opened.extends.more.constructors,
  )

  -- entries that stand for all variables
  pub record StandForAll (cells : List Cell) (ids : List ValueId) (zs : List Tree) : Type 0 where
    pub fit : AreEntries old 0 ctx zs
    pub all : length zs ≡ n
    pub stand : StandAt cells ids (map (closed old.sig.constructors (length sorts)) zs)

  pub stand_for_all : (cells : List Cell) (ids : List ValueId) (zs : List Tree) →
      AreEntriesAt (partial old goal p.spec) cells ids zs → length ids ≡ n → StandForAll cells ids zs
  stand_for_all cells ids zs e all =
      let stand : StandAt cells ids (map (closed old.sig.constructors (length sorts)) zs) = subst
      (λ u. StandAt cells ids (map (closed old.sig.constructors u) zs)) constants_count e.stand in
      record {
        fit = e.fit;
        all = omega (
          arith,
          all,
          places_count cells ids (map (closed old.sig.constructors (length sorts)) zs) stand,
          length-map zs (closed old.sig.constructors (length sorts)),
        );
        stand = stand;
      }
