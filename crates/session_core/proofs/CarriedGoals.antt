-- A goal that is begun or refused, in its state.
use Rattle.std.proofs.Common.{◌≡◌, ℕ, List, [], ◌∷◌, ◌++◌, Some, None, Ok, inl, inr, refl, sym, ◌∙◌, subst}
use Rattle.std.proofs.Common.{map}
use Rattle.std.specs.Prelude.{Contains, slice_get}
use Rattle.term_core.specs.Tree.{Tree}
use Rattle.spec_core.specs.declared.records.Goal.{Goal}
use Rattle.spec_core.specs.declared.records.Spec.{Spec}
use Rattle.spec_core.specs.WellSorted.{IsWellSorted}
use Rattle.clause_core.specs.ClauseLaws.{OneRelation}
use Rattle.clause_core.specs.Limits.{IsWithin}
use Rattle.clause_core.specs.Tidied.{goal_clause}
use Rattle.acceptance.specs.Claims.{IsClaimed}
use Rattle.session_core.specs.declared.commands.Command.TheVariants.{Goal as of_goal}
use Rattle.session_core.specs.declared.errors.SessionError.TheVariants.{GoalUnderWork, UnknownGoal, GoalTwice, Limit}
use Rattle.session_core.specs.States.{State, begun}
use Rattle.session_core.specs.Accepting.{TakesGoal}
use Rattle.session_core.specs.Kept.{Kept}
use Rattle.session_core.specs.Refusals.{IsRefusedFor}
use Rattle.session_core.specs.Taking.{CarriesOut, HasOpenLast, KeepsSound}
use Rattle.session_core.proofs.OpenGoals.{NoneOpen, open_or_not, open_seen, none_seen, claimed_number, number_claimed}
use Rattle.session_core.proofs.Undoing.{goal_begins}

module _ (above : Tree → Tree → Type 0) (spec : Spec) (fine : IsWellSorted spec) (one : OneRelation above)
    (state : State) (goals : List Kept) (k : KeepsSound above spec state goals) (name : List ℕ) where
  -- a goal is under work
  pub under_work : HasOpenLast goals → IsRefusedFor above spec state (of_goal name) GoalUnderWork
  under_work h = elim (open_or_not above spec fine one state goals k) [
    | inl o ↦ inl (λ e. (let q : Some o.work ≡ None = sym o.under_work ∙ e in cc), refl)
    | inr n ↦ absurd (none_seen above spec fine one state goals k.sound n h)
  ]

  module _ (closed : HasOpenLast goals → ⊥) where
    pub idle : NoneOpen above spec fine one state goals
    idle = elim (open_or_not above spec fine one state goals k) [
      | inl o ↦ absurd (closed (open_seen above spec fine one state goals o))
      | inr n ↦ n
    ]

    -- no goal has the name
    pub unknown : ((number : ℕ) (goal : Goal) → slice_get spec.goals number ≡ Some goal → goal.name ≡ name → ⊥) →
        IsRefusedFor above spec state (of_goal name) UnknownGoal
    unknown none = inr (λ h. h idle.none, inl (λ o. none o.1.0 o.0 o.1.1 o.1.2, refl))

    module _ (number : ℕ) (goal : Goal) (at : slice_get spec.goals number ≡ Some goal) (named : goal.name ≡ name)
      where
        -- the goal is proved
        pub twice : Contains (map (λ (x : Kept). x.number) goals) number → IsRefusedFor above spec state (of_goal name)
            GoalTwice
        twice h =
            let claimed = number_claimed above spec fine state.claims goals idle.finished number goal at h in
            inr (
              λ h. h idle.none,
              inr (
                λ h. h (goal, (number, at, named), tt),
                inl (subst (λ n. IsClaimed n state.claims) named claimed, refl),
              ),
            )

        module _ (unproved : Contains (map (λ (x : Kept). x.number) goals) number → ⊥) where
          first : IsClaimed name state.claims → ⊥
          first h = unproved (claimed_number above spec fine state.claims goals idle.finished number goal at
              (subst (λ n. IsClaimed n state.claims) (sym named) h))

          -- its clause passes a limit
          pub passes : (IsWithin (goal_clause goal) → ⊥) → IsRefusedFor above spec state (of_goal name) Limit
          passes large = inr (
            λ h. h idle.none,
            inr (
              λ h. h (goal, (number, at, named), tt),
              inr (
                first,
                ((goal, (number, at, named), large), refl),
              ),
            ),
          )

          -- the goal is put under work
          pub begins : IsWithin (goal_clause goal) → CarriesOut above spec state (of_goal name) goals (goals ++ record
              { number = number; nodes = goal_clause goal ∷ []; links = []; lengths = [] } ∷ []) (Ok 1)
          begins within =
              let takes : TakesGoal above spec state name (begun state.claims goal) = record {
                idle = idle.none;
                goal = goal;
                named = (number, at, named);
                unproved = first;
                within = within;
                is = refl;
              } in (
                begun state.claims goal,
                takes,
                goal_begins above spec state (begun state.claims goal) name takes goals
                    k.keeps,
                refl,
              )
