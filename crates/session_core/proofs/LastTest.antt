-- The test of a step that leaves nothing pending is that of its whole block.
use Rattle.std.proofs.Common.{◌≡◌, ℕ, ◌+◌, List, [], ◌∷◌, ◌++◌, Some, inl, inr, refl, sym, ◌∙◌, subst, arith, length}
use Rattle.std.specs.Prelude.{slice_get}
use Rattle.term_core.specs.Tree.{Tree}
use Rattle.spec_core.specs.declared.records.Spec.{Spec}
use Rattle.clause_core.specs.declared.answers.Children.{Children}
use Rattle.clause_core.specs.declared.clauses.Relation.{Relation}
use Rattle.clause_core.specs.declared.clauses.Relation.TheVariants.{Less, Same, Neither}
use Rattle.clause_core.specs.declared.steps.Step.{Step}
use Rattle.clause_core.specs.Tidied.{goal_clause}
use Rattle.acceptance.specs.AllowedAnswers.{IsWholeBlock}
use Rattle.acceptance.specs.Claims.{ProvedBefore}
use Rattle.acceptance.specs.Strict.{first_child, ChildIsAllowed, ReferenceIsAllowed, AllAreAllowed}
use Rattle.acceptance.proofs.WholeBlocks.{whole_block}
use Rattle.session_core.specs.declared.commands.Command.{Command}
use Rattle.session_core.specs.States.{Work, State, with_step, without_step}
use Rattle.session_core.specs.Accepting.{IsNeither, NextMakes}
use Rattle.session_core.specs.Refusals.{IsNotSmaller}
use Rattle.session_core.specs.Sessions.{IsStateOf}
use Rattle.session_core.specs.Sound.{AreUnderWork}
use Rattle.session_core.proofs.Sound.{more_steps, enough_nodes, states_sound}

last_at : (made : List Children) (m : Children) → slice_get (made ++ m ∷ []) (length made) ≡ Some m
last_at [] m = refl
last_at (n ∷ made) m = last_at made m

neither_child : (made : List Children) (r : Relation) → r ≡ Neither → ChildIsAllowed made r → ⊥
neither_child made r e (inl l) = let k : Neither ≡ Less = sym e ∙ l in cc
neither_child made r e (inr s) = let k : Neither ≡ Same = sym e ∙ s in cc

neither_reference : (made : List Children) (k j : ℕ) (r : Relation) → r ≡ Neither → ReferenceIsAllowed made k j r → ⊥
neither_reference made k j r e (inl l) = let q : Neither ≡ Less = sym e ∙ l in cc
neither_reference made k j r e (inr s) = let q : Neither ≡ Same = sym e ∙ s.0 in cc

pub allowed_related : (made : List Children) (m : Children) → AllAreAllowed (made ++ m ∷ []) → IsNeither m → ⊥
allowed_related made m a (inl (i, d, at, e)) =
    let all = made ++ m ∷ [] in
    neither_child all d.relation e ((a (length made)).children (first_child all (length made) + i) d.relation (
      m,
      i,
      d,
      last_at made m,
      at,
      refl,
      refl,
    ))
allowed_related made m a (inr (i, r, at, e)) =
    let all = made ++ m ∷ [] in
    neither_reference all (length made) r.node r.relation e ((a (length made)).refs r.node r.relation (
      m,
      i,
      r,
      last_at made m,
      at,
      refl,
      refl,
    ))

pub never : (step : Step) (work : Work) (m : Children) → AllAreAllowed (with_step work step m).made →
    IsNotSmaller m (with_step work step m) → ⊥
never step work m a (inl n) = allowed_related work.made m a n
never step work m a (inr h) = h.1 a

module _ (above : Tree → Tree → Type 0) (spec : Spec) where
  pub last_whole : (commands : List Command) (state : State) → IsStateOf above spec commands state →
      (work : Work) (step : Step) (m : Children) → state.work ≡ Some work →
      NextMakes above spec state.claims work step m → without_step (with_step work step m) ≡ 0 →
      IsWholeBlock (with_step work step m).made
  last_whole commands state p work step m is next last =
      let s = states_sound above spec commands state p in
      let under : AreUnderWork above spec state.claims (Some work) =
      subst (λ w. AreUnderWork above spec state.claims w) is s.under_work in
      let enough = enough_nodes above spec state.claims work under step m in
      let after = with_step work step m in
      whole_block above spec (ProvedBefore spec state.claims) (goal_clause work.goal) after.steps after.made
      (more_steps above spec state.claims work under step m next) (omega (arith, last, enough))
