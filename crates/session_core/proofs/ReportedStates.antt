-- A session's state: its report, and the node that the next step belongs to.
use Rattle.std.proofs.Common.{◌≡◌, ℕ, List, [], ◌∷◌, ◌++◌, Some, None, inl, inr, refl, sym, ◌∙◌, ap, subst, arith}
use Rattle.std.proofs.Common.{length}
use Rattle.std.specs.Prelude.{MatchOption, Option, slice_get}
use Rattle.std.proofs.lemmas.List.{length-map}
use Rattle.term_core.specs.Tree.{Tree}
use Rattle.spec_core.specs.declared.records.Spec.{Spec}
use Rattle.spec_core.specs.WellSorted.{IsWellSorted}
use Rattle.clause_core.specs.declared.clauses.Clause.{Clause}
use Rattle.clause_core.specs.declared.reports.Claim.{Claim}
use Rattle.clause_core.specs.ClauseLaws.{OneRelation}
use Rattle.clause_core.specs.Tidied.{goal_clause}
use Rattle.acceptance.specs.Claims.{ProvedBefore}
use Rattle.acceptance.proofs.WholeBlocks.{as_many}
use Rattle.block_links.specs.Links.{links_of}
use Rattle.session_core.specs.declared.commands.Command.{Command}
use Rattle.session_core.specs.States.{State, nodes_at, proves_named}
use Rattle.session_core.specs.Kept.{Kept, AreKept}
use Rattle.session_core.specs.Sessions.{IsStateOf}
use Rattle.session_core.specs.Taking.{HasOpenLast, IsOpenAt, KeepsSound}
use Rattle.session_core.specs.Value.{IsOpenNode}
use Rattle.session_core.specs.Written.{AreWritten, BeginWithClaims, steps_in, work_commands}
use Rattle.session_core.proofs.LastEntries.{init, last_same}
use Rattle.session_core.proofs.OpenGoals.{OpenAt, none_seen, open_by, open_counts, open_or_not, open_seen}
use Rattle.session_core.proofs.WrittenCommands.{state_written}

-- an answer says what follows from what it says
pub match_mapped : {X : Type 0} (o : Option X) (N M : Type 0) (P Q : X → Type 0) → (N → M) → ((x : X) → P x → Q x) →
    MatchOption o N P → MatchOption o M Q
match_mapped None N M P Q f g h = f h
match_mapped (Some x) N M P Q f g h = g x h

module _ (above : Tree → Tree → Type 0) (spec : Spec) where
  kept_written : (before claims : List Claim) (kept : List Kept) → AreKept above spec before claims kept →
      AreWritten claims kept
  kept_written before [] [] k = tt
  kept_written before [] (x ∷ kept) k = absurd k
  kept_written before (c ∷ claims) [] k = absurd k
  kept_written before (c ∷ claims) (x ∷ kept) k =
      let work = k.0.0 in
      let says = subst (λ (d : Claim). d ≡ proves_named d.goal (steps_in d.outcome)) (sym k.0.1) refl in
      let many = as_many above spec (ProvedBefore spec before) (goal_clause work.goal ∷ []) 0 work.steps work.made
      k.0.2.makes in
      let steps : length (steps_in c.outcome) ≡ length work.steps = ap (λ (d : Claim). length (steps_in d.outcome))
      k.0.1 in
      let links : length x.links ≡ length work.made = ap (λ ls. length ls) k.0.2.links ∙
      length-map work.made links_of in
      ((says, omega (arith, many, steps, links)), kept_written (before ++ c ∷ []) claims kept k.1)

  module _ (fine : IsWellSorted spec) (one : OneRelation above) (state : State) (goals : List Kept) (k : KeepsSound
      above spec state goals) where
    -- if the last goal has no node without a step, none is under work
    pub none_told : (HasOpenLast goals → ⊥) → state.work ≡ None
    none_told h = elim (open_or_not above spec fine one state goals k) [
      | inl o ↦ absurd (h (open_seen above spec fine one state goals o))
      | inr n ↦ n.none
    ]

    -- its first node without a step is that of the state
    pub open_told : (number : ℕ) (clause : Clause) → IsOpenAt goals number clause → IsOpenNode state number clause
    open_told number clause (h, n, at) =
        let o = open_by above spec fine one state goals k h in
        let same : o.last ≡ h.last = last_same o.front h.front o.last h.last (sym o.is ∙ h.is) in
        let count = open_counts above spec fine one state.claims o.work o.last o.open_goal in
        let links : number ≡ length o.work.steps = n ∙ ap (λ (x : Kept). length x.links) (sym same) ∙ count.1 in
        let nodes : h.last.nodes ≡ nodes_at o.work = ap (λ (x : Kept). x.nodes) (sym same) ∙
        o.open_goal.keeps.nodes in
        (o.work, o.under_work, links, subst (λ ns. slice_get ns number ≡ Some clause) nodes at)

    -- the commands begin with those of the state's claims, which are on the finished goals
    pub claims_told : (commands : List Command) → IsStateOf above spec commands state → (finished : List Kept) →
        ((h : HasOpenLast goals) → finished ≡ h.front) → ((HasOpenLast goals → ⊥) → finished ≡ goals) →
        (b : BeginWithClaims commands finished) × (b.claims ≡ state.claims)
    claims_told commands is finished before all = (
      record {
        claims = state.claims;
        others = work_commands state.work;
        written = written;
        is = state_written above spec commands state is;
      },
      refl,
    )
      where
        written : AreWritten state.claims finished
        written = elim (open_or_not above spec fine one state goals k) [
          | inl o ↦ subst (λ ks. AreWritten state.claims ks) (sym (before (open_seen above spec fine one state goals
              o) ∙ front_is o)) (kept_written [] state.claims o.front o.finished)
          | inr n ↦ subst (λ ks. AreWritten state.claims ks) (sym (all (none_seen above spec fine one state goals
              k.sound n))) (kept_written [] state.claims goals n.finished)
        ]
          where
            front_is : (o : OpenAt above spec fine one state goals) →
                (open_seen above spec fine one state goals o).front ≡ o.front
            front_is o = sym (init goals (open_seen above spec fine one state goals o).front (open_seen above spec
                fine one state goals o).last (open_seen above spec fine one state goals o).is) ∙
                init goals o.front o.last o.is
