-- Why a closing step could not close a node, by the claim that is known.
use Rattle.std.proofs.Common.{◌≡◌, ◌⊎◌, ℕ, ◌<◌, List, Bool, true, Some, inl, inr, take, refl, sym, ◌∙◌, ap, subst}
use Rattle.std.proofs.Common.{arith, length}
use Rattle.std.specs.Prelude.{slice_get, slice_set, Contains}
use Rattle.std.specs.List.{AllByRecursion}
use Rattle.std.proofs.lemmas.Option.{slice_get_within}
use Rattle.term_core.specs.Tree.{Tree}
use Rattle.term_core.proofs.Items.{all_at_or}
use Rattle.spec_core.specs.declared.records.Spec.{Spec}
use Rattle.spec_core.specs.WellSorted.{IsWellSorted}
use Rattle.clause_core.specs.declared.answers.Children.{Children}
use Rattle.clause_core.specs.declared.answers.Reference.{Reference}
use Rattle.clause_core.specs.declared.clauses.Clause.{Clause}
use Rattle.clause_core.specs.declared.clauses.Relation.TheVariants.{Less, Same}
use Rattle.clause_core.specs.declared.reports.Report.{Report}
use Rattle.clause_core.specs.declared.steps.Step.{Step}
use Rattle.clause_core.specs.ClauseLaws.{OneRelation}
use Rattle.clause_core.specs.Tidied.{goal_clause}
use Rattle.acceptance.specs.Accepting.{IsAccepted}
use Rattle.acceptance.specs.Blocks.{nodes_of, StepMakes}
use Rattle.acceptance.specs.Claims.{ProvedBefore}
use Rattle.acceptance.specs.Strict.{Strict, strict, AllAreAllowed, ReferenceIsAllowed}
use Rattle.script_trim.specs.Closing.{closing_steps}
use Rattle.script_trim.specs.Cut.{new_number, staying}
use Rattle.script_trim.specs.Made.{reference_renumbered, made_renumbered, cut_made}
use Rattle.script_trim.specs.Trimmed.{ProvedClaim, Closes}
use Rattle.block_links.proofs.LinksAlone.{there_mapped}
use Rattle.script_trim.proofs.OneCut.{goal_same, made_same}
use Rattle.script_trim.proofs.Places.{set_same}
use Rattle.script_trim.proofs.QuickTests.{finished, necessary}
use Rattle.script_trim.proofs.Staying.{staying_at}
use Rattle.script_trim.proofs.StayingChildren.{stays_before}

-- a node isn't closed by itself: if the reference to it is Same it isn't allowed
module _ (stays : ℕ → Bool) (made : List Children) (i : ℕ) (closed : Children) (kept : stays i ≡ true)
    (within : i < length made) where
  abbrev cut_block : List Children
  cut_block = cut_made stays made i closed

  entry : slice_get cut_block (new_number stays i) ≡ Some (made_renumbered stays closed)
  entry =
      there_mapped (made_renumbered stays) (staying stays 0 (slice_set made i closed)) (new_number stays i) closed
      (staying_at stays i (slice_set made i closed) closed (set_same made i closed within) kept)

  pub not_by_itself :
      (a : ℕ) (r : Reference) → slice_get closed.refs a ≡ Some r → r.node ≡ i → r.relation ≡ Same →
      AllAreAllowed cut_block → ⊥
  not_by_itself a r get node same all =
      either ((all (new_number stays i)).refs (new_number stays i) Same (
        made_renumbered stays closed,
        a,
        reference_renumbered stays r,
        entry,
        there_mapped (reference_renumbered stays) closed.refs a r get,
        same,
        ap (λ n. new_number stays n) (sym node),
      ))
    where
      falls : Strict (cut_made stays made i closed) (new_number stays i) → ⊥
      falls (strict f later) =
          strict_not (f (new_number stays i) Same (inr (
            made_renumbered stays closed,
            a,
            reference_renumbered stays r,
            entry,
            there_mapped (reference_renumbered stays) closed.refs a r get,
            same,
            ap (λ n. new_number stays n) (sym node),
          )))
        where
          strict_not : (Same ≡ Less) ⊎ ((Same ≡ Same) × (new_number stays i < new_number stays i)) → ⊥
          strict_not (inl e) = cc
          strict_not (inr h) = omega (arith, h.1)

      either : ReferenceIsAllowed (cut_made stays made i closed) (new_number stays i) (new_number stays i) Same → ⊥
      either (inl e) = (let q : Same ≡ Less = e in cc)
      either (inr (e, inl l)) = omega (arith, l)
      either (inr (e, inr s)) = falls s

module _ (above : Tree → Tree → Type 0) (one : OneRelation above) (spec : Spec) (fine : IsWellSorted spec)
    (report : Report) (accepted : IsAccepted above spec report) (number : ℕ)
    (claim : ProvedClaim above spec report number) where
  abbrev usable : ℕ → Type 0
  usable = ProvedBefore spec (take number report.claims)

  -- the step can't be taken at node i, or what it makes isn't allowed
  abbrev pub CanNotClose : ℕ → Step → Type 0
  CanNotClose i step =
      (stays :
      ℕ → Bool) → stays i ≡ true → (closed : Children) →
      StepMakes above spec usable (nodes_of (goal_clause claim.goal) (take i claim.made)) i step closed →
      AllAreAllowed (cut_made stays claim.made i closed) → ⊥

  -- a node is not closed if no closing step could
  pub not_closed :
      (i : ℕ) (node : Clause) → slice_get (nodes_of (goal_clause claim.goal) claim.made) i ≡ Some node →
      AllByRecursion (CanNotClose i) (closing_steps spec (nodes_of (goal_clause claim.goal) claim.made) node) →
      (step : Step) (rest : List Step) → Closes above spec report number i step rest → ⊥
  not_closed i node at all step rest c =
      let d = necessary above one spec fine report accepted number i step rest c in
      let g = goal_same above one spec fine report number number refl d.claim claim in
      let m = made_same above one spec fine report number number refl d.claim claim in
      let ns : nodes_of (goal_clause d.claim.goal) d.claim.made ≡ nodes_of (goal_clause claim.goal) claim.made =
      (λ k. nodes_of (goal_clause (g k)) (m k)) in
      let s : Some d.node ≡ Some node = sym d.node_is ∙ ap (λ xs. slice_get xs i) ns ∙ at in
      let e : d.node ≡ node = cc in
      let member : Contains (closing_steps spec (nodes_of (goal_clause claim.goal) claim.made) node) step =
      subst (λ xs. Contains xs step) (λ k. closing_steps spec (ns k) (e k)) d.closing in
      let n : CanNotClose i step = subst (CanNotClose i) member.2
      (all_at_or (CanNotClose i) (closing_steps spec (nodes_of (goal_clause claim.goal) claim.made) node) member.0
      step all member.1) in
      let within : i < length d.claim.steps = omega (
        arith,
        slice_get_within (nodes_of (goal_clause d.claim.goal) d.claim.made) i d.node d.node_is,
        finished above one spec fine report accepted number d.claim,
      ) in
      let kept = stays_before d.cut.stays i above spec usable (goal_clause d.claim.goal) d.claim.steps d.claim.made
      d.claim.makes (finished above one spec fine report accepted number d.claim) d.cut.which within i
      (omega arith) in
      let closes : StepMakes above spec usable (nodes_of (goal_clause claim.goal) (take i claim.made)) i step
      d.closed = subst (λ xs. StepMakes above spec usable xs i step d.closed)
      (λ k. nodes_of (goal_clause (g k)) (take i (m k))) d.closes in
      n d.cut.stays kept d.closed closes (subst (λ ms. AllAreAllowed (cut_made d.cut.stays ms i d.closed)) m d.allowed)
