-- A step that is added to the goal under work, after its tests.
use Rattle.std.proofs.Common.{◌≡◌, ℕ, ◌+◌, ◌-◌, ◌<◌, List, [], ◌∷◌, ◌++◌, Ok, Err, inl, inr, refl, sym, ◌∙◌, ap, subst}
use Rattle.std.proofs.Common.{arith, length}
use Rattle.std.proofs.Common.{length-append, get_or, map, take}
use Rattle.std.specs.Prelude.{Some, slice_get}
use Rattle.std.proofs.lemmas.List.{length-map}
use Rattle.std.proofs.lemmas.Option.{slice_get_read}
use Rattle.term_core.specs.Tree.{Tree}
use Rattle.spec_core.specs.declared.records.Goal.{Goal}
use Rattle.spec_core.specs.declared.records.Spec.{Spec}
use Rattle.spec_core.specs.WellSorted.{IsWellSorted}
use Rattle.clause_core.specs.declared.answers.Child.{Child}
use Rattle.clause_core.specs.declared.answers.Children.{Children}
use Rattle.clause_core.specs.declared.reports.Claim.{Claim}
use Rattle.clause_core.specs.declared.steps.Step.{Step}
use Rattle.clause_core.specs.ClauseLaws.{OneRelation}
use Rattle.clause_core.proofs.OneReferred.{one_get}
use Rattle.acceptance.specs.AllowedAnswers.{IsWholeBlock}
use Rattle.acceptance.specs.Blocks.{clauses_of}
use Rattle.acceptance.specs.Strict.{AllAreAllowed}
use Rattle.block_links.specs.Links.{links_of}
use Rattle.block_steps.specs.declared.taken_steps.TakenSteps.{TakenSteps}
use Rattle.block_steps.specs.Taken.{TakesBack}
use Rattle.block_steps.proofs.Taking.{length-clauses}
use Rattle.inference_rules.specs.Answers.{clauses_of as clauses_in}
use Rattle.proof_script.specs.Steps.{step_line}
use Rattle.proof_script.specs.Words.{line_text, lines_text}
use Rattle.session_core.specs.declared.errors.SessionError.{SessionError}
use Rattle.session_core.specs.declared.errors.SessionError.TheVariants.{GoalUnderWork, UnknownGoal, GoalTwice, NoGoal}
use Rattle.session_core.specs.declared.errors.SessionError.TheVariants.{Step as undefined}
use Rattle.session_core.specs.declared.errors.SessionError.TheVariants.{NotSmaller, Limit, OutOfMemory}
use Rattle.session_core.specs.States.{Work, nodes_at, with_step}
use Rattle.session_core.specs.Accepting.{IsNeither, NextMakes, text_length}
use Rattle.session_core.specs.Kept.{Kept}
use Rattle.session_core.specs.Lengths.{proved_line, steps_length}
use Rattle.session_core.specs.Refusals.{IsNotSmaller}
use Rattle.session_core.specs.Taking.{IsOpenGoal, IsStopped, IsTaken, TestsLast, with_made}
use Rattle.session_core.proofs.LastEntries.{shorter}
use Rattle.session_core.proofs.OpenBlocks.{allowed_after, finished_without, links_are_allowed, nodes_after}
use Rattle.session_core.proofs.OpenBlocks.{none_without, whole_after}

-- the goal that is read at a place
pub goal_read : (goals : List Goal) (n : ℕ) (g h : Goal) → n < length goals → g ≡ get_or goals n g →
    slice_get goals n ≡ Some h → g ≡ h
goal_read goals n g h lt is at = one_get goals n n g h (slice_get_read goals (length goals) n g refl lt is) at refl

-- what was added is taken back
pub taken_back : (old added new : TakenSteps) (m : Children) → clauses_in added.nodes.items ≡ clauses_in
    old.nodes.items ++ clauses_of m → added.links.items ≡ old.links.items ++ links_of m ∷ [] → TakesBack added new →
    (new.links.items ≡ old.links.items) × (clauses_in new.nodes.items ≡ clauses_in old.nodes.items)
taken_back old added new m nodes links b =
    let t = b.last old.links.items (links_of m) links in
    let many = length-clauses added.nodes.items in
    let counted : length (clauses_of m) ≡ length (links_of m).clauses = length-map m.clauses (λ (d : Child). d.clause)
    ∙ sym (length-map m.clauses _) in (
      t.0,
      t.1 ∙ ap (λ n. take (n - length (links_of m).clauses) (clauses_in added.nodes.items)) (sym many) ∙
          shorter (clauses_in added.nodes.items) (clauses_in old.nodes.items) (clauses_of m)
          (length (links_of m).clauses) nodes counted,
    )

module _ (above : Tree → Tree → Type 0) (spec : Spec) (fine : IsWellSorted spec) (one : OneRelation above)
    (claims : List Claim) (work : Work) (kept : Kept) (o : IsOpenGoal above spec claims work kept) (step : Step)
    (m : Children) (next : NextMakes above spec claims work step m) (added : TakenSteps) (nodes : clauses_in
    added.nodes.items ≡ kept.nodes ++ clauses_of m) (links : added.links.items ≡ kept.links ++ links_of m ∷ []) where
  abbrev after : Work
  after = with_step work step m

  abbrev count : ℕ
  count = length added.nodes.items

  counted : count ≡ length kept.nodes + length (clauses_of m)
  counted = omega (
    arith,
    length-clauses added.nodes.items,
    ap (λ ns. length ns) nodes,
    length-append kept.nodes (clauses_of m),
  )

  there : count ≡ length added.links.items → count ≡ length (kept.links ++ links_of m ∷ [])
  there e = e ∙ ap (λ ls. length ls) links

  -- if each node has a step, the links are those of a whole block
  pub whole_added : count ≡ length added.links.items → IsWholeBlock added.links.items
  whole_added e = subst IsWholeBlock (sym links) (whole_after above spec fine one claims work kept o step m next count
      counted (there e))

  module _ (related : IsNeither m → ⊥) (name : List ℕ) (named : name ≡ work.goal.name) (total : ℕ) (is : total ≡
      steps_length spec.sig (work.steps ++ step ∷ [])) where
    text : text_length spec.sig after ≡ length (line_text spec.sig (proved_line name count)) + total
    text =
        let a = length-append (line_text spec.sig (proved_line after.goal.name (length (nodes_at after)))) (lines_text
        spec.sig (map step_line after.steps)) in
        let n : count ≡ length (nodes_at after) = nodes_after above spec fine one claims work kept o step m next count
        counted in
        let l : length (line_text spec.sig (proved_line name count)) ≡ length (line_text spec.sig (proved_line
        work.goal.name (length (nodes_at after)))) = ap (λ x. length (line_text spec.sig (proved_line x count)))
        named ∙ ap (λ k. length (line_text spec.sig (proved_line work.goal.name k))) n in
        omega (arith, a, l, is)

    -- the step is refused by its tests
    pub stopped_last : (e : SessionError) → TestsLast count added.links.items name total (Err e) →
        IsStopped above spec claims work step e
    stopped_last NotSmaller h = (
      m,
      next,
      inr (
        finished_without above spec fine one claims work kept o step m next count counted (there h.0),
        λ a. h.1 (subst AllAreAllowed (sym links) (links_are_allowed above spec fine one claims work kept o step m
            next a)),
      ),
    )
    stopped_last Limit h = (m, next, not_smaller, omega (arith, text, h.1 spec.sig))
      where
        not_smaller : IsNotSmaller m after → ⊥
        not_smaller (inl n) = related n
        not_smaller (inr (w, not)) =
            let e : count ≡ length added.links.items = none_without above spec fine one claims work kept o step m next
            count counted w ∙ ap (λ ls. length ls) (sym links) in
            not (allowed_after above spec fine one claims work kept o step m next (subst AllAreAllowed links (h.0 e)))
    stopped_last OutOfMemory h = tt
    stopped_last (undefined why) h = absurd h
    stopped_last GoalUnderWork h = absurd h
    stopped_last UnknownGoal h = absurd h
    stopped_last GoalTwice h = absurd h
    stopped_last NoGoal h = absurd h

    -- the step passes them
    pub taken_last : TestsLast count added.links.items name total (Ok tt) → (new : Kept) →
        new ≡ with_made above spec work step m kept → IsTaken above spec claims work step kept new
    taken_last h new e = record {
      made = m;
      makes = next;
      related = related;
      allowed = λ w.
          let e : count ≡ length added.links.items = none_without above spec fine one claims work kept o step m next
          count counted w ∙ ap (λ ls. length ls) (sym links) in
          allowed_after above spec fine one claims work kept o step m next (subst AllAreAllowed links (h.0 e));
      short = omega (arith, text, h.1 spec.sig);
      is = e;
    }
