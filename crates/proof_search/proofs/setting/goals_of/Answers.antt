use Rattle.std.proofs.Common.{List, [], ◌∷◌, ◌++◌, ℕ, map, refl, ap, sym, ◌∙◌, subst}
use Rattle.std.specs.List.{AllByRecursion}
use Rattle.std.proofs.lemmas.List.{map-append}
use Rattle.term_core.proofs.Items.{all_append}
use Rattle.clause_core.specs.declared.clauses.Clause.{Clause}
use Rattle.proof_search.specs.declared.setting.LemmaGoal.{LemmaGoal}
use Rattle.proof_search.specs.FallingSides.{AreLemmaSides}
use Rattle.fitting_lists.specs.Leading.{IsPlace}
use Rattle.proof_search.specs.Settings.{named}
use Rattle.proof_search.proofs.LemmaClauses.{sorted_goal}
use Rattle.proof_search.proofs.LemmaGoals.{lemma_skipped, added_at, all_lemmas}
use Rattle.proof_search.proofs.Walking.{item_at}
use Rattle.proof_search.proofs.setting.goals_of.Goals as goal

pub loop-number-preserved-then-not-contains : goal.loop-number-preserved-then-not-contains
loop-number-preserved-then-not-contains g c = record {
  are =
      lemma_skipped c.args.lemmas.now c.args.spec.now.goals c.loop-number.number
      (map named c.loop-number.made.items)
      (sym c.contains.ensures.value ∙ c.if-not-contains.true) c.loop-number.invariant.are;
  leadings = c.loop-number.invariant.leadings;
  sides = c.loop-number.invariant.sides;
}

pub loop-number-preserved : goal.loop-number-preserved
loop-number-preserved g c =
    let old = c.loop-number.made.items in
    let m = c.in_ok-lemma_of.field-0 in
    let is = c.in_ok-lemma_of.ensures in
    let pushed = c.in_ok-push.ensures.items in
    let all = c.loop-number.invariant in
    let more : (P : LemmaGoal → Type 0) → AllByRecursion P old → P m →
    AllByRecursion P c.push.new.self.items =
    λ P before here.
    subst (AllByRecursion P) (sym pushed) (all_append P old (m ∷ []) before (here, tt)) in
    record {
      are =
          added_at c.args.lemmas.now c.as_slice-goal-items.result.now c.args.spec.now.goals
          c.loop-number.number c.as_slice-goal-items.ensures
          c.goal-item.result (map named old) (map named c.push.new.self.items)
          c.loop-number-test.true c.goal-item.is
          (sym c.contains.ensures.value ∙ c.if-not-contains.false) all.are
          (ap (λ (ms : List LemmaGoal). map named ms) pushed ∙ map-append named old (m ∷ [])
          ∙ ap (λ (p : List ℕ × Clause). map named old ++ p ∷ []) is.is);
      leadings =
          more (λ (m : LemmaGoal). IsPlace m.clause m.leading) all.leadings is.leading;
      sides =
          more
          (λ (m : LemmaGoal). AreLemmaSides (g.O.TermOrder.above c.args.order.now) m.clause m.sides)
          all.sides is.sides;
    }

pub returns : goal.returns
returns g c = record {
  are =
      all_lemmas c.args.lemmas.now c.as_slice-goal-items.result.now c.args.spec.now.goals
      c.loop-number.number c.as_slice-goal-items.ensures
      c.args.spec.now (map named c.loop-number.made.items) refl c.loop-number-test.false
      c.loop-number.auto.number-end c.loop-number.invariant.are;
  leadings = c.loop-number.invariant.leadings;
  sides = c.loop-number.invariant.sides;
}

pub lemma_of-requires : goal.lemma_of-requires
lemma_of-requires g c =
    let spec = c.args.spec.now in
    let k = c.loop-number.number in
    let goal = c.goal-item.result in
    let listed = item_at c.as_slice-goal-items.result.now spec.goals k goal
    c.as_slice-goal-items.ensures c.loop-number-test.true c.goal-item.is in (
      spec.sig,
      sorted_goal spec c.tidying_laws.ensures c.requires goal (c.requires.goals k goal listed),
    )
