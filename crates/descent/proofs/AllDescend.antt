-- One step of descent for each step, if every sorted ground term has one value, which ranks no higher.
use Rattle.std.specs.Prelude.{ℕ}
use Rattle.term_core.specs.Tree.{Tree}
use Rattle.term_order.specs.Laws.{HasRanks}
use Rattle.clause_core.specs.declared.steps.Step.TheVariants.{Trivial, Match, Absurd, Subsume, ByLemma, Rule, Case}
use Rattle.clause_core.specs.declared.steps.Step.TheVariants.{Decompose, Clash, Drop, Solve, Cover, Generalize}
use Rattle.clause_core.specs.declared.steps.Step.TheVariants.{Context, Hyp, Lemma}
use Rattle.descent.specs.OneValue.{ValuesRankLower}
use Rattle.descent.specs.Descent.{StepsDescend}
use Rattle.descent.proofs.StepDescents.{trivial_descends, match_descends, absurd_descends, drop_descends}
use Rattle.descent.proofs.StepDescents.{clash_descends, decompose_descends, solve_descends, cover_descends}
use Rattle.descent.proofs.ContextDescends.{context_descends}
use Rattle.descent.proofs.ReferringDescends.{subsume_descends, by_lemma_descends, hyp_descends, lemma_descends}
use Rattle.descent.proofs.RuleDescends.{rule_descends}
use Rattle.descent.proofs.CaseDescends.{case_descends}
use Rattle.descent.proofs.GeneralizeDescends.{generalize_descends}

pub all_descend : (above : Tree → Tree → Type 0) (rank : ℕ → ℕ → Tree → ℕ → Type 0) → HasRanks above rank →
    ValuesRankLower above rank → StepsDescend above rank
all_descend above rank laws exist (Trivial k) = trivial_descends above rank laws k
all_descend above rank laws exist (Match k j) = match_descends above rank laws k j
all_descend above rank laws exist (Absurd j) = absurd_descends above rank laws j
all_descend above rank laws exist (Subsume n ts) = subsume_descends above rank laws exist n ts
all_descend above rank laws exist (ByLemma n ts) = by_lemma_descends above rank laws exist n ts
all_descend above rank laws exist (Rule p n) = rule_descends above rank laws exist p n
all_descend above rank laws exist (Case p n) = case_descends above rank laws exist p n
all_descend above rank laws exist (Decompose kind n) = decompose_descends above rank laws kind n
all_descend above rank laws exist (Clash n) = clash_descends above rank laws n
all_descend above rank laws exist (Drop kind n) = drop_descends above rank laws kind n
all_descend above rank laws exist (Solve n) = solve_descends above rank laws n
all_descend above rank laws exist (Cover x ps) = cover_descends above rank laws x ps
all_descend above rank laws exist (Generalize t) = generalize_descends above rank laws exist t
all_descend above rank laws exist (Context p n left) = context_descends above rank laws p n left
all_descend above rank laws exist (Hyp n ts p left) = hyp_descends above rank laws exist n ts p left
all_descend above rank laws exist (Lemma n ts p left) = lemma_descends above rank laws exist n ts p left
