use Rattle.std.proofs.Common.{◌≡◌, map}
use Rattle.std.specs.List.{AllByRecursion}
use Rattle.proof_search.specs.declared.setting.LemmaGoal.{LemmaGoal}
use Rattle.proof_search.specs.FallingSides.{AreLemmaSides}
use Rattle.fitting_lists.specs.Leading.{IsPlace}
use Rattle.proof_search.specs.Settings.{named}
use Rattle.proof_search.proofs.LemmaGoals.{lemmas_before}
use Rattle.proof_search.proofs.setting.goals_of.Given as goal

abbrev pub invariant-loop-number : goal.invariant-loop-number
invariant-loop-number g l = record {
  are : map named l.made.items ≡ lemmas_before l.lemmas l.spec.goals l.number;
  leadings : AllByRecursion (λ (m : LemmaGoal). IsPlace m.clause m.leading) l.made.items;
  sides : AllByRecursion (λ (m : LemmaGoal). AreLemmaSides (g.O.TermOrder.above l.order) m.clause m.sides) l.made.items;
}
