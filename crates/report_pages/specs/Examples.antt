-- What the definitions say of small values, in plain text.
use Rattle.std.specs.Prelude.{◌≡◌, ℕ, List, [], ◌∷◌, Some, None, codes}
use Rattle.term_core.specs.Tree.{Tree}
use Rattle.spec_core.specs.Naturals.{naturals_sig, plus_term, succ_term, zero_term}
use Rattle.ground_eval.specs.declared.answers.Eval.TheVariants.{Value, Large, Spent}
use Rattle.page_core.specs.Events.{Event}
use Rattle.page_core.specs.Pages.{after, blank}
use Rattle.page_core.specs.declared.parts.Format.TheVariants.{Text}
use Rattle.report_pages.specs.Differences.{difference}
use Rattle.report_pages.specs.Values.{both_give, each_gives, variable_events}

abbrev pub shown : List Event → List ℕ
shown events = (after (blank Text) events).text

abbrev pub one : Tree
one = succ_term zero_term

abbrev pub two : Tree
two = succ_term one

pub record WorkedExamples : Type 0 where
  pub at_root : difference zero_term one ≡ Some []
  pub below : difference one two ≡ Some (1 ∷ [])
  pub second : difference (plus_term zero_term zero_term) (plus_term zero_term one) ≡ Some (2 ∷ [])
  pub first : difference (plus_term one two) (plus_term zero_term zero_term) ≡ Some (1 ∷ [])
  pub same : difference (plus_term one two) (plus_term one two) ≡ None
  pub variable : shown (variable_events naturals_sig (codes "x", one)) ≡ codes "x = succ(zero)\n"
  pub both : shown (both_give naturals_sig zero_term 3 1) ≡ codes "  both sides give zero, in 3 and 1 rule uses"
  -- the first difference is marked, and a cost of 1 is in the singular
  pub different :
      shown (each_gives naturals_sig 5 (Value one 3) (Value two 1))
      ≡ codes "  left gives succ([zero]) (3 rule uses), right gives succ([succ(zero)]) (1 rule use)"
  pub no_values :
      shown (each_gives naturals_sig 5 (Large 3) Spent)
      ≡ codes "  left gives a value of more than 10,000 symbols (3 rule uses), right gives no value within 5 rule uses"
