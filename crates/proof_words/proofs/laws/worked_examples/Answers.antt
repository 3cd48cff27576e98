use Rattle.std.proofs.Common.{◌≡◌, ℕ, List, [], ◌∷◌, refl, ap, codes, arith}
use Rattle.std.specs.Fmt.{decimal}
use Rattle.std.proofs.lemmas.Fmt.{decimal_digit}
use Rattle.term_core.specs.Tree.{var}
use Rattle.spec_core.specs.declared.records.Rule.{Rule}
use Rattle.spec_core.specs.Naturals.{variable, zero_term}
use Rattle.clause_core.specs.Insertion.{insertion_sig, le_term, rule_of, sorted_if_rule, true_term}
use Rattle.page_core.specs.Events.{Event}
use Rattle.page_core.specs.Pages.{after, drawn}
use Rattle.proof_words.specs.Examples.{shown_by}
use Rattle.proof_words.specs.ListEvents.{plain}
use Rattle.proof_words.specs.RuleEvents.{rule_events}
use Rattle.proof_words.proofs.laws.worked_examples.Goals as goal

one : decimal 1 ≡ 49 ∷ []
one = decimal_digit 1 (omega arith)

two : decimal 2 ≡ 50 ∷ []
two = decimal_digit 2 (omega arith)

five : decimal 5 ≡ 53 ∷ []
five = decimal_digit 5 (omega arith)

six : decimal 6 ≡ 54 ∷ []
six = decimal_digit 6 (omega arith)

le_zero_rule : Rule
le_zero_rule = rule_of (variable (codes "y") ∷ []) (le_term zero_term (var 0)) true_term []

-- words with the digits of a rule's number, and the rule
with_rule : List ℕ → Rule → List ℕ → List Event
with_rule words r digits =
    plain words ∷ plain digits ∷ plain (codes ": ") ∷ rule_events insertion_sig r

pub returns : goal.returns
unfolding after drawn with_rule le_zero_rule
returns c = record {
  marked = refl;
  no_place = refl;
  two_premises = refl;
  two_conclusions = refl;
  large = refl;
  names = refl;
  guarded = refl;
  unless = refl;
  decompose = rw one refl;
  cover = refl;
  rule = ap (λ digits. shown_by (with_rule (codes "by rule ") sorted_if_rule digits)) six;
  case = ap (λ digits. shown_by (with_rule (codes "split on the tests of rule ") le_zero_rule digits)) one;
  subsume = rw five refl;
  hyp = refl;
  lemma = refl;
  pattern = refl;
  premises = refl;
  part = rw two refl;
}
