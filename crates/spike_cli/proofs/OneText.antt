-- Bytes have one ending as a text of one kind: what they derive, or one line of refusal.
use Rattle.std.proofs.Common.{◌≡◌, ℕ, List, [], sym, subst, ◌∙◌}
use Rattle.spec_core.specs.Findings.{Search, First}
use Rattle.spec_core.proofs.Findings.{one_first}
use Rattle.spec_grammar.specs.Derives.{TextDerives}
use Rattle.spec_grammar.specs.Grammar.{Marked}
use Rattle.spec_grammar.specs.Symbols.{Symbol}
use Rattle.spec_grammar.proofs.Stacks.{Agrees}
use Rattle.spec_grammar.proofs.Means.{MeansTo}
use Rattle.spec_grammar.proofs.Readings.{one_derived}
use Rattle.spec_syntax.proofs.OneFault.{no_fault, same_fault}
use Rattle.spec_syntax.specs.declared.fault.SyntaxFault.{SyntaxFault}
use Rattle.spec_syntax.specs.declared.fault.SyntaxFault.TheVariants.{Text, Syntax, Limit, OutOfMemory}
use Rattle.sort_check.specs.declared.faults.SortFault.{SortFault}
use Rattle.sort_check.specs.declared.faults.SortFault.TheVariants.{Sort}
use Rattle.accepted_spec.specs.declared.refusals.Subject.{Subject}
use Rattle.accepted_spec.specs.Refusals.{IsFaultLine, IsSortLine, IsRefusalLine, faulty, unsorted}

-- a fault has one line
one_line : (subject : Subject) (fault : SyntaxFault) (line other : List ℕ) → IsFaultLine subject fault line →
    IsFaultLine subject fault other → line ≡ other
one_line subject (Text at) line other a b = a ∙ sym b
one_line subject (Syntax at) line other a b = a ∙ sym b
one_line subject (Limit at what) line other a b = a ∙ sym b
one_line subject OutOfMemory line other a b = absurd a

module _ {R : Type 0} (start : List Symbol) (IsText : R → List Marked →
    Type 0) (agrees : (r : R) (w : List Marked) → IsText r w → Agrees start w) (means : (w : List Marked) →
    MeansTo start w [] → (r : R) × IsText r w) (one : (r q : R) (w : List Marked) → IsText r w → IsText q w →
    r ≡ q) (bytes : List ℕ) where
  pub one_raw : (r q : R) → TextDerives IsText bytes r → TextDerives IsText bytes q → r ≡ q
  one_raw r q a b = one_derived start IsText agrees means one bytes r q a b

  module _ (subject : Subject) (tests : R → Search SortFault) where
    abbrev pub Refuses : List ℕ → Type 0
    Refuses line = IsRefusalLine subject IsText (λ r at kind. First (tests r) (Sort at kind)) bytes line

    pub taken_or_refused : (r : R) (line : List ℕ) → TextDerives IsText bytes r →
        ((fault : SortFault) → First (tests r) fault → ⊥) → Refuses line → ⊥
    taken_or_refused r line d fine (faulty fault has is) = no_fault start IsText agrees means one bytes r fault d has
    taken_or_refused r line d fine (unsorted raw at kind d2 first is) = fine (Sort at kind)
        (subst (λ (q : R). First (tests q) (Sort at kind)) (one_raw raw r d2 d) first)

    pub same_refusal : (line other : List ℕ) → Refuses line → Refuses other → line ≡ other
    same_refusal line other (faulty fault has is) (faulty fault2 has2 is2) = one_line subject fault line other
        is (subst (λ (f : SyntaxFault). IsFaultLine subject f other)
        (same_fault start IsText agrees means one bytes fault2 fault has2 has) is2)
    same_refusal line other (faulty fault has is) (unsorted raw at kind d first is2) = absurd
        (no_fault start IsText agrees means one bytes raw fault d has)
    same_refusal line other (unsorted raw at kind d first is) (faulty fault has is2) = absurd
        (no_fault start IsText agrees means one bytes raw fault d has)
    same_refusal line other (unsorted raw at kind d first is) (unsorted raw2 at2 kind2 d2 first2 is2) =
        let moved = subst (λ (q : R). First (tests q) (Sort at2 kind2)) (one_raw raw2 raw d2 d) first2 in
        let same : Sort at2 kind2 ≡ Sort at kind = one_first (tests raw) (Sort at2 kind2) (Sort at kind) moved first in
        is ∙ sym (subst (λ (f : SortFault). IsSortLine subject f other) same is2)
