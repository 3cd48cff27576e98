-- A refusal that tells a fault tells a line for the text.
use Rattle.std.proofs.Common.{◌≡◌, ℕ, List, refl}
use Rattle.spec_grammar.specs.Derives.{TextDerives}
use Rattle.spec_grammar.specs.Grammar.{Marked}
use Rattle.spec_syntax.specs.Faults.{TellsFault}
use Rattle.spec_syntax.specs.declared.fault.SyntaxFault.{SyntaxFault}
use Rattle.spec_syntax.specs.declared.fault.SyntaxFault.TheVariants as syntax
use Rattle.sort_check.specs.declared.faults.SortFault.{SortFault}
use Rattle.sort_check.specs.declared.faults.SortFault.TheVariants as sort
use Rattle.sort_check.specs.declared.faults.SortKind.{SortKind}
use Rattle.accepted_spec.specs.declared.refusals.Subject.{Subject}
use Rattle.accepted_spec.specs.declared.refusals.Refusal.{Refusal}
use Rattle.accepted_spec.specs.declared.refusals.Refusal.TheVariants.{Line, OutOfMemory}
use Rattle.accepted_spec.specs.Refusals.{IsFaultLine, IsSortLine, IsRefusalLine, faulty, unsorted}
use Rattle.accepted_spec.specs.Tellings.{Tells}

module _ {R : Type 0} (subject : Subject) (IsText : R → List Marked → Type 0) (HasFirst : R → ℕ → SortKind →
    Type 0) (bytes : List ℕ) where
  pub syntax_told : (fault : SyntaxFault) → TellsFault IsText bytes fault → (r : Refusal) →
      Tells (IsFaultLine subject fault) r → Tells (IsRefusalLine subject IsText HasFirst bytes) r
  syntax_told fault h OutOfMemory t = tt
  syntax_told (syntax.Text at) h (Line line) t = faulty (syntax.Text at) h t
  syntax_told (syntax.Syntax at) h (Line line) t = faulty (syntax.Syntax at) h t
  syntax_told (syntax.Limit at what) h (Line line) t = faulty (syntax.Limit at what) h t
  syntax_told syntax.OutOfMemory h (Line line) t = absurd t

  pub sort_told : (raw : R) → TextDerives IsText bytes raw → (fault : SortFault) →
      ((at : ℕ) (kind : SortKind) → fault ≡ sort.Sort at kind → HasFirst raw at kind) → (r : Refusal) →
      Tells (IsSortLine subject fault) r → Tells (IsRefusalLine subject IsText HasFirst bytes) r
  sort_told raw d fault h OutOfMemory t = tt
  sort_told raw d (sort.Sort at kind) h (Line line) t = unsorted raw at kind d (h at kind refl) t
  sort_told raw d sort.OutOfMemory h (Line line) t = absurd t
