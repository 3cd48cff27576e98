-- What the printers ask of terms: each symbol is one of the signature's.
use Rattle.std.specs.List.{AllByRecursion}
use Rattle.spec_core.specs.Sig.{Sig}
use Rattle.spec_core.specs.TermText.{SymbolsAreInRange}
use Rattle.clause_core.specs.declared.reports.Claim.{Claim}
use Rattle.clause_core.specs.declared.reports.Report.{Report}
use Rattle.proof_script.specs.Words.{Word, term, terms, patterns, Line}
use Rattle.proof_script.specs.Claims.{claim_lines}

module _ (sig : Sig) where
  -- the symbols of the word's terms are in range
  abbrev pub WordIsInRange : Word → Type 0
  WordIsInRange (term t) = SymbolsAreInRange sig t
  WordIsInRange (terms ts) = AllByRecursion (SymbolsAreInRange sig) ts
  WordIsInRange (patterns ps) = AllByRecursion (SymbolsAreInRange sig) ps
  WordIsInRange _ = Unit {0}

  -- those of the line's words, of a claim's lines, and of a report's claims
  abbrev pub LineIsInRange : Line → Type 0
  LineIsInRange l = AllByRecursion WordIsInRange l.words

  abbrev pub ClaimIsInRange : Claim → Type 0
  ClaimIsInRange claim = AllByRecursion LineIsInRange (claim_lines claim)

  abbrev pub ReportIsInRange : Report → Type 0
  ReportIsInRange report = AllByRecursion ClaimIsInRange report.claims
