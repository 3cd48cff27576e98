-- Which line of small texts can't continue, over each declared signature.
use Rattle.std.specs.Prelude.{ℕ, List, [], ◌++◌, codes}
use Rattle.spec_core.specs.Sig.{Sig}
use Rattle.spec_core.specs.Declarations.{IsDeclared}
use Rattle.clause_core.specs.declared.reports.Report.{Report}
use Rattle.proof_script.specs.Texts.{IsReportText}
use Rattle.proof_script.specs.Faults.{IsFaultyLine}

abbrev pub no_claims : Report
no_claims = record { steps = 9; claims = [] }

pub record FaultExamples : Type 0 where
  -- a report without claims
  pub shortest : (sig : Sig) → IsReportText sig (codes "spike-report 1\nsteps 9\ndone\n") no_claims
  -- the first line is missing
  pub empty : (sig : Sig) → IsFaultyLine sig [] 1
  -- the last line is missing
  pub no_last : (sig : Sig) → IsDeclared sig
      → IsFaultyLine sig (codes "spike-report 1\nsteps 9\n") 3
  -- the last line has no newline
  pub no_newline : (sig : Sig) → IsDeclared sig
      → IsFaultyLine sig (codes "spike-report 1\nsteps 9\ndone") 3
  -- a line after the last one
  pub follows : (sig : Sig) → IsDeclared sig
      → IsFaultyLine sig (codes "spike-report 1\nsteps 9\ndone\ndone\n") 4
  -- an unknown first line, whatever follows it
  pub other_format : (sig : Sig) (after : List ℕ)
      → IsFaultyLine sig (codes "spike-report 2\n" ++ after) 1
