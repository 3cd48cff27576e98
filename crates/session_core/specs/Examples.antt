-- What sessions on naturals with the goal unit: plus(x, zero) = x write.
use Rattle.std.specs.Prelude.{List, [], ◌∷◌, ◌++◌, true, false, codes}
use Rattle.term_core.specs.Tree.{var}
use Rattle.spec_core.specs.Naturals.{naturals, naturals_sig, zero_term, succ_term}
use Rattle.sample_specs.specs.SumOrder.{AboveInSums}
use Rattle.clause_core.specs.declared.steps.Step.TheVariants.{ByLemma, Trivial, Subsume, Decompose}
use Rattle.proof_script.specs.Claims.{report_text}
use Rattle.acceptance.specs.Examples.{proves_again, two_units}
use Rattle.acceptance.specs.Examples.{by_cases, by_rule, proves_unit, unit_steps}
use Rattle.session_core.specs.declared.commands.Command.{Command}
use Rattle.session_core.specs.declared.commands.Command.TheVariants.{Goal, Step, Undo}
use Rattle.session_core.specs.SessionText.{IsSessionText}

-- cover ?0 [zero, succ(_)] is taken back once, after a step that doesn't fit
abbrev pub with_undo : List Command
with_undo =
    Goal (codes "unit") ∷ Step by_cases ∷ Step (by_rule 2) ∷ Undo ∷ Step by_cases
    ∷ Step (by_rule 1) ∷ Step (by_rule 2) ∷ Step (Trivial 1) ∷ Step (Decompose true 1)
    ∷ Step (Subsume 0 (var 0 ∷ [])) ∷ []

-- each case by the goal itself
abbrev pub circular : List Command
circular =
    Undo ∷ Goal (codes "unit") ∷ Step by_cases ∷ Step (Subsume 0 (zero_term ∷ []))
    ∷ Step (Subsume 0 (succ_term (var 0) ∷ [])) ∷ []

-- the goal again by the goal unit, with an undo back into the proof of unit
abbrev pub by_first : List Command
by_first =
    Goal (codes "unit") ∷ Step by_cases ∷ Step (by_rule 1) ∷ Step (by_rule 2) ∷ Step (Trivial 1)
    ∷ Step (Decompose true 1) ∷ Step (Subsume 0 (var 0 ∷ [])) ∷ Goal (codes "again")
    ∷ Step (ByLemma (codes "unit") (var 0 ∷ [])) ∷ Undo ∷ Undo ∷ Undo
    ∷ Step (Subsume 0 (var 0 ∷ [])) ∷ Goal (codes "again")
    ∷ Step (ByLemma (codes "unit") (var 0 ∷ [])) ∷ []

-- no goal is under work, none has this name, and then one is under work, which is said first
abbrev pub refusals : List Command
refusals =
    Step (Trivial 1) ∷ Goal (codes "none") ∷ Goal (codes "unit") ∷ Goal (codes "unit")
    ∷ Goal (codes "none") ∷ []

pub record WorkedExamples : Type 0 where
  -- the goal is proved, and the report is that of the proof by cases
  pub proved :
      IsSessionText AboveInSums naturals with_undo
      (codes "ok 1\nok 2\nrefused does not fit\nok 1\nok 2\nok 2\nok 2\nok 1\nok 1\nok 0\n"
      ++ report_text naturals_sig (record { steps = 1000; claims = proves_unit unit_steps ∷ [] }))
      false
  -- the last step isn't taken, since it leaves nothing pending and the block isn't allowed
  pub not_smaller :
      IsSessionText AboveInSums naturals circular
      (codes "refused nothing to undo\nok 1\nok 2\nok 1\nrefused not smaller\n"
      ++ codes "spike-report 1\nsteps 1000\ndone\n")
      true
  -- a goal is refused first because one is under work
  pub refused :
      IsSessionText AboveInSums naturals refusals
      (codes "refused no goal\nrefused unknown goal\nok 1\n"
      ++ codes "refused goal under work\nrefused goal under work\n"
      ++ codes "spike-report 1\nsteps 1000\ndone\n")
      true
  -- a proved goal is a lemma for the next one, and undoing goes on into its proof
  pub by_lemma :
      IsSessionText AboveInSums two_units by_first
      (codes "ok 1\nok 2\nok 2\nok 2\nok 1\nok 1\nok 0\nok 1\nok 0\n"
      ++ codes "ok 1\nok 0\nok 1\nok 0\nok 1\nok 0\n"
      ++ report_text naturals_sig
      (record { steps = 1000; claims = proves_unit unit_steps ∷ proves_again ∷ [] }))
      false
