-- Values of a goal that fails.
use Rattle.std.specs.Prelude.{◌≡◌, Some, map}
use Rattle.term_core.specs.Tree.{Tree}
use Rattle.spec_core.specs.WellSorted.{IsWellSorted}
use Rattle.acceptance.specs.Accepting.{names_in, values_in}
use Rattle.report_pages.specs.declared.evaluating.Setting.{Setting}

-- the names and the substitution are those of the values
pub record IsReady (at : Setting) : Type 0 where
  pub fine : IsWellSorted at.spec.now
  pub names : at.names.now ≡ names_in at.values.now
  pub theta : at.theta.now.terms ≡ map (λ (v : Tree). Some v) (values_in at.values.now)
