-- The errors of steps by those of rewriting and of covering.
use Rattle.clause_core.specs.declared.answers.Why.TheVariants.{NoSuchPlace, NoSuchRule, DoesNotFit, NotCovering, Limit}
use Rattle.clause_core.specs.declared.answers.RewriteError.{RewriteError}
use Rattle.clause_core.specs.declared.answers.RewriteError.TheVariants.{NoSuchPlace as no_such_place}
use Rattle.clause_core.specs.declared.answers.RewriteError.TheVariants.{NoSuchRule as no_such_rule}
use Rattle.clause_core.specs.declared.answers.RewriteError.TheVariants.{DoesNotFit as does_not_fit, Limit as limit}
use Rattle.clause_core.specs.declared.answers.RewriteError.TheVariants.{OutOfMemory as no_memory}
use Rattle.test_sets.specs.declared.answers.CoverError.{CoverError}
use Rattle.test_sets.specs.declared.answers.CoverError.TheVariants.{NotCovering as not_covering, Limit as past_limit}
use Rattle.test_sets.specs.declared.answers.CoverError.TheVariants.{OutOfMemory as no_memory_left}
use Rattle.inference_rules.specs.declared.nodes.StepError.{StepError}
use Rattle.inference_rules.specs.declared.nodes.StepError.TheVariants.{Why as because, OutOfMemory as out_of_memory}

-- the same reason, or want of memory
abbrev pub error_of_rewriting : RewriteError → StepError
error_of_rewriting no_such_place = because NoSuchPlace
error_of_rewriting no_such_rule = because NoSuchRule
error_of_rewriting does_not_fit = because DoesNotFit
error_of_rewriting limit = because Limit
error_of_rewriting no_memory = out_of_memory

-- the same reason, without the value that isn't covered
abbrev pub error_of_covering : CoverError → StepError
error_of_covering (not_covering value) = because NotCovering
error_of_covering past_limit = because Limit
error_of_covering no_memory_left = out_of_memory
