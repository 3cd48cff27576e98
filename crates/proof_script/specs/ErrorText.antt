-- The text of an error.
use Rattle.std.specs.Prelude.{ℕ, List, codes}
use Rattle.proof_script.specs.declared.errors.StepLineError.{StepLineError}
use Rattle.proof_script.specs.declared.errors.StepLineError.TheVariants.{NotAStep, OutOfMemory}

abbrev pub error_text : StepLineError → List ℕ
error_text NotAStep = codes "not a step"
error_text OutOfMemory = codes "out of memory"
