-- The numbers that apply if no word gives one.
use Rattle.command_line.specs.declared.bounds.SearchBounds.{SearchBounds}
use Rattle.command_line.specs.declared.bounds.ProofBounds.{ProofBounds}

abbrev pub usual_search : SearchBounds
usual_search = record { depth = 3; tries = 10000; steps = 1000 }

abbrev pub usual_bounds : ProofBounds
usual_bounds = record { search = usual_search; plain = 500; nodes = 2000 }
