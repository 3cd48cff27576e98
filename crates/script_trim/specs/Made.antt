-- What the steps of a cut block make, by what the steps of the block made.
use Rattle.std.specs.Prelude.{ℕ, Bool, List, map, slice_set}
use Rattle.clause_core.specs.declared.answers.Children.{Children}
use Rattle.clause_core.specs.declared.answers.Reference.{Reference}
use Rattle.script_trim.specs.Cut.{new_number, staying}

-- the reference, and what a step makes, with the new number of the node that is referred to
abbrev pub reference_renumbered : (ℕ → Bool) → Reference → Reference
reference_renumbered stays r = record { node = new_number stays r.node; relation = r.relation }

abbrev pub made_renumbered : (ℕ → Bool) → Children → Children
made_renumbered stays m = record { clauses = m.clauses; refs = map (reference_renumbered stays) m.refs }

-- what stays, if the step at node i makes this
abbrev pub cut_made : (ℕ → Bool) → List Children → ℕ → Children → List Children
cut_made stays made i closed = map (made_renumbered stays) (staying stays 0 (slice_set made i closed))
