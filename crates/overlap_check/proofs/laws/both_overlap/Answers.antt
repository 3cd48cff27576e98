use Rattle.std.proofs.Common.{ℕ, List}
use Rattle.term_core.specs.Tree.{Tree}
use Rattle.spec_core.specs.declared.records.Spec.{Spec}
use Rattle.spec_core.specs.Overlap.{NoOverlap}
use Rattle.overlap_check.specs.declared.answers.Overlap.TheVariants.{Both}
use Rattle.overlap_check.specs.Overlaps.{MatchBoth}
use Rattle.overlap_check.specs.Answers.{IsOverlap}
use Rattle.overlap_check.proofs.laws.both_overlap.Goals as goal

both_overlap : (spec : Spec) (first second : ℕ) (values : List Tree) →
    IsOverlap spec (Both first second values) → NoOverlap spec → ⊥
both_overlap spec first second values h none =
    let o = h.4.overlaps in
    let m : MatchBoth spec.sig o.0.left o.1.left o.4.1.0 = o.4.1.1 in
    o.4.0 (none h.0 h.1 o.0 o.1 m.function m.info o.4.1.0 m.matches_left.0 m.matches_other.0 o.2 o.3 m.declared
    m.sorted m.built m.matches_left.1 m.matches_other.1)

pub returns : goal.returns
returns c = both_overlap
