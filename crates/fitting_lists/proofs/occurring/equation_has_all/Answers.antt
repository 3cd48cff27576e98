-- The left side has them all, or both sides together are asked.
use Rattle.std.proofs.Common.{◌≡◌, ℕ, false, ◌++◌, List, Bool, IsTrue, ◌↔◌, length, take, drop, refl, ap, ◌∙◌, subst}
use Rattle.std.proofs.Common.{arith}
use Rattle.std.specs.Prelude.{replicate}
use Rattle.term_core.specs.Variables.{Occurs}
use Rattle.fitting_lists.specs.Marks.{IsMarked, MarksMore}
use Rattle.fitting_lists.proofs.MarkedVariables.{left_has_all, marks_sides, sides_have_all, written_back}
use Rattle.fitting_lists.proofs.occurring.equation_has_all.Goals as goal

-- all of these marks are set
abbrev AllMarked : List Bool → Type 0
AllMarked marks = (n : ℕ) → IsMarked marks n

pub returns-then-are_marked : goal.returns-then-are_marked
returns-then-are_marked c =
    let clause = c.args.clause.now in
    let old = c.deref_mut.result.now in
    let new = c.mark.new.marks in
    let marks = c.in_ok-marks.marks in
    let none : old ≡ replicate (length clause.ctx) false =
    c.deref_mut.ensures.value ∙ c.in_ok-marks.ensures
    ∙ ap (λ k. replicate k false) (omega (arith, c.len.ensures))
    in
    let long : length new ≡ marks.len =
    omega (arith, c.mark.auto.marks, ap length c.deref_mut.ensures.value, marks.ok.0) in
    let same : c.deref.result.now ≡ new =
    c.deref.ensures.value
    ∙ written_back marks.len marks.items new (omega (arith, marks.ok.0)) long
    in
    left_has_all clause old new none c.args.equation.now c.mark.ensures
    (subst AllMarked same (c.if-are_marked.ensures.0 refl))

pub returns : goal.returns
returns c =
    let clause = c.args.clause.now in
    let e = c.args.equation.now in
    let old = c.deref_mut.result.now in
    let mid = c.mark.new.marks in
    let new = c.mark-2.new.marks in
    let marks = c.in_ok-marks.marks in
    let count = marks.len in
    let none : old ≡ replicate (length clause.ctx) false =
    c.deref_mut.ensures.value ∙ c.in_ok-marks.ensures
    ∙ ap (λ k. replicate k false) (omega (arith, c.len.ensures))
    in
    let long : length mid ≡ count =
    omega (arith, c.mark.auto.marks, ap length c.deref_mut.ensures.value, marks.ok.0) in
    let written = take count (mid ++ drop (length mid) marks.items) in
    let is_written : written ≡ mid =
    written_back count marks.items mid (omega (arith, marks.ok.0)) long in
    let again : c.deref_mut-2.result.now ≡ mid = c.deref_mut-2.ensures.value ∙ is_written in
    let longer : length new ≡ count =
    omega (arith, c.mark-2.auto.marks, ap length again, long) in
    let same : c.deref-2.result.now ≡ new =
    c.deref-2.ensures.value
    ∙ written_back count written new (ap length is_written ∙ long) longer
    in
    sides_have_all clause old new none e c.are_marked-2.result
    (marks_sides old mid new e c.mark.ensures
    (subst (λ ms. MarksMore ms new (λ n. Occurs n e.right)) again c.mark-2.ensures))
    (subst (λ ms. IsTrue c.are_marked-2.result ↔ AllMarked ms) same c.are_marked-2.ensures)
