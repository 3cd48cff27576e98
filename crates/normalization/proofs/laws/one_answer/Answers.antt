use Rattle.std.proofs.Common.{◌≡◌, ℕ, List, refl, arith}
use Rattle.term_core.specs.Tree.{Tree}
use Rattle.spec_core.specs.declared.records.Spec.{Spec}
use Rattle.spec_core.specs.WellSorted.{IsWellSorted}
use Rattle.normalization.specs.declared.normal.Normal.{Normal}
use Rattle.normalization.specs.declared.normal.Normal.TheVariants.{Done, Spent}
use Rattle.normalization.specs.Normals.{IsNormalizing}
use Rattle.normalization.proofs.OneRun.{one_normal}
use Rattle.normalization.proofs.laws.one_answer.Goals as goal

not_both : (spec : Spec) → IsWellSorted spec → (t v : Tree) (budget : ℕ) (uses : List (List ℕ × ℕ)) →
    IsNormalizing spec t budget (Done v uses) → IsNormalizing spec t budget Spent → ⊥
not_both spec fine t v budget uses p q =
    let r = one_normal spec fine t q.1 v uses q.0 p.0 p.1 q.2 in
    absurd (omega (arith, r.0, p.2, q.3))

one : (spec : Spec) → IsWellSorted spec → (t : Tree) (budget : ℕ) (a b : Normal) →
    IsNormalizing spec t budget a → IsNormalizing spec t budget b → a ≡ b
one spec fine t budget (Done v ws) (Done u xs) p q =
    let r = (one_normal spec fine t u v ws xs p.0 p.1 q.0).1 q.1 in
    let e : xs ≡ ws = r.0 in
    let k : u ≡ v = r.1 in
    cc
one spec fine t budget (Done v ws) Spent p q = absurd (not_both spec fine t v budget ws p q)
one spec fine t budget Spent (Done u xs) p q = absurd (not_both spec fine t u budget xs q p)
one spec fine t budget Spent Spent p q = refl

pub returns : goal.returns
returns c spec t budget a b fine = one spec fine t budget a b
