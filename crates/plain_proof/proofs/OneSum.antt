-- The length of a case, and of the cases of a variable, is one number.
use Rattle.std.proofs.Common.{◌≡◌, ℕ, List, [], ◌∷◌, length, ap, sym, ◌∙◌, arith}
use Rattle.term_core.specs.Tree.{Tree, tree_size}
use Rattle.term_core.specs.declared.ids.SortId.{SortId}
use Rattle.spec_core.specs.declared.records.Equation.{Equation}
use Rattle.spec_core.specs.declared.records.Spec.{Spec}
use Rattle.spec_core.specs.WellSorted.{IsWellSorted}
use Rattle.normalization.specs.NormalForms.{RunsWithin, Runs}
use Rattle.normalization.proofs.OneRun.{one_normal}
use Rattle.plain_proof.specs.PlainProofs.{CaseCloses, CasesClose}

-- a chain within limits is a chain
pub runs_only : (spec : Spec) (P : Tree → Type 0) (t v : Tree) (ws : List (List ℕ × ℕ)) →
    RunsWithin spec P t ws v → Runs spec t ws v
runs_only spec P t v [] r = r
runs_only spec P t v (w ∷ ws) r = (r.0, r.1, tt, runs_only spec P r.0 v ws r.3)

one_case : (spec : Spec) (ctx : List SortId) (e : Equation) (x : ℕ) (c : ℕ × List SortId) (m n : ℕ) →
    IsWellSorted spec → CaseCloses spec ctx e x c m → CaseCloses spec ctx e x c n → m ≡ n
one_case spec ctx e x c m n fine a b =
    let l = (one_normal spec fine _ b.left a.left a.left_uses b.left_uses
    (runs_only spec _ _ a.left a.left_uses a.left_runs) a.left_normal
    (runs_only spec _ _ b.left b.left_uses b.left_runs)).1 b.left_normal in
    let r = (one_normal spec fine _ b.right a.right a.right_uses b.right_uses
    (runs_only spec _ _ a.right a.right_uses a.right_runs) a.right_normal
    (runs_only spec _ _ b.right b.right_uses b.right_runs)).1 b.right_normal in
    let lu : length b.left_uses ≡ length a.left_uses = ap (λ xs. length xs) l.0 in
    let ru : length b.right_uses ≡ length a.right_uses = ap (λ xs. length xs) r.0 in
    let ls : tree_size b.left ≡ tree_size a.left = ap (λ t. tree_size t) l.1 in
    let rs : tree_size b.right ≡ tree_size a.right = ap (λ t. tree_size t) r.1 in
    omega (arith, a.length_is, b.length_is, lu, ru, ls, rs)

pub one_sum : (spec : Spec) (ctx : List SortId) (e : Equation) (x : ℕ) (cs : List (ℕ × List SortId)) (m n : ℕ) →
    IsWellSorted spec → CasesClose spec ctx e x cs m → CasesClose spec ctx e x cs n → m ≡ n
one_sum spec ctx e x [] m n fine a b = a ∙ sym b
one_sum spec ctx e x (c ∷ cs) m n fine a b =
    let h = one_case spec ctx e x c a.0 b.0 fine a.2 b.2 in
    let t = one_sum spec ctx e x cs a.1 b.1 fine a.3 b.3 in
    omega (arith, h, t, a.4, b.4)
