-- The sides of equations: of lists that are put together, and of one equation more.
use Rattle.std.proofs.Common.{◌≡◌, ℕ, ◌+◌, ◌-◌, ◌<◌, ◌≤◌, List, [], ◌∷◌, ◌++◌, max, min, length, take, drop, get_or}
use Rattle.std.proofs.Common.{refl, ap, ◌∙◌, arith}
use Rattle.std.proofs.Math.Seq.{take-length}
use Rattle.term_core.specs.Tree.{Tree, var, app, trees_of, sizes, tree_depth, depths}
use Rattle.term_core.proofs.Items.{taken_next}
use Rattle.spec_core.specs.declared.records.Equation.{Equation}
use Rattle.clause_core.specs.declared.clauses.Clause.{Clause}
use Rattle.clause_core.specs.Clauses.{sides_of}
use Rattle.clause_core.specs.Limits.{clause_size, clause_depth}

pub sides_append : (es ds : List Equation) → sides_of (es ++ ds) ≡ sides_of es ++ sides_of ds
sides_append [] ds = refl
sides_append (e ∷ es) ds = ap (λ ts. e.left ∷ e.right ∷ ts) (sides_append es ds)

pub sides_next :
    (es : List Equation) (i : ℕ) (e : Equation) → i < length es → e ≡ get_or es i e →
    sides_of (take (i + 1) es) ≡ sides_of (take i es) ++ e.left ∷ e.right ∷ []
sides_next es i e lt is = ap sides_of (taken_next es i e lt is) ∙ sides_append (take i es) (e ∷ [])

-- the first equation's sides come before those of the others
pub front_sides :
    (es : List Equation) (e : Equation) → 1 ≤ length es → e ≡ get_or es 0 e →
    sides_of es ≡ e.left ∷ e.right ∷ sides_of (take (length es - 1) (drop 1 es))
front_sides [] e h is = absurd (omega arith)
front_sides (d ∷ es) e h is =
    let k : e ≡ d = is in
    let n : length (d ∷ es) - 1 ≡ length es = omega arith in
    rw (n, k, take-length) refl

-- a tree has a level
pub depth_positive : (t : Tree) → 1 ≤ tree_depth t
depth_positive (var n) = omega arith
depth_positive (app f ts) = omega arith

sizes_append : (xs ys : List Tree) → sizes (trees_of (xs ++ ys)) ≡ sizes (trees_of xs) + sizes (trees_of ys)
sizes_append [] ys = omega arith
sizes_append (x ∷ xs) ys = omega (arith, sizes_append xs ys)

depths_append : (xs ys : List Tree) → depths (trees_of (xs ++ ys)) ≡ max (depths (trees_of xs)) (depths (trees_of ys))
depths_append [] ys = omega arith
depths_append (x ∷ xs) ys = omega (arith, depths_append xs ys)

-- the sides of one equation more, with a sum that stops at a number, and with such a maximum
pub sizes_next :
    (es : List Equation) (i : ℕ) (e : Equation) (cap sum left right : ℕ) → i < length es → e ≡ get_or es i e →
    sum ≡ min (sizes (trees_of (sides_of (take i es)))) cap → left ≡ min (sizes (trees_of (e.left ∷ []))) (cap - sum) →
    right ≡ min (sizes (trees_of (e.right ∷ []))) (cap - (sum + left)) →
    sum + left + right ≡ min (sizes (trees_of (sides_of (take (i + 1) es)))) cap
sizes_next es i e cap sum left right lt is s l r =
    let n = ap (λ ts. sizes (trees_of ts)) (sides_next es i e lt is)
    ∙ sizes_append (sides_of (take i es)) (e.left ∷ e.right ∷ []) in
    omega (arith, n, s, l, r)

pub depths_next :
    (es : List Equation) (i : ℕ) (e : Equation) (cap most left right : ℕ) → i < length es → e ≡ get_or es i e →
    most ≡ min (depths (trees_of (sides_of (take i es)))) cap → left ≡ min (depths (trees_of (e.left ∷ []))) cap →
    right ≡ min (depths (trees_of (e.right ∷ []))) cap →
    max (max most left) right ≡ min (depths (trees_of (sides_of (take (i + 1) es)))) cap
depths_next es i e cap most left right lt is m l r =
    let n = ap (λ ts. depths (trees_of ts)) (sides_next es i e lt is)
    ∙ depths_append (sides_of (take i es)) (e.left ∷ e.right ∷ []) in
    omega (arith, n, m, l, r)

pub clause_size_is : (c : Clause) →
    clause_size c ≡ sizes (trees_of (sides_of c.premises)) + sizes (trees_of (sides_of c.conclusions))
clause_size_is c = sizes_append (sides_of c.premises) (sides_of c.conclusions)

pub clause_depth_is : (c : Clause) →
    clause_depth c ≡ max (depths (trees_of (sides_of c.premises))) (depths (trees_of (sides_of c.conclusions)))
clause_depth_is c = depths_append (sides_of c.premises) (sides_of c.conclusions)

-- the tests for the limits, where sums and maxima stop one above them
pub size_within :
    (c : Clause) (first second : ℕ) → first ≡ min (sizes (trees_of (sides_of c.premises))) 4001 →
    second ≡ min (sizes (trees_of (sides_of c.conclusions))) 4001 → first + second ≤ 4000 → clause_size c ≤ 4000
size_within c first second p q h = omega (arith, clause_size_is c, p, q, h)

pub size_past :
    (c : Clause) (first second : ℕ) → first ≡ min (sizes (trees_of (sides_of c.premises))) 4001 →
    second ≡ min (sizes (trees_of (sides_of c.conclusions))) 4001 → 4000 < first + second → 4000 < clause_size c
size_past c first second p q h = omega (arith, clause_size_is c, p, q, h)

pub depth_within :
    (c : Clause) (first second most : ℕ) → first ≡ min (depths (trees_of (sides_of c.premises))) 101 →
    second ≡ min (depths (trees_of (sides_of c.conclusions))) 101 → most ≡ max first second →
    (most ≤ 100 → clause_depth c ≤ 100) × (clause_depth c ≤ 100 → most ≤ 100)
depth_within c first second most p q m = (
  λ h. omega (arith, clause_depth_is c, p, q, m, h),
  λ h. omega (arith, clause_depth_is c, p, q, m, h),
)
