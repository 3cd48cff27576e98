-- Sizes and depths of instances: of one term more, and of an application.
use Rattle.std.proofs.Common.{◌≡◌, ℕ, ◌+◌, ◌<◌, List, [], ◌∷◌, ◌++◌, Option, max, map, length, take, get_or, ap, sym}
use Rattle.std.proofs.Common.{◌∙◌, arith}
use Rattle.std.proofs.lemmas.List.{map-append, length-map, get_or-map, take_all}
use Rattle.term_core.specs.Tree.{Tree, app, trees_of, tree_size, sizes, tree_depth, depths}
use Rattle.term_core.proofs.Items.{taken_next}
use Rattle.term_core.proofs.Trees.{sizes-append, depths-append}
use Rattle.spec_core.specs.declared.records.Equation.{Equation}
use Rattle.substitutions.specs.Substitution.{apply}
use Rattle.substitutions.proofs.Instances.{apply_all-trees_of}
use Rattle.clause_core.specs.ClauseInstances.{equation_instance}

mapped_next :
    {X Y : Type 0} (f : X → Y) (xs : List X) (i : ℕ) (x : X) → i < length xs → x ≡ get_or xs i x →
    map f (take (i + 1) xs) ≡ map f (take i xs) ++ f x ∷ []
mapped_next f xs i x lt is = ap (λ ys. map f ys) (taken_next xs i x lt is) ∙ map-append f (take i xs) (x ∷ [])

pub instance_sizes_next :
    (entries : List (Option Tree)) (ts : List Tree) (i : ℕ) (t : Tree) → i < length ts → t ≡ get_or ts i t →
    sizes (trees_of (map (apply entries) (take (i + 1) ts))) ≡ sizes
    (trees_of (map (apply entries) (take i ts))) + tree_size (apply entries t)
instance_sizes_next entries ts i t lt is =
    ap (λ us. sizes (trees_of us)) (mapped_next (apply entries) ts i t lt is)
    ∙ sizes-append (map (apply entries) (take i ts)) (apply entries t)

pub instance_depths_next :
    (entries : List (Option Tree)) (ts : List Tree) (i : ℕ) (t : Tree) → i < length ts → t ≡ get_or ts i t →
    depths (trees_of (map (apply entries) (take (i + 1) ts))) ≡ max
    (depths (trees_of (map (apply entries) (take i ts)))) (tree_depth (apply entries t))
instance_depths_next entries ts i t lt is =
    ap (λ us. depths (trees_of us)) (mapped_next (apply entries) ts i t lt is)
    ∙ depths-append (map (apply entries) (take i ts)) (apply entries t)

-- the instance of an application, by the instances of its arguments
pub size_of_instance :
    (entries : List (Option Tree)) (f : ℕ) (ts : List Tree) →
    tree_size (apply entries (app f (trees_of ts))) ≡ 1 + sizes (trees_of (map (apply entries) ts))
size_of_instance entries f ts = ap (λ us. 1 + sizes us) (apply_all-trees_of entries ts)

pub depth_of_instance :
    (entries : List (Option Tree)) (f : ℕ) (ts : List Tree) →
    tree_depth (apply entries (app f (trees_of ts))) ≡ 1 + depths (trees_of (map (apply entries) ts))
depth_of_instance entries f ts = ap (λ us. 1 + depths us) (apply_all-trees_of entries ts)

-- an equation's instance is among those of its list
pub instance_at :
    (entries : List (Option Tree)) (es : List Equation) (i : ℕ) (e : Equation) → i < length es → e ≡ get_or es i e →
    equation_instance entries e ≡ get_or (map (equation_instance entries) es) i (equation_instance entries e)
instance_at entries es i e lt is =
    ap (equation_instance entries) is
    ∙ sym (get_or-map (equation_instance entries) es i e (equation_instance entries e) lt)

pub instance_below :
    (entries : List (Option Tree)) (es : List Equation) (i : ℕ) → i < length es →
    i < length (map (equation_instance entries) es)
instance_below entries es i lt = omega (arith, length-map es (equation_instance entries))

pub all_instances :
    (entries : List (Option Tree)) (es : List Equation) →
    take (length es) (map (equation_instance entries) es) ≡ map (equation_instance entries) es
all_instances entries es = take_all (length es) (map (equation_instance entries) es)
    (omega (arith, length-map es (equation_instance entries)))
