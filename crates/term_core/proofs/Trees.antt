-- Lists of terms, and the sizes of terms.
use Rattle.std.proofs.Common.{◌≡◌, zero, suc, ◌≤◌, ◌<◌, ◌++◌, max, ◌-◌, ◌+◌, ℕ, List, [], ◌∷◌, IsTrue, Bool, ◌↔◌, refl}
use Rattle.std.proofs.Common.{ap, sym, ◌∙◌, length, get_or, slice_set, take, drop, arith}
use Rattle.std.proofs.Math.Seq.{take-length}
use Rattle.std.proofs.lemmas.List.{take_more, take_all, length-take, length-drop}
use Rattle.term_core.specs.Measure.{weight, list_weight}
use Rattle.term_core.specs.Tree.{Tree, Trees, var, app, none, some, instance, instances, trees_of, list_of, tree_size}
use Rattle.term_core.specs.Tree.{sizes, tree_depth, depths}

pub list_of-trees_of : (ts : List Tree) → list_of (trees_of ts) ≡ ts
list_of-trees_of [] = refl
list_of-trees_of (t ∷ ts) = ap (λ us. t ∷ us) (list_of-trees_of ts)

pub trees_of-list_of : (ts : Trees) → trees_of (list_of ts) ≡ ts
trees_of-list_of none = refl
trees_of-list_of (some t ts) = ap (λ us. some t us) (trees_of-list_of ts)

pub trees_of-inj : (xs ys : List Tree) → trees_of xs ≡ trees_of ys → xs ≡ ys
trees_of-inj xs ys e = sym (list_of-trees_of xs) ∙ ap (λ us. list_of us) e ∙ list_of-trees_of ys

pub size_positive : (t : Tree) → 1 ≤ tree_size t
size_positive (var n) = omega arith
size_positive (app f ts) = omega arith

mutual
  -- nothing is exchanged without entries
  pub instance_none : (t : Tree) → instance [] t ≡ t
  instance_none (var n) = refl
  instance_none (app f ts) = ap (λ us. app f us) (instances_none ts)

  pub instances_none : (ts : Trees) → instances [] ts ≡ ts
  instances_none none = refl
  instances_none (some t ts) =
      let p = instance_none t in
      let q = instances_none ts in
      cc

pub args_eq : {f g : ℕ} {xs ys : Trees} → app f xs ≡ app g ys → xs ≡ ys
args_eq e = cc

pub same_app : (a b : Tree) (f g : ℕ) (xs ys : List Tree) (r : Bool) → app f (trees_of xs) ≡ a →
    app g (trees_of ys) ≡ b → f ≡ g → IsTrue r ↔ (xs ≡ ys) → IsTrue r ↔ (a ≡ b)
same_app a b f g xs ys r p q e h =
    (λ t. let k : xs ≡ ys = h.0 t in cc, λ s. h.1 (trees_of-inj xs ys (args_eq (p ∙ s ∙ sym q))))

-- a slice from its first element on, as a slice's pattern gives it
pub slice_front : (xs : List Tree) (x : Tree) → 1 ≤ length xs → x ≡ get_or xs 0 x →
    xs ≡ x ∷ take (length xs - 1) (drop 1 xs)
slice_front [] x h e = absurd (omega arith)
slice_front (y ∷ ys) x h e =
    let k : x ≡ y = e in
    let n : length (y ∷ ys) - 1 ≡ length ys = omega arith in
    rw (n, k, take-length) refl

pub sizes-append : (xs : List Tree) (y : Tree) → sizes (trees_of (xs ++ y ∷ [])) ≡ sizes (trees_of xs) + tree_size y
sizes-append [] y = omega arith
sizes-append (x ∷ xs) y = omega (arith, sizes-append xs y)

pub depths-append : (xs : List Tree) (y : Tree) →
    depths (trees_of (xs ++ y ∷ [])) ≡ max (depths (trees_of xs)) (tree_depth y)
depths-append [] y = omega arith
depths-append (x ∷ xs) y = omega (arith, depths-append xs y)

-- one more term of a list, in a sum and in a maximum
pub sizes-take_more : (xs : List Tree) (i : ℕ) (x : Tree) → i < length xs → x ≡ get_or xs i x →
    sizes (trees_of (take (i + 1) xs)) ≡ sizes (trees_of (take i xs)) + tree_size x
sizes-take_more xs i x h e = ap (λ us. sizes (trees_of us)) (take_more xs i x h
    ∙ ap (λ u. take i xs ++ u ∷ []) (sym e)) ∙ sizes-append (take i xs) x

pub depths-take_more : (xs : List Tree) (i : ℕ) (x : Tree) → i < length xs → x ≡ get_or xs i x →
    depths (trees_of (take (i + 1) xs)) ≡ max (depths (trees_of (take i xs))) (tree_depth x)
depths-take_more xs i x h e = ap (λ us. depths (trees_of us)) (take_more xs i x h
    ∙ ap (λ u. take i xs ++ u ∷ []) (sym e)) ∙ depths-append (take i xs) x

-- a member weighs less than its list
pub weight-member : (xs : List Tree) (i : ℕ) (x : Tree) → i < length xs → x ≡ get_or xs i x → weight x < list_weight xs
weight-member [] i x h e = absurd (omega arith)
weight-member (y ∷ ys) zero x h e = let w : weight x ≡ weight y = ap (λ t. weight t) e in omega arith
weight-member (y ∷ ys) (suc i) x h e = omega (arith, weight-member ys i x (omega arith) e)

-- a list with one member exchanged, in parts
pub set_parts : (xs : List Tree) (i : ℕ) (x : Tree) → i < length xs → slice_set xs i x ≡ take i xs
    ++ x ∷ drop (i + 1) xs
set_parts [] i x h = absurd (omega arith)
set_parts (y ∷ ys) zero x h = refl
set_parts (y ∷ ys) (suc i) x h =
    let k : suc i + 1 ≡ suc (i + 1) = omega arith in
    ap (λ us. y ∷ us) (set_parts ys i x (omega arith)) ∙ ap (λ j. y ∷ take i ys ++ x ∷ drop j (y ∷ ys)) (sym k)

-- all that comes after an index, as a loop over a part of a slice goes along it
pub whole_rest : (xs ys : List Tree) (i j : ℕ) → ys ≡ xs →
    length (take (length ys - (i + 1)) (drop (i + 1) ys)) ≤ j → take j (drop (i + 1) xs) ≡ drop (i + 1) xs
whole_rest xs ys i j e h =
    let same : length ys ≡ length xs = ap (λ us. length us) e in
    let taken = length-take (length ys - (i + 1)) (drop (i + 1) ys) in
    let left = length-drop (i + 1) ys in
    let rest = length-drop (i + 1) xs in
    take_all j (drop (i + 1) xs) (omega arith)
