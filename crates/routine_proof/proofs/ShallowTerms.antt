-- Terms for the variables of a tidied clause are no deeper than the instance that they make, and a
-- tidied clause has no more variables than its size.
use Rattle.std.proofs.Common.{◌≡◌, ℕ, zero, suc, ◌+◌, ◌≤◌, List, [], ◌∷◌, ◌++◌, Option, Some, None, inl, inr, map}
use Rattle.std.proofs.Common.{length, refl, ap, sym, ◌∙◌, arith}
use Rattle.std.specs.Prelude.{slice_get}
use Rattle.std.proofs.lemmas.List.{map-append}
use Rattle.std.proofs.lemmas.Option.{slice_get_within}
use Rattle.term_core.specs.Tree.{Tree, Trees, var, app, none, some, trees_of, tree_depth, tree_size, depths, sizes}
use Rattle.term_core.specs.Variables.{Occurs, OccursAny, Numbered, NumberedAll}
use Rattle.term_core.specs.declared.ids.SortId.{SortId}
use Rattle.spec_core.specs.declared.records.Equation.{Equation}
use Rattle.spec_core.specs.Sig.{Sig}
use Rattle.spec_core.specs.Sorts.{SortedAll}
use Rattle.spec_core.proofs.Values.{numbered_occur}
use Rattle.substitutions.specs.Substitution.{entry, image, apply, apply_all}
use Rattle.substitutions.proofs.Instances.{image_entry, apply_all-trees_of}
use Rattle.clause_core.specs.declared.clauses.Clause.{Clause}
use Rattle.clause_core.specs.ClauseInstances.{equation_instance}
use Rattle.clause_core.specs.Clauses.{sides_of, sides}
use Rattle.clause_core.specs.Instances.{instance_by}
use Rattle.clause_core.specs.Limits.{IsWithin}
use Rattle.clause_core.specs.Tidied.{IsTidied}

module _ (s : List (Option Tree)) where
  mutual
    image_depth : (t : Tree) (n : ℕ) → Occurs n t → tree_depth (image s n) ≤ tree_depth (apply s t)
    image_depth (var m) n o =
        let e : tree_depth (image s n) ≡ tree_depth (image s m) =
        ap (λ j. tree_depth (image s j)) o in
        omega (arith, e)
    image_depth (app f ts) n o = omega (arith, image_depths ts n o)

    image_depths :
        (ts : Trees) (n : ℕ) → OccursAny n ts → tree_depth (image s n) ≤ depths (apply_all s ts)
    image_depths none n o = absurd o
    image_depths (some t ts) n (inl o) = omega (arith, image_depth t n o)
    image_depths (some t ts) n (inr o) = omega (arith, image_depths ts n o)

  sides_instance :
      (es : List Equation) → sides_of (map (equation_instance s) es) ≡ map (apply s) (sides_of es)
  sides_instance [] = refl
  sides_instance (e ∷ es) =
      ap (λ ts. apply s e.left ∷ apply s e.right ∷ ts) (sides_instance es)

term_entry :
    (terms : List Tree) (k : ℕ) (t : Tree) →
    slice_get terms k ≡ Some t → entry (map (λ (u : Tree). Some u) terms) k ≡ Some t
term_entry [] k t at = absurd (let q : None ≡ Some t = at in cc)
term_entry (u ∷ terms) zero t at = at
term_entry (u ∷ terms) (suc k) t at = term_entry terms k t at

as_many :
    (sig : Sig) (ctx : List SortId) (ts : List Tree) (ss : List SortId) →
    SortedAll sig ctx (trees_of ts) ss → length ts ≡ length ss
as_many sig ctx [] [] h = refl
as_many sig ctx [] (s ∷ ss) h = absurd h
as_many sig ctx (t ∷ ts) [] h = absurd h
as_many sig ctx (t ∷ ts) (s ∷ ss) h = ap (λ n. suc n) (as_many sig ctx ts ss h.1)

pub terms_shallow :
    (sig : Sig) (ctx : List SortId) (d : Clause) (terms : List Tree) → IsTidied d →
    SortedAll sig ctx (trees_of terms) d.ctx → IsWithin (instance_by terms ctx d) →
    (k : ℕ) (t : Tree) → slice_get terms k ≡ Some t → tree_depth t ≤ 100
terms_shallow sig ctx d terms tidy sorted within k t at =
    let s : List (Option Tree) = map (λ (u : Tree). Some u) terms in
    let below = slice_get_within terms k t at in
    let many = as_many sig ctx terms d.ctx sorted in
    let occurs =
    numbered_occur 0 (length d.ctx) (trees_of (sides d)) tidy k (omega arith)
    (omega (arith, below, many)) in
    let both : sides (instance_by terms ctx d) ≡ map (apply s) (sides d) =
    (λ i. sides_instance s d.premises i ++ sides_instance s d.conclusions i)
    ∙ sym (map-append (apply s) (sides_of d.premises) (sides_of d.conclusions)) in
    let all : trees_of (sides (instance_by terms ctx d)) ≡ apply_all s (trees_of (sides d)) =
    ap trees_of both ∙ sym (apply_all-trees_of s (sides d)) in
    let own : tree_depth (image s k) ≡ tree_depth t =
    ap (λ u. tree_depth u) (image_entry s k t (term_entry terms k t at)) in
    let deep = image_depths s (trees_of (sides d)) k occurs in
    omega (arith, own, deep, ap (λ ts. depths ts) all, within.depth)

mutual
  numbered_few : (k m : ℕ) (t : Tree) → Numbered k t m → m ≤ k + tree_size t
  numbered_few k m (var n) (inl h) = omega (arith, h)
  numbered_few k m (var n) (inr h) = omega (arith, h)
  numbered_few k m (app f ts) h = omega (arith, numbered_all_few k m ts h)

  numbered_all_few : (k m : ℕ) (ts : Trees) → NumberedAll k ts m → m ≤ k + sizes ts
  numbered_all_few k m none h = omega (arith, h)
  numbered_all_few k m (some t ts) h =
      omega (arith, numbered_few k h.0 t h.1, numbered_all_few h.0 m ts h.2)

pub few_variables : (c : Clause) → IsTidied c → IsWithin c → length c.ctx ≤ 4000
few_variables c tidy within =
    omega (arith, numbered_all_few 0 (length c.ctx) (trees_of (sides c)) tidy, within.size)
