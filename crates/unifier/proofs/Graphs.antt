-- Trees by nodes.
use Rattle.std.proofs.Common.{◌≡◌, ℕ, zero, suc, ◌<◌, ◌≤◌, List, [], ◌∷◌, ◌++◌, Option, inl, inr, refl, ap, sym, ◌∙◌}
use Rattle.std.proofs.Common.{arith, length}
use Rattle.std.specs.Prelude.{slice_index}
use Rattle.term_core.specs.Tree.{Tree, app, none, some, trees_of}
use Rattle.term_core.specs.Measure.{weight, weights}
use Rattle.substitutions.specs.Substitution.{apply, apply_all}
use Rattle.term_core.specs.Variables.{Occurs, OccursAny}
use Rattle.unifier.specs.declared.unification.graph.Shape.{Shape}
use Rattle.unifier.specs.declared.unification.graph.Shape.TheVariants.{Var, App}
use Rattle.unifier.specs.Graph.{trees_by, built, AllBelow, ArgsBelow}
use Rattle.unifier.specs.Cycles.{EachArg}

pub below_at : (n : ℕ) (cs : List ℕ) (k : ℕ) → AllBelow n cs → k < length cs → slice_index cs k < n
below_at n [] k b h = absurd (omega arith)
below_at n (c ∷ cs) zero b h = b.0
below_at n (c ∷ cs) (suc k) b h = below_at n cs k b.1 (omega arith)

pub below_most : (m n : ℕ) (cs : List ℕ) → m ≤ n → AllBelow m cs → AllBelow n cs
below_most m n [] h b = tt
below_most m n (c ∷ cs) h b = (omega (arith, b.0), below_most m n cs h b.1)

pub below-append : (n : ℕ) (cs : List ℕ) (c : ℕ) → AllBelow n cs → c < n → AllBelow n (cs ++ c ∷ [])
below-append n [] c b h = (h, tt)
below-append n (d ∷ cs) c b h = (b.0, below-append n cs c b.1 h)

pub below_each : (n : ℕ) (s : Shape) → ArgsBelow n s → EachArg (λ c. c < n) s
below_each n (Var v) b = tt
below_each n (App f cs) b = λ k h. below_at n cs k b h

pub each_from : {P Q : ℕ → Type 0} (s : Shape) → EachArg P s → ((c : ℕ) → P c → Q c) → EachArg Q s
each_from (Var v) e h = tt
each_from {P} {Q} (App f cs) e h = λ k l. h (slice_index cs k) (e k l)

pub each_from_both : {P Q S : ℕ → Type 0} (s : Shape) → EachArg P s → EachArg Q s →
    ((c : ℕ) → P c → Q c → S c) → EachArg S s
each_from_both (Var v) e d h = tt
each_from_both {P} {Q} {S} (App f cs) e d h = λ k l. h (slice_index cs k) (e k l) (d k l)

-- the same trees at each place
pub trees_by_each : (f g : ℕ → Tree) (cs : List ℕ) →
    ((k : ℕ) → k < length cs → f (slice_index cs k) ≡ g (slice_index cs k)) → trees_by f cs ≡ trees_by g cs
trees_by_each f g [] h = refl
trees_by_each f g (c ∷ cs) h =
    let p : f c ≡ g c = h 0 (omega arith) in
    let q : trees_by f cs ≡ trees_by g cs = trees_by_each f g cs (λ k l. h (suc k) (omega arith)) in
    cc

pub trees_by_below : (n : ℕ) (f g : ℕ → Tree) (cs : List ℕ) → AllBelow n cs → ((i : ℕ) → i < n → f i ≡ g i) →
    trees_by f cs ≡ trees_by g cs
trees_by_below n f g cs b h = trees_by_each f g cs (λ k l. h (slice_index cs k) (below_at n cs k b l))

pub built_each : (f g : ℕ → Tree) (s : Shape) → EachArg (λ c. f c ≡ g c) s → built f s ≡ built g s
built_each f g (Var v) h = refl
built_each f g (App sym cs) h = ap (λ us. app sym.0 us) (trees_by_each f g cs h)

pub trees_by-append : (f : ℕ → Tree) (cs : List ℕ) (c : ℕ) (ts : List Tree) (t : Tree) →
    trees_by f cs ≡ trees_of ts → f c ≡ t → trees_by f (cs ++ c ∷ []) ≡ trees_of (ts ++ t ∷ [])
trees_by-append f [] c [] t p q = ap (λ u. some u none) q
trees_by-append f [] c (u ∷ ts) t p q = absurd (let e : none ≡ some u (trees_of ts) = p in cc)
trees_by-append f (d ∷ cs) c [] t p q = absurd (let e : some (f d) (trees_by f cs) ≡ none = p in cc)
trees_by-append f (d ∷ cs) c (u ∷ ts) t p q =
    let e : some (f d) (trees_by f cs) ≡ some u (trees_of ts) = p in
    let h : f d ≡ u = cc in
    let r : trees_by f cs ≡ trees_of ts = cc in
    let k : trees_by f (cs ++ c ∷ []) ≡ trees_of (ts ++ t ∷ []) = trees_by-append f cs c ts t r q in
    cc

pub apply-trees_by : (t : List (Option Tree)) (f : ℕ → Tree) (cs : List ℕ) →
    apply_all t (trees_by f cs) ≡ trees_by (λ c. apply t (f c)) cs
apply-trees_by t f [] = refl
apply-trees_by t f (c ∷ cs) = ap (λ us. some (apply t (f c)) us) (apply-trees_by t f cs)

pub apply-built_each : (t : List (Option Tree)) (f g : ℕ → Tree) (s : Shape) →
    EachArg (λ c. apply t (f c) ≡ apply t (g c)) s → apply t (built f s) ≡ apply t (built g s)
apply-built_each t f g (Var v) h = refl
apply-built_each t f g (App s cs) h = ap (λ us. app s.0 us) (apply-trees_by t f cs
    ∙ trees_by_each (λ c. apply t (f c)) (λ c. apply t (g c)) cs h ∙ sym (apply-trees_by t g cs))

-- a tree of a place weighs less than all
pub weight-trees_by : (f : ℕ → Tree) (cs : List ℕ) (k : ℕ) → k < length cs →
    weight (f (slice_index cs k)) < weights (trees_by f cs)
weight-trees_by f [] k h = absurd (omega arith)
weight-trees_by f (c ∷ cs) zero h = omega arith
weight-trees_by f (c ∷ cs) (suc k) h = omega (arith, weight-trees_by f cs k (omega arith))

pub occurs_by : (m : ℕ) (f : ℕ → Tree) (cs : List ℕ) → OccursAny m (trees_by f cs) → (k : ℕ) × (k < length cs)
    × Occurs m (f (slice_index cs k))
occurs_by m f [] o = absurd o
occurs_by m f (c ∷ cs) (inl o) = (0, omega arith, o)
occurs_by m f (c ∷ cs) (inr o) =
    let r = occurs_by m f cs o in
    (suc r.0, omega (arith, r.1), r.2)
