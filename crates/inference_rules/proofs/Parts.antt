-- A term occurs in another if a context makes the other of it.
use Rattle.std.proofs.Common.{◌≡◌, ℕ, zero, suc, ◌+◌, ◌<◌, List, [], ◌∷◌, ◌++◌, inl, inr, length, take, get_or, refl}
use Rattle.std.proofs.Common.{ap, subst, arith}
use Rattle.std.specs.Prelude.{◌⊎◌}
use Rattle.term_core.specs.Tree.{Tree, Trees, var, app, none, some, trees_of}
use Rattle.term_core.specs.Contexts.{Context, hole, under, around, plug}
use Rattle.term_core.proofs.Items.{taken_next}
use Rattle.term_core.proofs.Members.{In, in_contained, contained_in}
use Rattle.spec_core.specs.declared.records.Equation.{Equation}
use Rattle.clause_core.specs.declared.clauses.Clause.{Clause}
use Rattle.clause_core.specs.Clauses.{sides_of, sides}
use Rattle.clause_core.specs.Generalizing.{StandsIn}
use Rattle.clause_core.proofs.Sides.{sides_next}
use Rattle.inference_rules.specs.Parts.{IsPart, IsPartOfAny}

pub part_itself : (t : Tree) → IsPart t t
part_itself (var n) = refl
part_itself (app f ts) = inl refl

part_around : (t : Tree) (before : Trees) (u : Tree) (after : Trees) → IsPart t u →
    IsPartOfAny t (around before u after)
part_around t none u after p = inl p
part_around t (some b before) u after p = inr (part_around t before u after p)

part_plugged : (t : Tree) (round : Context) → IsPart t (plug round t)
part_plugged t hole = part_itself t
part_plugged t (under f before round after) = inr (part_around t before (plug round t) after (part_plugged t round))

-- the way to a term that occurs in others
record Way (t : Tree) (us : Trees) : Type 0 where
  before : Trees
  round : Context
  after : Trees
  is : around before (plug round t) after ≡ us

mutual
  part_context : (t s : Tree) → IsPart t s → (round : Context) × (plug round t ≡ s)
  part_context t (var n) p = (hole, p)
  part_context t (app f ts) (inl e) = (hole, e)
  part_context t (app f ts) (inr p) =
      let w = part_way t ts p in
      (under f w.before w.round w.after, ap (λ us. app f us) w.is)

  part_way : (t : Tree) (us : Trees) → IsPartOfAny t us → Way t us
  part_way t none p = absurd p
  part_way t (some u us) (inl p) =
      let r = part_context t u p in
      record { before = none; round = r.0; after = us; is = ap (λ x. some x us) r.1 }
  part_way t (some u us) (inr p) =
      let w = part_way t us p in
      record { before = some u w.before; round = w.round; after = w.after; is = ap (λ x. some u x) w.is }

part_member : (t s : Tree) (us : List Tree) → IsPart t s → In s us → IsPartOfAny t (trees_of us)
part_member t s [] p i = absurd i
part_member t s (u ∷ us) p (inl e) = inl (subst (λ x. IsPart t x) e p)
part_member t s (u ∷ us) p (inr i) = inr (part_member t s us p i)

member_part : (t : Tree) (us : List Tree) → IsPartOfAny t (trees_of us) → (s : Tree) × In s us × IsPart t s
member_part t [] p = absurd p
member_part t (u ∷ us) (inl p) = (u, inl refl, p)
member_part t (u ∷ us) (inr p) = let r = member_part t us p in (r.0, inr r.1, r.2)

-- in the sides of a clause
pub standing : (t : Tree) (c : Clause) → IsPartOfAny t (trees_of (sides c)) → StandsIn t c
standing t c p =
    let m = member_part t (sides c) p in
    let r = part_context t m.0 m.2 in
    (m.0, r.0, contained_in (sides c) m.0 m.1, r.1)

pub part_of_sides : (t : Tree) (c : Clause) → StandsIn t c → IsPartOfAny t (trees_of (sides c))
part_of_sides t c h = part_member t h.0 (sides c) (subst (λ s. IsPart t s) h.3 (part_plugged t h.1))
    (in_contained (sides c) h.0 h.2)

pub part_left : (t : Tree) (us vs : List Tree) → IsPartOfAny t (trees_of us) → IsPartOfAny t (trees_of (us ++ vs))
part_left t [] vs p = absurd p
part_left t (u ∷ us) vs (inl p) = inl p
part_left t (u ∷ us) vs (inr p) = inr (part_left t us vs p)

pub part_right : (t : Tree) (us vs : List Tree) → IsPartOfAny t (trees_of vs) → IsPartOfAny t (trees_of (us ++ vs))
part_right t [] vs p = p
part_right t (u ∷ us) vs p = inr (part_right t us vs p)

pub part_either : (t : Tree) (us vs : List Tree) → IsPartOfAny t (trees_of (us ++ vs)) →
    IsPartOfAny t (trees_of us) ⊎ IsPartOfAny t (trees_of vs)
part_either t [] vs p = inr p
part_either t (u ∷ us) vs (inl p) = inl (inl p)
part_either t (u ∷ us) vs (inr p) = elim (part_either t us vs p) [ inl q ↦ inl (inr q) | inr q ↦ inr q ]

-- of one term more
pub part_at : (t : Tree) (us : List Tree) (i : ℕ) (u : Tree) → i < length us → u ≡ get_or us i u → IsPart t u →
    IsPartOfAny t (trees_of us)
part_at t [] i u lt is p = absurd (omega arith)
part_at t (v ∷ us) zero u lt is p = inl (subst (λ x. IsPart t x) is p)
part_at t (v ∷ us) (suc i) u lt is p = inr (part_at t us i u (omega arith) is p)

pub none_next :
    (t : Tree) (us : List Tree) (i : ℕ) (u : Tree) → i < length us → u ≡ get_or us i u →
    (IsPartOfAny t (trees_of (take i us)) → ⊥) → (IsPart t u → ⊥) → IsPartOfAny t (trees_of (take (i + 1) us)) → ⊥
none_next t us i u lt is h n p =
    elim (part_either t (take i us) (u ∷ []) (subst (λ xs. IsPartOfAny t (trees_of xs)) (taken_next us i u lt is) p)) [
      | inl q ↦ h q
      | inr q ↦ elim q [ inl r ↦ n r | inr r ↦ r ]
    ]

pub sides_at : (t : Tree) (es : List Equation) (i : ℕ) (e : Equation) → i < length es → e ≡ get_or es i e →
    IsPart t e.left ⊎ IsPart t e.right → IsPartOfAny t (trees_of (sides_of es))
sides_at t [] i e lt is p = absurd (omega arith)
sides_at t (d ∷ es) zero e lt is (inl p) = inl (subst (λ (x : Equation). IsPart t x.left) is p)
sides_at t (d ∷ es) zero e lt is (inr p) = inr (inl (subst (λ (x : Equation). IsPart t x.right) is p))
sides_at t (d ∷ es) (suc i) e lt is p = inr (inr (sides_at t es i e (omega arith) is p))

pub no_sides_next :
    (t : Tree) (es : List Equation) (i : ℕ) (e : Equation) → i < length es → e ≡ get_or es i e →
    (IsPartOfAny t (trees_of (sides_of (take i es))) → ⊥) → (IsPart t e.left → ⊥) → (IsPart t e.right → ⊥) →
    IsPartOfAny t (trees_of (sides_of (take (i + 1) es))) → ⊥
no_sides_next t es i e lt is h l r p =
    elim (part_either t (sides_of (take i es)) (e.left ∷ e.right ∷ [])
    (subst (λ xs. IsPartOfAny t (trees_of xs)) (sides_next es i e lt is) p)) [
      | inl q ↦ h q
      | inr q ↦ elim q [ inl a ↦ l a | inr b ↦ elim b [ inl z ↦ r z | inr z ↦ z ] ]
    ]
