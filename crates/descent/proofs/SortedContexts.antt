-- Terms in sorted contexts.
use Rattle.std.proofs.Common.{◌≡◌, List, [], ◌∷◌, Bool, true, false, not, subst}
use Rattle.term_core.specs.declared.ids.SortId.{SortId}
use Rattle.term_core.specs.Tree.{Tree, Trees, none, some}
use Rattle.term_core.specs.Contexts.{Context, hole, under, around, plug}
use Rattle.spec_core.specs.declared.records.Equation.{Equation}
use Rattle.spec_core.specs.Sig.{Sig}
use Rattle.spec_core.specs.Sorts.{Sorted, SortedAll}
use Rattle.spec_core.proofs.OneSort.{sort_unique}
use Rattle.clause_core.specs.Places.{side, with_side}
use Rattle.descent.proofs.SortedEquations.{HasOneSort}

-- the term in a sorted context has a sort, and any term of that sort may be there
abbrev Opens : Sig → List SortId → Context → Tree → SortId → Type 0
Opens sig ctx c t s = (r : SortId) × Sorted sig ctx t r × ((u : Tree) → Sorted sig ctx u r →
    Sorted sig ctx (plug c u) s)

sorted_around : (sig : Sig) (ctx : List SortId) (c : Context) (t : Tree) →
    ((s : SortId) → Sorted sig ctx (plug c t) s → Opens sig ctx c t s) →
    (before after : Trees) (ss : List SortId) → SortedAll sig ctx (around before (plug c t) after) ss →
    (r : SortId) × Sorted sig ctx t r × ((u : Tree) → Sorted sig ctx u r →
    SortedAll sig ctx (around before (plug c u) after) ss)
sorted_around sig ctx c t h none after [] p = absurd p
sorted_around sig ctx c t h none after (s ∷ ss) p = let r = h s p.0 in (r.0, r.1, λ u q. (r.2 u q, p.1))
sorted_around sig ctx c t h (some b before) after [] p = absurd p
sorted_around sig ctx c t h (some b before) after (s ∷ ss) p = let r = sorted_around sig ctx c t h before after
    ss p.1 in (r.0, r.1, λ u q. (p.0, r.2 u q))

pub sorted_plug : (sig : Sig) (ctx : List SortId) (c : Context) (t : Tree) (s : SortId) →
    Sorted sig ctx (plug c t) s → Opens sig ctx c t s
sorted_plug sig ctx hole t s p = (s, p, λ u q. q)
sorted_plug sig ctx (under f before c after) t s p =
    let r = sorted_around sig ctx c t (λ z q. sorted_plug sig ctx c t z q) before after p.0.args p.3 in
    (r.0, r.1, λ u q. (p.0, p.1, p.2, r.2 u q))

module _ (sig : Sig) (to : List SortId) where
  -- another term in a side
  pub side_sorted : (left : Bool) (e : Equation) (round : Context) (t u : Tree) →
      ((r : SortId) → Sorted sig to t r → Sorted sig to u r) → side left e ≡ plug round t →
      HasOneSort sig to e → HasOneSort sig to (with_side left e (plug round u))
  side_sorted true e round t u h q p = let a = sorted_plug sig to round t p.0
      (subst (λ z. Sorted sig to z p.0) q p.1) in (p.0, a.2 u (h a.0 a.1), p.2)
  side_sorted false e round t u h q p = let a = sorted_plug sig to round t p.0
      (subst (λ z. Sorted sig to z p.0) q p.2) in (p.0, p.1, a.2 u (h a.0 a.1))

  -- the one side has the sort of the other
  pub other_sorted : (left : Bool) (e : Equation) (t : Tree) (r : SortId) → side left e ≡ t →
      HasOneSort sig to e → Sorted sig to t r → Sorted sig to (side (not left) e) r
  other_sorted true e t r q p h = let k : p.0 ≡ r = sort_unique sig to t p.0 r
      (subst (λ z. Sorted sig to z p.0) q p.1) h in subst (λ z. Sorted sig to e.right z) k p.2
  other_sorted false e t r q p h = let k : p.0 ≡ r = sort_unique sig to t p.0 r
      (subst (λ z. Sorted sig to z p.0) q p.2) h in subst (λ z. Sorted sig to e.left z) k p.1
