-- One side of a clause in the place of a greater one.
use Rattle.std.proofs.Common.{◌≡◌, ◌⊎◌, ℕ, ◌+◌, ◌≤◌, ◌<◌, List, [], ◌∷◌, ◌++◌, Bool, true, false, inl, inr, refl, ap}
use Rattle.std.proofs.Common.{sym, ◌∙◌, subst, arith, append_assoc}
use Rattle.std.specs.Prelude.{length}
use Rattle.std.specs.List.{AllByRecursion}
use Rattle.term_core.specs.Tree.{Tree, instance}
use Rattle.term_core.specs.Contexts.{Context, hole, under, plug}
use Rattle.term_core.specs.Ground.{IsGroundIn}
use Rattle.spec_core.specs.declared.records.Equation.{Equation}
use Rattle.spec_core.specs.declared.records.Spec.{Spec}
use Rattle.term_order.specs.Laws.{HasRanks}
use Rattle.clause_core.specs.declared.clauses.Clause.{Clause}
use Rattle.clause_core.specs.Clauses.{sides_of, sides}
use Rattle.clause_core.specs.NumberedEquations.{EquationAt, equations, exchanged}
use Rattle.clause_core.specs.Places.{side, with_side}
use Rattle.clause_core.proofs.Sides.{sides_append}
use Rattle.descent.specs.Weights.{AreRanks}
use Rattle.descent.proofs.InContexts.{around_inside}
use Rattle.descent.proofs.Multisets.{hit, hit_itself, hit_below, occurs, occurs-cons, occurs-append, IsIn}
use Rattle.descent.proofs.SideRanks.{Grounded, ranks_one, ranks_split}
use Rattle.descent.proofs.Counted.{Drops}

-- a lesser number in the place of one
one_less : (a b : List ℕ) (m n : ℕ) → n < m → (d : Drops (a ++ (m ∷ b)) (a ++ (n ∷ b))) × (d.at ≡ m)
one_less a b m n l = (
  record {
    at = m;
    more = omega (arith, l, both m m, both m n, hit_itself m, hit_below m n l);
    above = λ z k. omega (arith, both z m, both z n, hit_below z m k, hit_below z n (omega arith));
  },
  refl,
)
  where
    both : (z k : ℕ) → occurs z (a ++ (k ∷ b)) ≡ occurs z a + (hit z k + occurs z b)
    both z k = omega (arith, occurs-append z a (k ∷ b), occurs-cons z k b)

-- numbers that come in below the one that went
pub drops_with : (w a g b : List ℕ) (m : ℕ) (d : Drops w (a ++ b)) → d.at ≡ m → ((x : ℕ) → IsIn x g → x < m) →
    Drops w (a ++ (g ++ b))
drops_with w a g b m d e small = record {
  at = d.at;
  more = omega (arith, d.more, occurs-append d.at a b, more d.at, none d.at (omega arith));
  above = λ z k. omega (arith, d.above z k, occurs-append z a b, more z, none z (omega arith));
}
  where
    more : (z : ℕ) → occurs z (a ++ (g ++ b)) ≡ occurs z a + (occurs z g + occurs z b)
    more z = omega (arith, occurs-append z a (g ++ b), occurs-append z g b)

    zero_or : (n : ℕ) → (n ≡ 0) ⊎ (1 ≤ n)
    zero_or n = grind arith

    none : (z : ℕ) → m ≤ z → occurs z g ≡ 0
    none z l = elim (zero_or (occurs z g)) [ inl h ↦ h | inr i ↦ absurd (omega (arith, small z i)) ]

-- the sides before and after the one that is exchanged
side_split : (left : Bool) (e : Equation) (before after : List Equation) → (b : List Tree) × (a : List Tree)
    × ((t : Tree) → sides_of (before ++ (with_side left e t ∷ after)) ≡ b ++ (t ∷ a))
side_split true e before after = (
  sides_of before,
  e.right ∷ sides_of after,
  λ t. sides_append before (with_side true e t ∷ after),
)
side_split false e before after = (
  sides_of before ++ (e.left ∷ []),
  sides_of after,
  λ t. sides_append before (with_side false e t ∷ after)
      ∙ sym (append_assoc (sides_of before) (e.left ∷ []) (t ∷ sides_of after)),
)

same_side : (left : Bool) (e : Equation) → with_side left e (side left e) ≡ e
same_side true e = refl
same_side false e = refl

pub record Split (kind left : Bool) (c : Clause) (n : ℕ) (at : EquationAt (equations kind c) n) : Type 0 where
  pub before : List Tree
  pub after : List Tree
  pub first : sides c ≡ before ++ (side left at.equation ∷ after)
  pub second : (t : Tree) → sides (exchanged kind c at (with_side left at.equation t ∷ [])) ≡ before ++ (t ∷ after)

pub exchanged_sides : (kind left : Bool) (c : Clause) (n : ℕ) (at : EquationAt (equations kind c) n) →
    Split kind left c n at
exchanged_sides true left c n at =
    let s = side_split left at.equation at.before at.after in
    let own : c.conclusions ≡ at.before
    ++ (with_side left at.equation (side left at.equation) ∷ at.after) = at.is
    ∙ ap (λ e. at.before ++ (e ∷ at.after)) (sym (same_side left at.equation)) in
    record {
      before = sides_of c.premises ++ s.0;
      after = s.1;
      first = ap (λ es. sides_of c.premises ++ sides_of es) own
          ∙ ap (λ z. sides_of c.premises ++ z) (s.2 (side left at.equation))
          ∙ sym (append_assoc (sides_of c.premises) s.0 (side left at.equation ∷ s.1));
      second = λ t. ap (λ z. sides_of c.premises ++ z) (s.2 t) ∙ sym (append_assoc (sides_of c.premises) s.0 (t ∷ s.1));
    }
exchanged_sides false left c n at =
    let s = side_split left at.equation at.before at.after in
    let own : c.premises ≡ at.before ++ (with_side left at.equation (side left at.equation) ∷ at.after) = at.is
    ∙ ap (λ e. at.before ++ (e ∷ at.after)) (sym (same_side left at.equation)) in
    record {
      before = s.0;
      after = s.1 ++ sides_of c.conclusions;
      first = ap (λ es. sides_of es ++ sides_of c.conclusions) own
          ∙ ap (λ z. z ++ sides_of c.conclusions) (s.2 (side left at.equation))
          ∙ append_assoc s.0 (side left at.equation ∷ s.1) (sides_of c.conclusions);
      second = λ t. ap (λ z. z ++ sides_of c.conclusions) (s.2 t) ∙ append_assoc s.0 (t ∷ s.1) (sides_of c.conclusions);
    }

module _ (above : Tree → Tree → Type 0) (rank : ℕ → ℕ → Tree → ℕ → Type 0) (laws : HasRanks above rank) where
  -- a term in a context ranks no higher than the whole
  pub inside_rank : (n k : ℕ) → 1 ≤ k → (c : Context) (t : Tree) (r q : ℕ) → IsGroundIn n (plug c t) →
      rank n k (plug c t) r → rank n k t q → q ≤ r
  inside_rank n k l hole t r q g a b = let e = laws.one_rank n k t r q l g a b in omega (arith, e)
  inside_rank n k l (under f before c after) t r q g a b =
      let h = around_inside n before (plug c t) after g.2 in
      let m = laws.some_rank n k (plug c t) l h in
      let less = laws.on_arguments n k f before after (plug c t) r m.0 l g a m.1 in
      let rest = inside_rank n k l c t m.0 q h m.1 b in
      omega arith

  module _ (spec : Spec) (xs : List Tree) where
    pub ranks_join : (ts us : List Tree) (a b : List ℕ) → AreRanks rank spec xs ts a →
        AreRanks rank spec xs us b → AreRanks rank spec xs (ts ++ us) (a ++ b)
    ranks_join [] us [] b p q = q
    ranks_join [] us (r ∷ a) b p q = absurd p
    ranks_join (t ∷ ts) us [] b p q = absurd p
    ranks_join (t ∷ ts) us (r ∷ a) b p q = (p.0, ranks_join ts us a b p.1 q)

    -- the weight falls when a side of a lesser rank comes in, and at the rank of the side that goes
    pub exchanged_drops : (before after : List Tree) (old new : Tree) →
        AllByRecursion (Grounded spec xs) before → AllByRecursion (Grounded spec xs) after →
        ((m n : ℕ) → rank (length spec.sig.table) 100 (instance xs old) m →
        rank (length spec.sig.table) 100 (instance xs new) n → n < m) → (w v : List ℕ) →
        AreRanks rank spec xs (before ++ (old ∷ after)) w → AreRanks rank spec xs (before ++ (new ∷ after)) v →
        (m : ℕ) × rank (length spec.sig.table) 100 (instance xs old) m × ((d : Drops w v) × (d.at ≡ m))
    exchanged_drops before after old new ga gb less w v p q = by
        (ranks_split above rank laws spec xs before (old ∷ after) w p)
        (ranks_split above rank laws spec xs before (new ∷ after) v q)
      where
        by : ((a : List ℕ) × (b : List ℕ) × (w ≡ a ++ b) × AreRanks rank spec xs before a
            × AreRanks rank spec xs (old ∷ after) b) →
            ((a : List ℕ) × (b : List ℕ) × (v ≡ a ++ b) × AreRanks rank spec xs before a
            × AreRanks rank spec xs (new ∷ after) b) →
            (m : ℕ) × rank (length spec.sig.table) 100 (instance xs old) m × ((d : Drops w v) × (d.at ≡ m))
        by (a, [], e, pa, pb) (c, d, f, qa, qb) = absurd pb
        by (a, m ∷ b, e, pa, pb) (c, [], f, qa, qb) = absurd qb
        by (a, m ∷ b, e, pa, pb) (c, n ∷ d, f, qa, qb) =
            let h : a ≡ c = ranks_one above rank laws spec xs before ga a c pa qa in
            let k : b ≡ d = ranks_one above rank laws spec xs after gb b d pb.1 qb.1 in
            let g : v ≡ a ++ (n ∷ b) = f ∙ (λ i. sym h i ++ (n ∷ sym k i)) in (
              m,
              pb.0,
              subst (λ z. (d : Drops z v) × (d.at ≡ m)) (sym e)
                  (subst (λ z. (d : Drops (a ++ (m ∷ b)) z) × (d.at ≡ m)) (sym g)
                  (one_less a b m n (less m n pb.0 qb.0))),
            )
