-- The parts that a pattern's variables stand for.
use Rattle.std.proofs.Common.{◌≡◌, ℕ, ◌+◌, ◌<◌, List, inl, inr, sym, subst}
use Rattle.term_core.specs.Tree.{Tree, Trees, var, app, none, some, instance, instances}
use Rattle.term_core.specs.Variables.{Occurs, OccursAny}
use Rattle.term_core.proofs.Trees.{args_eq}
use Rattle.spec_core.specs.Sig.{Sig}
use Rattle.spec_core.specs.WellSorted.{IsLeft}
use Rattle.open_evaluation.specs.OpenGives.{IsOpen, AreOpen, VariablesAreBelow}
use Rattle.open_evaluation.specs.Shifted.{shifted, shifted_all, closed, closed_all}
use Rattle.open_evaluation.proofs.Arguments.{head_eq, no_more, first_eq, others_eq}
use Rattle.open_evaluation.proofs.Numbers.{below_number}

module _ (sig : Sig) (u : ℕ) where
  abbrev c : ℕ
  c = sig.constructors

  -- an open value over the first u variables
  pub record IsPart (x : Tree) : Type 0 where
    pub is_open : IsOpen sig x
    pub below : VariablesAreBelow u x

  -- the entry is the term x with constants
  pub record IsClosed (ys : List Tree) (k : ℕ) (x : Tree) : Type 0 where
    pub is : instance ys (var k) ≡ closed c u x
    pub part : IsPart x

  mutual
    -- if a pattern becomes an open value with constants, each of its variables becomes a part of the value
    entry_part : (ys : List Tree) (p s : Tree) → instance ys (shifted c u p) ≡ closed c u s → IsPart s →
        (k : ℕ) → Occurs k p → (x : Tree) × IsClosed ys k x
    entry_part ys (var j) s e h k o = (s, record { is = rw o e; part = h })
    entry_part ys (app g ps) (var j) e h k o = entries_part ys ps none (args_eq e) tt (λ i q. absurd q) k o
    entry_part ys (app g ps) (app f ss) e h k o = entries_part ys ps ss (args_eq e) h.is_open.1 h.below k o

    entries_part : (ys : List Tree) (ps ss : Trees) → instances ys (shifted_all c u ps) ≡ closed_all c u ss →
        AreOpen sig ss → ((i : ℕ) → OccursAny i ss → i < u) → (k : ℕ) → OccursAny k ps → (x : Tree) × IsClosed ys k x
    entries_part ys none ss e a h k o = absurd o
    entries_part ys (some p ps) none e a h k o = absurd (no_more e)
    entries_part ys (some p ps) (some s ss) e a h k (inl o) = entry_part ys p s (first_eq e)
        (record { is_open = a.0; below = λ i q. h i (inl q) }) k o
    entries_part ys (some p ps) (some s ss) e a h k (inr o) = entries_part ys ps ss (others_eq e) a.1
        (λ i q. h i (inr q)) k o

  pub left_part : (ys : List Tree) (left : Tree) (f : ℕ) (vs : Trees) → IsLeft sig left →
      instance ys (shifted c u left) ≡ closed c u (app f vs) → AreOpen sig vs → VariablesAreBelow u (app f vs) →
      (k : ℕ) → Occurs k left → (x : Tree) × IsClosed ys k x
  left_part ys (var n) f vs l e a h k o = absurd l
  left_part ys (app g ps) f vs l e a h k o = entries_part ys ps vs (args_eq e) a h k o

  -- the symbol of a left side with the new numbers is no constructor
  pub left_above : (ys : List Tree) (left : Tree) (f : ℕ) (vs : Trees) → IsLeft sig left →
      instance ys (shifted c u left) ≡ app f vs → f < c + u → ⊥
  left_above ys (var n) f vs l e w = l
  left_above ys (app g ps) f vs l e w = l.0 (below_number c u g (subst (λ n. n < c + u) (sym (head_eq e)) w))
