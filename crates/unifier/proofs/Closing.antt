-- How far the closure has come.
use Rattle.std.proofs.Common.{◌≡◌, ℕ, ◌<◌, List, [], ◌∷◌, ◌++◌, refl, ap, sym, ◌∙◌, subst, length}
use Rattle.term_core.specs.Tree.{Tree}
use Rattle.unifier.specs.declared.unification.graph.Shape.{Shape}
use Rattle.unifier.specs.Graph.{shape_at}
use Rattle.unifier.specs.Roots.{root, AreOwn}
use Rattle.unifier.specs.Markings.{Splits, Follows, Joins}
use Rattle.unifier.specs.Classes.{Classes}
use Rattle.unifier.specs.Closure.{IsClosure, IsClash, Joined, NotJoined}
use Rattle.unifier.proofs.Markings.{model_splits}
use Rattle.unifier.proofs.Joining.{last_joined}

-- how far the classes are: what is followed and joined has one mark for both nodes, and the other way round
pub record Closing (graph : List Shape) (first second : ℕ) (roots : List ℕ) (pending : List (ℕ × ℕ)) : Type 0 where
  pub classes : Classes graph roots pending
  pub joined : (mark : ℕ → Tree) → Follows graph roots mark → Joins mark pending → mark first ≡ mark second
  pub sound : (mark : ℕ → Tree) → Splits graph mark → mark first ≡ mark second → Follows graph roots mark
      × Joins mark pending

module _ (graph : List Shape) (first second : ℕ) where
  pub closing_starts : (roots : List ℕ) → AreOwn (length graph) roots → first < length graph →
      second < length graph → Closing graph first second roots ((first, second) ∷ [])
  closing_starts roots own a b = record {
    classes = record {
      long = own.long;
      within = λ i l. subst (λ n. n < length graph) (sym (own.own i l)) l;
      still = λ i l. ap (λ r. root roots r) (own.own i l);
      waiting = (a, b, tt);
      closed = λ i f cs l is. (
        f,
        cs,
        ap (λ r. shape_at graph r) (own.own i l) ∙ is,
        refl,
        refl,
        λ mark follows j. refl,
      );
    };
    joined = λ mark follows j. j.0;
    sound = λ mark s e. (λ i l. ap (λ r. mark r) (sym (own.own i l)), (e, tt));
  }

  pub closing_goes_on : (roots after : List ℕ) (rest pending : List (ℕ × ℕ)) (left right : ℕ) →
      Closing graph first second roots (rest ++ (left, right) ∷ []) →
      Joined graph roots rest left right after pending → Closing graph first second after pending
  closing_goes_on roots after rest pending left right c j = record {
    classes = j.classes;
    joined = λ mark follows p. let b = j.step.back mark follows p in c.joined mark b.0 b.1;
    sound = λ mark s e. let b = c.sound mark s e in j.step.forth mark s b.0 b.1;
  }

  pub closing_ends : (roots : List ℕ) → Closing graph first second roots [] → IsClosure graph first second roots
  closing_ends roots c = record {
    classes = c.classes;
    joined = λ mark follows. c.joined mark follows tt;
    sound = λ mark s e. (c.sound mark s e).0;
  }

  pub closing_clashes : (roots : List ℕ) (rest : List (ℕ × ℕ)) (left right : ℕ) →
      Closing graph first second roots (rest ++ (left, right) ∷ []) → NotJoined graph roots left right →
      IsClash graph first second
  closing_clashes roots rest left right c n mark model e =
      let b = c.sound mark (model_splits graph mark model) e in
      n mark model b.0 (last_joined graph roots rest left right c.classes mark b.1)
