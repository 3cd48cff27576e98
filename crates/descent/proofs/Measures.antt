-- Ranks as a measure: a number for each ground term, which falls as the order does.
use Rattle.std.proofs.Common.{◌≡◌, ℕ, ◌≤◌, ◌<◌, List, ap, subst, arith, length}
use Rattle.term_core.specs.Tree.{Tree, Trees, app, instance, list_of}
use Rattle.term_core.specs.Contexts.{Context, around, plug}
use Rattle.term_core.proofs.Members.{In}
use Rattle.spec_core.specs.declared.records.Spec.{Spec}
use Rattle.spec_core.specs.WellSorted.{IsShallow}
use Rattle.term_order.specs.Laws.{HasRanks}
use Rattle.clause_core.specs.Ranks.{IsGround, HasRank}
use Rattle.clause_core.proofs.RuleUses.{instances_rank_lower}
use Rattle.descent.proofs.InContexts.{member_around, member_ground}
use Rattle.descent.proofs.RankOf.{rank_of, rank_of_is}

pub record IsMeasure (above : Tree → Tree → Type 0) (spec : Spec) (measure : Tree → ℕ) : Type 0 where
  -- an argument measures less than the term
  pub on_arguments : (f : ℕ) (ts : Trees) (s : Tree) → In s (list_of ts) → IsGround spec (app f ts) →
      measure s < measure (app f ts)
  -- if t is above s, which is shallow, an instance of s measures less than that of t, in every context
  pub in_contexts :
      (t s : Tree) (xs : List Tree) (c : Context) → above t s → IsShallow s →
      IsGround spec (plug c (instance xs t)) → IsGround spec (plug c (instance xs s)) →
      measure (plug c (instance xs s)) < measure (plug c (instance xs t))

module _ (above : Tree → Tree → Type 0) (rank : ℕ → ℕ → Tree → ℕ → Type 0) (laws : HasRanks above rank)
    (spec : Spec) where
  at_least_one : 1 ≤ 100
  at_least_one = omega arith

  -- the rank of a ground term
  pub rank_in : Tree → ℕ
  rank_in t = rank_of above rank laws (length spec.sig.table) 100 at_least_one t

  pub rank_in_is : (t : Tree) → IsGround spec t → HasRank rank spec t (rank_in t)
  unfolding rank_in
  rank_in_is t g = rank_of_is above rank laws (length spec.sig.table) 100 at_least_one t g

  pub one_rank_in : (t : Tree) (r : ℕ) → IsGround spec t → HasRank rank spec t r → rank_in t ≡ r
  one_rank_in t r g h = laws.one_rank (length spec.sig.table) 100 t (rank_in t) r at_least_one g (rank_in_is t g) h

  argument_less : (f : ℕ) (ts : Trees) (s : Tree) → In s (list_of ts) → IsGround spec (app f ts) →
      rank_in s < rank_in (app f ts)
  argument_less f ts s i g =
      let m = member_around s ts i in
      let e : app f ts ≡ app f (around m.0 s m.1) = ap (λ us. app f us) m.2 in
      let r : HasRank rank spec (app f (around m.0 s m.1)) (rank_in (app f ts)) = subst
      (λ t. HasRank rank spec t (rank_in (app f ts))) e (rank_in_is (app f ts) g) in
      laws.on_arguments (length spec.sig.table) 100 f m.0 m.1 s (rank_in (app f ts)) (rank_in s) at_least_one
      (subst (IsGround spec) e g) r (rank_in_is s (member_ground (length spec.sig.table) s ts i g.2))

  pub ranks_measure : IsMeasure above spec rank_in
  ranks_measure = record {
    on_arguments = argument_less;
    in_contexts = λ t s xs c a d g h. instances_rank_lower above rank laws spec t s a d xs c
        (rank_in (plug c (instance xs t))) (rank_in (plug c (instance xs s))) g h
        (rank_in_is (plug c (instance xs t)) g) (rank_in_is (plug c (instance xs s)) h);
  }
