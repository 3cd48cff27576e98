-- Lists of terms that are joined, and what is known of both parts.
use Rattle.std.proofs.Common.{◌≡◌, ℕ, zero, suc, List, [], ◌∷◌, ◌++◌, length, refl, ap, arith}
use Rattle.std.specs.Prelude.{replicate}
use Rattle.term_core.specs.Tree.{Tree, Trees, var, none, some, trees_of, list_of}
use Rattle.term_core.specs.declared.ids.SortId.{SortId}
use Rattle.spec_core.specs.Sig.{Sig}
use Rattle.spec_core.specs.Sorts.{SortedAll, AreBuilt}
use Rattle.coverage_check.specs.Values.{AreValues}
use Rattle.coverage_check.specs.Admits.{AdmitAll}

-- what is known of all arguments and of the rest is known of them joined
pub admit_join : (ps ts : Trees) (qs us : List Tree) → AdmitAll ps ts → AdmitAll (trees_of qs) (trees_of us) →
    AdmitAll (trees_of (list_of ps ++ qs)) (trees_of (list_of ts ++ us))
admit_join none none qs us a b = b
admit_join none (some t ts) qs us a b = absurd a
admit_join (some p ps) none qs us a b = absurd a
admit_join (some p ps) (some t ts) qs us a b = (a.0, admit_join ps ts qs us a.1 b)

pub admit_split : (ps ts : Trees) (qs us : List Tree) → length (list_of ps) ≡ length (list_of ts) →
    AdmitAll (trees_of (list_of ps ++ qs)) (trees_of (list_of ts ++ us)) →
    AdmitAll ps ts × AdmitAll (trees_of qs) (trees_of us)
admit_split none none qs us e a = (tt, a)
admit_split none (some t ts) qs us e a = absurd (omega arith)
admit_split (some p ps) none qs us e a = absurd (omega arith)
admit_split (some p ps) (some t ts) qs us e a =
    let r = admit_split ps ts qs us (omega arith) a.1 in
    ((a.0, r.0), r.1)

-- variables admit as many terms
pub variables_join : (n : ℕ) (ts : Trees) (qs us : List Tree) → length (list_of ts) ≡ n →
    AdmitAll (trees_of qs) (trees_of us) → AdmitAll (trees_of (replicate n (var 0) ++ qs)) (trees_of (list_of ts ++ us))
variables_join zero none qs us e b = b
variables_join zero (some t ts) qs us e b = absurd (omega arith)
variables_join (suc n) none qs us e b = absurd (omega arith)
variables_join (suc n) (some t ts) qs us e b = (tt, variables_join n ts qs us (omega arith) b)

pub variables_split : (n : ℕ) (ts : Trees) (qs us : List Tree) → length (list_of ts) ≡ n →
    AdmitAll (trees_of (replicate n (var 0) ++ qs)) (trees_of (list_of ts ++ us)) → AdmitAll (trees_of qs) (trees_of us)
variables_split zero none qs us e a = a
variables_split zero (some t ts) qs us e a = absurd (omega arith)
variables_split (suc n) none qs us e a = absurd (omega arith)
variables_split (suc n) (some t ts) qs us e a = variables_split n ts qs us (omega arith) a.1

module _ (sig : Sig) where
  pub values_join : (ts : Trees) (us : List Tree) (ss rs : List SortId) → SortedAll sig [] ts ss →
      AreBuilt sig ts → AreValues sig rs us → AreValues sig (ss ++ rs) (list_of ts ++ us)
  values_join none us [] rs p b v = v
  values_join none us (s ∷ ss) rs p b v = absurd p
  values_join (some t ts) us [] rs p b v = absurd p
  values_join (some t ts) us (s ∷ ss) rs p b v =
      let r = values_join ts us ss rs p.1 b.1 v in
      ((p.0, r.0), (b.0, r.1))

  pub values_split : (ts : Trees) (us : List Tree) (ss rs : List SortId) → length (list_of ts) ≡ length ss →
      AreValues sig (ss ++ rs) (list_of ts ++ us) → SortedAll sig [] ts ss × AreBuilt sig ts × AreValues sig rs us
  values_split none us [] rs e v = (tt, tt, v)
  values_split none us (s ∷ ss) rs e v = absurd (omega arith)
  values_split (some t ts) us [] rs e v = absurd (omega arith)
  values_split (some t ts) us (s ∷ ss) rs e v =
      let r = values_split ts us ss rs (omega arith) (v.0.1, v.1.1) in
      ((v.0.0, r.0), (v.1.0, r.1), r.2)

  pub sorted_length : (ts : Trees) (ss : List SortId) → SortedAll sig [] ts ss → length (list_of ts) ≡ length ss
  sorted_length none [] p = refl
  sorted_length none (s ∷ ss) p = absurd p
  sorted_length (some t ts) [] p = absurd p
  sorted_length (some t ts) (s ∷ ss) p = ap suc (sorted_length ts ss p.1)

  -- values of joined sorts are values of both, joined
  pub values_parts : (ws : List Tree) (ss rs : List SortId) → AreValues sig (ss ++ rs) ws →
      (ts : Trees) × (us : List Tree) × (ws ≡ list_of ts ++ us) × SortedAll sig [] ts ss × AreBuilt sig ts
      × AreValues sig rs us
  values_parts ws [] rs v = (none, ws, refl, tt, tt, v)
  values_parts [] (s ∷ ss) rs v = absurd v.0
  values_parts (w ∷ ws) (s ∷ ss) rs v =
      let r = values_parts ws ss rs (v.0.1, v.1.1) in
      (some w r.0, r.1, ap (λ us. w ∷ us) r.2, (v.0.0, r.3), (v.1.0, r.4), r.5)
