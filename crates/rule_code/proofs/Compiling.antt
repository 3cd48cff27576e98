-- The code of a term does what the term gives.
use Rattle.std.proofs.Common.{◌≡◌, ℕ, ◌+◌, ◌<◌, List, [], ◌∷◌, ◌++◌, refl, ap, sym, ◌∙◌, subst, arith, length}
use Rattle.std.proofs.Common.{length-append, append_assoc}
use Rattle.std.proofs.lemmas.List.{append-nil}
use Rattle.term_core.specs.Tree.{Tree, Trees, var, app, none, some, instance, instances}
use Rattle.spec_core.specs.declared.records.Spec.{Spec}
use Rattle.spec_core.specs.Sorts.{IsBuilt}
use Rattle.spec_core.specs.WellSorted.{IsWellSorted}
use Rattle.spec_core.specs.Gives.{Gives, GivesAll, built, no_terms, more_terms}
use Rattle.spec_core.proofs.Values.{built_gives, built_only, call_gives}
use Rattle.rule_code.specs.Code.{Step, build, call, End, slots, Does}
use Rattle.rule_code.specs.Compiled.{IsStep, Codes, CodesAll, Holds}
use Rattle.rule_code.proofs.Values.{all_built, built_parts, call_parts}
use Rattle.rule_code.proofs.Slots.{AreSlots, slot_kept, slot_next, holds_kept}

module _ (spec : Spec) (fine : IsWellSorted spec) (homes : List ℕ) (xs : List Tree) where
  -- what comes after the code of a term: the term gave a value, which is in its slot, and the rest goes on
  pub record After (env : List Tree) (rest : List Step) (end : End) (w : Tree) (n : ℕ) (t : Tree) (s next : ℕ) :
      Type 0 where
    pub more : List Tree
    pub value : Tree
    pub first : ℕ
    pub other : ℕ
    pub gives : Gives spec t value first
    pub goes : Does spec (env ++ more) rest end w other
    pub cost : n ≡ first + other
    pub count : length (env ++ more) ≡ next
    pub here : instance (env ++ more) (var s) ≡ value
    pub low : s < next

  pub record AfterAll (env : List Tree) (rest : List Step) (end : End) (w : Tree) (n : ℕ) (ts : Trees)
      (ss : List ℕ) (next : ℕ) : Type 0 where
    pub more : List Tree
    pub values : Trees
    pub first : ℕ
    pub other : ℕ
    pub give : GivesAll spec ts values first
    pub goes : Does spec (env ++ more) rest end w other
    pub cost : n ≡ first + other
    pub count : length (env ++ more) ≡ next
    pub here : slots (env ++ more) ss ≡ values
    pub low : AreSlots next ss

  mutual
    pub codes_right : (t : Tree) (env : List Tree) (steps rest : List Step) (end : End) (w : Tree)
        (n s next : ℕ) → Codes spec.sig homes t (length env) steps s next → Holds spec.sig homes env xs →
        Does spec env (steps ++ rest) end w n → After env rest end w n (instance xs t) s next
    codes_right (var k) env steps rest end w n s next (empty, at, e) h d =
        let q = h k s at in
        let d₀ : Does spec env ([] ++ rest) end w n = subst (λ ss. Does spec env (ss ++ rest) end w n) empty d in
        let nil = append-nil env in
        record {
          more = [];
          value = instance xs (var k);
          first = 0;
          other = n;
          gives = built_gives spec (instance xs (var k)) (subst (λ t. IsBuilt spec.sig t) (sym q.1) q.2);
          goes = subst (λ es. Does spec es rest end w n) (sym nil) d₀;
          cost = omega arith;
          count = ap length nil ∙ sym e;
          here = ap (λ es. instance es (var s)) nil ∙ sym q.1;
          low = omega (arith, q.0, e);
        }
    codes_right (app f ts) env steps rest end w n s next (inner, ss, step, all, is, e, z) h d =
        let d₀ : Does spec env (inner ++ (step ∷ rest)) end w n = subst (λ xs. Does spec env xs end w n)
        (ap (λ xs. xs ++ rest) e ∙ append_assoc inner (step ∷ []) rest) d in
        by step is (codes_all_right ts env inner (step ∷ rest) end w n ss s all h d₀)
      where
        by : (step : Step) → IsStep spec.sig f ss step →
            AfterAll env (step ∷ rest) end w n (instances xs ts) ss s →
            After env rest end w n (app f (instances xs ts)) s next
        by (build g us) (c, ge, ue) a =
            let v : Tree = app f a.values in
            let e₁ : app g (slots (env ++ a.more) us) ≡ v = subst (λ x. app x (slots (env ++ a.more) us) ≡ v)
            (sym ge) (ap (λ x. app f x) (ap (λ x. slots (env ++ a.more) x) ue ∙ a.here)) in
            let g₁ : Does spec ((env ++ a.more) ++ v ∷ []) rest end w a.other = subst
            (λ x. Does spec ((env ++ a.more) ++ x ∷ []) rest end w a.other) e₁ a.goes in
            let q = append_assoc env a.more (v ∷ []) in
            record {
              more = a.more ++ v ∷ [];
              value = v;
              first = a.first;
              other = a.other;
              gives = built c a.give;
              goes = subst (λ es. Does spec es rest end w a.other) q g₁;
              cost = a.cost;
              count = omega (arith, ap length q, length-append (env ++ a.more) (v ∷ []), a.count, z);
              here = ap (λ es. instance es (var s)) (sym q) ∙ slot_next (env ++ a.more) v s (sym a.count);
              low = omega (arith, z);
            }
        by (call g us) (c, ge, ue) a =
            let v : Tree = a.goes.0 in
            let e₁ : app g (slots (env ++ a.more) us) ≡ app f a.values = subst
            (λ x. app x (slots (env ++ a.more) us) ≡ app f a.values) (sym ge)
            (ap (λ x. app f x) (ap (λ x. slots (env ++ a.more) x) ue ∙ a.here)) in
            let called₁ : Gives spec (app f a.values) v a.goes.1 = subst (λ x. Gives spec x v a.goes.1) e₁ a.goes.3 in
            let q = append_assoc env a.more (v ∷ []) in
            record {
              more = a.more ++ v ∷ [];
              value = v;
              first = a.first + a.goes.1;
              other = a.goes.2;
              gives = call_gives spec fine f c a.give (all_built spec a.give) called₁;
              goes = subst (λ es. Does spec es rest end w a.goes.2) q a.goes.4;
              cost = omega (arith, a.cost, a.goes.5);
              count = omega (arith, ap length q, length-append (env ++ a.more) (v ∷ []), a.count, z);
              here = ap (λ es. instance es (var s)) (sym q) ∙ slot_next (env ++ a.more) v s (sym a.count);
              low = omega (arith, z);
            }

    pub codes_all_right : (ts : Trees) (env : List Tree) (steps rest : List Step) (end : End) (w : Tree) (n : ℕ)
        (ss : List ℕ) (next : ℕ) → CodesAll spec.sig homes ts (length env) steps ss next →
        Holds spec.sig homes env xs → Does spec env (steps ++ rest) end w n →
        AfterAll env rest end w n (instances xs ts) ss next
    codes_all_right none env steps rest end w n ss next (e, u, z) h d =
        let d₀ : Does spec env ([] ++ rest) end w n = subst (λ xs. Does spec env (xs ++ rest) end w n) e d in
        let nil = append-nil env in
        record {
          more = [];
          values = none;
          first = 0;
          other = n;
          give = no_terms;
          goes = subst (λ es. Does spec es rest end w n) (sym nil) d₀;
          cost = omega arith;
          count = ap length nil ∙ sym z;
          here = ap (λ x. slots (env ++ []) x) u;
          low = subst (λ x. AreSlots next x) (sym u) tt;
        }
    codes_all_right (some t ts) env steps rest end w n ss next (a, b, s, us, mid, one, all, e, u) h d =
        let d₀ : Does spec env (a ++ (b ++ rest)) end w n = subst (λ xs. Does spec env xs end w n)
        (ap (λ xs. xs ++ rest) e ∙ append_assoc a b rest) d in
        let p = codes_right t env a (b ++ rest) end w n s mid one h d₀ in
        let all₁ : CodesAll spec.sig homes ts (length (env ++ p.more)) b us next = subst
        (λ x. CodesAll spec.sig homes ts x b us next) (sym p.count) all in
        let r = codes_all_right ts (env ++ p.more) b rest end w p.other us next all₁
        (holds_kept spec.sig homes env p.more xs h) p.goes in
        let q = append_assoc env p.more r.more in
        let k : instance ((env ++ p.more) ++ r.more) (var s) ≡ p.value = slot_kept (env ++ p.more) r.more s
        (omega (arith, p.low, p.count)) ∙ p.here in
        let l : slots ((env ++ p.more) ++ r.more) (s ∷ us) ≡ some p.value r.values = (let one₁ = k in
        let two₁ = r.here in cc) in
        record {
          more = p.more ++ r.more;
          values = some p.value r.values;
          first = p.first + r.first;
          other = r.other;
          give = more_terms p.gives r.give refl;
          goes = subst (λ es. Does spec es rest end w r.other) q r.goes;
          cost = omega (arith, p.cost, r.cost);
          count = ap length (sym q) ∙ r.count;
          here = ap (λ es. slots es ss) (sym q) ∙ ap (λ x. slots ((env ++ p.more) ++ r.more) x) u ∙ l;
          low = subst (λ x. AreSlots next x) (sym u)
              (omega (arith, p.low, p.count, r.count, length-append (env ++ p.more) r.more), r.low);
        }

  -- what terms give, parted at the first one
  record Parts (t : Tree) (ts : Trees) (vs : Trees) (m : ℕ) : Type 0 where
    value : Tree
    values : Trees
    first : ℕ
    other : ℕ
    gives : Gives spec t value first
    give : GivesAll spec ts values other
    is : vs ≡ some value values
    cost : m ≡ first + other

  -- what comes before the code of a term that gives a value: if the rest goes on from its slots, the whole does
  pub record Before (env : List Tree) (steps rest : List Step) (end : End) (v : Tree) (m s next : ℕ) : Type 0 where
    pub more : List Tree
    pub count : length (env ++ more) ≡ next
    pub here : instance (env ++ more) (var s) ≡ v
    pub low : s < next
    pub goes : (w : Tree) (k : ℕ) → Does spec (env ++ more) rest end w k → Does spec env (steps ++ rest) end w (m + k)

  pub record BeforeAll (env : List Tree) (steps rest : List Step) (end : End) (vs : Trees) (m : ℕ) (ss : List ℕ)
      (next : ℕ) : Type 0 where
    pub more : List Tree
    pub count : length (env ++ more) ≡ next
    pub here : slots (env ++ more) ss ≡ vs
    pub low : AreSlots next ss
    pub goes : (w : Tree) (k : ℕ) → Does spec (env ++ more) rest end w k → Does spec env (steps ++ rest) end w (m + k)

  mutual
    pub codes_whole : (t : Tree) (env : List Tree) (steps rest : List Step) (end : End) (v : Tree)
        (m s next : ℕ) → Codes spec.sig homes t (length env) steps s next → Holds spec.sig homes env xs →
        Gives spec (instance xs t) v m → Before env steps rest end v m s next
    codes_whole (var k) env steps rest end v m s next (empty, at, e) h g =
        let q = h k s at in
        let o = built_only spec fine g (subst (λ t. IsBuilt spec.sig t) (sym q.1) q.2) in
        let nil = append-nil env in
        record {
          more = [];
          count = ap length nil ∙ sym e;
          here = ap (λ es. instance es (var s)) nil ∙ sym q.1 ∙ sym o.0;
          low = omega (arith, q.0, e);
          goes = λ w k d.
              let n : k ≡ m + k = omega (arith, o.1) in
              subst (λ ss. Does spec env (ss ++ rest) end w (m + k)) (sym empty)
              (subst (λ x. Does spec env rest end w x) n (subst (λ es. Does spec es rest end w k) nil d));
        }
    codes_whole (app f ts) env steps rest end v m s next (inner, ss, step, all, is, e, z) h g = by step is e
        (λ rest' vs k gs. codes_all_whole ts env inner rest' end vs k ss s all h gs)
      where
        front : (step : Step) → steps ≡ inner ++ step ∷ [] → steps ++ rest ≡ inner ++ (step ∷ rest)
        front step e = ap (λ xs. xs ++ rest) e ∙ append_assoc inner (step ∷ []) rest

        by : (step : Step) → IsStep spec.sig f ss step → steps ≡ inner ++ step ∷ [] →
            ((rest' : List Step) (vs : Trees) (k : ℕ) → GivesAll spec (instances xs ts) vs k →
            BeforeAll env inner rest' end vs k ss s) → Before env steps rest end v m s next
        by (build g' us) (c, ge, ue) e each =
            let p = built_parts spec fine f c g in
            let a = each (build g' us ∷ rest) p.vs m p.give in
            let q = append_assoc env a.more (v ∷ []) in
            let e₁ : app g' (slots (env ++ a.more) us) ≡ v = subst (λ x. app x (slots (env ++ a.more) us) ≡ v)
            (sym ge) (ap (λ x. app f x) (ap (λ x. slots (env ++ a.more) x) ue ∙ a.here) ∙ sym p.is) in
            record {
              more = a.more ++ v ∷ [];
              count = omega (arith, ap length q, length-append (env ++ a.more) (v ∷ []), a.count, z);
              here = ap (λ es. instance es (var s)) (sym q) ∙ slot_next (env ++ a.more) v s (sym a.count);
              low = omega (arith, z);
              goes = λ w k d.
                  let d₁ : Does spec ((env ++ a.more) ++ v ∷ []) rest end w k = subst
                  (λ es. Does spec es rest end w k) (sym q) d in
                  let d₂ : Does spec (env ++ a.more) (build g' us ∷ rest) end w k = subst
                  (λ x. Does spec ((env ++ a.more) ++ x ∷ []) rest end w k) (sym e₁) d₁ in
                  subst (λ xs. Does spec env xs end w (m + k)) (sym (front (build g' us) e)) (a.goes w k d₂);
            }
        by (call g' us) (c, ge, ue) e each =
            let p = call_parts spec f c g in
            let a = each (call g' us ∷ rest) p.vs p.args p.give in
            let q = append_assoc env a.more (v ∷ []) in
            let e₁ : app g' (slots (env ++ a.more) us) ≡ app f p.vs = subst
            (λ x. app x (slots (env ++ a.more) us) ≡ app f p.vs) (sym ge)
            (ap (λ x. app f x) (ap (λ x. slots (env ++ a.more) x) ue ∙ a.here)) in
            record {
              more = a.more ++ v ∷ [];
              count = omega (arith, ap length q, length-append (env ++ a.more) (v ∷ []), a.count, z);
              here = ap (λ es. instance es (var s)) (sym q) ∙ slot_next (env ++ a.more) v s (sym a.count);
              low = omega (arith, z);
              goes = λ w k d.
                  let d₁ : Does spec ((env ++ a.more) ++ v ∷ []) rest end w k = subst
                  (λ es. Does spec es rest end w k) (sym q) d in
                  let d₂ : Does spec (env ++ a.more) (call g' us ∷ rest) end w (p.more + k) = (
                    v,
                    p.more,
                    k,
                    subst (λ x. Gives spec x v p.more) (sym e₁) p.gives,
                    d₁,
                    refl,
                  ) in
                  let n : p.args + (p.more + k) ≡ m + k = omega (arith, p.cost) in
                  subst (λ x. Does spec env (steps ++ rest) end w x) n
                  (subst (λ xs. Does spec env xs end w (p.args + (p.more + k))) (sym (front (call g' us) e))
                  (a.goes w (p.more + k) d₂));
            }

    pub codes_all_whole : (ts : Trees) (env : List Tree) (steps rest : List Step) (end : End) (vs : Trees)
        (m : ℕ) (ss : List ℕ) (next : ℕ) → CodesAll spec.sig homes ts (length env) steps ss next →
        Holds spec.sig homes env xs → GivesAll spec (instances xs ts) vs m → BeforeAll env steps rest end vs m ss next
    codes_all_whole none env steps rest end vs m ss next (e, u, z) h g =
        let nil = append-nil env in
        let o = no_parts g in
        record {
          more = [];
          count = ap length nil ∙ sym z;
          here = ap (λ x. slots (env ++ []) x) u ∙ sym o.0;
          low = subst (λ x. AreSlots next x) (sym u) tt;
          goes = λ w k d.
              let n : k ≡ m + k = omega (arith, o.1) in
              subst (λ ss. Does spec env (ss ++ rest) end w (m + k)) (sym e)
              (subst (λ x. Does spec env rest end w x) n (subst (λ es. Does spec es rest end w k) nil d));
        }
      where
        no_parts : {vs : Trees} {m : ℕ} → GivesAll spec none vs m → (vs ≡ none) × (m ≡ 0)
        no_parts no_terms = (refl, refl)
    codes_all_whole (some t ts) env steps rest end vs m ss next (a, b, s, us, mid, one, all, e, u) h g =
        let o = more_parts g in
        let p = codes_whole t env a (b ++ rest) end o.value o.first s mid one h o.gives in
        let all₁ : CodesAll spec.sig homes ts (length (env ++ p.more)) b us next = subst
        (λ x. CodesAll spec.sig homes ts x b us next) (sym p.count) all in
        let r = codes_all_whole ts (env ++ p.more) b rest end o.values o.other us next all₁
        (holds_kept spec.sig homes env p.more xs h) o.give in
        let q = append_assoc env p.more r.more in
        let k : instance ((env ++ p.more) ++ r.more) (var s) ≡ o.value = slot_kept (env ++ p.more) r.more s
        (omega (arith, p.low, p.count)) ∙ p.here in
        let l : slots ((env ++ p.more) ++ r.more) (s ∷ us) ≡ some o.value o.values = (let one₁ = k in
        let two₁ = r.here in cc) in
        let f : steps ++ rest ≡ a ++ (b ++ rest) = ap (λ xs. xs ++ rest) e ∙ append_assoc a b rest in
        record {
          more = p.more ++ r.more;
          count = ap length (sym q) ∙ r.count;
          here = ap (λ es. slots es ss) (sym q) ∙ ap (λ x. slots ((env ++ p.more) ++ r.more) x) u ∙ l ∙ sym o.is;
          low = subst (λ x. AreSlots next x) (sym u)
              (omega (arith, p.low, p.count, r.count, length-append (env ++ p.more) r.more), r.low);
          goes = λ w k d.
              let d₁ : Does spec ((env ++ p.more) ++ r.more) rest end w k = subst
              (λ es. Does spec es rest end w k) (sym q) d in
              let d₂ = p.goes w (o.other + k) (r.goes w k d₁) in
              let n : o.first + (o.other + k) ≡ m + k = omega (arith, o.cost) in
              subst (λ x. Does spec env (steps ++ rest) end w x) n
              (subst (λ xs. Does spec env xs end w (o.first + (o.other + k))) (sym f) d₂);
        }
      where
        more_parts : {t : Tree} {ts vs : Trees} {m : ℕ} → GivesAll spec (some t ts) vs m → Parts t ts vs m
        more_parts (more_terms {v} {vs} {n} {k} one more c) = record {
          value = v;
          values = vs;
          first = n;
          other = k;
          gives = one;
          give = more;
          is = refl;
          cost = c;
        }
