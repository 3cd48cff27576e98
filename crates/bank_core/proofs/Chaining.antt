-- How chains through the entries of one bucket grow and are followed.
use Rattle.std.proofs.Common.{◌≡◌, ◌≢◌, ◌⊎◌, ℕ, suc, ◌+◌, ◌-◌, ◌<◌, ◌≤◌, List, [], ◌∷◌, ◌++◌, inl, inr}
use Rattle.std.proofs.Common.{refl, ap, sym, ◌∙◌, subst, arith, get_or, length, set, length-append}
use Rattle.std.proofs.Common.{length-set, get_or-set_same, get_or-set_other}
use Rattle.std.proofs.lemmas.List.{get_or_append_left}
use Rattle.std.proofs.lemmas.Bool.Decides.{nat_tests}
use Rattle.term_core.proofs.Numbers.{same_or_not, below_or_last}
use Rattle.bank_core.specs.Links.{HasHash, IsLast, IsIn, AreLinked, place_of}

-- the last number with one property is that with another one, if both are the same below n
last_along :
    (P Q : ℕ → Type 0) (n r : ℕ) → ((k : ℕ) → k < n → P k → Q k) →
    ((k : ℕ) → k < n → Q k → P k) → IsLast P n r → IsLast Q n r
last_along P Q n r to from h =
    record {
      within = h.within;
      none = λ k a b q. h.none k a b (from k b q);
      has = λ k e. to k (omega (arith, h.within, e)) (h.has k e);
    }

pub get_end : (xs : List ℕ) (x : ℕ) → get_or (xs ++ x ∷ []) (length xs) 0 ≡ x
get_end [] x = refl
get_end (y ∷ ys) x = get_end ys x

-- one more entry, which comes after its bucket's last one
module _ (first hs bs : List ℕ) (hash : ℕ) (h : AreLinked first hs bs) (same : length bs ≡ length hs)
    (lt : place_of (length first) hash < length first) where
  m : ℕ
  m = length first

  p : ℕ
  p = place_of (length first) hash

  hs' : List ℕ
  hs' = hs ++ hash ∷ []

  grown_firsts : (b : ℕ) → b < length first →
      IsLast (IsIn (length first) (hs ++ hash ∷ []) b) (length (hs ++ hash ∷ [])) (get_or (set first (place_of
      (length first) hash) (length hs + 1)) b 0)
  grown_firsts b below =
      elim (same_or_not b (place_of (length first) hash)) [
        | inl e ↦
            let at : get_or (set first (place_of (length first) hash) (length hs + 1)) b 0 ≡ length hs + 1 =
            subst (λ x. get_or (set first (place_of (length first) hash) (length hs + 1)) x 0 ≡ length hs + 1)
            (sym e) (get_or-set_same first (place_of (length first) hash) (length hs + 1) 0 lt) in
            record {
              within = omega (arith, at, length-append hs (hash ∷ []));
              none = λ k a z q. absurd (omega (arith, at, a, z, length-append hs (hash ∷ [])));
              has = λ k is.
                  let n : k ≡ length hs = omega (arith, at, is) in
                  let g : get_or (hs ++ hash ∷ []) k 0 ≡ hash = subst (λ x. get_or (hs ++ hash ∷ []) x 0 ≡
                  hash) (sym n) (get_end hs hash) in
                  ap (λ x. place_of (length first) x) g ∙ sym e;
            }
        | inr ne ↦
            let at : get_or (set first (place_of (length first) hash) (length hs + 1)) b 0 ≡ get_or first b 0 =
            get_or-set_other first (place_of (length first) hash) b (length hs + 1) 0 ne in
            let old = h.firsts b below in
            record {
              within = omega (arith, at, old.within, length-append hs (hash ∷ []));
              none = λ k a z q.
                  elim (below_or_last k (length hs) (omega (arith, z, length-append hs (hash ∷ [])))) [
                    | inl lt ↦ old.none k (omega (arith, a, at)) lt (ap (λ x. place_of (length first) x) (sym
                        (get_or_append_left hs (hash ∷ []) 0 k lt)) ∙ q)
                    | inr n ↦
                        let g : get_or (hs ++ hash ∷ []) k 0 ≡ hash = subst (λ x. get_or (hs ++ hash ∷ []) x 0
                        ≡ hash) (sym n) (get_end hs hash) in
                        ne (sym q ∙ ap (λ x. place_of (length first) x) g)
                  ];
              has = λ k is.
                  let lt : k < length hs = omega (arith, at, is, old.within) in
                  ap (λ x. place_of (length first) x) (get_or_append_left hs (hash ∷ []) 0 k lt) ∙ old.has k
                  (sym at ∙ is);
            }
      ]

  kept_in : (n b r : ℕ) → n ≤ length hs → IsLast (IsIn (length first) hs b) n r →
      IsLast (IsIn (length first) (hs ++ hash ∷ []) b) n r
  kept_in n b r le =
      last_along (IsIn (length first) hs b) (IsIn (length first) (hs ++ hash ∷ []) b) n r
      (λ k lt q. ap (λ x. place_of (length first) x) (get_or_append_left hs (hash ∷ []) 0 k (omega (
        arith,
        lt,
        le,
      ))) ∙ q)
      (λ k lt q. ap (λ x. place_of (length first) x) (sym (get_or_append_left hs (hash ∷ []) 0 k (omega (
        arith,
        lt,
        le,
      )))) ∙ q)

  grown_befores : (k : ℕ) → k < length (hs ++ hash ∷ []) →
      IsLast (IsIn (length first) (hs ++ hash ∷ []) (place_of (length first) (get_or (hs ++ hash ∷ []) k 0))) k
      (get_or (bs ++ get_or first (place_of (length first) hash) 0 ∷ []) k 0)
  grown_befores k below =
      elim (below_or_last k (length hs) (omega (arith, below, length-append hs (hash ∷ [])))) [
        | inl lt ↦
            let at = get_or_append_left bs (get_or first (place_of (length first) hash) 0 ∷ []) 0 k (omega
            (arith, lt, same)) in
            let of = get_or_append_left hs (hash ∷ []) 0 k lt in
            let old = kept_in k (place_of (length first) (get_or hs k 0)) (get_or bs k 0) (omega (arith, lt))
            (h.befores k lt) in
            let P : ℕ → Type 0 = λ x. IsLast (IsIn (length first) (hs ++ hash ∷ []) (place_of (length first)
            x)) k (get_or bs k 0) in
            let Q : ℕ → Type 0 = λ x. IsLast (IsIn (length first) (hs ++ hash ∷ []) (place_of (length first)
            (get_or (hs ++ hash ∷ []) k 0))) k x in
            subst Q (sym at) (subst P (sym of) old)
        | inr n ↦
            let of : get_or (hs ++ hash ∷ []) k 0 ≡ hash = subst (λ x. get_or (hs ++ hash ∷ []) x 0 ≡ hash)
            (sym n) (get_end hs hash) in
            let len : k ≡ length bs = omega (arith, n, same) in
            let at : get_or (bs ++ get_or first (place_of (length first) hash) 0 ∷ []) k 0 ≡ get_or first
            (place_of (length first) hash) 0 = subst (λ x. get_or (bs ++ get_or first (place_of (length first)
            hash) 0 ∷ []) x 0 ≡ get_or first (place_of (length first) hash) 0) (sym len) (get_end bs (get_or
            first (place_of (length first) hash) 0)) in
            let old = kept_in (length hs) (place_of (length first) hash) (get_or first (place_of (length first)
            hash) 0) (omega arith) (h.firsts (place_of (length first) hash) lt) in
            let N : ℕ → Type 0 = λ x. IsLast (IsIn (length first) (hs ++ hash ∷ []) (place_of (length first)
            hash)) x (get_or first (place_of (length first) hash) 0) in
            let P : ℕ → Type 0 = λ x. IsLast (IsIn (length first) (hs ++ hash ∷ []) (place_of (length first)
            x)) k (get_or first (place_of (length first) hash) 0) in
            let Q : ℕ → Type 0 = λ x. IsLast (IsIn (length first) (hs ++ hash ∷ []) (place_of (length first)
            (get_or (hs ++ hash ∷ []) k 0))) k x in
            subst Q (sym at) (subst P (sym of) (subst N (sym n) old))
      ]

  pub linked_more : AreLinked (set first (place_of (length first) hash) (length hs + 1)) (hs ++ hash ∷ []) (bs
      ++ get_or first (place_of (length first) hash) 0 ∷ [])
  linked_more =
      let e = length-set first (place_of (length first) hash) (length hs + 1) in
      let F : ℕ → Type 0 = λ n. (b : ℕ) → b < n → IsLast (IsIn n (hs ++ hash ∷ []) b) (length (hs ++ hash
      ∷ [])) (get_or (set first (place_of (length first) hash) (length hs + 1)) b 0) in
      let B : ℕ → Type 0 = λ n. (k : ℕ) → k < length (hs ++ hash ∷ []) → IsLast (IsIn n (hs ++ hash ∷ [])
      (place_of n (get_or (hs ++ hash ∷ []) k 0))) k (get_or (bs ++ get_or first (place_of (length first) hash)
      0 ∷ []) k 0) in
      record {
        some = omega (arith, e, h.some);
        firsts = subst F (sym e) grown_firsts;
        befores = subst B (sym e) grown_befores;
      }

-- where a chain through one bucket has come to
pub record IsPast (first hs : List ℕ) (hash at here : ℕ) : Type 0 where
  pub within : here ≤ at
  pub none : (k : ℕ) → here ≤ k → k < at → HasHash hs hash k → ⊥
  pub chained : (k : ℕ) → here ≡ suc k → IsIn (length first) hs (place_of (length first) hash) k

pub past_next : (first hs bs : List ℕ) (hash at here : ℕ) → AreLinked first hs bs → at ≤ length hs →
    IsPast first hs hash at here → 0 < here → get_or hs (here - 1) 0 ≢ hash →
    IsPast first hs hash at (get_or bs (here - 1) 0)
past_next first hs bs hash at here h below p some other =
    let k₀ : here ≡ suc (here - 1) = omega (arith, some) in
    let in₀ = p.chained (here - 1) k₀ in
    let old = h.befores (here - 1) (omega (arith, below, some, p.within)) in
    record {
      within = omega (arith, old.within, p.within);
      none = λ k a z q.
          elim (same_or_not k (here - 1)) [
            | inl e ↦ other (subst (λ x. get_or hs x 0 ≡ hash) e q)
            | inr ne ↦ by k a z q ne (grind (arith, nat_tests))
          ];
      chained = λ k e. old.has k e ∙ in₀;
    }
  where
    by :
        (k : ℕ) → get_or bs (here - 1) 0 ≤ k → k < at → HasHash hs hash k → k ≢ here - 1 →
        (k < here - 1) ⊎ (here ≤ k) → ⊥
    by k a z q ne (inl lt) =
        (h.befores (here - 1) (omega (arith, below, some, p.within))).none k a lt
        (ap (λ x. place_of (length first) x) q ∙ sym (p.chained (here - 1) (omega (arith, some))))
    by k a z q ne (inr ge) = p.none k ge z q

pub past_begins : (first hs : List ℕ) (hash at : ℕ) → ((k : ℕ) → at ≡ suc k →
    IsIn (length first) hs (place_of (length first) hash) k) → IsPast first hs hash at at
past_begins first hs hash at c = record {
  within = omega arith;
  none = λ k a z q. absurd (omega (arith, a, z));
  chained = c;
}

pub past_ends : (first hs : List ℕ) (hash at here : ℕ) → IsPast first hs hash at here → ((k : ℕ) →
    here ≡ suc k → HasHash hs hash k) → IsLast (HasHash hs hash) at here
past_ends first hs hash at here p f = record { within = p.within; none = p.none; has = f }

-- the last one of a bucket below n, and then of the hash below that one
pub last_of_both : (first hs : List ℕ) (hash n at r : ℕ) →
    IsLast (IsIn (length first) hs (place_of (length first) hash)) n at → IsLast (HasHash hs hash) at r →
    IsLast (HasHash hs hash) n r
last_of_both first hs hash n at r a b =
    record {
      within = omega (arith, a.within, b.within);
      none = λ k le lt q. by k le lt q (grind (arith, nat_tests));
      has = b.has;
    }
  where
    by : (k : ℕ) → r ≤ k → k < n → HasHash hs hash k → (k < at) ⊎ (at ≤ k) → ⊥
    by k le lt q (inl u) = b.none k le u q
    by k le lt q (inr u) = a.none k u lt (ap (λ x. place_of (length first) x) q)
