-- Keys that are there at two of the places so far, and nodes whose key no other node has.
use Rattle.std.proofs.Common.{◌≡◌, ◌≢◌, ◌⊎◌, ℕ, zero, suc, ◌+◌, ◌<◌, ◌≤◌, List, [], ◌∷◌, ◌++◌, Bool, true}
use Rattle.std.proofs.Common.{false, Option, Some}
use Rattle.std.proofs.Common.{None, cond, inl, inr, refl, sym, ◌∙◌, ap, subst, arith, length, map, get_or}
use Rattle.std.proofs.Common.{nat_eq}
use Rattle.std.specs.Prelude.{Contains, slice_get}
use Rattle.std.specs.HashSet.{HashSet, contains}
use Rattle.std.proofs.lemmas.Option.{slice_get_within}
use Rattle.block_links.proofs.LinksAlone.{there_mapped}
use Rattle.spec_core.specs.declared.records.Equation.{Equation}
use Rattle.term_core.proofs.Numbers.{below_or_not}
use Rattle.clause_core.specs.declared.clauses.Clause.{Clause}
use Rattle.script_trim.specs.Keys.{equation_key, first_key, key_of, MayClose}
use Rattle.script_trim.specs.Sharing.{AreShared, IsAlone}
use Rattle.script_trim.proofs.HopefulNodes.{last_or_before}

still : (b a : Bool) → a ≡ true → cond b true a ≡ true
still true a e = refl
still false a e = e

same_key : (k key : ℕ) → Some (Some k) ≡ Some (Some key) → k ≡ key
same_key k key e = cc

module _ {S : Type 0} (keys : List (Option ℕ)) where
  -- what is known of the first keys
  pub record Told (n : ℕ) (seen shared : HashSet ℕ S) : Type 0 where
    pub some : (i : ℕ) → i < n → slice_get keys i ≡ Some None → ⊥
    pub once : (i k : ℕ) → i < n → slice_get keys i ≡ Some (Some k) → contains nat_eq seen k ≡ true
    pub twice :
        (i j k : ℕ) → i < j → j < n → slice_get keys i ≡ Some (Some k) → slice_get keys j ≡ Some (Some k) →
        contains nat_eq shared k ≡ true

  pub none_told : (seen shared : HashSet ℕ S) → Told 0 seen shared
  none_told seen shared = record {
    some = λ i l at. absurd (omega (arith, l));
    once = λ i k l at. absurd (omega (arith, l));
    twice = λ i j k m l at also. absurd (omega (arith, l));
  }

  module _ (n key : ℕ) (at : slice_get keys n ≡ Some (Some key)) (seen shared new : HashSet ℕ S)
      (told : Told n seen shared) (has : contains nat_eq new key ≡ true)
      (keeps : (q : ℕ) → contains nat_eq new q ≡ cond (nat_eq key q) true (contains nat_eq seen q)) where
    here : (i k : ℕ) → i ≡ n → slice_get keys i ≡ Some (Some k) → k ≡ key
    here i k e got = same_key k key (sym got ∙ ap (λ j. slice_get keys j) e ∙ at)

    some_more : (i : ℕ) → i < n + 1 → slice_get keys i ≡ Some None → ⊥
    some_more i l got = either (below_or_not i n)
      where
        either : (i < n) ⊎ (n ≤ i) → ⊥
        either (inl b) = told.some i b got
        either (inr g) =
            (let e : i ≡ n = omega (arith, l, g) in
            let q : ◌≡◌ {A = Option (Option ℕ)} (Some None) (Some (Some key)) =
            sym got ∙ ap (λ j. slice_get keys j) e ∙ at in
            cc)

    once_more : (i k : ℕ) → i < n + 1 → slice_get keys i ≡ Some (Some k) → contains nat_eq new k ≡ true
    once_more i k l got = either (below_or_not i n)
      where
        either : (i < n) ⊎ (n ≤ i) → contains nat_eq new k ≡ true
        either (inl b) = keeps k ∙ still (nat_eq key k) (contains nat_eq seen k) (told.once i k b got)
        either (inr g) =
            let e : i ≡ n = omega (arith, l, g) in
            subst (λ x. contains nat_eq new x ≡ true) (sym (here i k e got)) has

    -- a key that is new
    pub told_new : contains nat_eq seen key ≡ false → Told (n + 1) new shared
    told_new first = record { some = some_more; once = once_more; twice = twice }
      where
        twice :
            (i j k : ℕ) → i < j → j < n + 1 → slice_get keys i ≡ Some (Some k) → slice_get keys j ≡ Some (Some k) →
            contains nat_eq shared k ≡ true
        twice i j k m l got also = either (below_or_not j n)
          where
            either : (j < n) ⊎ (n ≤ j) → contains nat_eq shared k ≡ true
            either (inl b) = told.twice i j k m b got also
            either (inr g) =
                let e : j ≡ n = omega (arith, l, g) in
                let before : i < n = omega (arith, m, e) in
                let q : contains nat_eq seen key ≡ true =
                subst (λ x. contains nat_eq seen x ≡ true) (here j k e also) (told.once i k before got) in
                absurd (let w : false ≡ true = sym first ∙ q in cc)

    -- and one that was there before
    pub told_again :
        (more : HashSet ℕ S) → contains nat_eq more key ≡ true →
        ((q : ℕ) → contains nat_eq more q ≡ cond (nat_eq key q) true (contains nat_eq shared q)) →
        Told (n + 1) new more
    told_again more two keeps_two = record { some = some_more; once = once_more; twice = twice }
      where
        twice :
            (i j k : ℕ) → i < j → j < n + 1 → slice_get keys i ≡ Some (Some k) → slice_get keys j ≡ Some (Some k) →
            contains nat_eq more k ≡ true
        twice i j k m l got also = either (below_or_not j n)
          where
            either : (j < n) ⊎ (n ≤ j) → contains nat_eq more k ≡ true
            either (inl b) =
                keeps_two k ∙ still (nat_eq key k) (contains nat_eq shared k) (told.twice i j k m b got also)
            either (inr g) =
                let e : j ≡ n = omega (arith, l, g) in
                subst (λ x. contains nat_eq more x ≡ true) (sym (here j k e also)) two

  pub all_told :
      (n : ℕ) (seen shared : HashSet ℕ S) → length keys ≤ n → Told n seen shared → AreShared keys shared
  all_told n seen shared end told = record { some = some; twice = twice }
    where
      some : (i : ℕ) → slice_get keys i ≡ Some None → ⊥
      some i got = told.some i (omega (arith, end, slice_get_within keys i None got)) got

      twice :
          (i j k : ℕ) → i ≢ j → slice_get keys i ≡ Some (Some k) → slice_get keys j ≡ Some (Some k) →
          contains nat_eq shared k ≡ true
      twice i j k apart got also = either (below_or_not i j)
        where
          either : (i < j) ⊎ (j ≤ i) → contains nat_eq shared k ≡ true
          either (inl b) =
              told.twice i j k b (omega (arith, end, slice_get_within keys j (Some k) also)) got also
          either (inr g) =
              told.twice j i k (omega (arith, g, apart)) (omega (arith, end, slice_get_within keys i (Some k) got))
              also got

one_key : (a k : ℕ) → Contains (a ∷ []) k → a ≡ k
one_key a k (zero, lt, e) = e
one_key a k (suc p, lt, e) = absurd (omega (arith, lt))

-- a node with one conclusion whose key no other node has is alone
pub lone_is_alone :
    {S : Type 0} (nodes : List Clause) (keys : List (Option ℕ)) (shared : HashSet ℕ S) → keys ≡ map key_of nodes →
    AreShared keys shared → (i : ℕ) (c : Clause) → slice_get nodes i ≡ Some c → (k : ℕ) →
    slice_get keys i ≡ Some (Some k) → length c.conclusions ≡ 1 → contains nat_eq shared k ≡ false →
    IsAlone nodes i c
lone_is_alone nodes keys shared are told i c at k own one apart j d other there may =
    by c.conclusions one key_is (key_of d) refl may
  where
    key_at : (n : ℕ) (x : Clause) → slice_get nodes n ≡ Some x → slice_get keys n ≡ Some (key_of x)
    key_at n x got = ap (λ ks. slice_get ks n) are ∙ there_mapped key_of nodes n x got

    key_is : first_key c.conclusions ≡ Some k
    key_is =
        let q : ◌≡◌ {A = Option (Option ℕ)} (Some (key_of c)) (Some (Some k)) = sym (key_at i c at) ∙ own in
        let e : key_of c ≡ Some k = cc in
        e

    by :
        (es : List Equation) → length es ≡ 1 → first_key es ≡ Some k → (o : Option ℕ) → o ≡ key_of d →
        MayClose (map equation_key es) o → ⊥
    by [] l e o is h = omega (arith, l)
    by (x ∷ []) l e None is h = told.some j (key_at j d there ∙ ap (λ p. Some p) (sym is))
    by (x ∷ []) l e (Some q) is h =
        let a : equation_key x ≡ q = one_key (equation_key x) q h in
        let b : Some (equation_key x) ≡ Some k = e in
        let same : q ≡ k = (let w : equation_key x ≡ k = cc in sym a ∙ w) in
        let its : slice_get keys j ≡ Some (Some k) =
        key_at j d there ∙ ap (λ p. Some p) (sym is) ∙ ap (λ p. Some (Some p)) same in
        let two = told.twice j i k other its own in
        let w : false ≡ true = sym apart ∙ two in
        absurd (cc)
    by (x ∷ y ∷ es) l e o is h = omega (arith, l)

-- the flags of the nodes so far, with that of one node more
pub flags_more :
    (nodes : List Clause) (n : ℕ) (flags new : List Bool) (lone : Bool) → new ≡ flags ++ lone ∷ [] → length flags ≡ n →
    ((i : ℕ) (c : Clause) → slice_get flags i ≡ Some true → slice_get nodes i ≡ Some c → IsAlone nodes i c) →
    (lone ≡ true → (c : Clause) → slice_get nodes n ≡ Some c → IsAlone nodes n c) → (i : ℕ) (c : Clause) →
    slice_get new i ≡ Some true → slice_get nodes i ≡ Some c → IsAlone nodes i c
flags_more nodes n flags new lone is long told here i c at there =
    by (last_or_before flags lone true i (ap (λ fs. slice_get fs i) (sym is) ∙ at))
  where
    by : (slice_get flags i ≡ Some true) ⊎ ((i ≡ length flags) × (lone ≡ true)) → IsAlone nodes i c
    by (inl h) = told i c h there
    by (inr (k, e)) =
        let m : n ≡ i = sym long ∙ sym k in
        subst (λ j. IsAlone nodes j c) m (here e c (subst (λ j. slice_get nodes j ≡ Some c) (sym m) there))

-- a flag that is read as set is there
pub flag_there : (flags : List Bool) (i : ℕ) → get_or flags i false ≡ true → slice_get flags i ≡ Some true
flag_there [] i e = absurd (let q : false ≡ true = e in cc)
flag_there (b ∷ flags) zero e = ap (λ x. Some x) e
flag_there (b ∷ flags) (suc i) e = flag_there flags i e
