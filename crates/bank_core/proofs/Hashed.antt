-- Entries and their hashes, and the search for an entry along those with its hash.
use Rattle.std.proofs.Common.{◌≡◌, ◌⊎◌, ℕ, zero, suc, ◌-◌, ◌<◌, ◌≤◌, List, [], ◌∷◌, ◌++◌, Some, None, inl}
use Rattle.std.proofs.Common.{inr, ap, sym, ◌∙◌, subst, arith, length, length-append, get_or}
use Rattle.std.specs.Prelude.{slice_get}
use Rattle.std.proofs.lemmas.Option.{slice_get_within}
use Rattle.std.proofs.lemmas.List.{length-map, map-append}
use Rattle.std.proofs.lemmas.Bool.Decides.{nat_tests}
use Rattle.term_core.proofs.Numbers.{same_or_not}
use Rattle.bank_core.specs.Entries.{Entry, entry, hashes_by, AreShared, IsNowhere}
use Rattle.bank_core.specs.Links.{HasHash, IsLast}
use Rattle.bank_core.proofs.Ends.{distinct_more}

module _ {H A : Type 0} where
  pub entry_args : (g h : H) (xs ys : List A) → Some (entry g xs) ≡ Some (entry h ys) → xs ≡ ys
  entry_args g h xs ys e =
      let q : entry g xs ≡ entry h ys = cc in
      ap (λ (e : Entry H A). e.args) q

  pub entry_head : (g h : H) (xs ys : List A) → Some (entry g xs) ≡ Some (entry h ys) → g ≡ h
  entry_head g h xs ys e =
      let q : entry g xs ≡ entry h ys = cc in
      ap (λ (e : Entry H A). e.head) q

  pub same_entry : (es : List (Entry H A)) (k : ℕ) (g h : H) (xs ys : List A) →
      slice_get es k ≡ Some (entry g xs) → slice_get es k ≡ Some (entry h ys) → (g ≡ h) × (xs ≡ ys)
  same_entry es k g h xs ys a b = (entry_head g h xs ys (sym a ∙ b), entry_args g h xs ys (sym a ∙ b))

  pub hash_there : (hash_of : H → List A → ℕ) (es : List (Entry H A)) (k : ℕ) (h : H) (xs : List A) →
      slice_get es k ≡ Some (entry h xs) → get_or (hashes_by hash_of es) k 0 ≡ hash_of h xs
  hash_there hash_of [] k h xs e = absurd (let q : None ≡ Some (entry h xs) = e in cc)
  hash_there hash_of (e ∷ es) zero h xs at =
      let q : Some e ≡ Some (entry h xs) = at in
      let same : e ≡ entry h xs = cc in
      ap (λ (e : Entry H A). hash_of e.head e.args) same
  hash_there hash_of (e ∷ es) (suc k) h xs at = hash_there hash_of es k h xs at

  pub hashes-append : (hash_of : H → List A → ℕ) (es : List (Entry H A)) (e : Entry H A) →
      hashes_by hash_of (es ++ e ∷ []) ≡ hashes_by hash_of es ++ hash_of e.head e.args ∷ []
  hashes-append hash_of es e = map-append (λ (x : Entry H A). hash_of x.head x.args) es (e ∷ [])

-- how far a search has come: the entry is at no place from `at` on, and the one below `at` has the hash
pub record IsSought {H A : Type 0} (es : List (Entry H A)) (e : Entry H A) (links : List ℕ) (hash at : ℕ) :
    Type 0 where
  pub within : at ≤ length es
  pub none : (k : ℕ) → at ≤ k → slice_get es k ≡ Some e → ⊥
  pub has : (k : ℕ) → at ≡ suc k → HasHash links hash k

module _ {H A : Type 0} (hash_of : H → List A → ℕ) (es : List (Entry H A)) (links : List ℕ) (h : H)
    (xs : List A) (hash : ℕ) (view : links ≡ hashes_by hash_of es) (is : hash ≡ hash_of h xs) where
  count : length links ≡ length es
  count = ap length view ∙ length-map es (λ (e : Entry H A). hash_of e.head e.args)

  hashed : (k : ℕ) → slice_get es k ≡ Some (entry h xs) → HasHash links hash k
  hashed k e = subst (λ zs. get_or zs k 0 ≡ hash) (sym view) (hash_there hash_of es k h xs e ∙ sym is)

  pub sought_begins : (at : ℕ) → IsLast (HasHash links hash) (length links) at →
      IsSought es (entry h xs) links hash at
  sought_begins at l =
      record {
        within = omega (arith, l.within, count);
        none = λ k le e.
            l.none k le (omega (arith, count, slice_get_within es k (entry h xs) e)) (hashed k e);
        has = l.has;
      }

  pub sought_next : (at next : ℕ) → IsSought es (entry h xs) links hash at → (at ≡ 0 → ⊥) →
      (slice_get es (at - 1) ≡ Some (entry h xs) → ⊥) → IsLast (HasHash links hash) (at - 1) next →
      IsSought es (entry h xs) links hash next
  sought_next at next s some other l =
      record {
        within = omega (arith, s.within, l.within);
        none = λ k le e.
            elim (same_or_not k (at - 1)) [
              | inl q ↦ other (subst (λ z. slice_get es z ≡ Some (entry h xs)) q e)
              | inr ne ↦ by k le e (grind (arith, nat_tests))
            ];
        has = l.has;
      }
    where
      by : (k : ℕ) → next ≤ k → slice_get es k ≡ Some (entry h xs) → (k < at - 1) ⊎ (at ≤ k) → ⊥
      by k le e (inl lt) = l.none k le lt (hashed k e)
      by k le e (inr ge) = s.none k ge e

-- the entries with one more that was nowhere, and its hash
pub put_more : {H A : Type 0} (hash_of : H → List A → ℕ) (es new now : List (Entry H A))
    (links more : List ℕ) (h : H) (xs : List A) (hash place : ℕ) → es ≡ now →
    AreShared es × (links ≡ hashes_by hash_of es) → place ≡ length es → place < 0xffffffff →
    hash ≡ hash_of h xs → IsNowhere now (entry h xs) → new ≡ es ++ entry h xs ∷ [] →
    more ≡ links ++ hash ∷ [] → AreShared new × (more ≡ hashes_by hash_of new)
put_more hash_of es new now links more h xs hash place view inv n few is nowhere e l =
    let e' = entry h xs in
    let nowhere' : IsNowhere es e' = subst (λ zs. IsNowhere zs e') (sym view) nowhere in
    let shared : AreShared (es ++ e' ∷ []) =
    record {
      distinct = distinct_more es e' inv.0.distinct nowhere';
      few = omega (arith, n, few, length-append es (e' ∷ []));
    } in
    let hs : links ++ hash ∷ [] ≡ hashes_by hash_of es ++ hash_of h xs ∷ [] =
    ap (λ zs. zs ++ hash ∷ []) inv.1 ∙ ap (λ x. hashes_by hash_of es ++ x ∷ []) is in
    let all : more ≡ hashes_by hash_of (es ++ e' ∷ []) =
    l ∙ hs ∙ sym (hashes-append hash_of es e') in
    (subst (λ zs. AreShared zs) (sym e) shared, all ∙ ap (λ zs. hashes_by hash_of zs) (sym e))
