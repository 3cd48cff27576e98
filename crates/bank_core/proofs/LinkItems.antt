-- Links as the entries of chains.
use Rattle.std.proofs.Common.{◌≡◌, ℕ, ◌+◌, ◌-◌, ◌<◌, ◌≤◌, List, [], ◌∷◌, ◌++◌, ap, sym, ◌∙◌, subst, arith}
use Rattle.std.proofs.Common.{get_or, length, set}
use Rattle.std.proofs.lemmas.List.{get_or-map, get_or_default, length-map, map-append}
use Rattle.bank_core.specs.declared.links.Link.{Link}
use Rattle.bank_core.specs.Links.{HasHash, IsLast, IsIn, AreLinked, place_of}
use Rattle.bank_core.specs.Chains.{hashes_of, befores_of}
use Rattle.bank_core.proofs.Chaining.{IsPast, past_ends, past_next, last_of_both, linked_more}

pub hash_at : (links : List Link) (k : ℕ) (d : Link) → k < length links →
    get_or (hashes_of links) k 0 ≡ (get_or links k d).hash
hash_at links k d lt = get_or-map (λ (l : Link). l.hash) links k d 0 lt

pub before_at : (links : List Link) (k : ℕ) (d : Link) → k < length links →
    get_or (befores_of links) k 0 ≡ (get_or links k d).before
before_at links k d lt = get_or-map (λ (l : Link). l.before) links k d 0 lt

pub hashes_length : (links : List Link) → length (hashes_of links) ≡ length links
hashes_length links = length-map links (λ (l : Link). l.hash)

pub befores_length : (links : List Link) → length (befores_of links) ≡ length links
befores_length links = length-map links (λ (l : Link). l.before)

module _ (first : List ℕ) (links : List Link) (hash at here : ℕ) (d : Link) (below : at ≤ length links) (p :
    IsPast first (hashes_of links) hash at here) where
  pub found_here : (here ≡ 0 → ⊥) → (get_or links (here - 1) d).hash ≡ hash →
      IsLast (HasHash (hashes_of links) hash) at here
  found_here some is =
      past_ends first (hashes_of links) hash at here p
      (λ k e.
      let n : here - 1 ≡ k = omega (arith, e) in
      let g = hash_at links (here - 1) d (omega (arith, below, p.within, e)) in
      subst (λ x. get_or (hashes_of links) x 0 ≡ hash) n (g ∙ is))

  pub none_here : here ≡ 0 → IsLast (HasHash (hashes_of links) hash) at 0
  none_here none =
      let q : IsPast first (hashes_of links) hash at 0 = subst (λ x. IsPast first (hashes_of links) hash at x)
      none p in
      past_ends first (hashes_of links) hash at 0 q (λ k e. absurd (omega (arith, e)))

  module _ (h : AreLinked first (hashes_of links) (befores_of links)) where
    pub next_here : (here ≡ 0 → ⊥) → ((get_or links (here - 1) d).hash ≡ hash → ⊥) →
        IsPast first (hashes_of links) hash at (get_or links (here - 1) d).before
    next_here some other =
        let lt : here - 1 < length links = omega (arith, below, p.within, some) in
        let q = past_next first (hashes_of links) (befores_of links) hash at here h (omega (
          arith,
          below,
          hashes_length links,
        )) p (omega (arith, some)) (λ e. other (sym (hash_at links (here - 1) d lt) ∙ e)) in
        subst (λ x. IsPast first (hashes_of links) hash at x) (before_at links (here - 1) d lt) q

    pub falls_here : (here ≡ 0 → ⊥) → (get_or links (here - 1) d).before < here
    falls_here some =
        let lt : here - 1 < length links = omega (arith, below, p.within, some) in
        omega (
          arith,
          some,
          (h.befores (here - 1) (omega (arith, lt, hashes_length links))).within,
          before_at
              links (here - 1) d lt,
        )

-- the chain of a bucket, from its last entry
module _ (first : List ℕ) (links : List Link) (now : List ℕ) (view : hashes_of links ≡ now) (h : AreLinked
    first (hashes_of links) (befores_of links)) (hash : ℕ) where
  module _ (count place at : ℕ) (as_many : count ≡ length first) (of : place ≡ place_of count hash)
      (within : place < count) (is : at ≡ get_or first place at) where
    pub last_chain :
        IsLast (IsIn (length first) (hashes_of links) (place_of (length first) hash)) (length links) at
    last_chain =
        let place_is : place ≡ place_of (length first) hash = of ∙ ap (λ n. place_of n hash) as_many in
        let lt : place < length first = omega (arith, within, as_many) in
        let e : get_or first place 0 ≡ at = get_or_default first place 0 at lt ∙ sym is in
        subst (λ b. IsLast (IsIn (length first) (hashes_of links) b) (length links) at) place_is
        (subst (λ n. IsLast (IsIn (length first) (hashes_of links) place) n at) (hashes_length links)
        (subst (λ x. IsLast (IsIn (length first) (hashes_of links) place) (length (hashes_of links)) x) e
        (h.firsts place lt)))

    pub last_found :
        (r : ℕ) → IsLast (HasHash (hashes_of links) hash) at r → IsLast (HasHash now hash) (length now) r
    last_found r b =
        let q = last_of_both first (hashes_of links) hash (length links) at r last_chain b in
        subst (λ xs. IsLast (HasHash xs hash) (length xs) r) view
        (subst (λ n. IsLast (HasHash (hashes_of links) hash) n r) (sym (hashes_length links)) q)

  -- the chain of an entry, from the one before it
  module _ (at : ℕ) (link : Link) (some : 0 < at) (there : at ≤ length now) (has : HasHash now hash (at - 1))
      (is : link ≡ get_or links (at - 1) link) where
    here_length : length now ≡ length links
    here_length = ap length (sym view) ∙ hashes_length links

    pub before_chain : IsLast (IsIn (length first) (hashes_of links) (place_of (length first) hash)) (at - 1)
        link.before
    before_chain =
        let lt : at - 1 < length links = omega (arith, some, there, here_length) in
        let g : get_or (hashes_of links) (at - 1) 0 ≡ hash = subst (λ xs. get_or xs (at - 1) 0 ≡ hash) (sym
        view) has in
        let b : get_or (befores_of links) (at - 1) 0 ≡ link.before = before_at links (at - 1) link lt ∙ ap (λ
        (l : Link). l.before) (sym is) in
        subst (λ x. IsLast (IsIn (length first) (hashes_of links) (place_of (length first) hash)) (at - 1) x) b
        (subst (λ x. IsLast (IsIn (length first) (hashes_of links) (place_of (length first) x)) (at - 1)
        (get_or (befores_of links) (at - 1) 0)) g (h.befores (at - 1) (omega (arith, lt, hashes_length links))))

    pub before_within : link.before ≤ length links
    before_within = omega (arith, before_chain.within, there, here_length)

    pub before_found :
        (r : ℕ) → IsLast (HasHash (hashes_of links) hash) link.before r →
        IsLast (HasHash now hash) (at - 1) r
    before_found r b =
        subst (λ xs. IsLast (HasHash xs hash) (at - 1) r) view
        (last_of_both first (hashes_of links) hash (at - 1) link.before r before_chain b)

-- one more link
pub linked_push : (first : List ℕ) (links more : List Link) (hash before number place : ℕ) →
    AreLinked first (hashes_of links) (befores_of links) → place ≡ place_of (length first) hash →
    place < length first → before ≡ get_or first place before → number ≡ length links →
    more ≡ links ++ record { hash = hash; before = before } ∷ [] →
    AreLinked (set first place (number + 1)) (hashes_of more) (befores_of more)
linked_push first links more hash before number place h is lt at n e =
    let l : Link = record { hash = hash; before = before } in
    let lt' : place_of (length first) hash < length first = subst (λ x. x < length first) is lt in
    let g : get_or first (place_of (length first) hash) 0 ≡ before = subst (λ x. get_or first x 0 ≡ before) is
    (get_or_default first place 0 before lt ∙ sym at) in
    let q = linked_more first (hashes_of links) (befores_of links) hash h (befores_length links ∙ sym
    (hashes_length links)) lt' in
    let q₁ = subst (λ x. AreLinked (set first (place_of (length first) hash) (length (hashes_of links) + 1))
    (hashes_of links ++ hash ∷ []) (befores_of links ++ x ∷ [])) g q in
    let q₂ = subst (λ x. AreLinked (set first (place_of (length first) hash) (x + 1)) (hashes_of links ++ hash
    ∷ []) (befores_of links ++ before ∷ [])) (hashes_length links ∙ sym n) q₁ in
    let q₃ = subst (λ x. AreLinked (set first x (number + 1)) (hashes_of links ++ hash ∷ []) (befores_of links
    ++ before ∷ [])) (sym is) q₂ in
    let hs : hashes_of more ≡ hashes_of links ++ hash ∷ [] = ap hashes_of e ∙ map-append (λ (l : Link). l.hash)
    links (l ∷ []) in
    let bs : befores_of more ≡ befores_of links ++ before ∷ [] = ap befores_of e ∙ map-append (λ (l : Link).
    l.before) links (l ∷ []) in
    subst (λ xs. AreLinked (set first place (number + 1)) (hashes_of more) xs) (sym bs) (subst (λ xs. AreLinked
    (set first place (number + 1)) xs (befores_of links ++ before ∷ [])) (sym hs) q₃)
