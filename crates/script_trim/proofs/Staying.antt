-- What stays of a list, and under which numbers.
use Rattle.std.proofs.Common.{◌≡◌, ◌⊎◌, inl, inr, ℕ, zero, suc, ◌+◌, ◌-◌, ◌≤◌, ◌<◌, List, [], ◌∷◌, ◌++◌, Bool, true}
use Rattle.std.proofs.Common.{false, Some, None, refl, sym, ◌∙◌, ap, subst, arith, length}
use Rattle.std.specs.Prelude.{cond, slice_get}
use Rattle.term_core.proofs.Numbers.{below_or_not}
use Rattle.script_trim.specs.Cut.{staying, new_number}

module _ (stays : ℕ → Bool) where
  anew_next : (k : ℕ) → new_number stays k ≤ new_number stays (suc k)
  anew_next k = by_case (stays k)
    where
      by_case : (b : Bool) → new_number stays k ≤ cond b (suc (new_number stays k)) (new_number stays k)
      by_case true = omega arith
      by_case false = omega arith

  -- a later number has no smaller new number
  pub grows : (k j : ℕ) → new_number stays k ≤ new_number stays (k + j)
  grows k zero =
      let z : k + 0 ≡ k = omega arith in subst (λ n. new_number stays k ≤ new_number stays n) (sym z) (omega arith)
  grows k (suc j) =
      let z : suc (k + j) ≡ k + suc j = omega arith in subst (λ n. new_number stays k ≤ new_number stays n) z
      (omega (arith, grows k j, anew_next (k + j)))

  module _ {A : Type 0} where
    pub staying_yes :
        (k : ℕ) (x : A) (xs : List A) → stays k ≡ true → staying stays k (x ∷ xs) ≡ x ∷ staying stays (suc k) xs
    staying_yes k x xs e = ap (λ b. cond b (x ∷ staying stays (suc k) xs) (staying stays (suc k) xs)) e

    pub staying_no :
        (k : ℕ) (x : A) (xs : List A) → stays k ≡ false → staying stays k (x ∷ xs) ≡ staying stays (suc k) xs
    staying_no k x xs e = ap (λ b. cond b (x ∷ staying stays (suc k) xs) (staying stays (suc k) xs)) e

    pub staying_append :
        (k : ℕ) (xs ys : List A) → staying stays k (xs ++ ys) ≡ staying stays k xs ++ staying stays (k + length xs) ys
    staying_append k [] ys = let z : k ≡ k + 0 = omega arith in ap (λ n. staying stays n ys) z
    staying_append k (x ∷ xs) ys =
        let r = staying_append (suc k) xs ys in
        let z : suc k + length xs ≡ k + suc (length xs) = omega arith in
        let q : staying stays (suc k) (xs ++ ys) ≡ staying stays (suc k) xs ++ staying stays (k + suc (length xs))
        ys = r ∙ ap (λ n. staying stays (suc k) xs ++ staying stays n ys) z in
        by_case (stays k) q
      where
        by_case :
            (b : Bool) → staying stays (suc k) (xs ++ ys) ≡ staying stays (suc k) xs ++ staying stays
            (k + suc (length xs)) ys → cond b (x ∷ staying stays (suc k) (xs ++ ys))
            (staying stays (suc k) (xs ++ ys)) ≡ cond b (x ∷ staying stays (suc k) xs) (staying stays (suc k) xs) ++
            staying stays (k + suc (length xs)) ys
        by_case true q = ap (λ zs. x ∷ zs) q
        by_case false q = q

    pub staying_all : (k : ℕ) (xs : List A) → ((j : ℕ) → j < length xs → stays (k + j) ≡ true) → staying stays k xs ≡ xs
    staying_all k [] h = refl
    staying_all k (x ∷ xs) h =
        let z : k + 0 ≡ k = omega arith in
        let here : stays k ≡ true = ap stays (sym z) ∙ h 0 (omega arith) in
        let rest : (j : ℕ) → j < length xs → stays (suc k + j) ≡ true =
        λ j l. (let y : suc k + j ≡ k + suc j = omega arith in ap stays y ∙ h (suc j) (omega (arith, l))) in
        staying_yes k x xs here ∙ ap (λ zs. x ∷ zs) (staying_all (suc k) xs rest)

    pub staying_none :
        (k : ℕ) (xs : List A) → ((j : ℕ) → j < length xs → stays (k + j) ≡ false) → staying stays k xs ≡ []
    staying_none k [] h = refl
    staying_none k (x ∷ xs) h =
        let z : k + 0 ≡ k = omega arith in
        let here : stays k ≡ false = ap stays (sym z) ∙ h 0 (omega arith) in
        let rest : (j : ℕ) → j < length xs → stays (suc k + j) ≡ false =
        λ j l. (let y : suc k + j ≡ k + suc j = omega arith in ap stays y ∙ h (suc j) (omega (arith, l))) in
        staying_no k x xs here ∙ staying_none (suc k) xs rest

    pub staying_fewer : (k : ℕ) (xs : List A) → length (staying stays k xs) ≤ length xs
    staying_fewer k [] = omega arith
    staying_fewer k (x ∷ xs) = by_case (stays k) (staying_fewer (suc k) xs)
      where
        by_case :
            (b : Bool) → length (staying stays (suc k) xs) ≤ length xs →
            length (cond b (x ∷ staying stays (suc k) xs) (staying stays (suc k) xs)) ≤ suc (length xs)
        by_case true l = omega (arith, l)
        by_case false l = omega (arith, l)

    -- one item more before those of which it is known where each is
    one_before :
        (k j d : ℕ) (y : A) (ys : List A) (x : A) → ((c : ℕ) →
        c + new_number stays (suc k) ≡ new_number stays (suc k + j) →
        slice_get (staying stays (suc k) ys) c ≡ Some x) → d + new_number stays k ≡ new_number stays (k + suc j) →
        (b : Bool) → stays k ≡ b → slice_get (staying stays k (y ∷ ys)) d ≡ Some x
    one_before k j d y ys x rest e true h = at_next d refl
      where
        n : new_number stays (suc k) ≡ suc (new_number stays k)
        n = ap (λ b. cond b (suc (new_number stays k)) (new_number stays k)) h

        m : new_number stays (k + suc j) ≡ new_number stays (suc k + j)
        m = let z : k + suc j ≡ suc k + j = omega arith in ap (λ i. new_number stays i) z

        more : suc (new_number stays k) ≤ new_number stays (suc k + j)
        more = subst (λ i. i ≤ new_number stays (suc k + j)) n (grows (suc k) j)

        at_next : (c : ℕ) → c ≡ d → slice_get (staying stays k (y ∷ ys)) d ≡ Some x
        at_next zero f = absurd (omega (arith, more, m, e, f))
        at_next (suc c) f =
            let s : staying stays k (y ∷ ys) ≡ y ∷ staying stays (suc k) ys = staying_yes k y ys h in
            ap (λ zs. slice_get zs d) s ∙ ap (λ i. slice_get (y ∷ staying stays (suc k) ys) i) (sym f) ∙ rest c
            (omega (arith, n, m, e, f))
    one_before k j d y ys x rest e false h =
        let z : k + suc j ≡ suc k + j = omega arith in
        let n : new_number stays (suc k) ≡ new_number stays k =
        ap (λ b. cond b (suc (new_number stays k)) (new_number stays k)) h in
        let m : new_number stays (k + suc j) ≡ new_number stays (suc k + j) = ap (λ i. new_number stays i) z in
        let s : staying stays k (y ∷ ys) ≡ staying stays (suc k) ys = staying_no k y ys h in
        ap (λ zs. slice_get zs d) s ∙ rest d (omega (arith, n, m, e))

    -- what is at a place that stays is at its new place
    staying_from :
        (k j d : ℕ) (xs : List A) (x : A) → slice_get xs j ≡ Some x → stays (k + j) ≡ true →
        d + new_number stays k ≡ new_number stays (k + j) → slice_get (staying stays k xs) d ≡ Some x
    staying_from k j d [] x at kept e = absurd (let q : None ≡ Some x = at in cc)
    staying_from k zero d (y ∷ ys) x at kept e =
        let q : Some y ≡ Some x = at in
        let z : k + 0 ≡ k = omega arith in
        let n : d ≡ 0 = (let w : new_number stays (k + 0) ≡ new_number stays k = ap (λ n. new_number stays n) z in
        omega (arith, e, w)) in
        let s : staying stays k (y ∷ ys) ≡ y ∷ staying stays (suc k) ys =
        staying_yes k y ys (ap stays (sym z) ∙ kept) in
        ap (λ zs. slice_get zs d) s ∙ ap (λ n. slice_get (y ∷ staying stays (suc k) ys) n) n ∙ q
    staying_from k (suc j) d (y ∷ ys) x at kept e =
        let z : k + suc j ≡ suc k + j = omega arith in
        one_before k j d y ys x (λ c f. staying_from (suc k) j c ys x at (ap stays (sym z) ∙ kept) f) e (stays k) refl

    pub staying_at :
        (j : ℕ) (xs : List A) (x : A) → slice_get xs j ≡ Some x → stays j ≡ true →
        slice_get (staying stays 0 xs) (new_number stays j) ≡ Some x
    staying_at j xs x at kept =
        let z : 0 + j ≡ j = omega arith in
        staying_from 0 j (new_number stays j) xs x at (ap stays z ∙ kept)
        (let w : new_number stays (0 + j) ≡ new_number stays j = ap (λ n. new_number stays n) z in
        omega (arith, w))

    pub length_from :
        (k : ℕ) (xs : List A) → length (staying stays k xs) + new_number stays k ≡ new_number stays (k + length xs)
    length_from k [] =
        let z : k + 0 ≡ k = omega arith in let w : new_number stays (k + 0) ≡ new_number stays k =
        ap (λ n. new_number stays n) z in omega (arith, w)
    length_from k (x ∷ xs) = by_case (stays k) refl (length_from (suc k) xs)
      where
        by_case :
            (b : Bool) → stays k ≡ b → length (staying stays (suc k) xs) + new_number stays (suc k) ≡ new_number stays
            (suc k + length xs) → length (staying stays k (x ∷ xs)) + new_number stays k ≡ new_number stays
            (k + suc (length xs))
        by_case true e r =
            let z : k + suc (length xs) ≡ suc k + length xs = omega arith in
            let m : new_number stays (k + suc (length xs)) ≡ new_number stays (suc k + length xs) =
            ap (λ n. new_number stays n) z in
            let n : new_number stays (suc k) ≡ suc (new_number stays k) =
            ap (λ b. cond b (suc (new_number stays k)) (new_number stays k)) e in
            let l : length (staying stays k (x ∷ xs)) ≡ suc (length (staying stays (suc k) xs)) =
            ap (λ ys. length ys) (staying_yes k x xs e) in
            omega (arith, r, m, n, l)
        by_case false e r =
            let z : k + suc (length xs) ≡ suc k + length xs = omega arith in
            let m : new_number stays (k + suc (length xs)) ≡ new_number stays (suc k + length xs) =
            ap (λ n. new_number stays n) z in
            let n : new_number stays (suc k) ≡ new_number stays k =
            ap (λ b. cond b (suc (new_number stays k)) (new_number stays k)) e in
            let l : length (staying stays k (x ∷ xs)) ≡ length (staying stays (suc k) xs) =
            ap (λ ys. length ys) (staying_no k x xs e) in
            omega (arith, r, m, n, l)

    -- as many stay as the new number past the last one says
    pub staying_length : (xs : List A) → length (staying stays 0 xs) ≡ new_number stays (length xs)
    staying_length xs =
        let z : 0 + length xs ≡ length xs = omega arith in
        let w : new_number stays (0 + length xs) ≡ new_number stays (length xs) = ap (λ n. new_number stays n) z in
        omega (arith, length_from 0 xs, w)

    -- what is at a place of what stays was at a place that stays
    pub from_staying :
        (k d : ℕ) (xs : List A) (x : A) → slice_get (staying stays k xs) d ≡ Some x → (j : ℕ) ×
        (slice_get xs j ≡ Some x) × (stays (k + j) ≡ true) × (d + new_number stays k ≡ new_number stays (k + j))
    from_staying k d [] x at = absurd (let q : None ≡ Some x = at in cc)
    from_staying k d (y ∷ ys) x at = by_case (stays k) refl d at (λ c is. from_staying (suc k) c ys x is)
      where
        z : (j : ℕ) → suc k + j ≡ k + suc j
        z j = omega arith

        further :
            (d c : ℕ) → c + new_number stays (suc k) ≡ d + new_number stays k → (j : ℕ) × (slice_get ys j ≡ Some x) ×
            (stays (suc k + j) ≡ true) × (c + new_number stays (suc k) ≡ new_number stays (suc k + j)) → (j : ℕ) ×
            (slice_get (y ∷ ys) j ≡ Some x) × (stays (k + j) ≡ true) ×
            (d + new_number stays k ≡ new_number stays (k + j))
        further d c e r =
            (suc r.0, r.1, ap stays (sym (z r.0)) ∙ r.2, sym e ∙ r.3 ∙ ap (λ n. new_number stays n) (z r.0))

        by_case :
            (b : Bool) → stays k ≡ b → (d : ℕ) → slice_get (staying stays k (y ∷ ys)) d ≡ Some x →
            ((c : ℕ) → slice_get (staying stays (suc k) ys) c ≡ Some x → (j : ℕ) × (slice_get ys j ≡ Some x) ×
            (stays (suc k + j) ≡ true) × (c + new_number stays (suc k) ≡ new_number stays (suc k + j))) → (j : ℕ) ×
            (slice_get (y ∷ ys) j ≡ Some x) × (stays (k + j) ≡ true) ×
            (d + new_number stays k ≡ new_number stays (k + j))
        by_case true e zero at r =
            let q : slice_get (y ∷ staying stays (suc k) ys) 0 ≡ Some x =
            ap (λ zs. slice_get zs 0) (sym (staying_yes k y ys e)) ∙ at in
            let w : k + 0 ≡ k = omega arith in
            let v : new_number stays (k + 0) ≡ new_number stays k = ap (λ n. new_number stays n) w in
            (0, q, ap stays w ∙ e, omega (arith, v))
        by_case true e (suc c) at r =
            let q : slice_get (y ∷ staying stays (suc k) ys) (suc c) ≡ Some x =
            ap (λ zs. slice_get zs (suc c)) (sym (staying_yes k y ys e)) ∙ at in
            let n : new_number stays (suc k) ≡ suc (new_number stays k) =
            ap (λ b. cond b (suc (new_number stays k)) (new_number stays k)) e in
            further (suc c) c (omega (arith, n)) (r c q)
        by_case false e d at r =
            let q : slice_get (staying stays (suc k) ys) d ≡ Some x =
            ap (λ zs. slice_get zs d) (sym (staying_no k y ys e)) ∙ at in
            let n : new_number stays (suc k) ≡ new_number stays k =
            ap (λ b. cond b (suc (new_number stays k)) (new_number stays k)) e in
            further d d (omega (arith, n)) (r d q)

  -- the new numbers of a row of nodes that stay
  pub anew_row :
      (n a : ℕ) → ((b : ℕ) → b < a → stays (n + b) ≡ true) → new_number stays (n + a) ≡ new_number stays n + a
  anew_row n zero h =
      let z : n + 0 ≡ n = omega arith in let w : new_number stays (n + 0) ≡ new_number stays n =
      ap (λ k. new_number stays k) z in omega (arith, w)
  anew_row n (suc a) h =
      let z : n + suc a ≡ suc (n + a) = omega arith in
      let w : new_number stays (n + suc a) ≡ new_number stays (suc (n + a)) = ap (λ k. new_number stays k) z in
      let e : new_number stays (suc (n + a)) ≡ suc (new_number stays (n + a)) =
      ap (λ b. cond b (suc (new_number stays (n + a))) (new_number stays (n + a))) (h a (omega arith)) in
      omega (arith, w, e, anew_row n a (λ b l. h b (omega (arith, l))))

  -- a node that stays has a smaller new number than a later node
  pub anew_less : (k j : ℕ) → stays k ≡ true → k < j → new_number stays k < new_number stays j
  anew_less k j e l =
      let n : new_number stays (suc k) ≡ suc (new_number stays k) =
      ap (λ b. cond b (suc (new_number stays k)) (new_number stays k)) e in
      let d : suc k + (j - suc k) ≡ j = omega (arith, l) in
      let g : new_number stays (suc k + (j - suc k)) ≡ new_number stays j = ap (λ k. new_number stays k) d in
      omega (arith, n, g, grows (suc k) (j - suc k))

  -- nodes that stay and have one new number are one
  pub anew_one : (k j : ℕ) → stays k ≡ true → stays j ≡ true → new_number stays k ≡ new_number stays j → k ≡ j
  anew_one k j e f h = either (below_or_not k j) (below_or_not j k)
    where
      either : (k < j) ⊎ (j ≤ k) → (j < k) ⊎ (k ≤ j) → k ≡ j
      either (inl l) g = absurd (omega (arith, h, anew_less k j e l))
      either (inr l) (inl g) = absurd (omega (arith, h, anew_less j k f g))
      either (inr l) (inr g) = omega (arith, l, g)
