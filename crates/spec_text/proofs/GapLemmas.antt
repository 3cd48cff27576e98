-- Gaps, and what follows them.
use Rattle.std.proofs.Common.{◌≡◌, ◌≢◌, ◌⊎◌, inl, inr, ℕ, List, [], ◌∷◌, ◌++◌, Bool, true, false, cond, refl, ap, sym}
use Rattle.std.proofs.Common.{subst, ◌∙◌, append_assoc}
use Rattle.std.specs.Prelude.{◌==◌}
use Rattle.std.proofs.lemmas.Bool.{eqb-true, ne_eqb}
use Rattle.std.proofs.lemmas.List.{append-nil}
use Rattle.spec_text.specs.Gaps.{is_blank, IsComment, IsGap, IsLastGap, nothing, blank, comment}
use Rattle.spec_text.specs.Scanner.{skip_gaps}

pub nil_cons : {x : ℕ} {xs : List ℕ} → ◌≡◌ {A = List ℕ} [] (x ∷ xs) → ⊥
nil_cons e = cc

pub cons_nil : {x : ℕ} {xs : List ℕ} → ◌≡◌ {A = List ℕ} (x ∷ xs) [] → ⊥
cons_nil e = cc

comment_skipped : (text : List ℕ) → IsComment text → (xs : List ℕ) →
    skip_gaps true (text ++ (10 ∷ xs)) ≡ skip_gaps false xs
comment_skipped [] h xs = refl
comment_skipped (c ∷ text) h xs = rw (ne_eqb c 10 h.0) (comment_skipped text h.1 xs)

comment_ends : (text : List ℕ) → IsComment text → skip_gaps true text ≡ []
comment_ends [] h = refl
comment_ends (c ∷ text) h = rw (ne_eqb c 10 h.0) (comment_ends text h.1)

pub gap_skipped : {g : List ℕ} → IsGap g → (xs : List ℕ) → skip_gaps false (g ++ xs) ≡ skip_gaps false xs
gap_skipped nothing xs = refl
gap_skipped (blank c b g) xs = rw b (gap_skipped g xs)
gap_skipped (comment {cs} text t g) xs = ap (skip_gaps true) (append_assoc text (10 ∷ cs) xs)
    ∙ comment_skipped text t (cs ++ xs) ∙ gap_skipped g xs

-- after a gap, this neither goes on with it nor is empty
abbrev pub Behind : List ℕ → ℕ → List ℕ → Type 0
Behind cs x xs = (gap : List ℕ) × (cs ≡ gap ++ (x ∷ xs)) × IsGap gap × (is_blank x ≡ false) × ((x == 35) ≡ false)

abbrev BehindComment : List ℕ → ℕ → List ℕ → Type 0
BehindComment cs x xs = (text : List ℕ) × (more : List ℕ) × (cs ≡ text ++ (10 ∷ more)) × IsComment text
    × Behind more x xs

behind_step : (b d : Bool) (c : ℕ) (cs : List ℕ) (x : ℕ) (xs : List ℕ) → is_blank c ≡ b → (c == 35) ≡ d →
    (skip_gaps false cs ≡ x ∷ xs → Behind cs x xs) → (skip_gaps true cs ≡ x ∷ xs → BehindComment cs x xs) →
    cond b (skip_gaps false cs) (cond d (skip_gaps true cs) (c ∷ cs)) ≡ x ∷ xs → Behind (c ∷ cs) x xs
behind_step true d c cs x xs p q out inside e = let s = out e in
    (c ∷ s.0, ap (λ ys. c ∷ ys) s.1, blank c p s.2, s.3, s.4)
behind_step false true c cs x xs p q out inside e =
    let s = inside e in
    let hash : c ≡ 35 = eqb-true c 35 q in
    let whole : c ∷ cs ≡ (35 ∷ (s.0 ++ (10 ∷ s.4.0))) ++ (x ∷ xs) =
    ap (λ k. k ∷ cs) hash ∙ ap (λ ys. 35 ∷ ys) (s.2 ∙ ap (λ ys. s.0 ++ (10 ∷ ys)) s.4.1
    ∙ sym (append_assoc s.0 (10 ∷ s.4.0) (x ∷ xs))) in
    (35 ∷ (s.0 ++ (10 ∷ s.4.0)), whole, comment s.0 s.3 s.4.2, s.4.3, s.4.4)
behind_step false false c cs x xs p q out inside e = let same : c ≡ x = cc in
    ([], e, nothing, ap is_blank (sym same) ∙ p, ap (λ k. k == 35) (sym same) ∙ q)

comment_step : (b : Bool) (c : ℕ) (cs : List ℕ) (x : ℕ) (xs : List ℕ) → (c == 10) ≡ b →
    (skip_gaps false cs ≡ x ∷ xs → Behind cs x xs) → (skip_gaps true cs ≡ x ∷ xs → BehindComment cs x xs) →
    cond b (skip_gaps false cs) (skip_gaps true cs) ≡ x ∷ xs → BehindComment (c ∷ cs) x xs
comment_step true c cs x xs p out inside e = ([], cs, ap (λ k. k ∷ cs) (eqb-true c 10 p), tt, out e)
comment_step false c cs x xs p out inside e = let s = inside e in
    (c ∷ s.0, s.1, ap (λ ys. c ∷ ys) s.2, (unequal c p, s.3), s.4)
  where
    unequal : (c : ℕ) → (c == 10) ≡ false → c ≢ 10
    unequal c p e = absurd (let q : true ≡ false = ap (λ k. k == 10) (sym e) ∙ p in cc)

mutual
  pub behind_gap : (cs : List ℕ) (x : ℕ) (xs : List ℕ) → skip_gaps false cs ≡ x ∷ xs → Behind cs x xs
  behind_gap [] x xs e = absurd (nil_cons e)
  behind_gap (c ∷ cs) x xs e = behind_step (is_blank c) (c == 35) c cs x xs refl refl (behind_gap cs x xs)
      (behind_comment cs x xs) e

  behind_comment : (cs : List ℕ) (x : ℕ) (xs : List ℕ) → skip_gaps true cs ≡ x ∷ xs → BehindComment cs x xs
  behind_comment [] x xs e = absurd (nil_cons e)
  behind_comment (c ∷ cs) x xs e = comment_step (c == 10) c cs x xs refl (behind_gap cs x xs) (behind_comment cs x xs) e

-- the last gap is what is skipped to the end
pub last_gap_skipped : (cs : List ℕ) → IsLastGap cs → skip_gaps false cs ≡ []
last_gap_skipped cs (inl g) = ap (skip_gaps false) (sym (append-nil cs)) ∙ gap_skipped g []
last_gap_skipped cs (inr h) = ap (skip_gaps false) h.2 ∙ gap_skipped h.3 (35 ∷ h.1) ∙ comment_ends h.1 h.4

abbrev LastComment : List ℕ → Type 0
LastComment cs = IsComment cs ⊎ ((text : List ℕ) × (more : List ℕ) × (cs ≡ text ++ (10 ∷ more)) × IsComment text
    × IsLastGap more)

after_blank : (c : ℕ) (cs : List ℕ) → is_blank c ≡ true → IsLastGap cs → IsLastGap (c ∷ cs)
after_blank c cs p (inl g) = inl (blank c p g)
after_blank c cs p (inr h) = inr (c ∷ h.0, h.1, ap (λ ys. c ∷ ys) h.2, blank c p h.3, h.4)

after_newline : (cs text more : List ℕ) → cs ≡ text ++ (10 ∷ more) → IsComment text → IsLastGap more →
    IsLastGap (35 ∷ cs)
after_newline cs text more e t (inl g) = inl (subst IsGap (sym (ap (λ ys. 35 ∷ ys) e)) (comment text t g))
after_newline cs text more e t (inr h) = inr (
  35 ∷ (text ++ (10 ∷ h.0)),
  h.1,
  ap (λ ys. 35 ∷ ys) (e ∙ ap (λ ys. text ++ (10 ∷ ys)) h.2 ∙ sym (append_assoc text (10 ∷ h.0) (35 ∷ h.1))),
  comment text t h.3,
  h.4,
)

after_hash : (cs : List ℕ) → LastComment cs → IsLastGap (35 ∷ cs)
after_hash cs (inl t) = inr ([], cs, refl, nothing, t)
after_hash cs (inr h) = after_newline cs h.0 h.1 h.2 h.3 h.4

last_step : (b d : Bool) (c : ℕ) (cs : List ℕ) → is_blank c ≡ b → (c == 35) ≡ d →
    (skip_gaps false cs ≡ [] → IsLastGap cs) → (skip_gaps true cs ≡ [] → LastComment cs) →
    cond b (skip_gaps false cs) (cond d (skip_gaps true cs) (c ∷ cs)) ≡ [] → IsLastGap (c ∷ cs)
last_step true d c cs p q out inside e = after_blank c cs p (out e)
last_step false true c cs p q out inside e = subst (λ k. IsLastGap (k ∷ cs)) (sym (eqb-true c 35 q))
    (after_hash cs (inside e))
last_step false false c cs p q out inside e = absurd (cons_nil e)

in_comment : (c : ℕ) (cs : List ℕ) → c ≢ 10 → LastComment cs → LastComment (c ∷ cs)
in_comment c cs n (inl t) = inl (n, t)
in_comment c cs n (inr h) = inr (c ∷ h.0, h.1, ap (λ ys. c ∷ ys) h.2, (n, h.3), h.4)

last_comment_step : (b : Bool) (c : ℕ) (cs : List ℕ) → (c == 10) ≡ b →
    (skip_gaps false cs ≡ [] → IsLastGap cs) → (skip_gaps true cs ≡ [] → LastComment cs) →
    cond b (skip_gaps false cs) (skip_gaps true cs) ≡ [] → LastComment (c ∷ cs)
last_comment_step true c cs p out inside e = inr ([], cs, ap (λ k. k ∷ cs) (eqb-true c 10 p), tt, out e)
last_comment_step false c cs p out inside e = in_comment c cs
    (λ e. absurd (let q : true ≡ false = ap (λ k. k == 10) (sym e) ∙ p in cc)) (inside e)

mutual
  pub last_gap : (cs : List ℕ) → skip_gaps false cs ≡ [] → IsLastGap cs
  last_gap [] e = inl nothing
  last_gap (c ∷ cs) e = last_step (is_blank c) (c == 35) c cs refl refl (last_gap cs) (last_comment cs) e

  last_comment : (cs : List ℕ) → skip_gaps true cs ≡ [] → LastComment cs
  last_comment [] e = inl tt
  last_comment (c ∷ cs) e = last_comment_step (c == 10) c cs refl (last_gap cs) (last_comment cs) e
