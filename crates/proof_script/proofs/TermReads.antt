-- Two terms whose texts go on to the same bytes are alike, and the same if their variables are.
use Rattle.std.proofs.Common.{◌≡◌, ℕ, List, ◌∷◌, ◌++◌, Some, true, refl, ap, sym, ◌∙◌, subst, codes, append_assoc}
use Rattle.std.proofs.Common.{arith}
use Rattle.std.specs.Prelude.{slice_get}
use Rattle.term_core.specs.Tree.{Tree, Trees, var, app, none, some}
use Rattle.spec_core.specs.Sig.{Sig, names_of}
use Rattle.spec_core.specs.TermText.{variable_text, symbol_text, term_text, others_text}
use Rattle.proof_script.specs.Delimiters.{is_end, Run, Ends}
use Rattle.proof_script.proofs.Lists.{same_head, same_tail, run_one}
use Rattle.proof_script.proofs.Runs.{ends_stop, true_false, Plain, IsMark, mark_run, mark_name}

-- how a variable is written
abbrev pub mark_of : List (List ℕ) → ℕ → List ℕ
mark_of names n = variable_text (slice_get names n) n

-- no two symbols have the same name
abbrev pub NamesDiffer : Sig → Type 0
NamesDiffer sig = (f g : ℕ) (name : List ℕ) → slice_get (names_of sig) f ≡ Some name →
    slice_get (names_of sig) g ≡ Some name → f ≡ g

module _ (sig : Sig) where
  -- the variables have marks and the symbols plain names
  abbrev mutual
    pub IsPlain : List (List ℕ) → Tree → Type 0
    IsPlain names (var n) = IsMark (mark_of names n)
    IsPlain names (app f ts) = ((name : List ℕ) × (slice_get (names_of sig) f ≡ Some name) × Plain name)
        × ArePlain names ts

    pub ArePlain : List (List ℕ) → Trees → Type 0
    ArePlain names none = Unit {0}
    ArePlain names (some t ts) = IsPlain names t × ArePlain names ts

-- the terms are the same but for variables that are written alike
abbrev mutual
  pub Alike : List (List ℕ) → List (List ℕ) → Tree → Tree → Type 0
  Alike names others (var m) (var n) = mark_of names m ≡ mark_of others n
  Alike names others (app f ts) (app g us) = (f ≡ g) × AllAlike names others ts us
  Alike names others (var m) (app g us) = ⊥
  Alike names others (app f ts) (var n) = ⊥

  pub AllAlike : List (List ℕ) → List (List ℕ) → Trees → Trees → Type 0
  AllAlike names others none none = Unit {0}
  AllAlike names others (some t ts) (some u us) = Alike names others t u × AllAlike names others ts us
  AllAlike names others none (some u us) = ⊥
  AllAlike names others (some t ts) none = ⊥

-- a call's text as its name, `(` and what follows
pub call_grouped : (name t ts r : List ℕ) → (name ++ codes "(" ++ t ++ ts ++ codes ")") ++ r ≡ name
    ++ (40 ∷ (t ++ (ts ++ (41 ∷ r))))
call_grouped name t ts r = append_assoc (name ++ codes "(" ++ t ++ ts) (codes ")") r
    ∙ append_assoc (name ++ codes "(" ++ t) ts (41 ∷ r) ∙ append_assoc (name ++ codes "(") t (ts ++ (41 ∷ r))
    ∙ append_assoc name (codes "(") (t ++ (ts ++ (41 ∷ r)))

next_grouped : (t ts r : List ℕ) → (codes ", " ++ t ++ ts) ++ r ≡ 44 ∷ (32 ∷ (t ++ (ts ++ r)))
next_grouped t ts r = append_assoc (codes ", " ++ t) ts r ∙ append_assoc (codes ", ") t (ts ++ r)

-- a symbol's text is its name
pub named : (sig : Sig) (f : ℕ) (name : List ℕ) → slice_get (names_of sig) f ≡ Some name →
    symbol_text (slice_get (names_of sig) f) ≡ name
named sig f name e = ap symbol_text e

-- after arguments comes a comma or what follows the list
others_end : (sig : Sig) (names : List (List ℕ)) (ts : Trees) (c : ℕ) (r : List ℕ) → is_end c ≡ true →
    Ends (others_text sig names ts ++ (c ∷ r))
others_end sig names none c r e = e
others_end sig names (some t ts) c r e = refl

module _ (sig : Sig) (apart : NamesDiffer sig) (names others : List (List ℕ)) where
  mutual
    pub reads : (t u : Tree) (r s : List ℕ) → IsPlain sig names t → IsPlain sig others u → Ends r → Ends s →
        term_text sig names t ++ r ≡ term_text sig others u ++ s → Alike names others t u × (r ≡ s)
    reads (var m) (var n) r s p q x y e =
        let one = run_one Run (mark_of names m) (mark_of others n) r s (mark_run (mark_of names m) p)
        (mark_run (mark_of others n) q) (ends_stop r x) (ends_stop s y) e in
        (one.text, one.rest)
    reads (var m) (app g none) r s p ((b, bi, bp), qs) x y e =
        let one = run_one Run (mark_of names m) b r s (mark_run (mark_of names m) p) bp.run (ends_stop r x)
        (ends_stop s y) (e ∙ ap (λ z. z ++ s) (named sig g b bi)) in
        absurd (mark_name (mark_of names m) b p bp one.text)
    reads (var m) (app g (some u us)) r s p ((b, bi, bp), qs) x y e =
        let rest = 40 ∷ (term_text sig others u ++ (others_text sig others us ++ (41 ∷ s))) in
        let one = run_one Run (mark_of names m) b r rest (mark_run (mark_of names m) p) bp.run (ends_stop r x)
        (λ h. true_false h) (e
        ∙ ap (λ z. (z ++ codes "(" ++ term_text sig others u ++ others_text sig others us ++ codes ")")
        ++ s) (named sig g b bi) ∙ call_grouped b (term_text sig others u) (others_text sig others us) s) in
        absurd (mark_name (mark_of names m) b p bp one.text)
    reads (app f none) (var n) r s ((a, ai, ap1), ps) q x y e =
        let one = run_one Run (mark_of others n) a s r (mark_run (mark_of others n) q) ap1.run (ends_stop s y)
        (ends_stop r x) (sym e ∙ ap (λ z. z ++ r) (named sig f a ai)) in
        absurd (mark_name (mark_of others n) a q ap1 one.text)
    reads (app f (some t ts)) (var n) r s ((a, ai, ap1), ps) q x y e =
        let rest = 40 ∷ (term_text sig names t ++ (others_text sig names ts ++ (41 ∷ r))) in
        let one = run_one Run (mark_of others n) a s rest (mark_run (mark_of others n) q) ap1.run
        (ends_stop s y) (λ h. true_false h)
        (sym e ∙ ap (λ z. (z ++ codes "(" ++ term_text sig names t ++ others_text sig names ts ++ codes ")")
        ++ r) (named sig f a ai) ∙ call_grouped a (term_text sig names t) (others_text sig names ts) r) in
        absurd (mark_name (mark_of others n) a q ap1 one.text)
    reads (app f none) (app g none) r s ((a, ai, ap1), ps) ((b, bi, bp), qs) x y e =
        let one = run_one Run a b r s ap1.run bp.run (ends_stop r x) (ends_stop s y)
        (sym (ap (λ z. z ++ r) (named sig f a ai)) ∙ e ∙ ap (λ z. z ++ s) (named sig g b bi)) in
        ((apart f g b (ai ∙ ap (λ z. Some z) one.text) bi, tt), one.rest)
    reads (app f none) (app g (some u us)) r s ((a, ai, ap1), ps) ((b, bi, bp), qs) x y e =
        let rest = 40 ∷ (term_text sig others u ++ (others_text sig others us ++ (41 ∷ s))) in
        let one = run_one Run a b r rest ap1.run bp.run (ends_stop r x) (λ h. true_false h)
        (sym (ap (λ z. z ++ r) (named sig f a ai)) ∙ e
        ∙ ap (λ z. (z ++ codes "(" ++ term_text sig others u ++ others_text sig others us ++ codes ")")
        ++ s) (named sig g b bi) ∙ call_grouped b (term_text sig others u) (others_text sig others us) s) in
        absurd (true_false (sym (subst Ends one.rest x)))
    reads (app f (some t ts)) (app g none) r s ((a, ai, ap1), ps) ((b, bi, bp), qs) x y e =
        let rest = 40 ∷ (term_text sig names t ++ (others_text sig names ts ++ (41 ∷ r))) in
        let one = run_one Run a b rest s ap1.run bp.run (λ h. true_false h) (ends_stop s y)
        (sym (call_grouped a (term_text sig names t) (others_text sig names ts) r)
        ∙ sym (ap (λ z. (z ++ codes "(" ++ term_text sig names t ++ others_text sig names ts ++ codes ")")
        ++ r) (named sig f a ai)) ∙ e ∙ ap (λ z. z ++ s) (named sig g b bi)) in
        absurd (true_false (sym (subst Ends (sym one.rest) y)))
    reads (app f (some t ts)) (app g (some u us)) r s ((a, ai, ap1), ps) ((b, bi, bp), qs) x y e =
        let left = 40 ∷ (term_text sig names t ++ (others_text sig names ts ++ (41 ∷ r))) in
        let right = 40 ∷ (term_text sig others u ++ (others_text sig others us ++ (41 ∷ s))) in
        let one = run_one Run a b left right ap1.run bp.run (λ h. true_false h) (λ h. true_false h)
        (sym (call_grouped a (term_text sig names t) (others_text sig names ts) r)
        ∙ sym (ap (λ z. (z ++ codes "(" ++ term_text sig names t ++ others_text sig names ts ++ codes ")")
        ++ r) (named sig f a ai)) ∙ e
        ∙ ap (λ z. (z ++ codes "(" ++ term_text sig others u ++ others_text sig others us ++ codes ")")
        ++ s) (named sig g b bi) ∙ call_grouped b (term_text sig others u) (others_text sig others us) s) in
        let first = reads t u (others_text sig names ts ++ (41 ∷ r)) (others_text sig others us ++ (41 ∷ s))
        ps.0 qs.0 (others_end sig names ts 41 r refl) (others_end sig others us 41 s refl) (same_tail one.rest) in
        let next = reads_all ts us 41 41 r s ps.1 qs.1 refl refl (λ h. absurd (omega (arith, h)))
        (λ h. absurd (omega (arith, h))) first.1 in
        ((apart f g b (ai ∙ ap (λ z. Some z) one.text) bi, (first.0, next.0)), same_tail next.1)

    pub reads_all : (ts us : Trees) (c d : ℕ) (r s : List ℕ) → ArePlain sig names ts → ArePlain sig others us →
        is_end c ≡ true → is_end d ≡ true → (c ≡ 44 → ⊥) → (d ≡ 44 → ⊥) → others_text sig names ts
        ++ (c ∷ r) ≡ others_text sig others us ++ (d ∷ s) → AllAlike names others ts us × (c ∷ r ≡ d ∷ s)
    reads_all none none c d r s p q x y l k e = (tt, e)
    reads_all none (some u us) c d r s p q x y l k e = absurd (l (same_head e))
    reads_all (some t ts) none c d r s p q x y l k e = absurd (k (sym (same_head e)))
    reads_all (some t ts) (some u us) c d r s p q x y l k e =
        let grouped = sym (next_grouped (term_text sig names t) (others_text sig names ts) (c ∷ r)) ∙ e
        ∙ next_grouped (term_text sig others u) (others_text sig others us) (d ∷ s) in
        let first = reads t u (others_text sig names ts ++ (c ∷ r)) (others_text sig others us ++ (d ∷ s)) p.0
        q.0 (others_end sig names ts c r x) (others_end sig others us d s y) (same_tail (same_tail grouped)) in
        let next = reads_all ts us c d r s p.1 q.1 x y l k first.1 in
        ((first.0, next.0), next.1)
