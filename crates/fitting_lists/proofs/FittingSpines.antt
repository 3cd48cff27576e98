-- Spines of a pattern and of the term that it becomes, and a walk along last arguments.
use Rattle.std.proofs.Common.{◌≡◌, ℕ, zero, suc, Some, ◌+◌, ◌-◌, ◌^◌, ◌<◌, ◌≤◌, ◌==◌, List, [], ◌∷◌, Bool, true, false}
use Rattle.std.proofs.Common.{cond, inl, inr, refl, ap, sym, ◌∙◌, min, length, get_or, arith}
use Rattle.std.specs.Prelude.{◌⊎◌}
use Rattle.std.proofs.lemmas.Bool.Decides.{nat_tests}
use Rattle.term_core.specs.Tree.{Tree, Trees, var, app, none, some, trees_of, instance, instances}
use Rattle.fitting_lists.specs.declared.spines.SpineEnd.{SpineEnd}
use Rattle.fitting_lists.specs.declared.spines.SpineEnd.TheVariants.{Variable, Symbol}
use Rattle.fitting_lists.specs.Spines.{numbered, Run, one_more, run, last_run, spine_from, spine_of, MayBecome}
use Rattle.fitting_lists.specs.Spines.{missing_in}

-- what is so of the runs of a pattern and of the term that it becomes
abbrev Within : Run → Run → Type 0
Within p t = ((p.1 ≡ Variable) × (p.0 ≤ t.0)) ⊎ (p ≡ t)

more_within : (p t : Run) → Within p t → Within (one_more p) (one_more t)
more_within p t (inl h) = inl (h.0, omega (arith, h.1))
more_within p t (inr e) = inr (ap one_more e)

at_symbol :
    (same : Bool) (g : ℕ) (p t : Run) → Within p t →
    Within (cond same (one_more p) (0, Symbol (numbered g)))
    (cond same (one_more t) (0, Symbol (numbered g)))
at_symbol true g p t h = more_within p t h
at_symbol false g p t h = inr refl

module _ (list : List Tree) (f : ℕ) where
  mutual
    run_within : (p : Tree) → Within (run f p) (run f (instance list p))
    run_within (var n) = inl (refl, omega arith)
    run_within (app g ts) =
        at_symbol (g == f) g (last_run f ts) (last_run f (instances list ts)) (last_within ts)

    last_within : (ts : Trees) → Within (last_run f ts) (last_run f (instances list ts))
    last_within none = inr refl
    last_within (some t none) = run_within t
    last_within (some t (some u us)) = last_within (some u us)

spines_at :
    (f : ℕ) (p t : Run) → Within p t → MayBecome (spine_from f p) (spine_from f t)
spines_at f p t (inl h) = inr (refl, inl (h.0, omega (arith, h.1)))
spines_at f p t (inr e) = inr (refl, inr (ap (λ (r : Run). min r.0 (2 ^ 32 - 1)) e, ap (λ (r : Run). r.1) e))

-- if some list makes the pattern the term
pub spines_fit : (list : List Tree) (p : Tree) → MayBecome (spine_of p) (spine_of (instance list p))
spines_fit list (var n) = inl refl
spines_fit list (app f ts) =
    spines_at f (one_more (last_run f ts)) (one_more (last_run f (instances list ts)))
    (more_within (last_run f ts) (last_run f (instances list ts)) (last_within list f ts))

-- a term that begins with the symbol
pub same_symbol :
    (f g : ℕ) (ts : Trees) → (g == f) ≡ true → run f (app g ts) ≡ one_more (last_run f ts)
same_symbol f g ts e =
    ap (λ b. cond b (one_more (last_run f ts)) (0, Symbol (numbered g))) e

same_number : (f : ℕ) → (f == f) ≡ true
same_number f = grind (arith, nat_tests)

within_less : (p t : Run) → Within p t → p.0 ≤ t.0
within_less p t (inl h) = h.1
within_less p t (inr e) =
    let q : p.0 ≡ t.0 = ap (λ (r : Run). r.0) e in
    omega (arith, q)

-- no symbol of the pattern's spine is missing there
pub none_missing :
    (list : List Tree) (p : Tree) → missing_in (spine_of p) (instance list p) ≡ 0
none_missing list (var n) = refl
none_missing list (app f ts) =
    let below : (last_run f ts).0 ≤ (last_run f (instances list ts)).0 =
    within_less (last_run f ts) (last_run f (instances list ts)) (last_within list f ts) in
    let whole : (run f (app f (instances list ts))).0 ≡ suc (last_run f (instances list ts)).0 =
    ap (λ (r : Run). r.0) (same_symbol f f (instances list ts) (same_number f)) in
    omega (arith, below, whole)

-- the run of the last of some terms
pub last_is :
    (f : ℕ) (ts : List Tree) (i : ℕ) (t : Tree) → suc i ≡ length ts → t ≡ get_or ts i t →
    last_run f (trees_of ts) ≡ run f t
last_is f [] i t long is = absurd (omega arith)
last_is f (u ∷ []) zero t long is = ap (run f) (sym is)
last_is f (u ∷ []) (suc i) t long is = absurd (omega arith)
last_is f (u ∷ v ∷ vs) zero t long is = absurd (omega arith)
last_is f (u ∷ v ∷ vs) (suc i) t long is = last_is f (v ∷ vs) i t (omega arith) is

-- this many symbols before a run
abbrev pub counted : ℕ → Run → Run
counted k r = (k + r.0, r.1)

-- a whole spine, of which this many symbols are counted
pub all_counted :
    (f k : ℕ) (r : Run) (end : SpineEnd) → k < 2 ^ 32 → r ≡ (0, end) →
    record { root = Some (numbered f); length = k; end = end } ≡ spine_from f (counted k r)
all_counted f k r end lt e =
    let long : k ≡ min (k + 0) (2 ^ 32 - 1) = omega arith in
    ap (λ n. record { root = Some (numbered f); length = n; end = end }) long
    ∙ ap (λ (q : Run). spine_from f (counted k q)) (sym e)

-- a term that begins with another symbol
pub other_symbol :
    (f g : ℕ) (ts : Trees) → (g == f) ≡ false →
    run f (app g ts) ≡ (0, Symbol (numbered g))
other_symbol f g ts e =
    ap (λ b. cond b (one_more (last_run f ts)) (0, Symbol (numbered g))) e
