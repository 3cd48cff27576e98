-- How long the lines of steps are.
use Rattle.std.proofs.Common.{◌≡◌, ℕ, ◌+◌, ◌*◌, ◌^◌, zero, suc, ◌<◌, ◌≤◌, inl, inr, Bool, true, false, List, [], ◌∷◌}
use Rattle.std.proofs.Common.{◌++◌, length, map, Some, None, Option, refl, ap, sym, ◌∙◌, subst, arith, length-append}
use Rattle.std.proofs.Common.{lit<}
use Rattle.std.specs.Prelude.{slice_get, slice_index_or, unwrap_or, codes, flat_map}
use Rattle.std.specs.Fmt.{decimal}
use Rattle.std.proofs.lemmas.Fmt.{length-decimal-le}
use Rattle.term_core.specs.Tree.{Tree, Trees, var, app, none, some, trees_of, list_of, tree_size, sizes, tree_depth}
use Rattle.term_core.specs.Tree.{depths}
use Rattle.term_core.specs.Places.{IsAt}
use Rattle.term_core.specs.Variables.{Occurs, OccursAny, Numbered, NumberedAll}
use Rattle.spec_core.specs.declared.records.Spec.{Spec}
use Rattle.spec_core.specs.Sig.{Sig, names_of}
use Rattle.spec_core.specs.TermText.{term_text, others_text, symbol_text}
use Rattle.substitutions.specs.Substitution.{image, apply, apply_all}
use Rattle.clause_core.specs.declared.steps.Step.{Step}
use Rattle.clause_core.specs.declared.steps.Step.TheVariants.{Trivial, Subsume, Rule, Decompose}
use Rattle.proof_script.specs.Steps.{step_line}
use Rattle.proof_script.specs.Words.{side_text, with_commas, line_text}
use Rattle.normalization.specs.Narrow.{IsNarrow, AreNarrow}
use Rattle.plain_search.specs.Choices.{place_in}
use Rattle.plain_search.specs.Laws.{NamesAreShort}

-- the bytes of a step's line
abbrev pub bytes : Sig → Step → ℕ
bytes sig step = length (line_text sig (step_line step))

-- lines are short if names are and there are few rules
abbrev pub IsCheap : Spec → Type 0
IsCheap spec = NamesAreShort spec.sig × (length spec.rules < 9999)

pub small_decimal : (n : ℕ) → n < 10 ^ 4 → length (decimal n) ≤ 4
small_decimal n h = length-decimal-le 4 n (lit< tt) h (omega arith)

one_digit : (n : ℕ) → n < 10 → length (decimal n) ≤ 1
one_digit n h = length-decimal-le 1 n (lit< tt) (omega arith) (omega arith)

module _ (sig : Sig) (short : NamesAreShort sig) where
  by_name : (f : ℕ) (o : Option (List ℕ)) → slice_get (names_of sig) f ≡ o → length (symbol_text o) ≤ 64
  by_name f None e = omega arith
  by_name f (Some name) e = short f name e

  pub symbol_short : (f : ℕ) → length (symbol_text (slice_get (names_of sig) f)) ≤ 64
  symbol_short f = by_name f (slice_get (names_of sig) f) refl

  mutual
    -- a term has at most 68 bytes for each symbol and variable, the comma before it counted
    term_short : (t : Tree) → ((n : ℕ) → Occurs n t → n < 10 ^ 4) → length (term_text sig [] t) + 2 ≤ 68 * tree_size t
    term_short (var n) small =
        let a = length-append (codes "?") (decimal n) in
        let b = small_decimal n (small n refl) in
        omega (arith, a, b)
    term_short (app f none) small = omega (arith, symbol_short f)
    term_short (app f (some t ts)) small =
        let name = symbol_text (slice_get (names_of sig) f) in
        let a = length-append name (codes "(" ++ term_text sig [] t ++ others_text sig [] ts ++ codes ")") in
        let e = length-append ((name ++ codes "(") ++ term_text sig [] t ++ others_text sig [] ts) (codes ")") in
        let d = length-append ((name ++ codes "(") ++ term_text sig [] t) (others_text sig [] ts) in
        let c = length-append (name ++ codes "(") (term_text sig [] t) in
        let b = length-append name (codes "(") in
        omega (
          arith,
          a,
          b,
          c,
          d,
          e,
          symbol_short f,
          term_short t (λ n o. small n (inl o)),
          others_short ts (λ n o. small n (inr o)),
        )

    others_short : (ts : Trees) → ((n : ℕ) → OccursAny n ts → n < 10 ^ 4) →
        length (others_text sig [] ts) ≤ 68 * sizes ts
    others_short none small = omega arith
    others_short (some t ts) small =
        let a = length-append (codes ", ") (term_text sig [] t) in
        let b = length-append (codes ", " ++ term_text sig [] t) (others_text sig [] ts) in
        omega (arith, a, b, term_short t (λ n o. small n (inl o)), others_short ts (λ n o. small n (inr o)))

  more_short : (ts : List Tree) → ((n : ℕ) → OccursAny n (trees_of ts) → n < 10 ^ 4) →
      length (flat_map (λ u. codes ", " ++ u) (map (term_text sig []) ts)) ≤ 68 * sizes (trees_of ts)
  more_short [] small = omega arith
  more_short (t ∷ ts) small =
      let a = length-append (codes ", ") (term_text sig [] t) in
      let b = length-append (codes ", " ++ term_text sig [] t)
      (flat_map (λ u. codes ", " ++ u) (map (term_text sig []) ts)) in
      omega (arith, a, b, term_short t (λ n o. small n (inl o)), more_short ts (λ n o. small n (inr o)))

  terms_short : (ts : List Tree) → ((n : ℕ) → OccursAny n (trees_of ts) → n < 10 ^ 4) →
      length (with_commas (map (term_text sig []) ts)) ≤ 68 * sizes (trees_of ts)
  terms_short [] small = omega arith
  terms_short (t ∷ ts) small =
      let a = length-append (term_text sig [] t) (flat_map (λ u. codes ", " ++ u) (map (term_text sig []) ts)) in
      omega (arith, a, term_short t (λ n o. small n (inl o)), more_short ts (λ n o. small n (inr o)))

  -- the line of an instance of the first node
  pub subsume_short : (ts : List Tree) → ((n : ℕ) → OccursAny n (trees_of ts) → n < 10 ^ 4) →
      bytes sig (Subsume 0 ts) ≤ 68 * sizes (trees_of ts) + 13
  subsume_short ts small = simp length-append (omega (arith, one_digit 0 (lit< tt), terms_short ts small))

argument_depth : (ts : Trees) (k : ℕ) (t : Tree) → slice_get (list_of ts) k ≡ Some t → tree_depth t ≤ depths ts
argument_depth none k t at = absurd (let q : None ≡ Some t = at in cc)
argument_depth (some u ts) zero t at =
    let q : Some u ≡ Some t = at in
    let e : u ≡ t = cc in
    let d : tree_depth t ≡ tree_depth u = ap (λ x. tree_depth x) (sym e) in
    omega (arith, d)
argument_depth (some u ts) (suc k) t at = omega (arith, argument_depth ts k t at)

argument_narrow : (ts : Trees) (k : ℕ) (t : Tree) → slice_get (list_of ts) k ≡ Some t → AreNarrow ts →
    IsNarrow t × (k < length (list_of ts))
argument_narrow none k t at n = absurd (let q : None ≡ Some t = at in cc)
argument_narrow (some u ts) zero t at n = let q : Some u ≡ Some t = at in let e : u ≡ t = cc in
    (subst (λ x. IsNarrow x) e n.0, omega arith)
argument_narrow (some u ts) (suc k) t at n = let r = argument_narrow ts k t at n.1 in (r.0, omega (arith, r.1))

abbrev path_text : List ℕ → List ℕ
path_text p = flat_map (λ i. codes "." ++ decimal i) p

-- the text of a path in a term
path_short : (p : List ℕ) (t s : Tree) → IsAt p t s → IsNarrow t → length (path_text p) + 2 ≤ 2 * tree_depth t
path_short [] (var n) s at narrow = omega arith
path_short [] (app f ts) s at narrow = omega arith
path_short (j ∷ p) (var n) s at narrow = absurd at
path_short (j ∷ p) (app f ts) s at narrow =
    let n = argument_narrow ts at.1.0 at.0 at.1.2 narrow.1 in
    let d = argument_depth ts at.1.0 at.0 at.1.2 in
    let r = path_short p at.0 s at.2 n.0 in
    let o = one_digit j (omega (arith, n.1, narrow.0, at.1.1)) in
    let a = length-append (codes ".") (decimal j) in
    let b = length-append (codes "." ++ decimal j) (path_text p) in
    omega (arith, a, b, d, r, o)

side_one : (side : Bool) → length (side_text side) ≡ 1
side_one true = refl
side_one false = refl

pub trivial_short : (sig : Sig) → bytes sig (Trivial 1) ≤ 213
trivial_short sig = simp length-append (omega (arith, one_digit 1 (lit< tt)))

pub decompose_short : (sig : Sig) → bytes sig (Decompose true 1) ≤ 213
decompose_short sig = simp length-append (omega (arith, one_digit 1 (lit< tt)))

-- the line of a rule has at most 213 bytes
pub rule_short : (sig : Sig) (side : Bool) (p : List ℕ) (k : ℕ) (t s : Tree) → IsAt p t s → IsNarrow t →
    tree_depth t ≤ 100 → k < 10 ^ 4 → bytes sig (Rule (place_in side p) k) ≤ 213
rule_short sig side p k t s at narrow deep small =
    simp length-append (omega (
      arith,
      one_digit 1 (lit< tt),
      side_one side,
      path_short p t s at narrow,
      deep,
      small_decimal k small,
    ))

-- the sizes of the first entries, where a variable without an entry counts as one
abbrev entry_size : List (Option Tree) → ℕ → ℕ
entry_size s i = tree_size (unwrap_or (slice_index_or s i None) (var 0))

upto : List (Option Tree) → ℕ → ℕ
upto s zero = 0
upto s (suc n) = upto s n + entry_size s n

option_size : (o : Option Tree) (n : ℕ) → tree_size (unwrap_or o (var n)) ≡ tree_size (unwrap_or o (var 0))
option_size None n = refl
option_size (Some t) n = refl

image_size : (s : List (Option Tree)) (n : ℕ) → tree_size (image s n) ≡ entry_size s n
image_size s n = option_size (slice_index_or s n None) n

upto_front : (o : Option Tree) (s : List (Option Tree)) (n : ℕ) →
    upto (o ∷ s) (suc n) ≡ tree_size (unwrap_or o (var 0)) + upto s n
unfolding upto
upto_front o s zero = omega arith
upto_front o s (suc n) = omega (arith, upto_front o s n)

upto_terms : (ts : List Tree) → upto (map (λ (t : Tree). Some t) ts) (length ts) ≡ sizes (trees_of ts)
unfolding upto
upto_terms [] = refl
upto_terms (t ∷ ts) = upto_front (Some t) (map (λ (u : Tree). Some u) ts) (length ts)
    ∙ ap (λ n. tree_size t + n) (upto_terms ts)

upto_next : (s : List (Option Tree)) (k : ℕ) → upto s (suc k) ≡ upto s k + entry_size s k
unfolding upto
upto_next s k = refl

mutual
  numbered_sizes : (s : List (Option Tree)) (k m : ℕ) (t : Tree) → Numbered k t m →
      upto s m ≤ upto s k + tree_size (apply s t)
  numbered_sizes s k m (var n) (inl h) = let e : upto s m ≡ upto s k = ap (λ i. upto s i) h.1 in omega (arith, e)
  numbered_sizes s k m (var n) (inr h) =
      let j : k + 1 ≡ suc k = omega arith in
      let e : upto s m ≡ upto s (suc k) = ap (λ i. upto s i) (h.1 ∙ j) in
      let z : tree_size (image s n) ≡ entry_size s k = ap (λ i. tree_size (image s i)) h.0 ∙ image_size s k in
      omega (arith, e, z, upto_next s k)
  numbered_sizes s k m (app f ts) h = omega (arith, all_sizes s k m ts h)

  all_sizes : (s : List (Option Tree)) (k m : ℕ) (ts : Trees) → NumberedAll k ts m →
      upto s m ≤ upto s k + sizes (apply_all s ts)
  all_sizes s k m none h = let e : upto s m ≡ upto s k = ap (λ i. upto s i) h in omega (arith, e)
  all_sizes s k m (some t ts) h = omega (arith, numbered_sizes s k h.0 t h.1, all_sizes s h.0 m ts h.2)

-- the terms for the variables of two numbered terms are no larger than the instances
pub terms_small : (ts : List Tree) (l r : Tree) → NumberedAll 0 (some l (some r none)) (length ts) →
    sizes (trees_of ts) ≤ tree_size (apply (map (λ (t : Tree). Some t) ts) l) + tree_size
    (apply (map (λ (t : Tree). Some t) ts) r)
unfolding upto
terms_small ts l r h =
    let a = all_sizes (map (λ (t : Tree). Some t) ts) 0 (length ts) (some l (some r none)) h in
    let z : upto (map (λ (t : Tree). Some t) ts) 0 ≡ 0 = refl in
    omega (arith, a, upto_terms ts, z)

mutual
  numbered_few : (k m : ℕ) (t : Tree) → Numbered k t m → m ≤ k + tree_size t
  numbered_few k m (var n) (inl h) = omega (arith, h.1)
  numbered_few k m (var n) (inr h) = omega (arith, h.1)
  numbered_few k m (app f ts) h = omega (arith, numbered_all_few k m ts h)

  -- there are no more variables than symbols and variables in all
  pub numbered_all_few : (k m : ℕ) (ts : Trees) → NumberedAll k ts m → m ≤ k + sizes ts
  numbered_all_few k m none h = omega (arith, h)
  numbered_all_few k m (some t ts) h = omega (arith, numbered_few k h.0 t h.1, numbered_all_few h.0 m ts h.2)
