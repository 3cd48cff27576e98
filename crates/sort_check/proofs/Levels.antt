-- Levels, line by line.
use Rattle.std.proofs.Common.{◌≡◌, ◌≢◌, ℕ, ◌<◌, ◌⊎◌, inl, inr, Bool, true, false, List, [], ◌∷◌, ◌++◌, length, get_or}
use Rattle.std.proofs.Common.{set, get_or-set_same, get_or-set_other, length-set, refl, ap, sym, ◌∙◌, subst, arith}
use Rattle.std.proofs.Common.{max}
use Rattle.std.specs.Prelude.{◌==◌, ◌||◌, if◌then◌else◌}
use Rattle.std.specs.List.{AllByRecursion}
use Rattle.std.proofs.lemmas.Bool.{eqb-true, eq-eqb, false_from_ne_true}
use Rattle.std.proofs.lemmas.Bool.Decides.{eqb_tells}
use Rattle.std.proofs.lemmas.Grind.{flat_map-append}
use Rattle.std.proofs.lemmas.List.{append-nil, map-append}
use Rattle.std.proofs.lemmas.List.Folds.{list_any-append}
use Rattle.term_core.proofs.Numbers.{same_or_not}
use Rattle.spec_core.specs.Sig.{Sig}
use Rattle.spec_grammar.specs.declared.raw.RawName.{RawName}
use Rattle.spec_grammar.specs.declared.raw.RawEqual.{RawEqual}
use Rattle.spec_grammar.specs.declared.raw.RawStatus.{RawStatus}
use Rattle.sort_check.specs.Orders.{is_among, greatest, symbol_number, symbol_numbers, level_in}
use Rattle.sort_check.specs.OrderTests.{names_in, heads_of}
use Rattle.sort_check.specs.Marks.{AreMarks}

-- Numbers among others.

or_false : (b : Bool) → (b || false) ≡ b
or_false true = refl
or_false false = refl

or_true : (b : Bool) → (b || true) ≡ true
or_true true = refl
or_true false = refl

pub neither : (a b : Bool) → (a || b) ≡ false → (a ≡ false) × (b ≡ false)
neither true b h = cc
neither false b h = (refl, h)

pub among-append :
    (f : ℕ) (ms ns : List ℕ) → is_among f (ms ++ ns) ≡ (is_among f ms || is_among f ns)
among-append f ms ns = list_any-append (λ m. m == f) ms ns

pub among-first : (f : ℕ) (ms ns : List ℕ) → is_among f (ms ++ ns) ≡ false → is_among f ms ≡ false
among-first f ms ns h = (neither (is_among f ms) (is_among f ns) (sym (among-append f ms ns) ∙ h)).0

among-self : (f : ℕ) (ms : List ℕ) → is_among f (ms ++ f ∷ []) ≡ true
among-self f ms =
    among-append f ms (f ∷ []) ∙ ap (λ b. is_among f ms || (b || false)) (eq-eqb f f refl)
    ∙ or_true (is_among f ms)

among-other : (f n : ℕ) (ms : List ℕ) → f ≢ n → is_among f (ms ++ n ∷ []) ≡ is_among f ms
among-other f n ms d =
    let no : (n == f) ≡ false = false_from_ne_true (n == f) (λ e. d (sym (eqb-true n f e))) in
    among-append f ms (n ∷ []) ∙ ap (λ b. is_among f ms || (b || false)) no
    ∙ or_false (is_among f ms)

-- what holds of all numbers holds of each that is among them
pub among-has :
    (P : ℕ → Type 0) (f : ℕ) (ns : List ℕ) → AllByRecursion P ns → is_among f ns ≡ true → P f
among-has P f [] all h = absurd (let q : false ≡ true = h in cc)
among-has P f (n ∷ ns) all h =
    elim (eqb_tells n f) [
      | inl e ↦ subst P e.1 all.0
      | inr d ↦
          among-has P f ns all.1 (sym (ap (λ b. b || is_among f ns) d.0) ∙ h)
    ]

-- and of the greatest
pub greatest-has : (P : ℕ → Type 0) (n : ℕ) (ns : List ℕ) → P n → AllByRecursion P ns → P (greatest (n ∷ ns))
greatest-has P n [] p all = let e : n ≡ max n 0 = omega arith in subst P e p
greatest-has P n (m ∷ ms) p all =
    let q : P (greatest (m ∷ ms)) = greatest-has P m ms all.0 all.1 in
    elim (cases n (greatest (m ∷ ms))) [
      | inl e ↦ subst P (sym e) p
      | inr e ↦ subst P (sym e) q
    ]
  where
    cases : (a b : ℕ) → (max a b ≡ a) ⊎ (max a b ≡ b)
    cases a b = grind arith

pub greatest-more : (ns : List ℕ) (n : ℕ) → greatest (ns ++ n ∷ []) ≡ max (greatest ns) n
greatest-more [] n = omega arith
greatest-more (m ∷ ms) n = omega (arith, greatest-more ms n)

-- Marks.

pub marks-next :
    (ns : List ℕ) (marks : List Bool) (n : ℕ) → n < length marks → AreMarks ns marks →
    AreMarks (ns ++ n ∷ []) (set marks n true)
marks-next ns marks n within are f lt =
    elim (same_or_not f n) [
      | inl e ↦
          ap (λ k. get_or (set marks n true) k false) e ∙ get_or-set_same marks n true false within
          ∙ sym (ap (λ k. is_among k (ns ++ n ∷ [])) e ∙ among-self n ns)
      | inr d ↦
          get_or-set_other marks n f true false d ∙ are f (omega (arith, lt, length-set marks n true))
          ∙ sym (among-other f n ns d)
    ]

module _ (sig : Sig) where
  pub numbers-append :
      (ns ms : List RawName) →
      symbol_numbers sig (ns ++ ms) ≡ symbol_numbers sig ns ++ symbol_numbers sig ms
  numbers-append ns ms = map-append (symbol_number sig) ns ms

  -- the names of one line more
  pub names_in-more :
      (lines : List RawEqual) (line : RawEqual) →
      symbol_numbers sig (names_in (lines ++ line ∷ []))
      ≡ symbol_numbers sig (names_in lines) ++ symbol_numbers sig line.names
  names_in-more lines line =
      ap (symbol_numbers sig)
      (flat_map-append (λ (l : RawEqual). l.names) lines (line ∷ [])
      ∙ ap (λ ns. names_in lines ++ ns) (append-nil line.names))
      ∙ numbers-append (names_in lines) line.names

  pub heads_of-more :
      (lines : List RawStatus) (line : RawStatus) →
      symbol_numbers sig (heads_of (lines ++ line ∷ []))
      ≡ symbol_numbers sig (heads_of lines) ++ symbol_number sig line.head ∷ []
  heads_of-more lines line =
      ap (symbol_numbers sig) (map-append (λ (l : RawStatus). l.head) lines (line ∷ []))
      ∙ numbers-append (heads_of lines) (line.head ∷ [])

  -- Levels.

  -- the first line that names a symbol gives its level
  level-named :
      (f : ℕ) (lines others : List RawEqual) →
      is_among f (symbol_numbers sig (names_in lines)) ≡ true →
      level_in sig (lines ++ others) f ≡ level_in sig lines f
  level-named f [] others h = absurd (let q : false ≡ true = h in cc)
  level-named f (line ∷ lines) others h =
      by (is_among f (symbol_numbers sig line.names)) refl (λ q. level-named f lines others (rest q))
    where
      rest :
          is_among f (symbol_numbers sig line.names) ≡ false →
          is_among f (symbol_numbers sig (names_in lines)) ≡ true
      rest unnamed =
          sym (ap (λ ns. is_among f ns) (numbers-append line.names (names_in lines))
          ∙ among-append f (symbol_numbers sig line.names) (symbol_numbers sig (names_in lines))
          ∙ ap (λ b. b || is_among f (symbol_numbers sig (names_in lines))) unnamed)
          ∙ h

      by :
          (b : Bool) → is_among f (symbol_numbers sig line.names) ≡ b →
          (is_among f (symbol_numbers sig line.names) ≡ false →
          level_in sig (lines ++ others) f ≡ level_in sig lines f) →
          (if b then greatest (symbol_numbers sig line.names) else level_in sig (lines ++ others) f)
          ≡ (if b then greatest (symbol_numbers sig line.names) else level_in sig lines f)
      by true q later = refl
      by false q later = later q

  level-unnamed :
      (f : ℕ) (lines others : List RawEqual) →
      is_among f (symbol_numbers sig (names_in lines)) ≡ false →
      level_in sig (lines ++ others) f ≡ level_in sig others f
  level-unnamed f [] others h = refl
  level-unnamed f (line ∷ lines) others h =
      ap (λ b. if b then greatest (symbol_numbers sig line.names) else level_in sig (lines ++ others) f) parts.0
      ∙ level-unnamed f lines others parts.1
    where
      parts :
          (is_among f (symbol_numbers sig line.names) ≡ false)
          × (is_among f (symbol_numbers sig (names_in lines)) ≡ false)
      parts =
          neither _ _
          (sym (ap (λ ns. is_among f ns) (numbers-append line.names (names_in lines))
          ∙ among-append f (symbol_numbers sig line.names) (symbol_numbers sig (names_in lines)))
          ∙ h)

  -- one line more, whose functions earlier lines don't name
  pub level-next :
      (f : ℕ) (lines : List RawEqual) (line : RawEqual) →
      (is_among f (symbol_numbers sig line.names) ≡ true →
      is_among f (symbol_numbers sig (names_in lines)) ≡ false) →
      (if is_among f (symbol_numbers sig line.names)
      then greatest (symbol_numbers sig line.names) else level_in sig lines f)
      ≡ level_in sig (lines ++ line ∷ []) f
  level-next f lines line apart =
      by (is_among f (symbol_numbers sig line.names)) (is_among f (symbol_numbers sig (names_in lines))) refl refl
    where
      by :
          (a b : Bool) → is_among f (symbol_numbers sig line.names) ≡ a →
          is_among f (symbol_numbers sig (names_in lines)) ≡ b →
          (if a then greatest (symbol_numbers sig line.names) else level_in sig lines f)
          ≡ level_in sig (lines ++ line ∷ []) f
      by true b p q =
          sym (level-unnamed f lines (line ∷ []) (apart p)
          ∙ ap (λ c. if c then greatest (symbol_numbers sig line.names) else f) p)
      by false true p q = sym (level-named f lines (line ∷ []) q)
      by false false p q =
          (ap (λ ls. level_in sig ls f) (sym (append-nil lines)) ∙ level-unnamed f lines [] q)
          ∙ sym (level-unnamed f lines (line ∷ []) q
          ∙ ap (λ c. if c then greatest (symbol_numbers sig line.names) else f) p)
