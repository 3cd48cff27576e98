-- What the first of several lines with a symbol gives it: the numbers of a status line, a weight of an order line.
use Rattle.std.proofs.Common.{◌≡◌, ◌≢◌, ℕ, ◌+◌, ◌<◌, inl, inr, Bool, true, false, List, [], ◌∷◌, ◌++◌, length, take}
use Rattle.std.proofs.Common.{get_or, set, get_or-set_same, get_or-set_other, refl, ap, sym, ◌∙◌}
use Rattle.std.specs.Prelude.{◌==◌, ◌||◌, if◌then◌else◌}
use Rattle.std.proofs.lemmas.Bool.{eqb-true, eq-eqb, false_from_ne_true}
use Rattle.std.proofs.lemmas.List.{append-nil}
use Rattle.term_core.proofs.Items.{taken_next}
use Rattle.term_core.proofs.Numbers.{same_or_not}
use Rattle.sort_check.specs.Orders.{is_among}
use Rattle.sort_check.proofs.Levels.{neither}

-- lines with the number of the symbol at the head of each, what each gives it, and what they all give
module _
    {L X : Type 0} (head : L → ℕ) (value : L → X) (heads : List L → List ℕ) (given : List L → ℕ → X)
    (no_heads : heads [] ≡ []) (more_heads : (l : L) (ls : List L) → heads (l ∷ ls) ≡ head l ∷ heads ls)
    (first_gives :
    (l : L) (ls : List L) (f : ℕ) → given (l ∷ ls) f ≡ (if head l == f then value l else given ls f)) where
  given-named :
      (f : ℕ) (ls others : List L) → is_among f (heads ls) ≡ true → given (ls ++ others) f ≡ given ls f
  given-named f [] others h = absurd (let q : false ≡ true = sym (ap (λ ns. is_among f ns) no_heads) ∙ h in cc)
  given-named f (l ∷ ls) others h =
      first_gives l (ls ++ others) f ∙ by (head l == f) refl (λ q. given-named f ls others (rest q))
      ∙ sym (first_gives l ls f)
    where
      rest : (head l == f) ≡ false → is_among f (heads ls) ≡ true
      rest other =
          sym (ap (λ ns. is_among f ns) (more_heads l ls) ∙ ap (λ b. b || is_among f (heads ls)) other) ∙ h

      by :
          (b : Bool) → (head l == f) ≡ b → ((head l == f) ≡ false → given (ls ++ others) f ≡ given ls f) →
          (if b then value l else given (ls ++ others) f) ≡ (if b then value l else given ls f)
      by true q later = refl
      by false q later = later q

  given-unnamed :
      (f : ℕ) (ls others : List L) → is_among f (heads ls) ≡ false → given (ls ++ others) f ≡ given others f
  given-unnamed f [] others h = refl
  given-unnamed f (l ∷ ls) others h =
      let parts =
      neither (head l == f) (is_among f (heads ls)) (sym (ap (λ ns. is_among f ns) (more_heads l ls)) ∙ h) in
      first_gives l (ls ++ others) f ∙ ap (λ b. if b then value l else given (ls ++ others) f) parts.0
      ∙ given-unnamed f ls others parts.1

  -- one line more, whose symbol has no line before
  given-here :
      (f : ℕ) (ls : List L) (l : L) → head l ≡ f → is_among f (heads ls) ≡ false →
      given (ls ++ l ∷ []) f ≡ value l
  given-here f ls l e new =
      given-unnamed f ls (l ∷ []) new ∙ first_gives l [] f
      ∙ ap (λ b. if b then value l else given [] f) (eq-eqb (head l) f e)

  given-elsewhere : (f : ℕ) (ls : List L) (l : L) → head l ≢ f → given (ls ++ l ∷ []) f ≡ given ls f
  given-elsewhere f ls l d = by (is_among f (heads ls)) refl
    where
      other : (head l == f) ≡ false
      other = false_from_ne_true (head l == f) (λ e. d (eqb-true (head l) f e))

      by : (b : Bool) → is_among f (heads ls) ≡ b → given (ls ++ l ∷ []) f ≡ given ls f
      by true q = given-named f ls (l ∷ []) q
      by false q =
          given-unnamed f ls (l ∷ []) q ∙ first_gives l [] f
          ∙ ap (λ b. if b then value l else given [] f) other
          ∙ sym (ap (λ ks. given ks f) (sym (append-nil ls)) ∙ given-unnamed f ls [] q)

  -- the values so far with that of one line more
  pub given-next :
      (ls : List L) (i : ℕ) (l : L) → i < length ls → l ≡ get_or ls i l → (f g : ℕ) (d : X) (values : List X) →
      g < length values → head l ≡ g → is_among g (heads (take i ls)) ≡ false →
      get_or values f d ≡ given (take i ls) f →
      get_or (set values g (value l)) f d ≡ given (take (i + 1) ls) f
  given-next ls i l lt is f g d values within here new was =
      elim (same_or_not f g) [
        | inl e ↦
            ap (λ k. get_or (set values g (value l)) k d) e ∙ get_or-set_same values g (value l) d within
            ∙ sym (ap (λ k. given (take i ls ++ l ∷ []) k) e ∙ given-here g (take i ls) l here new) ∙ back
        | inr other ↦
            get_or-set_other values g f (value l) d other ∙ was
            ∙ sym (given-elsewhere f (take i ls) l (λ same. other (sym same ∙ here))) ∙ back
      ]
    where
      back : given (take i ls ++ l ∷ []) f ≡ given (take (i + 1) ls) f
      back = ap (λ ks. given ks f) (sym (taken_next ls i l lt is))
