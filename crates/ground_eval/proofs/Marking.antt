-- Marks of places, and what values with constants tell.
use Rattle.std.proofs.Common.{◌≡◌, ◌≢◌, ◌↔◌, ◌⊎◌, ℕ, zero, suc, ◌+◌, ◌<◌, List, [], ◌∷◌, ◌++◌, Bool, Some, None, inl}
use Rattle.std.proofs.Common.{inr, refl, ap, sym, ◌∙◌, subst, arith, length, get_or, true, false}
use Rattle.std.specs.Prelude.{slice_get, IsTrue}
use Rattle.std.proofs.lemmas.Option.{slice_get_within, slice_get_read}
use Rattle.term_core.specs.Tree.{Tree, Trees, var, app, some}
use Rattle.value_bank.specs.Cells.{Cell, cell, IsTerm, AreTerms, AddsCells}
use Rattle.value_bank.proofs.Terms.{one_term_at, term_kept, same_cell}
use Rattle.rule_code.proofs.Homes.{get_either}
use Rattle.ground_eval.specs.Constants.{IsConstant, HasConstant, SomeHasConstant, HeadsAreApart, AreApart, IsMarked}
use Rattle.ground_eval.specs.Constants.{AreMarks}

-- the term at a place has the symbol of the cell
pub term_there : (cells : List Cell) (p f : ℕ) (ps : List ℕ) (t : Tree) → slice_get cells p ≡ Some (cell f ps) →
    IsTerm cells p t → (ts : Trees) × (t ≡ app f ts)
term_there cells p f ps (var n) at h = absurd h
term_there cells p f ps (app g ts) at h =
    let e : f ≡ g = (same_cell cells p f g ps h.0 at h.1).0 in
    (ts, ap (λ n. app n ts) (sym e))

module _ (c d : ℕ) where
  -- marks stay right when cells are added
  pub marks_kept : (old new : List Cell) (marks : List Bool) → AddsCells old new → AreMarks c d old marks →
      AreMarks c d new marks
  marks_kept old new marks adds h k mark at =
      let m = h k mark at in
      record { term = m.term; there = term_kept old new k m.term adds m.there; says = m.says }

  -- the next mark
  pub marks_grown : (cells : List Cell) (marks after : List Bool) (f : ℕ) (ps : List ℕ)
      (own inside mark : Bool) → AreMarks c d cells marks → slice_get cells (length marks) ≡ Some (cell f ps) →
      (ts : Trees) × AreTerms cells ps ts × (IsTrue inside ↔ SomeHasConstant c d ts) →
      IsTrue own ↔ IsConstant c d f → IsTrue mark ↔ (IsTrue own ⊎ IsTrue inside) → after ≡ marks ++ mark ∷ [] →
      AreMarks c d cells after
  marks_grown cells marks after f ps own inside mark h at args is_own is_mark e k m there = by
      (get_either marks (mark ∷ []) k m (subst (λ xs. slice_get xs k ≡ Some m) e there))
    where
      to : IsTrue mark → HasConstant c d (app f args.0)
      to x = elim (is_mark.0 x) [
        | inl o ↦ inl (is_own.0 o)
        | inr i ↦ inr (args.2.0 i)
      ]

      from : HasConstant c d (app f args.0) → IsTrue mark
      from (inl o) = is_mark.1 (inl (is_own.1 o))
      from (inr i) = is_mark.1 (inr (args.2.1 i))

      by : (slice_get marks k ≡ Some m)
          ⊎ ((j : ℕ) × (slice_get (mark ∷ []) j ≡ Some m) × (k ≡ length marks + j)) → IsMarked c d cells k m
      by (inl a) = h k m a
      by (inr (zero, a, q)) =
          let r : Some mark ≡ Some m = a in
          let same : mark ≡ m = cc in
          let place : length marks ≡ k = omega arith in
          subst (λ (x : Bool). IsMarked c d cells k x) same
          (record {
            term = app f args.0;
            there = (
              ps,
              subst (λ n. slice_get cells n ≡ Some (cell f ps)) place at,
              args.1,
            );
            says = (to, from);
          })
      by (inr (suc j, a, q)) = absurd (let r : None ≡ Some m = a in cc)

  -- the mark of a place and those of more places
  pub marked_more : (cells : List Cell) (marks : List Bool) (p : ℕ) (rest : List ℕ) (m others r : Bool) →
      AreMarks c d cells marks → slice_get marks p ≡ Some m → (ts : Trees) × AreTerms cells rest ts
      × (IsTrue others ↔ SomeHasConstant c d ts) → IsTrue r ↔ (IsTrue m ⊎ IsTrue others) →
      (ts : Trees) × AreTerms cells (p ∷ rest) ts × (IsTrue r ↔ SomeHasConstant c d ts)
  marked_more cells marks p rest m others r h at more is =
      let first = h p m at in (
        some first.term more.0,
        (first.there, more.1),
        (
          λ x. elim (is.0 x) [ inl a ↦ inl (first.says.0 a) | inr b ↦ inr (more.2.0 b) ],
          λ x. elim x [ inl a ↦ is.1 (inl (first.says.1 a)) | inr b ↦ is.1 (inr (more.2.1 b)) ],
        ),
      )

  -- a mark says of the term at its place whether a constant occurs in it
  pub mark_says : (cells : List Cell) (p : ℕ) (m : Bool) (t : Tree) → IsMarked c d cells p m →
      IsTerm cells p t → IsTrue m ↔ HasConstant c d t
  mark_says cells p m t is there = subst (λ (x : Tree). IsTrue m ↔ HasConstant c d x)
      (one_term_at cells p is.term t is.there there) is.says

  -- the mark that is read at a place
  pub mark_at : (cells : List Cell) (marks : List Bool) (p : ℕ) (m : Bool) (t : Tree) →
      AreMarks c d cells marks → p < length marks → m ≡ get_or marks p m → IsTerm cells p t →
      IsTrue m ↔ HasConstant c d t
  mark_at cells marks p m t h lt is there = mark_says cells p m t
      (h p m (slice_get_read marks (length marks) p m refl lt is)) there

  -- values with a constant as a head aren't different whatever it stands for
  pub constant_left : (v w : Tree) (f : ℕ) (ts : Trees) → v ≡ app f ts → IsConstant c d f → AreApart c d v w → ⊥
  constant_left (var n) w f ts e is h = let z = e in cc
  constant_left (app g us) (var n) f ts e is (inl h) = h
  constant_left (app g us) (app k xs) f ts e is (inl h) =
      let q : g ≡ f = cc in
      h.1 (subst (λ n. IsConstant c d n) (sym q) is)
  constant_left (app g us) w f ts e is (inr h) =
      let q : g ≡ f = cc in
      h.1 (inl (subst (λ n. IsConstant c d n) (sym q) is))

  heads_turned : (v w : Tree) → HeadsAreApart c d v w → HeadsAreApart c d w v
  heads_turned (var n) w h = absurd h
  heads_turned (app f ts) (var n) h = absurd h
  heads_turned (app f ts) (app g us) h = (λ e. h.0 (sym e), h.2, h.1)

  apart_turned : (v w : Tree) → AreApart c d v w → AreApart c d w v
  apart_turned v w (inl h) = inl (heads_turned v w h)
  apart_turned v w (inr h) = inr (λ e. h.0 (sym e), h.2, h.1)

  pub constant_right : (v w : Tree) (f : ℕ) (ts : Trees) → w ≡ app f ts → IsConstant c d f → AreApart c d v w → ⊥
  constant_right v w f ts e is h = constant_left w v f ts e is (apart_turned v w h)

  -- different heads without constants
  pub heads_apart : (v w : Tree) (f g : ℕ) (ts us : Trees) → v ≡ app f ts → w ≡ app g us → f ≢ g →
      ¬ (IsConstant c d f) → ¬ (IsConstant c d g) → AreApart c d v w
  heads_apart v w f g ts us e k n h i = subst (λ (x : Tree). AreApart c d x w) (sym e)
      (subst (λ (y : Tree). AreApart c d (app f ts) y) (sym k) (inl (n, h, i)))

  -- values with one head, and with a constant somewhere
  pub same_heads : (v w : Tree) (f : ℕ) (ts us : Trees) → v ≡ app f ts → w ≡ app f us →
      HasConstant c d v ⊎ HasConstant c d w → AreApart c d v w → ⊥
  same_heads (var n) w f ts us e k h a = let z = e in cc
  same_heads (app g xs) (var n) f ts us e k h a = let z = k in cc
  same_heads (app g xs) (app j ys) f ts us e k h (inl a) =
      let q : g ≡ j = cc in
      a.0 q
  same_heads (app g xs) (app j ys) f ts us e k (inl h) (inr a) = a.1 h
  same_heads (app g xs) (app j ys) f ts us e k (inr h) (inr a) = a.2 h

  -- no value is different from itself
  pub apart_itself : (v : Tree) → AreApart c d v v → ⊥
  apart_itself (var n) (inl h) = h
  apart_itself (app f ts) (inl h) = h.0 refl
  apart_itself v (inr h) = h.0 refl

-- a term is at a place of the bank
pub place_within : (cells : List Cell) (p : ℕ) (t : Tree) → IsTerm cells p t → p < length cells
place_within cells p (var n) h = absurd h
place_within cells p (app f ts) h = slice_get_within cells p (cell f h.0) h.1

pub is_false : (b : Bool) → b ≡ false → IsTrue b → ⊥
is_false b e h = let q : b ≡ true = h in let z : true ≡ false = sym q ∙ e in cc

pub not_the_same : (b : Bool) (v w : Tree) → IsTrue b ↔ (v ≡ w) → b ≡ false → v ≢ w
not_the_same b v w tells e q = is_false b e (tells.1 q)
