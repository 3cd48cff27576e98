-- Terms at the places of a bank.
use Rattle.std.proofs.Common.{◌≡◌, ◌↔◌, ℕ, zero, suc, ◌^◌, ◌<◌, ◌≤◌, List, [], ◌∷◌, ◌++◌, Some, inl, inr}
use Rattle.std.proofs.Common.{refl, ap, sym, ◌∙◌, subst, arith, length}
use Rattle.std.specs.Prelude.{slice_get}
use Rattle.term_core.specs.Tree.{Tree, Trees, var, app, none, some}
use Rattle.bank_core.specs.Entries.{AreShared, IsAdded}
use Rattle.bank_core.proofs.Ends.{some_there, get_before, at_end}
use Rattle.bank_core.proofs.Hashed.{entry_args, entry_head, same_entry}
use Rattle.value_bank.specs.Cells.{Cell, cell, IsTerm, AreTerms, AreBelow, IsBank, AddsCells}
use Rattle.value_bank.specs.Laws.{HasTerm, OneTerm, OnePlace, KeepsTerms}

mutual
  pub one_term_at : OneTerm
  one_term_at cells p (var n) t h k = absurd h
  one_term_at cells p (app f ts) (var n) h k = absurd k
  one_term_at cells p (app f ts) (app g us) (ps, at, hs) (qs, at', ks) =
      let e : Some (cell f ps) ≡ Some (cell g qs) = sym at ∙ at' in
      let same = sym (entry_args f g ps qs e) in
      let k : ts ≡ us = one_terms cells ps ts us hs (subst (λ xs. AreTerms cells xs us) same ks) in
      subst (λ x. app f ts ≡ app x us) (entry_head f g ps qs e) (ap (λ x. app f x) k)

  pub one_terms : (cells : List Cell) (ps : List ℕ) (ts us : Trees) → AreTerms cells ps ts →
      AreTerms cells ps us → ts ≡ us
  one_terms cells [] none none h k = refl
  one_terms cells [] none (some u us) h k = absurd k
  one_terms cells [] (some t ts) us h k = absurd h
  one_terms cells (p ∷ ps) none us h k = absurd h
  one_terms cells (p ∷ ps) (some t ts) none h k = absurd k
  one_terms cells (p ∷ ps) (some t ts) (some u us) h k =
      let e : t ≡ u = one_term_at cells p t u h.0 k.0 in
      let es : ts ≡ us = one_terms cells ps ts us h.1 k.1 in
      cc

mutual
  pub one_place_of : OnePlace
  one_place_of cells p q (var n) bank h k = absurd h
  one_place_of cells p q (app f ts) bank (ps, at, hs) (qs, at', ks) =
      let e : ps ≡ qs = one_places cells ps qs ts bank hs ks in
      bank.distinct p q (cell f ps) at (subst (λ xs. slice_get cells q ≡ Some (cell f xs)) (sym e) at')

  pub one_places : (cells : List Cell) (ps qs : List ℕ) (ts : Trees) → IsBank cells → AreTerms cells ps ts →
      AreTerms cells qs ts → ps ≡ qs
  one_places cells [] [] none bank h k = refl
  one_places cells [] (q ∷ qs) none bank h k = absurd k
  one_places cells (p ∷ ps) qs none bank h k = absurd h
  one_places cells [] qs (some t ts) bank h k = absurd h
  one_places cells (p ∷ ps) [] (some t ts) bank h k = absurd k
  one_places cells (p ∷ ps) (q ∷ qs) (some t ts) bank h k =
      let e : p ≡ q = one_place_of cells p q t bank h.0 k.0 in
      let es : ps ≡ qs = one_places cells ps qs ts bank h.1 k.1 in
      cc

mutual
  kept : (cells more : List Cell) (p : ℕ) (t : Tree) → IsTerm cells p t → IsTerm (cells ++ more) p t
  kept cells more p (var n) h = absurd h
  kept cells more p (app f ts) (ps, at, hs) = (ps, get_before cells more p (cell f ps) at, all_kept cells more ps ts hs)

  all_kept : (cells more : List Cell) (ps : List ℕ) (ts : Trees) → AreTerms cells ps ts → AreTerms (cells ++ more) ps ts
  all_kept cells more [] none h = tt
  all_kept cells more [] (some t ts) h = absurd h
  all_kept cells more (p ∷ ps) none h = absurd h
  all_kept cells more (p ∷ ps) (some t ts) h = (kept cells more p t h.0, all_kept cells more ps ts h.1)

pub term_kept : KeepsTerms
term_kept old new p t adds h = subst (λ xs. IsTerm xs p t) (sym adds.1) (kept old adds.0 p t h)

pub terms_kept : (old new : List Cell) (ps : List ℕ) (ts : Trees) → AddsCells old new → AreTerms old ps ts →
    AreTerms new ps ts
terms_kept old new ps ts adds h = subst (λ xs. AreTerms xs ps ts) (sym adds.1) (all_kept old adds.0 ps ts h)

pub below_less : (n m : ℕ) (ps : List ℕ) → n ≤ m → AreBelow n ps → AreBelow m ps
below_less n m [] le h = tt
below_less n m (p ∷ ps) le h = (omega (arith, le, h.0), below_less n m ps le h.1)

terms_below : (cells : List Cell) (n : ℕ) →
    ((p : ℕ) → p < n → p < length cells → (t : Tree) × IsTerm cells p t) → n ≤ length cells → (ps : List ℕ) →
    AreBelow n ps → (ts : Trees) × AreTerms cells ps ts
terms_below cells n all le [] h = (none, tt)
terms_below cells n all le (p ∷ ps) h =
    let one = all p h.0 (omega (arith, h.0, le)) in
    let rest = terms_below cells n all le ps h.1 in
    (some one.0 rest.0, (one.1, rest.1))

term_below : (cells : List Cell) → IsBank cells → (n p : ℕ) → p < n → p < length cells → (t : Tree) × IsTerm cells p t
term_below cells bank zero p below lt = absurd (omega (arith, below))
term_below cells bank (suc n) p below lt =
    let c = some_there cells p lt in
    let all = terms_below cells p (λ q a b. term_below cells bank n q (omega (arith, a, below)) b)
    (omega (arith, lt)) c.0.args (bank.earlier p c.0.head c.0.args c.1) in
    (app c.0.head all.0, (c.0.args, c.1, all.1))

pub term_there : HasTerm
term_there cells p bank lt = term_below cells bank (suc p) p (omega arith) lt

pub same_cell : (cells : List Cell) (p f g : ℕ) (ps qs : List ℕ) → slice_get cells p ≡ Some (cell f ps) →
    slice_get cells p ≡ Some (cell g qs) → (f ≡ g) × (ps ≡ qs)
same_cell = same_entry

-- if a cell is added that refers to earlier ones, and each cell is there once, the cells are a bank
pub bank_added : (cells new now : List Cell) (f : ℕ) (ps : List ℕ) → cells ≡ now → IsBank cells →
    AreBelow (length now) ps → IsAdded cells new (cell f ps) → AreShared new →
    IsBank new × (length new < 2 ^ 32)
bank_added cells new now f ps view bank below added shared =
    (record { earlier = λ k g qs at. by k g qs at added; distinct = shared.distinct }, shared.few)
  where
    below' : AreBelow (length cells) ps
    below' = subst (λ cs. AreBelow (length cs) ps) (sym view) below

    by : (k g : ℕ) (qs : List ℕ) → slice_get new k ≡ Some (cell g qs) → IsAdded cells new (cell f ps) →
        AreBelow k qs
    by k g qs at (inl e) = bank.earlier k g qs (subst (λ cs. slice_get cs k ≡ Some (cell g qs)) e at)
    by k g qs at (inr e) =
        elim (at_end cells (cell f ps) (cell g qs) k (subst (λ cs. slice_get cs k ≡ Some (cell g qs)) e at)) [
          | inl a ↦ bank.earlier k g qs a
          | inr a ↦
              subst (λ n. AreBelow n qs) (sym a.0)
              (subst (λ xs. AreBelow (length cells) xs) (ap (λ (c : Cell). c.args) a.1) below')
        ]

-- the terms at two places are the same if and only if the places are
pub same_places : (cells : List Cell) (p q : ℕ) (s t : Tree) → IsBank cells → IsTerm cells p s →
    IsTerm cells q t → (p ≡ q) ↔ (s ≡ t)
same_places cells p q s t bank a b = (
  λ e. one_term_at cells q s t (subst (λ x. IsTerm cells x s) e a) b,
  λ e. one_place_of cells p q t bank (subst (λ x. IsTerm cells p x) e a) b,
)
