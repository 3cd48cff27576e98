-- A walk over a term keeps the variables that are known, with their sorts, and puts others after them.
use Rattle.std.proofs.Common.{◌≡◌, ℕ, zero, suc, List, [], ◌∷◌, ◌++◌, Option, Some, None, inl, inr, refl, ap, sym, ◌∙◌}
use Rattle.std.proofs.Common.{position, append_assoc, set, get_or-set_other}
use Rattle.std.specs.Str.{bytes_eq}
use Rattle.std.proofs.lemmas.List.{append-nil, map-append, map-set}
use Rattle.std.proofs.Math.Seq.{map-set_same}
use Rattle.term_core.specs.Tree.{Tree, Trees, var, app, none, some}
use Rattle.term_core.specs.declared.ids.SortId.{SortId}
use Rattle.spec_core.specs.Sig.{Sig}
use Rattle.spec_core.proofs.Names.{position-map}
use Rattle.spec_grammar.specs.RawTree.{RawTree, RawTrees, word, none as no_raws, some as more_raws}
use Rattle.sort_check.specs.Entries.{entry_named, entry_names, known_sorts, sort_at, sort_so_far, given, with_variable}
use Rattle.sort_check.specs.Words.{symbol_named, info_at, after_word, entries_after, entries_after_all}
use Rattle.sort_check.specs.Over.{IsOver, AreOver}
use Rattle.sort_check.specs.declared.entries.Entry.{Entry}
use Rattle.sort_check.proofs.Places.{position_stays}
use Rattle.term_core.proofs.Numbers.{same_or_not}

-- the names of the second are those of the first and others after them
abbrev pub KeepsNames : List Entry → List Entry → Type 0
KeepsNames es fs = (more : List (List ℕ)) × (entry_names fs ≡ entry_names es ++ more)

pub extends_self : (es : List Entry) → KeepsNames es es
extends_self es = ([], sym (append-nil (entry_names es)))

pub extends_both : (es fs gs : List Entry) → KeepsNames es fs → KeepsNames fs gs → KeepsNames es gs
extends_both es fs gs a b = (a.0 ++ b.0, b.1 ∙ ap (λ ns. ns ++ b.0) a.1 ∙ append_assoc (entry_names es) a.0 b.0)

-- the sorts that the first knows are those that the second knows of these variables
abbrev pub Keeps : List Entry → List Entry → Type 0
Keeps es fs = (n : ℕ) (s : SortId) → sort_so_far es n ≡ Some s → sort_so_far fs n ≡ Some s

pub given_names : (es : List Entry) (n : ℕ) (place known : Option SortId) →
    entry_names (given es n place known) ≡ entry_names es
given_names es n place (Some s) = refl
given_names es n None None = refl
given_names es n (Some s) None = map-set_same (λ (e : Entry). e.name) es n _ _ refl

pub variable_extends : (es : List Entry) (name : List ℕ) (at : ℕ) (place : Option SortId) (o : Option ℕ) →
    KeepsNames es (with_variable es name at place o)
variable_extends es name at place (Some n) = (
  [],
  given_names es n place (sort_so_far es n)
      ∙ sym (append-nil (entry_names es)),
)
variable_extends es name at place None = (
  name ∷ [],
  map-append (λ (e : Entry). e.name) es (record { name = name; at = at; sort = place } ∷ []),
)

set_keeps : (ks : List (Option SortId)) (m : ℕ) (u : SortId) → sort_at ks m ≡ None → (n : ℕ) (s : SortId) →
    sort_at ks n ≡ Some s → sort_at (set ks m (Some u)) n ≡ Some s
set_keeps ks m u unknown n s e = elim (same_or_not n m) [
  | inl q ↦ absurd (let z : None ≡ Some s = sym unknown ∙ ap (λ k. sort_at ks k) (sym q) ∙ e in cc)
  | inr q ↦ get_or-set_other ks m n (Some u) None q ∙ e
]

given_keeps : (es : List Entry) (n : ℕ) (place known : Option SortId) → sort_so_far es n ≡ known →
    Keeps es (given es n place known)
given_keeps es n place (Some s) k m u e = e
given_keeps es n None None k m u e = e
given_keeps es n (Some s) None k m u e = ap (λ ks. sort_at ks m) (map-set (λ (e : Entry). e.sort) es n _)
    ∙ set_keeps (known_sorts es) n s k m u e

append_keeps : (es : List Entry) (e : Entry) → Keeps es (es ++ e ∷ [])
append_keeps [] e n s h = absurd (let z : None ≡ Some s = h in cc)
append_keeps (f ∷ es) e zero s h = h
append_keeps (f ∷ es) e (suc n) s h = append_keeps es e n s h

pub variable_keeps : (es : List Entry) (name : List ℕ) (at : ℕ) (place : Option SortId) (o : Option ℕ) →
    Keeps es (with_variable es name at place o)
variable_keeps es name at place (Some n) = given_keeps es n place (sort_so_far es n) refl
variable_keeps es name at place None = append_keeps es (record { name = name; at = at; sort = place })

-- a variable keeps its number
pub named_stays : (es fs : List Entry) (name : List ℕ) (n : ℕ) → KeepsNames es fs →
    entry_named es name ≡ Some n → entry_named fs name ≡ Some n
named_stays es fs name n x e =
    let f : (gs : List Entry) → position (bytes_eq name) (entry_names gs) ≡ entry_named gs name = λ gs.
    position-map (bytes_eq name) (λ (e : Entry). e.name) gs in
    sym (f fs) ∙ ap (λ ns. position (bytes_eq name) ns) x.1 ∙ position_stays (bytes_eq name) (entry_names es)
    x.0 n (f es ∙ e)

module _ (sig : Sig) where
  -- what holds of the variables after a word
  pub word_has : (P : List Entry → Type 0) (es : List Entry) (name : List ℕ) (at : ℕ) (place : Option SortId)
      (after : ℕ → List Entry) → ((f : ℕ) → P (after f)) →
      P (with_variable es name at place (entry_named es name)) → (o : Option ℕ) →
      P (after_word sig es name at place after o)
  word_has P es name at place after h v (Some f) = h f
  word_has P es name at place after h v None = v

  mutual
    pub extends : (es : List Entry) (r : RawTree) (place : Option SortId) → KeepsNames es (entries_after sig es r place)
    extends es (word name at args) place = word_has (λ fs. KeepsNames es fs) es name at place
        (λ f. entries_after_all sig es args (info_at sig f).args)
        (λ f. extends_all es args (info_at sig f).args)
        (variable_extends es name at place (entry_named es name)) (symbol_named sig name)

    pub extends_all : (es : List Entry) (rs : RawTrees) (ss : List SortId) →
        KeepsNames es (entries_after_all sig es rs ss)
    extends_all es no_raws ss = extends_self es
    extends_all es (more_raws r rs) [] = extends_self es
    extends_all es (more_raws r rs) (s ∷ ss) = extends_both es (entries_after sig es r (Some s))
        (entries_after_all sig (entries_after sig es r (Some s)) rs ss) (extends es r (Some s))
        (extends_all (entries_after sig es r (Some s)) rs ss)

  mutual
    pub keeps : (es : List Entry) (r : RawTree) (place : Option SortId) → Keeps es (entries_after sig es r place)
    keeps es (word name at args) place = word_has (λ fs. Keeps es fs) es name at place
        (λ f. entries_after_all sig es args (info_at sig f).args) (λ f. keeps_all es args (info_at sig f).args)
        (variable_keeps es name at place (entry_named es name)) (symbol_named sig name)

    pub keeps_all : (es : List Entry) (rs : RawTrees) (ss : List SortId) → Keeps es (entries_after_all sig es rs ss)
    keeps_all es no_raws ss n s h = h
    keeps_all es (more_raws r rs) [] n s h = h
    keeps_all es (more_raws r rs) (s ∷ ss) n u h = keeps_all (entries_after sig es r (Some s)) rs ss n u
        (keeps es r (Some s) n u h)

  -- a term over the variables is one over more of them
  mutual
    pub over_more : (es fs : List Entry) (r : RawTree) (t : Tree) → KeepsNames es fs → IsOver sig es r t →
        IsOver sig fs r t
    over_more es fs (word name at args) (var n) x h = (h.0, h.1, named_stays es fs name n x h.2)
    over_more es fs (word name at args) (app f ts) x h = (h.0, over_more_all es fs args ts x h.1)

    pub over_more_all : (es fs : List Entry) (rs : RawTrees) (ts : Trees) → KeepsNames es fs →
        AreOver sig es rs ts → AreOver sig fs rs ts
    over_more_all es fs no_raws none x h = tt
    over_more_all es fs (more_raws r rs) (some t ts) x h = (over_more es fs r t x h.0, over_more_all es fs rs ts x h.1)
    over_more_all es fs no_raws (some t ts) x h = absurd h
    over_more_all es fs (more_raws r rs) none x h = absurd h
