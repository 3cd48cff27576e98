-- What the rows that are opened at a constructor admit.
use Rattle.std.proofs.Common.{◌≡◌, ℕ, suc, ◌+◌, ◌<◌, get_or, drop, None, List, [], ◌∷◌, ◌++◌, Bool, true, false, cond}
use Rattle.std.proofs.Common.{Some, inl, inr, length, refl, ap, sym, ◌∙◌, subst, arith}
use Rattle.std.specs.Prelude.{◌==◌, replicate}
use Rattle.std.specs.List.{AllByRecursion}
use Rattle.std.specs.Borrow.{Bor}
use Rattle.std.proofs.lemmas.Bool.Decides.{nat_tests}
use Rattle.std.proofs.lemmas.List.{append_assoc}
use Rattle.term_core.specs.Tree.{Tree, Trees, var, app, none, some, trees_of, list_of}
use Rattle.term_core.specs.declared.ids.SortId.{SortId}
use Rattle.spec_core.specs.declared.records.SymInfo.{SymInfo}
use Rattle.spec_core.specs.Sig.{Sig, info_of}
use Rattle.coverage_check.specs.Admits.{SomeAdmits}
use Rattle.term_core.specs.References.{terms_of}
use Rattle.coverage_check.specs.Decisions.{IsOpening, HasSorts, IsPatternOf, ArePatternsOf}
use Rattle.coverage_check.specs.Opened.{opened_before, opened}
use Rattle.coverage_check.proofs.Walks.{at_item}
use Rattle.coverage_check.proofs.Joined.{admit_join, admit_split, variables_join, variables_split}
use Rattle.term_core.proofs.Trees.{list_of-trees_of}
use Rattle.term_core.proofs.SameTrees.{eqb_self}

pub test_same : (m n : ℕ) → (m == n) ≡ true → m ≡ n
test_same m n h = grind (arith, nat_tests)

-- values that begin with the constructor and that some row admits are admitted by some opened row
pub opened_admits : (c count : ℕ) (ts : Trees) (us : List Tree) (rows : List (List Tree)) →
    length (list_of ts) ≡ count → SomeAdmits rows (app c ts ∷ us) → SomeAdmits (opened c count rows) (list_of ts ++ us)
opened_admits c count ts us [] e a = absurd a
opened_admits c count ts us ([] ∷ rows) e (inl a) = absurd a
opened_admits c count ts us ([] ∷ rows) e (inr a) = opened_admits c count ts us rows e a
opened_admits c count ts us ((var n ∷ ps) ∷ rows) e (inl a) = inl (variables_join count ts ps us e a.1)
opened_admits c count ts us ((var n ∷ ps) ∷ rows) e (inr a) = inr (opened_admits c count ts us rows e a)
opened_admits c count ts us ((app f qs ∷ ps) ∷ rows) e (inl a) =
    let same : (f == c) ≡ true = rw a.0.0 (eqb_self c) in
    let here : SomeAdmits ((list_of qs ++ ps) ∷ opened c count rows) (list_of ts ++ us) = inl
    (admit_join qs ts ps us a.0.1 a.1) in
    subst (λ b. SomeAdmits (cond b ((list_of qs ++ ps) ∷ opened c count rows) (opened c count rows)) (list_of ts
    ++ us)) (sym same) here
opened_admits c count ts us ((app f qs ∷ ps) ∷ rows) e (inr a) = by (f == c) (opened_admits c count ts us rows e a)
  where
    by : (b : Bool) → SomeAdmits (opened c count rows) (list_of ts ++ us) →
        SomeAdmits (cond b ((list_of qs ++ ps) ∷ opened c count rows) (opened c count rows)) (list_of ts ++ us)
    by true h = inr h
    by false h = h

-- the opened row that the code makes of a row that begins with a variable
pub opened_variable : (c count : ℕ) (refs : List (Bor Tree)) (first : Bor Tree) (others : List (Bor Tree))
    (n : ℕ) (any : Tree) (blank made new all : List Tree) → refs ≡ first ∷ others → first.now ≡ var n →
    any ≡ var 0 → blank ≡ [] → new ≡ blank ++ replicate count any → made ≡ new → all ≡ made ++ terms_of others →
    (rows : List (List Tree)) → opened_before c count (terms_of refs) rows ≡ all ∷ rows
opened_variable c count refs first others n any blank made new all e v a z m w h rows =
    let row : terms_of refs ≡ var n ∷ terms_of others = ap (λ rs. terms_of rs) e ∙ ap (λ t. t ∷ terms_of others) v in
    let is : all ≡ replicate count (var 0) ++ terms_of others = h
    ∙ ap (λ ts. ts ++ terms_of others) (w ∙ m ∙ ap (λ ts. ts ++ replicate count any) z
    ∙ ap (λ t. replicate count t) a) in
    ap (λ r. opened_before c count r rows) row ∙ ap (λ r. r ∷ rows) (sym is)

-- and of one that begins with the constructor
pub opened_constructor : (c f count : ℕ) (refs : List (Bor Tree)) (first : Bor Tree) (others : List (Bor Tree))
    (args slice blank made new all : List Tree) → refs ≡ first ∷ others → first.now ≡ app f (trees_of args) →
    f ≡ c → blank ≡ [] → slice ≡ args → new ≡ blank ++ slice → made ≡ new → all ≡ made ++ terms_of others →
    (rows : List (List Tree)) → opened_before c count (terms_of refs) rows ≡ all ∷ rows
opened_constructor c f count refs first others args slice blank made new all e v q z s m w h rows =
    let row : terms_of refs ≡ app c (trees_of args) ∷ terms_of others = ap (λ rs. terms_of rs) e
    ∙ ap (λ t. t ∷ terms_of others) (v ∙ ap (λ k. app k (trees_of args)) q) in
    let is : all ≡ list_of (trees_of args) ++ terms_of others = h
    ∙ ap (λ ts. ts ++ terms_of others) (w ∙ m ∙ ap (λ ts. ts ++ slice) z ∙ s ∙ sym (list_of-trees_of args)) in
    let more = list_of (trees_of args) ++ terms_of others in
    ap (λ r. opened_before c count r rows) row ∙ ap (λ b. cond b (more ∷ rows) rows) (eqb_self c)
    ∙ ap (λ r. r ∷ rows) (sym is)

-- the opened rows so far with those to come, at a row that is opened or left out
module _ (c count : ℕ) (rows : List (List Tree)) (i : ℕ) (row slice : List Tree) (h : i < length rows)
    (is : row ≡ get_or rows i row) (same : slice ≡ row) (old new all : List (List Tree)) (kept : old
    ++ opened c count (drop i rows) ≡ all) where
  here : old ++ opened_before c count slice (opened c count (drop (i + 1) rows)) ≡ all
  here = ap (λ r. old ++ opened_before c count r (opened c count (drop (i + 1) rows))) same
      ∙ ap (λ rs. old ++ opened c count rs) (sym (at_item rows i row h is)) ∙ kept

  pub row_opened : (made : List Tree) → IsOpening c count slice (Some made) → new ≡ old ++ made ∷ [] →
      new ++ opened c count (drop (i + 1) rows) ≡ all
  row_opened made o n =
      let more = opened c count (drop (i + 1) rows) in
      ap (λ rs. rs ++ more) n ∙ append_assoc old (made ∷ []) more ∙ ap (λ rs. old ++ rs) (sym (o more)) ∙ here

  pub row_left : IsOpening c count slice None → old ++ opened c count (drop (i + 1) rows) ≡ all
  row_left o = ap (λ rs. old ++ rs) (sym (o (opened c count (drop (i + 1) rows)))) ∙ here

-- a row of variables admits as many terms, and so does the row with arguments before it
module _ (sig : Sig) where
  pub variables_sorts : (ss : List SortId) (ps : List Tree) (rs : List SortId) → HasSorts sig rs ps →
      HasSorts sig (ss ++ rs) (replicate (length ss) (var 0) ++ ps)
  variables_sorts [] ps rs h = h
  variables_sorts (s ∷ ss) ps rs h = (tt, variables_sorts ss ps rs h)

  pub patterns_join : (ts : Trees) (ss : List SortId) (ps : List Tree) (rs : List SortId) →
      ArePatternsOf sig ts ss → HasSorts sig rs ps → HasSorts sig (ss ++ rs) (list_of ts ++ ps)
  patterns_join none [] ps rs a h = h
  patterns_join none (s ∷ ss) ps rs a h = absurd a
  patterns_join (some t ts) [] ps rs a h = absurd a
  patterns_join (some t ts) (s ∷ ss) ps rs a h = (a.0, patterns_join ts ss ps rs a.1 h)

  pub pattern_length : (ts : Trees) (ss : List SortId) → ArePatternsOf sig ts ss → length (list_of ts) ≡ length ss
  pattern_length none [] a = refl
  pattern_length none (s ∷ ss) a = absurd a
  pattern_length (some t ts) [] a = absurd a
  pattern_length (some t ts) (s ∷ ss) a = ap suc (pattern_length ts ss a.1)

  -- the arguments of a pattern are patterns of the sorts that its symbol is declared with
  args_of : (f c : ℕ) (qs : Trees) (s : SortId) (i : SymInfo) → (f == c) ≡ true → info_of sig c ≡ Some i →
      IsPatternOf sig (app f qs) s → (f ≡ c) × ArePatternsOf sig qs i.args
  args_of f c qs s i e at h =
      let same : f ≡ c = test_same f c e in
      let k : Some h.1.0 ≡ Some i = sym h.1.1 ∙ ap (λ g. info_of sig g) same ∙ at in
      let j : h.1.0 ≡ i = cc in
      (same, subst (λ (x : SymInfo). ArePatternsOf sig qs x.args) j h.1.3)

  module _ (c : ℕ) (i : SymInfo) (at : info_of sig c ≡ Some i) (s : SortId) (ss : List SortId) where
    -- opened rows have patterns of the argument sorts and the other sorts
    pub opened_sorts : (rows : List (List Tree)) → AllByRecursion (HasSorts sig (s ∷ ss)) rows →
        AllByRecursion (HasSorts sig (i.args ++ ss)) (opened c (length i.args) rows)
    opened_sorts [] h = tt
    opened_sorts ([] ∷ rows) h = absurd h.0
    opened_sorts ((var n ∷ ps) ∷ rows) h = (variables_sorts i.args ps ss h.0.1, opened_sorts rows h.1)
    opened_sorts ((app f qs ∷ ps) ∷ rows) h = by (f == c) refl (opened_sorts rows h.1)
      where
        by : (b : Bool) → (f == c) ≡ b →
            AllByRecursion (HasSorts sig (i.args ++ ss)) (opened c (length i.args) rows) →
            AllByRecursion (HasSorts sig (i.args ++ ss))
            (cond b ((list_of qs ++ ps) ∷ opened c (length i.args) rows) (opened c (length i.args) rows))
        by true e more = (patterns_join qs i.args ps ss (args_of f c qs s i e at h.0.0).1 h.0.1, more)
        by false e more = more

    -- what some opened row admits is admitted under the constructor
    pub admits_opened : (ts : Trees) (us : List Tree) (rows : List (List Tree)) →
        AllByRecursion (HasSorts sig (s ∷ ss)) rows → length (list_of ts) ≡ length i.args →
        SomeAdmits (opened c (length i.args) rows) (list_of ts ++ us) → SomeAdmits rows (app c ts ∷ us)
    admits_opened ts us [] h n a = absurd a
    admits_opened ts us ([] ∷ rows) h n a = absurd h.0
    admits_opened ts us ((var m ∷ ps) ∷ rows) h n (inl a) = inl (tt, variables_split (length i.args) ts ps us n a)
    admits_opened ts us ((var m ∷ ps) ∷ rows) h n (inr a) = inr (admits_opened ts us rows h.1 n a)
    admits_opened ts us ((app f qs ∷ ps) ∷ rows) h n a = by (f == c) refl (λ x. admits_opened ts us rows h.1 n x) a
      where
        by : (b : Bool) → (f == c) ≡ b → (SomeAdmits (opened c (length i.args) rows) (list_of ts ++ us) →
            SomeAdmits rows (app c ts ∷ us)) →
            SomeAdmits (cond b ((list_of qs ++ ps) ∷ opened c (length i.args) rows)
            (opened c (length i.args) rows)) (list_of ts ++ us) → SomeAdmits ((app f qs ∷ ps) ∷ rows) (app c ts ∷ us)
        by true e more (inl x) =
            let p = args_of f c qs s i e at h.0.0 in
            let r = admit_split qs ts ps us (pattern_length qs i.args p.1 ∙ sym n) x in
            inl ((p.0, r.0), r.1)
        by true e more (inr x) = inr (more x)
        by false e more x = inr (more x)
